-- Why a log or a message isn't taken, as a host is told: a status, and a verdict that says where.
use Rattle.std.specs.Prelude.{◌≡◌, ℕ, List}
use Rattle.session_log.specs.declared.log_bad.LogBad.{LogBad}
use Rattle.session_log.specs.declared.log_bad.LogBad.TheVariants as log
use Rattle.session_log.specs.Loadings.{IsUnloaded}
use Rattle.peer_exchange.specs.declared.messages.PeerCause.{PeerCause}
use Rattle.peer_exchange.specs.declared.messages.PeerCause.TheVariants as cause
use Rattle.peer_exchange.specs.declared.peer.Peer.{Peer}
use Rattle.peer_exchange.specs.declared.peer.Peer.TheVariants as peer
use Rattle.cotpad_c.specs.declared.status.TheConstants.{NO_MEMORY, TOO_LONG, NO_HEAD, CUT, MALFORMED, EXTRA, REFUSED}
use Rattle.cotpad_c.specs.declared.verdict.CotpadVerdict.{CotpadVerdict}
use Rattle.cotpad_c.specs.Verdicts.{malformed, at_offset, unfit}

-- ---- logs

abbrev pub log_status : LogBad → ℕ
log_status log.Header = NO_HEAD
log_status (log.Cut offset) = CUT
log_status (log.Bad offset why) = MALFORMED
log_status (log.Refused offset member verdict) = REFUSED
log_status log.Memory = NO_MEMORY

-- the verdict that was there stays where there was no memory
abbrev pub log_told : CotpadVerdict → LogBad → CotpadVerdict
log_told old log.Header = at_offset 0
log_told old (log.Cut offset) = at_offset offset
log_told old (log.Bad offset why) = malformed why offset
log_told old (log.Refused offset member verdict) = unfit member verdict offset
log_told old log.Memory = old

-- no site of this number is made of these bytes, and this is the status and the verdict of the reason
pub record IsLogRefused (site : ℕ) (bytes : List ℕ) (n : ℕ) (old new : CotpadVerdict) : Type 0 where
  pub why : LogBad
  pub is : IsUnloaded site bytes why
  pub status : n ≡ log_status why
  pub told : new ≡ log_told old why

-- ---- messages

abbrev pub bytes_status : PeerCause → ℕ
bytes_status cause.Head = NO_HEAD
bytes_status (cause.Frame why) = MALFORMED
bytes_status cause.Cut = CUT
bytes_status cause.Extra = EXTRA
bytes_status cause.Limit = TOO_LONG

abbrev pub peer_status : Peer → ℕ
peer_status (peer.Bytes offset why) = bytes_status why
peer_status (peer.Op member verdict) = REFUSED
peer_status peer.Memory = NO_MEMORY

abbrev pub bytes_told : ℕ → PeerCause → CotpadVerdict
bytes_told offset cause.Head = at_offset offset
bytes_told offset (cause.Frame why) = malformed why offset
bytes_told offset cause.Cut = at_offset offset
bytes_told offset cause.Extra = at_offset offset
bytes_told offset cause.Limit = at_offset offset

-- the verdict that was there stays where there was no memory
abbrev pub peer_told : CotpadVerdict → Peer → CotpadVerdict
peer_told old (peer.Bytes offset why) = bytes_told offset why
peer_told old (peer.Op member verdict) = unfit member verdict 0
peer_told old peer.Memory = old

-- a message isn't taken for a reason of which this holds, and this is the status and the verdict of the reason
pub record IsRefused (Holds : Peer → Type 0) (n : ℕ) (old new : CotpadVerdict) : Type 0 where
  pub why : Peer
  pub is : Holds why
  pub status : n ≡ peer_status why
  pub told : new ≡ peer_told old why
