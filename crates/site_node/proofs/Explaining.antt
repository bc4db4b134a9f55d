-- What the answer to a message says of its bytes.
use Rattle.std.proofs.Common.{◌≡◌, ℕ, List, length, refl, sym, ◌∙◌, subst}
use Rattle.std.specs.Prelude.{◌≢◌}
use Rattle.op_name.specs.declared.member.Member.{Member}
use Rattle.site_answers.specs.declared.verdict.Verdict.{Verdict}
use Rattle.peer_exchange.specs.declared.messages.Which.{Which}
use Rattle.peer_exchange.specs.declared.messages.PeerCause.{PeerCause}
use Rattle.peer_exchange.specs.declared.messages.PeerCause.TheVariants.{Head, Frame, Cut, Extra, Limit}
use Rattle.peer_exchange.specs.declared.messages.Measure.{Measure}
use Rattle.peer_exchange.specs.declared.messages.Measure.TheVariants as message
use Rattle.peer_exchange.specs.declared.peer.Peer.{Peer}
use Rattle.peer_exchange.specs.declared.peer.Peer.TheVariants as refused
use Rattle.peer_exchange.specs.Measuring.{measure_of}
use Rattle.peer_exchange.specs.Refusals.{IsWhole, IsUnread, Spoils}
use Rattle.peer_exchange.proofs.CallerLemmas.{IsInside, bad_inside}
use Rattle.site_node.specs.declared.node.Node.{Node}
use Rattle.site_node.specs.declared.node.Node.TheVariants as node
use Rattle.site_node.specs.Pairs.{IsUnspoilt}
use Rattle.site_node.specs.Stops.{node_of, IsSpoilt}

-- a fault of the bytes themselves
pub bad_spoils : (which : Which) (bytes : List ℕ) (offset : ℕ) (why : PeerCause) → measure_of which bytes ≡ message.Bad offset why
    → IsSpoilt which bytes offset why
bad_spoils which bytes offset Head e = e
bad_spoils which bytes offset (Frame cause) e = e
bad_spoils which bytes offset Cut e = absurd (bad_inside which bytes offset Cut e)
bad_spoils which bytes offset Extra e = absurd (bad_inside which bytes offset Extra e)
bad_spoils which bytes offset Limit e = absurd (bad_inside which bytes offset Limit e)

-- a whole message has no fault
pub whole_unspoilt : (which : Which) (bytes : List ℕ) (offset : ℕ) (cause : PeerCause) → IsWhole which bytes
    → Spoils (length bytes) (measure_of which bytes) offset cause → ⊥
whole_unspoilt which bytes offset cause whole spoils =
    let none = subst (λ (m : Measure). Spoils (length bytes) m offset cause) whole spoils in
    none.0 refl

-- so one that isn't read is one for which there was no memory
pub unread_memory : (which : Which) (bytes : List ℕ) (why : Peer) → IsWhole which bytes → IsUnread which bytes why → why ≡ refused.Memory
unread_memory which bytes (refused.Bytes offset cause) whole unread = absurd (whole_unspoilt which bytes offset cause whole unread)
unread_memory which bytes (refused.Op member verdict) whole unread = absurd unread
unread_memory which bytes refused.Memory whole unread = refl

-- a refusal is no failure of the wire
pub no_link : (why : Peer) → node_of why ≡ node.Link → ⊥
no_link (refused.Bytes offset cause) e = cc
no_link (refused.Op member verdict) e = cc
no_link refused.Memory e = cc

-- a fault of the bytes themselves isn't that they end too early
pub never_cut : (which : Which) (bytes : List ℕ) (offset at : ℕ) (cause : PeerCause) (why : Node)
    → measure_of which bytes ≡ message.Bad offset cause → why ≡ node.Peer (refused.Bytes offset cause)
    → why ≡ node.Peer (refused.Bytes at Cut) → ⊥
never_cut which bytes offset at cause why bad is cut =
    let both : ◌≡◌ {A = Node} (node.Peer (refused.Bytes offset cause)) (node.Peer (refused.Bytes at Cut)) = sym is ∙ cut in
    let same : cause ≡ Cut = cc in
    subst IsInside same (bad_inside which bytes offset cause bad)

-- where no bytes were at fault and no operation was refused, all that is left of a refusal is that a message has too many bytes
pub only_limit : (why : Node) (refusal : Peer) → IsUnspoilt why
    → ((member : Member) (verdict : Verdict) → why ≢ node.Peer (refused.Op member verdict)) → why ≡ node.Peer refusal
    → (offset : ℕ) × (refusal ≡ refused.Bytes offset Limit)
only_limit why (refused.Bytes offset Head) unspoilt none is = absurd (subst IsUnspoilt is unspoilt)
only_limit why (refused.Bytes offset (Frame cause)) unspoilt none is = absurd (subst IsUnspoilt is unspoilt)
only_limit why (refused.Bytes offset Cut) unspoilt none is = absurd (subst IsUnspoilt is unspoilt)
only_limit why (refused.Bytes offset Extra) unspoilt none is = absurd (subst IsUnspoilt is unspoilt)
only_limit why (refused.Bytes offset Limit) unspoilt none is = (offset, refl)
only_limit why (refused.Op member verdict) unspoilt none is = absurd (none member verdict is)
only_limit why refused.Memory unspoilt none is = absurd (subst IsUnspoilt is unspoilt)
