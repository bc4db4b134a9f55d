-- The line that says why what a peer sent is refused.
use Rattle.std.specs.Prelude.{ℕ, List, [], ◌++◌, codes, decimal}
use Rattle.wire_codec.specs.Causes.{cause_word}
use Rattle.site_answers.specs.Words.{verdict_text}
use Rattle.peer_exchange.specs.declared.messages.PeerCause.{PeerCause}
use Rattle.peer_exchange.specs.declared.messages.PeerCause.TheVariants.{Head, Frame, Cut, Extra, Limit}
use Rattle.peer_exchange.specs.declared.peer.Peer.{Peer}
use Rattle.peer_exchange.specs.declared.peer.Peer.TheVariants.{Bytes, Op, Memory}

-- why bytes aren't a message, in a word
abbrev pub peer_cause_word : PeerCause → List ℕ
peer_cause_word Head = codes "head"
peer_cause_word (Frame cause) = cause_word cause
peer_cause_word Cut = codes "cut"
peer_cause_word Extra = codes "extra"
peer_cause_word Limit = codes "limit"

-- why what a peer sent is refused, in words; out of memory is no reason to print
abbrev pub peer_words : Peer → List ℕ
peer_words (Bytes offset cause) = codes "bytes " ++ (decimal offset ++ (codes " " ++ peer_cause_word cause))
peer_words (Op member verdict) = codes "op " ++ verdict_text member verdict
peer_words Memory = []

-- `refused peer WORDS` and a line feed
abbrev pub refused_peer_text : Peer → List ℕ
refused_peer_text why = codes "refused peer " ++ (peer_words why ++ codes "\n")
