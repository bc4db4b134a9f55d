-- How far a message was judged.
use Rattle.std.specs.Prelude.{◌≡◌, ℕ, ◌<◌, ◌≤◌, ◌^◌, List, ◌++◌, length, drop}
use Rattle.wire_codec.proofs.CallerLemmas.{IsBytes}
use Rattle.peer_exchange.specs.declared.messages.Which.{Which}
use Rattle.peer_exchange.specs.declared.stages.Place.{Place}
use Rattle.peer_exchange.specs.declared.stages.Piece.{Piece}
use Rattle.peer_exchange.specs.declared.stages.Piece.TheVariants as part
use Rattle.peer_exchange.specs.declared.stages.Judged.{Judged}
use Rattle.peer_exchange.specs.declared.stages.Judged.TheVariants.{On, Says}
use Rattle.peer_exchange.specs.Measuring.{measured, measure_of}

-- from the later place the bytes, however they go on, say what they say from the earlier one
pub record GoesOn (bytes : List ℕ) (from to : Place) : Type 0 where
  pub within : to.at ≤ length bytes
  pub says : (tail : List ℕ) → IsBytes (bytes ++ tail)
      → measured from.stage from.at (drop from.at (bytes ++ tail)) ≡ measured to.stage to.at (drop to.at (bytes ++ tail))

-- the same from the front of the message
pub record Stands (which : Which) (bytes : List ℕ) (place : Place) : Type 0 where
  pub within : place.at ≤ length bytes
  pub says : (tail : List ℕ) → IsBytes (bytes ++ tail)
      → measure_of which (bytes ++ tail) ≡ measured place.stage place.at (drop place.at (bytes ++ tail))

-- a part lies within so many bytes, or asks for no more than the largest state has
abbrev pub Fits : ℕ → Piece → Type 0
Fits n (part.Got next used) = used ≤ n
Fits n (part.Whole used) = used ≤ n
Fits n (part.More k) = k < 2 ^ 36
Fits n (part.Bad offset cause) = offset ≤ n

-- the place after the part, or what the bytes say from the place on
abbrev pub IsJudged : List ℕ → Place → Judged → Type 0
IsJudged bytes place (On next) = GoesOn bytes place next × (place.at < next.at)
IsJudged bytes place (Says m) = m ≡ measured place.stage place.at (drop place.at bytes)
