-- The three messages of an exchange, as the histories of the two sites give them.
use Rattle.std.specs.Prelude.{◌≡◌, ℕ, List, [], ◌∷◌, ◌++◌, length}
use Rattle.std.specs.List.{flat_map}
use Rattle.context_vector.specs.Contexts.{ContextData, has}
use Rattle.context_diff.specs.Operations.{OpData}
use Rattle.context_diff.specs.Histories.{context_of_all}
use Rattle.cot_site.specs.Sites.{AllFormed}
use Rattle.wire_codec.specs.declared.version.Version.TheVariants.{Two}
use Rattle.wire_codec.specs.Spelling.{frame}
use Rattle.wire_codec.specs.States.{IsState, state_bytes}
use Rattle.peer_exchange.specs.Joins.{unseen}
use Rattle.peer_exchange.specs.Measuring.{head}

-- the four zero bytes after the last frame
abbrev pub end_mark : List ℕ
end_mark = 0 ∷ 0 ∷ 0 ∷ 0 ∷ []

-- the frames of these operations whose members the state lacks, in their order
abbrev pub lacked_frames : ContextData → List OpData → List ℕ
lacked_frames state os = flat_map (frame Two) (unseen (has state) os)

-- the message that tells a state
abbrev pub telling : ContextData → List ℕ
telling state = head ++ state_bytes state

-- First: the joiner tells what it has
abbrev pub first_message : List OpData → List ℕ
first_message h = telling (context_of_all h)

-- Third: the joiner sends what the server's state lacks
abbrev pub third_message : List OpData → ContextData → List ℕ
third_message h state = lacked_frames state h ++ end_mark

-- Second: the server tells what it has, and sends what the joiner's state lacks
abbrev pub second_message : List OpData → ContextData → List ℕ
second_message h state = first_message h ++ third_message h state

-- the bytes are the first message that tells this state
pub record IsFirst (bytes : List ℕ) (state : ContextData) : Type 0 where
  pub is : IsState state
  pub parts : bytes ≡ telling state

-- the bytes are the second message that tells this state and has the frames of these operations
pub record IsSecond (bytes : List ℕ) (state : ContextData) (os : List OpData) : Type 0 where
  pub is : IsState state
  pub formed : AllFormed os
  pub parts : bytes ≡ telling state ++ (flat_map (frame Two) os ++ end_mark)

-- the bytes are the third message that has the frames of these operations
pub record IsThird (bytes : List ℕ) (os : List OpData) : Type 0 where
  pub formed : AllFormed os
  pub parts : bytes ≡ flat_map (frame Two) os ++ end_mark

-- the second message for the state that the first one tells is appended, and has so many frames
pub record IsAnswered (h : List OpData) (first before now : List ℕ) (count : ℕ) : Type 0 where
  pub state : ContextData
  pub told : IsFirst first state
  pub appended : now ≡ before ++ second_message h state
  pub frames : count ≡ length (unseen (has state) h)
