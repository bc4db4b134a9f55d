-- Histories that can't be told apart by what they show, nor by the verdicts on an operation.
use Rattle.std.specs.Prelude.{◌≡◌, ℕ, true, false, List, Contains, ◌↔◌}
use Rattle.op_name.specs.NameData.{NameData}
use Rattle.op_name.specs.declared.member.Member.{Member}
use Rattle.context_vector.specs.Contexts.{has}
use Rattle.context_diff.specs.Operations.{OpData, member_of, context_of, is_original}
use Rattle.context_diff.specs.Histories.{is_known, generation_in, context_of_all, CoversSite, cells_in, all_cells}
use Rattle.context_diff.specs.Replays.{Cell, replay_of, is_shown, shown, character_in, characters_of, text_of}
use Rattle.fixed_replay.specs.Replayed.{IsDeleter}

-- the same members, cells of the replay with the same deletes of each, shown cells, characters and text. Contexts and places of
-- operations play no part, nor does the order in which the two have them
pub record AreAlike (h k : List OpData) : Type 0 where
  pub members : (m : Member) → is_known h m ≡ is_known k m
  pub context : context_of_all h ≡ context_of_all k
  pub generations : (t : NameData) → generation_in h t ≡ generation_in k t
  pub count : all_cells h ≡ all_cells k
  pub cells : replay_of h ≡ replay_of k
  pub deleters : (c : Cell) (n : NameData) → IsDeleter h c n ↔ IsDeleter k c n
  pub is_shown : (c : Cell) → is_shown h c ≡ is_shown k c
  pub shown : shown h ≡ shown k
  pub character : (c : Cell) → character_in h c ≡ character_in k c
  pub characters : characters_of h ≡ characters_of k
  pub text : text_of h ≡ text_of k

-- the operation isn't one of the history; and if it is an original, it was made after all of it
pub record IsMadeAfter (h : List OpData) (o : OpData) : Type 0 where
  pub new : is_known h (member_of o) ≡ false
  pub covers : is_original o ≡ true → (m : Member) → is_known h m ≡ true → has (context_of o) m ≡ true

-- each of these operations was made so
abbrev pub AreMadeAfter : List OpData → List OpData → Type 0
AreMadeAfter h l = (o : OpData) → Contains l o → IsMadeAfter h o

-- what a verdict on the operation asks of a history: which members it has, at which generation each name is, and which operations
-- have this member; and for an original, which sites its context covers and how many cells that has
pub record AreJudgedAlike (h k : List OpData) (o : OpData) : Type 0 where
  pub members : (m : Member) → is_known h m ≡ is_known k m
  pub generations : (t : NameData) → generation_in h t ≡ generation_in k t
  pub holders : (p : OpData) → member_of p ≡ member_of o → Contains h p ↔ Contains k p
  pub covered : is_original o ≡ true → (s : ℕ) → CoversSite h (context_of o) s ↔ CoversSite k (context_of o) s
  pub cells : is_original o ≡ true → cells_in h (context_of o) ≡ cells_in k (context_of o)
