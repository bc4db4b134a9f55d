-- The checkpoint of a history has a spelling.
use Rattle.std.proofs.Common.{ℕ, ◌+◌, ◌<◌, ◌≤◌, ◌^◌, List, [], ◌∷◌, length, arith}
use Rattle.context_vector.specs.Contexts.{ContextData, empty}
use Rattle.context_diff.specs.Operations.{OpData, inserting, deleting, undoing}
use Rattle.context_diff.specs.Histories.{context_of_all}
use Rattle.context_diff.specs.declared.op.TheConstants.{UNDO_ENTRIES}
use Rattle.ttf_form.specs.declared.form.Form.{Form}
use Rattle.flat_history.specs.Checkpoints.{Placed, inserted, deleted, IsCheckpoint, ArePlaced, with_placed, cells_of}
use Rattle.flat_history.specs.Flat.{placed_in, checkpoint_of}
use Rattle.checkpoint_codec.specs.Spelled.{AreOriginals, IsSpelled, sum_of}
use Rattle.checkpoint_codec.specs.declared.undone.TheConstants.{GROUPS}

-- whatever the cells before each
placed_originals : (c : ContextData) (k : ℕ) (es : List Placed) → ArePlaced c k es → AreOriginals c es
placed_originals c k [] h = tt
placed_originals c k (inserted n p text ∷ es) h =
    ((h.0.0, h.0.1, h.0.3, h.0.2), placed_originals (with_placed c (inserted n p text)) (k + cells_of (inserted n p text)) es h.1)
placed_originals c k (deleted n p ∷ es) h =
    ((h.0.0, h.0.1, h.0.2), placed_originals (with_placed c (deleted n p)) (k + cells_of (deleted n p)) es h.1)

-- no more originals than operations
placed_few : (os : List OpData) (fs : List Form) → length (placed_in os fs) ≤ length os
placed_few [] fs = omega arith
placed_few (o ∷ os) [] = omega arith
placed_few (inserting n p text c ∷ os) (f ∷ fs) = let rest = placed_few os fs in omega (arith, rest)
placed_few (deleting n p c ∷ os) (f ∷ fs) = let rest = placed_few os fs in omega (arith, rest)
placed_few (undoing a t g c ∷ os) (f ∷ fs) = let rest = placed_few os fs in omega (arith, rest)

pub history_spelled : (h : List OpData) (fs : List Form) → IsCheckpoint (checkpoint_of h fs) → length h < 2 ^ 32
    → length (context_of_all h).entries ≤ UNDO_ENTRIES → sum_of (context_of_all h).entries ≤ GROUPS → IsSpelled (checkpoint_of h fs)
history_spelled h fs is long few sum = record {
  few = (let less = placed_few h fs in omega (arith, less, long));
  originals = placed_originals empty 0 (placed_in h fs) is.originals;
  names = few;
  undone = is.undone;
  known = is.known;
  groups = sum;
}
