-- Flat: a history as its checkpoint tells it.
use Rattle.std.specs.Prelude.{List, [], ◌∷◌}
use Rattle.context_diff.specs.Operations.{OpData, inserting, deleting, undoing}
use Rattle.context_diff.specs.Histories.{members_in, context_of_all}
use Rattle.ttf_form.specs.declared.form.Form.{Form}
use Rattle.ttf_form.specs.Forms.{form_over, place_of}
use Rattle.transform_rec.specs.Sets.{none}
use Rattle.transform_rec.specs.Executing.{AreFormsFrom}
use Rattle.transform_rec.specs.Histories.{family_in}
use Rattle.undo_group.specs.BaseForms.{base_form}
use Rattle.flat_history.specs.Checkpoints.{Placed, inserted, deleted, Checkpoint, history_of}

-- the forms in which the operations of a history are executed: each is a derived form at the members before it. A valid history has
-- one such list
abbrev pub AreExecutedForms : List OpData → List Form → Type 0
AreExecutedForms h fs = AreFormsFrom form_over (family_in h (base_form h)) none (members_in h) fs

-- the originals of a history in order, each at the place of the form in which it was executed
abbrev pub placed_in : List OpData → List Form → List Placed
placed_in [] fs = []
placed_in (o ∷ os) [] = []
placed_in (inserting n p text c ∷ os) (f ∷ fs) = inserted n (place_of f) text ∷ placed_in os fs
placed_in (deleting n p c ∷ os) (f ∷ fs) = deleted n (place_of f) ∷ placed_in os fs
placed_in (undoing a t g c ∷ os) (f ∷ fs) = placed_in os fs

-- the checkpoint of a history with its executed forms. The undo entries of the history's members as a context are the undone names,
-- rising, each at its greatest generation
abbrev pub checkpoint_of : List OpData → List Form → Checkpoint
checkpoint_of h fs = record { originals = placed_in h fs; undone = (context_of_all h).entries }

-- Flat: the originals in order, each at its executed place and with all originals before it as context; then, for each undone name
-- in order, its undos by author 0 from generation 1 to the greatest
abbrev pub flat_of : List OpData → List Form → List OpData
flat_of h fs = history_of (checkpoint_of h fs)
