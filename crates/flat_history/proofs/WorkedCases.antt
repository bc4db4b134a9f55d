-- Small sessions, their checkpoints, and the histories that these are opened as, worked out by hand. Characters are given by their codes.
use Rattle.std.proofs.Common.{◌≡◌, ℕ, List, [], ◌∷◌, refl}
use Rattle.context_diff.specs.Operations.{OpData, inserting, deleting, undoing}
use Rattle.context_diff.specs.Gaps.{until, onward, through, beyond, gap}
use Rattle.context_diff.specs.Replays.{Cell, put_by, sort_by, narrowed, replay, stands_at, replay_of, characters_of}
use Rattle.context_diff.proofs.CallerLemmas.{name, after, after_undos}
use Rattle.ttf_form.specs.declared.form.Form.{Form}
use Rattle.ttf_form.specs.Forms.{form_over}
use Rattle.ttf_form.specs.Places.{over_place, cover_place}
use Rattle.undo_group.specs.BaseForms.{form_of, group_form}
use Rattle.flat_history.specs.Checkpoints.{Checkpoint, inserted, deleted, history_of}
use Rattle.flat_history.specs.Flat.{checkpoint_of, flat_of}

-- a cell of an insert of one character
abbrev cell : ℕ → ℕ → Cell
cell site number = (name site number, 0)

-- ---- one site types `ab`

abbrev typed : List OpData
typed =
    inserting (name 0 1) 0 (97 ∷ []) (after [])
    ∷ inserting (name 0 2) 1 (98 ∷ []) (after ((0, 1) ∷ []))
    ∷ []

-- each is executed as it was made
abbrev typed_forms : List Form
typed_forms =
    form_of (inserting (name 0 1) 0 (97 ∷ []) (after []))
    ∷ form_of (inserting (name 0 2) 1 (98 ∷ []) (after ((0, 1) ∷ [])))
    ∷ []

pub typing_is_told_as_it_was_made : checkpoint_of typed typed_forms
    ≡ record { originals = inserted (name 0 1) 0 (97 ∷ []) ∷ inserted (name 0 2) 1 (98 ∷ []) ∷ []; undone = [] }
typing_is_told_as_it_was_made = refl

pub typing_is_flat : flat_of typed typed_forms ≡ typed
typing_is_flat = refl

-- ---- three sites write at once, one of the inserts is undone and redone, and another is deleted

-- site 0 writes `a`, and site 1, which doesn't know of it, `b` at the same place. The `b` is undone. Site 2, which knows of the `a` alone,
-- writes `c` behind it, site 3, which knows of `a` and `c`, deletes the `c`, and site 2 redoes the `b`
abbrev a_is_written : OpData
a_is_written = inserting (name 0 1) 0 (97 ∷ []) (after [])

abbrev b_is_written : OpData
b_is_written = inserting (name 1 1) 0 (98 ∷ []) (after [])

abbrev c_is_written : OpData
c_is_written = inserting (name 2 1) 1 (99 ∷ []) (after ((0, 1) ∷ []))

abbrev c_is_deleted : OpData
c_is_deleted = deleting (name 3 1) 1 (after ((0, 1) ∷ (2, 1) ∷ []))

abbrev at_once : List OpData
at_once =
    a_is_written
    ∷ b_is_written
    ∷ undoing 1 (name 1 1) 1 (after ((1, 1) ∷ []))
    ∷ c_is_written
    ∷ c_is_deleted
    ∷ undoing 2 (name 1 1) 2 (after_undos ((0, 1) ∷ (1, 1) ∷ (2, 1) ∷ []) ((name 1 1, 1) ∷ []))
    ∷ []

-- the forms of `a`, of `b` with the `a`, of `c` with the `b` and its undo, and of the delete with the `b`, which is placed with the `c`
-- first
abbrev b_with_a : Form
b_with_a = form_over (form_of b_is_written) (form_of a_is_written)

abbrev undo_of_b : Form
undo_of_b = form_over (group_form (form_of b_is_written) (name 1 1) 1) (form_over (form_of a_is_written) (form_of b_is_written))

abbrev c_with_b : Form
c_with_b = form_over (form_over (form_of c_is_written) b_with_a) undo_of_b

abbrev at_once_forms : List Form
at_once_forms =
    form_of a_is_written
    ∷ b_with_a
    ∷ undo_of_b
    ∷ c_with_b
    ∷ form_over (form_of c_is_deleted) (form_over b_with_a (form_of c_is_written))
    ∷ form_over (form_over (group_form (form_of b_is_written) (name 1 1) 2) (form_over (form_of a_is_written) (form_of b_is_written)))
    c_with_b
    ∷ []

-- the `b` stands behind the `a`, since its site is the greater one, and the `c` behind both: so it is told, and so is its delete
pub places_are_those_of_executed_forms : checkpoint_of at_once at_once_forms
    ≡ record {
      originals =
          inserted (name 0 1) 0 (97 ∷ [])
          ∷ inserted (name 1 1) 1 (98 ∷ [])
          ∷ inserted (name 2 1) 2 (99 ∷ [])
          ∷ deleted (name 3 1) 2
          ∷ [];
      undone = (name 1 1, 2) ∷ [];
    }
unfolding over_place cover_place
places_are_those_of_executed_forms = refl

pub each_original_knows_all_before_it : flat_of at_once at_once_forms
    ≡ inserting (name 0 1) 0 (97 ∷ []) (after [])
    ∷ inserting (name 1 1) 1 (98 ∷ []) (after ((0, 1) ∷ []))
    ∷ inserting (name 2 1) 2 (99 ∷ []) (after ((0, 1) ∷ (1, 1) ∷ []))
    ∷ deleting (name 3 1) 2 (after ((0, 1) ∷ (1, 1) ∷ (2, 1) ∷ []))
    ∷ undoing 0 (name 1 1) 1 (after ((1, 1) ∷ []))
    ∷ undoing 0 (name 1 1) 2 (after_undos ((1, 1) ∷ []) ((name 1 1, 1) ∷ []))
    ∷ []
unfolding over_place cover_place
each_original_knows_all_before_it = refl

-- the session shows `ab`, and so does its flat history, over the same three cells
pub the_session_shows_ab : characters_of at_once ≡ 97 ∷ 98 ∷ []
unfolding put_by sort_by replay narrowed until onward through beyond gap stands_at
the_session_shows_ab = refl

pub its_flat_history_shows_ab : characters_of (flat_of at_once at_once_forms) ≡ 97 ∷ 98 ∷ []
unfolding put_by sort_by replay narrowed until onward through beyond gap stands_at over_place cover_place
its_flat_history_shows_ab = refl

pub the_session_has_three_cells : replay_of at_once ≡ cell 0 1 ∷ cell 1 1 ∷ cell 2 1 ∷ []
unfolding put_by sort_by replay narrowed until onward through beyond gap stands_at
the_session_has_three_cells = refl

pub its_flat_history_has_the_same_cells : replay_of (flat_of at_once at_once_forms) ≡ cell 0 1 ∷ cell 1 1 ∷ cell 2 1 ∷ []
unfolding put_by sort_by replay narrowed until onward through beyond gap stands_at over_place cover_place
its_flat_history_has_the_same_cells = refl

-- told at the places of their operations, `a` and `b` would change places
abbrev told_wrongly : Checkpoint
told_wrongly = record { originals = inserted (name 0 1) 0 (97 ∷ []) ∷ inserted (name 1 1) 0 (98 ∷ []) ∷ []; undone = [] }

pub places_of_operations_would_show_another_text : characters_of (history_of told_wrongly) ≡ 98 ∷ 97 ∷ []
unfolding put_by sort_by replay narrowed until onward through beyond gap stands_at
places_of_operations_would_show_another_text = refl
