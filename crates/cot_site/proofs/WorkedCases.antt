-- Small deliveries and local commands, and what the definitions say of them.
use Rattle.std.proofs.Common.{◌≡◌, List, [], ◌∷◌, Result, Ok, Err, refl}
use Rattle.op_name.specs.declared.member.Member.TheVariants.{Original, Group}
use Rattle.context_diff.specs.Operations.{OpData, inserting, deleting, undoing}
use Rattle.context_diff.specs.Gaps.{gap, until, onward}
use Rattle.context_diff.specs.Replays.{put_by, sort_by, narrowed, replay}
use Rattle.context_diff.proofs.CallerLemmas.{name, after, after_undos}
use Rattle.site_answers.specs.declared.verdict.Verdict.TheVariants.{Repeat, Forged, Waits, NotClosed, PlaceOut, Integrated}
use Rattle.site_answers.specs.declared.local.Local.{Local}
use Rattle.site_answers.specs.declared.local.Local.TheVariants.{PlaceOut as no_place, Unknown, InForce}
use Rattle.cot_site.specs.Verdicts.{verdict_of}
use Rattle.cot_site.specs.States.{State}
use Rattle.cot_site.specs.Commands.{local_run, local_undo, local_redo}

abbrev pub a : OpData
a = inserting (name 0 1) 0 (97 ∷ []) (after [])

abbrev pub b : OpData
b = inserting (name 0 2) 1 (98 ∷ []) (after ((0, 1) ∷ []))

-- a history in which site 1 wrote behind site 0's character
abbrev pub two_writers : List OpData
two_writers = a ∷ inserting (name 1 1) 1 (98 ∷ []) (after ((0, 1) ∷ [])) ∷ []

pub first_insert_is_integrated : verdict_of [] [] a ≡ Integrated
first_insert_is_integrated = refl

pub early_insert_waits_for_the_first_that_is_missing : verdict_of [] [] (inserting (name 0 3) 2 (99 ∷ []) (after ((0, 2) ∷ [])))
    ≡ Waits (Original (name 0 1))
early_insert_waits_for_the_first_that_is_missing = refl

pub known_insert_is_a_repeat : verdict_of (a ∷ []) [] a ≡ Repeat
known_insert_is_a_repeat = refl

pub other_content_of_a_known_name_is_forged : verdict_of (a ∷ []) [] (inserting (name 0 1) 0 (98 ∷ []) (after [])) ≡ Forged (name 0 1)
other_content_of_a_known_name_is_forged = refl

pub other_content_of_a_waiting_name_is_forged : verdict_of [] (b ∷ []) (inserting (name 0 2) 0 (98 ∷ []) (after ((0, 1) ∷ [])))
    ≡ Forged (name 0 2)
other_content_of_a_waiting_name_is_forged = refl

pub context_without_its_causes_is_not_closed : verdict_of two_writers [] (inserting (name 2 1) 0 (99 ∷ []) (after ((1, 1) ∷ [])))
    ≡ NotClosed 1
context_without_its_causes_is_not_closed = refl

pub place_behind_the_cells_is_out : verdict_of [] [] (inserting (name 0 1) 1 (97 ∷ []) (after [])) ≡ PlaceOut 1 0
place_behind_the_cells_is_out = refl

pub delete_of_no_cell_is_out : verdict_of [] [] (deleting (name 0 1) 0 (after [])) ≡ PlaceOut 0 0
delete_of_no_cell_is_out = refl

-- a history in which site 0 wrote three characters by one insert
abbrev pub one_run : List OpData
one_run = inserting (name 0 1) 0 (97 ∷ 98 ∷ 99 ∷ []) (after []) ∷ []

pub place_behind_a_run_is_counted_by_cells : verdict_of one_run [] (inserting (name 1 1) 3 (120 ∷ []) (after ((0, 1) ∷ []))) ≡ Integrated
place_behind_a_run_is_counted_by_cells = refl

pub place_behind_all_cells_of_a_run_is_out : verdict_of one_run [] (inserting (name 1 1) 4 (120 ∷ []) (after ((0, 1) ∷ []))) ≡ PlaceOut 4 3
place_behind_all_cells_of_a_run_is_out = refl

pub delete_within_a_run_is_integrated : verdict_of one_run [] (deleting (name 1 1) 2 (after ((0, 1) ∷ []))) ≡ Integrated
delete_within_a_run_is_integrated = refl

pub early_undo_waits_for_its_target : verdict_of [] [] (undoing 0 (name 0 1) 1 (after ((0, 1) ∷ []))) ≡ Waits (Original (name 0 1))
early_undo_waits_for_its_target = refl

pub early_redo_waits_for_the_undo_before_it : verdict_of (a ∷ []) []
    (undoing 0 (name 0 1) 2 (after_undos ((0, 1) ∷ []) ((name 0 1, 1) ∷ []))) ≡ Waits (Group (name 0 1) 1)
early_redo_waits_for_the_undo_before_it = refl

pub second_undo_of_one_generation_is_a_repeat : verdict_of (a ∷ undoing 0 (name 0 1) 1 (after ((0, 1) ∷ [])) ∷ []) []
    (undoing 1 (name 0 1) 1 (after ((0, 1) ∷ []))) ≡ Repeat
second_undo_of_one_generation_is_a_repeat = refl

-- the state of site 0 with one insert
abbrev pub one_insert : State
one_insert = record { number = 0; history = a ∷ []; waiting = [] }

pub redo_of_an_insert_in_force_is_refused : ◌≡◌ {A = Result OpData Local} (local_redo one_insert (name 0 1)) (Err (InForce 0))
redo_of_an_insert_in_force_is_refused = refl

pub undo_of_an_unknown_name_is_refused : ◌≡◌ {A = Result OpData Local} (local_undo one_insert (name 0 9)) (Err (Unknown (name 0 9)))
undo_of_an_unknown_name_is_refused = refl

pub undo_of_an_insert_is_made : ◌≡◌ {A = Result OpData Local} (local_undo one_insert (name 0 1))
    (Ok (undoing 0 (name 0 1) 1 (after ((0, 1) ∷ []))))
undo_of_an_insert_is_made = refl

-- the state of site 1 to which the three characters came
abbrev pub run_known : State
run_known = record { number = 1; history = one_run; waiting = [] }

pub text_within_a_run_is_made : ◌≡◌ {A = Result OpData Local} (local_run run_known 1 (120 ∷ 121 ∷ []))
    (Ok (inserting (name 1 1) 1 (120 ∷ 121 ∷ []) (after ((0, 1) ∷ []))))
unfolding replay sort_by put_by narrowed gap until
text_within_a_run_is_made = refl

pub text_behind_all_characters_is_refused : ◌≡◌ {A = Result OpData Local} (local_run run_known 4 (120 ∷ 121 ∷ [])) (Err (no_place 4 3))
unfolding replay sort_by put_by narrowed gap until onward
text_behind_all_characters_is_refused = refl
