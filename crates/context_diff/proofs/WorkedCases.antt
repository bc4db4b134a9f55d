-- Small sessions written out as histories, and what the definitions say of them. Characters are given by their codes.
use Rattle.std.proofs.Common.{◌≡◌, ℕ, true, false, List, [], ◌∷◌, refl}
use Rattle.op_name.specs.NameData.{NameData, name_eq}
use Rattle.context_vector.specs.Contexts.{ContextData}
use Rattle.context_diff.specs.Operations.{OpData, inserting, deleting, undoing}
use Rattle.context_diff.specs.Histories.{all_cells, cells_in, generation_in, in_force, context_of_all}
use Rattle.context_diff.specs.Gaps.{until, onward, through, beyond, gap}
use Rattle.context_diff.specs.Replays.{Cell, Insertion, put, put_by, sort_by, narrowed, replay, stands_at, replay_of, hits, character_in, characters_of, text_of}

abbrev pub name : ℕ → ℕ → NameData
name site number = record { site = site; number = number }

-- a cell of an insert of one character
abbrev pub cell : ℕ → ℕ → Cell
cell site number = (name site number, 0)

-- a context of originals alone, as a count for each site
abbrev pub after : List (ℕ × ℕ) → ContextData
after counts = record { counts = counts; entries = [] }

-- a context with undo groups
abbrev pub after_undos : List (ℕ × ℕ) → List (NameData × ℕ) → ContextData
after_undos counts entries = record { counts = counts; entries = entries }

-- site 0 writes `abc` one character after the other, and then other operations come
abbrev pub abc : List OpData → List OpData
abc later =
    inserting (name 0 1) 0 (97 ∷ []) (after [])
    ∷ inserting (name 0 2) 1 (98 ∷ []) (after ((0, 1) ∷ []))
    ∷ inserting (name 0 3) 2 (99 ∷ []) (after ((0, 2) ∷ []))
    ∷ later

-- no operation shows no character
pub empty_history_shows_no_character : characters_of [] ≡ []
unfolding sort_by replay
empty_history_shows_no_character = refl

-- no operation gives an empty text
pub empty_history_has_an_empty_text : text_of [] ≡ []
unfolding sort_by replay
empty_history_has_an_empty_text = refl

-- one site writes `a`, `é` and `😀`
abbrev pub typed : List OpData
typed =
    inserting (name 0 1) 0 (97 ∷ []) (after [])
    ∷ inserting (name 0 2) 1 (233 ∷ []) (after ((0, 1) ∷ []))
    ∷ inserting (name 0 3) 2 (128512 ∷ []) (after ((0, 2) ∷ []))
    ∷ []

-- characters typed one after the other stand in the order of typing
pub typed_characters_stand_in_order_of_typing : characters_of typed ≡ 97 ∷ 233 ∷ 128512 ∷ []
unfolding put_by sort_by replay narrowed until onward through beyond gap stands_at
typed_characters_stand_in_order_of_typing = refl

-- they are one, two and four bytes of UTF-8
pub three_typed_characters_have_seven_bytes : text_of typed ≡ 97 ∷ 195 ∷ 169 ∷ 240 ∷ 159 ∷ 152 ∷ 128 ∷ []
unfolding put_by sort_by replay narrowed until onward through beyond gap stands_at lib.Utf8.encode
three_typed_characters_have_seven_bytes = refl

-- over `abc` three sites at once delete `b`, insert `x` before `c` and `y` before `b`, as the first site integrates them
abbrev pub edits_at_first_site : List OpData
edits_at_first_site =
    abc (
    deleting (name 0 4) 1 (after ((0, 3) ∷ []))
    ∷ inserting (name 1 1) 2 (120 ∷ []) (after ((0, 3) ∷ []))
    ∷ inserting (name 2 1) 1 (121 ∷ []) (after ((0, 3) ∷ []))
    ∷ [])

-- the same as the second site integrates them
abbrev pub edits_at_second_site : List OpData
edits_at_second_site =
    abc (
    inserting (name 1 1) 2 (120 ∷ []) (after ((0, 3) ∷ []))
    ∷ deleting (name 0 4) 1 (after ((0, 3) ∷ []))
    ∷ inserting (name 2 1) 1 (121 ∷ []) (after ((0, 3) ∷ []))
    ∷ [])

-- the same as the third site integrates them
abbrev pub edits_at_third_site : List OpData
edits_at_third_site =
    abc (
    inserting (name 2 1) 1 (121 ∷ []) (after ((0, 3) ∷ []))
    ∷ deleting (name 0 4) 1 (after ((0, 3) ∷ []))
    ∷ inserting (name 1 1) 2 (120 ∷ []) (after ((0, 3) ∷ []))
    ∷ [])

-- all three edits take effect
pub concurrent_edits_all_take_effect : characters_of edits_at_first_site ≡ 97 ∷ 121 ∷ 120 ∷ 99 ∷ []
unfolding put_by sort_by replay narrowed until onward through beyond gap stands_at
concurrent_edits_all_take_effect = refl

-- a site that integrated its insert first shows the same
pub concurrent_edits_show_the_same_at_the_second_site : characters_of edits_at_second_site ≡ 97 ∷ 121 ∷ 120 ∷ 99 ∷ []
unfolding put_by sort_by replay narrowed until onward through beyond gap stands_at
concurrent_edits_show_the_same_at_the_second_site = refl

-- a site that integrated the other insert first shows the same
pub concurrent_edits_show_the_same_at_the_third_site : characters_of edits_at_third_site ≡ 97 ∷ 121 ∷ 120 ∷ 99 ∷ []
unfolding put_by sort_by replay narrowed until onward through beyond gap stands_at
concurrent_edits_show_the_same_at_the_third_site = refl

-- the deleted cell stays in the replay
pub deleted_cell_stays_in_the_replay : replay_of edits_at_first_site ≡ cell 0 1 ∷ cell 2 1 ∷ cell 0 2 ∷ cell 1 1 ∷ cell 0 3 ∷ []
unfolding put_by sort_by replay narrowed until onward through beyond gap stands_at
deleted_cell_stays_in_the_replay = refl

-- a delete hits the cell at its place among those that it knew
pub delete_hits_the_cell_that_it_was_made_for : hits edits_at_first_site (deleting (name 0 4) 1 (after ((0, 3) ∷ []))) (cell 0 2) ≡ true
unfolding put_by sort_by replay narrowed until onward through beyond gap stands_at
delete_hits_the_cell_that_it_was_made_for = refl

-- the cell that stands at this place now isn't hit
pub delete_misses_the_cell_that_came_to_its_place : hits edits_at_first_site (deleting (name 0 4) 1 (after ((0, 3) ∷ []))) (cell 2 1)
    ≡ false
unfolding put_by sort_by replay narrowed until onward through beyond gap stands_at
delete_misses_the_cell_that_came_to_its_place = refl

-- two sites insert at the same place, neither knowing of the other
abbrev pub tie : List OpData
tie =
    inserting (name 1 1) 0 (112 ∷ []) (after [])
    ∷ inserting (name 2 1) 0 (113 ∷ []) (after [])
    ∷ []

-- the same integrated in the other order
abbrev pub tie_reversed : List OpData
tie_reversed =
    inserting (name 2 1) 0 (113 ∷ []) (after [])
    ∷ inserting (name 1 1) 0 (112 ∷ []) (after [])
    ∷ []

-- of two inserts at one place that of the smaller site stands in front
pub smaller_site_stands_in_front : characters_of tie ≡ 112 ∷ 113 ∷ []
unfolding put_by sort_by replay narrowed until onward through beyond gap stands_at
smaller_site_stands_in_front = refl

-- so it does where that of the greater site came first
pub smaller_site_stands_in_front_whatever_came_first : characters_of tie_reversed ≡ 112 ∷ 113 ∷ []
unfolding put_by sort_by replay narrowed until onward through beyond gap stands_at
smaller_site_stands_in_front_whatever_came_first = refl

-- site 2 writes `xy`, and sites 1 and 3 write one character each in front, none knowing of another
abbrev pub word_between : List OpData
word_between =
    inserting (name 1 1) 0 (109 ∷ []) (after [])
    ∷ inserting (name 2 1) 0 (120 ∷ []) (after [])
    ∷ inserting (name 2 2) 1 (121 ∷ []) (after ((2, 1) ∷ []))
    ∷ inserting (name 3 1) 0 (110 ∷ []) (after [])
    ∷ []

-- a word of one site isn't split by other inserts at its front
pub greater_site_goes_behind_the_whole_word : characters_of word_between ≡ 109 ∷ 120 ∷ 121 ∷ 110 ∷ []
unfolding put_by sort_by replay narrowed until onward through beyond gap stands_at
greater_site_goes_behind_the_whole_word = refl

-- site 2 writes `x` and then `y` in front of it, and sites 1 and 3 write one character each, none knowing of another
abbrev pub word_typed_backwards : List OpData
word_typed_backwards =
    inserting (name 2 1) 0 (120 ∷ []) (after [])
    ∷ inserting (name 2 2) 0 (121 ∷ []) (after ((2, 1) ∷ []))
    ∷ inserting (name 1 1) 0 (109 ∷ []) (after [])
    ∷ inserting (name 3 1) 0 (110 ∷ []) (after [])
    ∷ []

-- the same in another order of integration
abbrev pub word_typed_backwards_reversed : List OpData
word_typed_backwards_reversed =
    inserting (name 3 1) 0 (110 ∷ []) (after [])
    ∷ inserting (name 1 1) 0 (109 ∷ []) (after [])
    ∷ inserting (name 2 1) 0 (120 ∷ []) (after [])
    ∷ inserting (name 2 2) 0 (121 ∷ []) (after ((2, 1) ∷ []))
    ∷ []

-- a word typed backwards stays together between the smaller and the greater site
pub word_typed_backwards_stays_together : characters_of word_typed_backwards ≡ 109 ∷ 121 ∷ 120 ∷ 110 ∷ []
unfolding put_by sort_by replay narrowed until onward through beyond gap stands_at
word_typed_backwards_stays_together = refl

-- in any order of integration
pub word_typed_backwards_stays_together_in_any_order : characters_of word_typed_backwards_reversed ≡ 109 ∷ 121 ∷ 120 ∷ 110 ∷ []
unfolding put_by sort_by replay narrowed until onward through beyond gap stands_at
word_typed_backwards_stays_together_in_any_order = refl

-- the last cell is that of the greatest site, which no context names
pub cells_of_the_word_typed_backwards : replay_of word_typed_backwards ≡ cell 1 1 ∷ cell 2 2 ∷ cell 2 1 ∷ cell 3 1 ∷ []
unfolding put_by sort_by replay narrowed until onward through beyond gap stands_at
cells_of_the_word_typed_backwards = refl

-- `b` is undone by site 0
abbrev pub undone : List OpData
undone =
    abc (
    undoing 0 (name 0 2) 1 (after ((0, 3) ∷ []))
    ∷ [])

-- `b` is undone by site 1 instead
abbrev pub undone_by_the_other : List OpData
undone_by_the_other =
    abc (
    undoing 1 (name 0 2) 1 (after ((0, 3) ∷ []))
    ∷ [])

-- the undo of site 0 and then a redo of site 1
abbrev pub undone_and_redone : List OpData
undone_and_redone =
    abc (
    undoing 0 (name 0 2) 1 (after ((0, 3) ∷ []))
    ∷ undoing 1 (name 0 2) 2 (after_undos ((0, 3) ∷ []) ((name 0 2, 1) ∷ []))
    ∷ [])

-- an undo and a redo of site 0
abbrev pub redone_by_site_0 : List OpData
redone_by_site_0 =
    abc (
    undoing 0 (name 0 2) 1 (after ((0, 3) ∷ []))
    ∷ undoing 0 (name 0 2) 2 (after_undos ((0, 3) ∷ []) ((name 0 2, 1) ∷ []))
    ∷ [])

-- an undo of site 1 and then the redo of site 0
abbrev pub redone_over_the_undo_of_site_1 : List OpData
redone_over_the_undo_of_site_1 =
    abc (
    undoing 1 (name 0 2) 1 (after ((0, 3) ∷ []))
    ∷ undoing 0 (name 0 2) 2 (after_undos ((0, 3) ∷ []) ((name 0 2, 1) ∷ []))
    ∷ [])

-- an undone insert isn't shown
pub undone_insert_is_not_shown : characters_of undone ≡ 97 ∷ 99 ∷ []
unfolding put_by sort_by replay narrowed until onward through beyond gap stands_at
undone_insert_is_not_shown = refl

-- whoever undid it
pub undone_insert_is_not_shown_whoever_undid_it : characters_of undone_by_the_other ≡ 97 ∷ 99 ∷ []
unfolding put_by sort_by replay narrowed until onward through beyond gap stands_at
undone_insert_is_not_shown_whoever_undid_it = refl

-- its cell stays in the replay
pub cell_of_an_undone_insert_stays_in_the_replay : replay_of undone ≡ cell 0 1 ∷ cell 0 2 ∷ cell 0 3 ∷ []
unfolding put_by sort_by replay narrowed until onward through beyond gap stands_at
cell_of_an_undone_insert_stays_in_the_replay = refl

-- before any undo the generation is 0
pub generation_is_0_before_any_undo : generation_in (abc []) (name 0 2) ≡ 0
generation_is_0_before_any_undo = refl

-- and the insert is in force
pub insert_is_in_force_before_any_undo : in_force (abc []) (name 0 2) ≡ true
insert_is_in_force_before_any_undo = refl

-- an undo makes the generation 1
pub generation_is_1_after_an_undo : generation_in undone (name 0 2) ≡ 1
generation_is_1_after_an_undo = refl

-- and takes the insert out of force
pub undone_insert_is_not_in_force : in_force undone (name 0 2) ≡ false
undone_insert_is_not_in_force = refl

-- a redo makes the generation 2
pub generation_is_2_after_a_redo : generation_in undone_and_redone (name 0 2) ≡ 2
generation_is_2_after_a_redo = refl

-- and puts the insert in force again
pub redone_insert_is_in_force : in_force undone_and_redone (name 0 2) ≡ true
redone_insert_is_in_force = refl

-- a redone insert is shown again at its place
pub redone_insert_is_shown_again : characters_of undone_and_redone ≡ 97 ∷ 98 ∷ 99 ∷ []
unfolding put_by sort_by replay narrowed until onward through beyond gap stands_at
redone_insert_is_shown_again = refl

-- the site that undid and redid shows it
pub redo_shows_the_insert_at_its_own_site : characters_of redone_by_site_0 ≡ 97 ∷ 98 ∷ 99 ∷ []
unfolding put_by sort_by replay narrowed until onward through beyond gap stands_at
redo_shows_the_insert_at_its_own_site = refl

-- a site whose own undo was of the same generation shows it as well: the redo redoes both undos
pub redo_redoes_the_undo_of_another_site_too : characters_of redone_over_the_undo_of_site_1 ≡ 97 ∷ 98 ∷ 99 ∷ []
unfolding put_by sort_by replay narrowed until onward through beyond gap stands_at
redo_redoes_the_undo_of_another_site_too = refl

-- two undos of one generation leave it at 1
pub two_undos_at_one_generation_count_once : generation_in
    (undoing 0 (name 0 2) 1 (after ((0, 3) ∷ [])) ∷ undoing 1 (name 0 2) 1 (after ((0, 3) ∷ [])) ∷ []) (name 0 2) ≡ 1
two_undos_at_one_generation_count_once = refl

-- two sites delete `b` at once
abbrev pub deleted_twice : List OpData
deleted_twice =
    abc (
    deleting (name 0 4) 1 (after ((0, 3) ∷ []))
    ∷ deleting (name 1 1) 1 (after ((0, 3) ∷ []))
    ∷ [])

-- and the first delete is undone
abbrev pub one_delete_undone : List OpData
one_delete_undone =
    abc (
    deleting (name 0 4) 1 (after ((0, 3) ∷ []))
    ∷ deleting (name 1 1) 1 (after ((0, 3) ∷ []))
    ∷ undoing 0 (name 0 4) 1 (after ((0, 4) ∷ (1, 1) ∷ []))
    ∷ [])

-- and then the second delete as well
abbrev pub both_deletes_undone : List OpData
both_deletes_undone =
    abc (
    deleting (name 0 4) 1 (after ((0, 3) ∷ []))
    ∷ deleting (name 1 1) 1 (after ((0, 3) ∷ []))
    ∷ undoing 0 (name 0 4) 1 (after ((0, 4) ∷ (1, 1) ∷ []))
    ∷ undoing 0 (name 1 1) 1 (after_undos ((0, 4) ∷ (1, 1) ∷ []) ((name 0 4, 1) ∷ []))
    ∷ [])

-- a cell that two deletes hit isn't shown
pub cell_deleted_twice_is_not_shown : characters_of deleted_twice ≡ 97 ∷ 99 ∷ []
unfolding put_by sort_by replay narrowed until onward through beyond gap stands_at
cell_deleted_twice_is_not_shown = refl

-- the undo of one of two deletes keeps the cell hidden
pub undo_of_one_of_two_deletes_keeps_the_cell_hidden : characters_of one_delete_undone ≡ 97 ∷ 99 ∷ []
unfolding put_by sort_by replay narrowed until onward through beyond gap stands_at
undo_of_one_of_two_deletes_keeps_the_cell_hidden = refl

-- the first delete isn't in force then
pub undone_delete_is_not_in_force : in_force one_delete_undone (name 0 4) ≡ false
undone_delete_is_not_in_force = refl

-- the second one is
pub other_delete_stays_in_force : in_force one_delete_undone (name 1 1) ≡ true
other_delete_stays_in_force = refl

-- the undo of both deletes shows the cell
pub undo_of_both_deletes_shows_the_cell : characters_of both_deletes_undone ≡ 97 ∷ 98 ∷ 99 ∷ []
unfolding put_by sort_by replay narrowed until onward through beyond gap stands_at
undo_of_both_deletes_shows_the_cell = refl

-- the first delete isn't in force then
pub first_of_two_undone_deletes_is_not_in_force : in_force both_deletes_undone (name 0 4) ≡ false
first_of_two_undone_deletes_is_not_in_force = refl

-- nor is the second one
pub second_of_two_undone_deletes_is_not_in_force : in_force both_deletes_undone (name 1 1) ≡ false
second_of_two_undone_deletes_is_not_in_force = refl

-- a local operation after that knows all originals and both groups
pub next_local_context_holds_originals_and_groups : context_of_all both_deletes_undone
    ≡ after_undos ((0, 4) ∷ (1, 1) ∷ []) ((name 0 4, 1) ∷ (name 1 1, 1) ∷ [])
next_local_context_holds_originals_and_groups = refl

-- `b` is deleted, then its insert is undone, then the delete
abbrev pub insert_and_delete_undone : List OpData
insert_and_delete_undone =
    abc (
    deleting (name 0 4) 1 (after ((0, 3) ∷ []))
    ∷ undoing 0 (name 0 2) 1 (after ((0, 4) ∷ []))
    ∷ undoing 0 (name 0 4) 1 (after_undos ((0, 4) ∷ []) ((name 0 2, 1) ∷ []))
    ∷ [])

-- the undo of a delete doesn't show a character whose insert is undone
pub undo_of_a_delete_does_not_show_an_undone_insert : characters_of insert_and_delete_undone ≡ 97 ∷ 99 ∷ []
unfolding put_by sort_by replay narrowed until onward through beyond gap stands_at
undo_of_a_delete_does_not_show_an_undone_insert = refl

-- the insert isn't in force
pub insert_undone_after_its_delete_is_not_in_force : in_force insert_and_delete_undone (name 0 2) ≡ false
insert_undone_after_its_delete_is_not_in_force = refl

-- nor is the delete
pub delete_undone_after_its_insert_is_not_in_force : in_force insert_and_delete_undone (name 0 4) ≡ false
delete_undone_after_its_insert_is_not_in_force = refl

-- the second insert of a tie alone
abbrev pub part_of_a_tie : List OpData
part_of_a_tie =
    inserting (name 1 1) 0 (98 ∷ []) (after [])
    ∷ []

-- a tie of sites 0 and 1
abbrev pub tie_of_0_and_1 : List OpData
tie_of_0_and_1 =
    inserting (name 0 1) 0 (97 ∷ []) (after [])
    ∷ inserting (name 1 1) 0 (98 ∷ []) (after [])
    ∷ []

-- in the tie the insert of the greater site stands at place 1
pub greater_site_stands_at_place_1_in_a_tie : replay_of tie_of_0_and_1 ≡ cell 0 1 ∷ cell 1 1 ∷ []
unfolding put_by sort_by replay narrowed until onward through beyond gap stands_at
greater_site_stands_at_place_1_in_a_tie = refl

-- alone it stands at place 0, although it was at place 1 in the whole
pub part_of_a_tie_is_replayed_by_itself : replay_of part_of_a_tie ≡ cell 1 1 ∷ []
unfolding put_by sort_by replay narrowed until onward through beyond gap stands_at
part_of_a_tie_is_replayed_by_itself = refl

-- site 2 inserts behind the cell of site 0, and knows neither that of site 3 nor that of site 1 behind it
abbrev pub crossing : List OpData
crossing =
    inserting (name 0 1) 0 (97 ∷ []) (after [])
    ∷ inserting (name 3 1) 0 (98 ∷ []) (after [])
    ∷ inserting (name 1 1) 1 (99 ∷ []) (after ((3, 1) ∷ []))
    ∷ inserting (name 2 1) 1 (100 ∷ []) (after ((0, 1) ∷ []))
    ∷ []

-- site 3's cell narrows the gap first, so site 1's cell behind it plays no part: place 1 and not 3
pub earlier_insert_of_a_greater_site_shuts_out_what_is_behind_it : replay_of crossing ≡ cell 0 1 ∷ cell 2 1 ∷ cell 3 1 ∷ cell 1 1 ∷ []
unfolding put_by sort_by replay narrowed until onward through beyond gap stands_at
earlier_insert_of_a_greater_site_shuts_out_what_is_behind_it = refl

-- site 2 inserts behind both cells of site 0, and knows neither site 1's cell nor site 3's cell in front of that
abbrev pub crossing_to_the_left : List OpData
crossing_to_the_left =
    inserting (name 0 1) 0 (97 ∷ []) (after [])
    ∷ inserting (name 1 1) 0 (98 ∷ []) (after [])
    ∷ inserting (name 0 2) 0 (99 ∷ []) (after ((0, 1) ∷ []))
    ∷ inserting (name 3 1) 0 (100 ∷ []) (after ((1, 1) ∷ []))
    ∷ inserting (name 2 1) 2 (101 ∷ []) (after ((0, 2) ∷ []))
    ∷ []

-- site 1's cell narrows the gap first, so site 3's cell in front of it plays no part: place 4 and not 2
pub earlier_insert_of_a_smaller_site_shuts_out_what_is_in_front_of_it : replay_of crossing_to_the_left
    ≡ cell 0 2 ∷ cell 0 1 ∷ cell 3 1 ∷ cell 1 1 ∷ cell 2 1 ∷ []
unfolding put_by sort_by replay narrowed until onward through beyond gap stands_at
earlier_insert_of_a_smaller_site_shuts_out_what_is_in_front_of_it = refl

-- over `abc` three sites insert at once at the front, at the end and before `c`
abbrev pub three_inserts_over_abc : List OpData
three_inserts_over_abc =
    inserting (name 0 1) 0 (97 ∷ []) (after [])
    ∷ inserting (name 0 2) 1 (98 ∷ []) (after ((0, 1) ∷ []))
    ∷ inserting (name 0 3) 2 (99 ∷ []) (after ((0, 2) ∷ []))
    ∷ inserting (name 1 1) 0 (112 ∷ []) (after ((0, 3) ∷ []))
    ∷ inserting (name 2 1) 3 (113 ∷ []) (after ((0, 3) ∷ []))
    ∷ inserting (name 3 1) 2 (114 ∷ []) (after ((0, 3) ∷ []))
    ∷ []

-- each insert stands where it was made
pub three_concurrent_inserts_stand_where_they_were_made : characters_of three_inserts_over_abc ≡ 112 ∷ 97 ∷ 98 ∷ 114 ∷ 99 ∷ 113 ∷ []
unfolding put_by sort_by replay narrowed until onward through beyond gap stands_at
three_concurrent_inserts_stand_where_they_were_made = refl

-- over `Agenda: budget` site 1 writes `, staff` at the end while site 0 writes `draft ` in the middle
abbrev pub two_write_notes : List OpData
two_write_notes =
    inserting (name 0 1) 0 (65 ∷ []) (after [])
    ∷ inserting (name 0 2) 1 (103 ∷ []) (after ((0, 1) ∷ []))
    ∷ inserting (name 0 3) 2 (101 ∷ []) (after ((0, 2) ∷ []))
    ∷ inserting (name 0 4) 3 (110 ∷ []) (after ((0, 3) ∷ []))
    ∷ inserting (name 0 5) 4 (100 ∷ []) (after ((0, 4) ∷ []))
    ∷ inserting (name 0 6) 5 (97 ∷ []) (after ((0, 5) ∷ []))
    ∷ inserting (name 0 7) 6 (58 ∷ []) (after ((0, 6) ∷ []))
    ∷ inserting (name 0 8) 7 (32 ∷ []) (after ((0, 7) ∷ []))
    ∷ inserting (name 0 9) 8 (98 ∷ []) (after ((0, 8) ∷ []))
    ∷ inserting (name 0 10) 9 (117 ∷ []) (after ((0, 9) ∷ []))
    ∷ inserting (name 0 11) 10 (100 ∷ []) (after ((0, 10) ∷ []))
    ∷ inserting (name 0 12) 11 (103 ∷ []) (after ((0, 11) ∷ []))
    ∷ inserting (name 0 13) 12 (101 ∷ []) (after ((0, 12) ∷ []))
    ∷ inserting (name 0 14) 13 (116 ∷ []) (after ((0, 13) ∷ []))
    ∷ inserting (name 1 1) 14 (44 ∷ []) (after ((0, 14) ∷ []))
    ∷ inserting (name 1 2) 15 (32 ∷ []) (after ((0, 14) ∷ (1, 1) ∷ []))
    ∷ inserting (name 1 3) 16 (115 ∷ []) (after ((0, 14) ∷ (1, 2) ∷ []))
    ∷ inserting (name 1 4) 17 (116 ∷ []) (after ((0, 14) ∷ (1, 3) ∷ []))
    ∷ inserting (name 1 5) 18 (97 ∷ []) (after ((0, 14) ∷ (1, 4) ∷ []))
    ∷ inserting (name 1 6) 19 (102 ∷ []) (after ((0, 14) ∷ (1, 5) ∷ []))
    ∷ inserting (name 1 7) 20 (102 ∷ []) (after ((0, 14) ∷ (1, 6) ∷ []))
    ∷ inserting (name 0 15) 8 (100 ∷ []) (after ((0, 14) ∷ []))
    ∷ inserting (name 0 16) 9 (114 ∷ []) (after ((0, 15) ∷ []))
    ∷ inserting (name 0 17) 10 (97 ∷ []) (after ((0, 16) ∷ []))
    ∷ inserting (name 0 18) 11 (102 ∷ []) (after ((0, 17) ∷ []))
    ∷ inserting (name 0 19) 12 (116 ∷ []) (after ((0, 18) ∷ []))
    ∷ inserting (name 0 20) 13 (32 ∷ []) (after ((0, 19) ∷ []))
    ∷ []

-- both words stand whole where they were written
pub notes_of_two_stand_where_they_were_written : characters_of two_write_notes
    ≡ 65 ∷ 103 ∷ 101 ∷ 110 ∷ 100 ∷ 97 ∷ 58 ∷ 32 ∷ 100 ∷ 114 ∷ 97 ∷ 102 ∷ 116 ∷ 32 ∷ 98 ∷ 117 ∷ 100 ∷ 103 ∷ 101 ∷ 116 ∷ 44 ∷ 32 ∷ 115 ∷ 116 ∷
    97 ∷ 102 ∷ 102 ∷ []
unfolding put_by sort_by replay narrowed until onward through beyond gap stands_at
notes_of_two_stand_where_they_were_written = refl

-- ---- Inserts of several characters

-- site 0 writes `abc` at once, deletes the `b`, and site 1, which knows `abc` alone, writes `xy` behind the `b`
abbrev pub run_split : List OpData → List OpData
run_split later =
    inserting (name 0 1) 0 (97 ∷ 98 ∷ 99 ∷ []) (after [])
    ∷ deleting (name 0 2) 1 (after ((0, 1) ∷ []))
    ∷ inserting (name 1 1) 2 (120 ∷ 121 ∷ []) (after ((0, 1) ∷ []))
    ∷ later

-- the cells of an insert stand in the order of its text, and another insert may part them
pub another_insert_parts_a_run : replay_of (run_split [])
    ≡ (name 0 1, 0) ∷ (name 0 1, 1) ∷ (name 1 1, 0) ∷ (name 1 1, 1) ∷ (name 0 1, 2) ∷ []
unfolding put_by sort_by replay narrowed until onward through beyond gap stands_at
another_insert_parts_a_run = refl

-- a delete hits the cell at its place, and not the others of the insert
pub a_delete_hits_one_cell_of_a_run : hits (run_split []) (deleting (name 0 2) 1 (after ((0, 1) ∷ []))) (name 0 1, 1) ≡ true
unfolding put_by sort_by replay narrowed until onward through beyond gap stands_at
a_delete_hits_one_cell_of_a_run = refl

pub a_delete_misses_the_first_cell_of_a_run : hits (run_split []) (deleting (name 0 2) 1 (after ((0, 1) ∷ []))) (name 0 1, 0) ≡ false
unfolding put_by sort_by replay narrowed until onward through beyond gap stands_at
a_delete_misses_the_first_cell_of_a_run = refl

pub a_run_without_a_character_is_shown_around_another : characters_of (run_split []) ≡ 97 ∷ 120 ∷ 121 ∷ 99 ∷ []
unfolding put_by sort_by replay narrowed until onward through beyond gap stands_at
a_run_without_a_character_is_shown_around_another = refl

-- an undo takes back all characters of its insert, wherever they stand
pub an_undo_takes_back_a_whole_run : characters_of (run_split (undoing 0 (name 0 1) 1 (after ((0, 2) ∷ (1, 1) ∷ [])) ∷ [])) ≡ 120 ∷ 121 ∷ []
unfolding put_by sort_by replay narrowed until onward through beyond gap stands_at
an_undo_takes_back_a_whole_run = refl

-- a redo shows them again, but for the deleted one
pub a_redo_shows_a_run_again : characters_of (run_split
    (undoing 0 (name 0 1) 1 (after ((0, 2) ∷ (1, 1) ∷ []))
    ∷ undoing 1 (name 0 1) 2 (after_undos ((0, 2) ∷ (1, 1) ∷ []) ((name 0 1, 1) ∷ [])) ∷ [])) ≡ 97 ∷ 120 ∷ 121 ∷ 99 ∷ []
unfolding put_by sort_by replay narrowed until onward through beyond gap stands_at
a_redo_shows_a_run_again = refl

-- a context has a cell for each character of its inserts
pub a_context_has_a_cell_for_each_character : cells_in (run_split []) (after ((0, 1) ∷ [])) ≡ 3
a_context_has_a_cell_for_each_character = refl

pub a_history_has_a_cell_for_each_character : all_cells (run_split []) ≡ 5
a_history_has_a_cell_for_each_character = refl

-- a character is that of the text at the cell's offset
pub a_character_is_found_by_its_offset : character_in (run_split []) (name 1 1, 1) ≡ 121
a_character_is_found_by_its_offset = refl

-- sites 2, 1 and 3 write `rs`, `pq` and `z` at the front, none knowing of another
abbrev pub runs_at_one_place : List OpData
runs_at_one_place =
    inserting (name 2 1) 0 (114 ∷ 115 ∷ []) (after [])
    ∷ inserting (name 1 1) 0 (112 ∷ 113 ∷ []) (after [])
    ∷ inserting (name 3 1) 0 (122 ∷ []) (after [])
    ∷ []

-- whoever goes behind an insert goes behind all of it
pub runs_at_one_place_stay_whole : characters_of runs_at_one_place ≡ 112 ∷ 113 ∷ 114 ∷ 115 ∷ 122 ∷ []
unfolding put_by sort_by replay narrowed until onward through beyond gap stands_at
runs_at_one_place_stay_whole = refl

-- site 0 writes `ab` and site 2, which knows that, `X` between them; site 3 writes `w` and then, knowing no other insert, `v` in front
abbrev pub parted_run : List OpData
parted_run =
    inserting (name 0 1) 0 (97 ∷ 98 ∷ []) (after [])
    ∷ inserting (name 2 1) 1 (88 ∷ []) (after ((0, 1) ∷ []))
    ∷ inserting (name 3 1) 0 (119 ∷ []) (after [])
    ∷ inserting (name 3 2) 0 (118 ∷ []) (after ((3, 1) ∷ []))
    ∷ []

-- where another insert parts them, whoever goes behind an insert goes behind its last cell
pub the_last_cell_of_a_parted_run_is_the_left_neighbour : characters_of parted_run ≡ 97 ∷ 88 ∷ 98 ∷ 118 ∷ 119 ∷ []
unfolding put_by sort_by replay narrowed until onward through beyond gap stands_at
the_last_cell_of_a_parted_run_is_the_left_neighbour = refl

-- an insert of so many characters at the front, which knows no other
abbrev pub front : NameData → ℕ → Insertion
front n len = record { name = n; place = 0; len = len; rank = 0; sees = λ m. false }

-- an insert of site 1, at the place behind the cell of site 0's that it knows
abbrev pub behind_one : Insertion
behind_one = record { name = name 1 1; place = 1; len = 1; rank = 1; sees = λ n. name_eq n (name 0 1) }

-- where the first cell of an earlier insert lies before the gap, its cells in the gap don't narrow it; no valid history has such a list
pub an_insert_narrows_where_its_first_cell_lies :
    put behind_one (front (name 0 1) 1 ∷ front (name 2 1) 2 ∷ []) ((name 2 1, 0) ∷ (name 0 1, 0) ∷ (name 2 1, 1) ∷ [])
    ≡ (name 2 1, 0) ∷ (name 0 1, 0) ∷ (name 2 1, 1) ∷ (name 1 1, 0) ∷ []
unfolding put_by sort_by replay narrowed until onward through beyond gap stands_at
an_insert_narrows_where_its_first_cell_lies = refl

-- where it lies in the gap, it does
pub an_insert_of_a_greater_site_is_the_right_neighbour :
    put behind_one (front (name 0 1) 1 ∷ front (name 2 1) 2 ∷ []) ((name 0 1, 0) ∷ (name 2 1, 0) ∷ (name 2 1, 1) ∷ [])
    ≡ (name 0 1, 0) ∷ (name 1 1, 0) ∷ (name 2 1, 0) ∷ (name 2 1, 1) ∷ []
unfolding put_by sort_by replay narrowed until onward through beyond gap stands_at
an_insert_of_a_greater_site_is_the_right_neighbour = refl
