-- Worked cases of applying and of what is shown, by computation.
use Rattle.std.proofs.Common.{◌≡◌, ℕ, true, false, [], ◌∷◌, map, refl}
use Rattle.op_name.specs.NameData.{NameData}
use Rattle.ttf_form.specs.declared.cover.Mark.TheVariants.{Own, By}
use Rattle.ttf_form.specs.Cells.{CellData, raise_in, marked, marked_in, put_in, cell_shown}

abbrev first_delete : NameData
first_delete = record { site = 0; number = 3 }

abbrev other_delete : NameData
other_delete = record { site = 1; number = 1 }

abbrev letter : CellData
letter = record { name = record { site = 0; number = 1 }; offset = 0; of = 1; generation = 0; deleters = [] }

a_bare_cell_is_shown : cell_shown letter ≡ true
a_bare_cell_is_shown = refl

a_delete_hides : cell_shown (marked (By first_delete 0) letter) ≡ false
unfolding raise_in
a_delete_hides = refl

an_undone_delete_shows : cell_shown (marked (By first_delete 1) (marked (By first_delete 0) letter)) ≡ true
unfolding raise_in
an_undone_delete_shows = refl

-- marks come in any order
an_early_undo_shows : cell_shown (marked (By first_delete 0) (marked (By first_delete 1) letter)) ≡ true
unfolding raise_in
an_early_undo_shows = refl

a_redone_delete_hides : cell_shown (marked (By first_delete 2) (marked (By first_delete 1) letter)) ≡ false
unfolding raise_in
a_redone_delete_hides = refl

one_of_two_deletes_undone_hides : cell_shown (marked (By first_delete 1) (marked (By other_delete 0) (marked (By first_delete 0) letter)))
    ≡ false
unfolding raise_in
one_of_two_deletes_undone_hides = refl

an_undone_insert_is_hidden : cell_shown (marked (Own 1) letter) ≡ false
an_undone_insert_is_hidden = refl

a_redone_insert_is_shown : cell_shown (marked (Own 2) (marked (Own 1) letter)) ≡ true
a_redone_insert_is_shown = refl

deleters_are_sorted : (marked (By first_delete 0) (marked (By other_delete 0) letter)).deleters
    ≡ (first_delete, 0) ∷ ((other_delete, 0) ∷ [])
unfolding raise_in
deleters_are_sorted = refl

-- an insert of two cells between which another one stands
abbrev pair_of : ℕ → ℕ → CellData
pair_of offset generation =
    record { name = record { site = 0; number = 2 }; offset = offset; of = 2; generation = generation; deleters = [] }

an_undo_is_on_all_cells_of_its_insert : marked_in 0 (Own 1) (pair_of 0 0 ∷ (letter ∷ (pair_of 1 0 ∷ [])))
    ≡ pair_of 0 1 ∷ (letter ∷ (pair_of 1 1 ∷ []))
an_undo_is_on_all_cells_of_its_insert = refl

a_delete_is_on_its_cell_alone : map cell_shown (marked_in 2 (By first_delete 0) (pair_of 0 0 ∷ (letter ∷ (pair_of 1 0 ∷ []))))
    ≡ true ∷ (true ∷ (false ∷ []))
unfolding raise_in
a_delete_is_on_its_cell_alone = refl

-- in front of the cell at the place, and after the last
a_put_in_front : put_in {A = ℕ} 1 (7 ∷ []) (5 ∷ (6 ∷ [])) ≡ 5 ∷ (7 ∷ (6 ∷ []))
a_put_in_front = refl

a_put_behind : put_in {A = ℕ} 2 (7 ∷ []) (5 ∷ (6 ∷ [])) ≡ 5 ∷ (6 ∷ (7 ∷ []))
a_put_behind = refl
