-- Marking: executing the form of one member more leaves that member's mark and no other change.
use Rattle.std.proofs.Common.{◌≡◌, ℕ, ◌+◌, ◌<◌, ◌≤◌, Bool, true, false, if◌then◌else◌, List, [], ◌∷◌, ◌++◌, length, filter, map, Option, Some, option_map, ◌⊎◌, inl, inr, refl, ap, ap₂, sym, ◌∙◌, subst, arith, take-append-drop}
use Rattle.std.specs.Prelude.{slice_get}
use Rattle.std.specs.Option.{option_map_or}
use Rattle.std.proofs.lemmas.Bool.{both_ways, false_from_ne_true}
use Rattle.std.proofs.lemmas.List.{length-map, map-append}
use Rattle.std.proofs.lemmas.Option.{slice_get-map}
use Rattle.op_name.specs.NameData.{NameData, name_eq}
use Rattle.op_name.specs.declared.member.Member.{Member}
use Rattle.op_name.specs.declared.member.Member.TheVariants.{Original}
use Rattle.context_diff.specs.Replays.{Cell}
use Rattle.ttf_form.specs.declared.ins.Ins.{Ins}
use Rattle.ttf_form.specs.declared.cover.Cover.{Cover}
use Rattle.ttf_form.specs.declared.cover.Mark.{Mark}
use Rattle.ttf_form.specs.declared.cover.Mark.TheVariants.{Own, By}
use Rattle.ttf_form.specs.declared.form.Form.{Form}
use Rattle.ttf_form.specs.declared.form.Form.TheVariants.{Ins as Insert, Cover as Covered}
use Rattle.ttf_form.specs.Forms.{place_of, IsBoundedForm, added_by}
use Rattle.ttf_form.specs.Cells.{CellData, marked, marked_if, marked_in, raised, bare_cells, put_in, change_at, cell_key, cells_of, applied}
use Rattle.ttf_form.specs.Laws.Lists.{change_behind, get_behind, map-put}
use Rattle.transform_rec.specs.Sets.{none, plus, plus_all}
use Rattle.transform_rec.specs.Lists.{IsIn}
use Rattle.transform_rec.proofs.CallerLemmas.{count, filter_in, filter_keeps, filter-append, length-count, in_right, count-append, plus_cases, plus_here, all_in, all_cases, none_closed, base_sound, derived_sound, IsForm, Forms, run, At, added_owner, derived_added, state_after, forms_run, run_listed, run_closed, part_state, one_more}
use Rattle.transform_rec.specs.Family.{Family, IsClosed}
use Rattle.transform_rec.specs.Derived.{IsFamily, weight}
use Rattle.transform_rec.specs.Derived.Derived.{at_base}
use Rattle.transform_rec.specs.Executing.{Setting, deriving_of, HasOwnNames, keep}
use Rattle.fixed_replay.proofs.Elements.{not_both, map_same}
use Rattle.fixed_replay.proofs.Counts.{count_none, count_zero, count-put, count_kept}
use Rattle.fixed_replay.proofs.Splits.{IsSplit, Split, split}
use Rattle.fixed_replay.proofs.Editor.{form_inclusion, form_table, form_at_place, setting_of, derived_insert}
use Rattle.fixed_replay.proofs.CoverStays.{cover_stays}
use Rattle.fixed_replay.proofs.Marks.{same_cell, same_cell_tells, same_cell_self, added_once, bare_at, bare_added, reaches, on_behind, form_on, form_on_name, mark_by, bears, marks_of, marks_plus, marks_none, marks_key}

-- a change at the one element where the functions differ
change_one : {A B : Type 0} (f g : A → B) (h : B → B) (xs : List A) (x : A) (ys : List A) (n : ℕ) → length xs ≡ n
    → ((z : A) → IsIn z xs → g z ≡ f z) → g x ≡ h (f x) → ((z : A) → IsIn z ys → g z ≡ f z)
    → change_at n h (map f (xs ++ (x ∷ ys))) ≡ map g (xs ++ (x ∷ ys))
change_one {A} {B} f g h xs x ys n l before here behind =
    ap (change_at n h) (map-append f xs (x ∷ ys))
    ∙ (change_behind h 0 n (map f xs) (f x ∷ map f ys) (let m = length-map xs f in omega arith)
    ∙ (ap₂ (λ (us : List B) (vs : List B). us ++ vs) (sym (map_same g f xs before))
    (ap₂ (λ (u : B) (us : List B). u ∷ us) (sym here) (sym (map_same g f ys behind)))
    ∙ sym (map-append g xs (x ∷ ys))))

map_after : {A B C : Type 0} (f : A → B) (g : B → C) (h : A → C) → ((x : A) → g (f x) ≡ h x) → (xs : List A) → map g (map f xs) ≡ map h xs
map_after f g h e [] = refl
map_after {A} {B} {C} f g h e (x ∷ xs) = ap₂ (λ (y : C) (ys : List C). y ∷ ys) (e x) (map_after f g h e xs)

-- a mark of an insert is on all cells of the name of the cell at its place
own_reaches : (f h : Cell → CellData) → ((e : Cell) → cell_key (f e) ≡ e) → (g n : ℕ) (xs : List Cell) (c : Cell) (ys : List Cell)
    → length xs ≡ n → ((e : Cell) → h e ≡ marked_if (reaches (Own g) c e) (Own g) (f e))
    → marked_in n (Own g) (map f (xs ++ (c ∷ ys))) ≡ map h (xs ++ (c ∷ ys))
own_reaches f h keys g n xs c ys at same =
    let cs = map f (xs ++ (c ∷ ys)) in
    let there : slice_get cs n ≡ Some (f c) =
    slice_get-map f (xs ++ (c ∷ ys)) n ∙ ap (option_map f) (get_behind 0 n xs (c ∷ ys) (omega (arith, at))) in
    let name : (e : Cell) → (f e).name ≡ e.0 = λ e. ap (λ (k : Cell). k.0) (keys e) in
    let one : (e : Cell) → raised g (f c).name (f e) ≡ h e =
    λ e. ap₂ (λ (m k : NameData). marked_if (name_eq m k) (Own g) (f e)) (name e) (name c) ∙ sym (same e) in
    ap (λ (o : Option CellData). option_map_or (λ (d : CellData). map (raised g d.name) cs) o cs) there
    ∙ map_after f (raised g (f c).name) h one (xs ++ (c ∷ ys))

-- the cells under a mark at the place of the cell c, if no other cell is c
mark_reaches : (f h : Cell → CellData) → ((e : Cell) → cell_key (f e) ≡ e) → (m : Mark) (n : ℕ) (xs : List Cell) (c : Cell) (ys : List Cell)
    → length xs ≡ n → ((e : Cell) → IsIn e xs ⊎ IsIn e ys → same_cell c e ≡ false)
    → ((e : Cell) → h e ≡ marked_if (reaches m c e) m (f e)) → marked_in n m (map f (xs ++ (c ∷ ys))) ≡ map h (xs ++ (c ∷ ys))
mark_reaches f h keys (Own g) n xs c ys at others same = own_reaches f h keys g n xs c ys at same
mark_reaches f h keys (By d g) n xs c ys at others same =
    let here : h c ≡ marked (By d g) (f c) = same c ∙ ap (λ (t : Bool). marked_if t (By d g) (f c)) (same_cell_self c) in
    let other : (e : Cell) → IsIn e xs ⊎ IsIn e ys → h e ≡ f e =
    λ e i. same e ∙ ap (λ (t : Bool). marked_if t (By d g) (f e)) (others e i) in
    change_one f h (marked (By d g)) xs c ys n at (λ e i. other e (inl i)) here (λ e i. other e (inr i))

module _ (b : Family Form) (known : IsFamily form_inclusion b) (own_names : HasOwnNames form_table b) where
  abbrev w : Setting Form (List CellData)
  w = setting_of b known own_names

  -- a causal list of members with their forms, executed from no cell
  module _ (L : List Member) (fs : List Form) (st : At w none []) (df : Forms w none L fs) where
    abbrev pub S : List Cell
    S = cells_of (run w [] fs)

    -- the cell under all marks of C that it bears
    abbrev pub full : (Member → Bool) → Cell → CellData
    full C c = marks_of b S C c b.members

    -- the cells of C with their marks
    abbrev pub HasMarks : (Member → Bool) → List CellData → Type 0
    HasMarks C u = u ≡ map (full C) (filter (keep C) S)

    pub base_within : (y : Member) → IsIn y L → (z : Member) → b.context y z ≡ true → IsIn z L
    base_within y i z e =
        let closed = run_closed w L none (none_closed b) (forms_run w L none fs df) in
        elim (all_cases L none z (closed.closed y (all_in L none y i) z e)) [ inl a ↦ not_both a refl | inr j ↦ j ]

    pub owner_in : (c : Cell) → IsIn c S → IsIn (Original c.0) L
    owner_in c i =
        elim (all_cases L none (Original c.0) ((state_after w L none [] fs st df).names c i)) [ inl a ↦ not_both a refl | inr j ↦ j ]

    -- each cell stands once
    once : (c : Cell) → IsIn c S → count (same_cell c) S ≤ 1
    once c i =
        let y : Member = Original c.0 in
        let f = b.form y in
        let needs = b.context y in
        let there = owner_in c i in
        let listed = run_listed w L none y (forms_run w L none fs df) there in
        let lacks = (base_sound b known.causal y listed).lacks in
        let P = filter (keep needs) S in
        let more : filter (keep (plus needs y)) S ≡ put_in (place_of f) (added_by f) P =
        one_more w form_at_place needs y f L [] fs st df (base_within y there) there (at_base listed (λ z. refl) refl) in
        let kept : count (same_cell c) (filter (keep (plus needs y)) S) ≡ count (same_cell c) S =
        count_kept (same_cell c) (keep (plus needs y))
        (λ e s. subst (λ (d : Cell). keep (plus needs y) d ≡ true) (same_cell_tells c e s) (plus_here needs y)) S in
        let none_seen : count (same_cell c) P ≡ 0 =
        count_none (same_cell c) P
        (λ e j. false_from_ne_true (same_cell c e)
        (λ s. both_ways (needs y) lacks
        (subst (λ (d : Cell). keep needs d ≡ true) (sym (same_cell_tells c e s)) (filter_in (keep needs) e S j).1))) in
        let parts = count-put (same_cell c) (place_of f) (added_by f) P in
        let total = ap (count (same_cell c)) more in
        let few = added_once f c in
        omega (arith, kept, none_seen, parts, total, few)

    -- the cells that bear a mark of C are in C
    bearer_in : (C : Member → Bool) → IsClosed b C → (z : Member) (c : Cell) → C z ≡ true → bears b S z c ≡ true → keep C c ≡ true
    bearer_in C closed z c h on =
        let r = form_on_name (b.form z) (filter (keep (b.context z)) S) c on in
        let seen = (filter_in (keep (b.context z)) r.0 S r.1).1 in
        subst (λ (n : NameData). C (Original n) ≡ true) (sym r.2) (closed.closed z h (Original r.0.0) seen)

    -- a cell of a member that C lacks has no mark of C
    bare_cell : (C : Member → Bool) → IsClosed b C → (x : Member) (e : Ins) (c : Cell) → C x ≡ false → b.form x ≡ Insert e
        → x ≡ Original c.0 → full C c ≡ bare_at c (Insert e)
    bare_cell C closed x e c lacks base owner =
        let none_on : (z : Member) → C z ≡ true → bears b S z c ≡ false =
        λ z h. false_from_ne_true (bears b S z c)
        (λ on. both_ways (C x) lacks (subst (λ (y : Member). C y ≡ true) (sym owner) (bearer_in C closed z c h on))) in
        marks_none b S C c b.members none_on ∙ ap (bare_at c) (ap b.form (sym owner) ∙ base)

    insert_step : (C : Member → Bool) (x : Member) (u : List CellData) (f : Form) (e : Ins) → b.form x ≡ Insert e
        → ((z : Member) → C z ≡ true → IsIn z L) → IsIn x L → HasMarks C u → IsForm w x C f → HasMarks (plus C x) (applied u f)
    insert_step C x u f e base within i marks form =
        let ki = derived_insert b e x C f base form in
        let a = ki.ins in
        let added = added_by (Insert a) in
        let form' : IsForm w x C (Insert a) = subst (λ (g : Form). IsForm w x C g) ki.is form in
        let sound = derived_sound (deriving_of w) x C f form in
        let P = filter (keep C) S in
        let more : filter (keep (plus C x)) S ≡ put_in a.place added P =
        one_more w form_at_place C x (Insert a) L [] fs st df within i form' in
        let same : (c : Cell) → full (plus C x) c ≡ full C c =
        λ c. marks_plus b S C x c b.members sound.lacks sound.listed known.causal.distinct
        ∙ ap (λ (g : Form). mark_by g (bears b S x c) (full C c)) base in
        let bare : (c : Cell) → IsIn c added → bare_at c (Insert e) ≡ full (plus C x) c =
        λ c j. sym (same c ∙ bare_cell C sound.set x e c sound.lacks base (added_owner w x C (Insert a) form' c j)) in
        let as_base : added ≡ added_by (Insert e) = derived_added w x C (Insert a) form' ∙ ap added_by base in
        let new : bare_cells a ≡ map (full (plus C x)) added =
        ki.bare ∙ (sym (bare_added e)
        ∙ (ap (map (λ (c : Cell). bare_at c (Insert e))) (sym as_base)
        ∙ map_same (λ (c : Cell). bare_at c (Insert e)) (full (plus C x)) added bare)) in
        let old : u ≡ map (full (plus C x)) P = marks ∙ map_same (full C) (full (plus C x)) P (λ c j. sym (same c)) in
        ap (applied u) ki.is
        ∙ (ap₂ (λ (us vs : List CellData). put_in a.place us vs) new old
        ∙ (sym (map-put (full (plus C x)) a.place added P) ∙ ap (map (full (plus C x))) (sym more)))

    -- the cell that a cover hits, split off among all cells
    target_split : (x : Member) (d : Cover) → b.form x ≡ Covered d → IsIn x L → Split (keep (b.context x)) d.place S
    target_split x d base i =
        let listed = run_listed w L none x (forms_run w L none fs df) i in
        let sound = base_sound b known.causal x listed in
        let part =
        part_state w (b.context x) L none [] fs sound.set.closed st df (λ z e. not_both e refl) (λ z e. inr (base_within x i z e)) in
        let long : count (keep (b.context x)) S ≡ weight form_inclusion b (b.context x) =
        sym (length-count (keep (b.context x)) S) ∙ (ap length part.2 ∙ part.1.weighs) in
        let bounded : d.place < weight form_inclusion b (b.context x) =
        subst (λ (f : Form). IsBoundedForm f (weight form_inclusion b (b.context x))) base (known.bounded x listed) in
        split (keep (b.context x)) d.place S (omega arith)

    parts_of : (p : Cell → Bool) (before : List Cell) (c : Cell) (behind : List Cell) → S ≡ before ++ (c ∷ behind) → p c ≡ true
        → filter p S ≡ filter p before ++ (c ∷ filter p behind)
    parts_of p before c behind whole passes =
        ap (filter p) whole ∙ (filter-append p before (c ∷ behind)
        ∙ ap (λ (cs : List Cell). filter p before ++ cs) (filter_keeps p c behind passes))

    -- the cells that bear the mark of a cover are those that it reaches from the cell that is split off
    bears_split : (x : Member) (d : Cover) (before : List Cell) (c : Cell) (behind : List Cell) → b.form x ≡ Covered d
        → IsSplit (keep (b.context x)) d.place S before c behind → (e : Cell) → bears b S x e ≡ reaches d.mark c e
    bears_split x d before c behind base at e =
        ap₂ (λ (f : Form) (cs : List Cell). form_on f cs e) base (parts_of (keep (b.context x)) before c behind at.whole at.passes)
        ∙ on_behind d.mark (filter (keep (b.context x)) before) c (filter (keep (b.context x)) behind) d.place e
        (length-count (keep (b.context x)) before ∙ at.at)

    -- no cell beside a split is the cell that is split off
    other_cell : (before : List Cell) (c : Cell) (behind : List Cell) → S ≡ before ++ (c ∷ behind) → (e : Cell)
        → IsIn e before ⊎ IsIn e behind → same_cell c e ≡ false
    other_cell before c behind whole e i =
        let few = once c (subst (λ (cs : List Cell). IsIn c cs) (sym whole) (in_right c before (c ∷ behind) (inl refl))) in
        let parts : count (same_cell c) S ≡ count (same_cell c) before + count (same_cell c) (c ∷ behind) =
        ap (count (same_cell c)) whole ∙ count-append (same_cell c) before (c ∷ behind) in
        let here : count (same_cell c) (c ∷ behind) ≡ 1 + count (same_cell c) behind =
        ap (λ (h : Bool). (if h then 1 else 0) + count (same_cell c) behind) (same_cell_self c) in
        elim i [
          | inl j ↦ count_zero (same_cell c) before e (omega (arith, few, parts, here)) j
          | inr j ↦ count_zero (same_cell c) behind e (omega (arith, few, parts, here)) j
        ]

    cover_step : (C : Member → Bool) (x : Member) (u : List CellData) (f : Form) (d : Cover) → b.form x ≡ Covered d
        → ((z : Member) → C z ≡ true → IsIn z L) → IsIn x L → HasMarks C u → IsForm w x C f → HasMarks (plus C x) (applied u f)
    cover_step C x u f d base within i marks form =
        let sound = derived_sound (deriving_of w) x C f form in
        let sp = target_split x d base i in
        let c = sp.it in
        let stays =
        cover_stays b known own_names L [] fs st df x d.mark d.place (record { cover = d; is = base; mark_is = refl; place_is = refl })
        sp.before c sp.behind sp.is C within f form in
        let k = stays.1.cover in
        let form' : IsForm w x C (Covered k) = subst (λ (g : Form). IsForm w x C g) stays.1.is form in
        let P = filter (keep C) S in
        let more : filter (keep (plus C x)) S ≡ P =
        one_more w form_at_place C x (Covered k) L [] fs st df within i form' ∙ take-append-drop k.place P in
        let A = filter (keep C) sp.before in
        let B = filter (keep C) sp.behind in
        let parts : P ≡ A ++ (c ∷ B) = parts_of (keep C) sp.before c sp.behind sp.is.whole stays.0 in
        let place : length A ≡ k.place = length-count (keep C) sp.before ∙ sym stays.1.place_is in
        let others : (e : Cell) → IsIn e A ⊎ IsIn e B → same_cell c e ≡ false = λ e j. other_cell sp.before c sp.behind sp.is.whole e
        (elim j [ inl l ↦ inl (filter_in (keep C) e sp.before l).0 | inr l ↦ inr (filter_in (keep C) e sp.behind l).0 ]) in
        let same : (e : Cell) → full (plus C x) e ≡ marked_if (reaches d.mark c e) d.mark (full C e) = λ e.
        marks_plus b S C x e b.members sound.lacks sound.listed known.causal.distinct
        ∙ ap₂ (λ (g : Form) (h : Bool). mark_by g h (full C e)) base (bears_split x d sp.before c sp.behind base sp.is e) in
        let keys : (e : Cell) → cell_key (full C e) ≡ e = λ e. marks_key b S C e b.members in
        ap (applied u) stays.1.is
        ∙ (ap₂ (λ (m : Mark) (us : List CellData). marked_in k.place m us) stays.1.mark_is (marks ∙ ap (map (full C)) parts)
        ∙ (mark_reaches (full C) (full (plus C x)) keys d.mark k.place A c B place others same
        ∙ ap (map (full (plus C x))) (sym (more ∙ parts))))

    -- executing the form of one member more leaves its mark
    pub marks_step : (C : Member → Bool) (x : Member) (u : List CellData) (f : Form) → ((z : Member) → C z ≡ true → IsIn z L) → IsIn x L
        → HasMarks C u → IsForm w x C f → HasMarks (plus C x) (applied u f)
    marks_step C x u f within i marks form = by_form (b.form x) refl
      where
        by_form : (g : Form) → b.form x ≡ g → HasMarks (plus C x) (applied u f)
        by_form (Insert e) p = insert_step C x u f e p within i marks form
        by_form (Covered d) p = cover_step C x u f d p within i marks form

    pub marks_along : (xs : List Member) (gs : List Form) (C : Member → Bool) (u : List CellData) → ((z : Member) → C z ≡ true → IsIn z L)
        → ((z : Member) → IsIn z xs → IsIn z L) → HasMarks C u → Forms w C xs gs → HasMarks (plus_all C xs) (run w u gs)
    marks_along [] [] C u within all marks forms = marks
    marks_along [] (g ∷ gs) C u within all marks forms = absurd forms
    marks_along (x ∷ xs) [] C u within all marks forms = absurd forms
    marks_along (x ∷ xs) (g ∷ gs) C u within all marks forms =
        marks_along xs gs (plus C x) (applied u g)
        (λ z h. elim (plus_cases C x z h) [ inl e ↦ within z e | inr e ↦ subst (λ (y : Member). IsIn y L) e (all x (inl refl)) ])
        (λ z i. all z (inr i)) (marks_step C x u g within (all x (inl refl)) marks forms.0) forms.1

    no_cells : (cs : List Cell) → filter (keep none) cs ≡ []
    no_cells [] = refl
    no_cells (c ∷ cs) = no_cells cs

    -- the state after executing is its own cells with all their marks
    pub state_marks : HasMarks (plus_all none L) (run w [] fs)
    state_marks = marks_along L fs none [] (λ z h. not_both h refl) (λ z i. i) (sym (ap (map (full none)) (no_cells S))) df
