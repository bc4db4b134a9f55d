-- What is told of the first cells of a text, where only the cells at some places tell anything.
use Rattle.std.proofs.Common.{◌≡◌, ℕ, zero, suc, ◌+◌, ◌-◌, ◌<◌, ◌≤◌, List, [], ◌∷◌, ◌++◌, Some, None, length, take, get_or, slice_get, inl, inr, refl, ap, sym, ◌∙◌, arith}
use Rattle.std.specs.Prelude.{All, Contains}
use Rattle.std.specs.List.Sorted.{IsStrictlyIncreasing}
use Rattle.std.proofs.lemmas.Bool.{cases_lt}
use Rattle.std.proofs.lemmas.List.{get_or_default, get_or_past, take_all}
use Rattle.std.proofs.lemmas.Option.{slice_get_within}
use Rattle.context_vector.specs.Contexts.{ContextData}
use Rattle.ttf_form.specs.Cells.{CellData}
use Rattle.tombstone_text.specs.Chunks.{shown_in}
use Rattle.change_list.specs.declared.change.Change.{Change}
use Rattle.change_list.specs.Told.{told}
use Rattle.change_list.proofs.CallerLemmas.{told_same}
use Rattle.site_changes.specs.Code.Marks.{mark_of, marks_of, IsQuietBut, TellsOneMore}
use Rattle.site_changes.proofs.Marks.{marks_more, told_one}

-- ---- places that rise

at_same : (ps : List ℕ) (i j : ℕ) → i ≡ j → get_or ps i 0 ≡ get_or ps j 0
at_same ps i j e = ap (λ (n : ℕ). get_or ps n 0) e

rises : (ps : List ℕ) → IsStrictlyIncreasing ps → (i d : ℕ) → i + d < length ps → get_or ps i 0 ≤ get_or ps (i + d) 0
rises ps up i zero lt = omega (arith, at_same ps (i + 0) i (omega arith))
rises ps up i (suc d) lt =
    omega (
      arith,
      rises ps up i d (omega (arith, lt)),
      up (i + d) (omega (arith, lt)),
      at_same ps (i + suc d) ((i + d) + 1) (omega arith),
    )

-- where the j-th of the places is, and where there are fewer, the end
abbrev pub next_place : List ℕ → ℕ → ℕ → ℕ
next_place ps j end = get_or ps j end

-- no place stands in front of the first one
none_first : (ps : List ℕ) → IsStrictlyIncreasing ps → (end p : ℕ) → p < next_place ps 0 end → Contains ps p → ⊥
none_first ps up end p lt at =
    let first = rises ps up 0 at.0 (omega (arith, at.1)) in
    let there : get_or ps at.0 0 ≡ p = get_or_default ps at.0 0 p at.1 ∙ at.2 in
    let here : get_or ps 0 end ≡ get_or ps 0 0 = get_or_default ps 0 end 0 (omega (arith, at.1)) in
    let same = at_same ps (0 + at.0) at.0 (omega arith) in
    omega (arith, lt, first, there, here, same)

-- nor between two neighbours
none_between : (ps : List ℕ) → IsStrictlyIncreasing ps → (end j p : ℕ) → j < length ps → next_place ps j end < p
    → p < next_place ps (j + 1) end → Contains ps p → ⊥
none_between ps up end j p inside after before at = elim (cases_lt j at.0) [
  | inl later ↦
      let next = rises ps up (j + 1) (at.0 - (j + 1)) (omega (arith, later, at.1)) in
      let same = at_same ps ((j + 1) + (at.0 - (j + 1))) at.0 (omega (arith, later)) in
      let there : get_or ps at.0 0 ≡ p = get_or_default ps at.0 0 p at.1 ∙ at.2 in
      let here : get_or ps (j + 1) end ≡ get_or ps (j + 1) 0 = get_or_default ps (j + 1) end 0 (omega (arith, later, at.1)) in
      omega (arith, before, next, same, there, here)
  | inr earlier ↦
      let last = rises ps up at.0 (j - at.0) (omega (arith, earlier, inside)) in
      let same = at_same ps (at.0 + (j - at.0)) j (omega (arith, earlier)) in
      let there : get_or ps at.0 0 ≡ p = get_or_default ps at.0 0 p at.1 ∙ at.2 in
      let here : get_or ps j end ≡ get_or ps j 0 = get_or_default ps j end 0 inside in
      omega (arith, after, last, same, there, here)
]

-- ---- cells that tell nothing

got : (ds : List CellData) (p : ℕ) → p < length ds → (d : CellData) × (slice_get ds p ≡ Some d)
got [] p lt = absurd (omega (arith, lt))
got (d ∷ ds) zero lt = (d, refl)
got (d ∷ ds) (suc p) lt = got ds p (omega (arith, lt))

pub taken_one : (ds : List CellData) (p : ℕ) (d : CellData) → slice_get ds p ≡ Some d → take (p + 1) ds ≡ take p ds ++ d ∷ []
taken_one ds p d e = let on : p + 1 ≡ suc p = omega arith in ap (λ (n : ℕ). take n ds) on ∙ taken ds p e
  where
    taken : (xs : List CellData) (k : ℕ) → slice_get xs k ≡ Some d → take (suc k) xs ≡ take k xs ++ d ∷ []
    taken [] k e = let none : None ≡ Some d = e in cc
    taken (x ∷ xs) zero e = let is : x ≡ d = cc in ap (λ (y : CellData). y ∷ []) is
    taken (x ∷ xs) (suc k) e = ap (λ (l : List CellData). x ∷ l) (taken xs k e)

module _ (c : ContextData) (ds : List CellData) (ps : List ℕ) (quiet : IsQuietBut c ds ps) where
  -- as much is told of the first cells as of fewer, where none of the places is between
  quiet_stretch : (a n : ℕ) → a + n ≤ length ds → ((p : ℕ) → a ≤ p → p < a + n → Contains ps p → ⊥)
      → told (marks_of c (take (a + n) ds)) ≡ told (marks_of c (take a ds))
  quiet_stretch a zero le none = let same : a + 0 ≡ a = omega arith in ap (λ (k : ℕ). told (marks_of c (take k ds))) same
  quiet_stretch a (suc n) le none =
      let d = got ds (a + n) (omega (arith, le)) in
      let alike = quiet (a + n) d.0 d.1 (none (a + n) (omega arith) (omega arith)) in
      let on : a + suc n ≡ (a + n) + 1 = omega arith in
      ap (λ (k : ℕ). told (marks_of c (take k ds))) on
      ∙ ap (λ (l : List CellData). told (marks_of c l)) (taken_one ds (a + n) d.0 d.1)
      ∙ ap (λ ms. told ms) (marks_more c (take (a + n) ds) d.0)
      ∙ told_same (marks_of c (take (a + n) ds)) (mark_of c d.0) alike
      ∙ quiet_stretch a n (omega (arith, le)) (λ p low high. none p low (omega (arith, high)))

  -- the same up to a greater end
  quiet_to : (a b : ℕ) → a ≤ b → b ≤ length ds → ((p : ℕ) → a ≤ p → p < b → Contains ps p → ⊥)
      → told (marks_of c (take b ds)) ≡ told (marks_of c (take a ds))
  quiet_to a b le few none =
      let same : a + (b - a) ≡ b = omega (arith, le) in
      ap (λ (k : ℕ). told (marks_of c (take k ds))) (sym same)
      ∙ quiet_stretch a (b - a) (omega (arith, same, few)) (λ p low high. none p low (omega (arith, same, high)))

  module _ (up : IsStrictlyIncreasing ps) (inside : All (λ p. p < length ds) ps) where
    -- a next place is there, or it is the end
    next_few : (j : ℕ) → next_place ps j (length ds) ≤ length ds
    next_few j = elim (cases_lt j (length ps)) [
      | inl lt ↦ omega (arith, inside j (length ds) lt)
      | inr le ↦ omega (arith, get_or_past ps j (length ds) le)
    ]

    -- the next place is behind
    next_more : (j : ℕ) → j < length ps → next_place ps j (length ds) + 1 ≤ next_place ps (j + 1) (length ds)
    next_more j lt = elim (cases_lt (j + 1) (length ps)) [
      | inl more ↦ omega (arith, up j more, get_or_default ps j (length ds) 0 lt, get_or_default ps (j + 1) (length ds) 0 more)
      | inr last ↦ omega (arith, inside j (length ds) lt, get_or_past ps (j + 1) (length ds) last)
    ]

    -- nothing is told of the cells in front of the first place
    pub told_first : [] ≡ told (marks_of c (take (next_place ps 0 (length ds)) ds))
    told_first =
        sym (quiet_to 0 (next_place ps 0 (length ds)) (omega arith) (next_few 0) (λ p low high. none_first ps up (length ds) p high))

    -- where the cells in front of a place were told, and then the one there, those in front of the next place were told
    pub told_next : (j : ℕ) (d : CellData) (old new : List Change) (v : ℕ) → j < length ps
        → slice_get ds (next_place ps j (length ds)) ≡ Some d
        → old ≡ told (marks_of c (take (next_place ps j (length ds)) ds))
        → v ≡ shown_in (take (next_place ps j (length ds)) ds) → TellsOneMore v (mark_of c d) old new
        → new ≡ told (marks_of c (take (next_place ps (j + 1) (length ds)) ds))
    told_next j d old new v lt at was front more =
        let p = next_place ps j (length ds) in
        let q = next_place ps (j + 1) (length ds) in
        told_one c (take p ds) d old new v was front more
        ∙ ap (λ (l : List CellData). told (marks_of c l)) (sym (taken_one ds p d at))
        ∙ sym (quiet_to (p + 1) q (next_more j lt) (next_few (j + 1)) (λ k low high.
        none_between ps up (length ds) j k lt (omega (arith, low)) high))

    -- once no place is left, all were told
    pub told_end : (j : ℕ) (cs : List Change) → length ps ≤ j → cs ≡ told (marks_of c (take (next_place ps j (length ds)) ds))
        → cs ≡ told (marks_of c ds)
    told_end j cs done is =
        is
        ∙ ap (λ (n : ℕ). told (marks_of c (take n ds))) (get_or_past ps j (length ds) done)
        ∙ ap (λ (l : List CellData). told (marks_of c l)) (take_all (length ds) ds (omega arith))

-- ---- one place

one_rises : (p : ℕ) → IsStrictlyIncreasing (p ∷ [])
one_rises p i lt = absurd (omega (arith, lt))

module _ (c : ContextData) (ds : List CellData) (p : ℕ) (quiet : IsQuietBut c ds (p ∷ [])) where
  one_inside : p < length ds → All (λ n. n < length ds) (p ∷ [])
  one_inside lt zero d less = lt
  one_inside lt (suc i) d less = absurd (omega (arith, less))

  -- nothing is told of the cells in front of the only place
  pub one_first : p < length ds → [] ≡ told (marks_of c (take p ds))
  one_first lt = told_first c ds (p ∷ []) quiet (one_rises p) (one_inside lt)

  -- and once the cell there was told, all were
  pub one_told : (d : CellData) (old new : List Change) (v : ℕ) → slice_get ds p ≡ Some d → old ≡ [] → v ≡ shown_in (take p ds)
      → TellsOneMore v (mark_of c d) old new → new ≡ told (marks_of c ds)
  one_told d old new v at none front more =
      let lt = slice_get_within ds p d at in
      let up = one_rises p in
      let inside = one_inside lt in
      told_end c ds (p ∷ []) quiet up inside 1 new (omega arith)
      (told_next c ds (p ∷ []) quiet up inside 0 d old new v (omega arith) at (none ∙ one_first lt) front more)
