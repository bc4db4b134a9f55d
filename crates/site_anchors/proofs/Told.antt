-- What the places of anchors are: where the marks of a site's cells say that they are, and those for which they were made.
use Rattle.std.proofs.Common.{◌≡◌, ◌↔◌, ℕ, zero, suc, ◌+◌, ◌-◌, ◌<◌, ◌≤◌, ◌≢◌, true, false, List, [], ◌∷◌, ◌++◌, Option, Some, None, IsNone, IfSome, is_some, length, filter, map, take, get_or, slice_get, option_map, inl, inr, refl, sym, ap, ◌∙◌, subst, arith, true≢false, length-append}
use Rattle.std.specs.Prelude.{Contains, position}
use Rattle.std.proofs.lemmas.Bool.{cases_Bool, cases_eq}
use Rattle.std.proofs.lemmas.List.{length-map}
use Rattle.std.proofs.lemmas.List.Filters.{length-filter_more}
use Rattle.std.proofs.lemmas.List.Quantifiers.{position-Some}
use Rattle.std.proofs.lemmas.Option.{slice_get-map, slice_get_within, slice_get_cases, slice_get_past, slice_get-get_or, get_or_from_slice_get}
use Rattle.context_diff.specs.Operations.{OpData}
use Rattle.context_diff.specs.Histories.{IsValid}
use Rattle.context_diff.specs.Replays.{Cell, replay_of, is_shown, shown}
use Rattle.ttf_form.specs.Cells.{CellData, cell_key, cells_of, cell_shown}
use Rattle.ttf_form.specs.Families.{IsIn}
use Rattle.visible_view.specs.View.{shown_cells}
use Rattle.fixed_replay.specs.Replayed.{IsReplayed}
use Rattle.transform_rec.proofs.CallerLemmas.{count}
use Rattle.fixed_replay.proofs.CallerLemmas.{replayed_shown}
use Rattle.undo_group.specs.Laws.Members.{in_contains}
use Rattle.tombstone_text.specs.Cells.{is_cell}
use Rattle.tombstone_text.specs.declared.cell.CellId.{CellId}
use Rattle.site_anchors.specs.declared.anchors.Side.{Side}
use Rattle.site_anchors.specs.declared.anchors.Side.TheVariants.{Left, Right}
use Rattle.site_anchors.specs.declared.anchors.Anchor.{Anchor}
use Rattle.site_anchors.specs.declared.anchors.Anchor.TheVariants.{Start, End, After, Before}
use Rattle.site_anchors.specs.Anchors.{cell_at, id_of, is_same, has_cell, cells_before, shown_before, shown_up_to, where_had, place_told, anchors_of, IsUnknown}
use Rattle.site_anchors.proofs.Cells.{one_if, one_hit, one_miss, stands_once, same_cell, itself}
use Rattle.site_anchors.proofs.Fronts.{counted_at, front_is, front_within, up_to_within, kept_there, kept_behind}

-- ---- by the cells of a site

-- as many cells are shown in front of a place by their marks as by the history
shown_front : (h : List OpData) (cs : List CellData) (n : ℕ) → ((d : CellData) → IsIn d cs → cell_shown d ≡ is_shown h (cell_key d))
    → length (shown_cells (take n cs)) ≡ length (filter (is_shown h) (take n (cells_of cs)))
shown_front h [] zero same = refl
shown_front h [] (suc n) same = refl
shown_front h (c ∷ cs) zero same = refl
shown_front h (c ∷ cs) (suc n) same =
    let rest = shown_front h cs n (λ d i. same d (inr i)) in
    let head = same c (inl refl) in
    elim (cases_Bool (cell_shown c)) [ inl e ↦ rw (e, sym head ∙ e) (ap suc rest) | inr e ↦ rw (e, sym head ∙ e) rest ]

module _ (h : List OpData) (valid : IsValid h) (c : Cell) where
  once : count (is_same c) (replay_of h) ≤ 1
  once = let e = stands_once h c valid in elim (cases_Bool (has_cell h c)) [
    | inl has ↦ omega (arith, e, ap one_if has)
    | inr miss ↦ omega (arith, e, ap one_if miss)
  ]

  -- the cells in front of the one at a place
  front_at : (p : ℕ) → slice_get (replay_of h) p ≡ Some c → take p (replay_of h) ≡ cells_before h c
  front_at p got = front_is (is_same c) (replay_of h) p c once got (itself c)

  module _ (cs : List CellData) (is : IsReplayed h cs) (p : ℕ) (got : slice_get (cells_of cs) p ≡ Some c) where
    there : slice_get (replay_of h) p ≡ Some c
    there = ap (λ (l : List Cell). slice_get l p) (sym is.cells) ∙ got

    pub counted_before : length (shown_cells (take p cs)) ≡ shown_before h c
    counted_before =
        shown_front h cs p is.shown
        ∙ ap (λ (l : List Cell). length (filter (is_shown h) (take p l))) is.cells
        ∙ ap (λ (l : List Cell). length (filter (is_shown h) l)) (front_at p there)

    pub counted_up_to : length (shown_cells (take (p + 1) cs)) ≡ shown_up_to h c
    counted_up_to =
        let xs = replay_of h in
        let last = ap (λ (d : Cell). one_if (is_shown h d)) (get_or_from_slice_get xs p c c there) in
        omega (
          arith,
          shown_front h cs (p + 1) is.shown,
          ap (λ (l : List Cell). length (filter (is_shown h) (take (p + 1) l))) is.cells,
          length-filter_more (is_shown h) xs p c (slice_get_within xs p c there),
          ap (λ (l : List Cell). length (filter (is_shown h) l)) (front_at p there),
          last,
        )

-- a cell that is counted is in the list
counted_in : (c : Cell) (xs : List Cell) → 1 ≤ count (is_same c) xs → IsIn c xs
counted_in c [] some = absurd (omega (arith, some))
counted_in c (x ∷ xs) some = elim (cases_Bool (is_same c x)) [
  | inl hit ↦ inl (sym (same_cell c x hit))
  | inr miss ↦
      let zero = one_miss (is_same c x) miss in
      inr (counted_in c xs (omega (arith, some, zero)))
]

there_once : (h : List OpData) (c : Cell) → IsValid h → has_cell h c ≡ true → 1 ≤ count (is_same c) (replay_of h)
there_once h c valid has = omega (arith, stands_once h c valid, ap one_if has)

-- what the history has is among the cells
pub there_among : (h : List OpData) (cs : List CellData) (c : Cell) → IsValid h → IsReplayed h cs → has_cell h c ≡ true
    → Contains (cells_of cs) c
there_among h cs c valid is has =
    subst (λ (l : List Cell). Contains l c) (sym is.cells)
    (in_contains c (replay_of h) (counted_in c (replay_of h) (there_once h c valid has)))

-- what stands among the cells the history has
pub stood_had : (h : List OpData) (cs : List CellData) (c : Cell) (p : ℕ) → IsValid h → IsReplayed h cs → slice_get (cells_of cs) p ≡ Some c
    → has_cell h c ≡ true
stood_had h cs c p valid is got =
    let there : slice_get (replay_of h) p ≡ Some c = ap (λ (l : List Cell). slice_get l p) (sym is.cells) ∙ got in
    let some = counted_at (is_same c) (replay_of h) p c there (itself c) in
    elim (cases_Bool (has_cell h c)) [
      | inl has ↦ has
      | inr miss ↦ absurd (omega (arith, some, stands_once h c valid, ap one_if miss))
    ]

-- what is found by its name and offset is that cell
pub found_at : (id : CellId) (cs : List CellData) (p : ℕ) → Some p ≡ position (is_cell id) cs
    → slice_get (cells_of cs) p ≡ Some (cell_at id)
found_at id cs p e =
    let d : CellData = record { name = id.name; offset = id.offset; of = 0; generation = 0; deleters = [] } in
    let r = position-Some (is_cell id) cs p d (sym e) in
    slice_get-map cell_key cs p
    ∙ ap (λ (o : Option CellData). option_map cell_key o) (slice_get-get_or cs p d r.0)
    ∙ ap (λ (c : Cell). Some c) (same_cell (cell_at id) (cell_key (get_or cs p d)) r.1)

-- ---- where the history has the cell

pub where_is : (h : List OpData) (c : Cell) (n m : ℕ) → has_cell h c ≡ true → m ≡ n → Some m ≡ where_had h c n
where_is h c n m has e = rw (has, e) refl

pub where_not : (h : List OpData) (c : Cell) (n : ℕ) → has_cell h c ≡ false → None ≡ where_had h c n
where_not h c n miss = rw miss refl

where_some : (h : List OpData) (c : Cell) (n v : ℕ) → where_had h c n ≡ Some v → (has_cell h c ≡ true) × (n ≡ v)
where_some h c n v e = elim (cases_Bool (has_cell h c)) [
  | inl has ↦ (has, let same : Some n ≡ Some v = where_is h c n n has refl ∙ e in cc)
  | inr miss ↦ let none : None ≡ Some v = where_not h c n miss ∙ e in absurd (cc)
]

where_none : (h : List OpData) (c : Cell) (n : ℕ) (r : Option ℕ) → r ≡ where_had h c n → IsNone r ↔ (has_cell h c ≡ false)
where_none h c n r e = elim (cases_Bool (has_cell h c)) [
  | inl has ↦ let some : r ≡ Some n = e ∙ sym (where_is h c n n has refl) in (
    λ none. absurd (true≢false (sym (ap (λ (o : Option ℕ). is_some o) some) ∙ none)),
    λ miss. absurd (true≢false (sym has ∙ miss)),
  )
  | inr miss ↦ (λ none. miss, λ _. ap (λ (o : Option ℕ). is_some o) (e ∙ sym (where_not h c n miss)))
]

-- none has a place exactly beside a cell that the history hasn't
pub answer_none : (h : List OpData) (a : Anchor) (r : Option ℕ) → r ≡ place_told h a → IsNone r ↔ IsUnknown h a
answer_none h Start r e =
    (λ none. true≢false (sym (ap (λ (o : Option ℕ). is_some o) e) ∙ none), λ never. absurd never)
answer_none h End r e =
    (λ none. true≢false (sym (ap (λ (o : Option ℕ). is_some o) e) ∙ none), λ never. absurd never)
answer_none h (After id) r e = where_none h (cell_at id) (shown_up_to h (cell_at id)) r e
answer_none h (Before id) r e = where_none h (cell_at id) (shown_before h (cell_at id)) r e

-- an anchor's place is one of the text
pub told_within : (h : List OpData) (a : Anchor) (v : ℕ) → IsValid h → place_told h a ≡ Some v → v ≤ length (shown h)
told_within h Start v valid e = let is : 0 ≡ v = cc in omega arith
told_within h End v valid e = let is : length (shown h) ≡ v = cc in omega arith
told_within h (After id) v valid e =
    let c = cell_at id in
    let r = where_some h c (shown_up_to h c) v e in
    omega (arith, r.1, up_to_within c (is_shown h) (replay_of h) (there_once h c valid r.0))
told_within h (Before id) v valid e =
    let c = cell_at id in
    let r = where_some h c (shown_before h c) v e in
    omega (arith, r.1, front_within (is_same c) (is_shown h) (replay_of h))

pub answer_within : (h : List OpData) (a : Anchor) (r : Option ℕ) → IsValid h → r ≡ place_told h a
    → IfSome r (λ v. v ≤ length (shown h))
answer_within h a None valid e = tt
answer_within h a (Some v) valid e = told_within h a v valid (sym e)

-- ---- the anchors of all places

pub anchors_count : (h : List OpData) (side : Side) → length (anchors_of h side) ≡ length (shown h) + 1
anchors_count h Left = omega (arith, length-map (shown h) (λ c. After (id_of c)))
anchors_count h Right =
    omega (arith, length-append (map (λ c. Before (id_of c)) (shown h)) (End ∷ []), length-map (shown h) (λ c. Before (id_of c)))

-- none is behind the last place
pub anchors_end : (h : List OpData) (side : Side) (v : ℕ) (r : Option Anchor) → r ≡ slice_get (anchors_of h side) v
    → IsNone r ↔ (length (shown h) < v)
anchors_end h side v r e = (
  λ none. elim (slice_get_cases (anchors_of h side) v).1 [
    | inl there ↦ absurd (true≢false (sym (ap (λ (o : Option Anchor). is_some o) (e ∙ there.2)) ∙ none))
    | inr past ↦ omega (arith, past.0, anchors_count h side)
  ],
  λ past.
      let beyond : length (anchors_of h side) ≤ v = omega (arith, past, anchors_count h side) in
      ap (λ (o : Option Anchor). is_some o) (e ∙ slice_get_past (anchors_of h side) v beyond),
)

abbrev pub behind : Cell → Anchor
behind c = After (id_of c)

abbrev pub ahead : Cell → Anchor
ahead c = Before (id_of c)

pub left_later : (h : List OpData) (v : ℕ) → 0 < v → option_map behind (slice_get (shown h) (v - 1)) ≡ slice_get (anchors_of h Left) v
left_later h zero lt = absurd (omega (arith, lt))
left_later h (suc v) lt =
    let same : suc v - 1 ≡ v = omega arith in
    ap (λ (n : ℕ). option_map behind (slice_get (shown h) n)) same ∙ sym (slice_get-map behind (shown h) v)

right_end : (cs : List Cell) → slice_get (map ahead cs ++ End ∷ []) (length cs) ≡ Some End
right_end [] = refl
right_end (c ∷ cs) = right_end cs

right_earlier : (cs : List Cell) (v : ℕ) → v ≢ length cs → slice_get (map ahead cs ++ End ∷ []) v ≡ option_map ahead (slice_get cs v)
right_earlier [] zero other = absurd (other refl)
right_earlier [] (suc v) other = refl
right_earlier (c ∷ cs) zero other = refl
right_earlier (c ∷ cs) (suc v) other = right_earlier cs v (λ e. other (ap suc e))

pub right_last : (h : List OpData) (v : ℕ) → v ≡ length (shown h) → Some End ≡ slice_get (anchors_of h Right) v
right_last h v e = sym (right_end (shown h)) ∙ ap (λ (n : ℕ). slice_get (anchors_of h Right) n) (sym e)

pub right_before : (h : List OpData) (v : ℕ) → v ≢ length (shown h)
    → option_map ahead (slice_get (shown h) v) ≡ slice_get (anchors_of h Right) v
right_before h v other = sym (right_earlier (shown h) v other)

-- ---- each has the place that it is of

module _ (h : List OpData) (valid : IsValid h) (c : Cell) (v : ℕ) (got : slice_get (shown h) v ≡ Some c) where
  standing : (1 ≤ count (is_same c) (replay_of h)) × (is_shown h c ≡ true)
  standing = kept_there c (is_shown h) (replay_of h) v got

  had : has_cell h c ≡ true
  had = elim (cases_Bool (has_cell h c)) [
    | inl has ↦ has
    | inr miss ↦ absurd (omega (arith, standing.0, stands_once h c valid, ap one_if miss))
  ]

  count_before : shown_before h c ≡ v
  count_before = kept_behind c (is_shown h) (replay_of h) v (once h valid c) got

  ahead_is : place_told h (ahead c) ≡ Some v
  ahead_is = sym (where_is h c (shown_before h c) v had (sym count_before))

  behind_is : place_told h (behind c) ≡ Some (suc v)
  behind_is =
      let one = one_hit (is_shown h c) standing.1 in
      sym (where_is h c (shown_up_to h c) (suc v) had (omega (arith, count_before, one)))

some_mapped : (f : Cell → Anchor) (cs : List Cell) (v : ℕ) (a : Anchor) → option_map f (slice_get cs v) ≡ Some a
    → (c : Cell) × (slice_get cs v ≡ Some c) × (f c ≡ a)
some_mapped f cs v a e = elim (slice_get_cases cs v).1 [
  | inl there ↦ (there.0, there.2, let is : Some (f there.0) ≡ Some a = ap (option_map f) (sym there.2) ∙ e in cc)
  | inr past ↦ let none : ◌≡◌ {A = Option Anchor} None (Some a) = ap (option_map f) (sym past.1) ∙ e in absurd (cc)
]

pub kept_place : (h : List OpData) (side : Side) (v : ℕ) (a : Anchor) → IsValid h → slice_get (anchors_of h side) v ≡ Some a
    → place_told h a ≡ Some v
kept_place h Left zero a valid e = let is : Start ≡ a = cc in ap (place_told h) (sym is)
kept_place h Left (suc v) a valid e =
    let r = some_mapped behind (shown h) v a (sym (slice_get-map behind (shown h) v) ∙ e) in
    ap (place_told h) (sym r.2) ∙ behind_is h valid r.0 v r.1
kept_place h Right v a valid e = elim (cases_eq v (length (shown h))) [
  | inl last ↦ let is : Some End ≡ Some a = right_last h v last ∙ e in
      let same : End ≡ a = cc in
      ap (place_told h) (sym same) ∙ ap (λ (n : ℕ). Some n) (sym last)
  | inr other ↦ let r = some_mapped ahead (shown h) v a (right_before h v other ∙ e) in
      ap (place_told h) (sym r.2) ∙ ahead_is h valid r.0 v r.1
]

pub answer_back : (h : List OpData) (side : Side) (v : ℕ) (r : Option Anchor) → IsValid h → r ≡ slice_get (anchors_of h side) v
    → IfSome r (λ a. place_told h a ≡ Some v)
answer_back h side v None valid e = tt
answer_back h side v (Some a) valid e = kept_place h side v a valid (sym e)

-- ---- by the shown cells of a site

id_shown : (f : CellId → Anchor) (o : Option CellData)
    → option_map f (option_map (λ (d : CellData). id_of (cell_key d)) o) ≡ option_map (λ (c : Cell). f (id_of c)) (option_map cell_key o)
id_shown f None = refl
id_shown f (Some d) = refl

pub shown_anchor : (f : CellId → Anchor) (h : List OpData) (cs : List CellData) (v : ℕ) (r : Option CellId) → IsReplayed h cs
    → r ≡ option_map (λ (d : CellData). id_of (cell_key d)) (slice_get (shown_cells cs) v)
    → option_map f r ≡ option_map (λ (c : Cell). f (id_of c)) (slice_get (shown h) v)
shown_anchor f h cs v r is e =
    ap (λ (o : Option CellId). option_map f o) e
    ∙ id_shown f (slice_get (shown_cells cs) v)
    ∙ ap (λ (o : Option Cell). option_map (λ (c : Cell). f (id_of c)) o)
    (sym (slice_get-map cell_key (shown_cells cs) v) ∙ ap (λ (l : List Cell). slice_get l v) (replayed_shown h cs is))
