-- Where the cells of a kept mark stand, and which ones it covers.
use Rattle.std.proofs.Common.{◌≡◌, ℕ, ◌+◌, ◌-◌, ◌≤◌, Bool, true, false, if◌then◌else◌, List, [], ◌∷◌, Option, Some, None, length, filter, take, drop, get_or, slice_get, option_map, inl, inr, ap, sym, ◌∙◌, subst, arith}
use Rattle.std.specs.Prelude.{◌&&◌, nat_le, Contains, position}
use Rattle.std.proofs.lemmas.Bool.{cases_Bool, false_from_ne_true}
use Rattle.std.proofs.lemmas.List.{length-map}
use Rattle.std.proofs.lemmas.List.Quantifiers.{position-Some}
use Rattle.std.proofs.lemmas.Option.{slice_get-map, slice_get-get_or}
use Rattle.op_name.specs.declared.member.Member.TheVariants.{Original}
use Rattle.context_vector.specs.Contexts.{has}
use Rattle.context_diff.specs.Operations.{OpData}
use Rattle.context_diff.specs.Histories.{IsValid}
use Rattle.context_diff.specs.Replays.{Cell, replay_of}
use Rattle.ttf_form.specs.Cells.{CellData, cell_key, cells_of}
use Rattle.ttf_form.specs.Families.{IsIn}
use Rattle.undo_group.specs.Laws.Members.{in_contains}
use Rattle.transform_rec.proofs.CallerLemmas.{count, filter_in, length-count}
use Rattle.fixed_replay.specs.Replayed.{IsReplayed}
use Rattle.fixed_replay.proofs.CallerLemmas.{any_in, not_both}
use Rattle.tombstone_text.specs.Cells.{is_cell as has_id}
use Rattle.tombstone_text.specs.declared.cell.CellId.{CellId}
use Rattle.site_anchors.specs.Anchors.{has_cell}
use Rattle.site_anchors.specs.Laws.{EachCellStandsOnce}
use Rattle.char_marks.specs.Marks.{MarkData, KeptData}
use Rattle.char_marks.specs.Covered.{is_cell, seen_in, covers_cell, IsFit}
use Rattle.char_marks.specs.Code.Cells.{cell_at}
use Rattle.char_marks.proofs.Places.{same_cell, at_place, place_of, part_at, covered_between}

-- each cell stands once in a replay, or not at all
once_each : EachCellStandsOnce → (h : List OpData) → IsValid h → (c : Cell) → count (is_cell c) (replay_of h) ≤ 1
once_each law h valid c =
    let counted = length-count (is_cell c) (replay_of h) in
    elim (cases_Bool (has_cell h c)) [
      | inl has ↦
          let one : length (filter (is_cell c) (replay_of h)) ≡ 1 =
          ap (λ (l : List Cell). length l) (law h c valid ∙ ap (λ b. if b then c ∷ [] else []) has) in
          omega (arith, counted, one)
      | inr lacks ↦
          let none : length (filter (is_cell c) (replay_of h)) ≡ 0 =
          ap (λ (l : List Cell). length l) (law h c valid ∙ ap (λ b. if b then c ∷ [] else []) lacks) in
          omega (arith, counted, none)
    ]

-- a covered cell is one of the replay
part_there : (h : List OpData) (m : MarkData) (i : ℕ) (c : Cell)
    → slice_get (take m.len (drop m.place (seen_in h m.context))) i ≡ Some c
    → IsIn c (replay_of h) × (has m.context (Original c.0) ≡ true)
part_there h m i c e =
    let r = part_at (seen_in h m.context) m.place m.len i c e in
    filter_in (λ (d : Cell). has m.context (Original d.0)) c (replay_of h) (at_place (seen_in h m.context) (m.place + i) c r.1)

pub first_there : (h : List OpData) (k : KeptData) → IsFit h k → (c : Cell) → c ≡ k.first → IsIn c (replay_of h)
first_there h k fit c is =
    subst (λ (d : Cell). IsIn d (replay_of h)) (sym is) (part_there h k.mark 0 k.first fit.first).0

pub last_there : (h : List OpData) (k : KeptData) → IsFit h k → (c : Cell) → c ≡ k.last → IsIn c (replay_of h)
last_there h k fit c is =
    subst (λ (d : Cell). IsIn d (replay_of h)) (sym is) (part_there h k.mark (k.mark.len - 1) k.last fit.last).0

-- a cell whose insert the context hasn't isn't covered
pub unknown_uncovered : (h : List OpData) (m : MarkData) (c : Cell) → has m.context (Original c.0) ≡ false → covers_cell h m c ≡ false
unknown_uncovered h m c lacks =
    false_from_ne_true (covers_cell h m c) (λ hit.
    let part = take m.len (drop m.place (seen_in h m.context)) in
    let found = any_in (is_cell c) part hit in
    let at = place_of found.0 part found.1 in
    let is : slice_get part at.0 ≡ Some c = at.1 ∙ ap (λ (d : Cell). Some d) (same_cell c found.0 found.2) in
    not_both (part_there h m at.0 c is).1 lacks)

-- one whose insert it has is covered exactly if it stands between the end cells, or is one of them
pub spot_covered : EachCellStandsOnce → (h : List OpData) → IsValid h → (k : KeptData) → IsFit h k → (cs : List CellData) → IsReplayed h cs
    → (c : Cell) (i from to : ℕ) → slice_get (replay_of h) i ≡ Some c → (first last : Cell) → first ≡ k.first → last ≡ k.last
    → slice_get (cells_of cs) from ≡ Some first
    → slice_get (cells_of cs) to ≡ Some last
    → has k.mark.context (Original c.0) ≡ true
    → (nat_le from i && nat_le i to) ≡ covers_cell h k.mark c
spot_covered law h valid k fit cs is c i from to at first last first_is last_is from_at to_at knows =
    let m = k.mark in
    let p : Cell → Bool = λ d. has m.context (Original d.0) in
    let begin : slice_get (replay_of h) from ≡ Some k.first =
    ap (λ (l : List Cell). slice_get l from) (sym is.cells) ∙ (from_at ∙ ap (λ (d : Cell). Some d) first_is) in
    let end : slice_get (replay_of h) to ≡ Some k.last =
    ap (λ (l : List Cell). slice_get l to) (sym is.cells) ∙ (to_at ∙ ap (λ (d : Cell). Some d) last_is) in
    sym (covered_between (replay_of h) p m.place m.len (once_each law h valid) k.first k.last from to fit.first fit.last begin end c i at
    ∙ ap (λ b. b && (nat_le from i && nat_le i to)) knows)

-- ---- a cell that is sought by its name and offset

pub among_cells : (h : List OpData) (cs : List CellData) (id : CellId) → IsReplayed h cs → IsIn (cell_at id) (replay_of h)
    → Contains (cells_of cs) (cell_at id)
among_cells h cs id is there =
    subst (λ (l : List Cell). Contains l (cell_at id)) (sym is.cells) (in_contains (cell_at id) (replay_of h) there)

pub found_at : (id : CellId) (cs : List CellData) (p : ℕ) → Some p ≡ position (has_id id) cs
    → slice_get (cells_of cs) p ≡ Some (cell_at id)
found_at id cs p e =
    let d : CellData = record { name = id.name; offset = id.offset; of = 0; generation = 0; deleters = [] } in
    let r = position-Some (has_id id) cs p d (sym e) in
    slice_get-map cell_key cs p
    ∙ ap (λ (o : Option CellData). option_map cell_key o) (slice_get-get_or cs p d r.0)
    ∙ ap (λ (c : Cell). Some c) (same_cell (cell_at id) (cell_key (get_or cs p d)) r.1)

-- what stands at a place among a site's cells stands there in the replay
pub stands_there : (h : List OpData) (cs : List CellData) (i : ℕ) (d : CellData) (id : CellId) → IsReplayed h cs → Some d ≡ slice_get cs i
    → id.name ≡ d.name
    → id.offset ≡ d.offset
    → slice_get (replay_of h) i ≡ Some (cell_at id)
stands_there h cs i d id is at name offset =
    let same : cell_key d ≡ cell_at id = sym (λ j. (name j, offset j)) in
    ap (λ (l : List Cell). slice_get l i) (sym is.cells)
    ∙ (slice_get-map cell_key cs i
    ∙ (ap (λ (o : Option CellData). option_map cell_key o) (sym at) ∙ ap (λ (c : Cell). Some c) same))

pub none_there : (h : List OpData) (cs : List CellData) (i : ℕ) → IsReplayed h cs → None ≡ slice_get cs i → slice_get (replay_of h) i ≡ None
none_there h cs i is at =
    ap (λ (l : List Cell). slice_get l i) (sym is.cells)
    ∙ (slice_get-map cell_key cs i ∙ ap (λ (o : Option CellData). option_map cell_key o) (sym at))

-- ---- how many cells a context sees

filter_short : (p : Cell → Bool) (xs : List Cell) → length (filter p xs) ≤ length xs
filter_short p [] = omega arith
filter_short p (x ∷ xs) =
    let rest = filter_short p xs in
    elim (cases_Bool (p x)) [ inl hit ↦ rw hit (omega (arith, rest)) | inr miss ↦ rw miss (omega (arith, rest)) ]

pub seen_short : (h : List OpData) (m : MarkData) (cs : List CellData) → IsReplayed h cs → length (seen_in h m.context) ≤ length cs
seen_short h m cs is =
    omega (
      arith,
      filter_short (λ (d : Cell). has m.context (Original d.0)) (replay_of h),
      ap (λ (l : List Cell). length l) is.cells,
      length-map cs cell_key,
    )
