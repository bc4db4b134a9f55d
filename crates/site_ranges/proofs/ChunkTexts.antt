-- What is written of a chunk, flag by flag, and of chunks, one after the other.
use Rattle.std.proofs.Common.{◌≡◌, ℕ, suc, ◌+◌, ◌-◌, ◌<◌, ◌≤◌, ◌==◌, Bool, true, false, if◌then◌else◌, List, [], ◌∷◌, ◌++◌, length, map, filter, cond, take, drop, get_or, encode_utf8, encode_utf8_all, refl, sym, ap, ◌∙◌, arith}
use Rattle.std.specs.Prelude.{Result, Ok, Err, OnOk}
use Rattle.std.specs.List.{sum}
use Rattle.std.proofs.Math.Seq.{drop-cons}
use Rattle.std.proofs.lemmas.Bool.Decides.{nat_tests}
use Rattle.std.proofs.lemmas.List.{drop_all, take-append-drop, take-map, get_or_read}
use Rattle.std.proofs.lemmas.List.Concat.{flat_map-append}
use Rattle.std.proofs.lemmas.Str.{encodes-append}
use Rattle.ttf_form.specs.Cells.{CellData, cell_shown, chars_where}
use Rattle.ttf_form.specs.Laws.Texts.{chars_where-append}
use Rattle.tombstone_text.specs.Cells.{CellsData}
use Rattle.tombstone_text.specs.Chunks.{flat, joined, flag_of, shown_in}
use Rattle.tombstone_text.specs.Sums.{IsPart}
use Rattle.tombstone_text.proofs.CallerLemmas.{beside_at, beside_count, beside_taken, sum-shown}
use Rattle.visible_view.specs.Code.{flagged}
use Rattle.site_ranges.specs.Ranges.{range_of}
use Rattle.site_ranges.specs.Code.Chunks.{shown_at, shown_from}
use Rattle.site_ranges.proofs.Ranges.{range-append, range_none, range_nothing, range_past, range_behind}

-- ---- one chunk

-- what is left to be written of a chunk, from a place on
abbrev pub rest_of : List ℕ → List ℕ → ℕ → ℕ → ℕ → List ℕ
rest_of fs ts at before left = encode_utf8_all (range_of before left (flagged (drop at fs) (drop at ts)))

-- the characters from a place on: that of the place, if its flag is 1, and those behind it
flagged_from : (fs ts : List ℕ) (at : ℕ) → at < length fs → length ts ≡ length fs
    → flagged (drop at fs) (drop at ts)
    ≡ (if get_or fs at 0 == 1
    then get_or ts at 0 ∷ flagged (drop (at + 1) fs) (drop (at + 1) ts)
    else flagged (drop (at + 1) fs) (drop (at + 1) ts))
flagged_from fs ts at lt long =
    let next : suc at ≡ at + 1 = omega arith in
    (λ i. flagged (drop-cons fs at 0 lt i) (drop-cons ts at 0 (omega (arith, lt, long)) i))
    ∙ ap (λ (n : ℕ). if get_or fs at 0 == 1
    then get_or ts at 0 ∷ flagged (drop n fs) (drop n ts)
    else flagged (drop n fs) (drop n ts)) next

module _ (fs ts : List ℕ) (at before left : ℕ) (lt : at < length fs) (long : length ts ≡ length fs) where
  abbrev behind : List ℕ
  behind = flagged (drop (at + 1) fs) (drop (at + 1) ts)

  there : get_or fs at 0 ≡ 1 → flagged (drop at fs) (drop at ts) ≡ get_or ts at 0 ∷ behind
  there one = flagged_from fs ts at lt long ∙ ap (λ n. if n == 1 then get_or ts at 0 ∷ behind else behind) one

  -- a hidden cell
  pub passed_hidden : (get_or fs at 0 ≡ 1 → ⊥) → rest_of fs ts at before left ≡ rest_of fs ts (at + 1) before left
  passed_hidden other =
      ap (λ (cs : List ℕ). encode_utf8_all (range_of before left cs))
      (flagged_from fs ts at lt long
      ∙ ap (λ (b : Bool). if b then get_or ts at 0 ∷ behind else behind) (hidden (get_or fs at 0 == 1) refl))
    where
      hidden : (b : Bool) → (get_or fs at 0 == 1) ≡ b → b ≡ false
      hidden true h = absurd (other (grind (arith, nat_tests, h)))
      hidden false h = refl

  -- one before the range
  pub passed_before : get_or fs at 0 ≡ 1 → 0 < before → rest_of fs ts at before left ≡ rest_of fs ts (at + 1) (before - 1) left
  passed_before one some =
      let less : before ≡ suc (before - 1) = omega arith in
      ap (λ (cs : List ℕ). encode_utf8_all (range_of before left cs)) (there one)
      ∙ ap (λ (n : ℕ). encode_utf8_all (range_of n left (get_or ts at 0 ∷ behind))) less

  -- one of the range
  pub passed_written : (t : ℕ) → get_or fs at 0 ≡ 1 → before ≡ 0 → 0 < left → t ≡ get_or ts at t
      → rest_of fs ts at before left ≡ encode_utf8 t ++ rest_of fs ts (at + 1) before (left - 1)
  passed_written t one none some is =
      let less : left ≡ suc (left - 1) = omega arith in
      let within : at < length ts = omega (arith, lt, long) in
      ap (λ (cs : List ℕ). encode_utf8_all (range_of before left cs))
      (there one ∙ ap (λ c. c ∷ behind) (sym (get_or_read ts at t within is 0)))
      ∙ (λ i. encode_utf8_all (range_of (none i) (less i) (t ∷ behind)))
      ∙ ap (λ (n : ℕ). encode_utf8 t ++ encode_utf8_all (range_of n (left - 1) behind)) (sym none)

-- nothing is left to be written
pub written_all : (fs ts : List ℕ) (at before left : ℕ) → left ≡ 0 → rest_of fs ts at before left ≡ []
written_all fs ts at before left none = ap encode_utf8_all (range_nothing before left (flagged (drop at fs) (drop at ts)) none)

-- nothing is left of the chunk
pub chunk_ended : (fs ts : List ℕ) (at before left : ℕ) → length fs ≤ at → rest_of fs ts at before left ≡ []
chunk_ended fs ts at before left past =
    ap (λ (gs : List ℕ). encode_utf8_all (range_of before left (flagged gs (drop at ts)))) (drop_all at fs past)
    ∙ ap encode_utf8_all (range_none before left)

-- the characters beside the flags of cells are those of the shown ones
pub flagged_shown : (cs : List CellData) (ts : List ℕ) → flagged (map flag_of cs) ts ≡ chars_where cell_shown cs ts
flagged_shown [] ts = refl
flagged_shown (c ∷ cs) [] = refl
flagged_shown (c ∷ cs) (t ∷ ts) = by (cell_shown c) (flagged_shown cs ts)
  where
    by : (b : Bool) → flagged (map flag_of cs) ts ≡ chars_where cell_shown cs ts
        → (if (if b then 1 else 0) == 1 then t ∷ flagged (map flag_of cs) ts else flagged (map flag_of cs) ts)
        ≡ (if b then t ∷ chars_where cell_shown cs ts else chars_where cell_shown cs ts)
    by true rest = ap (λ (l : List ℕ). t ∷ l) rest
    by false rest = rest

-- what is written by the flags of a chunk
pub chunk_written : {T E : Type 0} (t : CellsData) (i before left : ℕ) (fs ts old new : List ℕ) (r : Result T E)
    → fs ≡ map flag_of (get_or t.chunks i []) → ts ≡ get_or t.texts i []
    → OnOk r (new ≡ old ++ encode_utf8_all (range_of before left (flagged fs ts)))
    → OnOk r (new ≡ old ++ encode_utf8_all (range_of before left (shown_at t i)))
chunk_written t i before left fs ts old new (Ok u) flags text is =
    is
    ∙ ap (λ (cs : List ℕ). old ++ encode_utf8_all (range_of before left cs))
    ((λ j. flagged (flags j) (text j)) ∙ flagged_shown (get_or t.chunks i []) (get_or t.texts i []))
chunk_written t i before left fs ts old new (Err e) flags text is = tt

-- as many characters as shown cells
pub chars_count : (cs : List CellData) (ts : List ℕ) → length ts ≡ length cs → length (chars_where cell_shown cs ts) ≡ shown_in cs
chars_count [] ts long = refl
chars_count (c ∷ cs) [] long = absurd (omega (arith, long))
chars_count (c ∷ cs) (t ∷ ts) long = by (cell_shown c) (chars_count cs ts (omega (arith, long)))
  where
    by : (b : Bool) → length (chars_where cell_shown cs ts) ≡ shown_in cs
        → length (if b then t ∷ chars_where cell_shown cs ts else chars_where cell_shown cs ts)
        ≡ length (cond b (c ∷ filter cell_shown cs) (filter cell_shown cs))
    by true rest = ap suc rest
    by false rest = rest

-- ---- all chunks

-- each text is as long as its chunk
abbrev pub AreAsLong : CellsData → Type 0
AreAsLong t = map (λ u. length u) t.texts ≡ map (λ c. length c) t.chunks

-- what is left to be written from a chunk on
abbrev pub rest_from : CellsData → ℕ → ℕ → ℕ → List ℕ
rest_from t i before left = encode_utf8_all (range_of before left (shown_from t i))

module _ (t : CellsData) (i : ℕ) (beside : AreAsLong t) (lt : i < length t.chunks) where
  texts_long : i < length t.texts
  texts_long = omega (arith, lt, beside_count t.texts t.chunks beside)

  long_there : length (get_or t.texts i []) ≡ length (get_or t.chunks i [])
  long_there = beside_at t.texts t.chunks i beside lt

  -- the characters of a chunk, and those of the chunks behind it
  next_shown : shown_from t i ≡ shown_at t i ++ shown_from t (i + 1)
  next_shown =
      let next : suc i ≡ i + 1 = omega arith in
      (λ j. chars_where cell_shown (flat (drop-cons t.chunks i [] lt j)) (joined (drop-cons t.texts i [] texts_long j)))
      ∙ chars_where-append cell_shown (get_or t.chunks i []) (flat (drop (suc i) t.chunks)) (get_or t.texts i [])
      (joined (drop (suc i) t.texts)) long_there
      ∙ ap (λ (n : ℕ). shown_at t i ++ chars_where cell_shown (flat (drop n t.chunks)) (joined (drop n t.texts))) next

  -- a chunk was written
  pub passed_chunk : (before left shown : ℕ) → shown ≡ shown_in (get_or t.chunks i [])
      → rest_from t i before left
      ≡ encode_utf8_all (range_of before left (shown_at t i)) ++ rest_from t (i + 1) (before - shown) (left - (shown - before))
  passed_chunk before left shown is =
      let many : length (shown_at t i) ≡ shown = chars_count (get_or t.chunks i []) (get_or t.texts i []) long_there ∙ sym is in
      ap (λ (cs : List ℕ). encode_utf8_all (range_of before left cs)) next_shown
      ∙ ap encode_utf8_all (range-append before left (shown_at t i) (shown_from t (i + 1)))
      ∙ encodes-append (range_of before left (shown_at t i))
      (range_of (before - length (shown_at t i)) (left - (length (shown_at t i) - before)) (shown_from t (i + 1)))
      ∙ ap (λ (n : ℕ). encode_utf8_all (range_of before left (shown_at t i)) ++ rest_from t (i + 1) (before - n) (left - (n - before))) many

  -- a chunk that ends before the range
  pub chunk_past : (before left shown : ℕ) → shown ≡ shown_in (get_or t.chunks i []) → shown ≤ before
      → encode_utf8_all (range_of before left (shown_at t i)) ≡ []
  chunk_past before left shown is past =
      let many : length (shown_at t i) ≡ shown = chars_count (get_or t.chunks i []) (get_or t.texts i []) long_there ∙ sym is in
      ap encode_utf8_all (range_past before left (shown_at t i) (omega (arith, many, past)))

-- nothing is left to be written
pub range_written : (t : CellsData) (i before left : ℕ) → left ≡ 0 → rest_from t i before left ≡ []
range_written t i before left none = ap encode_utf8_all (range_nothing before left (shown_from t i) none)

-- nothing is left behind the last chunk
pub chunks_ended : (t : CellsData) (i before left : ℕ) → length t.chunks ≤ i → rest_from t i before left ≡ []
chunks_ended t i before left past =
    ap (λ (cs : List (List CellData)). encode_utf8_all (range_of before left (chars_where cell_shown (flat cs) (joined (drop i t.texts)))))
    (drop_all i t.chunks past)
    ∙ ap encode_utf8_all (range_none before left)

-- the range of all characters begins in the chunk that has its first one
pub from_first : (t : CellsData) (i before place count : ℕ) → AreAsLong t → flat t.chunks ≡ t.cells → joined t.texts ≡ t.text
    → IsPart (map shown_in t.chunks) i before place
    → rest_from t i before count ≡ encode_utf8_all (range_of place count (chars_where cell_shown t.cells t.text))
from_first t i before place count beside cells text part =
    let front = chars_where cell_shown (flat (take i t.chunks)) (joined (take i t.texts)) in
    let long : length (joined (take i t.texts)) ≡ length (flat (take i t.chunks)) = beside_taken t.texts t.chunks i beside in
    let many : length front ≡ sum (take i (map shown_in t.chunks)) =
    chars_count (flat (take i t.chunks)) (joined (take i t.texts)) long
    ∙ sym (sum-shown (take i t.chunks)) ∙ ap sum (sym (take-map shown_in i t.chunks)) in
    let parts : chars_where cell_shown t.cells t.text ≡ front ++ shown_from t i =
    (λ j. chars_where cell_shown (sym cells j) (sym text j))
    ∙ (λ j. chars_where cell_shown (flat (sym (take-append-drop i t.chunks) j)) (joined (sym (take-append-drop i t.texts) j)))
    ∙ (λ j. chars_where cell_shown
    (flat_map-append (λ (c : List CellData). c) (take i t.chunks) (drop i t.chunks) j)
    (flat_map-append (λ (c : List ℕ). c) (take i t.texts) (drop i t.texts) j))
    ∙ chars_where-append cell_shown (flat (take i t.chunks)) (flat (drop i t.chunks)) (joined (take i t.texts)) (joined (drop i t.texts))
    long in
    sym (ap (λ (cs : List ℕ). encode_utf8_all (range_of place count cs)) parts
    ∙ ap encode_utf8_all (range_behind (sum (take i (map shown_in t.chunks))) before place count front (shown_from t i) many part.place))
