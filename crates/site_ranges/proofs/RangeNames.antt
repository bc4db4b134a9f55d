-- The names of a range of cells, one after the other.
use Rattle.std.proofs.Common.{◌≡◌, ℕ, zero, suc, ◌+◌, ◌-◌, ◌<◌, Bool, true, false, if◌then◌else◌, List, [], ◌∷◌, ◌++◌, map, refl, sym, ap, ◌∙◌, arith}
use Rattle.std.specs.Prelude.{Option, Some, None, option_map, slice_get}
use Rattle.op_name.specs.NameData.{NameData}
use Rattle.context_diff.specs.Replays.{Cell}
use Rattle.site_ranges.specs.Ranges.{range_of}
use Rattle.site_ranges.specs.Inserts.{is_again, once}
use Rattle.site_ranges.proofs.Ranges.{range_nothing}

-- what is left to be written from a cell on
abbrev pub names_left : List Cell → ℕ → ℕ → Option NameData → List NameData
names_left cs at left last = once last (map (λ c. c.0) (range_of at left cs))

-- a name, and those behind it
once_first : (last : Option NameData) (n : NameData) (ns : List NameData) → once last (n ∷ ns) ≡ once last (n ∷ []) ++ once (Some n) ns
once_first last n ns = by (is_again last n)
  where
    by : (b : Bool) → (if b then once (Some n) ns else n ∷ once (Some n) ns) ≡ (if b then [] else n ∷ []) ++ once (Some n) ns
    by true = refl
    by false = refl

first_name : (cs : List Cell) (at k : ℕ) (n : NameData) → Some n ≡ option_map (λ (c : Cell). c.0) (slice_get cs at)
    → map (λ c. c.0) (range_of at (suc k) cs) ≡ n ∷ map (λ c. c.0) (range_of (suc at) k cs)
first_name [] at k n is = cc
first_name (c ∷ cs) zero k n is = let same : n ≡ c.0 = cc in ap (λ (x : NameData). x ∷ map (λ d. d.0) (range_of 0 k cs)) (sym same)
first_name (c ∷ cs) (suc at) k n is = first_name cs at k n is

-- one was written
pub names_next : (cs : List Cell) (place count step : ℕ) (last : Option NameData) (n : NameData) → step < count
    → Some n ≡ option_map (λ (c : Cell). c.0) (slice_get cs (place + step))
    → names_left cs (place + step) (count - step) last
    ≡ once last (n ∷ []) ++ names_left cs (place + (step + 1)) (count - (step + 1)) (Some n)
names_next cs place count step last n lt is =
    let more : count - step ≡ suc (count - (step + 1)) = omega (arith, lt) in
    let next : suc (place + step) ≡ place + (step + 1) = omega arith in
    ap (λ (k : ℕ). names_left cs (place + step) k last) more
    ∙ ap (once last) (first_name cs (place + step) (count - (step + 1)) n is)
    ∙ once_first last n (map (λ c. c.0) (range_of (suc (place + step)) (count - (step + 1)) cs))
    ∙ ap (λ (k : ℕ). once last (n ∷ []) ++ names_left cs k (count - (step + 1)) (Some n)) next

-- all were written
pub names_ended : (cs : List Cell) (at left : ℕ) (last : Option NameData) → left ≡ 0 → names_left cs at left last ≡ []
names_ended cs at left last none = ap (λ (ds : List Cell). once last (map (λ c. c.0) ds)) (range_nothing at left cs none)

-- the first one
pub names_begin : (cs : List Cell) (place count : ℕ) → names_left cs (place + 0) (count - 0) None ≡ names_left cs place count None
names_begin cs place count =
    let at : place + 0 ≡ place = omega arith in
    let all : count - 0 ≡ count = omega arith in
    λ i. names_left cs (at i) (all i) None
