-- The cells of a span: how they follow one another, and what becomes of them where it is cut, raised or shown.
use Rattle.std.proofs.Common.{◌≡◌, ◌≢◌, ℕ, zero, suc, ◌+◌, ◌-◌, ◌<◌, ◌≤◌, ◌==◌, Bool, true, false, if◌then◌else◌, List, [], ◌∷◌, ◌++◌, map, length, take, drop, get_or, replicate, refl, sym, ap, ◌∙◌, arith}
use Rattle.std.proofs.lemmas.Bool.Decides.{nat_tests}
use Rattle.op_name.specs.NameData.{NameData, name_eq}
use Rattle.ttf_form.specs.declared.ins.Ins.{Ins}
use Rattle.ttf_form.specs.declared.cover.Mark.TheVariants.{Own}
use Rattle.ttf_form.specs.Cells.{CellData, bare_from, bare_cells, marked_if, raised}
use Rattle.tombstone_text.specs.Chunks.{flag_of}
use Rattle.tombstone_text.specs.Code.Spans.{SpanData, next_of, run_from, after, raised_run}

is_one : (n : ℕ) → n ≡ 1 → (n == 1) ≡ true
is_one n e = grind (arith, nat_tests)

not_one : (n : ℕ) → n ≢ 1 → (n == 1) ≡ false
not_one n e = grind (arith, nat_tests)

-- the cell with another number, and with another offset
abbrev pub numbered : CellData → ℕ → CellData
numbered c n =
    record {
      name = record { site = c.name.site; number = n };
      offset = c.offset;
      of = c.of;
      generation = c.generation;
      deleters =
          c.deleters;
    }

abbrev pub placed : CellData → ℕ → CellData
placed c o = record { name = c.name; offset = o; of = c.of; generation = c.generation; deleters = c.deleters }

next_numbered : (c : CellData) → c.of ≡ 1 → next_of c ≡ numbered c (c.name.number + 1)
next_numbered c e = ap (λ (t : Bool). if t then numbered c (c.name.number + 1) else placed c (c.offset + 1)) (is_one c.of e)

pub next_placed : (c : CellData) → c.of ≢ 1 → next_of c ≡ placed c (c.offset + 1)
next_placed c e = ap (λ (t : Bool). if t then numbered c (c.name.number + 1) else placed c (c.offset + 1)) (not_one c.of e)

-- the cell so many places behind
pub after_numbered : (c : CellData) (k n : ℕ) → c.of ≡ 1 → n ≡ c.name.number + k → after c k ≡ numbered c n
after_numbered c zero n e is = let same : c.name.number ≡ n = omega arith in ap (λ m. numbered c m) same
after_numbered c (suc k) n e is =
    ap (λ d. after d k) (next_numbered c e) ∙ after_numbered (numbered c (c.name.number + 1)) k n e (omega arith)

pub after_placed : (c : CellData) (k o : ℕ) → c.of ≢ 1 → o ≡ c.offset + k → after c k ≡ placed c o
after_placed c zero o e is = let same : c.offset ≡ o = omega arith in ap (λ m. placed c m) same
after_placed c (suc k) o e is =
    ap (λ d. after d k) (next_placed c e) ∙ after_placed (placed c (c.offset + 1)) k o e (omega arith)

abbrev span_of : CellData → ℕ → SpanData
span_of c k = record { first = c; count = k }

with_deleters : (c : CellData) (m : ℕ) → c.deleters ≡ []
    → span_of (record { name = c.name; offset = c.offset; of = c.of; generation = c.generation; deleters = [] }) m ≡ span_of c m
with_deleters c m bare =
    ap (λ (ds : List (NameData × ℕ)).
    span_of (record { name = c.name; offset = c.offset; of = c.of; generation = c.generation; deleters = ds }) m)
    (sym bare)

-- the part of a span that no delete has hit
pub cut_numbered : (c : CellData) (k n m count : ℕ) → c.of ≡ 1 → c.deleters ≡ [] → n ≡ c.name.number + k → m ≡ count - k
    → span_of (record {
      name = record { site = c.name.site; number = n };
      offset = c.offset;
      of = c.of;
      generation =
          c.generation;
      deleters = [];
    }) m
    ≡ span_of (after c k) (count - k)
cut_numbered c k n m count one bare is left =
    with_deleters (numbered c n) m bare
    ∙ ap (λ d. span_of d m) (sym (after_numbered c k n one is)) ∙ ap (λ j. span_of (after c k) j) left

pub cut_placed : (c : CellData) (k o m count : ℕ) → c.of ≢ 1 → c.deleters ≡ [] → o ≡ c.offset + k → m ≡ count - k
    → span_of (record { name = c.name; offset = o; of = c.of; generation = c.generation; deleters = [] }) m
    ≡ span_of (after c k) (count - k)
cut_placed c k o m count several bare is left =
    with_deleters (placed c o) m bare
    ∙ ap (λ d. span_of d m) (sym (after_placed c k o several is)) ∙ ap (λ j. span_of (after c k) j) left

pub length-run : (c : CellData) (k : ℕ) → length (run_from c k) ≡ k
length-run c zero = refl
length-run c (suc k) = ap suc (length-run (next_of c) k)

-- one more cell
pub run_more : (c : CellData) (k n : ℕ) → n ≡ suc k → run_from c k ++ after c k ∷ [] ≡ run_from c n
run_more c k n e = more c k ∙ ap (run_from c) (sym e)
  where
    more : (d : CellData) (j : ℕ) → run_from d j ++ after d j ∷ [] ≡ run_from d (suc j)
    more d zero = refl
    more d (suc j) = ap (λ (xs : List CellData). d ∷ xs) (more (next_of d) j)

pub run_get : (c : CellData) (k j : ℕ) (d : CellData) → j < k → get_or (run_from c k) j d ≡ after c j
run_get c zero j d lt = absurd (omega arith)
run_get c (suc k) zero d lt = refl
run_get c (suc k) (suc j) d lt = run_get (next_of c) k j d (omega arith)

-- a run cut in two
pub run_low : (c : CellData) (m n : ℕ) → m ≤ n → run_from c m ≡ take m (run_from c n)
run_low c zero n le = refl
run_low c (suc m) zero le = absurd (omega arith)
run_low c (suc m) (suc n) le = ap (λ (xs : List CellData). c ∷ xs) (run_low (next_of c) m n (omega arith))

pub run_high : (c : CellData) (m k n : ℕ) → m + k ≡ n → run_from (after c m) k ≡ drop m (run_from c n)
run_high c zero k n e = let same : k ≡ n = omega arith in ap (run_from c) same
run_high c (suc m) k zero e = absurd (omega arith)
run_high c (suc m) k (suc n) e = run_high (next_of c) m k n (omega arith)

-- all of them are shown or hidden together
flag_next : (c : CellData) → flag_of (next_of c) ≡ flag_of c
flag_next c = by (c.of == 1)
  where
    by : (t : Bool) → flag_of (if t then numbered c (c.name.number + 1) else placed c (c.offset + 1)) ≡ flag_of c
    by true = refl
    by false = refl

pub flag_after : (c : CellData) (k : ℕ) → flag_of (after c k) ≡ flag_of c
flag_after c zero = refl
flag_after c (suc k) = flag_after (next_of c) k ∙ flag_next c

pub flags_run : (c : CellData) (k : ℕ) → map flag_of (run_from c k) ≡ replicate k (flag_of c)
flags_run c zero = refl
flags_run c (suc k) =
    ap (λ fs. flag_of c ∷ fs) (flags_run (next_of c) k ∙ ap (λ x. replicate k x) (flag_next c))

-- a cell is raised as its span is
pub raised_only : (g : ℕ) (n : NameData) (c : CellData) → c.of ≡ 1 → raised_run g n c ≡ c
raised_only g n c e = ap (λ (t : Bool). if t then c else raised g n c) (is_one c.of e)

pub raised_several : (g : ℕ) (n : NameData) (c : CellData) → c.of ≢ 1 → raised_run g n c ≡ raised g n c
raised_several g n c e = ap (λ (t : Bool). if t then c else raised g n c) (not_one c.of e)

raised_of : (b : Bool) (g : ℕ) (c : CellData) → (marked_if b (Own g) c).of ≡ c.of
raised_of true g c = refl
raised_of false g c = refl

raised_placed : (b : Bool) (g : ℕ) (c : CellData)
    → marked_if b (Own g) (placed c (c.offset + 1)) ≡ placed (marked_if b (Own g) c) ((marked_if b (Own g) c).offset + 1)
raised_placed true g c = refl
raised_placed false g c = refl

raised_next : (g : ℕ) (n : NameData) (c : CellData) → raised_run g n (next_of c) ≡ next_of (raised_run g n c)
raised_next g n c = by (c.of == 1) refl
  where
    by : (t : Bool) → (c.of == 1) ≡ t → raised_run g n (next_of c) ≡ next_of (raised_run g n c)
    by true e =
        let one : c.of ≡ 1 = grind (arith, nat_tests) in
        ap (raised_run g n) (next_numbered c one)
        ∙ raised_only g n (numbered c (c.name.number + 1)) one
        ∙ sym (next_numbered c one)
        ∙ ap next_of (sym (raised_only g n c one))
    by false e =
        let several : c.of ≢ 1 = grind (arith, nat_tests) in
        let b = name_eq c.name n in
        ap (raised_run g n) (next_placed c several)
        ∙ raised_several g n (placed c (c.offset + 1)) several
        ∙ raised_placed b g c
        ∙ sym (next_placed (raised g n c) (λ one. several (sym (raised_of b g c) ∙ one)))
        ∙ ap next_of (sym (raised_several g n c several))

pub raised_cells : (g : ℕ) (n : NameData) (c : CellData) (k : ℕ) → run_from (raised_run g n c) k ≡ map (raised_run g n) (run_from c k)
raised_cells g n c zero = refl
raised_cells g n c (suc k) =
    ap (λ (xs : List CellData). raised_run g n c ∷ xs)
    (ap (λ d. run_from d k) (sym (raised_next g n c)) ∙ raised_cells g n (next_of c) k)

-- the first cell of an insert before any mark
abbrev pub bare_first : Ins → CellData
bare_first a = record { name = a.name; offset = 0; of = a.len; generation = 0; deleters = [] }

several_bare : (n : NameData) (t f k : ℕ) → t ≢ 1
    → run_from (record { name = n; offset = f; of = t; generation = 0; deleters = [] }) k ≡ bare_from n t f k
several_bare n t f zero e = refl
several_bare n t f (suc k) e =
    let c : CellData = record { name = n; offset = f; of = t; generation = 0; deleters = [] } in
    let next : f + 1 ≡ suc f = omega arith in
    ap (λ (xs : List CellData). c ∷ xs)
    (ap (λ (d : CellData). run_from d k) (next_placed c e ∙ ap (λ o. placed c o) next) ∙ several_bare n t (suc f) k e)

-- the cells of an insert are a span
pub bare_run : (a : Ins) → run_from (bare_first a) a.len ≡ bare_cells a
bare_run a = by (a.len == 1) refl
  where
    by : (t : Bool) → (a.len == 1) ≡ t → run_from (bare_first a) a.len ≡ bare_cells a
    by true e =
        let one : a.len ≡ 1 = grind (arith, nat_tests) in
        ap (run_from (bare_first a)) one ∙ ap (bare_from a.name a.len 0) (sym one)
    by false e = several_bare a.name a.len 0 a.len (grind (arith, nat_tests))

-- the only cell of an insert follows so many cells where its name does
pub only_next : (a : Ins) (c : CellData) (k : ℕ) → a.len ≡ 1 → c.of ≡ 1 → c.offset ≡ 0 → c.generation ≡ 0 → c.deleters ≡ []
    → a.name ≡ record { site = c.name.site; number = c.name.number + k } → bare_cells a ≡ after c k ∷ []
only_next a c k one alone front plain bare is =
    let name : NameData = record { site = c.name.site; number = c.name.number + k } in
    let cell : NameData → ℕ → ℕ → ℕ → List (NameData × ℕ) → CellData =
    λ n o t g ds. record { name = n; offset = o; of = t; generation = g; deleters = ds } in
    ap (λ (n : ℕ). bare_from a.name n 0 n) one
    ∙ ap (λ (d : CellData). d ∷ [])
    (ap (λ (n : NameData). cell n 0 1 0 []) is
    ∙ ap (λ (o : ℕ). cell name o 1 0 []) (sym front)
    ∙ ap (λ (t : ℕ). cell name c.offset t 0 []) (sym alone)
    ∙ ap (λ (g : ℕ). cell name c.offset c.of g []) (sym plain)
    ∙ ap (λ (ds : List (NameData × ℕ)). cell name c.offset c.of c.generation ds) (sym bare)
    ∙ sym (after_numbered c k (c.name.number + k) alone refl))
