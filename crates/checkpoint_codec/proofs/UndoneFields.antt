-- Undone names with their generations, both ways.
use Rattle.std.proofs.Common.{◌≡◌, ℕ, ◌+◌, ◌<◌, ◌≤◌, ◌^◌, ltb, leb, true, List, [], ◌∷◌, length, Ok, refl, sym, ap, ◌∙◌, arith, inl, inr}
use Rattle.std.specs.Int.{w16, w32, to_be_bytes}
use Rattle.std.specs.List.{flat_map}
use Rattle.std.proofs.lemmas.Bool.{ltb-true, lt-ltb, le-leb, leb-true}
use Rattle.op_name.specs.NameData.{NameData, IsName, IsBefore}
use Rattle.op_name.specs.declared.member.TheConstants.{GENERATIONS}
use Rattle.context_vector.specs.Contexts.{ContextData, AreEntries}
use Rattle.context_diff.specs.declared.op.TheConstants.{UNDO_ENTRIES}
use Rattle.ttf_form.specs.Families.{IsIn}
use Rattle.wire_codec.specs.declared.cause.Cause.TheVariants.{Range, Order, Zero, Stray}
use Rattle.wire_codec.specs.declared.version.Version.TheVariants.{Two}
use Rattle.wire_codec.specs.Spelling.{name_bytes}
use Rattle.wire_codec.specs.Reading.{Follow, LeftData, ◌>>=◌, number, tested, bounded, many, name_at}
use Rattle.checkpoint_codec.specs.declared.undone.Last.{Last}
use Rattle.checkpoint_codec.specs.declared.undone.TheConstants.{GROUPS}
use Rattle.checkpoint_codec.specs.Spelling.{undone_bytes, names_bytes}
use Rattle.checkpoint_codec.specs.Spelled.{sum_of}
use Rattle.checkpoint_codec.specs.Reading.{is_above, is_original, undone_name_at, generation_at, undone_at, no_name, last_after, names_at}
use Rattle.wire_codec.proofs.CallerLemmas.{Reads, bind, mapped, in_words, tested_reads, wide16, wide32, number_reads, bounded_reads, many_reads}
use Rattle.checkpoint_codec.proofs.NameFields.{IsNamed, name_reads}

-- ---- one name

-- a name with its generation that may follow
pub record IsNextUndone (c : ContextData) (last : Last) (e : NameData × ℕ) : Type 0 where
  pub named : IsName e.0.site e.0.number
  pub above : is_above last.name e.0 ≡ true
  pub known : is_original c e.0 ≡ true
  pub some : 1 ≤ e.1
  pub most : e.1 ≤ GENERATIONS
  pub few : last.sum + e.1 ≤ GROUPS

abbrev IsUndoneName : ContextData → Last → NameData → Type 0
IsUndoneName c last n = (IsNamed n × (is_above last.name n ≡ true)) × (is_original c n ≡ true)

abbrev IsGeneration : ℕ → ℕ → Type 0
IsGeneration sum g = ((g < 2 ^ 16) × (ltb 0 g ≡ true)) × (leb (sum + g) GROUPS ≡ true)

undone_name_reads : (c : ContextData) (last : Last)
    → Reads (undone_name_at c last.name) (name_bytes Two) (IsUndoneName c last)
undone_name_reads c last =
    tested_reads (is_original c) Stray (tested (is_above last.name) Order (name_at Two)) (name_bytes Two)
    (λ n. IsNamed n × (is_above last.name n ≡ true))
    (tested_reads (is_above last.name) Order (name_at Two) (name_bytes Two) IsNamed name_reads)

generation_reads : (sum : ℕ) → Reads (generation_at sum) (to_be_bytes w16) (IsGeneration sum)
generation_reads sum =
    tested_reads (λ g. leb (sum + g) GROUPS) Range (tested (λ g. ltb 0 g) Zero (number w16)) (to_be_bytes w16)
    (λ g. (g < 2 ^ 16) × (ltb 0 g ≡ true))
    (tested_reads (λ g. ltb 0 g) Zero (number w16) (to_be_bytes w16) (λ g. g < 2 ^ 16) (number_reads w16 (2 ^ 16) wide16))

abbrev Undone : Type 0
Undone = NameData × ℕ

abbrev UndoneParts : ContextData → Last → Undone → Type 0
UndoneParts c last e = IsUndoneName c last e.0 × (IsGeneration last.sum e.1 × ((e.0, e.1) ≡ e))

pub undone_reads : (c : ContextData) (last : Last) → Reads (undone_at c last) undone_bytes (IsNextUndone c last)
unfolding undone_at
undone_reads c last =
    in_words (undone_at c last) undone_bytes undone_bytes (UndoneParts c last) (IsNextUndone c last)
    (bind {X = Undone} (undone_name_at c last.name)
    (λ n m. ◌>>=◌ {B = Undone × LeftData} (generation_at last.sum m) (λ g. Ok ((n, g.0), g.1)))
    (name_bytes Two) (λ e. to_be_bytes w16 e.1) (IsUndoneName c last)
    (λ n e. IsGeneration last.sum e.1 × ((n, e.1) ≡ e)) (λ e. e.0)
    (undone_name_reads c last)
    (λ n _. mapped {X = Undone} (generation_at last.sum) (to_be_bytes w16) (IsGeneration last.sum) (λ g. (n, g)) (λ e. e.1)
    (generation_reads last.sum) (λ g. refl))
    (λ n e h. ap (λ (y : Undone). y.0) (sym h.1)))
    (λ e h.
    let some = ltb-true 0 e.1 h.1.0.0.1 in
    let below = h.1.0.0.0 in
    record {
      named = h.0.0.0;
      above = h.0.0.1;
      known = h.0.1;
      some = omega (arith, some);
      most = omega (arith, below);
      few = leb-true _ _ h.1.0.1;
    })
    (λ e h. (
      ((h.named, h.above), h.known),
      (((omega (arith, h.most), lt-ltb 0 e.1 (omega (arith, h.some))), le-leb _ _ h.few), refl),
    ))
    (λ e h. refl)

-- ---- all names

-- few names, rising, each one of the originals, whose generations add up to few
pub record AreNames (c : ContextData) (es : List (NameData × ℕ)) : Type 0 where
  pub names : length es ≤ UNDO_ENTRIES
  pub undone : AreEntries es
  pub known : (e : NameData × ℕ) → IsIn e es → is_original c e.0 ≡ true
  pub groups : sum_of es ≤ GROUPS

abbrev AreNext : ContextData → Last → List Undone → Type 0
AreNext c last es = Follow (IsNextUndone c) last_after last es

-- the first name is above the last one
abbrev StandsAbove : Last → List Undone → Type 0
StandsAbove last [] = Unit {0}
StandsAbove last (e ∷ es) = is_above last.name e.0 ≡ true

before_next : (c : ContextData) (last : Last) (e : Undone) (es : List Undone) → AreNext c (last_after last e) es → IsBefore e.0 es
before_next c last e [] h = tt
before_next c last e (x ∷ xs) h = h.0.above

entries_from : (c : ContextData) (last : Last) (es : List Undone) → AreNext c last es → AreEntries es
entries_from c last [] h = tt
entries_from c last (e ∷ es) h =
    (h.0.named, h.0.some, h.0.most, before_next c last e es h.1, entries_from c (last_after last e) es h.1)

known_from : (c : ContextData) (last : Last) (es : List Undone) → AreNext c last es → (e : Undone) → IsIn e es
    → is_original c e.0 ≡ true
known_from c last [] h e i = absurd i
known_from c last (x ∷ xs) h e (inl same) = ap (λ (y : Undone). is_original c y.0) same ∙ h.0.known
known_from c last (x ∷ xs) h e (inr i) = known_from c (last_after last x) xs h.1 e i

sum_from : (c : ContextData) (last : Last) (es : List Undone) → last.sum ≤ GROUPS → AreNext c last es → last.sum + sum_of es ≤ GROUPS
sum_from c last [] le h = omega (arith, le)
sum_from c last (e ∷ es) le h = let rest = sum_from c (last_after last e) es h.0.few h.1 in omega (arith, rest)

stands_above : (last : Last) (e : Undone) (es : List Undone) → IsBefore e.0 es → StandsAbove (last_after last e) es
stands_above last e [] h = tt
stands_above last e (x ∷ xs) h = h

names_to : (c : ContextData) (last : Last) (es : List Undone) → AreEntries es → StandsAbove last es
    → ((e : Undone) → IsIn e es → is_original c e.0 ≡ true) → last.sum + sum_of es ≤ GROUPS → AreNext c last es
names_to c last [] are above known few = tt
names_to c last (e ∷ es) are above known few = (
  record {
    named = are.0;
    above = above;
    known = known e (inl refl);
    some = are.1;
    most = are.2;
    few = omega (arith, few);
  },
  names_to c (last_after last e) es are.4 (stands_above last e es are.3) (λ x i. known x (inr i)) (omega (arith, few)),
)

no_name_above : (es : List Undone) → StandsAbove no_name es
no_name_above [] = tt
no_name_above (e ∷ es) = refl

names_of : (c : ContextData) (es : List Undone) → (0 ≤ length es) × (length es ≤ UNDO_ENTRIES) → AreNext c no_name es → AreNames c es
names_of c es long h = record {
  names = long.1;
  undone = entries_from c no_name es h;
  known = known_from c no_name es h;
  groups = (let sum = sum_from c no_name es (omega arith) h in omega (arith, sum));
}

next_of : (c : ContextData) (es : List Undone) → AreNames c es → AreNext c no_name es
next_of c es h = names_to c no_name es h.undone (no_name_above es) h.known (let sum = h.groups in omega (arith, sum))

pub names_reads : (c : ContextData) → Reads (names_at c) names_bytes (AreNames c)
unfolding names_at
names_reads c =
    in_words (names_at c) names_bytes names_bytes
    (λ es. ((0 ≤ length es) × (length es ≤ UNDO_ENTRIES)) × ((length es ≡ length es) × AreNext c no_name es)) (AreNames c)
    (bind {X = List Undone} (bounded w32 0 UNDO_ENTRIES Range) (λ n m. many (undone_at c) last_after n no_name m)
    (to_be_bytes w32) (flat_map undone_bytes) (λ n. (0 ≤ n) × (n ≤ UNDO_ENTRIES))
    (λ n es. (length es ≡ n) × AreNext c no_name es) (λ es. length es)
    (bounded_reads w32 (2 ^ 32) wide32 0 UNDO_ENTRIES Range (omega arith))
    (λ n _. many_reads (undone_at c) last_after undone_bytes (IsNextUndone c) (undone_reads c) n no_name)
    (λ n es h. h.0))
    (λ es h. names_of c es h.0 h.1.1)
    (λ es h. ((omega arith, h.names), (refl, next_of c es h)))
    (λ es h. refl)
