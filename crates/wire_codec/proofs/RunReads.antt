-- Runs of undone names, both ways: what is read are runs that rise and stand apart, and those of each list of undone names are read again.
use Rattle.std.proofs.Common.{◌≡◌, ℕ, zero, suc, ◌+◌, ◌*◌, ◌<◌, ◌≤◌, ◌^◌, ltb, true, ◌&&◌, if◌then◌else◌, List, [], ◌∷◌, ◌++◌, length, Option, Some, None, Ok, refl, sym, ap, subst, arith}
use Rattle.std.specs.List.{flat_map}
use Rattle.std.specs.Int.{w16, w32, to_be_bytes}
use Rattle.std.proofs.lemmas.Bool.{ltb-true, lt-ltb, le-leb, leb-true, and_parts, and_from}
use Rattle.std.proofs.Math.Nat.{mul-suc}
use Rattle.std.proofs.lemmas.List.{length-append}
use Rattle.std.proofs.lemmas.List.Concat.{flat_map-cons}
use Rattle.op_name.specs.NameData.{NameData}
use Rattle.op_name.specs.declared.name.TheConstants.{NUMBERS}
use Rattle.op_name.specs.declared.member.TheConstants.{GENERATIONS}
use Rattle.context_vector.specs.Contexts.{AreEntries}
use Rattle.context_diff.specs.declared.op.TheConstants.{UNDO_ENTRIES}
use Rattle.wire_codec.specs.declared.cause.Cause.TheVariants.{Range, Order, Zero}
use Rattle.wire_codec.specs.declared.version.Version.{Version}
use Rattle.wire_codec.specs.declared.version.Version.TheVariants.{One, Two}
use Rattle.wire_codec.specs.declared.listing.Listing.{Listing}
use Rattle.wire_codec.specs.declared.listing.Listing.TheVariants.{Names, Runs, LongRuns}
use Rattle.wire_codec.specs.Runs.{RunData, run_of, further, names_from, names_in, joins, goes_on, in_front, runs_of, runs_width, listing_of, version_of}
use Rattle.wire_codec.specs.Spelling.{name_bytes, run_length_bytes, run_bytes, runs_bytes}
use Rattle.wire_codec.specs.Reading.{Follow, LeftData, ◌>>=◌, number, tested, bounded, name_at, many, Before, nothing_before, is_above, are_numbered, may_have, some_at, run_length_at, is_apart, next_run_at, run_at, before_next, runs_at}
use Rattle.wire_codec.specs.Judging.{run_len}
use Rattle.wire_codec.specs.Code.RunLists.{HasNames, StandsBelow, AreRuns, HasLength, StandsApart, AreApart}
use Rattle.wire_codec.specs.Code.Puts.{EntriesIn}
use Rattle.wire_codec.proofs.Steps.{IsBytes}
use Rattle.wire_codec.proofs.TwoWays.{Reads, bind, mapped, in_words, tested_reads, end}
use Rattle.wire_codec.proofs.Numbers.{wide16, wide32, number_reads, bounded_reads}
use Rattle.wire_codec.proofs.Lists.{many_reads}
use Rattle.wire_codec.proofs.Sites.{IsSite, sites_most}
use Rattle.wire_codec.proofs.Fields.{IsNamed, name_reads}
use Rattle.wire_codec.proofs.RunNames.{joined, by_test, names_of_runs, runs_of_names, runs_rise, whole_runs, count_names, length-names, names_counted, length-runs}

-- ---- the length of a run

-- frames have few names
abbrev pub AreFew : Listing → ℕ → Type 0
AreFew Names n = Unit {0}
AreFew Runs n = n ≤ UNDO_ENTRIES
AreFew LongRuns n = Unit {0}

-- so many names from this one on, after so many
pub record FitsLength (k : Listing) (so_far : ℕ) (n : NameData) (len : ℕ) : Type 0 where
  pub has : HasLength k len
  pub numbered : n.number + len ≤ NUMBERS + 1
  pub few : AreFew k (so_far + len)

length_reads : (k : Listing) (so_far : ℕ) (n : NameData) → n.number ≤ NUMBERS
    → Reads (run_length_at k so_far n) (run_length_bytes k) (FitsLength k so_far n)
length_reads Names so_far n most =
    in_words (run_length_at Names so_far n) (λ len. []) (run_length_bytes Names) (λ len. 1 ≡ len) (FitsLength Names so_far n) (end 1)
    (λ len h. record { has = sym h; numbered = omega (arith, most, h); few = tt })
    (λ len h. sym h.has)
    (λ len h. refl)
length_reads Runs so_far n most =
    in_words (run_length_at Runs so_far n) (to_be_bytes w16) (run_length_bytes Runs)
    (λ len. ((len < 2 ^ 16) × (ltb 0 len ≡ true)) × ((are_numbered n len && may_have Runs (so_far + len)) ≡ true))
    (FitsLength Runs so_far n)
    (tested_reads (λ len. are_numbered n len && may_have Runs (so_far + len)) Range (some_at w16) (to_be_bytes w16)
    (λ len. (len < 2 ^ 16) × (ltb 0 len ≡ true))
    (tested_reads (λ len. ltb 0 len) Zero (number w16) (to_be_bytes w16) (λ len. len < 2 ^ 16) (number_reads w16 (2 ^ 16) wide16)))
    (λ len h.
    let parts = and_parts (are_numbered n len) (may_have Runs (so_far + len)) h.1 in
    record { has = ltb-true 0 len h.0.1; numbered = leb-true _ _ parts.0; few = leb-true _ _ parts.1 })
    (λ len h. (
      (omega (arith, h.few), lt-ltb 0 len (h.has)),
      and_from (are_numbered n len) (may_have Runs (so_far + len)) (le-leb _ _ h.numbered) (le-leb _ _ h.few),
    ))
    (λ len h. refl)
length_reads LongRuns so_far n most =
    in_words (run_length_at LongRuns so_far n) (to_be_bytes w32) (run_length_bytes LongRuns)
    (λ len. ((len < 2 ^ 32) × (ltb 0 len ≡ true)) × ((are_numbered n len && true) ≡ true))
    (FitsLength LongRuns so_far n)
    (tested_reads (λ len. are_numbered n len && true) Range (some_at w32) (to_be_bytes w32)
    (λ len. (len < 2 ^ 32) × (ltb 0 len ≡ true))
    (tested_reads (λ len. ltb 0 len) Zero (number w32) (to_be_bytes w32) (λ len. len < 2 ^ 32) (number_reads w32 (2 ^ 32) wide32)))
    (λ len h.
    let parts = and_parts (are_numbered n len) true h.1 in
    record { has = ltb-true 0 len h.0.1; numbered = leb-true _ _ parts.0; few = tt })
    (λ len h. (
      (omega (arith, h.numbered), lt-ltb 0 len (h.has)),
      and_from (are_numbered n len) true (le-leb _ _ h.numbered) refl,
    ))
    (λ len h. refl)

-- ---- one run

pub record IsRun (k : Listing) (before : Before) (r : RunData) : Type 0 where
  pub named : IsNamed (version_of k) r.first
  pub rises : is_above before.run r.first ≡ true
  pub length : FitsLength k before.names r.first r.len
  pub some : 1 ≤ r.generation
  pub most : r.generation ≤ GENERATIONS
  pub apart : is_apart k before.run r ≡ true

-- a generation behind what was read before
abbrev GenerationOf : NameData → ℕ → RunData → Type 0
GenerationOf n len r = ((r.generation < 2 ^ 16) × (ltb 0 r.generation ≡ true)) × (run_of n len r.generation ≡ r)

abbrev LengthOf : Listing → ℕ → NameData → RunData → Type 0
LengthOf k so_far n r = FitsLength k so_far n r.len × GenerationOf n r.len r

abbrev RunParts : Listing → Before → RunData → Type 0
RunParts k before r = (IsNamed (version_of k) r.first × (is_above before.run r.first ≡ true)) × LengthOf k before.names r.first r

first_is : (k : Listing) (so_far : ℕ) (n : NameData) (r : RunData) → LengthOf k so_far n r → r.first ≡ n
first_is k so_far n r h = ap (λ (y : RunData). y.first) (sym h.1.1)

len_is : (n : NameData) (len : ℕ) (r : RunData) → GenerationOf n len r → r.len ≡ len
len_is n len r h = ap (λ (y : RunData). y.len) (sym h.1)

next_run_parts : (k : Listing) (before : Before) → Reads (next_run_at k before) (run_bytes k) (RunParts k before)
unfolding next_run_at
next_run_parts k before =
    bind {X = RunData} (tested (is_above before.run) Order (name_at (version_of k)))
    (λ n m. run_length_at k before.names n m >>= λ len. ◌>>=◌ {B = RunData × LeftData} (tested (λ g. ltb 0 g) Zero (number w16) len.1)
    (λ g. Ok (run_of n len.0 g.0, g.1)))
    (name_bytes (version_of k)) (λ r. run_length_bytes k r.len ++ to_be_bytes w16 r.generation)
    (λ n. IsNamed (version_of k) n × (is_above before.run n ≡ true)) (LengthOf k before.names) (λ r. r.first)
    (tested_reads (is_above before.run) Order (name_at (version_of k)) (name_bytes (version_of k)) (IsNamed (version_of k))
    (name_reads (version_of k)))
    (λ n named. bind {X = RunData} (run_length_at k before.names n)
    (λ len m. ◌>>=◌ {B = RunData × LeftData} (tested (λ g. ltb 0 g) Zero (number w16) m) (λ g. Ok (run_of n len g.0, g.1)))
    (run_length_bytes k) (λ r. to_be_bytes w16 r.generation) (FitsLength k before.names n) (GenerationOf n) (λ r. r.len)
    (length_reads k before.names n named.0.1.1)
    (λ len _. mapped {X = RunData} (tested (λ g. ltb 0 g) Zero (number w16)) (to_be_bytes w16) (λ g. (g < 2 ^ 16) × (ltb 0 g ≡ true))
    (λ g. run_of n len g) (λ r. r.generation)
    (tested_reads (λ g. ltb 0 g) Zero (number w16) (to_be_bytes w16) (λ g. g < 2 ^ 16) (number_reads w16 (2 ^ 16) wide16))
    (λ g. refl))
    (len_is n))
    (first_is k before.names)

pub run_reads : (k : Listing) (before : Before) → Reads (run_at k before) (run_bytes k) (IsRun k before)
run_reads k before =
    in_words (run_at k before) (run_bytes k) (run_bytes k) (λ r. RunParts k before r × (is_apart k before.run r ≡ true)) (IsRun k before)
    (tested_reads (is_apart k before.run) Order (next_run_at k before) (run_bytes k) (RunParts k before) (next_run_parts k before))
    (λ r h. record {
      named = h.0.0.0;
      rises = h.0.0.1;
      length = h.0.1.0;
      some = ltb-true 0 r.generation h.0.1.1.0.1;
      most = (let below = h.0.1.1.0.0 in omega (arith, below));
      apart = h.1;
    })
    (λ r h. (
      ((h.named, h.rises), (h.length, ((omega (arith, h.most), lt-ltb 0 r.generation (h.some)), refl))),
      h.apart,
    ))
    (λ r h. refl)

-- ---- lists of runs

abbrev pub RunsIn : Version → List RunData → Type 0
RunsIn v [] = Unit {0}
RunsIn v (r ∷ rs) = IsSite v r.first.site × RunsIn v rs

-- runs as they stand in bytes, after so many names
pub record AreListed (k : Listing) (so_far : ℕ) (rs : List RunData) : Type 0 where
  pub are : AreRuns rs
  pub apart : AreApart k rs
  pub sites : RunsIn (version_of k) rs
  pub few : AreFew k (so_far + count_names rs)

-- the first run stands above the one before, if there is one, and apart from it
abbrev IsNext : Listing → Option RunData → List RunData → Type 0
IsNext k before [] = Unit {0}
IsNext k before (r ∷ rs) = (is_above before r.first ≡ true) × (is_apart k before r ≡ true)

next_apart : (k : Listing) (r : RunData) (rs : List RunData) → IsNext k (Some r) rs → StandsBelow r rs × StandsApart k r rs
next_apart k r [] h = (tt, tt)
next_apart k r (s ∷ rs) h = h

apart_next : (k : Listing) (r : RunData) (rs : List RunData) → StandsBelow r rs → StandsApart k r rs → IsNext k (Some r) rs
apart_next k r [] below apart = tt
apart_next k r (s ∷ rs) below apart = (below, apart)

some_length : (k : Listing) (len : ℕ) → HasLength k len → 1 ≤ len
some_length Names len h = omega (arith, h)
some_length Runs len h = h
some_length LongRuns len h = h

has_names : (k : Listing) (before : Before) (r : RunData) → IsRun k before r → HasNames r
has_names k before r h = record {
  first = (let most = sites_most (version_of k) in let site = h.named.0 in omega (arith, site, most), h.named.1.0, h.named.1.1);
  some = some_length k r.len h.length.has;
  last = h.length.numbered;
}

few_moved : (k : Listing) (a b : ℕ) → a ≡ b → AreFew k a → AreFew k b
few_moved k a b e h = subst (AreFew k) e h

few_before : (k : Listing) (a b : ℕ) → a ≤ b → AreFew k b → AreFew k a
few_before Names a b le h = tt
few_before Runs a b le h = omega (arith, le, h)
few_before LongRuns a b le h = tt

listed_from : (k : Listing) (before : Before) (rs : List RunData) → AreFew k before.names → Follow (IsRun k) before_next before rs
    → AreListed k before.names rs × IsNext k before.run rs
unfolding count_names
listed_from k before [] few h =
    let none : before.names ≡ before.names + 0 = omega arith in
    (record { are = tt; apart = tt; sites = tt; few = few_moved k before.names (before.names + 0) none few }, tt)
listed_from k before (r ∷ rs) few h =
    let rest = listed_from k (before_next before r) rs h.0.length.few h.1 in
    let next = next_apart k r rs rest.1 in
    let sum : (before.names + r.len) + count_names rs ≡ before.names + (r.len + count_names rs) = omega arith in (
      record {
        are = (has_names k before r h.0, h.0.some, h.0.most, next.0, rest.0.are);
        apart = (h.0.length.has, next.1, rest.0.apart);
        sites = (h.0.named.0, rest.0.sites);
        few = few_moved k _ _ sum rest.0.few;
      },
      (h.0.rises, h.0.apart),
    )

listed_to : (k : Listing) (before : Before) (rs : List RunData) → AreListed k before.names rs → IsNext k before.run rs
    → Follow (IsRun k) before_next before rs
unfolding count_names
listed_to k before [] h next = tt
listed_to k before (r ∷ rs) h next =
    let has = h.are.0 in
    let sum : before.names + (r.len + count_names rs) ≡ (before.names + r.len) + count_names rs = omega arith in
    let more : AreFew k ((before.names + r.len) + count_names rs) = few_moved k _ _ sum h.few in
    let one : IsRun k before r = record {
      named = (h.sites.0, (has.first.1, has.first.2));
      rises = next.0;
      length = record { has = h.apart.0; numbered = has.last; few = few_before k (before.names + r.len) _ (omega arith) more };
      some = h.are.1;
      most = h.are.2;
      apart = next.1;
    } in (
      one,
      listed_to k (before_next before r) rs (record { are = h.are.4; apart = h.apart.2; sites = h.sites.1; few = more })
          (apart_next k r rs h.are.3 h.apart.1),
    )

no_next : (k : Listing) (rs : List RunData) → IsNext k None rs
no_next k [] = tt
no_next k (r ∷ rs) = (refl, refl)

few_none : (k : Listing) → AreFew k 0
few_none Names = tt
few_none Runs = omega arith
few_none LongRuns = tt

-- runs in their order, as they are read one after the other
pub runs_in_order : (k : Listing) (rs : List RunData) → Follow (IsRun k) before_next nothing_before rs → AreListed k 0 rs
runs_in_order k rs h = (listed_from k nothing_before rs (few_none k) h).0

pub runs_in_turn : (k : Listing) (rs : List RunData) → AreListed k 0 rs → Follow (IsRun k) before_next nothing_before rs
runs_in_turn k rs h = listed_to k nothing_before rs h (no_next k rs)

runs_read : (k : Listing) (n : ℕ)
    → Reads (many (run_at k) before_next n nothing_before) (flat_map (run_bytes k))
    (λ rs. (length rs ≡ n) × Follow (IsRun k) before_next nothing_before rs)
runs_read k n = many_reads (run_at k) before_next (run_bytes k) (IsRun k) (run_reads k) n nothing_before

-- what is read are the runs of their names
pub many_runs : (k : Listing) (n : ℕ) (l m : LeftData) (rs : List RunData) → IsBytes l.bytes
    → many (run_at k) before_next n nothing_before l ≡ Ok (rs, m) → (length rs ≡ n) × AreListed k 0 rs
many_runs k n l m rs fits e = let took = (runs_read k n).takes l m rs fits e in (took.1.0, runs_in_order k rs took.1.1)

-- ---- the runs of a context, and before them how many they are

runs_wide : (k : Listing) → Reads (bounded (runs_width k) 0 UNDO_ENTRIES Range) (to_be_bytes (runs_width k))
    (λ n. (0 ≤ n) × (n ≤ UNDO_ENTRIES))
runs_wide Names = bounded_reads w16 (2 ^ 16) wide16 0 UNDO_ENTRIES Range (omega arith)
runs_wide Runs = bounded_reads w16 (2 ^ 16) wide16 0 UNDO_ENTRIES Range (omega arith)
runs_wide LongRuns = bounded_reads w32 (2 ^ 32) wide32 0 UNDO_ENTRIES Range (omega arith)

abbrev pub FitRuns : Listing → List RunData → Type 0
FitRuns k rs = AreListed k 0 rs × (length rs ≤ UNDO_ENTRIES)

pub runs_reads : (k : Listing) → Reads (runs_at k) (runs_bytes k) (FitRuns k)
unfolding runs_at
runs_reads k =
    in_words (runs_at k) (runs_bytes k) (runs_bytes k)
    (λ rs. ((0 ≤ length rs) × (length rs ≤ UNDO_ENTRIES)) × ((length rs ≡ length rs) × Follow (IsRun k) before_next nothing_before rs))
    (FitRuns k)
    (bind {X = List RunData} (bounded (runs_width k) 0 UNDO_ENTRIES Range) (λ n m. many (run_at k) before_next n nothing_before m)
    (to_be_bytes (runs_width k)) (flat_map (run_bytes k))
    (λ n. (0 ≤ n) × (n ≤ UNDO_ENTRIES)) (λ n rs. (length rs ≡ n) × Follow (IsRun k) before_next nothing_before rs) (λ rs. length rs)
    (runs_wide k)
    (λ n _. runs_read k n)
    (λ n rs h. h.0))
    (λ rs h. (runs_in_order k rs h.1.1, h.0.1))
    (λ rs h. ((omega arith, h.1), (refl, runs_in_turn k rs h.0)))
    (λ rs h. refl)

-- ---- undone names

names_in_sites : (v : Version) (n : NameData) (k g : ℕ) (es : List (NameData × ℕ)) → IsSite v n.site → EntriesIn v es
    → EntriesIn v (names_from n k g ++ es)
unfolding names_from
names_in_sites v n zero g es site are = are
names_in_sites v n (suc k) g es site are = (site, names_in_sites v (further n 1) k g es site are)

sites_of_names : (v : Version) (rs : List RunData) → RunsIn v rs → EntriesIn v (flat_map names_in rs)
sites_of_names v [] h = tt
sites_of_names v (r ∷ rs) h =
    subst (EntriesIn v) (sym (flat_map-cons names_in r rs))
    (names_in_sites v r.first r.len r.generation (flat_map names_in rs) h.0 (sites_of_names v rs h.1))

front_in : (k : Listing) (v : Version) (a : RunData) (rs : List RunData) → IsSite v a.first.site → RunsIn v rs → RunsIn v (in_front k a rs)
front_in k v a [] site are = (site, tt)
front_in k v a (b ∷ rs) site are =
    by_test (λ t. RunsIn v (if t then joined a b ∷ rs else a ∷ (b ∷ rs))) (joins k && goes_on a b) (λ on. (site, are.1))
    (λ off. (site, are))

pub sites_of_runs : (k : Listing) (v : Version) (es : List (NameData × ℕ)) → EntriesIn v es → RunsIn v (runs_of k es)
unfolding runs_of
sites_of_runs k v [] h = tt
sites_of_runs k v (e ∷ es) h = front_in k v (run_of e.0 1 e.1) (runs_of k es) h.0 (sites_of_runs k v es h.1)

-- undone names that frames, or states, can list
pub record AreNames (k : Listing) (es : List (NameData × ℕ)) : Type 0 where
  pub are : AreEntries es
  pub sites : EntriesIn (version_of k) es
  pub few : AreFew k (length es)

pub names_listed : (k : Listing) (rs : List RunData) → AreListed k 0 rs → AreNames k (flat_map names_in rs)
names_listed k rs h =
    let counted : 0 + count_names rs ≡ length (flat_map names_in rs) = omega (arith, length-names rs) in
    record {
      are = runs_rise rs h.are;
      sites = sites_of_names (version_of k) rs h.sites;
      few = few_moved k _ _ counted h.few;
    }

pub runs_listed : (k : Listing) (es : List (NameData × ℕ)) → AreNames k es → AreListed k 0 (runs_of k es)
runs_listed k es h =
    let whole = whole_runs k es h.are in
    let counted : length es ≡ 0 + count_names (runs_of k es) = omega (arith, names_counted k es) in
    record {
      are = whole.0;
      apart = whole.1;
      sites = sites_of_runs k (version_of k) es h.sites;
      few = few_moved k _ _ counted h.few;
    }

-- ---- the undone names of a context

-- the names of runs that are read are cut into these runs again
pub fit_again : (k : Listing) (rs : List RunData) → FitRuns k rs → runs_of k (flat_map names_in rs) ≡ rs
fit_again k rs h = runs_of_names k rs h.0.apart

-- each name by itself
count_by_one : (rs : List RunData) → AreApart Names rs → count_names rs ≡ length rs
unfolding count_names
count_by_one [] h = refl
count_by_one (r ∷ rs) h = omega (arith, h.0, count_by_one rs h.2)

-- few names, in order, of sites that the version can name
fit_names : (v : Version) (rs : List RunData) → FitRuns (listing_of v) rs
    → AreEntries (flat_map names_in rs) × (length (flat_map names_in rs) ≤ UNDO_ENTRIES) × EntriesIn v (flat_map names_in rs)
fit_names One rs h =
    let names = names_listed Names rs h.0 in
    (names.are, omega (arith, length-names rs, count_by_one rs h.0.apart, h.1), names.sites)
fit_names Two rs h = let names = names_listed Runs rs h.0 in (names.are, names.few, names.sites)

pub fit_entries : (v : Version) (es : List (NameData × ℕ)) → FitRuns (listing_of v) (runs_of (listing_of v) es)
    → AreEntries es × (length es ≤ UNDO_ENTRIES) × EntriesIn v es
fit_entries v es h =
    subst (λ (ds : List (NameData × ℕ)). AreEntries ds × (length ds ≤ UNDO_ENTRIES) × EntriesIn v ds) (names_of_runs (listing_of v) es)
    (fit_names v (runs_of (listing_of v) es) h)

pub entries_fit : (v : Version) (es : List (NameData × ℕ)) → AreEntries es → length es ≤ UNDO_ENTRIES → EntriesIn v es
    → FitRuns (listing_of v) (runs_of (listing_of v) es)
entries_fit One es are few sites =
    (runs_listed Names es (record { are = are; sites = sites; few = tt }), omega (arith, length-runs Names es, few))
entries_fit Two es are few sites =
    (runs_listed Runs es (record { are = are; sites = sites; few = few }), omega (arith, length-runs Runs es, few))

-- ---- sizes

pub length-run_bytes : (k : Listing) (r : RunData) → length (run_bytes k r) ≡ run_len k
length-run_bytes Names r = refl
length-run_bytes Runs r = refl
length-run_bytes LongRuns r = refl

pub length-run_list : (k : Listing) (rs : List RunData) → length (flat_map (run_bytes k) rs) ≡ run_len k * length rs
length-run_list k [] = omega arith
length-run_list k (r ∷ rs) =
    let more : run_len k * suc (length rs) ≡ run_len k * length rs + run_len k = mul-suc (run_len k) (length rs) in
    omega (
      arith,
      more,
      length-run_bytes k r,
      length-run_list k rs,
      ap length (flat_map-cons (run_bytes k) r rs),
      length-append (run_bytes k r) (flat_map (run_bytes k) rs),
    )
