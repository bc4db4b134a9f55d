-- Contexts and whole operations, both ways, and that what fits is what is well formed and has sites that the version can name.
use Rattle.std.proofs.Common.{◌≡◌, ℕ, ◌+◌, ◌<◌, ◌≤◌, ◌^◌, ltb, leb, true, List, [], ◌∷◌, length, Ok, refl, sym, ap, ◌∙◌, arith}
use Rattle.std.specs.List.{flat_map}
use Rattle.std.specs.Int.{w32, to_be_bytes}
use Rattle.std.proofs.lemmas.Bool.{ltb-true, lt-ltb, le-leb, leb-true}
use Rattle.op_name.specs.NameData.{NameData}
use Rattle.context_vector.specs.Contexts.{ContextData, IsContext, AreCounts}
use Rattle.context_diff.specs.Operations.{OpData, inserting, deleting, undoing, context_of, IsInRange}
use Rattle.op_name.specs.declared.name.TheConstants.{NUMBERS, SITES}
use Rattle.context_diff.specs.declared.op.TheConstants.{UNDO_ENTRIES}
use Rattle.wire_codec.specs.declared.cause.Cause.TheVariants.{Range, Order, Zero}
use Rattle.wire_codec.specs.declared.head.Head.{Head}
use Rattle.wire_codec.specs.declared.head.Head.TheVariants.{Insert, Delete, Undo}
use Rattle.wire_codec.specs.declared.version.Version.{Version}
use Rattle.wire_codec.specs.Versions.{site_width, sites}
use Rattle.wire_codec.specs.Runs.{names_in, runs_of, listing_of}
use Rattle.wire_codec.specs.Spelling.{head_of, op_of, site_bytes, head_bytes, count_bytes, counts_bytes, runs_bytes, entries_bytes, context_bytes, body_bytes}
use Rattle.wire_codec.specs.Reading.{Follow, LeftData, ◌>>=◌, number, tested, bounded, site_at, head_at, many, count_at, site_after, counts_at, runs_at, context_at, op_at}
use Rattle.wire_codec.proofs.TwoWays.{Reads, bind, mapped, mapped_where, in_words, tested_reads}
use Rattle.wire_codec.proofs.Numbers.{wide32, number_reads, bounded_reads}
use Rattle.wire_codec.proofs.Sites.{IsSite, site_limit, wide_site, sites_fit, sites_most, CountsIn, EntriesIn, AllFit}
use Rattle.wire_codec.proofs.Lists.{many_reads}
use Rattle.wire_codec.proofs.RunNames.{names_of_runs}
use Rattle.wire_codec.proofs.RunReads.{FitRuns, runs_reads, fit_again, fit_entries, entries_fit}
use Rattle.wire_codec.proofs.Fields.{IsHead, site_reads, head_reads}

-- ---- one site with its count

pub record IsCount (v : Version) (low : ℕ) (p : ℕ × ℕ) : Type 0 where
  pub rises : low ≤ p.0
  pub site : IsSite v p.0
  pub some : 1 ≤ p.1
  pub most : p.1 ≤ NUMBERS

pub count_reads : (v : Version) (low : ℕ) → Reads (count_at v low) (count_bytes v) (IsCount v low)
unfolding count_at
count_reads v low =
    in_words (count_at v low) (count_bytes v) (count_bytes v)
    (λ p. (IsSite v p.0 × (leb low p.0 ≡ true)) × ((((p.1 < 2 ^ 32) × (ltb 0 p.1 ≡ true)) × (leb p.1 NUMBERS ≡ true)) × ((p.0, p.1) ≡ p)))
    (IsCount v low)
    (bind {X = ℕ × ℕ} (tested (λ s. leb low s) Order (site_at v))
    (λ s m. ◌>>=◌ {B = (ℕ × ℕ) × LeftData} (tested (λ n. leb n NUMBERS) Range (tested (λ n. ltb 0 n) Zero (number w32)) m)
    (λ n. Ok ((s, n.0), n.1)))
    (site_bytes v) (λ p. to_be_bytes w32 p.1) (λ s. IsSite v s × (leb low s ≡ true))
    (λ s p. (((p.1 < 2 ^ 32) × (ltb 0 p.1 ≡ true)) × (leb p.1 NUMBERS ≡ true)) × ((s, p.1) ≡ p)) (λ p. p.0)
    (tested_reads (λ s. leb low s) Order (site_at v) (site_bytes v) (IsSite v) (site_reads v))
    (λ s _. mapped {X = ℕ × ℕ} (tested (λ n. leb n NUMBERS) Range (tested (λ n. ltb 0 n) Zero (number w32))) (to_be_bytes w32)
    (λ n. ((n < 2 ^ 32) × (ltb 0 n ≡ true)) × (leb n NUMBERS ≡ true)) (λ n. (s, n)) (λ p. p.1)
    (tested_reads (λ n. leb n NUMBERS) Range (tested (λ n. ltb 0 n) Zero (number w32)) (to_be_bytes w32)
    (λ n. (n < 2 ^ 32) × (ltb 0 n ≡ true))
    (tested_reads (λ n. ltb 0 n) Zero (number w32) (to_be_bytes w32) (λ n. n < 2 ^ 32) (number_reads w32 (2 ^ 32) wide32)))
    (λ n. refl))
    (λ s p h. ap (λ (y : ℕ × ℕ). y.0) (sym h.1)))
    (λ p h. let some = ltb-true 0 p.1 h.1.0.0.1 in
    record { rises = leb-true _ _ h.0.1; site = h.0.0; some = omega (arith, some); most = leb-true _ _ h.1.0.1 })
    (λ p h. (
      (h.site, le-leb _ _ h.rises),
      (((omega (arith, h.most), lt-ltb 0 p.1 (omega (arith, h.some))), le-leb _ _ h.most), refl),
    ))
    (λ p h. refl)

-- ---- the two lists of a context

-- counts of sites that the version can name
abbrev pub AreCountsOf : Version → ℕ → List (ℕ × ℕ) → Type 0
AreCountsOf v low ps = AreCounts low ps × CountsIn v ps

counts_from : (v : Version) (low : ℕ) (ps : List (ℕ × ℕ)) → Follow (IsCount v) site_after low ps → AreCountsOf v low ps
counts_from v low [] h = (tt, tt)
counts_from v low (p ∷ ps) h =
    let rest = counts_from v (p.0 + 1) ps h.1 in
    let most = sites_most v in
    let site = h.0.site in
    ((h.0.rises, omega (arith, site, most), h.0.some, h.0.most, rest.0), (site, rest.1))

pub counts_to : (v : Version) (low : ℕ) (ps : List (ℕ × ℕ)) → AreCountsOf v low ps → Follow (IsCount v) site_after low ps
counts_to v low [] h = tt
counts_to v low (p ∷ ps) h =
    (record { rises = h.0.0; site = h.1.0; some = h.0.2; most = h.0.3 }, counts_to v (p.0 + 1) ps (h.0.4, h.1.1))

-- counts in their order, as they are read one after the other
pub counts_in_order : (v : Version) (ps : List (ℕ × ℕ)) → Follow (IsCount v) site_after 0 ps → AreCountsOf v 0 ps
counts_in_order v ps h = counts_from v 0 ps h

-- sites rise below `SITES`, so there are few of them
pub counts_few : (low : ℕ) (ps : List (ℕ × ℕ)) → AreCounts low ps → low ≤ SITES → low + length ps ≤ SITES
counts_few low [] h le = omega arith
counts_few low (p ∷ ps) h le = let rest = counts_few (p.0 + 1) ps h.4 (omega (arith, h.1)) in omega (arith, rest, h.0)

-- and no more of them than the version can name
pub counts_named : (v : Version) (low : ℕ) (ps : List (ℕ × ℕ)) → AreCountsOf v low ps → low ≤ sites v → low + length ps ≤ sites v
counts_named v low [] h le = omega (arith, le)
counts_named v low (p ∷ ps) h le =
    let site = h.1.0 in
    let rest = counts_named v (p.0 + 1) ps (h.0.4, h.1.1) (omega (arith, site)) in
    omega (arith, rest, h.0.0)

pub counts_most : (v : Version) (ps : List (ℕ × ℕ)) → AreCountsOf v 0 ps → length ps ≤ sites v
counts_most v ps h = let most = counts_named v 0 ps h (omega arith) in omega (arith, most)

pub counts_reads : (v : Version) → Reads (counts_at v) (counts_bytes v) (AreCountsOf v 0)
unfolding counts_at
counts_reads v =
    in_words (counts_at v) (counts_bytes v) (counts_bytes v)
    (λ ps. ((0 ≤ length ps) × (length ps ≤ sites v)) × ((length ps ≡ length ps) × Follow (IsCount v) site_after 0 ps)) (AreCountsOf v 0)
    (bind {X = List (ℕ × ℕ)} (bounded (site_width v) 0 (sites v) Range) (λ n m. many (count_at v) site_after n 0 m)
    (to_be_bytes (site_width v)) (flat_map (count_bytes v))
    (λ n. (0 ≤ n) × (n ≤ sites v)) (λ n ps. (length ps ≡ n) × Follow (IsCount v) site_after 0 ps) (λ ps. length ps)
    (bounded_reads (site_width v) (site_limit v) (wide_site v) 0 (sites v) Range (sites_fit v))
    (λ n _. many_reads (count_at v) site_after (count_bytes v) (IsCount v) (count_reads v) n 0)
    (λ n ps h. h.0))
    (λ ps h. counts_from v 0 ps h.1.1)
    (λ ps h. ((omega arith, counts_most v ps h), (refl, counts_to v 0 ps h)))
    (λ ps h. refl)

-- ---- contexts

pub record FitsContext (v : Version) (c : ContextData) : Type 0 where
  pub is : IsContext c
  pub few : length c.entries ≤ UNDO_ENTRIES
  pub counts : CountsIn v c.counts
  pub entries : EntriesIn v c.entries

pub context_reads : (v : Version) → Reads (context_at v) (context_bytes v) (FitsContext v)
unfolding context_at context_bytes
context_reads v =
    let k = listing_of v in
    in_words (context_at v) (context_bytes v) (context_bytes v)
    (λ c. AreCountsOf v 0 c.counts
    × (FitRuns k (runs_of k c.entries) × (record { counts = c.counts; entries = flat_map names_in (runs_of k c.entries) } ≡ c)))
    (FitsContext v)
    (bind {X = ContextData} (counts_at v)
    (λ cs m. ◌>>=◌ {B = ContextData × LeftData} (runs_at k m) (λ rs. Ok (record { counts = cs; entries = flat_map names_in rs.0 }, rs.1)))
    (counts_bytes v) (λ c. entries_bytes k c.entries) (AreCountsOf v 0)
    (λ cs c. FitRuns k (runs_of k c.entries) × (record { counts = cs; entries = flat_map names_in (runs_of k c.entries) } ≡ c))
    (λ c. c.counts)
    (counts_reads v)
    (λ cs _. mapped_where {X = ContextData} (runs_at k) (runs_bytes k) (FitRuns k)
    (λ rs. record { counts = cs; entries = flat_map names_in rs })
    (λ c. runs_of k c.entries) (runs_reads k) (fit_again k))
    (λ cs c h. ap (λ (y : ContextData). y.counts) (sym h.1)))
    (λ c h. let fit = fit_entries v c.entries h.1.0 in
    record { is = record { counts = h.0.0; entries = fit.0 }; few = fit.1; counts = h.0.1; entries = fit.2 })
    (λ c h. (
      (h.is.counts, h.counts),
      (
        entries_fit v c.entries h.is.entries h.few h.entries,
        ap (λ (es : List (NameData × ℕ)). record { counts = c.counts; entries = es }) (names_of_runs k c.entries),
      ),
    ))
    (λ c h. refl)

-- ---- operations

pub context_of-op_of : (h : Head) (c : ContextData) → context_of (op_of h c) ≡ c
context_of-op_of (Insert n p text) c = refl
context_of-op_of (Delete n p) c = refl
context_of-op_of (Undo a t g) c = refl

head_of-op_of : (h : Head) (c : ContextData) → head_of (op_of h c) ≡ h
head_of-op_of (Insert n p text) c = refl
head_of-op_of (Delete n p) c = refl
head_of-op_of (Undo a t g) c = refl

op_of-head_of : (o : OpData) → op_of (head_of o) (context_of o) ≡ o
op_of-head_of (inserting n p text c) = refl
op_of-head_of (deleting n p c) = refl
op_of-head_of (undoing a t g c) = refl

-- fields in their ranges, and sites that the version can name
abbrev pub FitsOp : Version → OpData → Type 0
FitsOp v o = IsInRange o × AllFit v o

site_most : (v : Version) (s : ℕ) → IsSite v s → s < SITES
site_most v s h = let most = sites_most v in omega (arith, h, most)

op_fits_from : (v : Version) (o : OpData) → IsHead v (head_of o) → FitsContext v (context_of o) → FitsOp v o
op_fits_from v (inserting n p text c) h f = (
  ((site_most v n.site h.0.0, h.0.1.0, h.0.1.1), h.1.0, h.1.1, f.is, f.few),
  record { own = h.0.0; counts = f.counts; entries = f.entries },
)
op_fits_from v (deleting n p c) h f = (
  ((site_most v n.site h.0.0, h.0.1.0, h.0.1.1), h.1, f.is, f.few),
  record { own = h.0.0; counts = f.counts; entries = f.entries },
)
op_fits_from v (undoing a t g c) h f = (
  (site_most v a h.0, (site_most v t.site h.1.0.0, h.1.0.1.0, h.1.0.1.1), h.1.1.0, h.1.1.1, f.is, f.few),
  record { own = (h.0, h.1.0.0); counts = f.counts; entries = f.entries },
)

head_fits : (v : Version) (o : OpData) → FitsOp v o → IsHead v (head_of o)
head_fits v (inserting n p text c) h = ((h.1.own, (h.0.0.1, h.0.0.2)), (h.0.1, h.0.2))
head_fits v (deleting n p c) h = ((h.1.own, (h.0.0.1, h.0.0.2)), h.0.1)
head_fits v (undoing a t g c) h = (h.1.own.0, ((h.1.own.1, (h.0.1.1, h.0.1.2)), (h.0.2, h.0.3)))

pub context_in_range : (o : OpData) → IsInRange o → IsContext (context_of o) × (length (context_of o).entries ≤ UNDO_ENTRIES)
context_in_range (inserting n p text c) h = (h.3, h.4)
context_in_range (deleting n p c) h = (h.2, h.3)
context_in_range (undoing a t g c) h = (h.4, h.5)

pub context_fits : (v : Version) (o : OpData) → FitsOp v o → FitsContext v (context_of o)
context_fits v o h =
    let range = context_in_range o h.0 in
    record { is = range.0; few = range.1; counts = h.1.counts; entries = h.1.entries }

-- an operation whose fields are in their ranges, and whose sites the version can name
pub op_reads : (v : Version) → Reads (op_at v) (body_bytes v) (FitsOp v)
unfolding op_at body_bytes
op_reads v =
    in_words (op_at v) (body_bytes v) (body_bytes v)
    (λ o. IsHead v (head_of o) × (FitsContext v (context_of o) × (op_of (head_of o) (context_of o) ≡ o)))
    (FitsOp v)
    (bind {X = OpData} (head_at v) (λ h m. ◌>>=◌ {B = OpData × LeftData} (context_at v m) (λ c. Ok (op_of h c.0, c.1)))
    (head_bytes v) (λ o. context_bytes v (context_of o)) (IsHead v) (λ h o. FitsContext v (context_of o) × (op_of h (context_of o) ≡ o))
    head_of
    (head_reads v)
    (λ h _. mapped (context_at v) (context_bytes v) (FitsContext v) (λ c. op_of h c) context_of (context_reads v)
    (λ c. context_of-op_of h c))
    (λ h o f. ap head_of (sym f.1) ∙ head_of-op_of h (context_of o)))
    (λ o f. op_fits_from v o f.0 f.1.0)
    (λ o f. (head_fits v o f, (context_fits v o f, op_of-head_of o)))
    (λ o f. refl)
