-- The sites that frames of a version can name: in the lists of contexts, and in whole operations.
use Rattle.std.proofs.Common.{◌≡◌, ℕ, zero, suc, ◌+◌, ◌<◌, ◌≤◌, ◌^◌, List, [], ◌∷◌, length, get_or, map, refl, subst, arith, inl, inr, Contains}
use Rattle.std.proofs.lemmas.List.Elements.{Contains-append_left, Contains-append_right, Contains-append_cases}
use Rattle.op_name.specs.NameData.{NameData}
use Rattle.op_name.specs.declared.name.TheConstants.{SITES}
use Rattle.context_vector.specs.Contexts.{AreCounts, AreEntries}
use Rattle.context_diff.specs.Operations.{OpData, inserting, deleting, undoing, context_of, IsInRange, IsWellFormed}
use Rattle.wire_codec.specs.declared.version.Version.{Version}
use Rattle.wire_codec.specs.declared.version.Version.TheVariants.{One, Two}
use Rattle.wire_codec.specs.Versions.{site_width, site_len, sites, own_sites, context_sites, Fits}
use Rattle.wire_codec.specs.Spelling.{head_of}
use Rattle.wire_codec.specs.Code.Puts.{HeadFits}
pub use Rattle.wire_codec.specs.Code.Puts.{CountsIn, EntriesIn}
use Rattle.wire_codec.proofs.Numbers.{IsWide, wide8, wide16}

abbrev pub IsSite : Version → ℕ → Type 0
IsSite v s = s < sites v

-- what the bytes of a site can say
abbrev pub site_limit : Version → ℕ
site_limit One = 2 ^ 8
site_limit Two = 2 ^ 16

pub wide_site : (v : Version) → IsWide (site_width v) (site_limit v)
wide_site One = wide8
wide_site Two = wide16

pub sites_some : (v : Version) → 1 ≤ sites v
sites_some One = omega arith
sites_some Two = omega arith

pub sites_fit : (v : Version) → sites v < site_limit v
sites_fit One = omega arith
sites_fit Two = omega arith

pub site_len_most : (v : Version) → site_len v ≤ 2
site_len_most One = omega arith
site_len_most Two = omega arith

-- no version has more sites than a session may have
pub sites_most : (v : Version) → sites v ≤ SITES
sites_most One = omega arith
sites_most Two = omega arith

-- version 2 has all of them
pub sites_all : SITES ≤ sites Two
sites_all = omega arith

-- ---- the lists of a context

pub counts_of_two : (low : ℕ) (ps : List (ℕ × ℕ)) → AreCounts low ps → CountsIn Two ps
counts_of_two low [] h = tt
counts_of_two low (p ∷ ps) h = (let all = sites_all in omega (arith, h.1, all), counts_of_two (p.0 + 1) ps h.4)

pub entries_of_two : (es : List (NameData × ℕ)) → AreEntries es → EntriesIn Two es
entries_of_two [] h = tt
entries_of_two (e ∷ es) h = (let all = sites_all in let name = h.0 in omega (arith, name.0, all), entries_of_two es h.4)

-- ---- whole operations

abbrev pub AllIn : Version → List ℕ → Type 0
AllIn v xs = (s : ℕ) → Contains xs s → IsSite v s

none_in : (v : Version) → AllIn v []
none_in v s h = absurd (let lt = h.1 in omega (arith, lt))

more_in : (v : Version) (x : ℕ) (xs : List ℕ) → IsSite v x → AllIn v xs → AllIn v (x ∷ xs)
more_in v x xs here later s h = at h.0 h.1 h.2
  where
    at : (k : ℕ) → k < suc (length xs) → get_or (x ∷ xs) k s ≡ s → IsSite v s
    at zero within found = subst (IsSite v) found here
    at (suc k) within found = later s (k, omega (arith, within), found)

first_in : (v : Version) (x : ℕ) (xs : List ℕ) → AllIn v (x ∷ xs) → IsSite v x
first_in v x xs h = h x (0, omega arith, refl)

rest_in : (v : Version) (x : ℕ) (xs : List ℕ) → AllIn v (x ∷ xs) → AllIn v xs
rest_in v x xs h s at = h s (suc at.0, let lt = at.1 in omega (arith, lt), at.2)

counts_all : (v : Version) (ps : List (ℕ × ℕ)) → CountsIn v ps → AllIn v (map (λ p. p.0) ps)
counts_all v [] h = none_in v
counts_all v (p ∷ ps) h = more_in v p.0 (map (λ q. q.0) ps) h.0 (counts_all v ps h.1)

all_counts : (v : Version) (ps : List (ℕ × ℕ)) → AllIn v (map (λ p. p.0) ps) → CountsIn v ps
all_counts v [] h = tt
all_counts v (p ∷ ps) h =
    (first_in v p.0 (map (λ q. q.0) ps) h, all_counts v ps (rest_in v p.0 (map (λ q. q.0) ps) h))

entries_all : (v : Version) (es : List (NameData × ℕ)) → EntriesIn v es → AllIn v (map (λ e. e.0.site) es)
entries_all v [] h = none_in v
entries_all v (e ∷ es) h = more_in v e.0.site (map (λ d. d.0.site) es) h.0 (entries_all v es h.1)

all_entries : (v : Version) (es : List (NameData × ℕ)) → AllIn v (map (λ e. e.0.site) es) → EntriesIn v es
all_entries v [] h = tt
all_entries v (e ∷ es) h =
    (first_in v e.0.site (map (λ d. d.0.site) es) h, all_entries v es (rest_in v e.0.site (map (λ d. d.0.site) es) h))

-- the sites before the context
abbrev pub OwnIn : Version → OpData → Type 0
OwnIn v o = HeadFits v (head_of o)

own_all : (v : Version) (o : OpData) → OwnIn v o → AllIn v (own_sites o)
own_all v (inserting n p text c) h = more_in v n.site [] h (none_in v)
own_all v (deleting n p c) h = more_in v n.site [] h (none_in v)
own_all v (undoing a t g c) h = more_in v a (t.site ∷ []) h.0 (more_in v t.site [] h.1 (none_in v))

all_own : (v : Version) (o : OpData) → AllIn v (own_sites o) → OwnIn v o
all_own v (inserting n p text c) h = first_in v n.site [] h
all_own v (deleting n p c) h = first_in v n.site [] h
all_own v (undoing a t g c) h = (first_in v a (t.site ∷ []) h, first_in v t.site [] (rest_in v a (t.site ∷ []) h))

-- the parts of `Fits`
pub record AllFit (v : Version) (o : OpData) : Type 0 where
  pub own : OwnIn v o
  pub counts : CountsIn v (context_of o).counts
  pub entries : EntriesIn v (context_of o).entries

pub fits_from : (v : Version) (o : OpData) → AllFit v o → Fits v o
fits_from v o h s at =
    let c = context_of o in
    let counts = map (λ p. p.0) c.counts in
    let entries = map (λ e. e.0.site) c.entries in
    elim (Contains-append_cases (own_sites o) (context_sites c) s at) [
      | inl here ↦ own_all v o h.own s here
      | inr later ↦ elim (Contains-append_cases counts entries s later) [
        | inl here ↦ counts_all v c.counts h.counts s here
        | inr last ↦ entries_all v c.entries h.entries s last
      ]
    ]

pub fits_to : (v : Version) (o : OpData) → Fits v o → AllFit v o
fits_to v o h =
    let c = context_of o in
    let counts = map (λ p. p.0) c.counts in
    let entries = map (λ e. e.0.site) c.entries in
    let context : AllIn v (context_sites c) =
    λ s at. h s (Contains-append_right (own_sites o) (context_sites c) s at) in
    record {
      own = all_own v o (λ s at. h s (Contains-append_left (own_sites o) (context_sites c) s at));
      counts = all_counts v c.counts (λ s at. context s (Contains-append_left counts entries s at));
      entries = all_entries v c.entries (λ s at. context s (Contains-append_right counts entries s at));
    }

-- version 2 can name the sites of each operation whose fields are in their ranges
range_fits_two : (o : OpData) → IsInRange o → AllFit Two o
range_fits_two (inserting n p text c) h = record {
  own = (let all = sites_all in let name = h.0 in omega (arith, name.0, all));
  counts = counts_of_two 0 c.counts h.3.counts;
  entries = entries_of_two c.entries h.3.entries;
}
range_fits_two (deleting n p c) h = record {
  own = (let all = sites_all in let name = h.0 in omega (arith, name.0, all));
  counts = counts_of_two 0 c.counts h.2.counts;
  entries = entries_of_two c.entries h.2.entries;
}
range_fits_two (undoing a t g c) h = record {
  own = (let all = sites_all in let name = h.1 in (omega (arith, h.0, all), omega (arith, name.0, all)));
  counts = counts_of_two 0 c.counts h.4.counts;
  entries = entries_of_two c.entries h.4.entries;
}

pub fits_two : (o : OpData) → IsWellFormed o → Fits Two o
fits_two o well = fits_from Two o (range_fits_two o well.in_range)
