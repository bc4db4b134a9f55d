-- How many bytes the parts of frames have.
use Rattle.std.proofs.Common.{◌≡◌, ℕ, ◌+◌, ◌*◌, ◌<◌, ◌≤◌, eqb, Bool, true, false, cond, List, [], ◌∷◌, ◌++◌, length, refl, ap, arith}
use Rattle.std.specs.List.{flat_map}
use Rattle.std.specs.Int.{w16, w32, byte_len, to_be_bytes}
use Rattle.std.proofs.Math.Nat.{mul-suc, mul-zero}
use Rattle.std.proofs.lemmas.Bool.{le-leb}
use Rattle.std.proofs.lemmas.List.{length-append}
use Rattle.std.proofs.lemmas.List.Concat.{flat_map-cons}
use Rattle.context_vector.specs.Contexts.{ContextData}
use Rattle.context_diff.specs.Operations.{OpData, inserting, deleting, undoing, context_of, IsInRange}
use Rattle.context_diff.specs.declared.op.TheConstants.{UNDO_ENTRIES}
use Rattle.wire_codec.specs.declared.head.Head.{Head}
use Rattle.wire_codec.specs.declared.head.Head.TheVariants.{Insert, Delete, Undo}
use Rattle.op_name.specs.NameData.{NameData}
use Rattle.wire_codec.specs.declared.listing.Listing.{Listing}
use Rattle.wire_codec.specs.declared.listing.Listing.TheVariants.{Names, Runs, LongRuns}
use Rattle.wire_codec.specs.declared.version.Version.{Version}
use Rattle.wire_codec.specs.declared.version.Version.TheVariants.{One, Two}
use Rattle.wire_codec.specs.Versions.{site_width, site_len, sites, longest, Fits}
use Rattle.wire_codec.specs.Runs.{runs_of, runs_width, listing_of, version_of}
use Rattle.wire_codec.specs.Reading.{may_have}
use Rattle.wire_codec.specs.Spelling.{head_of, site_bytes, length_bytes, character_bytes, text_bytes, head_bytes, count_bytes, counts_bytes, run_bytes, entries_bytes, context_bytes, body_bytes, frame}
use Rattle.wire_codec.specs.Code.Elements.{character_len}
use Rattle.wire_codec.specs.Code.Puts.{length_len, text_len, head_len, context_len}
use Rattle.wire_codec.specs.Judging.{count_len, run_len, runs_in}
use Rattle.wire_codec.specs.States.{state_bytes}
use Rattle.wire_codec.proofs.Sites.{wide_site, fits_to}
use Rattle.wire_codec.proofs.Contexts.{counts_most, context_in_range}
use Rattle.wire_codec.proofs.RunNames.{length-runs}
use Rattle.wire_codec.proofs.RunReads.{length-run_list}

pub length-count : (v : Version) (p : ℕ × ℕ) → length (count_bytes v p) ≡ count_len v
length-count v p =
    omega (arith, length-append (site_bytes v p.0) (to_be_bytes w32 p.1), (wide_site v).len p.0)

pub length-counts : (v : Version) (ps : List (ℕ × ℕ)) → length (flat_map (count_bytes v) ps) ≡ count_len v * length ps
length-counts v [] = let none = mul-zero (count_len v) in omega (arith, none)
length-counts v (p ∷ ps) =
    omega (
      arith,
      length-counts v ps,
      ap length (flat_map-cons (count_bytes v) p ps),
      length-append (count_bytes v p) (flat_map (count_bytes v) ps),
      length-count v p,
      mul-suc (count_len v) (length ps),
    )

pub length-counts_bytes : (v : Version) (ps : List (ℕ × ℕ)) → length (counts_bytes v ps) ≡ site_len v + count_len v * length ps
length-counts_bytes v ps =
    omega (
      arith,
      length-counts v ps,
      (wide_site v).len (length ps),
      length-append (to_be_bytes (site_width v) (length ps)) (flat_map (count_bytes v) ps),
    )

-- the bytes of the number of runs
length-runs_width : (k : Listing) (n : ℕ) → length (to_be_bytes (runs_width k) n) ≡ byte_len (runs_width k)
length-runs_width Names n = refl
length-runs_width Runs n = refl
length-runs_width LongRuns n = refl

pub length-entries_bytes : (k : Listing) (es : List (NameData × ℕ))
    → length (entries_bytes k es) ≡ byte_len (runs_width k) + run_len k * length (runs_of k es)
length-entries_bytes k es =
    let rs = runs_of k es in
    omega (
      arith,
      length-append (to_be_bytes (runs_width k) (length rs)) (flat_map (run_bytes k) rs),
      length-runs_width k (length rs),
      length-run_list k rs,
    )

-- a state has no more runs than undone names
pub state_short : (c : ContextData) → length (state_bytes c) ≤ 6 + count_len Two * length c.counts + 12 * length c.entries
unfolding state_bytes
state_short c =
    omega (
      arith,
      length-append (counts_bytes Two c.counts) (entries_bytes LongRuns c.entries),
      length-counts_bytes Two c.counts,
      length-entries_bytes LongRuns c.entries,
      length-runs LongRuns c.entries,
    )

-- the number of runs has two bytes in frames
pub runs_width_two : (v : Version) → byte_len (runs_width (listing_of v)) ≡ 2
runs_width_two One = refl
runs_width_two Two = refl

pub length-context_bytes : (v : Version) (c : ContextData) → length (context_bytes v c)
    ≡ context_len v c (length (runs_of (listing_of v) c.entries))
unfolding context_bytes
length-context_bytes v c =
    let k = listing_of v in
    omega (
      arith,
      length-counts_bytes v c.counts,
      length-entries_bytes k c.entries,
      runs_width_two v,
      length-append (counts_bytes v c.counts) (entries_bytes k c.entries),
    )

length-characters : (text : List ℕ) → length (flat_map character_bytes text) ≡ character_len * length text
length-characters [] = refl
length-characters (c ∷ cs) =
    omega (
      arith,
      length-characters cs,
      ap length (flat_map-cons character_bytes c cs),
      length-append (character_bytes c) (flat_map character_bytes cs),
    )

-- how many characters there are has two bytes, or none
length-length_bytes : (len : ℕ) → length (length_bytes len) ≡ length_len len
length-length_bytes len = by_kind (eqb len 1)
  where
    by_kind : (one : Bool) → length (cond one [] (to_be_bytes w16 len)) ≡ cond one 0 2
    by_kind true = refl
    by_kind false = refl

length_len_most : (len : ℕ) → length_len len ≤ 2
length_len_most len = by_kind (eqb len 1)
  where
    by_kind : (one : Bool) → cond one 0 2 ≤ 2
    by_kind true = omega arith
    by_kind false = omega arith

length-text_bytes : (text : List ℕ) → length (text_bytes text) ≡ text_len (length text)
length-text_bytes text =
    omega (
      arith,
      length-append (length_bytes (length text)) (flat_map character_bytes text),
      length-length_bytes (length text),
      length-characters text,
    )

pub length-head_bytes : (v : Version) (h : Head) → length (head_bytes v h) ≡ head_len v h
unfolding head_bytes
length-head_bytes One (Insert n p text) = omega (arith, length-text_bytes text)
length-head_bytes One (Delete n p) = refl
length-head_bytes One (Undo a t g) = refl
length-head_bytes Two (Insert n p text) = omega (arith, length-text_bytes text)
length-head_bytes Two (Delete n p) = refl
length-head_bytes Two (Undo a t g) = refl

site_len_least : (v : Version) → 1 ≤ site_len v
site_len_least One = omega arith
site_len_least Two = omega arith

head_len_least : (v : Version) (h : Head) → 9 ≤ head_len v h
head_len_least v (Insert n p text) = omega arith
head_len_least v (Delete n p) = omega arith
head_len_least v (Undo a t g) = let least = site_len_least v in omega (arith, least)

-- the longest insert, without its site
head_len_most : (v : Version) (o : OpData) → IsInRange o → head_len v (head_of o) ≤ 1035 + site_len v
head_len_most v (inserting n p text c) h = omega (arith, length_len_most (length text), h.2.most)
head_len_most v (deleting n p c) h = omega arith
head_len_most One (undoing a t g c) h = omega arith
head_len_most Two (undoing a t g c) h = omega arith

pub body_size : (v : Version) (o : OpData) → length (body_bytes v o)
    ≡ head_len v (head_of o) + context_len v (context_of o) (length (runs_in v o))
unfolding body_bytes
body_size v o =
    omega (
      arith,
      length-append (head_bytes v (head_of o)) (context_bytes v (context_of o)),
      length-head_bytes v (head_of o),
      length-context_bytes v (context_of o),
    )

-- no body is longer than the longest
pub body_short : (v : Version) (o : OpData) → IsInRange o → Fits v o → length (body_bytes v o) ≤ longest v
body_short v o h fits =
    let range = context_in_range o h in
    let counts = counts_most v (context_of o).counts (range.0.counts, (fits_to v o fits).counts) in
    let runs : length (runs_in v o) ≤ UNDO_ENTRIES = omega (arith, length-runs (listing_of v) (context_of o).entries, range.1) in
    short v (head_len v (head_of o)) (length (context_of o).counts) (length (runs_in v o)) (length (body_bytes v o))
    (body_size v o) (head_len_most v o h) counts runs
  where
    short : (v : Version) (head counts runs size : ℕ)
        → size ≡ head + ((site_len v + count_len v * counts) + (2 + run_len (listing_of v) * runs))
        → head ≤ 1035 + site_len v → counts ≤ sites v → runs ≤ UNDO_ENTRIES → size ≤ longest v
    short One head counts runs size is most few_counts few_runs = omega (arith, is, most, few_counts, few_runs)
    short Two head counts runs size is most few_counts few_runs = omega (arith, is, most, few_counts, few_runs)

-- a body has a number, and its runs at its end
pub body_long : (v : Version) (o : OpData) → 12 + run_len (listing_of v) * length (runs_in v o) ≤ length (body_bytes v o)
body_long v o =
    long (head_len v (head_of o)) (site_len v) (count_len v * length (context_of o).counts) (run_len (listing_of v) * length (runs_in v o))
    (length (body_bytes v o)) (body_size v o) (head_len_least v (head_of o)) (site_len_least v)
  where
    long : (head site counts runs size : ℕ) → size ≡ head + ((site + counts) + (2 + runs)) → 9 ≤ head → 1 ≤ site → 12 + runs ≤ size
    long head site counts runs size is least some = omega (arith, is, least, some)

-- a frame in four pieces
pub frame_pieces : (v : Version) (o : OpData)
    → to_be_bytes w32 (length (body_bytes v o))
    ++ (head_bytes v (head_of o) ++ (counts_bytes v (context_of o).counts ++ entries_bytes (listing_of v) (context_of o).entries))
    ≡ frame v o
unfolding body_bytes context_bytes
frame_pieces v o = refl

pub longest_fits : (v : Version) → longest v < 4294967292
longest_fits One = omega arith
longest_fits Two = omega arith

-- so many undone names are few enough for frames, whose sites are those of the version
pub few_in_frames : (v : Version) (n : ℕ) → n ≤ UNDO_ENTRIES → may_have (listing_of v) n ≡ true
few_in_frames One n h = le-leb _ _ h
few_in_frames Two n h = le-leb _ _ h

pub sites_of_frames : (v : Version) → version_of (listing_of v) ≡ v
sites_of_frames One = refl
sites_of_frames Two = refl
