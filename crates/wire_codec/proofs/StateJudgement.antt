-- The judgement of states is their spelling: what is judged good begins with the spelling of a state, and each is judged so.
use Rattle.std.proofs.Common.{◌≡◌, ℕ, ◌+◌, ◌*◌, ◌<◌, ◌≤◌, ◌^◌, ltb, Bool, true, false, cond, List, [], ◌++◌, length, take, drop, Result, Ok, Err, refl, sym, ap, subst, ◌∙◌, append_assoc, arith, inl, inr, ◌⊎◌}
use Rattle.std.specs.List.{flat_map}
use Rattle.std.specs.Int.{w16, w32, to_be_bytes, from_be_bytes}
use Rattle.std.proofs.lemmas.Bool.{ltb-true, ltb-false, le-ltb, cond-true, cond-false}
use Rattle.std.proofs.lemmas.List.{append-nil, nil_from_length, length-append, length-take, length-drop, take-append-drop, take-append-le, drop-append-le, take_at, drop_at}
use Rattle.op_name.specs.NameData.{NameData}
use Rattle.op_name.specs.declared.name.TheConstants.{SITES}
use Rattle.context_vector.specs.Contexts.{ContextData, AreCounts, AreEntries}
use Rattle.context_vector.proofs.CallerLemmas.{length_at_most}
use Rattle.wire_codec.specs.declared.cause.Cause.TheVariants.{Range}
use Rattle.wire_codec.specs.declared.fault.Fault.{Fault}
use Rattle.wire_codec.specs.declared.fault.Unread.{Unread}
use Rattle.wire_codec.specs.declared.fault.Unread.TheVariants.{More, Bad}
use Rattle.wire_codec.specs.declared.version.Version.TheVariants.{Two}
use Rattle.wire_codec.specs.declared.listing.Listing.TheVariants.{LongRuns}
use Rattle.wire_codec.specs.Versions.{sites}
use Rattle.wire_codec.specs.Runs.{RunData, names_in, runs_of}
use Rattle.wire_codec.specs.Spelling.{count_bytes, counts_bytes, run_bytes, runs_bytes, entries_bytes}
use Rattle.wire_codec.specs.Reading.{Follow, LeftData, left_at, Found, fault, many, count_at, site_after, run_at, before_next, nothing_before}
use Rattle.wire_codec.specs.Judging.{count_len, run_len, length_of, stray_from}
use Rattle.wire_codec.specs.States.{state_bytes, IsState, unless_stray, judge_runs, judge_named, judge_counted, sites_of, judge_state, IsStateOf}
use Rattle.wire_codec.proofs.Steps.{IsBytes, IsBytes-take, IsBytes-drop, cond_ok, cond_err}
use Rattle.wire_codec.proofs.TwoWays.{Reads}
use Rattle.wire_codec.proofs.Numbers.{wide16, wide32}
use Rattle.wire_codec.proofs.Sites.{counts_of_two, entries_of_two}
use Rattle.wire_codec.proofs.Lists.{many_reads}
use Rattle.wire_codec.proofs.Contexts.{IsCount, count_reads, counts_in_order, counts_to, counts_few}
use Rattle.wire_codec.proofs.RunNames.{names_of_runs, runs_of_names, length-runs}
use Rattle.wire_codec.proofs.RunReads.{IsRun, run_reads, runs_in_order, runs_in_turn, many_runs, AreNames, names_listed, runs_listed, length-run_list}
use Rattle.wire_codec.proofs.Strays.{stray_ok, stray_again, stray_faults}
use Rattle.wire_codec.proofs.WellFormed.{AreOriginals, stray_keeps, has_no_stray}
use Rattle.wire_codec.proofs.Sizes.{length-counts}

-- ---- a list in its section of the bytes

module _ {S A : Type 0} (step : S → LeftData → Found A) (next : S → A → S) (spell : A → List ℕ) (Is : S → A → Type 0)
    (one : (s : S) → Reads (step s) spell (Is s))
    (size : ℕ) (long : (xs : List A) → length (flat_map spell xs) ≡ size * length xs) (first : S) where
  -- what is read of a section of the right length is spelled there
  section_takes : (n at : ℕ) (bytes : List ℕ) (xs : List A) (m : LeftData) → IsBytes bytes → size * n ≤ length bytes
      → many step next n first (left_at at (take (size * n) bytes)) ≡ Ok (xs, m)
      → (bytes ≡ flat_map spell xs ++ drop (size * n) bytes) × (length (flat_map spell xs) ≡ size * n) × (length xs ≡ n)
      × Follow Is next first xs
  section_takes n at bytes xs m fits enough e =
      let took =
      (many_reads step next spell Is one n first).takes (left_at at (take (size * n) bytes)) m xs (IsBytes-take (size * n) bytes fits)
      e in
      let count : length xs ≡ n = took.1.0 in
      let wide : length (flat_map spell xs) ≡ size * n = long xs ∙ ap (λ (k : ℕ). size * k) count in
      let cut : length (take (size * n) bytes) ≡ size * n = omega (arith, enough, length-take (size * n) bytes) in
      let parts : take (size * n) bytes ≡ flat_map spell xs ++ m.bytes = took.0.parts in
      let total : length (take (size * n) bytes) ≡ length (flat_map spell xs) + length m.bytes =
      ap length parts ∙ length-append (flat_map spell xs) m.bytes in
      let none : m.bytes ≡ [] = nil_from_length m.bytes (omega (arith, total, wide, cut)) in
      let whole : take (size * n) bytes ≡ flat_map spell xs =
      parts ∙ ap (λ (t : List ℕ). flat_map spell xs ++ t) none ∙ append-nil (flat_map spell xs) in
      let all : bytes ≡ flat_map spell xs ++ drop (size * n) bytes =
      sym (take-append-drop (size * n) bytes) ∙ ap (λ (t : List ℕ). t ++ drop (size * n) bytes) whole in
      (all, wide, count, took.1.1)

  section_again : (xs : List A) (n at : ℕ) (rest : List ℕ) → length xs ≡ n → Follow Is next first xs
      → (m : LeftData) × (many step next n first (left_at at (take (size * n) (flat_map spell xs ++ rest))) ≡ Ok (xs, m))
  section_again xs n at rest count are =
      let wide : length (flat_map spell xs) ≡ size * n = long xs ∙ ap (λ (k : ℕ). size * k) count in
      let text : take (size * n) (flat_map spell xs ++ rest) ≡ flat_map spell xs ++ [] =
      take_at (flat_map spell xs) rest (size * n) wide ∙ sym (append-nil (flat_map spell xs)) in
      let read = (many_reads step next spell Is one n first).again xs at [] (count, are) in
      (left_at (at + length (flat_map spell xs)) [], ap (λ (t : List ℕ). many step next n first (left_at at t)) text ∙ read)

  section_faults : (n at : ℕ) (bytes : List ℕ) (f : Fault) → IsBytes bytes
      → many step next n first (left_at at (take (size * n) bytes)) ≡ Err f → f.offset ≤ at + size * n
  section_faults n at bytes f fits e =
      let inside =
      (many_reads step next spell Is one n first).faults (left_at at (take (size * n) bytes)) f (IsBytes-take (size * n) bytes fits)
      e in
      omega (arith, inside, length-take (size * n) bytes)

counts_section : (n at : ℕ) (bytes : List ℕ) (ps : List (ℕ × ℕ)) (m : LeftData) → IsBytes bytes → count_len Two * n ≤ length bytes
    → many (count_at Two) site_after n 0 (left_at at (take (count_len Two * n) bytes)) ≡ Ok (ps, m)
    → (bytes ≡ flat_map (count_bytes Two) ps ++ drop (count_len Two * n) bytes)
    × (length (flat_map (count_bytes Two) ps) ≡ count_len Two * n) × (length ps ≡ n)
    × Follow (IsCount Two) site_after 0 ps
counts_section =
    section_takes (count_at Two) site_after (count_bytes Two) (IsCount Two) (count_reads Two) (count_len Two) (length-counts Two) 0

runs_section : (n at : ℕ) (bytes : List ℕ) (es : List RunData) (m : LeftData) → IsBytes bytes → run_len LongRuns * n ≤ length bytes
    → many (run_at LongRuns) before_next n nothing_before (left_at at (take (run_len LongRuns * n) bytes)) ≡ Ok (es, m)
    → (bytes ≡ flat_map (run_bytes LongRuns) es ++ drop (run_len LongRuns * n) bytes)
    × (length (flat_map (run_bytes LongRuns) es) ≡ run_len LongRuns * n) × (length es ≡ n)
    × Follow (IsRun LongRuns) before_next nothing_before es
runs_section =
    section_takes (run_at LongRuns) before_next (run_bytes LongRuns) (IsRun LongRuns) (run_reads LongRuns) (run_len LongRuns)
    (length-run_list LongRuns) nothing_before

pub runs_counted : (n : ℕ) (l m : LeftData) (rs : List RunData) → IsBytes l.bytes
    → many (run_at LongRuns) before_next n nothing_before l ≡ Ok (rs, m) → length rs ≡ n
runs_counted n l m rs fits e = (many_runs LongRuns n l m rs fits e).0

-- ---- undone names

-- the bytes begin with the undone names of this state
record Named (counts : List (ℕ × ℕ)) (at : ℕ) (bytes : List ℕ) (c : ContextData) (used : ℕ) : Type 0 where
  same : c.counts ≡ counts
  entries : AreEntries c.entries
  originals : AreOriginals c c.entries
  rest : List ℕ
  parts : bytes ≡ entries_bytes LongRuns c.entries ++ rest
  ends : used ≡ at + length (entries_bytes LongRuns c.entries)

unfoldable pub runs_found : List ℕ → ℕ → Found (List RunData)
runs_found bytes at =
    many (run_at LongRuns) before_next (length_of bytes) nothing_before
    (left_at (at + 4) (take (run_len LongRuns * length_of bytes) (drop 4 bytes)))

-- the state of these counts and runs
abbrev pub with_runs : List (ℕ × ℕ) → List RunData → ContextData
with_runs counts rs = record { counts = counts; entries = flat_map names_in rs }

pub stray_done : (c d : ContextData) (stop used : ℕ) (r : Result (Unit {0}) Fault) → unless_stray c stop r ≡ Ok (d, used)
    → (r ≡ Ok tt) × (c ≡ d) × (stop ≡ used)
stray_done c d stop used (Ok u) e =
    let both : ◌≡◌ {A = ContextData × ℕ} (c, stop) (d, used) = cc in
    (refl, ap (λ (p : ContextData × ℕ). p.0) both, ap (λ (p : ContextData × ℕ). p.1) both)
stray_done c d stop used (Err f) e = absurd (let no = e in cc)

pub runs_done : (counts : List (ℕ × ℕ)) (begin stop : ℕ) (d : ContextData) (used : ℕ) (r : Found (List RunData))
    → judge_runs counts begin stop r ≡ Ok (d, used)
    → (e : List RunData × LeftData) × (r ≡ Ok e)
    × (unless_stray (with_runs counts e.0) stop (stray_from LongRuns (with_runs counts e.0) begin e.0) ≡ Ok (d, used))
runs_done counts begin stop d used (Ok e) is = (e, refl, is)
runs_done counts begin stop d used (Err f) is = absurd (let no = is in cc)

named_takes : (counts : List (ℕ × ℕ)) (at : ℕ) (bytes : List ℕ) (c : ContextData) (used : ℕ) → IsBytes bytes
    → judge_named counts at bytes ≡ Ok (c, used) → Named counts at bytes c used
unfolding judge_named runs_found
named_takes counts at bytes c used fits e =
    let n = length_of bytes in
    let stop = at + (4 + run_len LongRuns * n) in
    let four =
    cond_ok (ltb (length bytes) 4) (More (at + 4))
    (cond (ltb (length bytes) (4 + run_len LongRuns * n)) (Err (More stop)) (judge_runs counts (at + 4) stop (runs_found bytes at)))
    (c, used) e in
    let there =
    cond_ok (ltb (length bytes) (4 + run_len LongRuns * n)) (More stop) (judge_runs counts (at + 4) stop (runs_found bytes at)) (c, used)
    four.1 in
    let long = ltb-false _ _ four.0 in
    let enough = ltb-false _ _ there.0 in
    let read = runs_done counts (at + 4) stop c used (runs_found bytes at) there.1 in
    let rs = read.0.0 in
    let es = flat_map names_in rs in
    let d = with_runs counts rs in
    let kept = stray_done d c stop used (stray_from LongRuns d (at + 4) rs) read.2 in
    let rest_fits = IsBytes-drop 4 bytes fits in
    let section = runs_section n (at + 4) (drop 4 bytes) rs read.0.1 rest_fits (omega (arith, enough, length-drop 4 bytes)) read.1 in
    let are = runs_in_order LongRuns rs section.3 in
    let front_len : length (take 4 bytes) ≡ 4 = omega (arith, long, length-take 4 bytes) in
    let front : to_be_bytes w32 n ≡ take 4 bytes = wide32.back (take 4 bytes) front_len (IsBytes-take 4 bytes fits) in
    let number : to_be_bytes w32 (length rs) ≡ take 4 bytes = ap (to_be_bytes w32) section.2 ∙ front in
    let rest = drop (run_len LongRuns * n) (drop 4 bytes) in
    let spelled : entries_bytes LongRuns es ≡ runs_bytes LongRuns rs = ap (runs_bytes LongRuns) (runs_of_names LongRuns rs are.apart) in
    let listed : bytes ≡ runs_bytes LongRuns rs ++ rest =
    sym (take-append-drop 4 bytes)
    ∙ (ap (λ (t : List ℕ). take 4 bytes ++ t) section.0
    ∙ (ap (λ (t : List ℕ). t ++ (flat_map (run_bytes LongRuns) rs ++ rest)) (sym number)
    ∙ sym (append_assoc (to_be_bytes w32 (length rs)) (flat_map (run_bytes LongRuns) rs) rest))) in
    let size : length (entries_bytes LongRuns es) ≡ 4 + run_len LongRuns * n = omega (arith, ap length spelled, section.1) in
    let whole : Named counts at bytes d used = record {
      same = refl;
      entries = (names_listed LongRuns rs are).are;
      originals = stray_ok LongRuns d (at + 4) rs kept.0;
      rest = rest;
      parts = listed ∙ ap (λ (t : List ℕ). t ++ rest) (sym spelled);
      ends = (let is = kept.2 in omega (arith, is, size));
    } in
    subst (λ (x : ContextData). Named counts at bytes x used) kept.1 whole

-- the undone names of a state are few enough to be counted, and their sites can be named
state_names : (es : List (NameData × ℕ)) → AreEntries es → AreNames LongRuns es
state_names es are = record { are = are; sites = entries_of_two es are; few = tt }

runs_number : (es : List (NameData × ℕ)) → AreEntries es → length (runs_of LongRuns es) < 2 ^ 32
runs_number es are = omega (arith, length-runs LongRuns es, length_at_most es are)

named_again : (c : ContextData) (at : ℕ) (rest : List ℕ) → AreEntries c.entries → AreOriginals c c.entries
    → judge_named c.counts at (entries_bytes LongRuns c.entries ++ rest) ≡ Ok (c, at + length (entries_bytes LongRuns c.entries))
unfolding judge_named runs_found
named_again c at rest are originals =
    let es = c.entries in
    let rs = runs_of LongRuns es in
    let n = length rs in
    let bytes = entries_bytes LongRuns es ++ rest in
    let size : length_of bytes ≡ n = wide32.again n (runs_number es are) in
    let listed : length (flat_map (run_bytes LongRuns) rs) ≡ run_len LongRuns * n = length-run_list LongRuns rs in
    let total : length bytes ≡ 4 + (run_len LongRuns * n + length rest) =
    omega (arith, listed, length-append (flat_map (run_bytes LongRuns) rs) rest) in
    let named_len : length (entries_bytes LongRuns es) ≡ 4 + run_len LongRuns * n = omega (arith, listed) in
    let four : ltb (length bytes) 4 ≡ false = le-ltb _ _ (omega (arith, total)) in
    let there : ltb (length bytes) (4 + run_len LongRuns * length_of bytes) ≡ false = le-ltb _ _ (omega (arith, size, total)) in
    let section =
    section_again (run_at LongRuns) before_next (run_bytes LongRuns) (IsRun LongRuns) (run_reads LongRuns) (run_len LongRuns)
    (length-run_list LongRuns) nothing_before rs n (at + 4) rest refl
    (runs_in_turn LongRuns rs (runs_listed LongRuns es (state_names es are))) in
    let read : runs_found bytes at ≡ Ok (rs, section.0) =
    ap (λ (k : ℕ). many (run_at LongRuns) before_next k nothing_before
    (left_at (at + 4) (take (run_len LongRuns * k) (flat_map (run_bytes LongRuns) rs ++ rest)))) size
    ∙ section.1 in
    let same : flat_map names_in rs ≡ es = names_of_runs LongRuns es in
    let whole : with_runs c.counts rs ≡ c = ap (λ (xs : List (NameData × ℕ)). record { counts = c.counts; entries = xs }) same in
    let kept : stray_from LongRuns c (at + 4) rs ≡ Ok tt =
    stray_again LongRuns c (at + 4) rs (subst (AreOriginals c) (sym same) originals) in
    let stop = at + (4 + run_len LongRuns * length_of bytes) in
    let good : judge_runs c.counts (at + 4) stop (runs_found bytes at) ≡ Ok (c, stop) =
    ap (judge_runs c.counts (at + 4) stop) read
    ∙ (ap (λ (d : ContextData). unless_stray d stop (stray_from LongRuns d (at + 4) rs)) whole ∙ ap (unless_stray c stop) kept) in
    let ends : stop ≡ at + length (entries_bytes LongRuns es) = omega (arith, size, named_len) in
    cond-false _ _ _ four ∙ (cond-false _ _ _ there ∙ (good ∙ ap (λ (k : ℕ). Ok (c, k)) ends))

-- ---- whole states

unfoldable pub counts_read : List ℕ → Found (List (ℕ × ℕ))
counts_read bytes = many (count_at Two) site_after (sites_of bytes) 0 (left_at 2 (take (count_len Two * sites_of bytes) (drop 2 bytes)))

unfoldable pub counted : List ℕ → Result (ContextData × ℕ) Unread
counted bytes =
    judge_counted (2 + count_len Two * sites_of bytes) (drop (count_len Two * sites_of bytes) (drop 2 bytes)) (counts_read bytes)

counts_done : (at : ℕ) (rest : List ℕ) (d : ContextData) (used : ℕ) (r : Found (List (ℕ × ℕ))) → judge_counted at rest r ≡ Ok (d, used)
    → (x : List (ℕ × ℕ) × LeftData) × (r ≡ Ok x) × (judge_named x.0 at rest ≡ Ok (d, used))
counts_done at rest d used (Ok x) e = (x, refl, e)
counts_done at rest d used (Err f) e = absurd (let no = e in cc)

pub state_takes : (bytes : List ℕ) (c : ContextData) (used : ℕ) → IsBytes bytes → judge_state bytes ≡ Ok (c, used) → IsStateOf bytes c used
unfolding judge_state counts_read counted state_bytes
state_takes bytes c used fits e =
    let n = sites_of bytes in
    let some =
    cond_ok (ltb (length bytes) 2) (More 2)
    (cond (ltb (sites Two) n) (Err (Bad (fault Range 0)))
    (cond (ltb (length bytes) (2 + count_len Two * n)) (Err (More (2 + count_len Two * n))) (counted bytes))) (c, used) e in
    let few =
    cond_ok (ltb (sites Two) n) (Bad (fault Range 0))
    (cond (ltb (length bytes) (2 + count_len Two * n)) (Err (More (2 + count_len Two * n))) (counted bytes)) (c, used) some.1 in
    let there = cond_ok (ltb (length bytes) (2 + count_len Two * n)) (More (2 + count_len Two * n)) (counted bytes) (c, used) few.1 in
    let long = ltb-false _ _ some.0 in
    let enough = ltb-false _ _ there.0 in
    let rest = drop (count_len Two * n) (drop 2 bytes) in
    let read = counts_done (2 + count_len Two * n) rest c used (counts_read bytes) there.1 in
    let ps = read.0.0 in
    let rest_fits = IsBytes-drop (count_len Two * n) (drop 2 bytes) (IsBytes-drop 2 bytes fits) in
    let named = named_takes ps (2 + count_len Two * n) rest c used rest_fits read.2 in
    let section =
    counts_section n 2 (drop 2 bytes) ps read.0.1 (IsBytes-drop 2 bytes fits) (omega (arith, enough, length-drop 2 bytes)) read.1 in
    let front_len : length (take 2 bytes) ≡ 2 = omega (arith, long, length-take 2 bytes) in
    let front : to_be_bytes w16 n ≡ take 2 bytes = wide16.back (take 2 bytes) front_len (IsBytes-take 2 bytes fits) in
    let number : to_be_bytes w16 (length ps) ≡ take 2 bytes = ap (to_be_bytes w16) section.2 ∙ front in
    let head : bytes ≡ counts_bytes Two ps ++ rest =
    sym (take-append-drop 2 bytes)
    ∙ (ap (λ (t : List ℕ). take 2 bytes ++ t) section.0
    ∙ (ap (λ (t : List ℕ). t ++ (flat_map (count_bytes Two) ps ++ rest)) (sym number)
    ∙ sym (append_assoc (to_be_bytes w16 (length ps)) (flat_map (count_bytes Two) ps) rest))) in
    let all : bytes ≡ state_bytes c ++ named.rest =
    head
    ∙ (ap (λ (t : List ℕ). counts_bytes Two ps ++ t) named.parts
    ∙ (ap (λ (t : List (ℕ × ℕ)). counts_bytes Two t ++ (entries_bytes LongRuns c.entries ++ named.rest)) (sym named.same)
    ∙ sym (append_assoc (counts_bytes Two c.counts) (entries_bytes LongRuns c.entries) named.rest))) in
    let counts_size : length (counts_bytes Two c.counts) ≡ 2 + count_len Two * n =
    ap (λ (t : List (ℕ × ℕ)). length (counts_bytes Two t)) named.same ∙ (let wide = section.1 in omega (arith, wide)) in
    let size : length (state_bytes c) ≡ used =
    (let is = named.ends in omega (arith, is, counts_size, length-append (counts_bytes Two c.counts) (entries_bytes LongRuns c.entries))) in
    let left : drop used bytes ≡ named.rest = ap (drop used) all ∙ drop_at (state_bytes c) named.rest used size in
    record {
      is = record {
        is = record { counts = subst (AreCounts 0) (sym named.same) (counts_in_order Two ps section.3).0; entries = named.entries };
        stray = stray_keeps c named.originals;
        few = (let most = length_at_most c.entries named.entries in omega (arith, most));
      };
      size = sym size;
      parts = all ∙ ap (λ (t : List ℕ). state_bytes c ++ t) (sym left);
    }

pub state_again : (c : ContextData) (rest : List ℕ) → IsState c → judge_state (state_bytes c ++ rest) ≡ Ok (c, length (state_bytes c))
unfolding judge_state counts_read counted state_bytes
state_again c rest is =
    let ps = c.counts in
    let n = length ps in
    let behind = entries_bytes LongRuns c.entries ++ rest in
    let bytes = counts_bytes Two ps ++ behind in
    let same : state_bytes c ++ rest ≡ bytes = append_assoc (counts_bytes Two ps) (entries_bytes LongRuns c.entries) rest in
    let few : n ≤ SITES = (let most = counts_few 0 ps is.is.counts (omega arith) in omega (arith, most)) in
    let size : sites_of bytes ≡ n = wide16.again n (omega (arith, few)) in
    let listed : length (flat_map (count_bytes Two) ps) ≡ count_len Two * n = length-counts Two ps in
    let total : length bytes ≡ 2 + (count_len Two * n + length behind) =
    omega (arith, listed, length-append (flat_map (count_bytes Two) ps) behind) in
    let some : ltb (length bytes) 2 ≡ false = le-ltb _ _ (omega (arith, total)) in
    let not_many : ltb (sites Two) (sites_of bytes) ≡ false = le-ltb _ _ (omega (arith, size, few)) in
    let there : ltb (length bytes) (2 + count_len Two * sites_of bytes) ≡ false = le-ltb _ _ (omega (arith, size, total)) in
    let section =
    section_again (count_at Two) site_after (count_bytes Two) (IsCount Two) (count_reads Two) (count_len Two) (length-counts Two) 0 ps n 2
    behind refl
    (counts_to Two 0 ps (is.is.counts, counts_of_two 0 ps is.is.counts)) in
    let read : counts_read bytes ≡ Ok (ps, section.0) =
    ap (λ (k : ℕ). many (count_at Two) site_after k 0 (left_at 2 (take (count_len Two * k) (flat_map (count_bytes Two) ps ++ behind)))) size
    ∙ section.1 in
    let at = 2 + count_len Two * sites_of bytes in
    let left : drop (count_len Two * sites_of bytes) (drop 2 bytes) ≡ behind =
    ap (λ (k : ℕ). drop (count_len Two * k) (flat_map (count_bytes Two) ps ++ behind)) size
    ∙ drop_at (flat_map (count_bytes Two) ps) behind (count_len Two * n) listed in
    let named = named_again c at rest is.is.entries (has_no_stray c is.is.entries is.stray) in
    let good : counted bytes ≡ Ok (c, at + length (entries_bytes LongRuns c.entries)) =
    ap (judge_counted at (drop (count_len Two * sites_of bytes) (drop 2 bytes))) read ∙ (ap (judge_named ps at) left ∙ named) in
    let counts_size : length (counts_bytes Two ps) ≡ 2 + count_len Two * n = omega (arith, listed) in
    let ends : at + length (entries_bytes LongRuns c.entries) ≡ length (state_bytes c) =
    omega (arith, size, counts_size, length-append (counts_bytes Two ps) (entries_bytes LongRuns c.entries)) in
    ap judge_state same ∙ (cond-false _ _ _ some
    ∙ (cond-false _ _ _ not_many ∙ (cond-false _ _ _ there ∙ (good ∙ ap (λ (k : ℕ). Ok (c, k)) ends))))

-- ---- what isn't there, and what is wrong

-- what an answer other than More was judged on stays there, whatever follows
split : {A E : Type 0} (b : Bool) (r : E) (x y : Result A E) → cond b (Err r) x ≡ y → ((b ≡ true) × (Err r ≡ y)) ⊎ ((b ≡ false) × (x ≡ y))
split true r x y e = inl (refl, e)
split false r x y e = inr (refl, e)

IsTold : Result (ContextData × ℕ) Unread → Type 0
IsTold y = (n : ℕ) → ¬ (Err (More n) ≡ y)

named_stays : (counts : List (ℕ × ℕ)) (at : ℕ) (bytes more : List ℕ) (y : Result (ContextData × ℕ) Unread) → IsTold y
    → judge_named counts at bytes ≡ y → judge_named counts at (bytes ++ more) ≡ y
unfolding judge_named runs_found IsTold
named_stays counts at bytes more y told e =
    let n = length_of bytes in
    let all = bytes ++ more in
    let total = length-append bytes more in
    let stop = at + (4 + run_len LongRuns * n) in
    let whole = judge_runs counts (at + 4) stop (runs_found bytes at) in
    elim (split (ltb (length bytes) 4) (More (at + 4)) (cond (ltb (length bytes) (4 + run_len LongRuns * n)) (Err (More stop)) whole) y e) [
      | inl short ↦ absurd (told (at + 4) short.1)
      | inr four ↦ elim (split (ltb (length bytes) (4 + run_len LongRuns * n)) (More stop) whole y four.1) [
        | inl short ↦ absurd (told stop short.1)
        | inr there ↦
            let long = ltb-false (length bytes) 4 four.0 in
            let enough = ltb-false (length bytes) (4 + run_len LongRuns * n) there.0 in
            let same : length_of all ≡ n = ap (from_be_bytes w32) (take-append-le 4 bytes more long) in
            let four_all : ltb (length all) 4 ≡ false = le-ltb _ _ (omega (arith, long, total)) in
            let there_all : ltb (length all) (4 + run_len LongRuns * length_of all) ≡ false =
            le-ltb _ _ (omega (arith, enough, total, same)) in
            let section : run_len LongRuns * n ≤ length (drop 4 bytes) = omega (arith, enough, length-drop 4 bytes) in
            let text : take (run_len LongRuns * n) (drop 4 all) ≡ take (run_len LongRuns * n) (drop 4 bytes) =
            ap (take (run_len LongRuns * n)) (drop-append-le 4 bytes more long)
            ∙ take-append-le (run_len LongRuns * n) (drop 4 bytes) more section in
            let good : judge_runs counts (at + 4) (at + (4 + run_len LongRuns * length_of all)) (runs_found all at) ≡ whole =
            ap (λ (k : ℕ). judge_runs counts (at + 4) (at + (4 + run_len LongRuns * k))
            (many (run_at LongRuns) before_next k nothing_before (left_at (at + 4) (take (run_len LongRuns * k) (drop 4 all))))) same
            ∙ ap (λ (t : List ℕ). judge_runs counts (at + 4) stop
            (many (run_at LongRuns) before_next n nothing_before (left_at (at + 4) t))) text in
            cond-false _ _ _ four_all ∙ (cond-false _ _ _ there_all ∙ (good ∙ there.1))
      ]
    ]

counted_stays : (at : ℕ) (rest more : List ℕ) (r : Found (List (ℕ × ℕ))) (y : Result (ContextData × ℕ) Unread) → IsTold y
    → judge_counted at rest r ≡ y → judge_counted at (rest ++ more) r ≡ y
counted_stays at rest more (Ok x) y told e = named_stays x.0 at rest more y told e
counted_stays at rest more (Err f) y told e = e

pub state_stays : (bytes more : List ℕ) (y : Result (ContextData × ℕ) Unread) → ((n : ℕ) → ¬ (Err (More n) ≡ y)) → judge_state bytes ≡ y
    → judge_state (bytes ++ more) ≡ y
unfolding judge_state counts_read counted IsTold
state_stays bytes more y told e =
    let n = sites_of bytes in
    let all = bytes ++ more in
    let total = length-append bytes more in
    let behind = cond (ltb (length bytes) (2 + count_len Two * n)) (Err (More (2 + count_len Two * n))) (counted bytes) in
    elim (split (ltb (length bytes) 2) (More 2) (cond (ltb (sites Two) n) (Err (Bad (fault Range 0))) behind) y e) [
      | inl short ↦ absurd (told 2 short.1)
      | inr some ↦
          let long = ltb-false (length bytes) 2 some.0 in
          let same : sites_of all ≡ n = ap (from_be_bytes w16) (take-append-le 2 bytes more long) in
          let some_all : ltb (length all) 2 ≡ false = le-ltb _ _ (omega (arith, long, total)) in
          elim (split (ltb (sites Two) n) (Bad (fault Range 0)) behind y some.1) [
            | inl here ↦ cond-false _ _ _ some_all ∙ (cond-true _ _ _ (ap (λ (k : ℕ). ltb (sites Two) k) same ∙ here.0) ∙ here.1)
            | inr few ↦ elim (split (ltb (length bytes) (2 + count_len Two * n)) (More (2 + count_len Two * n)) (counted bytes) y few.1) [
              | inl short ↦ absurd (told (2 + count_len Two * n) short.1)
              | inr there ↦
                  let enough = ltb-false (length bytes) (2 + count_len Two * n) there.0 in
                  let few_all : ltb (sites Two) (sites_of all) ≡ false = ap (λ (k : ℕ). ltb (sites Two) k) same ∙ few.0 in
                  let there_all : ltb (length all) (2 + count_len Two * sites_of all) ≡ false =
                  le-ltb _ _ (omega (arith, enough, total, same)) in
                  let section : count_len Two * n ≤ length (drop 2 bytes) = omega (arith, enough, length-drop 2 bytes) in
                  let front : drop 2 all ≡ drop 2 bytes ++ more = drop-append-le 2 bytes more long in
                  let text : take (count_len Two * n) (drop 2 all) ≡ take (count_len Two * n) (drop 2 bytes) =
                  ap (take (count_len Two * n)) front ∙ take-append-le (count_len Two * n) (drop 2 bytes) more section in
                  let left : drop (count_len Two * n) (drop 2 all) ≡ drop (count_len Two * n) (drop 2 bytes) ++ more =
                  ap (drop (count_len Two * n)) front ∙ drop-append-le (count_len Two * n) (drop 2 bytes) more section in
                  let good : counted all ≡ judge_counted (2 + count_len Two * n) (drop (count_len Two * n) (drop 2 bytes) ++ more)
                  (counts_read bytes) =
                  ap (λ (k : ℕ). judge_counted (2 + count_len Two * k) (drop (count_len Two * k) (drop 2 all))
                  (many (count_at Two) site_after k 0 (left_at 2 (take (count_len Two * k) (drop 2 all))))) same
                  ∙ (ap (λ (t : List ℕ). judge_counted (2 + count_len Two * n) (drop (count_len Two * n) (drop 2 all))
                  (many (count_at Two) site_after n 0 (left_at 2 t))) text
                  ∙ ap (λ (t : List ℕ). judge_counted (2 + count_len Two * n) t (counts_read bytes)) left) in
                  cond-false _ _ _ some_all ∙ (cond-false _ _ _ few_all
                  ∙ (cond-false _ _ _ there_all ∙ (good
                  ∙ counted_stays (2 + count_len Two * n) (drop (count_len Two * n) (drop 2 bytes)) more (counts_read bytes) y told
                  there.1)))
            ]
          ]
    ]

stray_bad : (c : ContextData) (stop : ℕ) (q : Unread) (r : Result (Unit {0}) Fault) → unless_stray c stop r ≡ Err q
    → (f : Fault) × (Bad f ≡ q) × (r ≡ Err f)
stray_bad c stop q (Ok u) e = absurd (let no = e in cc)
stray_bad c stop q (Err f) e = let same : Bad f ≡ q = cc in (f, same, refl)

-- a fault of the undone names, or one that is no original
pub runs_bad : (counts : List (ℕ × ℕ)) (begin stop : ℕ) (q : Unread) (r : Found (List RunData))
    → judge_runs counts begin stop r ≡ Err q
    → (f : Fault) × (Bad f ≡ q) × ((r ≡ Err f)
    ⊎ ((e : List RunData × LeftData) × (r ≡ Ok e) × (stray_from LongRuns (with_runs counts e.0) begin e.0 ≡ Err f)))
runs_bad counts begin stop q (Ok e) is =
    let d = with_runs counts e.0 in
    let b = stray_bad d stop q (stray_from LongRuns d begin e.0) is in
    (b.0, b.1, inr (e, refl, b.2))
runs_bad counts begin stop q (Err f) is = let same : Bad f ≡ q = cc in (f, same, inl refl)

-- what an answer that refuses says of the offsets
IsRefusedIn : ℕ → Unread → Type 0
IsRefusedIn stop (More n) = stop < n
IsRefusedIn stop (Bad f) = f.offset ≤ stop

named_refused : (counts : List (ℕ × ℕ)) (at : ℕ) (bytes : List ℕ) (q : Unread) → IsBytes bytes → judge_named counts at bytes ≡ Err q
    → IsRefusedIn (at + length bytes) q
unfolding judge_named runs_found IsRefusedIn
named_refused counts at bytes q fits e =
    let n = length_of bytes in
    let stop = at + (4 + run_len LongRuns * n) in
    let whole = judge_runs counts (at + 4) stop (runs_found bytes at) in
    elim (cond_err (ltb (length bytes) 4) (More (at + 4)) q (cond (ltb (length bytes) (4 + run_len LongRuns * n)) (Err (More stop)) whole)
    e) [
      | inl here ↦ subst (IsRefusedIn (at + length bytes)) here.1 (omega (arith, ltb-true _ _ here.0))
      | inr four ↦ elim (cond_err (ltb (length bytes) (4 + run_len LongRuns * n)) (More stop) q whole four.1) [
        | inl here ↦ subst (IsRefusedIn (at + length bytes)) here.1 (omega (arith, ltb-true _ _ here.0))
        | inr there ↦
            let enough = ltb-false _ _ there.0 in
            let bad = runs_bad counts (at + 4) stop q (runs_found bytes at) there.1 in
            let rest_fits = IsBytes-drop 4 bytes fits in
            subst (IsRefusedIn (at + length bytes)) bad.1
            (elim bad.2 [
              | inl listed ↦
                  let inside =
                  section_faults (run_at LongRuns) before_next (run_bytes LongRuns) (IsRun LongRuns) (run_reads LongRuns) (run_len LongRuns)
                  (length-run_list LongRuns) nothing_before n (at + 4)
                  (drop 4 bytes) bad.0 rest_fits listed in
                  omega (arith, inside, enough)
              | inr stray ↦
                  let section =
                  runs_section n (at + 4) (drop 4 bytes) stray.0.0 stray.0.1 rest_fits (omega (arith, enough, length-drop 4 bytes))
                  stray.1 in
                  let inside = stray_faults LongRuns (with_runs counts stray.0.0) (at + 4) stray.0.0 bad.0 stray.2 in
                  omega (arith, inside, enough, section.2)
            ])
      ]
    ]

counted_refused : (n : ℕ) (bytes rest : List ℕ) (q : Unread) (r : Found (List (ℕ × ℕ))) → IsBytes rest
    → length bytes ≡ 2 + count_len Two * n + length rest → ((f : Fault) → r ≡ Err f → f.offset ≤ 2 + count_len Two * n)
    → judge_counted (2 + count_len Two * n) rest r ≡ Err q → IsRefusedIn (length bytes) q
unfolding IsRefusedIn
counted_refused n bytes rest q (Ok x) fits long inside e =
    let total : 2 + count_len Two * n + length rest ≡ length bytes = omega (arith, long) in
    subst (λ (k : ℕ). IsRefusedIn k q) total (named_refused x.0 (2 + count_len Two * n) rest q fits e)
counted_refused n bytes rest q (Err f) fits long inside e =
    let same : Bad f ≡ q = cc in
    subst (IsRefusedIn (length bytes)) same (omega (arith, long, inside f refl))

state_refused : (bytes : List ℕ) (q : Unread) → IsBytes bytes → judge_state bytes ≡ Err q → IsRefusedIn (length bytes) q
unfolding judge_state counts_read counted IsRefusedIn
state_refused bytes q fits e =
    let n = sites_of bytes in
    let behind = cond (ltb (length bytes) (2 + count_len Two * n)) (Err (More (2 + count_len Two * n))) (counted bytes) in
    elim (cond_err (ltb (length bytes) 2) (More 2) q (cond (ltb (sites Two) n) (Err (Bad (fault Range 0))) behind) e) [
      | inl here ↦ subst (IsRefusedIn (length bytes)) here.1 (ltb-true _ _ here.0)
      | inr some ↦ elim (cond_err (ltb (sites Two) n) (Bad (fault Range 0)) q behind some.1) [
        | inl here ↦ subst (IsRefusedIn (length bytes)) here.1 (omega arith)
        | inr few ↦ elim (cond_err (ltb (length bytes) (2 + count_len Two * n)) (More (2 + count_len Two * n)) q (counted bytes) few.1) [
          | inl here ↦ subst (IsRefusedIn (length bytes)) here.1 (ltb-true _ _ here.0)
          | inr there ↦
              let enough = ltb-false _ _ there.0 in
              let front_fits = IsBytes-drop 2 bytes fits in
              let rest = drop (count_len Two * n) (drop 2 bytes) in
              let long : length bytes ≡ 2 + count_len Two * n + length rest =
              omega (arith, enough, length-drop 2 bytes, length-drop (count_len Two * n) (drop 2 bytes)) in
              counted_refused n bytes rest q (counts_read bytes) (IsBytes-drop (count_len Two * n) (drop 2 bytes) front_fits) long
              (λ f faulty. section_faults (count_at Two) site_after (count_bytes Two) (IsCount Two) (count_reads Two) (count_len Two)
              (length-counts Two) 0 n 2 (drop 2 bytes) f
              front_fits faulty) there.1
        ]
      ]
    ]

pub state_more : (bytes : List ℕ) (n : ℕ) → IsBytes bytes → judge_state bytes ≡ Err (More n) → length bytes < n
unfolding IsRefusedIn
state_more bytes n fits e = state_refused bytes (More n) fits e

pub state_within : (bytes : List ℕ) (f : Fault) → IsBytes bytes → judge_state bytes ≡ Err (Bad f) → f.offset ≤ length bytes
unfolding IsRefusedIn
state_within bytes f fits e = state_refused bytes (Bad f) fits e
