-- What more bytes behind those of a reader change: nothing, once it gave a value, or a fault other than that the bytes end.
use Rattle.std.proofs.Common.{◌≡◌, ℕ, zero, suc, ◌+◌, ◌≤◌, ltb, leb, Bool, true, false, ◌&&◌, List, [], ◌∷◌, ◌++◌, length, take, drop, Ok, Err, refl, ap, subst, arith, inl, inr}
use Rattle.std.specs.Int.{Width, w16, w32, byte_len, from_be_bytes}
use Rattle.std.specs.List.{flat_map}
use Rattle.std.proofs.lemmas.Bool.{ltb-false, le-ltb}
use Rattle.std.proofs.lemmas.List.{length-append, take-append-le, drop-append-le}
use Rattle.op_name.specs.NameData.{NameData}
use Rattle.op_name.specs.declared.name.TheConstants.{NUMBERS}
use Rattle.context_vector.specs.Contexts.{ContextData}
use Rattle.context_diff.specs.declared.op.TheConstants.{UNDO_ENTRIES}
use Rattle.wire_codec.specs.declared.cause.Cause.{Cause}
use Rattle.wire_codec.specs.declared.cause.Cause.TheVariants.{Range, Order, Zero, Length}
use Rattle.wire_codec.specs.declared.fault.Fault.{Fault}
use Rattle.wire_codec.specs.declared.version.Version.{Version}
use Rattle.wire_codec.specs.declared.listing.Listing.{Listing}
use Rattle.wire_codec.specs.declared.listing.Listing.TheVariants.{Names, Runs, LongRuns}
use Rattle.wire_codec.specs.Versions.{site_width, sites}
use Rattle.wire_codec.specs.Runs.{RunData, run_of, names_in, runs_width, listing_of, version_of}
use Rattle.wire_codec.specs.Reading.{LeftData, left_at, Found, fault, ◌>>=◌, want, number, tested, many, last_site, site_at, number_at, name_at, count_at, site_after, counts_at, Before, nothing_before, is_above, are_numbered, may_have, some_at, run_length_at, is_apart, next_run_at, run_at, before_next, runs_at, context_at, bounded}
use Rattle.wire_codec.specs.Contexts.{is_length}
use Rattle.wire_codec.proofs.Steps.{ok_is, bind_ok, bind_err, want_ok, guard_ok, guard_err}

-- the same bytes, with more behind them
abbrev pub further_on : LeftData → List ℕ → LeftData
further_on l more = left_at l.at (l.bytes ++ more)

-- more bytes behind change neither a value nor a fault, unless the bytes end too early
pub record Stays {X : Type 0} (read : LeftData → Found X) : Type 0 where
  pub good : (l m : LeftData) (x : X) (more : List ℕ) → read l ≡ Ok (x, m) → read (further_on l more) ≡ Ok (x, further_on m more)
  pub bad : (l : LeftData) (f : Fault) (more : List ℕ) → read l ≡ Err f → is_length f.cause ≡ false → read (further_on l more) ≡ Err f

module _ (w : Width) where
  number_good : (l m : LeftData) (n : ℕ) (more : List ℕ) → number w l ≡ Ok (n, m) → number w (further_on l more) ≡ Ok (n, further_on m more)
  number_good l m n more e =
      let bytes = l.bytes in
      let after : LeftData = left_at (l.at + byte_len w) (drop (byte_len w) bytes) in
      let g = guard_ok (ltb (length bytes) (byte_len w)) (fault Length l.at) (from_be_bytes w (take (byte_len w) bytes), after) (n, m) e in
      let long : byte_len w ≤ length bytes = ltb-false _ _ g.0 in
      let all : ltb (length (bytes ++ more)) (byte_len w) ≡ false = le-ltb _ _ (omega (arith, long, length-append bytes more)) in
      subst (λ (y : ℕ × LeftData). number w (further_on l more) ≡ Ok (y.0, further_on y.1 more)) g.1
      (rw (all, take-append-le (byte_len w) bytes more long, drop-append-le (byte_len w) bytes more long) refl)

  number_bad : (l : LeftData) (f : Fault) (more : List ℕ) → number w l ≡ Err f → is_length f.cause ≡ false
      → number w (further_on l more) ≡ Err f
  number_bad l f more e other =
      let g = guard_err (ltb (length l.bytes) (byte_len w)) (fault Length l.at) f
      (from_be_bytes w (take (byte_len w) l.bytes), left_at (l.at + byte_len w) (drop (byte_len w) l.bytes)) e in
      let is : true ≡ is_length f.cause = ap (λ (x : Fault). is_length x.cause) g in
      absurd (let no = is in let not = other in cc)

  pub number_stays : Stays (number w)
  number_stays = record { good = number_good; bad = number_bad }

-- a test that refuses refuses whatever would come after it
want_same : {X : Type 0} (b : Bool) (cause : Cause) (at : ℕ) (x y : X) (f : Fault) → (want b cause at >>= λ _. Ok x) ≡ Err f
    → (want b cause at >>= λ _. Ok y) ≡ Err f
want_same true cause at x y f e = absurd (let no = e in cc)
want_same false cause at x y f e = e

module _ {X : Type 0} (test : X → Bool) (cause : Cause) (r : LeftData → Found X) (first : Stays r) where
  tested_good : (l m : LeftData) (x : X) (more : List ℕ) → tested test cause r l ≡ Ok (x, m)
      → tested test cause r (further_on l more) ≡ Ok (x, further_on m more)
  tested_good l m x more e =
      let b = bind_ok (r l) (λ y. want (test y.0) cause l.at >>= λ _. Ok y) (x, m) e in
      let w = want_ok (test b.0.0) cause l.at (λ _. Ok b.0) (x, m) b.2 in
      subst (λ (y : X × LeftData). tested test cause r (further_on l more) ≡ Ok (y.0, further_on y.1 more)) (ok_is b.0 (x, m) w.1)
      (rw (first.good l b.0.1 b.0.0 more b.1, w.0) refl)

  tested_bad : (l : LeftData) (f : Fault) (more : List ℕ) → tested test cause r l ≡ Err f → is_length f.cause ≡ false
      → tested test cause r (further_on l more) ≡ Err f
  tested_bad l f more e other =
      elim (bind_err (r l) (λ y. want (test y.0) cause l.at >>= λ _. Ok y) f e) [
        | inl here ↦ rw (first.bad l f more here other) refl
        | inr b ↦
            rw (first.good l b.0.1 b.0.0 more b.1) (want_same (test b.0.0) cause l.at b.0 (b.0.0, further_on b.0.1 more) f b.2)
      ]

  pub tested_stays : Stays (tested test cause r)
  tested_stays = record { good = tested_good; bad = tested_bad }

module _ {A X : Type 0} (r : LeftData → Found A) (k : A → LeftData → Found X) (first : Stays r) (second : (a : A) → Stays (k a)) where
  bind_good : (l m : LeftData) (x : X) (more : List ℕ) → (r l >>= λ a. k a.0 a.1) ≡ Ok (x, m)
      → (r (further_on l more) >>= λ a. k a.0 a.1) ≡ Ok (x, further_on m more)
  bind_good l m x more e =
      let b = bind_ok (r l) (λ a. k a.0 a.1) (x, m) e in
      rw (first.good l b.0.1 b.0.0 more b.1) ((second b.0.0).good b.0.1 m x more b.2)

  bind_bad : (l : LeftData) (f : Fault) (more : List ℕ) → (r l >>= λ a. k a.0 a.1) ≡ Err f → is_length f.cause ≡ false
      → (r (further_on l more) >>= λ a. k a.0 a.1) ≡ Err f
  bind_bad l f more e other =
      elim (bind_err (r l) (λ a. k a.0 a.1) f e) [
        | inl here ↦ rw (first.bad l f more here other) refl
        | inr b ↦ rw (first.good l b.0.1 b.0.0 more b.1) ((second b.0.0).bad b.0.1 f more b.2 other)
      ]

  pub bind_stays : Stays (λ l. r l >>= λ a. k a.0 a.1)
  bind_stays = record { good = bind_good; bad = bind_bad }

module _ {X : Type 0} (x : X) where
  -- nothing is read
  pub end_stays : Stays (λ l. Ok (x, l))
  end_stays = record {
    good = λ l m y more e. subst
        (λ (z : X × LeftData). ◌≡◌ {A = Found X} (Ok (x, further_on l more)) (Ok (z.0, further_on z.1 more)))
        (ok_is (x, l) (y, m) e) refl;
    bad = λ l f more e other. absurd (let no = e in cc);
  }

module _ {S A : Type 0} (step : S → LeftData → Found A) (next : S → A → S) (one : (s : S) → Stays (step s)) where
  pub many_stays : (n : ℕ) (state : S) → Stays (many step next n state)
  unfolding many
  many_stays zero state = end_stays []
  many_stays (suc n) state =
      bind_stays {X = List A} (step state)
      (λ x m. many step next n (next state x) m >>= λ others. Ok (x ∷ others.0, others.1)) (one state)
      (λ x. bind_stays {X = List A} (many step next n (next state x)) (λ xs m. Ok (x ∷ xs, m)) (many_stays n (next state x))
      (λ xs. end_stays (x ∷ xs)))

-- ---- the fields of contexts

bounded_stays : (w : Width) (low high : ℕ) (cause : Cause) → Stays (bounded w low high cause)
bounded_stays w low high cause = tested_stays (λ n. leb low n && leb n high) cause (number w) (number_stays w)

pub name_stays : (v : Version) → Stays (name_at v)
unfolding name_at
name_stays v =
    bind_stays {X = NameData} (site_at v) (λ s m. number_at m >>= λ k. Ok (record { site = s; number = k.0 }, k.1))
    (bounded_stays (site_width v) 0 (last_site v) Range)
    (λ s. bind_stays {X = NameData} number_at (λ k m. Ok (record { site = s; number = k }, m)) (bounded_stays w32 1 NUMBERS Range)
    (λ k. end_stays (record { site = s; number = k })))

count_stays : (v : Version) (low : ℕ) → Stays (count_at v low)
unfolding count_at
count_stays v low =
    bind_stays {X = ℕ × ℕ} (tested (λ s. leb low s) Order (site_at v))
    (λ s m. tested (λ n. leb n NUMBERS) Range (tested (λ n. ltb 0 n) Zero (number w32)) m >>= λ n. Ok ((s, n.0), n.1))
    (tested_stays (λ s. leb low s) Order (site_at v) (bounded_stays (site_width v) 0 (last_site v) Range))
    (λ s. bind_stays {X = ℕ × ℕ} (tested (λ n. leb n NUMBERS) Range (tested (λ n. ltb 0 n) Zero (number w32)))
    (λ n m. Ok ((s, n), m))
    (tested_stays (λ n. leb n NUMBERS) Range (tested (λ n. ltb 0 n) Zero (number w32))
    (tested_stays (λ n. ltb 0 n) Zero (number w32) (number_stays w32)))
    (λ n. end_stays (s, n)))

counts_stays : (v : Version) → Stays (counts_at v)
unfolding counts_at
counts_stays v =
    bind_stays {X = List (ℕ × ℕ)} (bounded (site_width v) 0 (sites v) Range) (λ n m. many (count_at v) site_after n 0 m)
    (bounded_stays (site_width v) 0 (sites v) Range) (λ n. many_stays (count_at v) site_after (count_stays v) n 0)

length_stays : (k : Listing) (so_far : ℕ) (n : NameData) → Stays (run_length_at k so_far n)
length_stays Names so_far n = end_stays 1
length_stays Runs so_far n =
    tested_stays (λ len. are_numbered n len && may_have Runs (so_far + len)) Range (some_at w16)
    (tested_stays (λ len. ltb 0 len) Zero (number w16) (number_stays w16))
length_stays LongRuns so_far n =
    tested_stays (λ len. are_numbered n len && may_have LongRuns (so_far + len)) Range (some_at w32)
    (tested_stays (λ len. ltb 0 len) Zero (number w32) (number_stays w32))

next_run_stays : (k : Listing) (before : Before) → Stays (next_run_at k before)
unfolding next_run_at
next_run_stays k before =
    bind_stays {X = RunData} (tested (is_above before.run) Order (name_at (version_of k)))
    (λ n m. run_length_at k before.names n m >>= λ len. tested (λ g. ltb 0 g) Zero (number w16) len.1
    >>= λ g. Ok (run_of n len.0 g.0, g.1))
    (tested_stays (is_above before.run) Order (name_at (version_of k)) (name_stays (version_of k)))
    (λ n. bind_stays {X = RunData} (run_length_at k before.names n)
    (λ len m. tested (λ g. ltb 0 g) Zero (number w16) m >>= λ g. Ok (run_of n len g.0, g.1))
    (length_stays k before.names n)
    (λ len. bind_stays {X = RunData} (tested (λ g. ltb 0 g) Zero (number w16)) (λ g m. Ok (run_of n len g, m))
    (tested_stays (λ g. ltb 0 g) Zero (number w16) (number_stays w16))
    (λ g. end_stays (run_of n len g))))

run_stays : (k : Listing) (before : Before) → Stays (run_at k before)
run_stays k before = tested_stays (is_apart k before.run) Order (next_run_at k before) (next_run_stays k before)

runs_stays : (k : Listing) → Stays (runs_at k)
unfolding runs_at
runs_stays k =
    bind_stays {X = List RunData} (bounded (runs_width k) 0 UNDO_ENTRIES Range) (λ n m. many (run_at k) before_next n nothing_before m)
    (bounded_stays (runs_width k) 0 UNDO_ENTRIES Range) (λ n. many_stays (run_at k) before_next (run_stays k) n nothing_before)

pub context_stays : (v : Version) → Stays (context_at v)
unfolding context_at
context_stays v =
    bind_stays {X = ContextData} (counts_at v)
    (λ cs m. runs_at (listing_of v) m >>= λ rs. Ok (record { counts = cs; entries = flat_map names_in rs.0 }, rs.1))
    (counts_stays v)
    (λ cs. bind_stays {X = ContextData} (runs_at (listing_of v)) (λ rs m. Ok (record { counts = cs; entries = flat_map names_in rs }, m))
    (runs_stays (listing_of v)) (λ rs. end_stays (record { counts = cs; entries = flat_map names_in rs })))
