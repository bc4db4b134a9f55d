-- Names cut into runs, and these put as bytes, one after the other as a loop does.
use Rattle.std.proofs.Common.{◌≡◌, ℕ, suc, ◌+◌, ◌-◌, ◌*◌, ◌<◌, ◌≤◌, Bool, true, false, ◌&&◌, if◌then◌else◌, List, [], ◌∷◌, ◌++◌, length, get_or, take, drop, take_all, Option, Some, None, refl, sym, ap, subst, ◌∙◌, append_assoc, append-nil, arith}
use Rattle.std.specs.Global.{Vec}
use Rattle.std.specs.List.{flat_map}
use Rattle.std.specs.Int.{to_be_bytes, byte_len}
use Rattle.std.proofs.Math.Nat.{mul-suc}
use Rattle.std.proofs.Math.Seq.{drop-cons}
use Rattle.std.proofs.lemmas.Bool.{le-leb, leb-true}
use Rattle.std.proofs.lemmas.List.{length-append, length-drop, nil_from_length}
use Rattle.std.proofs.lemmas.List.Concat.{flat_map-append}
use Rattle.op_name.specs.NameData.{NameData}
use Rattle.wire_codec.specs.declared.listing.Listing.{Listing}
use Rattle.wire_codec.specs.declared.listing.Listing.TheVariants.{Names, Runs, LongRuns}
use Rattle.wire_codec.specs.Versions.{sites}
use Rattle.wire_codec.specs.Runs.{RunData, run_of, joins, goes_on, in_front, runs_of, runs_width, version_of}
use Rattle.wire_codec.specs.Spelling.{run_bytes, entries_bytes}
use Rattle.wire_codec.specs.Reading.{may_have}
use Rattle.wire_codec.specs.Judging.{run_len}
use Rattle.wire_codec.specs.Code.Puts.{HasRoom, Puts, EntriesIn}
use Rattle.wire_codec.specs.Code.RunLists.{FitOut}
use Rattle.wire_codec.proofs.RunNames.{joined, by_test, front_joined, front_apart, front_len, length-runs, count_names, names_counted}
use Rattle.wire_codec.proofs.RunReads.{length-run_bytes, RunsIn, sites_of_runs}

-- ---- cutting

-- the names that are left
left_is : {A : Type 0} (xs : List A) (i : ℕ) (x : A) → i < length xs → x ≡ get_or xs i x → drop i xs ≡ x ∷ drop (i + 1) xs
left_is {A = A} xs i x within is =
    let more : suc i ≡ i + 1 = omega arith in
    drop-cons xs i x within
    ∙ (ap (λ (y : A). y ∷ drop (suc i) xs) (sym is) ∙ ap (λ (j : ℕ). x ∷ drop j xs) more)

runs_cons : (k : Listing) (e : NameData × ℕ) (es : List (NameData × ℕ)) → runs_of k (e ∷ es) ≡ in_front k (run_of e.0 1 e.1) (runs_of k es)
unfolding runs_of
runs_cons k e es = refl

runs_none : (k : Listing) → runs_of k [] ≡ []
unfolding runs_of
runs_none k = refl

was_some : (t : Bool) (a b : RunData) (o : Option RunData) → o ≡ (if t then Some a else None) → o ≡ Some b → (t ≡ true) × (b ≡ a)
was_some true a b o e is = (refl, cc)
was_some false a b o e is = absurd (let not : Some b ≡ None = sym is ∙ e in cc)

was_none : (t : Bool) (a : RunData) (o : Option RunData) → o ≡ (if t then Some a else None) → o ≡ None → t ≡ false
was_none true a o e is = absurd (let not : None ≡ Some a = sym is ∙ e in cc)
was_none false a o e is = refl

-- the run with the next name, where this goes on it
module _ (k : Listing) (r : RunData) (es : List (NameData × ℕ)) (i : ℕ) (e : NameData × ℕ) (within : i < length es)
    (at : e ≡ get_or es i e) (next : RunData) (single : next ≡ run_of e.0 1 e.1) (o : Option RunData)
    (longer : o ≡ (if joins k && goes_on r next then Some (joined r next) else None)) where
  next_front : in_front k r (runs_of k (drop i es)) ≡ in_front k r (in_front k next (runs_of k (drop (i + 1) es)))
  next_front =
      ap (λ ds. in_front k r (runs_of k ds)) (left_is es i e within at)
      ∙ (ap (in_front k r) (runs_cons k e (drop (i + 1) es))
      ∙ ap (λ (s : RunData). in_front k r (in_front k s (runs_of k (drop (i + 1) es)))) (sym single))

  pub grows : (run : RunData) → o ≡ Some run → in_front k r (runs_of k (drop i es)) ≡ in_front k run (runs_of k (drop (i + 1) es))
  grows run is =
      let on = was_some (joins k && goes_on r next) (joined r next) run o longer is in
      next_front
      ∙ (front_joined k r next (runs_of k (drop (i + 1) es)) on.0
      ∙ ap (λ (s : RunData). in_front k s (runs_of k (drop (i + 1) es))) (sym on.1))

  pub is_over : o ≡ None → in_front k r (runs_of k (drop i es)) ≡ r ∷ in_front k next (runs_of k (drop (i + 1) es))
  is_over is =
      next_front
      ∙ front_apart k r next (runs_of k (drop (i + 1) es)) (was_none (joins k && goes_on r next) (joined r next) o longer is)

pub front_some : (k : Listing) (a : RunData) (rs : List RunData) → 1 ≤ length (in_front k a rs)
front_some k a [] = omega arith
front_some k a (b ∷ rs) =
    by_test (λ t. 1 ≤ length (if t then joined a b ∷ rs else a ∷ (b ∷ rs))) (joins k && goes_on a b) (λ on. omega arith)
    (λ off. omega arith)

pub front_most : (k : Listing) (a : RunData) (es : List (NameData × ℕ)) → length (in_front k a (runs_of k es)) ≤ 1 + length es
front_most k a es = omega (arith, front_len k a (runs_of k es), length-runs k es)

-- no name is left
pub last_run : (k : Listing) (r : RunData) (es : List (NameData × ℕ)) (i : ℕ) → drop i es ≡ []
    → in_front k r (runs_of k (drop i es)) ≡ r ∷ []
last_run k r es i none = ap (λ ds. in_front k r (runs_of k ds)) none ∙ ap (in_front k r) (runs_none k)

-- ---- putting

pub puts_none : (v : Vec ℕ) → Puts v v []
puts_none v = record { items = sym (append-nil v.items); len = omega arith; capacity = omega arith }

pub puts_then : (a b c : Vec ℕ) (x y : List ℕ) → Puts a b x → Puts b c y → Puts a c (x ++ y)
puts_then a b c x y p q =
    let long = length-append x y in
    let len_1 = p.len in
    let len_2 = q.len in
    let cap_1 = p.capacity in
    let cap_2 = q.capacity in
    record {
      items = q.items ∙ (ap (λ (t : List ℕ). t ++ y) p.items ∙ append_assoc a.items x y);
      len = omega (arith, len_1, len_2, long);
      capacity = omega (arith, cap_1, cap_2);
    }

-- the bytes of the first runs are put, and there is room for those that are left
pub record RunsPut (k : Listing) (old : Vec ℕ) (all left : List RunData) (now : Vec ℕ) : Type 0 where
  pub front : List RunData
  pub parts : front ++ left ≡ all
  pub puts : Puts old now (flat_map (run_bytes k) front)
  pub room : HasRoom now (run_len k * length left)
  pub fit : FitOut k left

module _ (k : Listing) (old : Vec ℕ) (all : List RunData) where
  pub none_put : HasRoom old (run_len k * length all) → FitOut k all → RunsPut k old all all old
  none_put room fit = record {
    front = [];
    parts = refl;
    puts = puts_none old;
    room = room;
    fit = fit;
  }

  pub one_room : (r : RunData) (left : List RunData) (now : Vec ℕ) → RunsPut k old all (r ∷ left) now → HasRoom now (run_len k)
  one_room r left now so_far =
      let room = so_far.room in
      let more : run_len k * suc (length left) ≡ run_len k * length left + run_len k = mul-suc (run_len k) (length left) in
      omega (arith, room, more)

  pub one_more : (r : RunData) (left : List RunData) (now new : Vec ℕ) → RunsPut k old all (r ∷ left) now → Puts now new (run_bytes k r)
      → RunsPut k old all left new
  one_more r left now new so_far put =
      let room = so_far.room in
      let more : run_len k * suc (length left) ≡ run_len k * length left + run_len k = mul-suc (run_len k) (length left) in
      let text : flat_map (run_bytes k) (so_far.front ++ r ∷ []) ≡ flat_map (run_bytes k) so_far.front ++ run_bytes k r =
      flat_map-append (run_bytes k) so_far.front (r ∷ [])
      ∙ ap (λ (t : List ℕ). flat_map (run_bytes k) so_far.front ++ t) (append-nil (run_bytes k r)) in
      let size = length-run_bytes k r in
      let len = put.len in
      let capacity = put.capacity in
      record {
        front = so_far.front ++ r ∷ [];
        parts = append_assoc so_far.front (r ∷ []) left ∙ so_far.parts;
        puts = subst (Puts old new) (sym text)
            (puts_then old now new (flat_map (run_bytes k) so_far.front) (run_bytes k r) so_far.puts put);
        room = omega (arith, room, more, len, capacity, size);
        fit = so_far.fit.2;
      }

  pub all_put : (now : Vec ℕ) → RunsPut k old all [] now → Puts old now (flat_map (run_bytes k) all)
  all_put now so_far =
      subst (λ (rs : List RunData). Puts old now (flat_map (run_bytes k) rs)) (sym (append-nil so_far.front) ∙ so_far.parts) so_far.puts

-- ---- the runs of names fit

may_less : (k : Listing) (m n : ℕ) → m ≤ n → may_have k n ≡ true → may_have k m ≡ true
may_less Names m n le may = let most = leb-true _ _ may in le-leb _ _ (omega (arith, le, most))
may_less Runs m n le may = let most = leb-true _ _ may in le-leb _ _ (omega (arith, le, most))
may_less LongRuns m n le may = refl

fit_names : (k : Listing) (most : ℕ) (rs : List RunData) → may_have k most ≡ true → count_names rs ≤ most → RunsIn (version_of k) rs
    → FitOut k rs
unfolding count_names
fit_names k most [] may few sites = tt
fit_names k most (r ∷ rs) may few sites = (
  may_less k r.len most (omega (arith, few)) may,
  sites.0,
  fit_names k most rs may (omega (arith, few)) sites.1,
)

pub runs_fit : (k : Listing) (es : List (NameData × ℕ)) → may_have k (length es) ≡ true → EntriesIn (version_of k) es
    → FitOut k (runs_of k es)
runs_fit k es may sites =
    fit_names k (length es) (runs_of k es) may (omega (arith, names_counted k es)) (sites_of_runs k (version_of k) es sites)

pub fewer_runs : (k : Listing) (es : List (NameData × ℕ)) → may_have k (length es) ≡ true → may_have k (length (runs_of k es)) ≡ true
fewer_runs k es may = may_less k (length (runs_of k es)) (length es) (length-runs k es) may

-- ---- all names

-- no names have no runs
pub empty_runs : (k : Listing) (es : List (NameData × ℕ)) → length es < 1 → runs_of k es ≡ []
empty_runs k es none = ap (runs_of k) (nil_from_length es (omega (arith, none))) ∙ runs_none k

-- the first name by itself in front of the others
pub first_runs : (k : Listing) (es : List (NameData × ℕ)) (e : NameData × ℕ) (first : RunData) → 1 ≤ length es → e ≡ get_or es 0 e
    → first ≡ run_of e.0 1 e.1 → in_front k first (runs_of k (take (length es - 1) (drop 1 es))) ≡ runs_of k es
first_runs k es e first some at is =
    let others : take (length es - 1) (drop 1 es) ≡ drop 1 es = take_all (length es - 1) (drop 1 es) (omega (arith, length-drop 1 es)) in
    ap (λ ds. in_front k first (runs_of k ds)) others
    ∙ (ap (λ (r : RunData). in_front k r (runs_of k (drop 1 es))) is
    ∙ (sym (runs_cons k e (drop 1 es)) ∙ ap (runs_of k) (sym (left_is es 0 e some at))))

pub length-runs_width : (k : Listing) (n : ℕ) → length (to_be_bytes (runs_width k) n) ≡ byte_len (runs_width k)
length-runs_width Names n = refl
length-runs_width Runs n = refl
length-runs_width LongRuns n = refl

-- how many runs, and these
pub names_put : (k : Listing) (es : List (NameData × ℕ)) (rs : List RunData) (old mid new : Vec ℕ) (n : ℕ) → rs ≡ runs_of k es
    → n ≡ length (runs_of k es) → Puts old mid (to_be_bytes (runs_width k) n) → Puts mid new (flat_map (run_bytes k) rs)
    → Puts old new (entries_bytes k es)
names_put k es rs old mid new n is count p q =
    puts_then old mid new (to_be_bytes (runs_width k) (length (runs_of k es))) (flat_map (run_bytes k) (runs_of k es))
    (subst (λ (i : ℕ). Puts old mid (to_be_bytes (runs_width k) i)) count p)
    (subst (λ (xs : List RunData). Puts mid new (flat_map (run_bytes k) xs)) is q)
