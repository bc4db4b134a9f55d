-- Offers in any order.
use Rattle.std.proofs.Common.{◌≡◌, ◌⊎◌, ℕ, ◌<◌, ◌≤◌, true, false, if◌then◌else◌, List, [], ◌∷◌, inl, inr, refl, ap, sym, ◌∙◌, subst, arith}
use Rattle.std.specs.Prelude.{nat_le, ◌&&◌}
use Rattle.std.proofs.lemmas.Bool.{cases_lt, cases_Bool, lt-ltb, le-ltb}
use Rattle.op_name.specs.NameData.{NameData, IsName, name_eq}
use Rattle.op_name.specs.declared.member.Member.{Member}
use Rattle.op_name.specs.declared.member.Member.TheVariants.{Original, Group}
use Rattle.op_name.specs.declared.member.TheConstants.{GENERATIONS}
use Rattle.op_name.proofs.CallerLemmas.{name_itself, name_same}
use Rattle.context_vector.specs.Contexts.{ContextData, AreEntries, IsContext, entry_in, has, put_entry}
use Rattle.context_vector.proofs.CallerLemmas.{entry_put, raised_is_context, same_context}
use Rattle.ttf_form.specs.Families.{IsIn}
use Rattle.char_marks.specs.Marks.{MarkData, KeptData, MarksData, put_kept, mark_named, AreRising, lifted}
use Rattle.char_marks.specs.Values.{marks_of}
use Rattle.char_marks.specs.Offers.{Offer, taking, flipping, IsTaking, IsStep, IsRun, IsOffer, AreTaken}
use Rattle.char_marks.specs.Laws.{AnyOrderIsOne}
use Rattle.char_marks.proofs.Keeping.{in_put, put_old, rising_put, is_less, mark_in, kept_of, marks_rise, name_asym, name_trans}
use Rattle.fixed_replay.proofs.CallerLemmas.{sorted_once}

-- ---- generations

abbrev Entries : Type 0
Entries = List (NameData × ℕ)

pub lifted_less : (n : NameData) (g : ℕ) (es : Entries) → entry_in es n < g → lifted n g es ≡ put_entry n g es
lifted_less n g es lt = ap (λ b. if b then put_entry n g es else es) (lt-ltb (entry_in es n) g lt)

pub lifted_more : (n : NameData) (g : ℕ) (es : Entries) → g ≤ entry_in es n → lifted n g es ≡ es
lifted_more n g es le = ap (λ b. if b then put_entry n g es else es) (le-ltb (entry_in es n) g le)

-- what a name's generation is after another, or its own, was lifted
record Lifting (n : NameData) (g : ℕ) (es : Entries) (m : NameData) : Type 0 where
  up : entry_in es m ≤ entry_in (lifted n g es) m
  cause : (entry_in (lifted n g es) m ≤ entry_in es m) ⊎ ((n ≡ m) × (entry_in (lifted n g es) m ≤ g))

lifting : (n : NameData) (g : ℕ) (es : Entries) (m : NameData) → Lifting n g es m
lifting n g es m = elim (cases_lt (entry_in es n) g) [
  | inr ge ↦
      let same : entry_in (lifted n g es) m ≡ entry_in es m = ap (λ (l : Entries). entry_in l m) (lifted_more n g es ge) in
      record { up = omega (arith, same); cause = inl (omega (arith, same)) }
  | inl lt ↦
      let put : entry_in (lifted n g es) m ≡ (if name_eq n m then g else entry_in es m) =
      ap (λ (l : Entries). entry_in l m) (lifted_less n g es lt) ∙ entry_put n g es m in
      elim (cases_Bool (name_eq n m)) [
        | inl hit ↦
            let is : entry_in (lifted n g es) m ≡ g = put ∙ ap (λ b. if b then g else entry_in es m) hit in
            let same : entry_in es n ≡ entry_in es m = ap (entry_in es) (name_same n m hit) in
            record { up = omega (arith, is, same, lt); cause = inr (name_same n m hit, omega (arith, is)) }
        | inr miss ↦
            let is : entry_in (lifted n g es) m ≡ entry_in es m = put ∙ ap (λ b. if b then g else entry_in es m) miss in
            record { up = omega (arith, is); cause = inl (omega (arith, is)) }
      ]
]

pub lifted_to : (n : NameData) (g : ℕ) (es : Entries) → g ≤ entry_in (lifted n g es) n
lifted_to n g es = elim (cases_lt (entry_in es n) g) [
  | inr ge ↦
      let same : entry_in (lifted n g es) n ≡ entry_in es n = ap (λ (l : Entries). entry_in l n) (lifted_more n g es ge) in
      omega (arith, same, ge)
  | inl lt ↦
      let put : entry_in (lifted n g es) n ≡ g =
      ap (λ (l : Entries). entry_in l n) (lifted_less n g es lt)
      ∙ (entry_put n g es n ∙ ap (λ b. if b then g else entry_in es n) (name_itself n)) in
      omega (arith, put)
]

abbrev context : Entries → ContextData
context es = record { counts = []; entries = es }

are_context : (es : Entries) → AreEntries es → IsContext (context es)
are_context es are = record { counts = tt; entries = are }

pub lifted_entries : (n : NameData) (g : ℕ) (es : Entries) → IsName n.site n.number → g ≤ GENERATIONS → AreEntries es
    → AreEntries (lifted n g es)
lifted_entries n g es name most are = elim (cases_lt (entry_in es n) g) [
  | inr ge ↦ subst AreEntries (sym (lifted_more n g es ge)) are
  | inl lt ↦ subst AreEntries (sym (lifted_less n g es lt))
      (raised_is_context (context es) (Group n g) (are_context es are) name (omega (arith, lt)) most).entries
]

-- two lists of entries with the same generations are one
pub same_entries : (es fs : Entries) → AreEntries es → AreEntries fs → ((n : NameData) → entry_in es n ≡ entry_in fs n) → es ≡ fs
same_entries es fs are are' same =
    ap (λ (c : ContextData). c.entries) (same_context (context es) (context fs) (are_context es are) (are_context fs are') each)
  where
    each : (m : Member) → has (context es) m ≡ has (context fs) m
    each (Original n) = refl
    each (Group n g) = ap (λ (k : ℕ). nat_le 1 g && nat_le g k) (same n)

-- ---- one offer

abbrev Marked : MarksData → MarkData → Type 0
Marked s m = IsIn m (marks_of s.kept)

-- a mark that was kept is among those that are, and so are the others, and there is none besides
taking_keeps : (m : MarkData) (s t : MarksData) → IsTaking m s t → (x : MarkData) → Marked s x → Marked t x
taking_keeps m s t r x i =
    let f = kept_of x s.kept i in
    subst (λ (u : MarksData). Marked u x) (sym r.after)
    (subst (λ (y : MarkData). IsIn y (marks_of (put_kept r.kept s.kept))) f.2
    (mark_in f.0 (put_kept r.kept s.kept) (put_old r.kept s.kept f.0 f.1)))

taking_from : (m : MarkData) (s t : MarksData) → IsTaking m s t → (x : MarkData) → Marked t x → Marked s x ⊎ (x ≡ m)
taking_from m s t r x i =
    let f = kept_of x (put_kept r.kept s.kept) (subst (λ (u : MarksData). Marked u x) r.after i) in
    elim (in_put r.kept s.kept f.0 f.1) [
      | inl is ↦ inr (sym f.2 ∙ (ap (λ (k : KeptData). k.mark) is ∙ r.mark))
      | inr j ↦ inl (subst (λ (y : MarkData). IsIn y (marks_of s.kept)) f.2 (mark_in f.0 s.kept j))
    ]

taking_rises : (m : MarkData) (s t : MarksData) → IsTaking m s t → AreRising s.kept → AreRising t.kept
taking_rises m s t r rising =
    subst (λ (u : MarksData). AreRising u.kept) (sym r.after)
    (rising_put r.kept s.kept rising (ap (λ (y : MarkData). mark_named s.kept y.name) r.mark ∙ r.new))

step_keeps : (o : Offer) (s t : MarksData) → IsStep o s t → (x : MarkData) → Marked s x → Marked t x
step_keeps (taking m) s t (inl r) x i = taking_keeps m s t r x i
step_keeps (taking m) s t (inr e) x i = subst (λ (u : MarksData). Marked u x) (sym e) i
step_keeps (flipping n g) s t e x i = subst (λ (u : MarksData). Marked u x) (sym e) i

step_from : (o : Offer) (s t : MarksData) → IsStep o s t → (x : MarkData) → Marked t x → Marked s x ⊎ (taking x ≡ o)
step_from (taking m) s t (inl r) x i = elim (taking_from m s t r x i) [ inl j ↦ inl j | inr is ↦ inr (ap taking is) ]
step_from (taking m) s t (inr e) x i = inl (subst (λ (u : MarksData). Marked u x) e i)
step_from (flipping n g) s t e x i = inl (subst (λ (u : MarksData). Marked u x) e i)

step_rises : (o : Offer) (s t : MarksData) → IsStep o s t → AreRising s.kept → AreRising t.kept
step_rises (taking m) s t (inl r) rising = taking_rises m s t r rising
step_rises (taking m) s t (inr e) rising = subst (λ (u : MarksData). AreRising u.kept) (sym e) rising
step_rises (flipping n g) s t e rising = subst (λ (u : MarksData). AreRising u.kept) (sym e) rising

step_raised : (m : MarkData) (s t : MarksData) → IsStep (taking m) s t → t.raised ≡ s.raised
step_raised m s t (inl r) = ap (λ (u : MarksData). u.raised) r.after
step_raised m s t (inr e) = ap (λ (u : MarksData). u.raised) e

step_entries : (o : Offer) (s t : MarksData) → IsOffer o → IsStep o s t → AreEntries s.raised → AreEntries t.raised
step_entries (taking m) s t is r are = subst AreEntries (sym (step_raised m s t r)) are
step_entries (flipping n g) s t is e are =
    subst (λ (u : MarksData). AreEntries u.raised) (sym e) (lifted_entries n g s.raised is.0 is.1 are)

-- what the offer makes of the generation of a name
record Lifts (o : Offer) (s t : MarksData) (m : NameData) : Type 0 where
  up : entry_in s.raised m ≤ entry_in t.raised m
  cause : (entry_in t.raised m ≤ entry_in s.raised m) ⊎ ((g : ℕ) × (flipping m g ≡ o) × (entry_in t.raised m ≤ g))

step_lifts : (o : Offer) (s t : MarksData) (m : NameData) → IsStep o s t → Lifts o s t m
step_lifts (taking k) s t m r =
    let same : entry_in t.raised m ≡ entry_in s.raised m = ap (λ (es : Entries). entry_in es m) (step_raised k s t r) in
    record { up = omega (arith, same); cause = inl (omega (arith, same)) }
step_lifts (flipping n g) s t m e =
    let same : entry_in t.raised m ≡ entry_in (lifted n g s.raised) m = ap (λ (u : MarksData). entry_in u.raised m) e in
    let l = lifting n g s.raised m in
    record {
      up = omega (arith, same, l.up);
      cause = elim l.cause [
        | inl low ↦ inl (omega (arith, same, low))
        | inr own ↦ inr (g, ap (λ (x : NameData). flipping x g) (sym own.0), omega (arith, same, own.1))
      ];
    }

step_to : (n : NameData) (g : ℕ) (s t : MarksData) → IsStep (flipping n g) s t → g ≤ entry_in t.raised n
step_to n g s t e =
    let same : entry_in t.raised n ≡ entry_in (lifted n g s.raised) n = ap (λ (u : MarksData). entry_in u.raised n) e in
    omega (arith, same, lifted_to n g s.raised)

-- ---- runs

run_keeps : (os : List Offer) (s t : MarksData) → IsRun os s t → (x : MarkData) → Marked s x → Marked t x
run_keeps [] s t e x i = subst (λ (u : MarksData). Marked u x) (sym e) i
run_keeps (o ∷ os) s t r x i = run_keeps os r.0 t r.2 x (step_keeps o s r.0 r.1 x i)

run_from : (os : List Offer) (s t : MarksData) → IsRun os s t → (x : MarkData) → Marked t x → Marked s x ⊎ IsIn (taking x) os
run_from [] s t e x i = inl (subst (λ (u : MarksData). Marked u x) e i)
run_from (o ∷ os) s t r x i = elim (run_from os r.0 t r.2 x i) [
  | inl j ↦ elim (step_from o s r.0 r.1 x j) [ inl k ↦ inl k | inr is ↦ inr (inl is) ]
  | inr j ↦ inr (inr j)
]

run_rises : (os : List Offer) (s t : MarksData) → IsRun os s t → AreRising s.kept → AreRising t.kept
run_rises [] s t e rising = subst (λ (u : MarksData). AreRising u.kept) (sym e) rising
run_rises (o ∷ os) s t r rising = run_rises os r.0 t r.2 (step_rises o s r.0 r.1 rising)

run_entries : (os : List Offer) (s t : MarksData) → ((o : Offer) → IsIn o os → IsOffer o) → IsRun os s t → AreEntries s.raised
    → AreEntries t.raised
run_entries [] s t is e are = subst (λ (u : MarksData). AreEntries u.raised) (sym e) are
run_entries (o ∷ os) s t is r are =
    run_entries os r.0 t (λ p i. is p (inr i)) r.2 (step_entries o s r.0 (is o (inl refl)) r.1 are)

run_up : (os : List Offer) (s t : MarksData) → IsRun os s t → (m : NameData) → entry_in s.raised m ≤ entry_in t.raised m
run_up [] s t e m =
    let same : entry_in t.raised m ≡ entry_in s.raised m = ap (λ (u : MarksData). entry_in u.raised m) e in
    omega (arith, same)
run_up (o ∷ os) s t r m = omega (arith, (step_lifts o s r.0 m r.1).up, run_up os r.0 t r.2 m)

run_to : (os : List Offer) (s t : MarksData) → IsRun os s t → (n : NameData) (g : ℕ) → IsIn (flipping n g) os → g ≤ entry_in t.raised n
run_to [] s t e n g i = absurd i
run_to (o ∷ os) s t r n g (inl is) =
    let here = step_to n g s r.0 (subst (λ (p : Offer). IsStep p s r.0) (sym is) r.1) in
    omega (arith, here, run_up os r.0 t r.2 n)
run_to (o ∷ os) s t r n g (inr i) = run_to os r.0 t r.2 n g i

-- a generation is that of before, or an offer told it
abbrev Cause : List Offer → MarksData → MarksData → NameData → Type 0
Cause os s t m = (entry_in t.raised m ≤ entry_in s.raised m) ⊎ ((g : ℕ) × IsIn (flipping m g) os × (entry_in t.raised m ≤ g))

run_cause : (os : List Offer) (s t : MarksData) → IsRun os s t → (m : NameData) → Cause os s t m
run_cause [] s t e m =
    let same : entry_in t.raised m ≡ entry_in s.raised m = ap (λ (u : MarksData). entry_in u.raised m) e in
    inl (omega (arith, same))
run_cause (o ∷ os) s t r m = elim (run_cause os r.0 t r.2 m) [
  | inr told ↦ inr (told.0, inr told.1, told.2)
  | inl low ↦ elim (step_lifts o s r.0 m r.1).cause [
    | inl lower ↦ inl (omega (arith, low, lower))
    | inr own ↦ inr (own.0, inl own.1, omega (arith, low, own.2))
  ]
]

-- ---- two runs of the same offers

module _ (s t u : MarksData) (os ps : List Offer) (there : (o : Offer) → IsIn o os → IsIn o ps) (first : IsRun os s t)
    (second : IsRun ps s u) where
  marks_there : AreTaken ps u → (x : MarkData) → Marked t x → Marked u x
  marks_there taken x i = elim (run_from os s t first x i) [
    | inl j ↦ run_keeps ps s u second x j
    | inr offered ↦ taken x (there (taking x) offered)
  ]

  no_higher : (m : NameData) → entry_in t.raised m ≤ entry_in u.raised m
  no_higher m = elim (run_cause os s t first m) [
    | inl low ↦ omega (arith, low, run_up ps s u second m)
    | inr told ↦ omega (arith, told.2, run_to ps s u second m told.0 (there (flipping m told.0) told.1))
  ]

less_asym : (m k : MarkData) → is_less m k ≡ true → is_less k m ≡ false
less_asym m k e = name_asym m.name k.name e

less_trans : (m k x : MarkData) → is_less m k ≡ true → is_less k x ≡ true → is_less m x ≡ true
less_trans m k x e f = name_trans m.name k.name x.name e f

pub any_order : AnyOrderIsOne
any_order s t u os ps rising are offers same first second taken_t taken_u =
    let forth : (o : Offer) → IsIn o os → IsIn o ps = λ o i. (same o).0 i in
    let back : (o : Offer) → IsIn o ps → IsIn o os = λ o i. (same o).1 i in (
      sorted_once is_less less_asym less_trans (marks_of t.kept) (marks_of u.kept)
          (marks_rise t.kept (run_rises os s t first rising))
          (marks_rise u.kept (run_rises ps s u second rising))
          (record {
            forth = marks_there s t u os ps forth first second taken_u;
            back = marks_there s u t ps os back second first taken_t;
          }),
      same_entries t.raised u.raised (run_entries os s t offers first are)
          (run_entries ps s u (λ o i. offers o (back o i)) second are)
          (λ m.
          let up = no_higher s t u os ps forth first second m in
          let down = no_higher s u t ps os back second first m in
          omega (arith, up, down)),
    )
