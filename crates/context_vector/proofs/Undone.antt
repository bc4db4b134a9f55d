-- Undone names: a list with another generation for a name, lists that are read in parts, and two that are read side by side.
use Rattle.std.proofs.Common.{◌≡◌, ℕ, zero, suc, ◌+◌, ◌-◌, ◌<◌, ◌≤◌, ◌≢◌, true, false, List, [], ◌∷◌, ◌++◌, length, drop, if◌then◌else◌, Some, None, refl, sym, ap, subst, ◌∙◌, inl, inr, arith}
use Rattle.std.specs.Prelude.{slice_get}
use Rattle.std.specs.List.{remove}
use Rattle.std.proofs.lemmas.Bool.{cases_order, eq-eqb, ne_eqb}
use Rattle.std.proofs.lemmas.Option.{slice_get_within}
use Rattle.std.proofs.Math.Seq.{drop-append_seam}
use mathlib.Core.Bool.{false≢true}
use Rattle.op_name.specs.declared.member.TheConstants.{GENERATIONS}
use Rattle.op_name.specs.NameData.{NameData, IsName, name_eq, name_lt}
use Rattle.op_name.proofs.CallerLemmas.{name_order, name_same, name_transitive, cases_by_order}
use Rattle.context_vector.specs.Contexts.{entry_in, put_entry, IsBefore, AreEntries}
use Rattle.context_vector.specs.Vectors.{without_name, NamesBelow}
use Rattle.context_vector.specs.Marks.{weight, mark_of}
use Rattle.context_vector.specs.Shortfalls.{first_short}
use Rattle.context_vector.specs.Code.Places.{IsPlace}
use Rattle.context_vector.specs.Code.Undone.{set_entry}
use Rattle.context_vector.proofs.Keyed.{AllAfter, value_at, value_after, take_out_is_remove}
use Rattle.context_vector.proofs.Entries.{entry_is, entries_after, entries_rise, entries_put, entries_without, without_name_is}
use Rattle.context_vector.proofs.Marks.{weight_none, mark_put, mark_without}
use Rattle.context_vector.proofs.Merging.{mine_passed, both_passed, short_first, lacks_all, lacks_first}

-- generation 0 takes the name out, and another one is put
pub set_none : (n : NameData) (g : ℕ) (es : List (NameData × ℕ)) → g ≡ 0 → set_entry n g es ≡ without_name n es
set_none n g es none = rw (eq-eqb g 0 none) refl

pub set_some : (n : NameData) (g : ℕ) (es : List (NameData × ℕ)) → g ≢ 0 → set_entry n g es ≡ put_entry n g es
set_some n g es some = rw (ne_eqb g 0 some) refl

pub entries_set : (n : NameData) (g : ℕ) (es : List (NameData × ℕ)) → IsName n.site n.number → g ≤ GENERATIONS → AreEntries es
    → AreEntries (set_entry n g es)
entries_set n g es name most are =
    elim (cases_order g 0) [
      | inl none ↦ subst AreEntries (sym (set_none n g es none)) (entries_without n es are)
      | inr other ↦ subst AreEntries (sym (set_some n g es (omega arith))) (entries_put n g es name (omega arith) most are)
    ]

pub mark_set : (n : NameData) (g : ℕ) (es : List (NameData × ℕ)) → AreEntries es
    → mark_of (set_entry n g es) + weight n (entry_in es n) ≡ mark_of es + weight n g
mark_set n g es are =
    elim (cases_order g 0) [
      | inl none ↦ omega (arith, ap mark_of (set_none n g es none), mark_without n es, weight_none n, ap (weight n) none)
      | inr other ↦ omega (arith, ap mark_of (set_some n g es (omega arith)), mark_put n g es are)
    ]

-- a name without an entry is not taken out
pub without_absent : (n : NameData) (es : List (NameData × ℕ)) → AreEntries es → entry_in es n ≡ 0 → without_name n es ≡ es
without_absent n [] are none = refl
without_absent n (e ∷ es) are none =
    elim (name_eq e.0 n) as (λ t. (if t then e.1 else entry_in es n) ≡ 0 → (if t then es else e ∷ without_name n es) ≡ e ∷ es) [
      | true ↦ λ zero. absurd (omega (arith, zero, are.1))
      | false ↦ λ zero. ap (λ fs. e ∷ fs) (without_absent n es are.4 zero)
    ] none

pub remove_at_place : (es : List (NameData × ℕ)) (n : NameData) (i : ℕ) → AreEntries es → IsPlace es n i → remove es i ≡ without_name n es
remove_at_place es n i are place =
    sym (without_name_is n es ∙ take_out_is_remove name_eq name_lt name_order es (entries_rise es are) n i place)

-- a name after all others is put after the last
lesser_first : (m n : NameData) → name_lt m n ≡ true → (name_eq m n ≡ false) × (name_lt n m ≡ false)
lesser_first m n less =
    cases_by_order name_eq name_lt name_order m n _
    (λ is e e' l l'. absurd (false≢true (sym l ∙ less)))
    (λ e e' l l'. (e, l'))
    (λ e e' l l'. absurd (false≢true (sym l ∙ less)))

pub put_last : (n : NameData) (g : ℕ) (es : List (NameData × ℕ)) → NamesBelow es n → put_entry n g es ≡ es ++ (n, g) ∷ []
put_last n g [] below = refl
put_last n g (e ∷ es) below =
    let first = lesser_first e.0 n below.0 in
    rw (first.0, first.1) (ap (λ fs. e ∷ fs) (put_last n g es below.1))

-- parts of entries are entries
before_left : (n : NameData) (es fs : List (NameData × ℕ)) → IsBefore n (es ++ fs) → IsBefore n es
before_left n [] fs before = tt
before_left n (e ∷ es) fs before = before

pub entries_left : (es fs : List (NameData × ℕ)) → AreEntries (es ++ fs) → AreEntries es
entries_left [] fs are = tt
entries_left (e ∷ es) fs are = (are.0, are.1, are.2, before_left e.0 es fs are.3, entries_left es fs are.4)

pub entries_rest : (n : ℕ) (es : List (NameData × ℕ)) → AreEntries es → AreEntries (drop n es)
entries_rest zero es are = are
entries_rest (suc n) [] are = tt
entries_rest (suc n) (e ∷ es) are = entries_rest n es are.4

-- an entry is looked up in the part that reaches its name
same_entry : (e f : NameData × ℕ) → Some e ≡ Some f → e ≡ f
same_entry e f is = cc

last_below : (es : List (NameData × ℕ)) (i : ℕ) (e : NameData × ℕ) (n : NameData) → AreEntries es → length es ≡ suc i
    → slice_get es i ≡ Some e → name_lt e.0 n ≡ true → NamesBelow es n
last_below [] i e n are long is less = tt
last_below (x ∷ []) zero e n are long is less = (subst (λ (y : NameData × ℕ). name_lt y.0 n ≡ true) (sym (same_entry x e is)) less, tt)
last_below (x ∷ []) (suc i) e n are long is less = absurd (omega (arith, long))
last_below (x ∷ (y ∷ es)) zero e n are long is less = absurd (omega (arith, long))
last_below (x ∷ (y ∷ es)) (suc i) e n are long is less =
    let rest = last_below (y ∷ es) i e n are.4 (omega (arith, long)) is less in
    (name_transitive x.0 y.0 n are.3 rest.0, rest)

not_less_after : (m n : NameData) (es : List (NameData × ℕ)) → name_lt m n ≡ false → AllAfter name_eq name_lt m es
    → AllAfter name_eq name_lt n es
not_less_after m n [] not_less after = tt
not_less_after m n (e ∷ es) not_less after = (
  cases_by_order name_eq name_lt name_order m n _
      (λ is q q' l l'. subst (λ x. name_lt x e.0 ≡ true) is after.0)
      (λ q q' l l'. absurd (false≢true (sym not_less ∙ l)))
      (λ q q' l l'. name_transitive n m e.0 l' after.0),
  not_less_after m n es not_less after.1,
)

last_reaches : (es : List (NameData × ℕ)) (i : ℕ) (e : NameData × ℕ) (n : NameData) (more : List (NameData × ℕ))
    → AreEntries (es ++ more) → length es ≡ suc i → slice_get es i ≡ Some e → name_lt e.0 n ≡ false → AllAfter name_eq name_lt n more
last_reaches [] i e n more are long is not_less = absurd (omega (arith, long))
last_reaches (x ∷ []) zero e n more are long is not_less =
    let last = subst (λ (y : NameData × ℕ). name_lt y.0 n ≡ false) (sym (same_entry x e is)) not_less in
    not_less_after x.0 n more last (entries_after x.0 more are.3 are.4)
last_reaches (x ∷ []) (suc i) e n more are long is not_less = absurd (omega (arith, long))
last_reaches (x ∷ (y ∷ es)) zero e n more are long is not_less = absurd (omega (arith, long))
last_reaches (x ∷ (y ∷ es)) (suc i) e n more are long is not_less =
    last_reaches (y ∷ es) i e n more are.4 (omega (arith, long)) is not_less

entry_behind : (es fs : List (NameData × ℕ)) (n : NameData) → NamesBelow es n → entry_in (es ++ fs) n ≡ entry_in fs n
entry_behind [] fs n below = refl
entry_behind (e ∷ es) fs n below = rw (lesser_first e.0 n below.0).0 (entry_behind es fs n below.1)

entry_within : (es fs : List (NameData × ℕ)) (n : NameData) → AllAfter name_eq name_lt n fs → entry_in (es ++ fs) n ≡ entry_in es n
entry_within [] fs n after = entry_is fs n ∙ value_after name_eq name_lt name_order n fs after
entry_within (e ∷ es) fs n after = ap (λ v. if name_eq e.0 n then e.1 else v) (entry_within es fs n after)

last_place : (es : List (NameData × ℕ)) (e : NameData × ℕ) → slice_get es (length es - 1) ≡ Some e → length es ≡ suc (length es - 1)
last_place es e is = omega (arith, slice_get_within es (length es - 1) e is)

-- two lists of entries, read side by side
short_is : (es fs : List (NameData × ℕ)) → first_short (entry_in es) fs ≡ first_short (value_at name_eq name_lt es) fs
short_is es fs = ap (λ (had : NameData → ℕ). first_short had fs) (λ j n. entry_is es n j)

pub lesser_passed : (es fs : List (NameData × ℕ)) (e f : NameData × ℕ) → AreEntries fs → slice_get es 0 ≡ Some e → slice_get fs 0 ≡ Some f
    → name_lt e.0 f.0 ≡ true → first_short (entry_in es) fs ≡ first_short (entry_in (drop 1 es)) fs
lesser_passed es fs e f are is is' less =
    let passed = mine_passed name_eq name_lt name_order es fs e f (entries_rise fs are) is is' less in
    short_is es fs ∙ (passed ∙ sym (short_is (drop 1 es) fs))

pub same_passed : (es fs : List (NameData × ℕ)) (e f : NameData × ℕ) → AreEntries fs → slice_get es 0 ≡ Some e → slice_get fs 0 ≡ Some f
    → name_eq e.0 f.0 ≡ true → f.1 ≤ e.1 → first_short (entry_in es) fs ≡ first_short (entry_in (drop 1 es)) (drop 1 fs)
same_passed es fs e f are is is' same enough =
    let passed = both_passed name_eq name_lt name_order es fs e f (entries_rise fs are) is is' (sym (name_same e.0 f.0 same)) enough in
    short_is es fs ∙ (passed ∙ sym (short_is (drop 1 es) (drop 1 fs)))

pub name_short : (es fs : List (NameData × ℕ)) (e f : NameData × ℕ) → slice_get es 0 ≡ Some e → slice_get fs 0 ≡ Some f
    → name_eq e.0 f.0 ≡ true → e.1 < f.1 → first_short (entry_in es) fs ≡ Some (f.0, e.1 + 1)
name_short es fs e f is is' same less =
    short_is es fs ∙ short_first name_eq name_lt name_order es fs e f is is' (sym (name_same e.0 f.0 same)) less

not_less : (m n : NameData) → name_lt m n ≡ false → name_eq m n ≡ false → name_lt n m ≡ true
not_less m n not_before other =
    cases_by_order name_eq name_lt name_order m n _
    (λ is q q' l l'. absurd (false≢true (sym other ∙ q)))
    (λ q q' l l'. absurd (false≢true (sym not_before ∙ l)))
    (λ q q' l l'. l')

pub name_lacks : (es fs : List (NameData × ℕ)) (e f : NameData × ℕ) → AreEntries es → AreEntries fs → slice_get es 0 ≡ Some e
    → slice_get fs 0 ≡ Some f → name_lt e.0 f.0 ≡ false → name_eq e.0 f.0 ≡ false → first_short (entry_in es) fs ≡ Some (f.0, 1)
name_lacks es fs e f are are' is is' not_before other =
    let less = not_less e.0 f.0 not_before other in
    short_is es fs ∙ lacks_first name_eq name_lt name_order es fs e f (entries_rise es are) (entries_rise fs are') is is' less

pub names_lack : (es fs : List (NameData × ℕ)) (f : NameData × ℕ) → AreEntries fs → slice_get es 0 ≡ None → slice_get fs 0 ≡ Some f
    → first_short (entry_in es) fs ≡ Some (f.0, 1)
names_lack es fs f are is is' = short_is es fs ∙ lacks_all name_eq name_lt name_order es fs f (entries_rise fs are) is is'
