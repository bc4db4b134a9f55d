-- Undo entries of a context whose originals it hasn't.
use Rattle.std.proofs.Common.{◌≡◌, ℕ, ◌≤◌, Bool, true, false, if◌then◌else◌, List, [], ◌∷◌, Option, Some, None, drop, inl, inr, refl, ap, sym, ◌∙◌, arith}
use Rattle.std.specs.Prelude.{slice_get}
use Rattle.std.proofs.lemmas.Bool.{cases_Bool}
use Rattle.op_name.specs.NameData.{NameData, name_eq}
use Rattle.op_name.specs.declared.member.Member.TheVariants.{Original}
use Rattle.op_name.proofs.CallerLemmas.{name_itself, name_same}
use Rattle.context_vector.specs.Contexts.{ContextData, AreEntries, HasNoStray, entry_in, has}
use Rattle.context_diff.proofs.CallerLemmas.{has_generation, has_group}
use Rattle.ttf_form.specs.Families.{IsIn}
use Rattle.fixed_replay.proofs.CallerLemmas.{not_both}
use Rattle.char_marks.specs.Code.Strays.{first_stray}

abbrev Entry : Type 0
Entry = NameData × ℕ

-- ---- reading them from the front

pub stray_here : (c : ContextData) (left : List Entry) (x : Entry) → Some x ≡ slice_get left 0 → has c (Original x.0) ≡ false
    → first_stray c left ≡ Some x.0
stray_here c [] x at e = let none : Some x ≡ None = at in absurd (cc)
stray_here c (y ∷ ys) x at e =
    let is : x ≡ y = let same : Some x ≡ Some y = at in cc in
    let out : has c (Original y.0) ≡ false = ap (λ (z : Entry). has c (Original z.0)) (sym is) ∙ e in
    ap (λ (b : Bool). if b then first_stray c ys else Some y.0) out ∙ ap (λ (z : Entry). Some z.0) (sym is)

pub stray_next : (c : ContextData) (left new : List Entry) (x : Entry) → Some x ≡ slice_get left 0 → new ≡ drop 1 left
    → has c (Original x.0) ≡ true
    → first_stray c left ≡ first_stray c new
stray_next c [] new x at less e = let none : Some x ≡ None = at in absurd (cc)
stray_next c (y ∷ ys) new x at less e =
    let is : x ≡ y = let same : Some x ≡ Some y = at in cc in
    let there : has c (Original y.0) ≡ true = ap (λ (z : Entry). has c (Original z.0)) (sym is) ∙ e in
    ap (λ (b : Bool). if b then first_stray c ys else Some y.0) there ∙ ap (first_stray c) (sym less)

pub stray_end : (c : ContextData) (left : List Entry) → None ≡ slice_get left 0 → first_stray c left ≡ None
stray_end c [] at = refl
stray_end c (y ∷ ys) at = let some : None ≡ Some y = at in absurd (cc)

-- ---- what the first one tells

none_stray : (c : ContextData) (es : List Entry) → first_stray c es ≡ None → (n : NameData) → 1 ≤ entry_in es n → has c (Original n) ≡ true
none_stray c [] e n some = absurd (omega arith)
none_stray c (y ∷ ys) e n some = elim (cases_Bool (has c (Original y.0))) [
  | inl there ↦
      let rest : first_stray c ys ≡ None = sym (ap (λ (b : Bool). if b then first_stray c ys else Some y.0) there) ∙ e in
      elim (cases_Bool (name_eq y.0 n)) [
        | inl same ↦ ap (λ (m : NameData). has c (Original m)) (sym (name_same y.0 n same)) ∙ there
        | inr other ↦
            let skip : entry_in (y ∷ ys) n ≡ entry_in ys n = ap (λ (b : Bool). if b then y.1 else entry_in ys n) other in
            none_stray c ys rest n (omega (arith, skip, some))
      ]
  | inr out ↦
      let found : Some y.0 ≡ None = sym (ap (λ (b : Bool). if b then first_stray c ys else Some y.0) out) ∙ e in
      absurd (cc)
]

-- where no undone name is stray, each undo entry has its original
pub no_stray : (c : ContextData) → first_stray c c.entries ≡ None → HasNoStray c
no_stray c e n g there =
    let range = has_generation c n g there in
    none_stray c c.entries e n (omega (arith, range.0, range.1))

-- a stray one is among the entries
record IsStray (c : ContextData) (es : List Entry) (n : NameData) : Type 0 where
  entry : Entry
  there : IsIn entry es
  name : entry.0 ≡ n
  lacks : has c (Original n) ≡ false

found_stray : (c : ContextData) (es : List Entry) (n : NameData) → first_stray c es ≡ Some n → IsStray c es n
found_stray c [] n e = let none : ◌≡◌ {A = Option NameData} None (Some n) = e in absurd (cc)
found_stray c (y ∷ ys) n e = elim (cases_Bool (has c (Original y.0))) [
  | inl there ↦
      let r = found_stray c ys n (sym (ap (λ (b : Bool). if b then first_stray c ys else Some y.0) there) ∙ e) in
      record { entry = r.entry; there = inr r.there; name = r.name; lacks = r.lacks }
  | inr out ↦
      let found : Some y.0 ≡ Some n = sym (ap (λ (b : Bool). if b then first_stray c ys else Some y.0) out) ∙ e in
      let is : y.0 ≡ n = cc in
      record { entry = y; there = inl refl; name = is; lacks = ap (λ (m : NameData). has c (Original m)) (sym is) ∙ out }
]

-- each entry's name has a generation
raised_entry : (es : List Entry) → AreEntries es → (e : Entry) → IsIn e es → 1 ≤ entry_in es e.0
raised_entry [] are e i = absurd i
raised_entry (x ∷ xs) are e i = elim (cases_Bool (name_eq x.0 e.0)) [
  | inl hit ↦
      let is : entry_in (x ∷ xs) e.0 ≡ x.1 = ap (λ (b : Bool). if b then x.1 else entry_in xs e.0) hit in
      omega (arith, is, are.1)
  | inr miss ↦
      let is : entry_in (x ∷ xs) e.0 ≡ entry_in xs e.0 = ap (λ (b : Bool). if b then x.1 else entry_in xs e.0) miss in
      omega (arith, is, raised_entry xs are.4 e (later miss i))
]
  where
    later : name_eq x.0 e.0 ≡ false → IsIn e (x ∷ xs) → IsIn e xs
    later miss (inl is) = absurd (not_both (ap (λ (y : Entry). name_eq x.0 y.0) is ∙ name_itself x.0) miss)
    later miss (inr j) = j

pub stray_breaks : (c : ContextData) (n : NameData) → AreEntries c.entries → first_stray c c.entries ≡ Some n → HasNoStray c → ⊥
stray_breaks c n are e keeps =
    let r = found_stray c c.entries n e in
    let some = raised_entry c.entries are r.entry r.there in
    let same : entry_in c.entries r.entry.0 ≡ entry_in c.entries n = ap (entry_in c.entries) r.name in
    not_both (keeps n 1 (has_group c n 1 (omega arith) (omega (arith, some, same)))) r.lacks
