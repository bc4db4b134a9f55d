-- The index of undos, as operations come and go.
use Rattle.std.proofs.Common.{◌≡◌, ℕ, zero, suc, Bool, true, false, ◌||◌, inl, inr, List, [], ◌∷◌, ◌++◌, if◌then◌else◌, refl, sym, ap, subst, ◌∙◌, remove, map}
use Rattle.std.specs.Prelude.{Contains, Some, None, slice_get}
use Rattle.std.specs.List.{list_any}
use Rattle.std.specs.Cmp.{decided}
use Rattle.std.proofs.lemmas.Bool.{cases_Bool, or_right, true≢false, false_from_ne_true}
use Rattle.std.proofs.lemmas.List.Folds.{list_any-append}
use Rattle.std.proofs.lemmas.Map.Views.{Contains-from_any, list_any-from_Contains}
use Rattle.context_diff.specs.Operations.{OpData, inserting, deleting, undoing, is_original}
use Rattle.context_diff.specs.Ops.{data_of, op_eq}
use Rattle.context_diff.specs.declared.op.Op.{Op}
use Rattle.context_diff.specs.contracts.op.OpPartialEq.TheImpl.{eq-value}
use Rattle.context_diff.proofs.CallerLemmas.{op_same, op_eq_decides, derived_op}
use Rattle.causal_gate.specs.Waiting.{AllDifferFrom, AreApart}
use Rattle.causal_gate.specs.Undos.{AreUndos}
use Rattle.causal_gate.proofs.Places.{contains_at}
use Rattle.causal_gate.proofs.Named.{chosen, or_none}

-- a look-up among the keys, by the equality of contracts
seen : (q : Op) (ks : List Op) → list_any (eq-value.it q) ks ≡ list_any (op_eq (data_of q)) (map data_of ks)
seen q [] = refl
seen q (k ∷ ks) = λ i. derived_op q k i || seen q ks i

-- an undo waits exactly where the index has it
pub undo_waits : (q : Op) (ks : List Op) (os : List OpData) (r : Bool) → AreUndos ks os → is_original (data_of q) ≡ false
    → r ≡ list_any (eq-value.it q) ks → r ≡ true → Contains os (data_of q)
undo_waits q ks os r undos undo found is = Contains-from_any op_same (data_of q) os (sym (undos q undo) ∙ sym (seen q ks) ∙ sym found ∙ is)

pub undo_found : (q : Op) (ks : List Op) (os : List OpData) (r : Bool) → AreUndos ks os → is_original (data_of q) ≡ false
    → r ≡ list_any (eq-value.it q) ks → Contains os (data_of q) → r ≡ true
undo_found q ks os r undos undo found there =
    found ∙ seen q ks ∙ undos q undo ∙ list_any-from_Contains (decided op_eq op_eq_decides) (data_of q) os there

-- an undo is no insert or delete
unlike : (d o : OpData) → is_original d ≡ false → is_original o ≡ true → op_eq d o ≡ false
unlike (inserting n p text c) o undo original = absurd (true≢false undo)
unlike (deleting n p c) o undo original = absurd (true≢false undo)
unlike (undoing a t g c) (inserting n p text d) undo original = refl
unlike (undoing a t g c) (deleting n p d) undo original = refl
unlike (undoing a t g c) (undoing b u h d) undo original = absurd (true≢false (sym original))

turned : (a b : OpData) → op_eq a b ≡ op_eq b a
turned a b =
    elim (cases_Bool (op_eq a b)) [
      | inl same ↦ same ∙ sym ((op_eq_decides b a).1 (sym (op_same a b same)))
      | inr other ↦ other ∙ sym (false_from_ne_true (op_eq b a)
          (λ e. true≢false (sym ((op_eq_decides a b).1 (sym (op_same b a e))) ∙ other)))
    ]

any_push : (d o : OpData) (os : List OpData) → list_any (op_eq d) (os ++ o ∷ []) ≡ (list_any (op_eq d) os || op_eq d o)
any_push d o os = list_any-append (op_eq d) os (o ∷ []) ∙ ap (λ b. list_any (op_eq d) os || b) (or_none (op_eq d o))

-- an insert or delete comes
pub undos_push_original : (ks : List Op) (os : List OpData) (o : OpData) → is_original o ≡ true → AreUndos ks os
    → AreUndos ks (os ++ o ∷ [])
undos_push_original ks os o original undos q undo =
    let any = list_any (op_eq (data_of q)) os in
    undos q undo ∙ sym (any_push (data_of q) o os ∙ ap (λ b. any || b) (unlike (data_of q) o undo original) ∙ or_none any)

-- an undo comes
pub undos_push : (ks new : List Op) (os : List OpData) (copy : Op) (o : OpData) → data_of copy ≡ o
    → ((q : Op) → list_any (eq-value.it q) new ≡ (if eq-value.it copy q then true else list_any (eq-value.it q) ks)) → AreUndos ks os
    → AreUndos new (os ++ o ∷ [])
undos_push ks new os copy o is put undos q undo =
    let d = data_of q in
    let same : eq-value.it copy q ≡ op_eq d o = derived_op copy q ∙ ap (λ (x : OpData). op_eq x d) is ∙ turned o d in
    let left : list_any (op_eq d) (map data_of new) ≡ (if op_eq d o then true else list_any (eq-value.it q) ks) =
    sym (seen q new) ∙ put q ∙ chosen (eq-value.it copy q) (op_eq d o) true (list_any (eq-value.it q) ks) same in
    elim (cases_Bool (op_eq d o)) [
      | inl hit ↦ left ∙ chosen (op_eq d o) true true (list_any (eq-value.it q) ks) hit
          ∙ sym (any_push d o os ∙ or_right (list_any (op_eq d) os) (op_eq d o) hit)
      | inr miss ↦
          left ∙ chosen (op_eq d o) false true (list_any (eq-value.it q) ks) miss ∙ seen q ks ∙ undos q undo
          ∙ sym (any_push d o os ∙ ap (λ b. list_any (op_eq d) os || b) miss ∙ or_none (list_any (op_eq d) os))
    ]

-- the list without an insert or delete has the same undos
any_without_original : (d : OpData) (os : List OpData) (i : ℕ) (o : OpData) → is_original d ≡ false → is_original o ≡ true
    → slice_get os i ≡ Some o → list_any (op_eq d) (remove os i) ≡ list_any (op_eq d) os
any_without_original d [] i o undo original at = let never : None ≡ Some o = at in cc
any_without_original d (x ∷ xs) zero o undo original at =
    let same : x ≡ o = cc in
    sym (ap (λ b. b || list_any (op_eq d) xs) (ap (op_eq d) same ∙ unlike d o undo original))
any_without_original d (x ∷ xs) (suc i) o undo original at = ap (λ b. op_eq d x || b) (any_without_original d xs i o undo original at)

-- an insert or delete goes
pub undos_remove_original : (ks : List Op) (os : List OpData) (i : ℕ) (o : OpData) → is_original o ≡ true → slice_get os i ≡ Some o
    → AreUndos ks os → AreUndos ks (remove os i)
undos_remove_original ks os i o original at undos q undo = undos q undo ∙ sym (any_without_original (data_of q) os i o undo original at)

-- none of the list is an operation from which all of it differ
none_equal : (o : OpData) (xs : List OpData) → AllDifferFrom o xs → list_any (op_eq o) xs ≡ false
none_equal o [] all = refl
none_equal o (x ∷ xs) all =
    let here : op_eq o x ≡ false = false_from_ne_true (op_eq o x) (λ e. all.0 (sym (op_same o x e))) in
    let later = none_equal o xs all.2 in
    λ i. here i || later i

differs_from : (x : OpData) (xs : List OpData) → AllDifferFrom x xs → (o : OpData) → Contains xs o → op_eq o x ≡ false
differs_from x xs all o there =
    false_from_ne_true (op_eq o x) (λ e.
    let same : o ≡ x = op_same o x e in
    let here : list_any (op_eq x) xs ≡ true = list_any-from_Contains (decided op_eq op_eq_decides) x xs (subst (Contains xs) same there) in
    true≢false (sym here ∙ none_equal x xs all))

-- which operations are left where one went
any_without : (d : OpData) (os : List OpData) (i : ℕ) (o : OpData) → AreApart os → slice_get os i ≡ Some o
    → list_any (op_eq d) (remove os i) ≡ (if op_eq d o then false else list_any (op_eq d) os)
any_without d [] i o apart at = let never : None ≡ Some o = at in cc
any_without d (x ∷ xs) zero o apart at =
    let same : x ≡ o = cc in
    let test : op_eq d x ≡ op_eq d o = ap (op_eq d) same in
    elim (cases_Bool (op_eq d o)) [
      | inl hit ↦
          let mine : x ≡ d = same ∙ sym (op_same d o hit) in
          let none : list_any (op_eq d) xs ≡ false = none_equal d xs (subst (λ (y : OpData). AllDifferFrom y xs) mine apart.0) in
          none ∙ sym (chosen (op_eq d o) true false (list_any (op_eq d) (x ∷ xs)) hit)
      | inr miss ↦ sym (chosen (op_eq d o) false false (list_any (op_eq d) (x ∷ xs)) miss
          ∙ ap (λ b. b || list_any (op_eq d) xs) (test ∙ miss))
    ]
any_without d (x ∷ xs) (suc i) o apart at =
    let rest = any_without d xs i o apart.1 at in
    elim (cases_Bool (op_eq d o)) [
      | inl hit ↦
          let mine : d ≡ o = op_same d o hit in
          let here : op_eq d x ≡ false = ap (λ (y : OpData). op_eq y x) mine ∙ differs_from x xs apart.0 o (contains_at xs i o at) in
          let later : list_any (op_eq d) (remove xs i) ≡ false = rest ∙ chosen (op_eq d o) true false (list_any (op_eq d) xs) hit in
          (λ j. here j || later j) ∙ sym (chosen (op_eq d o) true false (list_any (op_eq d) (x ∷ xs)) hit)
      | inr miss ↦
          let later : list_any (op_eq d) (remove xs i) ≡ list_any (op_eq d) xs =
          rest ∙ chosen (op_eq d o) false false (list_any (op_eq d) xs) miss in
          ap (λ b. op_eq d x || b) later ∙ sym (chosen (op_eq d o) false false (list_any (op_eq d) (x ∷ xs)) miss)
    ]

-- an undo goes
pub undos_remove : (ks new : List Op) (os : List OpData) (i : ℕ) (op : Op) (o : OpData) → data_of op ≡ o
    → ((q : Op) → list_any (eq-value.it q) new ≡ (if eq-value.it op q then false else list_any (eq-value.it q) ks)) → AreApart os
    → slice_get os i ≡ Some o → AreUndos ks os → AreUndos new (remove os i)
undos_remove ks new os i op o is gone apart at undos q undo =
    let d = data_of q in
    let same : eq-value.it op q ≡ op_eq d o = derived_op op q ∙ ap (λ (x : OpData). op_eq x d) is ∙ turned o d in
    let left : list_any (op_eq d) (map data_of new) ≡ (if op_eq d o then false else list_any (eq-value.it q) ks) =
    sym (seen q new) ∙ gone q ∙ chosen (eq-value.it op q) (op_eq d o) false (list_any (eq-value.it q) ks) same in
    let back : list_any (eq-value.it q) ks ≡ list_any (op_eq d) os = seen q ks ∙ undos q undo in
    left ∙ ap (λ b. if op_eq d o then false else b) back ∙ sym (any_without d os i o apart at)
