-- Which answer a local command has, step by step.
use Rattle.std.proofs.Common.{◌≡◌, inl, inr, ℕ, List, ◌<◌, ◌≤◌, ◌+◌, Bool, length, Result, Ok, Err, refl, ap, sym, subst, ◌∙◌}
use Rattle.std.specs.Prelude.{Option, Some, None, IsOk, IfOk, IsErrAnd, OnErr, if◌then◌else◌}
use Rattle.std.proofs.lemmas.Bool.{lt-ltb}
use Rattle.op_name.specs.declared.name.TheConstants.{NUMBERS}
use Rattle.context_diff.specs.declared.op.TheConstants.{UNDO_ENTRIES}
use Rattle.op_name.specs.NameData.{NameData}
use Rattle.context_vector.specs.Contexts.{ContextData}
use Rattle.context_diff.specs.Operations.{OpData, inserting, deleting, undoing}
use Rattle.context_diff.specs.Histories.{generation_in, context_of_all}
use Rattle.context_diff.specs.Replays.{characters_of}
use Rattle.context_diff.specs.declared.op.Op.{Op}
use Rattle.context_diff.specs.Ops.{data_of}
use Rattle.site_answers.specs.declared.local.Local.{Local}
use Rattle.site_answers.specs.declared.local.Local.TheVariants.{PlaceOut, NumberFull, ContextFull, Memory}
use Rattle.cot_site.specs.States.{State}
use Rattle.cot_site.specs.Commands.{place_of_shown, place_behind, count_made, next_name, in_context, numbered, turned, local_run, local_delete, IsAnswer}
use Rattle.cot_site.specs.Code.Making.{IsContextAnswer, IsHead}
use Rattle.cot_site.proofs.LocalOps.{in_context_made}

pub in_context_full : (c : ContextData) (o : OpData) → UNDO_ENTRIES < length c.entries
    → in_context c o ≡ Err (ContextFull (length c.entries))
in_context_full c o more =
    ap (λ (b : Bool). if b then Err (ContextFull (length c.entries)) else Ok o) (lt-ltb UNDO_ENTRIES (length c.entries) more)

ok_there : (r : Result OpData Local) (o : OpData) → r ≡ Ok o → IsOk r
ok_there r o e = subst (λ (x : Result OpData Local). IsOk x) (sym e) refl

pub context_refused : (c : ContextData) (o : OpData) (e : Local) → IsContextAnswer c (Err e) → IsAnswer (in_context c o) (Err e)
context_refused c o e (inl (is, more)) = subst (λ (x : Local). IsAnswer (in_context c o) (Err x)) (sym is) (in_context_full c o more)
context_refused c o e (inr (is, few)) =
    subst (λ (x : Local). IsAnswer (in_context c o) (Err x)) (sym is) (ok_there (in_context c o) o (in_context_made c o few))

numbered_free : (s : State) (o : OpData) → count_made s < NUMBERS → numbered s o ≡ in_context (context_of_all s.history) o
numbered_free s o free =
    ap (λ (b : Bool). if b then in_context (context_of_all s.history) o else Err NumberFull) (lt-ltb (count_made s) NUMBERS free)

pub numbered_refused : (s : State) (o : OpData) (e : Local) → count_made s < NUMBERS → IsContextAnswer (context_of_all s.history) (Err e)
    → IsAnswer (numbered s o) (Err e)
numbered_refused s o e free answer =
    subst (λ (r : Result OpData Local). IsAnswer r (Err e)) (sym (numbered_free s o free))
    (context_refused (context_of_all s.history) o e answer)

pub numbered_made : (s : State) (o : OpData) → count_made s < NUMBERS → length (context_of_all s.history).entries ≤ UNDO_ENTRIES
    → numbered s o ≡ Ok o
numbered_made s o free few = numbered_free s o free ∙ in_context_made (context_of_all s.history) o few

pub made_memory : (r : Result OpData Local) (o : OpData) → r ≡ Ok o → IsAnswer r (Err Memory)
made_memory r o e = ok_there r o e

-- a refusal that is handed on answers what the refusal answers
pub handed_on : (r : Result OpData Local) (m : Result Op Local) (e : Local) → IsErrAnd m (λ x. x ≡ e) → IsAnswer r (Err e) → IsAnswer r m
handed_on r (Ok p) e is answer = absurd is
handed_on r (Err x) e is answer = subst (λ (y : Local). IsAnswer r (Err y)) (sym is) answer

-- ---- the commands, where their places are

pub insert_at : (s : State) (v p : ℕ) (text : List ℕ) → place_behind s.history v ≡ Some p
    → local_run s v text ≡ numbered s (inserting (next_name s) p text (context_of_all s.history))
insert_at s v p text at = ap (λ (r : Option ℕ). elim r [
  | None ↦ Err (PlaceOut v (length (characters_of s.history)))
  | Some q ↦ numbered s (inserting (next_name s) q text (context_of_all s.history))
]) at

pub delete_at : (s : State) (v p : ℕ) → place_of_shown s.history v ≡ Some p
    → local_delete s v ≡ numbered s (deleting (next_name s) p (context_of_all s.history))
delete_at s v p at = ap (λ (r : Option ℕ). elim r [
  | None ↦ Err (PlaceOut v (length (characters_of s.history)))
  | Some q ↦ numbered s (deleting (next_name s) q (context_of_all s.history))
]) at

-- ---- what was made and then integrated, or memory was wanting

pub make_answer : (r : Result OpData Local) (o : OpData) (m : Result Op Local) → r ≡ Ok o → IfOk m (λ p. data_of p ≡ o)
    → OnErr m (m ≡ Err Memory) → IsAnswer r m
make_answer r o (Ok p) is same memory = is ∙ ap (λ (x : OpData). Ok x) (sym same)
make_answer r o (Err e) is same memory =
    let e_is : e ≡ Memory = cc in subst (λ (x : Local). IsAnswer r (Err x)) (sym e_is) (made_memory r o is)

pub insert_made : (s : State) (v : ℕ) (n : NameData) (p : ℕ) (k : ContextData) (text : List ℕ) → IsHead s v n p k
    → local_run s v text ≡ Ok (inserting n p text k)
insert_made s v n p k text head =
    insert_at s v p text head.place
    ∙ (numbered_made s (inserting (next_name s) p text (context_of_all s.history)) head.free head.few
    ∙ (λ i. Ok (inserting (sym head.name i) p text (sym head.context i))))

pub delete_made : (s : State) (v p : ℕ) (n : NameData) (k : ContextData) → place_of_shown s.history v ≡ Some p → n ≡ next_name s
    → count_made s < NUMBERS → k ≡ context_of_all s.history → length (context_of_all s.history).entries ≤ UNDO_ENTRIES
    → local_delete s v ≡ Ok (deleting n p k)
delete_made s v p n k at name free context few =
    delete_at s v p at ∙ (numbered_made s (deleting (next_name s) p (context_of_all s.history)) free few
    ∙ (λ i. Ok (deleting (sym name i) p (sym context i))))

pub turned_made : (s : State) (a : ℕ) (t : NameData) (g : ℕ) (k : ContextData) → a ≡ s.number → g ≡ generation_in s.history t
    → k ≡ context_of_all s.history → length (context_of_all s.history).entries ≤ UNDO_ENTRIES → turned s t ≡ Ok (undoing a t (g + 1) k)
turned_made s a t g k author generation context few =
    in_context_made (context_of_all s.history) (undoing s.number t (generation_in s.history t + 1) (context_of_all s.history)) few
    ∙ (λ i. Ok (undoing (sym author i) t (sym generation i + 1) (sym context i)))
