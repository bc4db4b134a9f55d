-- Two histories have the same operations exactly where each operation of the one is a repeat over the other.
use Rattle.std.proofs.Common.{◌≡◌, ◌≤◌, ◌↔◌, true, inl, inr, List, refl, ap, [], sym, ◌∙◌, arith}
use Rattle.std.specs.Prelude.{All, Contains}
use Rattle.std.proofs.lemmas.Bool.{cases_Bool}
use Rattle.std.proofs.lemmas.List.Elements.{All-contains, Contains-get_or}
use Rattle.std.proofs.lemmas.List.Recursion.{max_bounds, max_least}
use Rattle.op_name.specs.NameData.{NameData, name_eq}
use Rattle.op_name.specs.declared.member.Member.TheVariants.{Original}
use Rattle.op_name.proofs.CallerLemmas.{name_same, name_itself}
use Rattle.context_diff.specs.Operations.{OpData, inserting, deleting, undoing, is_original}
use Rattle.context_diff.specs.Histories.{is_known, generation_at, generation_in, IsValid, Same}
use Rattle.context_diff.proofs.CallerLemmas.{complete, holder, known_member, named_original}
use Rattle.cot_site.specs.Verdicts.{IsRepeat}

-- ---- from repeats to the same operations

there : (k : List OpData) (o : OpData) → is_original o ≡ true → IsRepeat k o → Contains k o
there k (inserting n p text c) is repeat = repeat
there k (deleting n p c) is repeat = repeat
there k (undoing a t g c) is repeat = cc

reached : (k : List OpData) (o : OpData) (t : NameData) → IsRepeat k o → generation_at o t ≤ generation_in k t
reached k (inserting n p text c) t repeat = omega arith
reached k (deleting n p c) t repeat = omega arith
reached k (undoing a n g c) t repeat =
    elim (cases_Bool (name_eq n t)) [
      | inl same ↦
          let generation : generation_in k n ≡ generation_in k t = ap (generation_in k) (name_same n t same) in
          rw same (omega (arith, repeat, generation))
      | inr other ↦ rw other (omega arith)
    ]

no_further : (h k : List OpData) (t : NameData) → All (IsRepeat k) h → generation_in h t ≤ generation_in k t
no_further h k t all =
    max_least (λ os. generation_in os t) (λ o. generation_at o t) refl (λ o os. refl) h nothing (generation_in k t)
    (λ i at. reached k _ t (all i nothing at))
  where
    nothing : OpData
    nothing = undoing 0 t 0 (record { counts = []; entries = [] })

same_from : (h k : List OpData) → All (IsRepeat k) h → All (IsRepeat h) k → Same h k
same_from h k in_k in_h = record {
  originals = λ o original. (
    λ at. there k o original (All-contains (IsRepeat k) h o in_k at),
    λ at. there h o original (All-contains (IsRepeat h) k o in_h at),
  );
  generations = λ t known. omega (arith, no_further h k t in_k, no_further k h t in_h);
}

-- ---- and back

same_back : (h k : List OpData) → Same h k → Same k h
same_back h k same = record {
  originals = λ o original. ((same.originals o original).1, (same.originals o original).0);
  generations = λ t known.
      let held = holder k (Original t) known in
      let at : Contains h held.op = (same.originals held.op (named_original held.op t held.is)).1 held.there in
      sym (same.generations t (ap (is_known h) (sym held.is) ∙ known_member h held.op at));
}

repeat_of : (h k : List OpData) (o : OpData) → IsValid h → Same h k → Contains h o
    → ((t : NameData) → generation_at o t ≤ generation_in h t) → IsRepeat k o
repeat_of h k (inserting n p text c) valid same at within = (same.originals (inserting n p text c) refl).0 at
repeat_of h k (deleting n p c) valid same at within = (same.originals (deleting n p c) refl).0 at
repeat_of h k (undoing a t g c) valid same at within =
    let w = complete h valid in
    let known : is_known h (Original t) ≡ true = w.ready (undoing a t g c) at (Original t) (w.formed (undoing a t g c) at).target.0 in
    let own : generation_at (undoing a t g c) t ≡ g = rw (name_itself t) refl in
    omega (arith, own, within t, same.generations t known)

repeats : (h k : List OpData) → IsValid h → Same h k → All (IsRepeat k) h
repeats h k valid same i d at =
    repeat_of h k _ valid same (Contains-get_or h i d at)
    (λ t. max_bounds (λ os. generation_in os t) (λ o. generation_at o t) refl (λ o os. refl) h i d at)

pub same_is : (h k : List OpData) → IsValid h → IsValid k → (All (IsRepeat k) h × All (IsRepeat h) k) ↔ Same h k
same_is h k v w = (λ both. same_from h k both.0 both.1, λ same. (repeats h k v same, repeats k h w (same_back h k same)))
