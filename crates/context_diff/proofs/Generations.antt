-- The generation of an original in a valid history is its entry in the context of all members.
use Rattle.std.proofs.Common.{◌≡◌, max, inl, inr, List, [], ◌∷◌, ◌++◌, refl, ap, sym, ◌∙◌, arith}
use Rattle.std.proofs.lemmas.Bool.{cases_Bool}
use Rattle.op_name.specs.NameData.{NameData, name_eq}
use Rattle.context_vector.specs.Contexts.{ContextData, entry_of, raised, IsNextMember}
use Rattle.context_diff.specs.Operations.{OpData, inserting, deleting, undoing, member_of}
use Rattle.context_diff.specs.Histories.{context_of_all, generation_at, generation_in, IsValid}
use Rattle.context_diff.proofs.Names.{name_same}
use Rattle.context_diff.proofs.Raising.{entry_put}
use Rattle.context_diff.proofs.Valid.{by_pushes}
use Rattle.context_diff.proofs.Complete.{complete, next_member, context_push}

pub generation_push : (h : List OpData) (o : OpData) (t : NameData)
    → generation_in (h ++ o ∷ []) t ≡ max (generation_in h t) (generation_at o t)
generation_push [] o t = omega arith
generation_push (p ∷ ps) o t = rw (generation_push ps o t) (omega arith)

entry_raised : (a : ContextData) (o : OpData) (t : NameData) → IsNextMember a (member_of o)
    → entry_of (raised a (member_of o)) t ≡ max (entry_of a t) (generation_at o t)
entry_raised a (inserting n p text c) t next = omega arith
entry_raised a (deleting n p c) t next = omega arith
entry_raised a (undoing u n g c) t next =
    rw (entry_put n g a.entries t) (elim (cases_Bool (name_eq n t)) [
      | inl same ↦
          let entry : entry_of a n ≡ entry_of a t = ap (entry_of a) (name_same n t same) in
          rw same (omega arith)
      | inr other ↦ rw other (omega arith)
    ])

pub generation_is : (h : List OpData) → IsValid h → (t : NameData) → generation_in h t ≡ entry_of (context_of_all h) t
generation_is h v =
    by_pushes (λ k. (t : NameData) → generation_in k t ≡ entry_of (context_of_all k) t) (λ t. refl) (λ k o valid was next t.
    generation_push k o t
    ∙ (ap (λ x. max x (generation_at o t)) (was t)
    ∙ (sym (entry_raised (context_of_all k) o t (next_member k (context_of_all k) o (complete k valid).holds next))
    ∙ ap (λ c. entry_of c t) (sym (context_push k o))))) h v
