-- Valid histories grow and shrink at their end, and what holds after each step holds of all of them.
use Rattle.std.proofs.Common.{◌≡◌, List, [], ◌∷◌, ◌++◌, sym, subst, append_assoc, append-nil}
use Rattle.context_diff.specs.Operations.{OpData}
use Rattle.context_diff.specs.Histories.{IsNext, IsValid, IsValidAfter}

-- the operation behind the first part, taken into it
pub shifted : (b : List OpData) (o : OpData) (os : List OpData) → (b ++ o ∷ []) ++ os ≡ b ++ (o ∷ os)
shifted b o os = append_assoc b (o ∷ []) os

valid_push_after : (b os : List OpData) (o : OpData) → IsValidAfter b os → IsNext (b ++ os) o → IsValidAfter b (os ++ o ∷ [])
valid_push_after b [] o v next = (subst (λ h. IsNext h o) (append-nil b) next, tt)
valid_push_after b (p ∷ ps) o v next = (v.0, valid_push_after (b ++ p ∷ []) ps o v.1 (subst (λ h. IsNext h o) (sym (shifted b p ps)) next))

pub valid_push : (h : List OpData) (o : OpData) → IsValid h → IsNext h o → IsValid (h ++ o ∷ [])
valid_push h o v next = valid_push_after [] h o v next

-- a valid history in two parts: the first is valid, and the second may come after it
parts_after : (b os ps : List OpData) → IsValidAfter b (os ++ ps) → IsValidAfter b os × IsValidAfter (b ++ os) ps
parts_after b [] ps v = (tt, subst (λ h. IsValidAfter h ps) (sym (append-nil b)) v)
parts_after b (o ∷ os) ps v =
    let rest = parts_after (b ++ o ∷ []) os ps v.1 in
    ((v.0, rest.0), subst (λ h. IsValidAfter h ps) (shifted b o os) rest.1)

pub valid_parts : (h k : List OpData) → IsValid (h ++ k) → IsValid h × IsValidAfter h k
valid_parts h k v = parts_after [] h k v

pub valid_pop : (h : List OpData) (o : OpData) → IsValid (h ++ o ∷ []) → IsValid h × IsNext h o
valid_pop h o v = let parts = valid_parts h (o ∷ []) v in (parts.0, parts.1.0)

pub valid_before : (h : List OpData) (o : OpData) (k : List OpData) → IsValid (h ++ o ∷ k) → IsValid h × IsNext h o
valid_before h o k v = let parts = valid_parts h (o ∷ k) v in (parts.0, parts.1.0)

-- what holds of no operations, and after each next one, holds of every valid history
by_pushes_after : (P : List OpData → Type 0) → ((h : List OpData) (o : OpData) → IsValid h → P h → IsNext h o → P (h ++ o ∷ []))
    → (b os : List OpData) → IsValid b → P b → IsValidAfter b os → P (b ++ os)
by_pushes_after P step b [] valid p v = subst P (sym (append-nil b)) p
by_pushes_after P step b (o ∷ os) valid p v =
    subst P (shifted b o os) (by_pushes_after P step (b ++ o ∷ []) os (valid_push b o valid v.0) (step b o valid p v.0) v.1)

pub by_pushes : (P : List OpData → Type 0) → P [] → ((h : List OpData) (o : OpData) → IsValid h → P h → IsNext h o → P (h ++ o ∷ []))
    → (h : List OpData) → IsValid h → P h
by_pushes P first step h v = by_pushes_after P step [] h tt first v
