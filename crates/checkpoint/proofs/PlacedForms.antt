-- The originals of a history with their forms, one operation after the other.
use Rattle.std.proofs.Common.{◌≡◌, ℕ, zero, suc, ◌+◌, List, [], ◌∷◌, ◌++◌, length, take, Some, refl, sym, ap, ◌∙◌, append_assoc, Bool, arith}
use Rattle.std.specs.List.{slice_get}
use Rattle.context_diff.specs.Operations.{OpData, inserting, deleting, undoing}
use Rattle.context_diff.specs.Histories.{members_in}
use Rattle.op_name.specs.declared.member.Member.{Member}
use Rattle.ttf_form.specs.declared.form.Form.{Form}
use Rattle.transform_rec.specs.Family.{Family}
use Rattle.transform_rec.specs.Executing.{AreFormsFrom}
use Rattle.transform_rec.specs.Sets.{plus}
use Rattle.flat_history.specs.Checkpoints.{Placed}
use Rattle.flat_history.specs.Flat.{placed_in}

-- one operation with its form, before others
placed_first : (o : OpData) (f : Form) (os : List OpData) (fs : List Form)
    → placed_in (o ∷ os) (f ∷ fs) ≡ placed_in (o ∷ []) (f ∷ []) ++ placed_in os fs
placed_first (inserting n p text c) f os fs = refl
placed_first (deleting n p c) f os fs = refl
placed_first (undoing a t g c) f os fs = refl

-- one more
pub placed_more : (os : List OpData) (fs : List Form) (i : ℕ) (o : OpData) (f : Form) → slice_get os i ≡ Some o → slice_get fs i ≡ Some f
    → placed_in (take (i + 1) os) (take (i + 1) fs) ≡ placed_in (take i os) (take i fs) ++ placed_in (o ∷ []) (f ∷ [])
placed_more [] fs i o f at form = absurd cc
placed_more (x ∷ xs) [] i o f at form = absurd cc
placed_more (x ∷ xs) (g ∷ gs) zero o f at form =
    let op : x ≡ o = cc in
    let same : g ≡ f = cc in
    ap (λ (y : OpData). placed_in (y ∷ []) (g ∷ [])) op ∙ ap (λ (y : Form). placed_in (o ∷ []) (y ∷ [])) same
placed_more (x ∷ xs) (g ∷ gs) (suc i) o f at form =
    let rest = placed_more xs gs i o f at form in
    let more : suc i + 1 ≡ suc (i + 1) = omega arith in
    ap (λ (k : ℕ). placed_in (take k (x ∷ xs)) (take k (g ∷ gs))) more
    ∙ placed_first x g (take (i + 1) xs) (take (i + 1) gs)
    ∙ ap (λ (es : List Placed). placed_in (x ∷ []) (g ∷ []) ++ es) rest
    ∙ sym (append_assoc (placed_in (x ∷ []) (g ∷ [])) (placed_in (take i xs) (take i gs)) (placed_in (o ∷ []) (f ∷ [])))
    ∙ ap (λ (es : List Placed). es ++ placed_in (o ∷ []) (f ∷ [])) (sym (placed_first x g (take i xs) (take i gs)))

-- there are as many forms as members
pub forms_long : (over : Form → Form → Form) (b : Family Form) (C : Member → Bool) (ms : List Member) (fs : List Form)
    → AreFormsFrom over b C ms fs → length fs ≡ length ms
forms_long over b C [] [] h = refl
forms_long over b C [] (f ∷ fs) h = absurd h
forms_long over b C (m ∷ ms) [] h = absurd h
forms_long over b C (m ∷ ms) (f ∷ fs) h = ap suc (forms_long over b (plus C m) ms fs h.1)

-- and as operations
pub members_long : (h : List OpData) → length (members_in h) ≡ length h
members_long [] = refl
members_long (o ∷ os) = ap suc (members_long os)
