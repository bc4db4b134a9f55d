-- Equality of operations: the test decides it, and it is the derived one.
use Rattle.std.proofs.Common.{◌≡◌, ℕ, Bool, true, ◌&&◌, ◌==◌, refl, sym, subst, rules}
use Rattle.std.specs.Bool.{Decides}
use Rattle.std.specs.Cmp.{first_so, second_so}
use Rattle.op_name.specs.NameData.{name_eq}
use Rattle.context_vector.specs.Contexts.{ContextData}
use Rattle.context_diff.specs.Operations.{OpData, inserting, deleting, undoing}
use Rattle.op_name.proofs.CallerLemmas.{name_same, name_itself, number_order}
use Rattle.context_vector.specs.Equality.{context_eq, context_eq_decides}
use Rattle.context_diff.specs.Letters.{letters_eq, letters_eq_decides}
use Rattle.context_diff.specs.Ops.{data_of, op_eq}
use Rattle.context_diff.specs.declared.op.Op.{Op}
use Rattle.context_diff.specs.declared.op.Op.TheVariants.{Insert, Delete, Undo}
use Rattle.context_diff.specs.contracts.op.OpPartialEq.TheImpl.{eq-value}

both : (x y : Bool) → x ≡ true → y ≡ true → (x && y) ≡ true
both x y e f = subst (λ t. (t && y) ≡ true) (sym e) f

number_itself : (a : ℕ) → (a == a) ≡ true
number_itself a = number_order.itself a

context_itself : (c : ContextData) → context_eq c c ≡ true
context_itself c = (context_eq_decides c c).1 refl

-- an operation is equal to itself
pub op_itself : (o : OpData) → op_eq o o ≡ true
op_itself (inserting n p text c) =
    both _ _ (name_itself n) (both _ _ (number_itself p) (both _ _ ((letters_eq_decides text text).1 refl) (context_itself c)))
op_itself (deleting n p c) = both _ _ (name_itself n) (both _ _ (number_itself p) (context_itself c))
op_itself (undoing a t g c) = both _ _ (number_itself a) (both _ _ (name_itself t) (both _ _ (number_itself g) (context_itself c)))

-- operations that the test finds equal are the same
pub op_same : (a b : OpData) → op_eq a b ≡ true → a ≡ b
op_same (inserting n p text c) (inserting m q other d) e =
    let more = second_so (name_eq n m) _ e in
    let last = second_so (p == q) _ more in
    let names = name_same n m (first_so (name_eq n m) _ e) in
    let places = number_order.same p q (first_so (p == q) _ more) in
    let texts = (letters_eq_decides text other).0 (first_so (letters_eq text other) _ last) in
    let contexts = (context_eq_decides c d).0 (second_so (letters_eq text other) _ last) in
    λ i. inserting (names i) (places i) (texts i) (contexts i)
op_same (inserting n p text c) (deleting m q d) e = cc
op_same (inserting n p text c) (undoing a t g d) e = cc
op_same (deleting n p c) (inserting m q other d) e = cc
op_same (deleting n p c) (deleting m q d) e =
    let more = second_so (name_eq n m) _ e in
    let names = name_same n m (first_so (name_eq n m) _ e) in
    let places = number_order.same p q (first_so (p == q) _ more) in
    let contexts = (context_eq_decides c d).0 (second_so (p == q) _ more) in
    λ i. deleting (names i) (places i) (contexts i)
op_same (deleting n p c) (undoing a t g d) e = cc
op_same (undoing a t g c) (inserting m q other d) e = cc
op_same (undoing a t g c) (deleting m q d) e = cc
op_same (undoing a t g c) (undoing b u h d) e =
    let more = second_so (a == b) _ e in
    let last = second_so (name_eq t u) _ more in
    let authors = number_order.same a b (first_so (a == b) _ e) in
    let targets = name_same t u (first_so (name_eq t u) _ more) in
    let generations = number_order.same g h (first_so (g == h) _ last) in
    let contexts = (context_eq_decides c d).0 (second_so (g == h) _ last) in
    λ i. undoing (authors i) (targets i) (generations i) (contexts i)

pub op_eq_decides : (a b : OpData) → Decides (op_eq a b) (a ≡ b)
op_eq_decides a b = (op_same a b, λ e. subst (λ x. op_eq a x ≡ true) e (op_itself a))

-- the derived test compares what contracts see
pub derived_op : (a b : Op) → eq-value.it a b ≡ op_eq (data_of a) (data_of b)
derived_op (Insert n p text c) (Insert m q other d) = search rules
derived_op (Insert n p text c) (Delete m q d) = search rules
derived_op (Insert n p text c) (Undo a t g d) = search rules
derived_op (Delete n p c) (Insert m q other d) = search rules
derived_op (Delete n p c) (Delete m q d) = search rules
derived_op (Delete n p c) (Undo a t g d) = search rules
derived_op (Undo a t g c) (Insert m q other d) = search rules
derived_op (Undo a t g c) (Delete m q d) = search rules
derived_op (Undo a t g c) (Undo b u h d) = search rules
