-- A pair that isn't at its member's base context, and the two pairs without the last member between.
use Rattle.std.proofs.Common.{◌≡◌, ◌≢◌, ℕ, ◌-◌, ◌<◌, ◌≤◌, Bool, true, false, not, ◌&&◌, List, [], ◌∷◌, ◌++◌, take, inl, inr, refl, sym, ap, subst, ◌∙◌, arith}
use Rattle.std.specs.Prelude.{◌||◌, if◌then◌else◌}
use Rattle.std.proofs.lemmas.Bool.{cases_Bool, both_ways, and_from, or_left, not_from_false}
use Rattle.op_name.specs.declared.member.Member.{Member}
use Rattle.op_name.specs.Members.{member_eq, IsMember}
use Rattle.op_name.proofs.CallerLemmas.{member_same, member_itself, member_apart}
use Rattle.context_vector.specs.Contexts.{ContextData, IsContext, has, raised}
use Rattle.context_vector.specs.Vectors.{IsLastMember, lowered}
use Rattle.context_vector.proofs.CallerLemmas.{same_context, has_raised, has_lowered, size_of}
use Rattle.context_diff.specs.Operations.{OpData, inserting, deleting, undoing, member_of, IsWellFormed}
use Rattle.context_diff.specs.Histories.{is_known, members_in, IsValid}
use Rattle.context_diff.specs.Bases.{base_has, base_context_of}
use Rattle.context_diff.specs.ClosedContexts.{IsClosedContext}
use Rattle.context_diff.specs.Differences.{LastMayBeTakenOut, difference_of}
use Rattle.context_diff.proofs.CallerLemmas.{base_value, base_closed, base_listed, base_itself, closed_context, closed_set, complete, IsComplete, holder, known_in, lowered_by, raised_by}
use Rattle.form_cache.specs.Keys.{KeyData}
use Rattle.ttf_form.specs.Families.{IsIn, sum_where}
use Rattle.transform_rec.specs.Sets.{SameSet, plus}
use Rattle.transform_rec.specs.Family.{size}
use Rattle.transform_rec.specs.Histories.{family_in, MayBeAddedTo}
use Rattle.transform_rec.proofs.CallerLemmas.{added_next, in_filter, known_generation}
use Rattle.undo_group.specs.BaseForms.{base_form}
use Rattle.trace_explain.specs.Listings.{IsLastBetween, left_of, over_of}
use Rattle.trace_explain.specs.Code.Tasks.{IsPair}
use Rattle.std.specs.Cmp.{both_ways as same_bool}

-- ---- members of a history are in range

least_of : (o : OpData) → IsWellFormed o → 1 ≤ size_of (member_of o)
least_of (inserting n p text d) f = f.in_range.0.1
least_of (deleting n p d) f = f.in_range.0.1
least_of (undoing a t g d) f = f.in_range.2

lowered_known : (h : List OpData) → IsComplete h → (c : ContextData) (x : Member) → is_known h x ≡ true → IsContext c
    → IsContext (lowered c x)
lowered_known h w c x k is =
    let o = holder h x k in subst (λ (m : Member). IsContext (lowered c m)) o.is (lowered_by c o.op is (w.formed o.op o.there))

raised_known : (h : List OpData) → IsComplete h → (c : ContextData) (x : Member) → is_known h x ≡ true → IsContext c
    → IsContext (raised c x)
raised_known h w c x k is =
    let o = holder h x k in subst (λ (m : Member). IsContext (raised c m)) o.is (raised_by c o.op is (w.formed o.op o.there))

least_known : (h : List OpData) → IsComplete h → (x : Member) → is_known h x ≡ true → 1 ≤ size_of x
least_known h w x k = let o = holder h x k in subst (λ (m : Member). 1 ≤ size_of m) o.is (least_of o.op (w.formed o.op o.there))

-- ---- base contexts

pub base_same : (h : List OpData) → IsValid h → (m : Member) → is_known h m ≡ true → SameSet (has (base_context_of h m)) (base_has h m)
base_same h v m known y = base_value h (complete h v) m known y

base_is_closed : (h : List OpData) → IsValid h → (m : Member) → is_known h m ≡ true → IsClosedContext h (base_context_of h m)
base_is_closed h v m known =
    let w = complete h v in
    let same = base_same h v m known in
    closed_context h w (base_context_of h m) (record {
      known = λ x e. base_listed h w m x (sym (same x) ∙ e);
      closed = λ x y e k. same y ∙ base_closed h w m x y (sym (same x) ∙ e) k;
    })

-- ---- the two pairs

pub record IsSmaller (h : List OpData) (k : KeyData) (x : Member) : Type 0 where
  pub there : has k.context x ≡ true
  pub last : IsLastMember k.context x
  pub member : IsMember x
  pub known : is_known h x ≡ true
  pub context : IsContext (lowered k.context x)
  pub left : IsPair h (left_of k x)
  pub over : IsPair h (over_of k x)
  pub other : k.member ≢ x
  pub whole : SameSet (has k.context) (plus (has (lowered k.context x)) x)
  pub again : k.context ≡ raised (lowered k.context x) x

and_not : (b t : Bool) → t ≡ true → (b && not t) ≡ false
and_not true t e = ap not e
and_not false t e = refl

put_back : (b t : Bool) → (t ≡ true → b ≡ true) → b ≡ ((b && not t) || t)
put_back true true f = refl
put_back true false f = refl
put_back false true f = f refl
put_back false false f = refl

pub smaller : LastMayBeTakenOut → (h : List OpData) → IsValid h → (k : KeyData) → IsContext k.context → IsPair h k → (x : Member)
    → IsLastBetween h k x → IsSmaller h k x
smaller law h v k is a x l =
    let w = complete h v in
    let c = k.context in
    let d = lowered k.context x in
    let closed : IsClosedContext h k.context = record { ready = a.ready; stray = a.stray; closed = a.closed } in
    let base = base_same h v k.member a.known in
    let taken =
    law h (base_context_of h k.member) k.context l.earlier x v is (base_is_closed h v k.member a.known) closed
    (λ y e. a.covers y (sym (base y) ∙ e)) l.last in
    let known : is_known h x ≡ true = a.ready x taken.0.there in
    let members : (y : Member) → has (lowered k.context x) y ≡ (has k.context y && not (member_eq x y)) =
    λ (y : Member). has_lowered k.context x is taken.0.last (least_known h w x known) y in
    let whole : SameSet (has k.context) (plus (has (lowered k.context x)) x) = λ (y : Member).
    put_back (has k.context y) (member_eq x y) (λ e. subst (λ (z : Member). has k.context z ≡ true) (member_same x y e) taken.0.there)
    ∙ ap (λ (b : Bool). b || member_eq x y) (sym (members y)) in
    let set = closed_set h w k.context closed in
    let over : IsPair h (over_of k x) = record {
      known = known;
      ready = taken.0.left.ready;
      closed = taken.0.left.closed;
      stray = taken.0.left.stray;
      covers = λ y e. members y ∙ and_from (has k.context y) (not (member_eq x y)) (set.closed x y taken.0.there e)
          (not_from_false (member_eq x y)
          (member_apart x y (λ s. base_itself h w x (subst (λ (z : Member). base_has h x z ≡ true) (sym s) e))));
      lacks = members x ∙ and_not (has k.context x) (member_eq x x) (member_itself x);
    } in
    record {
      there = taken.0.there;
      last = taken.0.last;
      member = known_generation h v x known;
      known = known;
      context = lowered_known h w k.context x known is;
      left = record {
        known = a.known;
        ready = taken.0.left.ready;
        closed = taken.0.left.closed;
        stray = taken.0.left.stray;
        covers = λ y e. taken.1 y (base y ∙ e);
        lacks = members k.member ∙ ap (λ (b : Bool). b && not (member_eq x k.member)) a.lacks;
      };
      over = over;
      other = λ e. both_ways (has k.context k.member) a.lacks (subst (λ (z : Member). has k.context z ≡ true) (sym e) taken.0.there);
      whole = whole;
      again = same_context k.context (raised (lowered k.context x) x) is
          (raised_known h w (lowered k.context x) x known (lowered_known h w k.context x known is))
          (λ y. whole y ∙ sym (has_raised (lowered k.context x) x (added_next h v (lowered k.context x) x over) y));
    }

-- ---- sizes

one_most : (a b : Bool) → (b ≡ true → a ≡ true) → (if b then 1 else 0) ≤ (if a then 1 else 0)
one_most true true h = omega arith
one_most true false h = omega arith
one_most false true h = absurd (both_ways false refl (h refl))
one_most false false h = omega arith

sum_most : (C D : Member → Bool) (xs : List Member) → ((y : Member) → D y ≡ true → C y ≡ true)
    → sum_where D (λ y. 1) xs ≤ sum_where C (λ y. 1) xs
sum_most C D [] h = omega arith
sum_most C D (x ∷ xs) h = let a = one_most (C x) (D x) (h x) in let r = sum_most C D xs h in omega arith

sum_less : (C D : Member → Bool) (xs : List Member) (x : Member) → IsIn x xs → C x ≡ true → D x ≡ false
    → ((y : Member) → D y ≡ true → C y ≡ true) → sum_where D (λ y. 1) xs < sum_where C (λ y. 1) xs
sum_less C D [] x i c d h = absurd i
sum_less C D (y ∷ ys) x (inl e) c d h =
    let cy : C y ≡ true = subst (λ (z : Member). C z ≡ true) e c in
    let dy : D y ≡ false = subst (λ (z : Member). D z ≡ false) e d in
    let r = sum_most C D ys h in
    rw (cy, dy) (omega arith)
sum_less C D (y ∷ ys) x (inr i) c d h = let a = one_most (C y) (D y) (h y) in let r = sum_less C D ys x i c d h in omega arith

pub smaller_size : (h : List OpData) (k : KeyData) (x : Member) → IsSmaller h k x
    → size (family_in h (base_form h)) (has (lowered k.context x)) < size (family_in h (base_form h)) (has k.context)
smaller_size h k x s =
    sum_less (has k.context) (has (lowered k.context x)) (members_in h) x (known_in h x s.known) s.there s.over.lacks
    (λ y e. s.whole y ∙ or_left (has (lowered k.context x) y) (member_eq x y) e)

-- ---- differences

pub context_of_key : (a b : ContextData) → a ≡ b → IsContext a → IsContext b
context_of_key a b e is = subst IsContext e is

pub none_left : {A : Type 0} (old more items popped : List A) (n : ℕ) → old ≡ [] → items ≡ old ++ more → items ≡ popped ++ []
    → popped ≡ take (n - 1) items → n ≡ 0 → more ≡ []
none_left {A} old more items popped n e f g h z =
    let none : n - 1 ≡ 0 = omega arith in
    let empty : popped ≡ [] = h ∙ ap (λ (k : ℕ). take k items) none in
    let all : items ≡ [] = g ∙ ap (λ (l : List A). l ++ []) empty in
    sym (f ∙ ap (λ (l : List A). l ++ more) e) ∙ all

nothing_in : (x : Member) → IsIn x [] → ⊥
nothing_in x i = i

pub nothing_between : (h : List OpData) → IsValid h → (m : Member) (c own : ContextData) → MayBeAddedTo h c m → own ≡ base_context_of h m
    → IsContext c → IsContext own → difference_of h own c ≡ [] → c ≡ base_context_of h m
nothing_between h v m c own a e is io none =
    let base : SameSet (has own) (base_has h m) = λ (y : Member). ap (λ (d : ContextData). has d y) e ∙ base_same h v m a.known y in
    same_context c own is io (λ y. same_bool (has c y) (has own y)
    (λ t. elim (cases_Bool (has own y)) [
      | inl there ↦ there
      | inr out ↦ absurd (nothing_in y
          (subst (λ (l : List Member). IsIn y l) none
          (in_filter (λ (z : Member). has c z && not (has own z)) y (members_in h) (known_in h y (a.ready y t))
          (and_from (has c y) (not (has own y)) t (not_from_false (has own y) out)))))
    ])
    (λ t. a.covers y (sym (base y) ∙ t))) ∙ e
