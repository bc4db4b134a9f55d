-- The places of base forms are within the cells of their base contexts.
use Rattle.std.proofs.Common.{◌≡◌, ℕ, ◌+◌, ◌<◌, ◌≤◌, Bool, true, false, if◌then◌else◌, List, [], ◌∷◌, ◌++◌, inl, inr, refl, ap, sym, ◌∙◌, subst, arith, length}
use Rattle.std.proofs.lemmas.Bool.{false_from_ne_true, cases_Bool}
use Rattle.op_name.specs.NameData.{NameData}
use Rattle.op_name.specs.declared.member.Member.{Member}
use Rattle.op_name.specs.declared.member.Member.TheVariants.{Original, Group}
use Rattle.context_vector.specs.Contexts.{ContextData, has}
use Rattle.context_diff.specs.Operations.{OpData, inserting, deleting, undoing, member_of, context_of, cells_put}
use Rattle.context_diff.specs.Histories.{members_in, cells_in, IsValid}
use Rattle.context_diff.specs.Bases.{base_has}
use Rattle.context_diff.proofs.CallerLemmas.{IsComplete, complete, group_has_target, base_listed, base_closed, base_itself, known_in, in_known}
use Rattle.ttf_form.specs.declared.ins.Ins.{Ins}
use Rattle.ttf_form.specs.declared.form.Form.{Form}
use Rattle.ttf_form.specs.declared.form.Form.TheVariants.{Ins as Insert, Cover as Covered}
use Rattle.ttf_form.specs.Forms.{extent_of, IsBoundedForm}
use Rattle.ttf_form.specs.Families.{IsIn, sum_where}
use Rattle.undo_group.specs.BaseForms.{AreBaseForms}
use Rattle.undo_group.specs.Laws.Members.{listed_member, placed_in, cells_behind}
use Rattle.undo_group.specs.Laws.Sums.{sum_within, sum_more}
use Rattle.undo_group.specs.Laws.Inserts.{context_of_original}

module _ (h : List OpData) (v : IsValid h) (form : Member → Form) (forms : AreBaseForms h form) where
  abbrev complete_h : IsComplete h
  complete_h = complete h v

  abbrev weight_of : (Member → Bool) → ℕ
  weight_of D = sum_where D (λ x. extent_of (form x)) (members_in h)

  -- the inserts of a context weigh at least as much as they have cells
  cells_weigh : (os : List OpData) (c : ContextData) (D : Member → Bool) → ((o : OpData) → IsIn o os → IsIn o h)
      → ((y : Member) → has c y ≡ true → D y ≡ true) → cells_in os c ≤ sum_where D (λ x. extent_of (form x)) (members_in os)
  cells_weigh [] c D all within = omega arith
  cells_weigh (o ∷ os) c D all within =
      let ih = cells_weigh os c D (λ p i. all p (inr i)) within in
      let here = weigh o (all o (inl refl)) in
      omega arith
    where
      weigh : (p : OpData) → IsIn p h
          → (if has c (member_of p) then cells_put p else 0) ≤ (if D (member_of p) then extent_of (form (member_of p)) else 0)
      weigh (inserting n p text k) i = elim (cases_Bool (has c (Original n))) [
        | inl q ↦ let f =
            forms.inserts n p text k i in let size : extent_of (form (Original n)) ≡ length text = ap extent_of f.is ∙ f.len in
            rw (q, within (Original n) q, size) (omega arith)
        | inr q ↦ rw q (omega arith)
      ]
      weigh (deleting n p k) i = grind arith
      weigh (undoing a t g k) i = grind arith

  -- the cells before an operation, of its own context, weigh at most as much as that context
  placed_weight : (o : OpData) (n : NameData) (i : IsIn o h) → member_of o ≡ Original n
      → cells_in (placed_in h v o i).before (context_of o) ≤ weight_of (base_has h (Original n))
  placed_weight o n i is =
      let a = placed_in h v o i in
      let one = cells_weigh h (context_of o) (base_has h (Original n)) (λ p j. j) (λ y e. context_of_original h v o n i is y ∙ e) in
      let two = cells_behind a.before (o ∷ a.after) (context_of o) in
      let all : cells_in h (context_of o) ≡ cells_in (a.before ++ (o ∷ a.after)) (context_of o) =
      ap (λ (l : List OpData). cells_in l (context_of o)) a.whole in
      omega arith

  insert_place : (n : NameData) (p : ℕ) (text : List ℕ) (c : ContextData) → IsIn (inserting n p text c) h
      → p ≤ weight_of (base_has h (Original n))
  insert_place n p text c i =
      let o = inserting n p text c in
      let w = placed_weight o n i refl in
      let q : p ≤ cells_in (placed_in h v o i).before c = (placed_in h v o i).next.placed in
      omega arith

  delete_place : (n : NameData) (p : ℕ) (c : ContextData) → IsIn (deleting n p c) h → p < weight_of (base_has h (Original n))
  delete_place n p c i =
      let o = deleting n p c in
      let w = placed_weight o n i refl in
      let q : p < cells_in (placed_in h v o i).before c = (placed_in h v o i).next.placed in
      omega arith

  group_wider : (t : NameData) (g : ℕ) → IsIn (Group t g) (members_in h) → (y : Member) → base_has h (Original t) y ≡ true
      → base_has h (Group t g) y ≡ true
  group_wider t g i y e = base_closed h complete_h (Group t g) (Original t) y (group_has_target h t g (in_known h (Group t g) i)) e

  target_listed : (t : NameData) (g : ℕ) → IsIn (Group t g) (members_in h) → IsIn (Original t) (members_in h)
  target_listed t g i =
      known_in h (Original t) (base_listed h complete_h (Group t g) (Original t) (group_has_target h t g (in_known h (Group t g) i)))

  -- the base context of a group of an insert weighs more than that of the insert
  group_heavier : (t : NameData) (g : ℕ) (a : Ins) → IsIn (Group t g) (members_in h) → form (Original t) ≡ Insert a
      → weight_of (base_has h (Original t)) + 1 ≤ weight_of (base_has h (Group t g))
  group_heavier t g a i e =
      let target = group_has_target h t g (in_known h (Group t g) i) in
      let lacks : base_has h (Original t) (Original t) ≡ false =
      false_from_ne_true (base_has h (Original t) (Original t)) (λ q. base_itself h complete_h (Original t) q) in
      let more =
      sum_more (base_has h (Original t)) (base_has h (Group t g)) (group_wider t g i) (λ (x : Member). extent_of (form x)) (Original t)
      (members_in h) lacks target (target_listed t g i) in
      let some : extent_of (form (Original t)) ≡ a.len = ap extent_of e in
      omega (arith, more, some, a.some)

  bounded_original : (n : NameData) (o : OpData) → IsIn o h → member_of o ≡ Original n
      → IsBoundedForm (form (Original n)) (weight_of (base_has h (Original n)))
  bounded_original n (inserting m p text c) i e =
      let s : m ≡ n = (cc) in
      let there : IsIn (inserting n p text c) h = subst (λ (x : NameData). IsIn (inserting x p text c) h) s i in
      let f = forms.inserts n p text c there in
      let q = insert_place n p text c there in
      let place = f.place in
      subst (λ (x : Form). IsBoundedForm x (weight_of (base_has h (Original n)))) (sym f.is) (omega arith)
  bounded_original n (deleting m p c) i e =
      let s : m ≡ n = (cc) in
      let there : IsIn (deleting n p c) h = subst (λ (x : NameData). IsIn (deleting x p c) h) s i in
      let f = forms.deletes n p c there in
      let q = delete_place n p c there in
      let place = f.place in
      subst (λ (x : Form). IsBoundedForm x (weight_of (base_has h (Original n)))) (sym f.is) (omega arith)
  bounded_original n (undoing s m g c) i e = absurd (cc)

  bounded_group : (t : NameData) (g : ℕ) → IsIn (Group t g) (members_in h)
      → IsBoundedForm (form (Original t)) (weight_of (base_has h (Original t))) → (f : Form) → form (Original t) ≡ f
      → IsBoundedForm (form (Group t g)) (weight_of (base_has h (Group t g)))
  bounded_group t g i low (Insert a) e =
      let f = forms.insert_groups t g a i e in
      let more = group_heavier t g a i e in
      let place = f.place in
      let bound : a.place ≤ weight_of (base_has h (Original t)) =
      subst (λ (x : Form). IsBoundedForm x (weight_of (base_has h (Original t)))) e low in
      subst (λ (x : Form). IsBoundedForm x (weight_of (base_has h (Group t g)))) (sym f.is) (omega arith)
  bounded_group t g i low (Covered d) e =
      let f = forms.delete_groups t g d i e in
      let wide =
      sum_within (base_has h (Original t)) (base_has h (Group t g)) (group_wider t g i) (λ (x : Member). extent_of (form x))
      (members_in h) in
      let place = f.place in
      let bound : d.place < weight_of (base_has h (Original t)) =
      subst (λ (x : Form). IsBoundedForm x (weight_of (base_has h (Original t)))) e low in
      subst (λ (x : Form). IsBoundedForm x (weight_of (base_has h (Group t g)))) (sym f.is) (omega arith)

  -- each base form is bounded by the cells of its base context
  pub forms_bounded : (m : Member) → IsIn m (members_in h)
      → IsBoundedForm (form m) (sum_where (base_has h m) (λ x. extent_of (form x)) (members_in h))
  forms_bounded (Original n) i = let r = listed_member (Original n) h i in bounded_original n r.0 r.1 r.2
  forms_bounded (Group t g) i =
      let r = listed_member (Original t) h (target_listed t g i) in
      bounded_group t g i (bounded_original t r.0 r.1 r.2) (form (Original t)) refl
