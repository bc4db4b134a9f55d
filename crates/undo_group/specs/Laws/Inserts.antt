-- Which members have an insert as their form, and that inserts of which neither knows the other are of different sites.
use Rattle.std.proofs.Common.{◌≡◌, ◌≢◌, ℕ, Bool, true, false, ◌&&◌, List, inl, inr, refl, ap, ap₂, sym, ◌∙◌, subst, subst₂}
use Rattle.std.proofs.lemmas.Bool.{both_ways}
use Rattle.op_name.specs.NameData.{NameData}
use Rattle.op_name.specs.declared.member.Member.{Member}
use Rattle.op_name.specs.declared.member.Member.TheVariants.{Original, Group}
use Rattle.context_vector.specs.Contexts.{ContextData, has}
use Rattle.context_diff.specs.Operations.{OpData, inserting, deleting, undoing, member_of, context_of}
use Rattle.context_diff.specs.Histories.{members_in, is_known, IsValid}
use Rattle.context_diff.specs.Bases.{base_has}
use Rattle.context_diff.proofs.CallerLemmas.{complete, context_is, related, in_original, in_known}
use Rattle.ttf_form.specs.declared.ins.Ins.{Ins}
use Rattle.ttf_form.specs.declared.form.Form.{Form}
use Rattle.ttf_form.specs.declared.form.Form.TheVariants.{Ins as Insert, Cover as Covered}
use Rattle.ttf_form.specs.Forms.{ApartForms}
use Rattle.ttf_form.specs.Families.{IsIn}
use Rattle.undo_group.specs.BaseForms.{AreBaseForms}
use Rattle.undo_group.specs.Laws.Members.{in_contains, listed_member, known_as}

-- the base context of an original is the context of its operation
pub context_of_original : (h : List OpData) → IsValid h → (o : OpData) (n : NameData) → IsIn o h → member_of o ≡ Original n → (y : Member)
    → base_has h (Original n) y ≡ has (context_of o) y
context_of_original h v o n i e y =
    let known : is_known h (Original n) ≡ true = known_as o (Original n) h i e in
    let same = context_is h (complete h v) o n (in_contains o h i) e known in
    ap₂ (λ (p : Bool) (c : ContextData). p && has c y) known same

-- the member is an insert of the history, with the name and the place of this one
pub record IsInsertOp (h : List OpData) (m : Member) (a : Ins) : Type 0 where
  pub name : NameData
  pub place : ℕ
  pub text : List ℕ
  pub context : ContextData
  pub there : IsIn (inserting name place text context) h
  pub is : m ≡ Original name
  pub named : a.name ≡ name
  pub placed : a.place ≡ place

module _ (h : List OpData) (v : IsValid h) (form : Member → Form) (forms : AreBaseForms h form) where
  of_original : (n : NameData) (a : Ins) → form (Original n) ≡ Insert a → (o : OpData) → IsIn o h → member_of o ≡ Original n
      → IsInsertOp h (Original n) a
  of_original n a base (inserting m p text c) i e =
      let s : m ≡ n = (cc) in
      let there : IsIn (inserting n p text c) h = subst (λ (x : NameData). IsIn (inserting x p text c) h) s i in
      let f = forms.inserts n p text c there in
      let q : Insert f.ins ≡ Insert a = sym f.is ∙ base in
      let r : f.ins ≡ a = (cc) in
      record {
        name = n;
        place = p;
        text = text;
        context = c;
        there = there;
        is = refl;
        named =
            ap (λ (x : Ins). x.name) (sym r) ∙ f.name;
        placed = ap (λ (x : Ins). x.place) (sym r) ∙ f.place;
      }
  of_original n a base (deleting m p c) i e =
      let s : m ≡ n = (cc) in
      let there : IsIn (deleting n p c) h = subst (λ (x : NameData). IsIn (deleting x p c) h) s i in
      let f = forms.deletes n p c there in
      let q : Covered f.cover ≡ Insert a = sym f.is ∙ base in
      absurd (cc)
  of_original n a base (undoing s m g c) i e = absurd (cc)

  no_insert_group : (t : NameData) (g : ℕ) (a : Ins) → IsIn (Group t g) (members_in h) → (f : Form) → form (Original t) ≡ f
      → form (Group t g) ≡ Insert a → ⊥
  no_insert_group t g a i (Insert d) base e =
      let f = forms.insert_groups t g d i base in let q : Covered f.cover ≡ Insert a = sym f.is ∙ e in (cc)
  no_insert_group t g a i (Covered d) base e =
      let f = forms.delete_groups t g d i base in let q : Covered f.cover ≡ Insert a = sym f.is ∙ e in (cc)

  pub insert_op : (m : Member) (a : Ins) → IsIn m (members_in h) → form m ≡ Insert a → IsInsertOp h m a
  insert_op (Original n) a i e = let r = listed_member (Original n) h i in of_original n a e r.0 r.1 r.2
  insert_op (Group t g) a i e = absurd (no_insert_group t g a i (form (Original t)) refl e)

  apart_by : (m x : Member) → IsIn m (members_in h) → IsIn x (members_in h) → m ≢ x → base_has h m x ≡ false → base_has h x m ≡ false
      → (f g : Form) → form m ≡ f → form x ≡ g → ApartForms f g
  apart_by m x i j ne l k (Insert a) (Insert d) e q =
      let r = insert_op m a i e in
      let s = insert_op x d j q in
      λ sites.
      let same : r.name.site ≡ s.name.site =
      ap (λ (n : NameData). n.site) (sym r.named) ∙ (sym a.own ∙ (sites ∙ (d.own ∙ ap (λ (n : NameData). n.site) s.named))) in
      let other : r.name ≢ s.name = λ (n : r.name ≡ s.name). ne (r.is ∙ (ap Original n ∙ sym s.is)) in
      let known_m : is_known h (Original r.name) ≡ true = subst (λ (z : Member). is_known h z ≡ true) r.is (in_known h m i) in
      let known_x : is_known h (Original s.name) ≡ true = subst (λ (z : Member). is_known h z ≡ true) s.is (in_known h x j) in
      elim (related h (complete h v) r.name s.name known_m known_x other same) [
        | inl seen ↦ both_ways (base_has h m x) l
            (subst₂ (λ (y z : Member). base_has h y z ≡ true) (sym r.is) (sym s.is) (in_original h r.name (Original s.name) known_m seen))
        | inr seen ↦ both_ways (base_has h x m) k
            (subst₂ (λ (y z : Member). base_has h y z ≡ true) (sym s.is) (sym r.is) (in_original h s.name (Original r.name) known_x seen))
      ]
  apart_by m x i j ne l k (Insert a) (Covered d) e q = tt
  apart_by m x i j ne l k (Covered c) g e q = tt

  -- base forms of members of which neither knows the other are apart
  pub forms_apart : (m x : Member) → IsIn m (members_in h) → IsIn x (members_in h) → m ≢ x → base_has h m x ≡ false → base_has h x m ≡ false
      → ApartForms (form m) (form x)
  forms_apart m x i j ne l k = apart_by m x i j ne l k (form m) (form x) refl refl
