-- Groups of a history follow the member before them, in the family of its base forms; the form of the last one.
use Rattle.std.proofs.Common.{◌≡◌, ◌≢◌, ℕ, zero, suc, ◌+◌, ◌-◌, ◌<◌, ◌≤◌, Bool, true, false, nat_le, if◌then◌else◌, List, [], ◌∷◌, ◌++◌, inl, inr, length, get_or, take, drop, refl, sym, ap, ap₂, subst, ◌∙◌, arith, length-append}
use Rattle.std.specs.Prelude.{Some, slice_get}
use Rattle.std.proofs.lemmas.Bool.{both_ways}
use Rattle.std.proofs.lemmas.Bool.Decides.{nat_tests}
use Rattle.std.proofs.lemmas.List.{drop_more}
use Rattle.std.proofs.lemmas.Option.{same_Some}
use Rattle.op_name.specs.NameData.{NameData}
use Rattle.op_name.specs.declared.member.Member.{Member}
use Rattle.op_name.specs.declared.member.Member.TheVariants.{Original, Group}
use Rattle.context_diff.specs.Operations.{OpData}
use Rattle.context_diff.specs.Histories.{is_known, members_in}
use Rattle.context_diff.proofs.CallerLemmas.{IsComplete, complete, group_facts, known_in, in_known}
use Rattle.ttf_form.specs.declared.cover.Cover.{Cover}
use Rattle.ttf_form.specs.declared.cover.Mark.{Mark}
use Rattle.ttf_form.specs.declared.cover.Mark.TheVariants.{Own, By}
use Rattle.ttf_form.specs.declared.form.Form.{Form}
use Rattle.ttf_form.specs.declared.form.Form.TheVariants.{Ins as Insert, Cover as Covered}
use Rattle.ttf_form.specs.Families.{IsIn}
use Rattle.ttf_form.specs.Forms.{ApartForms, IsBoundedForm, form_over, place_of, extent_of}
use Rattle.ttf_form.specs.Laws.Forms.{form_tp2, form_apart_sym, form_apart_over, form_extent_over, form_bound_place, form_bound_over}
use Rattle.transform_rec.specs.Sets.{none, plus_all}
use Rattle.transform_rec.specs.Derived.{Derived, Deriving}
use Rattle.transform_rec.specs.Executing.{AreFormsFrom, IsCausalFrom}
use Rattle.transform_rec.specs.Histories.{family_in}
use Rattle.transform_rec.proofs.CallerLemmas.{in_right, lacks_from, all_keeps, all_in, all-append, causal_parts, book_run, history_causal}
use Rattle.undo_group.specs.BaseForms.{original_form, group_form, base_form}
use Rattle.undo_group.specs.Bounds.{IsShortHistory}
use Rattle.undo_group.specs.Following.{following, mark_of, Follows}
use Rattle.undo_group.specs.Laws.Groups.{form_follows, first_follower, next_follower}
use Rattle.undo_group.specs.Laws.Texts.{base_forms_apart, base_forms_bounded, base_forms_total}
use Rattle.form_rows.specs.Laws.{IsFollower}
use Rattle.form_rows.specs.RowSets.{form_after, AfterFits, leader_of}
use Rattle.form_rows.proofs.Followers.{forms_drop, forms_length, undo_form, undo_fits}

-- the generation of a group
abbrev generation_of : Member → ℕ
generation_of (Original n) = 0
generation_of (Group n k) = k

pub follower_in : (h : List OpData) (mark : Mark) (m x : Member) → is_known h x ≡ true → Follows h mark m x
    → IsFollower (family_in h (base_form h)) (following mark) m x
follower_in h mark m x known f = record { listed = known_in h x known; context = f.context; form = f.form }

pub first_in : (h : List OpData) (t : NameData) → is_known h (Original t) ≡ true → is_known h (Group t 1) ≡ true
    → IsFollower (family_in h (base_form h)) (following (mark_of (original_form h t) t 1)) (Original t) (Group t 1)
first_in h t before known = follower_in h (mark_of (original_form h t) t 1) (Original t) (Group t 1) known (first_follower h t before known)

pub next_in : (h : List OpData) (t : NameData) (g : ℕ) → 1 ≤ g → is_known h (Group t g) ≡ true → is_known h (Group t (g + 1)) ≡ true
    → IsFollower (family_in h (base_form h)) (following (mark_of (original_form h t) t (g + 1))) (Group t g) (Group t (g + 1))
next_in h t g least before known =
    follower_in h (mark_of (original_form h t) t (g + 1)) (Group t g) (Group t (g + 1)) known (next_follower h t g least before known)

-- from generation 2 on the leader is the group before
leader_more : (t : NameData) (k : ℕ) → leader_of t (suc (suc k)) ≡ Group t (suc k)
leader_more t k =
    let low : nat_le (suc (suc k)) 1 ≡ false = grind (arith, nat_tests) in
    let one : suc (suc k) - 1 ≡ suc k = omega arith in
    ap (λ (b : Bool). if b then Original t else Group t (suc (suc k) - 1)) low ∙ ap (λ (m : ℕ). Group t m) one

-- a group follows its leader
pub leader_in : (h : List OpData) → IsComplete h → (t : NameData) (g : ℕ) → is_known h (Group t g) ≡ true
    → IsFollower (family_in h (base_form h)) (following (mark_of (original_form h t) t g)) (leader_of t g) (Group t g)
leader_in h w t zero known = let facts = group_facts h w t 0 known in let least = facts.generation in absurd (omega arith)
leader_in h w t (suc zero) known = first_in h t (group_facts h w t 1 known).target known
leader_in h w t (suc (suc k)) known =
    let facts = group_facts h w t (suc (suc k)) known in
    let before = facts.below (suc k) (omega arith) (omega arith) in
    let e : suc (suc k) ≡ suc k + 1 = omega arith in
    let step = next_in h t (suc k) (omega arith) before (subst (λ (m : ℕ). is_known h (Group t m) ≡ true) e known) in
    let here =
    subst (λ (m : ℕ). IsFollower (family_in h (base_form h)) (following (mark_of (original_form h t) t m)) (Group t (suc k))
    (Group t m)) (sym e) step in
    subst (λ (x : Member). IsFollower (family_in h (base_form h)) (following (mark_of (original_form h t) t (suc (suc k)))) x
    (Group t (suc (suc k)))) (sym (leader_more t k)) here

pub leader_known : (h : List OpData) → IsComplete h → (t : NameData) (g : ℕ) → is_known h (Group t g) ≡ true
    → is_known h (leader_of t g) ≡ true
leader_known h w t zero known = (group_facts h w t 0 known).target
leader_known h w t (suc zero) known = (group_facts h w t 1 known).target
leader_known h w t (suc (suc k)) known =
    subst (λ (x : Member). is_known h x ≡ true) (sym (leader_more t k))
    ((group_facts h w t (suc (suc k)) known).below (suc k) (omega arith) (omega arith))

leader_other : (t : NameData) (g : ℕ) → Group t g ≢ leader_of t g
leader_other t zero e = cc
leader_other t (suc zero) e = cc
leader_other t (suc (suc k)) e = let m : suc (suc k) ≡ suc k = ap generation_of (e ∙ leader_more t k) in omega arith

-- the marks of base forms
pub group_mark : (f : Form) (t : NameData) (g : ℕ) (c : Cover) → group_form f t g ≡ Covered c → c.mark ≡ mark_of f t g
group_mark (Insert a) t g c e = let m : Own g ≡ c.mark = cc in sym m
group_mark (Covered d) t g c e = let m : By t g ≡ c.mark = cc in sym m

-- what a history's forms rest on
abbrev pub text_deriving : (h : List OpData) → IsShortHistory h → Deriving Form
text_deriving h s = record {
  inclusion = record { Apart = ApartForms; IsBounded = IsBoundedForm; over = form_over; place = place_of; extent = extent_of };
  laws = record {
    tp2 = form_tp2;
    apart_sym = form_apart_sym;
    apart_over = form_apart_over;
    extent_over = form_extent_over;
    bound_place =
        form_bound_place;
    bound_over = form_bound_over;
  };
  family = family_in h (base_form h);
  known = record {
    causal = history_causal h (base_form h) s.valid;
    apart = λ m x i j ne l k. base_forms_apart h m x s i j ne l k;
    bounded = λ m i. base_forms_bounded h m s i;
  };
}

-- the elements before the last one
pub same_front : {A : Type 0} (xs ys : List A) (x y : A) → xs ++ x ∷ [] ≡ ys ++ y ∷ [] → xs ≡ ys
same_front [] [] x y e = refl
same_front [] (b ∷ []) x y e = cc
same_front [] (b ∷ (c ∷ cs)) x y e = cc
same_front (a ∷ []) [] x y e = cc
same_front (a ∷ (b ∷ bs)) [] x y e = cc
same_front (a ∷ xs) (b ∷ ys) x y e =
    let heads : a ≡ b = cc in
    let tails : xs ++ x ∷ [] ≡ ys ++ y ∷ [] = cc in
    let rest = same_front xs ys x y tails in
    λ i. heads i ∷ rest i

-- an element of a list that isn't its last one
pub record IsFound {A : Type 0} (xs : List A) (i : ℕ) (z : A) : Type 0 where
  pub front : List A
  pub back : List A
  pub whole : xs ≡ front ++ (z ∷ back)
  pub place : length front ≡ i

found_before : {A : Type 0} (xs : List A) (y z : A) (i : ℕ) → slice_get (xs ++ y ∷ []) i ≡ Some z → y ≢ z → IsFound xs i z
found_before [] y z zero e ne = absurd (ne (same_Some y z e))
found_before [] y z (suc i) e ne = cc
found_before (x ∷ xs) y z zero e ne = record { front = []; back = xs; whole = ap (λ a. a ∷ xs) (same_Some x z e); place = refl }
found_before (x ∷ xs) y z (suc i) e ne =
    let r = found_before xs y z i e ne in
    record { front = x ∷ r.front; back = r.back; whole = ap (λ l. x ∷ l) r.whole; place = ap suc r.place }

drop_front : {A : Type 0} (xs ys : List A) → drop (length xs) (xs ++ ys) ≡ ys
drop_front [] ys = refl
drop_front (x ∷ xs) ys = drop_front xs ys

take_front : {A : Type 0} (xs ys : List A) → take (length xs) (xs ++ ys) ≡ xs
take_front [] ys = refl
take_front (x ∷ xs) ys = ap (λ l. x ∷ l) (take_front xs ys)

-- the last member of a history, a group, and the forms in which those before it were executed
module _ (h : List OpData) (s : IsShortHistory h) (t : NameData) (g : ℕ) (before : List Member) (fs : List Form)
    (last : members_in h ≡ before ++ Group t g ∷ []) (ex : AreFormsFrom form_over (family_in h (base_form h)) none before fs) where
  pub last_known : is_known h (Group t g) ≡ true
  last_known = in_known h (Group t g) (subst (λ l. IsIn (Group t g) l) (sym last) (in_right (Group t g) before (Group t g ∷ []) (inl refl)))

  out : plus_all none before (Group t g) ≡ false
  out =
      let d = text_deriving h s in
      let run = subst (λ l. IsCausalFrom d.family none l) last (book_run d.family d.known.causal) in
      (causal_parts d.family before (Group t g ∷ []) none run).1.0.lacks

  -- the leader among them
  pub record IsLed (i : ℕ) : Type 0 where
    pub front : List Member
    pub back : List Member
    pub whole : before ≡ front ++ (leader_of t g ∷ back)
    pub less : i < length fs
    pub forms : (f : Form) → AreFormsFrom form_over (family_in h (base_form h)) (plus_all none front) (leader_of t g ∷ back)
        (get_or fs i f ∷ drop (i + 1) fs)
    pub new : plus_all none front (Group t g) ≡ false
    pub other : (z : Member) → IsIn z back → Group t g ≢ z

  pub led : (i : ℕ) → slice_get (members_in h) i ≡ Some (leader_of t g) → IsLed i
  led i at =
      let d = text_deriving h s in
      let r = found_before before (Group t g) (leader_of t g) i (ap (λ l. slice_get l i) (sym last) ∙ at) (leader_other t g) in
      let size : length fs ≡ length before = forms_length d before none fs ex in
      let long : length before ≡ length r.front + suc (length r.back) =
      ap length r.whole ∙ length-append r.front (leader_of t g ∷ r.back) in
      let place = r.place in
      let less : i < length fs = omega arith in
      let parted : AreFormsFrom form_over d.family (plus_all none (take i before)) (drop i before) (drop i fs) =
      forms_drop d i before none fs ex in
      let taken : take i before ≡ r.front = ap₂ (λ n l. take n l) (sym place) r.whole ∙ take_front r.front (leader_of t g ∷ r.back) in
      let rest : drop i before ≡ leader_of t g ∷ r.back =
      ap₂ (λ n l. drop n l) (sym place) r.whole ∙ drop_front r.front (leader_of t g ∷ r.back) in
      let here =
      subst (λ l. AreFormsFrom form_over d.family (plus_all none r.front) l (drop i fs)) rest
      (subst (λ l. AreFormsFrom form_over d.family (plus_all none l) (drop i before) (drop i fs)) taken parted) in
      let set : plus_all none before ≡ plus_all (plus_all none r.front) (leader_of t g ∷ r.back) =
      ap (λ l. plus_all none l) r.whole ∙ all-append none r.front (leader_of t g ∷ r.back) in
      let gone : plus_all (plus_all none r.front) (leader_of t g ∷ r.back) (Group t g) ≡ false = ap (λ S. S (Group t g)) (sym set) ∙ out in
      record {
        front = r.front;
        back = r.back;
        whole = r.whole;
        less = less;
        forms = λ f. subst (λ l. AreFormsFrom form_over d.family (plus_all none r.front) (leader_of t g ∷ r.back) l) (drop_more fs i f less)
            here;
        new = lacks_from (plus_all none r.front) (plus_all (plus_all none r.front) (leader_of t g ∷ r.back)) (Group t g)
            (all_keeps (leader_of t g ∷ r.back) (plus_all none r.front)) gone;
        other = λ z j e. both_ways (plus_all (plus_all none r.front) (leader_of t g ∷ r.back) (Group t g)) gone
            (subst (λ y. plus_all (plus_all none r.front) (leader_of t g ∷ r.back) y ≡ true) (sym e)
            (all_in (leader_of t g ∷ r.back) (plus_all none r.front) z (inr j)));
      }

  pub group_fits : (i : ℕ) → IsLed i → (f : Form)
      → AfterFits form_over place_of extent_of (following (mark_of (original_form h t) t g) (get_or fs i f)) (drop (i + 1) fs)
  group_fits i l f =
      let d = text_deriving h s in
      let is = leader_in h (complete h s.valid) t g last_known in
      undo_fits d (following (mark_of (original_form h t) t g)) (form_follows (mark_of (original_form h t) t g)) (base_forms_total h s)
      (leader_of t g) (Group t g) is.listed is.context is.form l.front l.back none (get_or fs i f) (drop (i + 1) fs) l.new l.other
      (l.forms f)

  pub group_after : (i : ℕ) → IsLed i → (f : Form)
      → Derived form_over (family_in h (base_form h)) (Group t g) (plus_all none before)
      (form_after form_over (following (mark_of (original_form h t) t g) (get_or fs i f)) (drop (i + 1) fs))
  group_after i l f =
      let d = text_deriving h s in
      let is = leader_in h (complete h s.valid) t g last_known in
      let made =
      undo_form d (following (mark_of (original_form h t) t g)) (form_follows (mark_of (original_form h t) t g)) (leader_of t g)
      (Group t g) is.listed is.context is.form l.front l.back none (get_or fs i f) (drop (i + 1) fs) l.new l.other (l.forms f) in
      subst (λ l. Derived form_over (family_in h (base_form h)) (Group t g) (plus_all none l)
      (form_after form_over (following (mark_of (original_form h t) t g) (get_or fs i f)) (drop (i + 1) fs))) (sym l.whole) made
