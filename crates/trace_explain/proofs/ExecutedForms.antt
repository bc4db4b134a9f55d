-- The rows of right lines have derived forms, and a trace ends in the form that was executed.
use Rattle.std.proofs.Common.{◌≡◌, ℕ, zero, suc, ◌-◌, Bool, true, false, List, [], ◌∷◌, ◌++◌, ◌⊎◌, take, inl, inr, refl, sym, ap, subst, ◌∙◌}
use Rattle.std.specs.Prelude.{Some, slice_get}
use Rattle.std.proofs.lemmas.Bool.{or_parts}
use Rattle.op_name.specs.declared.member.Member.{Member}
use Rattle.op_name.specs.Members.{member_eq}
use Rattle.op_name.proofs.CallerLemmas.{member_itself}
use Rattle.context_vector.specs.Contexts.{ContextData, has, raised}
use Rattle.context_vector.proofs.CallerLemmas.{has_raised}
use Rattle.context_diff.specs.Operations.{OpData, member_of}
use Rattle.context_diff.specs.Histories.{is_known, members_in, IsValid}
use Rattle.context_diff.specs.Bases.{base_context_of}
use Rattle.context_diff.proofs.CallerLemmas.{in_known}
use Rattle.form_cache.specs.Keys.{KeyData}
use Rattle.ttf_form.specs.declared.form.Form.{Form}
use Rattle.ttf_form.specs.Forms.{form_over}
use Rattle.ttf_form.specs.Families.{IsIn}
use Rattle.transform_rec.specs.Sets.{none, plus, plus_all}
use Rattle.transform_rec.specs.Family.{Family}
use Rattle.transform_rec.specs.Derived.{Derived}
use Rattle.transform_rec.specs.Executing.{AreFormsFrom}
use Rattle.transform_rec.specs.Histories.{family_in, MayBeAddedTo}
use Rattle.transform_rec.proofs.CallerLemmas.{added_next, derived_once, derived_sound, form_moves}
use Rattle.undo_group.specs.BaseForms.{base_form}
use Rattle.undo_group.specs.Bounds.{IsShortHistory}
use Rattle.trace_explain.specs.declared.line.TraceLine.{TraceLine}
use Rattle.trace_explain.specs.declared.line.TraceLine.TheVariants.{Base, Step}
use Rattle.trace_explain.specs.declared.row.Row.{Row}
use Rattle.trace_explain.specs.Traces.{AreLines, IsInclusionOf, IsLine, IsRowOf, IsTrace, before, context_before, pair}
use Rattle.trace_explain.specs.Laws.{EndsIn, form_of_line}
use Rattle.trace_explain.specs.Code.Tasks.{IsFormAt}
use Rattle.trace_explain.specs.Code.Checked.{AreDerivedRows}
use Rattle.trace_explain.proofs.Turned.{same_Some}
use Rattle.trace_explain.proofs.OneTrace.{last_once}
use Rattle.trace_explain.proofs.DerivedForms.{base_derived, form_added, step_derived, text_deriving}
use Rattle.trace_explain.proofs.Executed.{all_known, before_here, before_later, before_set}

pub get_in : {A : Type 0} (xs : List A) (i : ℕ) (x : A) → slice_get xs i ≡ Some x → IsIn x xs
get_in [] i x e = cc
get_in (y ∷ xs) zero x e = inl (sym (same_Some y x e))
get_in (y ∷ xs) (suc i) x e = inr (get_in xs i x e)

pub in_end : {A : Type 0} (xs : List A) (x : A) → IsIn x (xs ++ x ∷ [])
in_end [] x = inl refl
in_end (y ∷ xs) x = inr (in_end xs x)

-- ---- derived rows

pub derived_none : (h : List OpData) → AreDerivedRows h []
derived_none h r i = absurd i

pub derived_end : (h : List OpData) (rows : List Row) (r : Row) → AreDerivedRows h rows → IsFormAt h r.at r.form
    → AreDerivedRows h (rows ++ r ∷ [])
derived_end h [] r d f z (inl e) = subst (λ (x : Row). IsFormAt h x.at x.form) (sym e) f
derived_end h [] r d f z (inr i) = absurd i
derived_end h (x ∷ xs) r d f z (inl e) = d z (inl e)
derived_end h (x ∷ xs) r d f z (inr i) = derived_end h xs r (λ y j. d y (inr j)) f z i

pub row_derived : (h : List OpData) (rows : List Row) (n : ℕ) (r : Row) → AreDerivedRows h rows → IsRowOf rows n r → IsFormAt h r.at r.form
row_derived h rows n r d i = d r (get_in rows (n - 1) r i.1)

-- the second row's form at the context of the first one
pub over_derived : (h : List OpData) (a b : Row) → b.at.context ≡ a.at.context → IsFormAt h b.at b.form
    → IsFormAt h (pair b.at.member a.at.context) b.form
over_derived h a b e d = subst (λ (c : ContextData). IsFormAt h (pair b.at.member c) b.form) e d

pub left_derived : (h : List OpData) (a : Row) (m : Member) → a.at.member ≡ m → IsFormAt h a.at a.form
    → IsFormAt h (pair m a.at.context) a.form
left_derived h a m e d = subst (λ (y : Member). IsFormAt h (pair y a.at.context) a.form) e d

-- the second row's member may be added to the context
pub over_added : (h : List OpData) → IsShortHistory h → (a b : Row) → b.at.context ≡ a.at.context → IsFormAt h b.at b.form
    → MayBeAddedTo h a.at.context b.at.member
over_added h s a b e d = form_added h s (pair b.at.member a.at.context) b.form (over_derived h a b e d)

pub step_row_derived : (h : List OpData) → IsShortHistory h → (a b : Row) (m : Member) (f : Form) → IsFormAt h a.at a.form
    → IsFormAt h b.at b.form → IsInclusionOf a b m f → IsFormAt h (pair m (raised a.at.context b.at.member)) f
step_row_derived h s a b m f da db i =
    let next = added_next h s.valid a.at.context b.at.member (over_added h s a b i.equal db) in
    let g = step_derived h s m b.at.member a.at.context (has (raised a.at.context b.at.member)) a.form b.form (λ e. i.other (sym e))
    (λ y. has_raised a.at.context b.at.member next y) (left_derived h a m i.member da) (over_derived h a b i.equal db) in
    subst (λ (k : Form). IsFormAt h (pair m (raised a.at.context b.at.member)) k) (sym i.form) g

pub base_row_derived : (h : List OpData) → IsValid h → (m : Member) (f : Form) → is_known h m ≡ true → f ≡ base_form h m
    → IsFormAt h (pair m (base_context_of h m)) f
base_row_derived h v m f known e =
    subst (λ (g : Form). IsFormAt h (pair m (base_context_of h m)) g) (sym e) (base_derived h v (pair m (base_context_of h m)) known refl)

pub line_derived : (h : List OpData) → IsShortHistory h → (rows : List Row) (l : TraceLine) (r : Row) → AreDerivedRows h rows
    → IsLine h rows l r → IsFormAt h r.at r.form
line_derived h s rows (Base m f) r d i = subst (λ (x : Row). IsFormAt h x.at x.form) (sym i.2) (base_row_derived h s.valid m f i.0 i.1)
line_derived h s rows (Step left over m f) r d i =
    subst (λ (x : Row). IsFormAt h x.at x.form) (sym i.5)
    (step_row_derived h s i.0 i.1 m f (row_derived h rows left i.0 d i.2) (row_derived h rows over i.1 d i.3) i.4)

rows_derived : (h : List OpData) → IsShortHistory h → (start : List Row) (ls : List TraceLine) (rows : List Row) → AreDerivedRows h start
    → AreLines h start ls rows → AreDerivedRows h rows
rows_derived h s start [] rows d e = subst (λ (x : List Row). AreDerivedRows h x) (sym e) d
rows_derived h s start (l ∷ ls) rows d a =
    rows_derived h s (start ++ a.0 ∷ []) ls rows (derived_end h start a.0 d (line_derived h s start l a.0 d a.1)) a.2

-- ---- the last line

pub record IsEnding (lines : List TraceLine) (rows : List Row) : Type 0 where
  pub earlier : List TraceLine
  pub last : TraceLine
  pub front : List Row
  pub row : Row
  pub whole : lines ≡ earlier ++ last ∷ []
  pub rows_are : rows ≡ front ++ row ∷ []
  pub form : form_of_line last ≡ row.form

line_form : (h : List OpData) (rows : List Row) (l : TraceLine) (r : Row) → IsLine h rows l r → form_of_line l ≡ r.form
line_form h rows (Base m f) r i = ap (λ (x : Row). x.form) (sym i.2)
line_form h rows (Step left over m f) r i = ap (λ (x : Row). x.form) (sym i.5)

ending : (h : List OpData) (start : List Row) (l : TraceLine) (ls : List TraceLine) (rows : List Row) (r : Row) → IsLine h start l r
    → ((ls ≡ []) × (rows ≡ start ++ r ∷ [])) ⊎ IsEnding ls rows → IsEnding (l ∷ ls) rows
ending h start l ls rows r i (inl e) =
    record {
      earlier = [];
      last = l;
      front = start;
      row = r;
      whole = ap (λ (x : List TraceLine). l ∷ x) e.0;
      rows_are = e.1;
      form =
          line_form h start l r i;
    }
ending h start l ls rows r i (inr e) =
    record {
      earlier = l ∷ e.earlier;
      last = e.last;
      front = e.front;
      row = e.row;
      whole =
          ap (λ (x : List TraceLine). l ∷ x) e.whole;
      rows_are = e.rows_are;
      form = e.form;
    }

ends : (h : List OpData) (start : List Row) (ls : List TraceLine) (rows : List Row) → AreLines h start ls rows
    → ((ls ≡ []) × (rows ≡ start)) ⊎ IsEnding ls rows
ends h start [] rows e = inl (refl, e)
ends h start (l ∷ ls) rows a = inr (ending h start l ls rows a.0 a.1 (ends h (start ++ a.0 ∷ []) ls rows a.2))

not_empty : (xs : List Row) (x : Row) → xs ++ x ∷ [] ≡ [] → ⊥
not_empty [] x e = cc
not_empty (y ∷ ys) x e = cc

-- ---- executed forms

forms_at : {F : Type 0} (over : F → F → F) (b : Family F) (C : Member → Bool) (xs : List Member) (fs : List F) (i : ℕ) (m : Member) (f : F)
    → AreFormsFrom over b C xs fs → slice_get xs i ≡ Some m → slice_get fs i ≡ Some f → Derived over b m (plus_all C (take i xs)) f
forms_at over b C [] [] i m f r e k = cc
forms_at over b C [] (g ∷ gs) i m f r e k = absurd r
forms_at over b C (x ∷ xs) [] i m f r e k = absurd r
forms_at {F} over b C (x ∷ xs) (g ∷ gs) zero m f r e k =
    subst (λ (y : Member). Derived over b y C f) (same_Some x m e) (subst (λ (h : F). Derived over b x C h) (same_Some g f k) r.0)
forms_at over b C (x ∷ xs) (g ∷ gs) (suc i) m f r e k = forms_at over b (plus C x) xs gs i m f r.1 e k

before_is : (h : List OpData) (m : Member) (i : ℕ) → slice_get (members_in h) i ≡ Some m → is_known (take i h) m ≡ false
    → before h m ≡ take i h
before_is [] m i e n = cc
before_is (o ∷ os) m zero e n = before_here o os m (ap (λ (y : Member). member_eq y m) (same_Some (member_of o) m e) ∙ member_itself m)
before_is (o ∷ os) m (suc i) e n =
    let p = or_parts (member_eq (member_of o) m) (is_known (take i os) m) n in
    before_later o os m p.0 ∙ ap (λ (l : List OpData). o ∷ l) (before_is os m i e p.1)

members_take : (h : List OpData) (i : ℕ) → take i (members_in h) ≡ members_in (take i h)
members_take [] zero = refl
members_take [] (suc i) = refl
members_take (o ∷ os) zero = refl
members_take (o ∷ os) (suc i) = ap (λ (l : List Member). member_of o ∷ l) (members_take os i)

pub ends_executed : (h : List OpData) (fs : List Form) (m : Member) (i : ℕ) (f : Form) (lines : List TraceLine) → IsShortHistory h
    → AreFormsFrom form_over (family_in h (base_form h)) none (members_in h) fs → slice_get (members_in h) i ≡ Some m
    → slice_get fs i ≡ Some f → IsTrace h m lines → EndsIn lines f
ends_executed h fs m i f lines s forms at got t =
    let known : is_known h m ≡ true = in_known h m (get_in (members_in h) i m at) in
    let there : Derived form_over (family_in h (base_form h)) m (plus_all none (members_in (take i h))) f =
    subst (λ (l : List Member). Derived form_over (family_in h (base_form h)) m (plus_all none l) f) (members_take h i)
    (forms_at form_over (family_in h (base_form h)) none (members_in h) fs i m f forms at got) in
    let lacks = (derived_sound (text_deriving h s) m (plus_all none (members_in (take i h))) f there).lacks in
    let front : before h m ≡ take i h = before_is h m i at (sym (all_known (take i h) none m) ∙ lacks) in
    let executed : Derived form_over (family_in h (base_form h)) m (plus_all none (members_in (before h m))) f =
    subst (λ (l : List OpData). Derived form_over (family_in h (base_form h)) m (plus_all none (members_in l)) f) (sym front) there in
    let here =
    form_moves (text_deriving h s) m (plus_all none (members_in (before h m))) (has (context_before h m)) f
    (before_set h s.valid m known) executed in
    let last = rows_derived h s [] lines (t.earlier ++ t.last ∷ []) (derived_none h) t.right t.last (in_end t.earlier t.last) in
    let mine : IsFormAt h (pair m (context_before h m)) t.last.form = subst (λ (k : KeyData). IsFormAt h k t.last.form) t.executed last in
    let same = derived_once (text_deriving h s) m (has (context_before h m)) t.last.form f mine here in
    elim (ends h [] lines (t.earlier ++ t.last ∷ []) t.right) [
      | inl none ↦ absurd (not_empty t.earlier t.last none.1)
      | inr e ↦
          let row : e.row ≡ t.last = last_once e.front t.earlier e.row t.last (sym e.rows_are) in
          record { earlier = e.earlier; last = e.last; whole = e.whole; form = e.form ∙ (ap (λ (x : Row). x.form) row ∙ same) }
    ]
