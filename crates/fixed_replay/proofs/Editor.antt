-- The forms of the editor as a table, and what the members of a family insert.
use Rattle.std.proofs.Common.{◌≡◌, ℕ, zero, suc, ◌≤◌, Bool, true, false, List, [], ◌∷◌, ◌++◌, filter, not, inl, inr, refl, ap, sym, ◌∙◌, subst, append_assoc, arith}
use Rattle.std.proofs.lemmas.Bool.{cases_Bool}
use Rattle.op_name.specs.NameData.{NameData}
use Rattle.op_name.specs.declared.member.Member.{Member}
use Rattle.op_name.specs.declared.member.Member.TheVariants.{Original}
use Rattle.op_name.specs.Members.{target_of}
use Rattle.context_diff.specs.Replays.{Insertion}
use Rattle.ttf_form.specs.declared.ins.Ins.{Ins}
use Rattle.ttf_form.specs.declared.cover.Cover.{Cover}
use Rattle.ttf_form.specs.declared.form.Form.{Form}
use Rattle.ttf_form.specs.declared.form.Form.TheVariants.{Ins as Insert, Cover as Covered}
use Rattle.ttf_form.specs.Names.{block}
use Rattle.ttf_form.specs.Forms.{ins_extent, place_of, extent_of, IsBoundedForm, ApartForms, form_over, added_by}
use Rattle.ttf_form.specs.Cells.{CellData, bare_cells, cells_of, FitsCells, applied}
use Rattle.ttf_form.specs.Laws.Forms.{form_tp2, form_apart_sym, form_apart_over, form_extent_over, form_bound_place, form_bound_over, form_added_length, form_added_over}
use Rattle.ttf_form.specs.Laws.Cells.{form_tp1, form_kept, kept_at}
use Rattle.transform_rec.specs.Lists.{IsIn}
use Rattle.transform_rec.specs.Family.{Family}
use Rattle.transform_rec.specs.Derived.{Derived, Inclusion, IsInclusion, IsFamily}
use Rattle.transform_rec.specs.Derived.Derived.{at_base, by_step}
use Rattle.transform_rec.specs.Executing.{Table, IsTable, AddsAtPlace, HasOwnNames, Setting, LacksName}
use Rattle.op_name.proofs.CallerLemmas.{member_cases}
use Rattle.fixed_replay.specs.Insertions.{inserted_by, insertions_of}

abbrev pub form_inclusion : Inclusion Form
form_inclusion = record { Apart = ApartForms; IsBounded = IsBoundedForm; over = form_over; place = place_of; extent = extent_of }

abbrev pub form_table : Table Form (List CellData)
form_table = record { inclusion = form_inclusion; Fits = FitsCells; added = added_by; cells = cells_of; apply = applied }

pub form_is_inclusion : IsInclusion form_inclusion
form_is_inclusion =
    record {
      tp2 = form_tp2;
      apart_sym = form_apart_sym;
      apart_over = form_apart_over;
      extent_over = form_extent_over;
      bound_place =
          form_bound_place;
      bound_over = form_bound_over;
    }

pub form_is_table : IsTable form_table
form_is_table = record {
  inclusion = form_is_inclusion;
  fits = λ s a b n. (b, n);
  tp1 = form_tp1;
  kept = λ s a h. (form_kept a).1 s h;
  added_length = form_added_length;
  added_over = form_added_over;
}

-- each form of the editor puts its cells at its place
pub form_at_place : AddsAtPlace form_table
form_at_place s a h = kept_at s a

-- what the editor's theory rests on, for one family
abbrev pub setting_of : (b : Family Form) → IsFamily form_inclusion b → HasOwnNames form_table b → Setting Form (List CellData)
setting_of b known own_names = record { table = form_table; laws = form_is_table; family = b; known = known; own_names = own_names }

-- an insert whose name and length, and so whose cells, are those of another
pub record IsInsertOf (a : Ins) (f : Form) : Type 0 where
  pub ins : Ins
  pub is : f ≡ Insert ins
  pub name : ins.name ≡ a.name
  pub len : ins_extent ins ≡ ins_extent a
  pub bare : bare_cells ins ≡ bare_cells a

-- a cover with the mark of another
pub record IsCoverOf (c : Cover) (f : Form) : Type 0 where
  pub cover : Cover
  pub is : f ≡ Covered cover
  pub mark : cover.mark ≡ c.mark

insert_over : (a : Ins) (f k : Form) → IsInsertOf a f → IsInsertOf a (form_over f k)
insert_over a (Insert c) (Insert d) i =
    let e : c ≡ i.ins = ins_once c i.ins i.is in
    record {
      ins = _;
      is = refl;
      name = ap (λ (x : Ins). x.name) e ∙ i.name;
      len = ap ins_extent e ∙ i.len;
      bare =
          ap bare_cells e ∙ i.bare;
    }
  where
    ins_once : (x y : Ins) → Insert x ≡ Insert y → x ≡ y
    ins_once x y e = cc
insert_over a (Insert c) (Covered d) i = i
insert_over a (Covered c) k i = absurd (let e = i.is in (cc))

cover_over : (c : Cover) (f k : Form) → IsCoverOf c f → IsCoverOf c (form_over f k)
cover_over c (Insert d) k i = absurd (let e = i.is in (cc))
cover_over c (Covered d) (Insert a) i =
    record { cover = _; is = refl; mark = let e : d ≡ i.cover = cover_once d i.cover i.is in ap (λ (x : Cover). x.mark) e ∙ i.mark }
  where
    cover_once : (x y : Cover) → Covered x ≡ Covered y → x ≡ y
    cover_once x y e = cc
cover_over c (Covered d) (Covered a) i = i

-- the forms of a member are of the kind of its base form
pub derived_insert : (b : Family Form) (a : Ins) (m : Member) (C : Member → Bool) (f : Form) → b.form m ≡ Insert a
    → Derived form_over b m C f → IsInsertOf a f
derived_insert b a m C f base (at_base i s e) = record { ins = a; is = e ∙ base; name = refl; len = refl; bare = refl }
derived_insert b a m C f base (by_step D x g k i ne l s dg dk e) =
    subst (λ (h : Form). IsInsertOf a h) (sym e) (insert_over a g k (derived_insert b a m D g base dg))

pub derived_cover : (b : Family Form) (c : Cover) (m : Member) (C : Member → Bool) (f : Form) → b.form m ≡ Covered c
    → Derived form_over b m C f → IsCoverOf c f
derived_cover b c m C f base (at_base i s e) = record { cover = c; is = e ∙ base; mark = refl }
derived_cover b c m C f base (by_step D x g k i ne l s dg dk e) =
    subst (λ (h : Form). IsCoverOf c h) (sym e) (cover_over c g k (derived_cover b c m D g base dg))

-- the cells of an insert have its name
block_named : (n : NameData) (first k : ℕ) → 1 ≤ k → LacksName (block n first k) n → ⊥
block_named n first zero some lacks = omega (arith, some)
block_named n first (suc k) some lacks = lacks.0 refl

-- an insert is of the member of its name
pub insert_owner : (b : Family Form) → HasOwnNames form_table b → (x : Member) (a : Ins) → IsIn x b.members → b.form x ≡ Insert a
    → x ≡ Original a.name
insert_owner b own_names x a i base = elim (member_cases x (Original a.name)) [
  | inl e ↦ e
  | inr ne ↦ absurd (block_named a.name 0 (ins_extent a) a.some
      (subst (λ (f : Form). LacksName (added_by f) a.name) base (own_names x a.name i ne)))
]

pub insertions-append : (b : Family Form) (rank : NameData → ℕ) (xs ys : List Member)
    → insertions_of b rank (xs ++ ys) ≡ insertions_of b rank xs ++ insertions_of b rank ys
insertions-append b rank [] ys = refl
insertions-append b rank (x ∷ xs) ys =
    let here = inserted_by (b.form x) (rank (target_of x)) (λ n. b.context x (Original n)) in
    ap (λ (os : List Insertion). here ++ os) (insertions-append b rank xs ys)
    ∙ sym (append_assoc here (insertions_of b rank xs) (insertions_of b rank ys))

-- the insertions that a set lacks are those of the members that it lacks
lacked_first : (b : Family Form) (rank : NameData → ℕ) (D : Member → Bool) (x : Member) (xs : List Member) (f : Form) → b.form x ≡ f
    → ((a : Ins) → f ≡ Insert a → D x ≡ D (Original a.name))
    → filter (λ y. not (D (Original y.name))) (insertions_of b rank xs) ≡ insertions_of b rank (filter (λ z. not (D z)) xs)
    → filter (λ y. not (D (Original y.name)))
    (inserted_by f (rank (target_of x)) (λ n. b.context x (Original n)) ++ insertions_of b rank xs)
    ≡ insertions_of b rank (filter (λ z. not (D z)) (x ∷ xs))
lacked_first b rank D x xs (Insert a) e h ih = elim (cases_Bool (D x)) [
  | inl k ↦ let l : D (Original a.name) ≡ true = sym (h a refl) ∙ k in rw (l, k) ih
  | inr k ↦ let l : D (Original a.name) ≡ false = sym (h a refl) ∙ k in rw (l, k, e, ih) refl
]
lacked_first b rank D x xs (Covered c) e h ih = elim (cases_Bool (D x)) [ inl k ↦ rw k ih | inr k ↦ rw (k, e) ih ]

pub insertions_lacked : (b : Family Form) (rank : NameData → ℕ) → HasOwnNames form_table b → (D : Member → Bool) (xs : List Member)
    → ((z : Member) → IsIn z xs → IsIn z b.members)
    → filter (λ y. not (D (Original y.name))) (insertions_of b rank xs) ≡ insertions_of b rank (filter (λ z. not (D z)) xs)
insertions_lacked b rank own D [] l = refl
insertions_lacked b rank own D (x ∷ xs) l =
    lacked_first b rank D x xs (b.form x) refl (λ a e. ap D (insert_owner b own x a (l x (inl refl)) e))
    (insertions_lacked b rank own D xs (λ z i. l z (inr i)))
