-- The laws of inclusion, of all forms.
use Rattle.std.proofs.Common.{◌≢◌, Bool, true, nat_lt, subst, ◌≡◌, ℕ, zero, suc, ◌+◌, ◌≤◌, length, refl, sym, ap, arith}
use Rattle.op_name.specs.NameData.{NameData}
use Rattle.ttf_form.specs.declared.ins.Ins.{Ins}
use Rattle.ttf_form.specs.declared.cover.Cover.{Cover}
use Rattle.ttf_form.specs.declared.form.Form.{Form}
use Rattle.ttf_form.specs.declared.form.Form.TheVariants.{Ins as Insert, Cover as Covered}
use Rattle.ttf_form.specs.Names.{block}
use Rattle.ttf_form.specs.Forms.{ins_extent, place_of, extent_of, IsBoundedForm, ApartForms, IsInertForm, form_over, form_back, added_by}
use Rattle.ttf_form.specs.Laws.Places.{IsMoved, over_moved, cover_place_moved, over_two, cover_two, over_bound, cover_bound, over_back, cover_place_back}

-- a form brought over two others, in either order; no two of them need to be apart
pub form_two : (o a b : Form) → form_over (form_over o a) (form_over b a) ≡ form_over (form_over o b) (form_over a b)
form_two (Insert o) (Insert a) (Insert b) =
    ap (λ k. Insert (record o { place = k })) (over_two o.place o.site a.place a.site (ins_extent a) b.place b.site (ins_extent b))
form_two (Insert o) (Insert a) (Covered d) = refl
form_two (Insert o) (Covered c) (Insert b) = refl
form_two (Insert o) (Covered c) (Covered d) = refl
form_two (Covered o) (Insert a) (Insert b) =
    ap (λ k. Covered (record o { place = k })) (cover_two o.place a.place a.site (ins_extent a) b.place b.site (ins_extent b))
form_two (Covered o) (Insert a) (Covered d) = refl
form_two (Covered o) (Covered c) (Insert b) = refl
form_two (Covered o) (Covered c) (Covered d) = refl

pub form_tp2 : (o a b : Form) → ApartForms o a → ApartForms o b → ApartForms a b
    → form_over (form_over o a) (form_over b a) ≡ form_over (form_over o b) (form_over a b)
form_tp2 o a b oa ob ab = form_two o a b

-- the inclusion of a cover changes nothing
pub form_over_cover : (a : Form) (c : Cover) → form_over a (Covered c) ≡ a
form_over_cover (Insert a) c = refl
form_over_cover (Covered a) c = refl

pub form_inert : (a b : Form) → IsInertForm b → form_over a b ≡ a
form_inert a (Insert b) h = absurd h
form_inert a (Covered b) h = form_over_cover a b

pub form_apart_sym : (a b : Form) → ApartForms a b → ApartForms b a
form_apart_sym (Insert a) (Insert b) h = λ e. h (sym e)
form_apart_sym (Insert a) (Covered b) h = tt
form_apart_sym (Covered a) (Insert b) h = tt
form_apart_sym (Covered a) (Covered b) h = tt

pub form_apart_over : (a b c : Form) → ApartForms a b → ApartForms (form_over a c) b
form_apart_over (Insert a) (Insert b) (Insert c) h = h
form_apart_over (Insert a) (Insert b) (Covered c) h = h
form_apart_over (Insert a) (Covered b) (Insert c) h = tt
form_apart_over (Insert a) (Covered b) (Covered c) h = tt
form_apart_over (Covered a) b (Insert c) h = tt
form_apart_over (Covered a) b (Covered c) h = tt

pub form_inert_over : (a b : Form) → IsInertForm a → IsInertForm (form_over a b)
form_inert_over (Insert a) b h = absurd h
form_inert_over (Covered a) (Insert b) h = tt
form_inert_over (Covered a) (Covered b) h = tt

pub form_extent_over : (a b : Form) → extent_of (form_over a b) ≡ extent_of a
form_extent_over (Insert a) (Insert b) = refl
form_extent_over (Insert a) (Covered b) = refl
form_extent_over (Covered a) (Insert b) = refl
form_extent_over (Covered a) (Covered b) = refl

pub form_bound_place : (a : Form) (n : ℕ) → IsBoundedForm a n → place_of a ≤ n
form_bound_place (Insert a) n h = h
form_bound_place (Covered a) n h = omega arith

pub form_bound_more : (a : Form) (n m : ℕ) → n ≤ m → IsBoundedForm a n → IsBoundedForm a m
form_bound_more (Insert a) n m l h = omega arith
form_bound_more (Covered a) n m l h = omega arith

pub form_bound_over : (a b : Form) (n : ℕ) → IsBoundedForm a n → IsBoundedForm (form_over a b) (n + extent_of b)
form_bound_over (Insert a) (Insert b) n h = over_bound a.place a.site b.place b.site (ins_extent b) n h
form_bound_over (Insert a) (Covered b) n h = omega arith
form_bound_over (Covered a) (Insert b) n h = cover_bound a.place b.place (ins_extent b) n h
form_bound_over (Covered a) (Covered b) n h = omega arith

pub form_added_over : (a b : Form) → added_by (form_over a b) ≡ added_by a
form_added_over (Insert a) (Insert b) = refl
form_added_over (Insert a) (Covered b) = refl
form_added_over (Covered a) (Insert b) = refl
form_added_over (Covered a) (Covered b) = refl

pub length-block : (n : NameData) (first k : ℕ) → length (block n first k) ≡ k
length-block n first zero = refl
length-block n first (suc k) = ap suc (length-block n (suc first) k)

pub form_added_length : (a : Form) → length (added_by a) ≡ extent_of a
form_added_length (Insert a) = length-block a.name 0 (ins_extent a)
form_added_length (Covered c) = refl

-- where the inclusion of an insert moves a form; of two inserts the smaller site is on the left
pub ins_moved : (a b : Ins) → a.site ≢ b.site
    → IsMoved a.place b.place (ins_extent b) (nat_lt b.name.site a.name.site) (place_of (form_over (Insert a) (Insert b)))
ins_moved a b h =
    subst (λ (left : Bool). IsMoved a.place b.place (ins_extent b) left (place_of (form_over (Insert a) (Insert b))))
    (λ i. nat_lt (b.own i) (a.own i))
    (over_moved a.place a.site b.place b.site (ins_extent b) h)

pub cover_moved : (c : Cover) (b : Ins) → IsMoved c.place b.place (ins_extent b) true (place_of (form_over (Covered c) (Insert b)))
cover_moved c b = cover_place_moved c.place b.place (ins_extent b)

-- an inclusion is taken back, whether or not the forms are apart
pub form_taken_back : (a b : Form) → form_back (form_over a b) b ≡ a
form_taken_back (Insert a) (Insert b) = ap (λ k. Insert (record a { place = k })) (over_back a.place a.site b.place b.site (ins_extent b))
form_taken_back (Insert a) (Covered d) = refl
form_taken_back (Covered c) (Insert b) = ap (λ k. Covered (record c { place = k })) (cover_place_back c.place b.place (ins_extent b))
form_taken_back (Covered c) (Covered d) = refl

pub form_back_over : (a b : Form) → ApartForms a b → form_back (form_over a b) b ≡ a
form_back_over a b h = form_taken_back a b

pub form_inert_back : (a b : Form) → IsInertForm (form_over a b) → IsInertForm a
form_inert_back (Insert a) (Insert b) h = absurd h
form_inert_back (Insert a) (Covered b) h = absurd h
form_inert_back (Covered a) b h = tt
