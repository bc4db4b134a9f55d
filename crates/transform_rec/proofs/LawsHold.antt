-- The laws of executing, as they are stated, over one setting.
use Rattle.std.proofs.Common.{◌≢◌, Bool, List, ◌∷◌, ◌++◌}
use Rattle.op_name.specs.declared.member.Member.{Member}
use Rattle.transform_rec.specs.Sets.{plus, plus_all}
use Rattle.transform_rec.specs.Family.{Family, IsSound}
use Rattle.transform_rec.specs.Derived.{Inclusion, IsInclusion, IsFamily, Deriving}
use Rattle.transform_rec.specs.Executing.{Table, IsTable, AddsAtPlace, HasOwnNames, Setting}
use Rattle.transform_rec.specs.Laws.{OneForm, CausalListsHaveForms, AddableFormFits, Swap, ToTheFront, OrderIndependence, Restriction, OneMoreMember}
use Rattle.transform_rec.proofs.Lists.{in_swap}
use Rattle.transform_rec.proofs.Sets.{plus_parts, plus_swap}
use Rattle.transform_rec.proofs.Families.{sound_plus}
use Rattle.transform_rec.proofs.Forms.{exists, list_forms}
use Rattle.transform_rec.proofs.Uniqueness.{only_form}
use Rattle.transform_rec.proofs.Executing.{Run, addable_fits, state_more, forms_run, run_moves, run_parts, run-append}
use Rattle.transform_rec.proofs.Order.{move, front_run, any_order}
use Rattle.transform_rec.proofs.Parts.{part_run, restricted, one_more_from}
use Rattle.transform_rec.proofs.CausalOrders.{book_run}

abbrev pub deriving_by : {F : Type 0} {i : Inclusion F} {b : Family F} → IsInclusion i → IsFamily i b → Deriving F
deriving_by {i = i} {b = b} l k = record { inclusion = i; laws = l; family = b; known = k }

pub one_form : {F : Type 0} (d : Deriving F) → OneForm d.inclusion d.family
one_form d m C s = let f = exists d m C s in (f.0, only_form d m C f.0 f.1)

pub lists_have_forms : {F : Type 0} (d : Deriving F) → CausalListsHaveForms d.inclusion d.family
lists_have_forms d = (book_run d.family d.known.causal, λ xs C r. list_forms d xs C r)

abbrev pub setting_by : {F S : Type 0} {t : Table F S} {b : Family F} → IsTable t → IsFamily t.inclusion b → HasOwnNames t b → Setting F S
setting_by {t = t} {b = b} l k o = record { table = t; laws = l; family = b; known = k; own_names = o }

module _ {F S : Type 0} (w : Setting F S) where
  pub addable_form_fits : AddableFormFits w.table w.family
  addable_form_fits C s x f st df = (addable_fits w C s x f st df, state_more w C s x f st df)

  -- two members that may each be added may be added in either order
  two_run : (x y : Member) (after : List Member) (C : Member → Bool) → Run w C (x ∷ (y ∷ after)) → IsSound w.family y C
      → Run w C (y ∷ (x ∷ after))
  two_run x y after C r sy =
      let ne : x ≢ y = (plus_parts C x y r.1.0.lacks).1 in
      (sy, (sound_plus w.family x y C r.0 sy ne, run_moves w (plus (plus C x) y) (plus (plus C y) x) after (plus_swap C x y) r.1.1))

  pub swap_neighbours : Swap w.table w.family
  swap_neighbours C s before x y after fs st df sy =
      let r = run_parts w before (x ∷ (y ∷ after)) C (forms_run w (before ++ (x ∷ (y ∷ after))) C fs df) in (
        run-append w before (y ∷ (x ∷ after)) C r.0 (two_run x y after (plus_all C before) r.1 sy),
        λ gs dg. any_order w (before ++ (x ∷ (y ∷ after))) (before ++ (y ∷ (x ∷ after))) C s fs gs st
            (record { forth = λ z i. in_swap z x y before after i; back = λ z i. in_swap z y x before after i }) df dg,
      )

  pub to_the_front : ToTheFront w.table w.family
  to_the_front C s before x after fs st df h =
      (front_run w before after x C (forms_run w (before ++ (x ∷ after)) C fs df) h, λ gs dg. move w before after x C s fs gs st h df dg)

  pub order_independent : OrderIndependence w.table w.family
  order_independent C s xs ys fs gs st e df dg = any_order w xs ys C s fs gs st e df dg

  pub restriction : Restriction w.table w.family
  restriction C D s xs fs st df h closed =
      (part_run w D closed xs C h (forms_run w xs C fs df), λ gs dg. restricted w D xs C s fs gs st h df dg)

  pub one_more_member : AddsAtPlace w.table → OneMoreMember w.table w.family
  one_more_member at_place C D s xs fs x f st df h g i dk = one_more_from w at_place D x f xs C s fs st df h g i dk
