-- Whatever causal order the members of a set are executed in, the state is the same.
use Rattle.std.proofs.Common.{◌≡◌, ◌≢◌, Bool, true, List, [], ◌∷◌, ◌++◌, inl, inr, refl, sym, ap, ap₂, subst, ◌∙◌}
use Rattle.op_name.specs.declared.member.Member.{Member}
use Rattle.transform_rec.specs.Sets.{IsSubset, plus}
use Rattle.ttf_form.specs.Families.{IsIn}
use Rattle.transform_rec.specs.Lists.{SameElements}
use Rattle.transform_rec.specs.Executing.{Setting, deriving_of}
use Rattle.transform_rec.proofs.Lists.{around, in_around, in_without}
use Rattle.transform_rec.proofs.Sets.{plus_keeps, plus_parts, plus_swap}
use Rattle.transform_rec.proofs.Families.{sound_less, sound_plus}
use Rattle.transform_rec.proofs.Forms.{derived_sound, forms_apart}
use Rattle.transform_rec.proofs.Uniqueness.{step_law}
use Rattle.transform_rec.proofs.Executing.{IsForm, Run, Forms, run, At, addable_fits, state_more, run_moves, forms_move, run_forms, forms_once, forms_run, run_out}

module _ {F S : Type 0} (w : Setting F S) where
  -- ---- swap: two members that may each be added may be executed in either order

  pub swap_two : (x y : Member) (C : Member → Bool) (s : S) (fx fy gy gx : F) → At w C s → IsForm w x C fx → IsForm w y (plus C x) fy
      → IsForm w y C gy → IsForm w x (plus C y) gx → w.table.apply (w.table.apply s fx) fy ≡ w.table.apply (w.table.apply s gy) gx
  swap_two x y C s fx fy gy gx st dfx dfy dgy dgx =
      let ne : x ≢ y = (plus_parts C x y (derived_sound (deriving_of w) y (plus C x) fy dfy).lacks).1 in
      let back : y ≢ x = λ (e : y ≡ x). ne (sym e) in
      let fy_is : fy ≡ w.table.inclusion.over gy fx = step_law (deriving_of w) y x C fy gy fx back dgy dfx dfy in
      let gx_is : gx ≡ w.table.inclusion.over fx gy = step_law (deriving_of w) x y C gx fx gy ne dfx dgy dgx in
      let turn =
      w.laws.tp1 s fx gy (forms_apart (deriving_of w) x y C fx gy ne dfx dgy) (addable_fits w C s x fx st dfx)
      (addable_fits w C s y gy st dgy) in
      ap (w.table.apply (w.table.apply s fx)) fy_is ∙ (turn ∙ sym (ap (w.table.apply (w.table.apply s gy)) gx_is))

  pub swap : (x y : Member) (xs : List Member) (C : Member → Bool) (s : S) (fs gs : List F) → At w C s → Forms w C (x ∷ (y ∷ xs)) fs
      → Forms w C (y ∷ (x ∷ xs)) gs → run w s fs ≡ run w s gs
  swap x y xs C s [] gs st df dg = absurd df
  swap x y xs C s (fx ∷ []) gs st df dg = absurd df.1
  swap x y xs C s (fx ∷ (fy ∷ fs)) [] st df dg = absurd dg
  swap x y xs C s (fx ∷ (fy ∷ fs)) (gy ∷ []) st df dg = absurd dg.1
  swap x y xs C s (fx ∷ (fy ∷ fs)) (gy ∷ (gx ∷ gs)) st df dg =
      let two = swap_two x y C s fx fy gy gx st df.0 df.1.0 dg.0 dg.1.0 in
      let rest =
      forms_once w xs (plus (plus C y) x) fs gs (forms_move w (plus (plus C x) y) (plus (plus C y) x) xs fs (plus_swap C x y) df.1.1)
      dg.1.1 in
      ap₂ (run w) two rest

  -- ---- to the front: a member whose base context is in the first set may be executed first

  pub front_run : (before after : List Member) (x : Member) (C : Member → Bool) → Run w C (before ++ (x ∷ after))
      → IsSubset (w.family.context x) C → Run w C (x ∷ (before ++ after))
  front_run [] after x C r h = r
  front_run (a ∷ before) after x C r h =
      let t = front_run before after x (plus C a) r.1 (λ z i. plus_keeps C a z (h z i)) in
      let sx = sound_less w.family x a C t.0 r.0.set h in
      let ne : a ≢ x = (plus_parts C a x t.0.lacks).1 in (
        sx,
        (
          sound_plus w.family a x C r.0 sx ne,
          run_moves w (plus (plus C a) x) (plus (plus C x) a) (before ++ after) (plus_swap C a x) t.1,
        ),
      )

  pub move : (before after : List Member) (x : Member) (C : Member → Bool) (s : S) (fs gs : List F) → At w C s
      → IsSubset (w.family.context x) C → Forms w C (before ++ (x ∷ after)) fs → Forms w C (x ∷ (before ++ after)) gs
      → run w s fs ≡ run w s gs
  move [] after x C s fs gs st h df dg = ap (run w s) (forms_once w (x ∷ after) C fs gs df dg)
  move (a ∷ before) after x C s [] gs st h df dg = absurd df
  move (a ∷ before) after x C s (f ∷ fs) gs st h df dg =
      let wider : IsSubset (w.family.context x) (plus C a) = λ (z : Member) (i : w.family.context x z ≡ true). plus_keeps C a z (h z i) in
      let r = front_run before after x (plus C a) (forms_run w (before ++ (x ∷ after)) (plus C a) fs df.1) wider in
      let hs = run_forms w (x ∷ (before ++ after)) (plus C a) r in
      let one = move before after x (plus C a) (w.table.apply s f) fs hs.0 (state_more w C s a f st df.0) wider df.1 hs.1 in
      let two = swap a x (before ++ after) C s (f ∷ hs.0) gs st (df.0, hs.1) dg in
      one ∙ two

  -- ---- order independence

  same_rest : (x : Member) (xs before after ys : List Member) (C : Member → Bool) → SameElements (x ∷ xs) ys → ys ≡ before ++ (x ∷ after)
      → Run w (plus C x) xs → Run w (plus C x) (before ++ after) → SameElements xs (before ++ after)
  same_rest x xs before after ys C e whole r q = record {
    forth = λ z i. in_around z x before after (plus_parts C x z (run_out w xs (plus C x) z r i)).1
        (subst (λ (l : List Member). IsIn z l) whole (e.forth z (inr i)));
    back = λ z i. elim (e.back z (subst (λ (l : List Member). IsIn z l) (sym whole) (in_without z x before after i)))
        [ inl p ↦ absurd ((plus_parts C x z (run_out w (before ++ after) (plus C x) z q i)).1 (sym p)) | inr j ↦ j ];
  }

  pub any_order : (xs ys : List Member) (C : Member → Bool) (s : S) (fs gs : List F) → At w C s → SameElements xs ys → Forms w C xs fs
      → Forms w C ys gs → run w s fs ≡ run w s gs
  any_order [] [] C s fs gs st e df dg = ap (run w s) (forms_once w [] C fs gs df dg)
  any_order [] (y ∷ ys) C s fs gs st e df dg = absurd (e.back y (inl refl))
  any_order (x ∷ xs) ys C s [] gs st e df dg = absurd df
  any_order (x ∷ xs) ys C s (f ∷ fs) gs st e df dg =
      let a = around x ys (e.forth x (inl refl)) in
      let covers = (derived_sound (deriving_of w) x C f df.0).covers in
      let dg2 : Forms w C (a.before ++ (x ∷ a.after)) gs = subst (λ (l : List Member). Forms w C l gs) a.whole dg in
      let r = front_run a.before a.after x C (forms_run w (a.before ++ (x ∷ a.after)) C gs dg2) covers in
      let hs = run_forms w (a.before ++ a.after) (plus C x) r.1 in
      let front = move a.before a.after x C s gs (f ∷ hs.0) st covers dg2 (df.0, hs.1) in
      let rest =
      any_order xs (a.before ++ a.after) (plus C x) (w.table.apply s f) fs hs.0 (state_more w C s x f st df.0)
      (same_rest x xs a.before a.after ys C e a.whole (forms_run w xs (plus C x) fs df.1) r.1) df.1 hs.1 in
      rest ∙ sym front
