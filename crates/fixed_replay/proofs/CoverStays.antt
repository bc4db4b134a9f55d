-- A cover stays on its cell: in each state it is applied to the same one.
use Rattle.std.proofs.Common.{◌≡◌, ◌≢◌, ℕ, Bool, true, false, not, List, [], ◌∷◌, filter, inl, inr, refl, sym, subst, subst₂, arith}
use Rattle.std.proofs.lemmas.Bool.{both_ways, cases_Bool}
use Rattle.op_name.specs.declared.member.Member.{Member}
use Rattle.op_name.specs.declared.member.Member.TheVariants.{Original}
use Rattle.context_diff.specs.Replays.{Cell}
use Rattle.ttf_form.specs.declared.cover.Cover.{Cover}
use Rattle.ttf_form.specs.declared.cover.Mark.{Mark}
use Rattle.ttf_form.specs.declared.form.Form.{Form}
use Rattle.ttf_form.specs.declared.form.Form.TheVariants.{Ins as Insert, Cover as Covered}
use Rattle.ttf_form.specs.Laws.Places.{IsMoved}
use Rattle.ttf_form.specs.Forms.{place_of, extent_of, form_over}
use Rattle.ttf_form.specs.Cells.{CellData, cells_of}
use Rattle.ttf_form.specs.Laws.Forms.{cover_moved}
use Rattle.transform_rec.specs.Sets.{none, SameSet, plus, plus_all}
use Rattle.transform_rec.specs.Lists.{IsIn}
use Rattle.transform_rec.proofs.CallerLemmas.{count, in_filter, filter_in, same_set, same_from, plus_cases, plus_keeps, all_in, all_cases, all_keeps, base_sound, derived_sound, form_step, exists, derived_once, IsForm, Run, Forms, run, At, forms_run, rest_run, part_run, before_cell}
use Rattle.op_name.proofs.CallerLemmas.{member_apart}
use Rattle.transform_rec.specs.Family.{Family, IsSound}
use Rattle.transform_rec.specs.Derived.{IsFamily}
use Rattle.transform_rec.specs.Derived.Derived.{at_base}
use Rattle.transform_rec.specs.Executing.{Setting, deriving_of, HasOwnNames, keep, own}
use Rattle.fixed_replay.proofs.Elements.{not_both}
use Rattle.fixed_replay.proofs.Splits.{IsSplit, split_moves}
use Rattle.fixed_replay.proofs.Editor.{form_inclusion, form_table, form_at_place, setting_of}

-- a cover with this mark at this place
pub record IsCoverAt (mark : Mark) (n : ℕ) (f : Form) : Type 0 where
  pub cover : Cover
  pub is : f ≡ Covered cover
  pub mark_is : cover.mark ≡ mark
  pub place_is : cover.place ≡ n

-- with the mark, wherever it moves
cover_kept : (mark : Mark) (d : Cover) (k : Form) → d.mark ≡ mark
    → IsCoverAt mark (place_of (form_over (Covered d) k)) (form_over (Covered d) k)
cover_kept mark d (Insert a) h = record { cover = _; is = refl; mark_is = h; place_is = refl }
cover_kept mark d (Covered e) h = record { cover = _; is = refl; mark_is = h; place_is = refl }

-- where an included form moves a cover
cover_moves : (d : Cover) (k : Form) → IsMoved d.place (place_of k) (extent_of k) true (place_of (form_over (Covered d) k))
cover_moves d (Insert a) = cover_moved d a
cover_moves d (Covered e) = record { less = λ h. omega arith; more = λ h. refl; tie_left = λ h t. omega arith; tie_right = λ h t. refl }

module _ (b : Family Form) (known : IsFamily form_inclusion b) (own_names : HasOwnNames form_table b) where
  abbrev w : Setting Form (List CellData)
  w = setting_of b known own_names

  module _ (L : List Member) (s : List CellData) (fs : List Form) (st : At w none s) (df : Forms w none L fs) where
    abbrev S : List Cell
    S = cells_of (run w s fs)

    -- a member whose base form is a cover of the cell c, split off by its base context
    module _ (m : Member) (mark : Mark) (n : ℕ) (base : IsCoverAt mark n (b.form m)) (before : List Cell) (c : Cell) (behind : List Cell)
        (at : IsSplit (keep (b.context m)) n S before c behind) where
      -- at the set C the form of m is a cover of c
      record Covers (C : Member → Bool) (f : Form) : Type 0 where
        within : (z : Member) → C z ≡ true → IsIn z L
        form : IsForm w m C f
        here : keep C c ≡ true
        place : IsCoverAt mark (count (keep C) before) f

      disjoint : (C : Member → Bool) (x : Member) (k : Form) → IsForm w x C k → (e : Cell) → keep C e ≡ true → own x e ≡ false
      disjoint C x k dk e h =
          member_apart x (Original e.0) (λ (p : x ≡ Original e.0).
          both_ways (C x) (derived_sound (deriving_of w) x C k dk).lacks (subst (λ (y : Member). C y ≡ true) (sym p) h))

      moved_count : (C : Member → Bool) (x : Member) (d : Cover) (k : Form) → IsForm w x C k → ((z : Member) → C z ≡ true → IsIn z L)
          → keep C c ≡ true → d.place ≡ count (keep C) before → IsIn x L
          → count (keep (plus C x)) before ≡ place_of (form_over (Covered d) k)
      moved_count C x d k dk within here place i =
          let cells = before_cell w form_at_place C x k L s fs st df within i dk in
          let moved : IsMoved (count (keep C) before) (place_of k) (count (own x) S) true (place_of (form_over (Covered d) k)) =
          subst₂ (λ (p e : ℕ). IsMoved p (place_of k) e true (place_of (form_over (Covered d) k))) place (sym cells.1)
          (cover_moves d k) in
          split_moves (keep C) (own x) (disjoint C x k dk) S before c behind at.whole here (place_of k) cells.0
          (place_of (form_over (Covered d) k)) moved

      step_on : (C : Member → Bool) (x : Member) (f : Form) → IsSound b x C → Covers C f → IsIn x L → m ≢ x
          → (g : Form) × Covers (plus C x) g
      step_on C x f sound r i ne =
          let k = exists (deriving_of w) x C sound in
          let d = r.place.cover in
          let count_is = moved_count C x d k.0 k.1 r.within r.here r.place.place_is i in
          let form : IsForm w m (plus C x) (form_over (Covered d) k.0) =
          subst (λ (g : Form). IsForm w m (plus C x) (form_over g k.0)) r.place.is
          (form_step (deriving_of w) m x C f k.0 sound ne r.form k.1) in (
            form_over (Covered d) k.0,
            record {
              within = λ z h. elim (plus_cases C x z h) [ inl e ↦ r.within z e | inr e ↦ subst (λ (y : Member). IsIn y L) e i ];
              form = form;
              here = plus_keeps C x (Original c.0) r.here;
              place = subst (λ (p : ℕ). IsCoverAt mark p (form_over (Covered d) k.0)) (sym count_is)
                  (cover_kept mark d k.0 r.place.mark_is);
            },
          )

      walk_along : (xs : List Member) (C : Member → Bool) (f : Form) → Run w C xs → ((z : Member) → IsIn z xs → IsIn z L × (m ≢ z))
          → Covers C f → (g : Form) × Covers (plus_all C xs) g
      walk_along [] C f run_xs all r = (f, r)
      walk_along (x ∷ xs) C f run_xs all r =
          let here = all x (inl refl) in
          let one = step_on C x f run_xs.0 r here.0 here.1 in
          walk_along xs (plus C x) one.0 run_xs.1 (λ z i. all z (inr i)) one.1

      -- the form of m at each set that it may be added to is a cover of c
      pub cover_stays : (D : Member → Bool) → ((z : Member) → D z ≡ true → IsIn z L) → (f : Form) → IsForm w m D f
          → (keep D c ≡ true) × IsCoverAt mark (count (keep D) before) f
      cover_stays D in_list f form =
          let sound = derived_sound (deriving_of w) m D f form in
          let needs = b.context m in
          let start_sound = base_sound b known.causal m sound.listed in
          let part = filter D L in
          let rest = filter (λ (z : Member). not (needs z)) part in
          let rest_is_run : Run w needs rest =
          rest_run w needs part none needs start_sound.set (λ z e. not_both e refl) (λ z i e. e) (λ z i e. e)
          (part_run w D sound.set.closed L none (λ z e. not_both e refl) (forms_run w L none fs df)) in
          let in_rest : (z : Member) → IsIn z rest → IsIn z L × (m ≢ z) = λ z i.
          let r = filter_in D z L (filter_in (λ (y : Member). not (needs y)) z part i).0 in
          (r.0, λ (e : m ≡ z). both_ways (D m) sound.lacks (subst (λ (y : Member). D y ≡ true) (sym e) r.1)) in
          let begun : Covers needs (b.form m) = record {
            within = λ z e. in_list z (sound.covers z e);
            form = at_base sound.listed (λ z. refl) refl;
            here = at.passes;
            place = subst (λ (p : ℕ). IsCoverAt mark p (b.form m)) (sym at.at) base;
          } in
          let along = walk_along rest needs (b.form m) rest_is_run in_rest begun in
          let set : SameSet (plus_all needs rest) D = same_from (plus_all needs rest) D
          (λ z e. elim (all_cases rest needs z e)
          [ inl h ↦ sound.covers z h | inr i ↦ (filter_in D z L (filter_in (λ (y : Member). not (needs y)) z part i).0).1 ])
          (λ z e. elim (cases_Bool (needs z)) [
            | inl h ↦ all_keeps rest needs z h
            | inr h ↦
                all_in rest needs z (in_filter (λ (y : Member). not (needs y)) z part (in_filter D z L (in_list z e) e) (rw h refl))
          ]) in
          let end : Covers D along.0 = subst (λ (C : Member → Bool). Covers C along.0) (same_set (plus_all needs rest) D set) along.1 in
          let once : along.0 ≡ f = derived_once (deriving_of w) m D along.0 f end.form form in
          (end.here, subst (λ (g : Form). IsCoverAt mark (count (keep D) before) g) once end.place)
