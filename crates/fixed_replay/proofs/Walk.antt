-- The walk: the place of an insert among the cells of earlier ones is found by narrowing its gap, one insert after the other.
use Rattle.std.proofs.Common.{◌≡◌, ◌≢◌, ℕ, zero, suc, ◌≤◌, Bool, true, false, nat_lt, not, List, [], ◌∷◌, ◌++◌, length, take, drop, filter, ◌⊎◌, inl, inr, refl, ap, ap₂, sym, ◌∙◌, subst, subst₂, arith, append-nil, take-append-drop}
use Rattle.std.proofs.lemmas.Bool.{both_ways, not-true, cases_Bool}
use Rattle.op_name.specs.NameData.{NameData}
use Rattle.op_name.specs.declared.member.Member.{Member}
use Rattle.op_name.specs.declared.member.Member.TheVariants.{Original}
use Rattle.op_name.specs.Members.{target_of}
use Rattle.context_diff.specs.Gaps.{Gap, gap, narrow}
use Rattle.context_diff.specs.Replays.{Insertion, Cell, run_of, cells_from, of_name, narrowed_by, narrowed, gap_of, put, replay}
use Rattle.ttf_form.specs.declared.ins.Ins.{Ins}
use Rattle.ttf_form.specs.declared.cover.Cover.{Cover}
use Rattle.ttf_form.specs.declared.form.Form.{Form}
use Rattle.ttf_form.specs.declared.form.Form.TheVariants.{Ins as Insert, Cover as Covered}
use Rattle.ttf_form.specs.Names.{block}
use Rattle.ttf_form.specs.Laws.Places.{IsMoved}
use Rattle.ttf_form.specs.Forms.{ins_extent, place_of, IsBoundedForm, form_over, added_by}
use Rattle.ttf_form.specs.Cells.{CellData, cells_of, applied}
use Rattle.ttf_form.specs.Laws.Forms.{form_over_cover, ins_moved}
use Rattle.ttf_form.specs.Laws.Cells.{kept_at}
use Rattle.transform_rec.specs.Sets.{none, IsSubset, SameSet, plus, plus_all}
use Rattle.transform_rec.specs.Lists.{IsIn}
use Rattle.transform_rec.proofs.CallerLemmas.{count, in_filter, filter_in, length-count, count-append, same_set, same_from, plus_cases, all_in, all_cases, all_keeps, all-append, base_sound, derived_sound, forms_apart, form_step, exists, derived_once, IsForm, Run, Forms, run, At, state_after, forms_run, run_listed, run_append, forms-append, rest_run, part_state, before_cell, one_more, added_owner}
use Rattle.op_name.proofs.CallerLemmas.{member_apart, name_itself}
use Rattle.transform_rec.specs.Family.{Family, IsSound}
use Rattle.transform_rec.specs.Derived.{IsFamily, weight}
use Rattle.transform_rec.specs.Derived.Derived.{at_base}
use Rattle.transform_rec.specs.Executing.{Setting, deriving_of, HasOwnNames, keep, own}
use Rattle.fixed_replay.proofs.Elements.{not_both}
use Rattle.fixed_replay.proofs.Stretches.{Stretch, start, walk_step, all_or_none, narrow_none, whole_gap, kept_alone, kept_within, either_right}
use Rattle.fixed_replay.proofs.Counts.{count_none}
use Rattle.fixed_replay.proofs.Neighbours.{narrow_by_ends}
use Rattle.fixed_replay.proofs.Narrowing.{narrowed-append, narrowed_unseen}
use Rattle.fixed_replay.specs.Insertions.{inserted_by, insertions_of}
use Rattle.fixed_replay.proofs.Editor.{form_inclusion, form_table, form_at_place, setting_of, IsInsertOf, derived_insert, derived_cover, insert_owner, insertions-append, insertions_lacked}

within_none : (x : Cell → Bool) (xs ys zs : List Cell) → count x (xs ++ (ys ++ zs)) ≡ 0 → count x ys ≡ 0
within_none x xs ys zs h = let p = count-append x xs (ys ++ zs) in let q = count-append x ys zs in omega arith

-- the cells of an insert are those of its form
same_cells : (n : NameData) (first k : ℕ) → block n first k ≡ run_of n first k
same_cells n first zero = refl
same_cells n first (suc k) = ap (λ (cs : List Cell). (n, first) ∷ cs) (same_cells n (suc first) k)

module _ (b : Family Form) (known : IsFamily form_inclusion b) (own_names : HasOwnNames form_table b) (rank : NameData → ℕ) where
  abbrev w : Setting Form (List CellData)
  w = setting_of b known own_names

  abbrev inserts : List Member → List Insertion
  inserts xs = insertions_of b rank xs

  -- what a member inserts whose base form is this
  abbrev inserted : Member → Form → List Insertion
  inserted x f = inserted_by f (rank (target_of x)) (λ n. b.context x (Original n))

  -- a list of members and their forms, executed from no member
  module _ (L : List Member) (s : List CellData) (fs : List Form) (st : At w none s) (df : Forms w none L fs) where
    abbrev S : List Cell
    S = cells_of (run w s fs)

    -- an insert that isn't among them but sees none but them
    module _ (o : Member) (a : Ins) (base : b.form o ≡ Insert a) (listed : IsIn o b.members)
        (needs : IsSubset (b.context o) (plus_all none L)) (out : plus_all none L o ≡ false) where
      abbrev insertion : Insertion
      insertion =
          record { name = a.name; place = a.place; len = ins_extent a; rank = rank (target_of o); sees = λ n. b.context o (Original n) }

      -- the walk has come to the set C, with a form of o there and the gap of that form's place
      record Reached (C : Member → Bool) (f : Form) (g : Gap Cell) : Type 0 where
        within : (z : Member) → C z ≡ true → IsIn z L
        form : IsForm w o C f
        stretch : Stretch S (keep C) (place_of f) g

      in_list : (z : Member) → plus_all none L z ≡ true → IsIn z L
      in_list z e = elim (all_cases L none z e) [ inl a ↦ not_both a refl | inr i ↦ i ]

      not_o : (z : Member) → IsIn z L → o ≢ z
      not_o z i e = both_ways (plus_all none L o) out (subst (λ (y : Member). plus_all none L y ≡ true) (sym e) (all_in L none z i))

      disjoint : (C : Member → Bool) (x : Member) (k : Form) → IsForm w x C k → (e : Cell) → keep C e ≡ true → own x e ≡ false
      disjoint C x k dk e h =
          member_apart x (Original e.0) (λ (p : x ≡ Original e.0).
          both_ways (C x) (derived_sound (deriving_of w) x C k dk).lacks (subst (λ (y : Member). C y ≡ true) (sym p) h))

      narrowed_is : (x : Member) (y : Insertion) (c d : Ins) (g : Gap Cell) → c.name ≡ a.name → d.name ≡ y.name → x ≡ Original y.name
          → b.context o x ≡ false → (filter (own x) g.between ≡ []) ⊎ (filter (own x) g.between ≡ run_of y.name 0 y.len)
          → narrow (nat_lt d.name.site c.name.site) (own x) g ≡ narrowed_by insertion y g
      narrowed_is x y c d g name_c name_d x_is unseen cells =
          let left = nat_lt y.name.site a.name.site in
          let same : narrow (nat_lt d.name.site c.name.site) (own x) g ≡ narrow left (of_name y.name) g =
          λ i. narrow (nat_lt (name_d i).site (name_c i).site) (own (x_is i)) g in
          let named : (filter (of_name y.name) g.between ≡ []) ⊎ (filter (of_name y.name) g.between ≡ run_of y.name 0 y.len) =
          subst (λ (m : Member). (filter (own m) g.between ≡ []) ⊎ (filter (own m) g.between ≡ run_of y.name 0 y.len)) x_is cells in
          let h : b.context o (Original y.name) ≡ false = subst (λ (m : Member). b.context o m ≡ false) x_is unseen in
          same ∙ (rw h (narrow_by_ends left y g named))

      -- the cells of an insert of the list are those of its form
      own_cells : (C : Member → Bool) (x : Member) (d : Ins) → ((z : Member) → C z ≡ true → IsIn z L) → IsForm w x C (Insert d)
          → IsIn x L → filter (own x) S ≡ block d.name 0 (ins_extent d)
      own_cells C x d within dk i =
          let P = filter (keep C) S in
          let foreign : count (own x) P ≡ 0 = count_none (own x) P (λ c j. disjoint C x (Insert d) dk c (filter_in (keep C) c S j).1) in
          let mine : (c : Cell) → IsIn c (block d.name 0 (ins_extent d)) → own x c ≡ true =
          λ c j. subst (λ (y : Member). own y c ≡ true) (sym (added_owner w x C (Insert d) dk c j)) (name_itself c.0) in
          sym (kept_within (own x) (keep (plus C x)) (λ c h. either_right (keep C) (own x) c h) S)
          ∙ (ap (filter (own x)) (one_more w form_at_place C x (Insert d) L s fs st df within i dk)
          ∙ kept_alone (own x) d.place (block d.name 0 (ins_extent d)) P foreign mine)

      -- all of them lie in the gap, or none
      cells_between : (C : Member → Bool) (x : Member) (c d : Ins) (g : Gap Cell) (y : Insertion) → d.name ≡ y.name → ins_extent d ≡ y.len
          → Reached C (Insert c) g → IsForm w x C (Insert d) → IsIn x L
          → (filter (own x) g.between ≡ []) ⊎ (filter (own x) g.between ≡ run_of y.name 0 y.len)
      cells_between C x c d g y name long r dk i =
          let before = before_cell w form_at_place C x (Insert d) L s fs st df r.within i dk in
          elim (all_or_none S (keep C) (own x) (disjoint C x (Insert d) dk) d.place before.0 c.place g r.stretch) [
            | inl h ↦ inl h
            | inr h ↦ inr (h ∙ (own_cells C x d r.within dk i
                ∙ (same_cells d.name 0 (ins_extent d) ∙ ap₂ (λ (n : NameData) (k : ℕ). run_of n 0 k) name long)))
          ]

      -- an insert that o doesn't see narrows the gap, and moves the place
      insert_step : (C : Member → Bool) (x : Member) (c d : Ins) (g : Gap Cell) (y : Insertion) → c.name ≡ a.name → d.name ≡ y.name
          → ins_extent d ≡ y.len → x ≡ Original y.name → b.context o x ≡ false → Reached C (Insert c) g → IsForm w x C (Insert d)
          → IsIn x L → Stretch S (keep (plus C x)) (place_of (form_over (Insert c) (Insert d))) (narrowed_by insertion y g)
      insert_step C x c d g y name_c name_d long x_is unseen r dk i =
          let before = before_cell w form_at_place C x (Insert d) L s fs st df r.within i dk in
          let sites : c.site ≢ d.site = forms_apart (deriving_of w) o x C (Insert c) (Insert d) (not_o x i) r.form dk in
          let left = nat_lt d.name.site c.name.site in
          let moved : IsMoved c.place d.place (count (own x) S) left (place_of (form_over (Insert c) (Insert d))) =
          subst (λ (e : ℕ). IsMoved c.place d.place e left (place_of (form_over (Insert c) (Insert d)))) (sym before.1)
          (ins_moved c d sites) in
          let stepped : Stretch S (keep (plus C x)) (place_of (form_over (Insert c) (Insert d))) (narrow left (own x) g) =
          walk_step S (keep C) (own x) (disjoint C x (Insert d) dk) d.place before.0 c.place g r.stretch left
          (place_of (form_over (Insert c) (Insert d))) moved in
          subst (λ (h : Gap Cell). Stretch S (keep (plus C x)) (place_of (form_over (Insert c) (Insert d))) h)
          (narrowed_is x y c d g name_c name_d x_is unseen (cells_between C x c d g y name_d long r dk i)) stepped

      -- a cover has no cells: gap and place stay
      cover_step : (C : Member → Bool) (x : Member) (f : Form) (d : Cover) (g : Gap Cell) → Reached C f g → IsForm w x C (Covered d)
          → IsIn x L → Stretch S (keep (plus C x)) (place_of (form_over f (Covered d))) g
      cover_step C x f d g r dk i =
          let before = before_cell w form_at_place C x (Covered d) L s fs st df r.within i dk in
          let no_cell : count (own x) S ≡ 0 = before.1 in
          let place : place_of (form_over f (Covered d)) ≡ place_of f = ap place_of (form_over_cover f d) in
          let moved : IsMoved (place_of f) d.place (count (own x) S) true (place_of (form_over f (Covered d))) =
          record { less = λ h. omega arith; more = λ h. place; tie_left = λ h t. omega arith; tie_right = λ h t. place } in
          let stepped : Stretch S (keep (plus C x)) (place_of (form_over f (Covered d))) (narrow true (own x) g) =
          walk_step S (keep C) (own x) (disjoint C x (Covered d) dk) d.place before.0 (place_of f) g r.stretch true
          (place_of (form_over f (Covered d))) moved in
          subst (λ (h : Gap Cell). Stretch S (keep (plus C x)) (place_of (form_over f (Covered d))) h)
          (narrow_none true (own x) g (none_between g r.stretch no_cell)) stepped
        where
          none_between : (h : Gap Cell) → Stretch S (keep C) (place_of f) h → count (own x) S ≡ 0 → count (own x) h.between ≡ 0
          none_between h t z = within_none (own x) h.before h.between h.behind (subst (λ (cs : List Cell). count (own x) cs ≡ 0) t.whole z)

      -- one member further
      any_step : (C : Member → Bool) (x : Member) (f k base_x : Form) (g : Gap Cell) → b.form x ≡ base_x → IsInsertOf a f → Reached C f g
          → IsForm w x C k → IsIn x L → b.context o x ≡ false
          → Stretch S (keep (plus C x)) (place_of (form_over f k)) (narrowed insertion (inserted x base_x) g)
      unfolding narrowed
      any_step C x f k (Insert e) g bx fi r dk i unseen =
          let ki = derived_insert b e x C k bx dk in
          let x_is = insert_owner b own_names x e (derived_sound (deriving_of w) x C k dk).listed bx in
          let there : Reached C (Insert fi.ins) g = subst (λ (h : Form). Reached C h g) fi.is r in
          let form : IsForm w x C (Insert ki.ins) = subst (λ (h : Form). IsForm w x C h) ki.is dk in
          let y : Insertion =
          record { name = e.name; place = e.place; len = ins_extent e; rank = rank (target_of x); sees = λ n. b.context x (Original n) } in
          let stepped = insert_step C x fi.ins ki.ins g y fi.name ki.name ki.len x_is unseen there form i in
          subst₂ (λ (h l : Form). Stretch S (keep (plus C x)) (place_of (form_over h l)) (narrowed_by insertion y g)) (sym fi.is)
          (sym ki.is) stepped
      any_step C x f k (Covered e) g bx fi r dk i unseen =
          let ki = derived_cover b e x C k bx dk in
          let form : IsForm w x C (Covered ki.cover) = subst (λ (h : Form). IsForm w x C h) ki.is dk in
          subst (λ (l : Form). Stretch S (keep (plus C x)) (place_of (form_over f l)) g) (sym ki.is) (cover_step C x f ki.cover g r form i)

      step_on : (C : Member → Bool) (x : Member) (f : Form) (g : Gap Cell) → IsSound b x C → Reached C f g → IsIn x L
          → b.context o x ≡ false → (k : Form) × Reached (plus C x) (form_over f k) (narrowed insertion (inserted x (b.form x)) g)
      step_on C x f g sound r i unseen =
          let k = exists (deriving_of w) x C sound in (
            k.0,
            record {
              within = λ z h. elim (plus_cases C x z h) [ inl e ↦ r.within z e | inr e ↦ subst (λ (y : Member). IsIn y L) e i ];
              form = form_step (deriving_of w) o x C f k.0 sound (not_o x i) r.form k.1;
              stretch = any_step C x f k.0 (b.form x) g refl (derived_insert b a o C f base r.form) r k.1 i unseen;
            },
          )

      walk_along : (xs : List Member) (C : Member → Bool) (f : Form) (g : Gap Cell) → Run w C xs
          → ((z : Member) → IsIn z xs → IsIn z L × (b.context o z ≡ false)) → Reached C f g
          → (h : Form) × Reached (plus_all C xs) h (narrowed insertion (inserts xs) g)
      unfolding narrowed
      walk_along [] C f g run_xs all r = (f, r)
      walk_along (x ∷ xs) C f g run_xs all r =
          let here = all x (inl refl) in
          let one = step_on C x f g run_xs.0 r here.0 here.1 in
          let rest =
          walk_along xs (plus C x) (form_over f one.0) (narrowed insertion (inserted x (b.form x)) g) run_xs.1 (λ z i. all z (inr i))
          one.1 in (
            rest.0,
            subst (λ (h : Gap Cell). Reached (plus_all (plus C x) xs) rest.0 h)
                (sym (narrowed-append insertion (inserted x (b.form x)) (inserts xs) g)) rest.1,
          )

      -- ---- where the walk starts

      base_needs : (z : Member) → b.context o z ≡ true → IsIn z L
      base_needs z e = in_list z (needs z e)

      begun : Reached (b.context o) (b.form o) (gap (λ (c : Cell). b.context o (Original c.0)) a.place S)
      begun =
          let sound = base_sound b known.causal o listed in
          let part = part_state w (b.context o) L none s fs sound.set.closed st df (λ z e. not_both e refl) (λ z e. inr (base_needs z e)) in
          let long : count (keep (b.context o)) S ≡ weight form_inclusion b (b.context o) =
          sym (length-count (keep (b.context o)) S) ∙ (ap length part.2 ∙ part.1.weighs) in
          let bounded : a.place ≤ weight form_inclusion b (b.context o) =
          subst (λ (f : Form). IsBoundedForm f (weight form_inclusion b (b.context o))) base (known.bounded o listed) in
          record {
            within = base_needs;
            form = at_base listed (λ z. refl) refl;
            stretch =
                subst (λ (f : Form). Stretch S (keep (b.context o)) (place_of f) (gap (keep (b.context o)) a.place S)) (sym base)
                (start (keep (b.context o)) a.place S (omega arith));
          }

      abbrev rest : List Member
      rest = filter (λ (z : Member). not (b.context o z)) L

      rest_is_run : Run w (b.context o) rest
      rest_is_run =
          rest_run w (b.context o) L none (b.context o) (base_sound b known.causal o listed).set (λ z e. not_both e refl) (λ z i e. e)
          (λ z i e. e) (forms_run w L none fs df)

      rest_unseen : (z : Member) → IsIn z rest → IsIn z L × (b.context o z ≡ false)
      rest_unseen z i = let r = filter_in (λ (y : Member). not (b.context o y)) z L i in (r.0, not-true (b.context o z) r.1)

      end_set : SameSet (plus_all (b.context o) rest) (plus_all none L)
      end_set = same_from (plus_all (b.context o) rest) (plus_all none L)
          (λ z e. elim (all_cases rest (b.context o) z e) [ inl h ↦ needs z h | inr i ↦ all_in L none z (rest_unseen z i).0 ])
          (λ z e. elim (cases_Bool (b.context o z)) [
            | inl h ↦ all_keeps rest (b.context o) z h
            | inr h ↦
                all_in rest (b.context o) z (in_filter (λ (y : Member). not (b.context o y)) z L (in_list z e) (rw h refl))
          ])

      arrived : (h : Form) × Reached (plus_all none L) h (gap_of insertion (inserts L) S)
      arrived =
          let first = gap (λ (c : Cell). b.context o (Original c.0)) a.place S in
          let along = walk_along rest (b.context o) (b.form o) first rest_is_run rest_unseen begun in
          let unseen : narrowed insertion (inserts L) first ≡ narrowed insertion (inserts rest) first =
          narrowed_unseen insertion (inserts L) first
          ∙ ap (λ (ys : List Insertion). narrowed insertion ys first)
          (insertions_lacked b rank own_names (b.context o) L (λ z i. run_listed w L none z (forms_run w L none fs df) i)) in
          let there : Reached (plus_all none L) along.0 (narrowed insertion (inserts rest) first) =
          subst (λ (C : Member → Bool). Reached C along.0 (narrowed insertion (inserts rest) first))
          (same_set (plus_all (b.context o) rest) (plus_all none L) end_set) along.1 in
          (along.0, subst (λ (g : Gap Cell). Reached (plus_all none L) along.0 g) (sym unseen) there)

      -- the place by the two neighbours is that of the form at the members of the list
      pub walk : (f : Form) → IsForm w o (plus_all none L) f → put insertion (inserts L) S ≡ cells_of (applied (run w s fs) f)
      walk f form =
          let end = arrived in
          let once : end.0 ≡ f = derived_once (deriving_of w) o (plus_all none L) end.0 f end.1.form form in
          let at : Stretch S (keep (plus_all none L)) (place_of f) (gap_of insertion (inserts L) S) =
          subst (λ (h : Form). Stretch S (keep (plus_all none L)) (place_of h) (gap_of insertion (inserts L) S)) once
          end.1.stretch in
          let whole =
          whole_gap S (cells_from insertion) (keep (plus_all none L)) (place_of f) (gap_of insertion (inserts L) S) at
          (λ c i. (state_after w L none s fs st df).names c i) in
          let fi = derived_insert b a o (plus_all none L) f base form in
          let cells : added_by f ≡ cells_from insertion = ap added_by fi.is
          ∙ (same_cells fi.ins.name 0 (ins_extent fi.ins) ∙ ap₂ (λ (n : NameData) (k : ℕ). run_of n 0 k) fi.name fi.len) in
          whole ∙ ap (λ (new : List Cell). take (place_of f) S ++ (new ++ drop (place_of f) S)) (sym cells) ∙ sym (kept_at (run w s fs) f)

  -- a cover puts no cell
  cover_cells : (s : List CellData) (f : Form) (c : Cover) → f ≡ Covered c → cells_of (applied s f) ≡ cells_of s
  cover_cells s f c e = kept_at s f ∙ (rw e (take-append-drop c.place (cells_of s)))

  -- one member further along a causal list
  replay_on : (L0 : List Member) (x : Member) (xs : List Member) (s : List CellData) (fs0 : List Form) (f : Form)
      → At w none s → Forms w none L0 fs0 → IsForm w x (plus_all none L0) f → (base : Form) → b.form x ≡ base
      → replay (inserts L0) (cells_of (run w s fs0)) (inserted x base ++ inserts xs)
      ≡ replay (inserts L0 ++ inserted x base) (cells_of (applied (run w s fs0) f)) (inserts xs)
  unfolding replay
  replay_on L0 x xs s fs0 f st df dx (Insert a) e =
      let sound = derived_sound (deriving_of w) x (plus_all none L0) f dx in
      ap (λ (cs : List Cell). replay (inserts L0 ++ inserted x (Insert a)) cs (inserts xs))
      (walk L0 s fs0 st df x a e sound.listed sound.covers sound.lacks f dx)
  replay_on L0 x xs s fs0 f st df dx (Covered c) e =
      let fi = derived_cover b c x (plus_all none L0) f e dx in
      ap₂ (λ (ys : List Insertion) (cs : List Cell). replay ys cs (inserts xs)) (sym (append-nil (inserts L0)))
      (sym (cover_cells (run w s fs0) f fi.cover fi.is))

  one_more_insert : (L0 : List Member) (x : Member) → inserts L0 ++ inserted x (b.form x) ≡ inserts (L0 ++ (x ∷ []))
  one_more_insert L0 x =
      ap (λ (ys : List Insertion). inserts L0 ++ ys) (sym (append-nil (inserted x (b.form x))))
      ∙ sym (insertions-append b rank L0 (x ∷ []))

  -- the replay of the inserts of a causal list, from what an earlier list gave
  pub replay_from : (L L0 : List Member) (s : List CellData) (fs0 fs : List Form) → At w none s → Forms w none L0 fs0
      → Forms w (plus_all none L0) L fs
      → replay (inserts L0) (cells_of (run w s fs0)) (inserts L) ≡ cells_of (run w (run w s fs0) fs)
  unfolding replay
  replay_from [] L0 s fs0 [] st df0 df = refl
  replay_from [] L0 s fs0 (f ∷ fs) st df0 df = absurd df
  replay_from (x ∷ xs) L0 s fs0 [] st df0 df = absurd df
  replay_from (x ∷ xs) L0 s fs0 (f ∷ fs) st df0 df =
      let forms = forms-append w L0 (x ∷ []) none fs0 (f ∷ []) df0 (df.0, tt) in
      let set : plus (plus_all none L0) x ≡ plus_all none (L0 ++ (x ∷ [])) = sym (all-append none L0 (x ∷ [])) in
      let rest_forms : Forms w (plus_all none (L0 ++ (x ∷ []))) xs fs = subst (λ (C : Member → Bool). Forms w C xs fs) set df.1 in
      let state : run w s (fs0 ++ (f ∷ [])) ≡ applied (run w s fs0) f = run_append w s fs0 (f ∷ []) in
      let ih = replay_from xs (L0 ++ (x ∷ [])) s (fs0 ++ (f ∷ [])) fs st forms rest_forms in
      replay_on L0 x xs s fs0 f st df0 df.0 (b.form x) refl
      ∙ (ap₂ (λ (ys : List Insertion) (t : List CellData). replay ys (cells_of t) (inserts xs)) (one_more_insert L0 x) (sym state)
      ∙ (ih ∙ ap (λ (t : List CellData). cells_of (run w t fs)) state))

  -- along every causal list of members the replay gives the cells of the executed forms
  pub replay_along : (L : List Member) (fs : List Form) → At w none [] → Forms w none L fs
      → replay [] [] (inserts L) ≡ cells_of (run w [] fs)
  replay_along L fs st df = replay_from L [] [] [] fs st tt df
