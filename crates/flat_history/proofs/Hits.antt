-- A delete hits the cell at the place of its executed form, among the cells of the inserts before it: so the deletes of each cell can
-- be told from the checkpoint.
use Rattle.std.proofs.Common.{◌≡◌, ℕ, ◌<◌, Bool, true, false, ◌⊎◌, inl, inr, List, [], ◌∷◌, ◌++◌, length, filter, refl, ap, sym, ◌∙◌, subst, arith}
use Rattle.std.specs.Prelude.{◌||◌}
use Rattle.op_name.specs.NameData.{NameData}
use Rattle.op_name.specs.Members.{member_eq}
use Rattle.op_name.specs.declared.member.Member.{Member}
use Rattle.op_name.specs.declared.member.Member.TheVariants.{Original, Group}
use Rattle.context_vector.specs.Contexts.{ContextData, has}
use Rattle.context_diff.specs.Operations.{OpData, inserting, deleting, undoing}
use Rattle.context_diff.specs.Histories.{members_in, IsValid}
use Rattle.context_diff.specs.Replays.{Cell, replay_of, seen, stands_at, hits}
use Rattle.ttf_form.specs.declared.cover.Mark.TheVariants.{By}
use Rattle.ttf_form.specs.declared.form.Form.{Form}
use Rattle.ttf_form.specs.Forms.{place_of, IsBoundedForm}
use Rattle.ttf_form.specs.Cells.{cells_of, applied}
use Rattle.ttf_form.specs.Families.{IsIn}
use Rattle.transform_rec.specs.Sets.{none, plus}
use Rattle.transform_rec.specs.Derived.{IsFamily, weight}
use Rattle.transform_rec.specs.Executing.{HasOwnNames, deriving_of, executed, keep}
use Rattle.transform_rec.proofs.CallerLemmas.{count, filter-append, filter_keeps, length-count, base_sound, derived_sound, part_state, empty_state, Forms, IsForm}
use Rattle.undo_group.specs.BaseForms.{base_form}
use Rattle.undo_group.specs.Laws.Forms.{base_forms_hold}
use Rattle.undo_group.specs.Laws.Inserts.{context_of_original}
use Rattle.undo_group.specs.Laws.Members.{member_listed}
use Rattle.fixed_replay.specs.Replayed.{IsDeleter}
use Rattle.fixed_replay.proofs.CallerLemmas.{executed_replayed, not_both, valid_family, valid_own_names, cover_stays, form_inclusion, form_table, same_cell, on_behind, on_stands, Split, split}
use Rattle.flat_history.specs.Checkpoints.{Placed, inserted, deleted}
use Rattle.flat_history.specs.Flat.{placed_in}
use Rattle.flat_history.proofs.Executed.{b, w}

-- ---- the cell at a place of a part

stands_behind : (n : ℕ) (xs : List Cell) (d : Cell) (ys : List Cell) (c : Cell) → length xs ≡ n
    → stands_at n (xs ++ d ∷ ys) c ≡ same_cell d c
stands_behind n xs d ys c e = sym (on_stands d.0 0 n (xs ++ d ∷ ys) c) ∙ on_behind (By d.0 0) xs d ys n c e

-- of those that pass, the one behind the first n
stands_in_part : (q : Cell → Bool) (S before : List Cell) (d : Cell) (behind : List Cell) → S ≡ before ++ (d ∷ behind) → q d ≡ true
    → (n : ℕ) → count q before ≡ n → (c : Cell) → stands_at n (filter q S) c ≡ same_cell d c
stands_in_part q S before d behind whole passes n at c =
    let parts : filter q S ≡ filter q before ++ (d ∷ filter q behind) =
    ap (filter q) whole
    ∙ (filter-append q before (d ∷ behind) ∙ ap (λ (cs : List Cell). filter q before ++ cs) (filter_keeps q d behind passes)) in
    ap (λ (cs : List Cell). stands_at n cs c) parts
    ∙ stands_behind n (filter q before) d (filter q behind) c (length-count q before ∙ at)

-- ---- the deletes that a checkpoint tells

-- the names with one more
abbrev pub with_name : (NameData → Bool) → NameData → NameData → Bool
with_name D n m = D m || member_eq (Original n) (Original m)

-- a delete of this name is among the originals, and the cell stands at its place among those cells of S whose inserts D has or stand
-- before it
abbrev pub HitIn : List Cell → (NameData → Bool) → List Placed → NameData → Cell → Type 0
HitIn S D [] n c = ⊥
HitIn S D (inserted m p text ∷ es) n c = HitIn S (with_name D m) es n c
HitIn S D (deleted m p ∷ es) n c = ((m ≡ n) × (stands_at p (seen D S) c ≡ true)) ⊎ HitIn S (with_name D m) es n c

or_nothing : (b : Bool) → (b || false) ≡ b
or_nothing true = refl
or_nothing false = refl

module _ (h : List OpData) (v : IsValid h) (fs : List Form) (df : Forms (w h v) none (members_in h) fs) where
  known : IsFamily form_inclusion (b h v)
  known = valid_family h v (base_form h) (base_forms_hold h v)

  own_names : HasOwnNames form_table (b h v)
  own_names = valid_own_names h v (base_form h) (base_forms_hold h v)

  -- the cells of the history
  abbrev S : List Cell
  S = cells_of (executed applied [] fs)

  S_is : S ≡ replay_of h
  S_is = (executed_replayed h v (base_form h) (base_forms_hold h v) fs df).cells

  module _ (n : NameData) (p : ℕ) (k : ContextData) (i : IsIn (deleting n p k) h) where
    abbrev needs : Member → Bool
    needs = (b h v).context (Original n)

    listed : IsIn (Original n) (members_in h)
    listed = member_listed (deleting n p k) h i

    -- the cell of the delete, split off among all cells
    target : Split (keep needs) p S
    target =
        let base = (base_forms_hold h v).deletes n p k i in
        let st = empty_state (w h v) [] refl in
        let sound = base_sound (b h v) known.causal (Original n) listed in
        let part =
        part_state (w h v) needs (members_in h) none [] fs sound.set.closed st df (λ z e. not_both e refl)
        (λ z e. inr (known.causal.listed (Original n) z listed e)) in
        let long : count (keep needs) S ≡ weight form_inclusion (b h v) needs =
        sym (length-count (keep needs) S) ∙ (ap length part.2 ∙ part.1.weighs) in
        let bounded : base.cover.place < weight form_inclusion (b h v) needs =
        subst (λ (f : Form). IsBoundedForm f (weight form_inclusion (b h v) needs)) base.is (known.bounded (Original n) listed) in
        let place = base.place in
        split (keep needs) p S (omega arith)

    -- what the delete sees is its base context
    sees_is : (c : Cell) → hits h (deleting n p k) c ≡ stands_at p (filter (keep needs) S) c
    sees_is c =
        let same : (m : NameData) → has k (Original m) ≡ needs (Original m) =
        λ m. sym (context_of_original h v (deleting n p k) n i refl (Original m)) in
        λ j. stands_at p (filter (λ (d : Cell). same d.0 j) (sym S_is j)) c

    -- it hits the cell at the place of each form that it has
    pub hit_is : (C : Member → Bool) (f : Form) → IsForm (w h v) (Original n) C f → (c : Cell)
        → hits h (deleting n p k) c ≡ stands_at (place_of f) (filter (keep C) S) c
    hit_is C f d c =
        let base = (base_forms_hold h v).deletes n p k i in
        let t = target in
        let sound = derived_sound (deriving_of (w h v)) (Original n) C f d in
        let stays =
        cover_stays (b h v) known own_names (members_in h) [] fs (empty_state (w h v) [] refl) df (Original n) base.cover.mark p
        (record { cover = base.cover; is = base.is; mark_is = refl; place_is = base.place }) t.before t.it t.behind t.is C sound.set.listed
        f d in
        let place : count (keep C) t.before ≡ place_of f = sym (ap place_of stays.1.is ∙ stays.1.place_is) in
        sees_is c
        ∙ (stands_in_part (keep needs) S t.before t.it t.behind t.is.whole t.is.passes p t.is.at c
        ∙ sym (stands_in_part (keep C) S t.before t.it t.behind t.is.whole stays.0 (place_of f) place c))

  -- ---- along the history

  part_is : (C : Member → Bool) (D : NameData → Bool) → ((m : NameData) → C (Original m) ≡ D m) → filter (keep C) S ≡ seen D S
  part_is C D same = λ j. filter (λ (d : Cell). same d.0 j) S

  with_same : (C : Member → Bool) (D : NameData → Bool) (n : NameData) → ((m : NameData) → C (Original m) ≡ D m) → (m : NameData)
      → plus C (Original n) (Original m) ≡ with_name D n m
  with_same C D n same m = ap (λ (e : Bool). e || member_eq (Original n) (Original m)) (same m)

  group_same : (C : Member → Bool) (D : NameData → Bool) (t : NameData) (g : ℕ) → ((m : NameData) → C (Original m) ≡ D m) → (m : NameData)
      → plus C (Group t g) (Original m) ≡ D m
  group_same C D t g same m = or_nothing (C (Original m)) ∙ same m

  hit_to : (os : List OpData) (C : Member → Bool) (D : NameData → Bool) (gs : List Form) → ((m : NameData) → C (Original m) ≡ D m)
      → ((o : OpData) → IsIn o os → IsIn o h) → Forms (w h v) C (members_in os) gs
      → (n : NameData) (p : ℕ) (k : ContextData) → IsIn (deleting n p k) os → (c : Cell) → hits h (deleting n p k) c ≡ true
      → HitIn S D (placed_in os gs) n c
  hit_to [] C D gs same all d n p k i c e = absurd i
  hit_to (inserting m q text x ∷ os) C D [] same all d n p k i c e = absurd d
  hit_to (deleting m q x ∷ os) C D [] same all d n p k i c e = absurd d
  hit_to (undoing a t g x ∷ os) C D [] same all d n p k i c e = absurd d
  hit_to (inserting m q text x ∷ os) C D (f ∷ gs) same all d n p k (inl is) c e = absurd (cc)
  hit_to (inserting m q text x ∷ os) C D (f ∷ gs) same all d n p k (inr i) c e =
      hit_to os (plus C (Original m)) (with_name D m) gs (with_same C D m same) (λ o j. all o (inr j)) d.1 n p k i c e
  hit_to (deleting m q x ∷ os) C D (f ∷ gs) same all d n p k (inl is) c e =
      let name : n ≡ m = cc in
      let there = all (deleting n p k) (inl is) in
      let form : IsForm (w h v) (Original n) C f = subst (λ (y : NameData). IsForm (w h v) (Original y) C f) (sym name) d.0 in
      inl (
        sym name,
        ap (λ (cs : List Cell). stands_at (place_of f) cs c) (sym (part_is C D same))
            ∙ (sym (hit_is n p k there C f form c) ∙ e),
      )
  hit_to (deleting m q x ∷ os) C D (f ∷ gs) same all d n p k (inr i) c e =
      inr (hit_to os (plus C (Original m)) (with_name D m) gs (with_same C D m same) (λ o j. all o (inr j)) d.1 n p k i c e)
  hit_to (undoing a t g x ∷ os) C D (f ∷ gs) same all d n p k (inl is) c e = absurd (cc)
  hit_to (undoing a t g x ∷ os) C D (f ∷ gs) same all d n p k (inr i) c e =
      hit_to os (plus C (Group t g)) D gs (group_same C D t g same) (λ o j. all o (inr j)) d.1 n p k i c e

  hit_from : (os : List OpData) (C : Member → Bool) (D : NameData → Bool) (gs : List Form) → ((m : NameData) → C (Original m) ≡ D m)
      → ((o : OpData) → IsIn o os → IsIn o h) → Forms (w h v) C (members_in os) gs → (n : NameData) (c : Cell)
      → HitIn S D (placed_in os gs) n c → IsDeleter h c n
  hit_from [] C D gs same all d n c r = absurd r
  hit_from (inserting m q text x ∷ os) C D [] same all d n c r = absurd d
  hit_from (deleting m q x ∷ os) C D [] same all d n c r = absurd d
  hit_from (undoing a t g x ∷ os) C D [] same all d n c r = absurd d
  hit_from (inserting m q text x ∷ os) C D (f ∷ gs) same all d n c r =
      hit_from os (plus C (Original m)) (with_name D m) gs (with_same C D m same) (λ o j. all o (inr j)) d.1 n c r
  hit_from (deleting m q x ∷ os) C D (f ∷ gs) same all d n c (inl r) =
      let there = all (deleting m q x) (inl refl) in
      subst (IsDeleter h c) r.0 (record {
        place = q;
        context = x;
        there = there;
        hit =
            hit_is m q x there C f d.0 c
            ∙ (ap (λ (cs : List Cell). stands_at (place_of f) cs c) (part_is C D same) ∙ r.1);
      })
  hit_from (deleting m q x ∷ os) C D (f ∷ gs) same all d n c (inr r) =
      hit_from os (plus C (Original m)) (with_name D m) gs (with_same C D m same) (λ o j. all o (inr j)) d.1 n c r
  hit_from (undoing a t g x ∷ os) C D (f ∷ gs) same all d n c r =
      hit_from os (plus C (Group t g)) D gs (group_same C D t g same) (λ o j. all o (inr j)) d.1 n c r

  -- the deletes of a cell are those that the checkpoint tells
  pub deleters_to : (c : Cell) (n : NameData) → IsDeleter h c n → HitIn S (λ m. false) (placed_in h fs) n c
  deleters_to c n r = hit_to h none (λ m. false) fs (λ m. refl) (λ o i. i) df n r.place r.context r.there c r.hit

  pub deleters_from : (c : Cell) (n : NameData) → HitIn S (λ m. false) (placed_in h fs) n c → IsDeleter h c n
  deleters_from c n r = hit_from h none (λ m. false) fs (λ m. refl) (λ o i. i) df n c r
