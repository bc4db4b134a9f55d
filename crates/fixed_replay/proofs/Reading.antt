-- Reading the marks: a cell's generation is that of its insert in the history, and it is shown as the history says.
use Rattle.std.proofs.Common.{◌≡◌, ◌↔◌, ℕ, suc, ◌≤◌, max, Bool, true, false, not, ◌&&◌, if◌then◌else◌, List, [], ◌∷◌, length, filter, map, take, drop, ◌⊎◌, inl, inr, refl, ap, ap₂, sym, ◌∙◌, subst, arith, length-take-le}
use Rattle.std.proofs.lemmas.Bool.Decides.{nat_tests}
use Rattle.std.proofs.lemmas.Bool.{and_parts, and_from, false_from_ne_true, cases_Bool, both_ways}
use Rattle.std.specs.List.{list_any}
use Rattle.op_name.specs.NameData.{NameData, name_eq}
use Rattle.op_name.specs.declared.member.Member.{Member}
use Rattle.op_name.specs.declared.member.Member.TheVariants.{Original, Group}
use Rattle.context_vector.specs.Contexts.{ContextData, has}
use Rattle.context_diff.specs.Operations.{OpData, inserting, deleting, undoing, member_of}
use Rattle.context_diff.specs.Histories.{members_in, generation_at, generation_in, in_force}
use Rattle.context_diff.specs.Replays.{Cell, replay_of, hits, covers, is_shown}
use Rattle.ttf_form.specs.declared.cover.Mark.{Mark}
use Rattle.ttf_form.specs.declared.cover.Mark.TheVariants.{Own, By}
use Rattle.ttf_form.specs.declared.form.Form.{Form}
use Rattle.ttf_form.specs.declared.form.Form.TheVariants.{Ins as Insert, Cover as Covered}
use Rattle.ttf_form.specs.Forms.{IsBoundedForm, added_by}
use Rattle.ttf_form.specs.Cells.{CellData, marked, raise_in, IsRising, put_in, cell_key, cells_of, cell_shown}
use Rattle.op_name.specs.Members.{is_even}
use Rattle.ttf_form.specs.Laws.Deleters.{best, best_raise, best_raise_other, raise_rising}
use Rattle.transform_rec.specs.Sets.{none, plus, plus_all}
use Rattle.transform_rec.specs.Lists.{IsIn, AreApart}
use Rattle.transform_rec.specs.Family.{Family}
use Rattle.transform_rec.specs.Derived.{IsFamily, weight}
use Rattle.transform_rec.specs.Derived.Derived.{at_base}
use Rattle.transform_rec.specs.Executing.{Setting, HasOwnNames, keep}
use Rattle.op_name.proofs.CallerLemmas.{name_itself, name_same}
use Rattle.transform_rec.proofs.CallerLemmas.{filter_all, filter_same, plus_here, plus_keeps, plus_cases, all_in, base_sound, Forms, run, At, state_after, part_state, one_more}
use Rattle.fixed_replay.proofs.Families.{HasGroups}
use Rattle.fixed_replay.specs.Replayed.{IsDeleter, IsReplayed}
use Rattle.undo_group.specs.BaseForms.{IsCoverForm}
use Rattle.fixed_replay.proofs.HistoryFamilies.{IsFamilyOf}
use Rattle.fixed_replay.proofs.Elements.{not_both, map_same, any_in, in_any}
use Rattle.fixed_replay.proofs.Operations.{member_listed, listed_member, one_operation}
use Rattle.fixed_replay.proofs.SameText.{IsPut, in-replay_of}
use Rattle.fixed_replay.proofs.Editor.{form_inclusion, form_table, form_at_place, setting_of}
use Rattle.fixed_replay.proofs.Marks.{mark_by, bare_at, is_on, on_first, on_stands, form_on, bears, marks_of, marks_same, marks_key}
use Rattle.fixed_replay.proofs.Marking.{state_marks}
use Rattle.fixed_replay.proofs.DeleterLists.{Entry, in-raise, entry_best, best_entry, best_more}
use Rattle.std.specs.Cmp.{both_ways as same_bool}

in-map : {A B : Type 0} (f : A → B) (y : B) (xs : List A) → IsIn y (map f xs) → (x : A) × IsIn x xs × (y ≡ f x)
in-map f y [] i = absurd i
in-map f y (x ∷ xs) (inl e) = (x, inl refl, e)
in-map f y (x ∷ xs) (inr i) = let r = in-map f y xs i in (r.0, inr r.1, r.2)

abbrev pub everyone : Member → Bool
everyone m = true

-- ---- what a mark changes

rising_under : (m : Mark) (d : CellData) → IsRising d.deleters → IsRising (marked m d).deleters
rising_under (Own g) d r = r
rising_under (By n g) d r = raise_rising n g d.deleters r

mark_rising : (f : Form) (h : Bool) (d : CellData) → IsRising d.deleters → IsRising (mark_by f h d).deleters
mark_rising (Insert a) h d r = r
mark_rising (Covered k) true d r = rising_under k.mark d r
mark_rising (Covered k) false d r = r

same_names : (n m : NameData) → name_eq n m ≡ name_eq m n
same_names n m = grind (arith, nat_tests)

-- whether the mark of a cover is on a cell goes by its mark and place alone
cover_on : (p : ℕ) (m : Mark) (f : Form) (cs ds : List Cell) (c : Cell) → IsCoverForm p m f → cs ≡ ds → form_on f cs c ≡ is_on m p ds c
cover_on p m f cs ds c k e = ap (λ (x : Form). form_on x cs c) k.is ∙ (λ j. is_on (k.mark j) (k.place j) (e j) c)

-- a mark of a delete leaves the generation, an own mark the deleters
by_generation : (p : ℕ) (n : NameData) (g : ℕ) (f : Form) (h : Bool) (d : CellData) → IsCoverForm p (By n g) f
    → (mark_by f h d).generation ≡ d.generation
by_generation p n g f h d k =
    ap (λ (x : Form). (mark_by x h d).generation) k.is
    ∙ (ap (λ (m : Mark). (if h then marked m d else d).generation) k.mark ∙ same_generation h)
  where
    same_generation : (b : Bool) → (if b then marked (By n g) d else d).generation ≡ d.generation
    same_generation true = refl
    same_generation false = refl

own_generation : (p g : ℕ) (f : Form) (h : Bool) (d : CellData) → IsCoverForm p (Own g) f
    → (mark_by f h d).generation ≡ max (if h then g else 0) d.generation
own_generation p g f h d k =
    ap (λ (x : Form). (mark_by x h d).generation) k.is
    ∙ (ap (λ (m : Mark). (if h then marked m d else d).generation) k.mark ∙ more_generation h)
  where
    more_generation : (b : Bool) → (if b then marked (Own g) d else d).generation ≡ max (if b then g else 0) d.generation
    more_generation true = omega arith
    more_generation false = omega arith

own_deleters : (p g : ℕ) (f : Form) (h : Bool) (d : CellData) → IsCoverForm p (Own g) f → (mark_by f h d).deleters ≡ d.deleters
own_deleters p g f h d k =
    ap (λ (x : Form). (mark_by x h d).deleters) k.is ∙ (ap (λ (m : Mark). (if h then marked m d else d).deleters) k.mark ∙ same_deleters h)
  where
    same_deleters : (b : Bool) → (if b then marked (Own g) d else d).deleters ≡ d.deleters
    same_deleters true = refl
    same_deleters false = refl

by_deleters : (p : ℕ) (n : NameData) (g : ℕ) (f : Form) (h : Bool) (d : CellData) → IsCoverForm p (By n g) f
    → (mark_by f h d).deleters ≡ (if h then raise_in n g d.deleters else d.deleters)
by_deleters p n g f h d k =
    ap (λ (x : Form). (mark_by x h d).deleters) k.is ∙ (ap (λ (m : Mark). (if h then marked m d else d).deleters) k.mark ∙ more_deleters h)
  where
    more_deleters : (b : Bool) → (if b then marked (By n g) d else d).deleters ≡ (if b then raise_in n g d.deleters else d.deleters)
    more_deleters true = refl
    more_deleters false = refl

module _ (b : Family Form) (known : IsFamily form_inclusion b) (own_names : HasOwnNames form_table b) (groups : HasGroups b)
    (h : List OpData) (family : IsFamilyOf h b) where
  abbrev w : Setting Form (List CellData)
  w = setting_of b known own_names

  listed_of : (o : OpData) → IsIn o h → IsIn (member_of o) b.members
  listed_of o i = subst (λ (ms : List Member). IsIn (member_of o) ms) (sym family.members) (member_listed o h i)

  group_listed : (t : NameData) (g : ℕ) → IsIn (Group t g) b.members → IsIn (Group t g) (members_in h)
  group_listed t g i = subst (λ (ms : List Member). IsIn (Group t g) ms) family.members i

  apart_members : AreApart (members_in h)
  apart_members = subst (λ (ms : List Member). AreApart ms) family.members known.causal.distinct

  one_op : (o p : OpData) → IsIn o h → IsIn p h → member_of o ≡ member_of p → o ≡ p
  one_op o p i j e = one_operation h apart_members o p i j e

  -- an insert's name is no delete's
  not_delete : (n m : NameData) (p : ℕ) (text : List ℕ) (q : ℕ) (c k : ContextData) → IsIn (inserting n p text c) h
      → IsIn (deleting m q k) h
      → name_eq m n ≡ false
  not_delete n m p text q c k i j =
      false_from_ne_true (name_eq m n)
      (λ e. let o : inserting n p text c ≡ deleting m q k =
      one_op (inserting n p text c) (deleting m q k) i j (ap Original (sym (name_same m n e))) in (cc))

  module _ (fs : List Form) (st : At w none []) (df : Forms w none b.members fs) (is_replay : cells_of (run w [] fs) ≡ replay_of h) where
    abbrev S : List Cell
    S = cells_of (run w [] fs)

    -- a cell is of an insert of the history
    put_by : (c : Cell) → IsIn c S → IsPut h c
    put_by c i = in-replay_of h c (subst (λ (cs : List Cell). IsIn c cs) is_replay i)

    -- ---- which cells bear a mark

    delete_hits : (n : NameData) (p : ℕ) (k : ContextData) (c : Cell) → IsIn (deleting n p k) h
        → bears b S (Original n) c ≡ hits h (deleting n p k) c
    delete_hits n p k c i =
        let seen = filter (λ (e : Cell). has k (Original e.0)) (replay_of h) in
        let part : filter (keep (b.context (Original n))) S ≡ seen =
        filter_same (keep (b.context (Original n))) (λ (e : Cell). has k (Original e.0)) S
        (λ e j. family.contexts (deleting n p k) n i refl (Original e.0))
        ∙ ap (filter (λ (e : Cell). has k (Original e.0))) is_replay in
        cover_on p (By n 0) (b.form (Original n)) (filter (keep (b.context (Original n))) S) seen c (family.forms.deletes n p k i) part
        ∙ on_stands n 0 p seen c

    -- a group's base context holds its original's
    group_within : (t : NameData) (g : ℕ) → IsIn (Group t g) b.members → (z : Member) → b.context (Original t) z ≡ true
        → b.context (Group t g) z ≡ true
    group_within t g i z e = known.causal.closed (Group t g) (Original t) i (groups.target t g i) z e

    -- the mark of a group of a delete is on what the delete hits
    delete_group_hits : (t : NameData) (g q : ℕ) (k : ContextData) (c : Cell) → IsIn (deleting t q k) h → IsIn (Group t g) b.members
        → bears b S (Group t g) c ≡ bears b S (Original t) c
    delete_group_hits t g q k c j i =
        let o = family.forms.deletes t q k j in
        let f = family.forms.delete_groups t g o.cover (group_listed t g i) o.is in
        let mine = filter (keep (b.context (Original t))) S in
        let same : (e : Cell) → IsIn e S → keep (b.context (Group t g)) e ≡ keep (b.context (Original t)) e = λ e l.
        same_bool (keep (b.context (Group t g)) e) (keep (b.context (Original t)) e)
        (λ m. elim (groups.before t g (Original e.0) i m) [
          | inl a ↦ a
          | inr a ↦ elim a [
            | inl r ↦ let put =
                put_by e l in absurd (both_ways (name_eq t e.0) (not_delete e.0 t put.place put.text q put.context k put.there j)
                (let s : e.0 ≡ t = (cc) in subst (λ (v : NameData). name_eq t v ≡ true) (sym s) (name_itself t)))
            | inr r ↦ let s = r.1 in absurd (cc)
          ]
        ])
        (λ m. group_within t g i (Original e.0) m) in
        cover_on o.cover.place (By t g) (b.form (Group t g)) (filter (keep (b.context (Group t g))) S) mine c f
        (filter_same (keep (b.context (Group t g))) (keep (b.context (Original t))) S same)
        ∙ (ap (λ (v : ℕ). is_on (By t 0) v mine c) o.place ∙ sym (cover_on q (By t 0) (b.form (Original t)) mine mine c o refl))

    -- the mark of a group of an insert is on the cells of the insert
    insert_group_hits : (t : NameData) (g p : ℕ) (text : List ℕ) (k : ContextData) (c : Cell) → IsIn (inserting t p text k) h
        → IsIn (Group t g) b.members
        → bears b S (Group t g) c ≡ name_eq t c.0
    insert_group_hits t g p text k c j i =
        let y : Member = Original t in
        let f = family.forms.inserts t p text k j in
        let a = f.ins in
        let cover = family.forms.insert_groups t g a (group_listed t g i) f.is in
        let listed = listed_of (inserting t p text k) j in
        let needs = b.context y in
        let P = filter (keep needs) S in
        let within : (z : Member) → needs z ≡ true → IsIn z b.members = λ z e. known.causal.listed y z listed e in
        let part =
        part_state w needs b.members none [] fs (base_sound b known.causal y listed).set.closed st df (λ z e. not_both e refl)
        (λ z e. inr (within z e)) in
        let long : length P ≡ weight form_inclusion b needs = ap length part.2 ∙ part.1.weighs in
        let bounded : a.place ≤ weight form_inclusion b needs =
        subst (λ (x : Form). IsBoundedForm x (weight form_inclusion b needs)) f.is (known.bounded y listed) in
        let more =
        one_more w form_at_place needs y (Insert a) b.members [] fs st df within listed (at_base listed (λ z. refl) (sym f.is)) in
        let same : (e : Cell) → IsIn e S → keep (b.context (Group t g)) e ≡ keep (plus needs y) e = λ e m.
        same_bool (keep (b.context (Group t g)) e) (keep (plus needs y) e)
        (λ q. elim (groups.before t g (Original e.0) i q) [
          | inl u ↦ plus_keeps needs y (Original e.0) u
          | inr u ↦ elim u [
            | inl r ↦ subst (λ (z : Member). plus needs y z ≡ true) (sym r) (plus_here needs y)
            | inr r ↦ let v = r.1 in absurd (cc)
          ]
        ])
        (λ q. elim (plus_cases needs y (Original e.0) q) [
          | inl u ↦ group_within t g i (Original e.0) u
          | inr u ↦ subst (λ (z : Member). b.context (Group t g) z ≡ true) u (groups.target t g i)
        ]) in
        let cells : filter (keep (b.context (Group t g))) S ≡ put_in a.place (added_by (Insert a)) P =
        filter_same (keep (b.context (Group t g))) (keep (plus needs y)) S same ∙ more in
        cover_on a.place (Own g) (b.form (Group t g)) (filter (keep (b.context (Group t g))) S) (put_in a.place (added_by (Insert a)) P) c
        cover cells
        ∙ (on_first (Own g) (take a.place P) a (drop a.place P) a.place c (length-take-le a.place P (omega arith))
        ∙ (ap (λ (n : NameData). name_eq c.0 n) f.name ∙ same_names c.0 t))

    -- ---- what an operation's mark does to a cell

    abbrev mark_of : OpData → Cell → CellData → CellData
    mark_of o c d = mark_by (b.form (member_of o)) (bears b S (member_of o) c) d

    -- the original that a group is of is an insert or a delete
    target_is : (t : NameData) (g : ℕ) → IsIn (Group t g) b.members
        → ((p : ℕ) × (text : List ℕ) × (k : ContextData) × IsIn (inserting t p text k) h)
        ⊎ ((p : ℕ) × (k : ContextData) × IsIn (deleting t p k) h)
    target_is t g i =
        let there = known.causal.listed (Group t g) (Original t) i (groups.target t g i) in
        let r = listed_member (Original t) h (subst (λ (ms : List Member). IsIn (Original t) ms) family.members there) in
        of_kind r.0 r.1 r.2
      where
        of_kind : (o : OpData) → IsIn o h → member_of o ≡ Original t
            → ((p : ℕ) × (text : List ℕ) × (k : ContextData) × IsIn (inserting t p text k) h)
            ⊎ ((p : ℕ) × (k : ContextData) × IsIn (deleting t p k) h)
        of_kind (inserting n p text k) j e =
            let s : n ≡ t = (cc) in inl (p, text, k, subst (λ (v : NameData). IsIn (inserting v p text k) h) s j)
        of_kind (deleting n p k) j e = let s : n ≡ t = (cc) in inr (p, k, subst (λ (v : NameData). IsIn (deleting v p k) h) s j)
        of_kind (undoing q n f k) j e = absurd (cc)

    -- ---- generations

    mark_generation : (o : OpData) → IsIn o h → (c : Cell) → IsIn c S → (d : CellData)
        → (mark_of o c d).generation ≡ max (generation_at o c.0) d.generation
    mark_generation (inserting n p text k) i c l d =
        let f = family.forms.inserts n p text k i in
        ap (λ (x : Form). (mark_by x (bears b S (Original n) c) d).generation) f.is ∙ omega arith
    mark_generation (deleting n p k) i c l d =
        by_generation p n 0 (b.form (Original n)) (bears b S (Original n) c) d (family.forms.deletes n p k i) ∙ omega arith
    mark_generation (undoing a t g k) i c l d = elim (target_is t g (listed_of (undoing a t g k) i)) [
      | inl r ↦
          let f = family.forms.inserts t r.0 r.1 r.2 r.3 in
          let listed = listed_of (undoing a t g k) i in
          own_generation f.ins.place g (b.form (Group t g)) (bears b S (Group t g) c) d
          (family.forms.insert_groups t g f.ins (group_listed t g listed) f.is)
          ∙ ap (λ (x : Bool). max (if x then g else 0) d.generation) (insert_group_hits t g r.0 r.1 r.2 c r.3 listed)
      | inr r ↦
          let f = family.forms.deletes t r.0 r.1 r.2 in
          let listed = listed_of (undoing a t g k) i in
          let put = put_by c l in
          let other : name_eq t c.0 ≡ false = not_delete c.0 t put.place put.text r.0 put.context r.1 put.there r.2 in
          by_generation f.cover.place t g (b.form (Group t g)) (bears b S (Group t g) c) d
          (family.forms.delete_groups t g f.cover (group_listed t g listed) f.is)
          ∙ (rw other (omega arith))
    ]

    bare_generation : (c : Cell) (f : Form) → (bare_at c f).generation ≡ 0
    bare_generation c (Insert a) = refl
    bare_generation c (Covered d) = refl

    bare_deleters : (c : Cell) (f : Form) → (bare_at c f).deleters ≡ []
    bare_deleters c (Insert a) = refl
    bare_deleters c (Covered d) = refl

    abbrev marks : Cell → List OpData → CellData
    marks c os = marks_of b S everyone c (members_in os)

    generation_is : (os : List OpData) → ((o : OpData) → IsIn o os → IsIn o h) → (c : Cell) → IsIn c S
        → (marks c os).generation ≡ generation_in os c.0
    generation_is [] all c l = bare_generation c (b.form (Original c.0))
    generation_is (o ∷ os) all c l =
        mark_generation o (all o (inl refl)) c l (marks c os) ∙ ap (max (generation_at o c.0)) (generation_is os (λ p i. all p (inr i)) c l)

    -- ---- deleters

    -- the best of d after a raise of n, if it happens
    raise_best : (d n : NameData) (g : ℕ) (hit : Bool) (es : List Entry) → (name_eq n d ≡ true → hit ≡ true)
        → best d (if hit then raise_in n g es else es) ≡ max (if name_eq n d then suc g else 0) (best d es)
    raise_best d n g hit es f = elim (cases_Bool (name_eq n d)) [
      | inl k ↦ let s : n ≡ d =
          name_same n d k in let e : best d (raise_in n g es) ≡ max (suc g) (best d es) =
          subst (λ (m : NameData). best d (raise_in m g es) ≡ max (suc g) (best d es)) (sym s) (best_raise d g es) in rw (f k, k) e
      | inr k ↦ rw k (by_hit hit k)
    ]
      where
        by_hit : (x : Bool) → name_eq n d ≡ false → best d (if x then raise_in n g es else es) ≡ max 0 (best d es)
        by_hit true k =
            let other : name_eq d n ≡ false =
            false_from_ne_true (name_eq d n)
            (λ e. both_ways (name_eq n d) k (subst (λ (m : NameData). name_eq n m ≡ true) (sym (name_same d n e)) (name_itself n))) in
            best_raise_other d n g es other ∙ omega arith
        by_hit false k = omega arith

    -- d is a delete that hits the cell
    record Deletes (d : NameData) (c : Cell) : Type 0 where
      place : ℕ
      context : ContextData
      there : IsIn (deleting d place context) h
      hit : bears b S (Original d) c ≡ true

    zero_either : (y : Bool) → let z : ℕ = if y then 0 else 0 in z ≡ 0
    zero_either true = refl
    zero_either false = refl

    max_one : (x g r : ℕ) (y : Bool) → x ≡ max (if y then suc g else 0) r → max 1 x ≡ max (suc (if y then g else 0)) (max 1 r)
    max_one x g r true e = omega arith
    max_one x g r false e = omega arith

    mark_best : (o : OpData) → IsIn o h → (c : Cell) (d : NameData) → Deletes d c → (e : CellData)
        → max 1 (best d (mark_of o c e).deleters) ≡ max (suc (generation_at o d)) (max 1 (best d e.deleters))
    mark_best (inserting n p text k) i c d del e =
        let f = family.forms.inserts n p text k i in
        ap (λ (x : Form). max 1 (best d (mark_by x (bears b S (Original n) c) e).deleters)) f.is ∙ omega arith
    mark_best (deleting n p k) i c d del e =
        let f = family.forms.deletes n p k i in
        let hit : name_eq n d ≡ true → bears b S (Original n) c ≡ true =
        λ q. subst (λ (m : NameData). bears b S (Original m) c ≡ true) (sym (name_same n d q)) del.hit in
        let r : best d (mark_of (deleting n p k) c e).deleters ≡ max (if name_eq n d then suc 0 else 0) (best d e.deleters) =
        ap (best d) (by_deleters p n 0 (b.form (Original n)) (bears b S (Original n) c) e f)
        ∙ raise_best d n 0 (bears b S (Original n) c) e.deleters hit in
        max_one (best d (mark_of (deleting n p k) c e).deleters) 0 (best d e.deleters) (name_eq n d) r
        ∙ ap (λ (x : ℕ). max (suc x) (max 1 (best d e.deleters))) (zero_either (name_eq n d))
    mark_best (undoing a t g k) i c d del e = elim (target_is t g (listed_of (undoing a t g k) i)) [
      | inl r ↦
          let f = family.forms.inserts t r.0 r.1 r.2 r.3 in
          let listed = listed_of (undoing a t g k) i in
          let other : name_eq t d ≡ false =
          false_from_ne_true (name_eq t d)
          (λ q. both_ways (name_eq d t) (not_delete t d r.0 r.1 del.place r.2 del.context r.3 del.there)
          (subst (λ (m : NameData). name_eq d m ≡ true) (sym (name_same t d q)) (name_itself d))) in
          ap (λ (es : List Entry). max 1 (best d es))
          (own_deleters f.ins.place g (b.form (Group t g)) (bears b S (Group t g) c) e
          (family.forms.insert_groups t g f.ins (group_listed t g listed) f.is)) ∙ (rw other (omega arith))
      | inr r ↦
          let f = family.forms.deletes t r.0 r.1 r.2 in
          let listed = listed_of (undoing a t g k) i in
          let same = delete_group_hits t g r.0 r.1 c r.2 listed in
          let hit : name_eq t d ≡ true → bears b S (Group t g) c ≡ true =
          λ q. same ∙ subst (λ (m : NameData). bears b S (Original m) c ≡ true) (sym (name_same t d q)) del.hit in
          let raised : best d (mark_of (undoing a t g k) c e).deleters ≡ max (if name_eq t d then suc g else 0) (best d e.deleters) =
          ap (best d) (by_deleters f.cover.place t g (b.form (Group t g)) (bears b S (Group t g) c) e
          (family.forms.delete_groups t g f.cover (group_listed t g listed) f.is))
          ∙ raise_best d t g (bears b S (Group t g) c) e.deleters hit in
          max_one (best d (mark_of (undoing a t g k) c e).deleters) g (best d e.deleters) (name_eq t d) raised
    ]

    suc_max : (x y : ℕ) → max (suc x) (suc y) ≡ suc (max x y)
    suc_max x y = omega arith

    best_is : (os : List OpData) → ((o : OpData) → IsIn o os → IsIn o h) → (c : Cell) (d : NameData) → Deletes d c
        → max 1 (best d (marks c os).deleters) ≡ suc (generation_in os d)
    best_is [] all c d del = ap (λ (es : List Entry). max 1 (best d es)) (bare_deleters c (b.form (Original c.0)))
    best_is (o ∷ os) all c d del =
        mark_best o (all o (inl refl)) c d del (marks c os)
        ∙ (ap (max (suc (generation_at o d))) (best_is os (λ p i. all p (inr i)) c d del)
        ∙ suc_max (generation_at o d) (generation_in os d))

    -- a mark lowers no best
    best_kept : (f : Form) (hit : Bool) (e : CellData) (d : NameData) → best d e.deleters ≤ best d (mark_by f hit e).deleters
    best_kept (Insert a) hit e d = omega arith
    best_kept (Covered k) false e d = omega arith
    best_kept (Covered k) true e d = by_mark k.mark
      where
        by_mark : (m : Mark) → best d e.deleters ≤ best d (marked m e).deleters
        by_mark (Own g) = omega arith
        by_mark (By n g) = best_more d n g e.deleters

    -- a delete that hits the cell is among its deleters
    best_some : (os : List OpData) → ((o : OpData) → IsIn o os → IsIn o h) → (c : Cell) (d : NameData) (del : Deletes d c)
        → IsIn (deleting d del.place del.context) os → 1 ≤ best d (marks c os).deleters
    best_some [] all c d del i = absurd i
    best_some (o ∷ os) all c d del (inl q) =
        let f = family.forms.deletes d del.place del.context del.there in
        let first : (mark_of (deleting d del.place del.context) c (marks c os)).deleters ≡ raise_in d 0 (marks c os).deleters =
        by_deleters del.place d 0 (b.form (Original d)) (bears b S (Original d) c) (marks c os) f
        ∙ ap (λ (x : Bool). if x then raise_in d 0 (marks c os).deleters else (marks c os).deleters) del.hit in
        let r : best d (mark_of (deleting d del.place del.context) c (marks c os)).deleters ≡ max 1 (best d (marks c os).deleters) =
        ap (best d) first ∙ best_raise d 0 (marks c os).deleters in
        let some : 1 ≤ best d (mark_of (deleting d del.place del.context) c (marks c os)).deleters = omega arith in
        subst (λ (p : OpData). 1 ≤ best d (mark_of p c (marks c os)).deleters) q some
    best_some (o ∷ os) all c d del (inr i) =
        let ih = best_some os (λ p j. all p (inr j)) c d del i in
        let more = best_kept (b.form (member_of o)) (bears b S (member_of o) c) (marks c os) d in
        omega arith

    raised_entries : (n : NameData) (g : ℕ) (c : Cell) (e : CellData) → ((x : Entry) → IsIn x e.deleters → Deletes x.0 c)
        → (hit : Bool) (x : Entry) → (hit ≡ true → Deletes n c) → IsIn x (if hit then raise_in n g e.deleters else e.deleters)
        → Deletes x.0 c
    raised_entries n g c e old true x new j = elim (in-raise n g x e.deleters j) [
      | inl p ↦ subst (λ (m : NameData). Deletes m c) (sym p) (new refl)
      | inr y ↦ subst (λ (m : NameData). Deletes m c) y.2 (old y.0 y.1)
    ]
    raised_entries n g c e old false x new j = old x j

    -- each deleter of the cell is a delete that hits it
    mark_entries : (o : OpData) → IsIn o h → (c : Cell) (e : CellData) → ((x : Entry) → IsIn x e.deleters → Deletes x.0 c) → (x : Entry)
        → IsIn x (mark_of o c e).deleters → Deletes x.0 c
    mark_entries (inserting n p text k) i c e old x j =
        let f = family.forms.inserts n p text k i in
        old x (subst (λ (g : Form). IsIn x (mark_by g (bears b S (Original n) c) e).deleters) f.is j)
    mark_entries (deleting n p k) i c e old x j =
        raised_entries n 0 c e old (bears b S (Original n) c) x (λ q. record { place = p; context = k; there = i; hit = q })
        (subst (λ (es : List Entry). IsIn x es)
        (by_deleters p n 0 (b.form (Original n)) (bears b S (Original n) c) e (family.forms.deletes n p k i)) j)
    mark_entries (undoing a t g k) i c e old x j = elim (target_is t g (listed_of (undoing a t g k) i)) [
      | inl r ↦
          let f = family.forms.inserts t r.0 r.1 r.2 r.3 in
          let listed = listed_of (undoing a t g k) i in
          old x (subst (λ (es : List Entry). IsIn x es)
          (own_deleters f.ins.place g (b.form (Group t g)) (bears b S (Group t g) c) e
          (family.forms.insert_groups t g f.ins (group_listed t g listed) f.is)) j)
      | inr r ↦
          let f = family.forms.deletes t r.0 r.1 r.2 in
          let listed = listed_of (undoing a t g k) i in
          let same = delete_group_hits t g r.0 r.1 c r.2 listed in
          raised_entries t g c e old (bears b S (Group t g) c) x
          (λ q. record { place = r.0; context = r.1; there = r.2; hit = sym same ∙ q })
          (subst (λ (es : List Entry). IsIn x es)
          (by_deleters f.cover.place t g (b.form (Group t g)) (bears b S (Group t g) c) e
          (family.forms.delete_groups t g f.cover (group_listed t g listed) f.is)) j)
    ]

    entries_are : (os : List OpData) → ((o : OpData) → IsIn o os → IsIn o h) → (c : Cell) → (x : Entry) → IsIn x (marks c os).deleters
        → Deletes x.0 c
    entries_are [] all c x j = absurd (subst (λ (es : List Entry). IsIn x es) (bare_deleters c (b.form (Original c.0))) j)
    entries_are (o ∷ os) all c x j = mark_entries o (all o (inl refl)) c (marks c os) (entries_are os (λ p i. all p (inr i)) c) x j

    marks_rising : (ms : List Member) (c : Cell) → IsRising (marks_of b S everyone c ms).deleters
    marks_rising [] c = rw (bare_deleters c (b.form (Original c.0))) tt
    marks_rising (m ∷ ms) c = mark_rising (b.form m) (bears b S m c) (marks_of b S everyone c ms) (marks_rising ms c)

    all_h : (o : OpData) → IsIn o h → IsIn o h
    all_h o i = i

    best_of_delete : (c : Cell) (d : NameData) → Deletes d c → best d (marks c h).deleters ≡ suc (generation_in h d)
    best_of_delete c d del =
        let a = best_is h all_h c d del in
        let some = best_some h all_h c d del del.there in
        omega arith

    -- a deleter is a delete that hits the cell, at its generation
    entry_delete : (c : Cell) (n : NameData) (g : ℕ) → IsIn (n, g) (marks c h).deleters → IsDeleter h c n × (g ≡ generation_in h n)
    entry_delete c n g i =
        let del = entries_are h all_h c (n, g) i in
        let one = entry_best (n, g) (marks c h).deleters (marks_rising (members_in h) c) i in
        let two = best_of_delete c n del in
        let same : g ≡ generation_in h n = omega arith in (
          record {
            place = del.place;
            context = del.context;
            there = del.there;
            hit =
                sym (delete_hits n del.place del.context c del.there) ∙ del.hit;
          },
          same,
        )

    delete_entry : (c : Cell) (n : NameData) (g : ℕ) → IsDeleter h c n → g ≡ generation_in h n → IsIn (n, g) (marks c h).deleters
    delete_entry c n g r e =
        let del : Deletes n c =
        record { place = r.place; context = r.context; there = r.there; hit = delete_hits n r.place r.context c r.there ∙ r.hit } in
        best_entry n g (marks c h).deleters (best_of_delete c n del ∙ ap suc (sym e))

    -- a deleter in force is a delete in force that hits the cell
    covered_is : (c : Cell) → list_any (λ (e : Entry). is_even e.1) (marks c h).deleters ≡ list_any (covers h c) h
    covered_is c = same_bool (list_any (λ (e : Entry). is_even e.1) (marks c h).deleters) (list_any (covers h c) h) to from
      where
        to : list_any (λ (e : Entry). is_even e.1) (marks c h).deleters ≡ true → list_any (covers h c) h ≡ true
        to q =
            let r = any_in (λ (e : Entry). is_even e.1) (marks c h).deleters q in
            let n = r.0.0 in
            let del = entry_delete c n r.0.1 r.1 in
            let force : in_force h n ≡ true = subst (λ (g : ℕ). is_even g ≡ true) del.1 r.2 in
            in_any (covers h c) (deleting n del.0.place del.0.context) h del.0.there
            (and_from (in_force h n) (hits h (deleting n del.0.place del.0.context) c) force del.0.hit)

        of_op : (o : OpData) → IsIn o h → covers h c o ≡ true → list_any (λ (e : Entry). is_even e.1) (marks c h).deleters ≡ true
        of_op (inserting n p text k) i q = not_both q refl
        of_op (deleting n p k) i q =
            let r = and_parts (in_force h n) (hits h (deleting n p k) c) q in
            in_any (λ (e : Entry). is_even e.1) (n, generation_in h n) (marks c h).deleters
            (delete_entry c n (generation_in h n) (record { place = p; context = k; there = i; hit = r.1 }) refl) r.0
        of_op (undoing a t g k) i q = not_both q refl

        from : list_any (covers h c) h ≡ true → list_any (λ (e : Entry). is_even e.1) (marks c h).deleters ≡ true
        from q = let r = any_in (covers h c) h q in of_op r.0 r.1 r.2

    shown_is : (c : Cell) → IsIn c S → cell_shown (marks c h) ≡ is_shown h c
    shown_is c i = ap₂ (λ (g : ℕ) (q : Bool). is_even g && not q) (generation_is h all_h c i) (covered_is c)

    key_is : (c : Cell) → cell_key (marks c h) ≡ c
    key_is c = marks_key b S everyone c (members_in h)

    -- ---- the state

    state_is : run w [] fs ≡ map (λ (c : Cell). marks c h) S
    state_is =
        let C = plus_all none b.members in
        let all : filter (keep C) S ≡ S = filter_all (keep C) S (λ c i. (state_after w b.members none [] fs st df).names c i) in
        state_marks b known own_names b.members fs st df
        ∙ (ap (map (λ (c : Cell). marks_of b S C c b.members)) all
        ∙ map_same (λ (c : Cell). marks_of b S C c b.members) (λ (c : Cell). marks c h) S
        (λ c i. marks_same b S C everyone c b.members (λ z j. all_in b.members none z j) ∙ ap (marks_of b S everyone c) family.members))

    in_state : (d : CellData) → IsIn d (run w [] fs) → (c : Cell) × IsIn c S × (d ≡ marks c h)
    in_state d i = in-map (λ (c : Cell). marks c h) d S (subst (λ (ds : List CellData). IsIn d ds) state_is i)

    pub replayed : IsReplayed h (run w [] fs)
    replayed = record {
      cells = is_replay;
      generations =
          λ d i. let r = in_state d i in ap (λ (x : CellData). x.generation) r.2
          ∙ (generation_is h all_h r.0 r.1 ∙ ap (λ (c : Cell). generation_in h c.0) (sym (key_of d r.0 r.2)));
      deleters = λ d i n g. let r = in_state d i in deleters_by d r.0 r.2 (key_of d r.0 r.2) n g;
      once = λ d i. let r = in_state d i in subst (λ (x : CellData). IsRising x.deleters) (sym r.2) (marks_rising (members_in h) r.0);
      shown = λ d i. let r = in_state d i in ap cell_shown r.2 ∙ (shown_is r.0 r.1 ∙ ap (is_shown h) (sym (key_of d r.0 r.2)));
    }
      where
        key_of : (d : CellData) (c : Cell) → d ≡ marks c h → cell_key d ≡ c
        key_of d c e = ap cell_key e ∙ key_is c

        deleters_by : (d : CellData) (c : Cell) → d ≡ marks c h → cell_key d ≡ c → (n : NameData) (g : ℕ)
            → IsIn (n, g) d.deleters ↔ (IsDeleter h (cell_key d) n × (g ≡ generation_in h n))
        deleters_by d c e k n g = (
          λ i. let r =
              entry_delete c n g (subst (λ (x : CellData). IsIn (n, g) x.deleters) e i) in
              (subst (λ (x : Cell). IsDeleter h x n) (sym k) r.0, r.1),
          λ r. subst (λ (x : CellData). IsIn (n, g) x.deleters) (sym e)
              (delete_entry c n g (subst (λ (x : Cell). IsDeleter h x n) k r.0) r.1),
        )
