-- A valid history is a family of the editor: unrelated base forms are apart, each is bounded by its base context, and its
-- cells have its own name.
use Rattle.std.proofs.Common.{◌≡◌, ◌≢◌, ℕ, ◌<◌, ◌≤◌, true, List, length, ◌⊎◌, inl, inr, refl, ap, sym, ◌∙◌, subst}
use Rattle.op_name.specs.NameData.{NameData}
use Rattle.op_name.specs.declared.member.Member.{Member}
use Rattle.op_name.specs.declared.member.Member.TheVariants.{Original, Group}
use Rattle.op_name.specs.Members.{target_of}
use Rattle.context_vector.specs.Contexts.{ContextData, has}
use Rattle.context_diff.specs.Operations.{OpData, inserting}
use Rattle.context_diff.specs.Histories.{members_in, is_known, IsValid}
use Rattle.context_diff.specs.Replays.{Insertion, insertions_in, fixed_order, is_earlier}
use Rattle.context_diff.specs.Bases.{original_context, base_has}
use Rattle.context_diff.proofs.CallerLemmas.{IsComplete, complete, group_facts, base_original, base_group, in_original, group_has_target, base_listed, base_stray, in_known}
use Rattle.ttf_form.specs.declared.ins.Ins.{Ins}
use Rattle.ttf_form.specs.declared.form.Form.{Form}
use Rattle.ttf_form.specs.declared.form.Form.TheVariants.{Ins as Insert, Cover as Covered}
use Rattle.ttf_form.specs.Forms.{ins_extent, extent_of, added_by}
use Rattle.ttf_form.specs.Families.{IsIn}
use Rattle.ttf_form.specs.Laws.Cells.{block_lacks}
use Rattle.transform_rec.specs.Lists.{SameElements}
use Rattle.transform_rec.specs.Family.{Family}
use Rattle.transform_rec.specs.Derived.{IsFamily}
use Rattle.transform_rec.specs.Executing.{HasOwnNames, LacksName}
use Rattle.transform_rec.specs.Histories.{family_in}
use Rattle.transform_rec.proofs.CallerLemmas.{history_causal}
use Rattle.fixed_replay.proofs.Families.{HasRanks, HasGroups}
use Rattle.undo_group.specs.BaseForms.{AreBaseForms}
use Rattle.undo_group.specs.Laws.Inserts.{context_of_original, insert_op, forms_apart}
use Rattle.undo_group.specs.Laws.Places.{forms_bounded}
use Rattle.fixed_replay.proofs.HistoryFamilies.{IsFamilyOf}
use Rattle.fixed_replay.proofs.ValidOriginals.{rank_in, rank_is, rank_grows, ranks_apart}
use Rattle.fixed_replay.specs.Insertions.{insertions_of}
use Rattle.fixed_replay.proofs.Editor.{form_inclusion, form_table}
use Rattle.fixed_replay.proofs.Sorting.{in-sort_by, sort_by-in}
use Rattle.fixed_replay.proofs.SameText.{in-insertions, insertions-in, insertion}
use Rattle.fixed_replay.proofs.FixedList.{in-insertions_of, insertions_of-in}
use Rattle.fixed_replay.proofs.Operations.{member_listed}

module _ (h : List OpData) (v : IsValid h) (form : Member → Form) (forms : AreBaseForms h form) where
  abbrev b : Family Form
  b = family_in h form

  complete_h : IsComplete h
  complete_h = complete h v

  listed_known : (m : Member) → IsIn m (members_in h) → is_known h m ≡ true
  listed_known m i = in_known h m i

  own_by : (x : Member) (n : NameData) → IsIn x (members_in h) → x ≢ Original n → (f : Form) → form x ≡ f → LacksName (added_by f) n
  own_by x n i ne (Insert a) e =
      let r = insert_op h v form forms x a i e in
      block_lacks a.name n 0 (ins_extent a) (λ (q : a.name ≡ n). ne (r.is ∙ ap Original (sym r.named ∙ q)))
  own_by x n i ne (Covered d) e = tt

  pub valid_own_names : HasOwnNames form_table b
  valid_own_names x n i ne = own_by x n i ne (form x) refl

  pub valid_family : IsFamily form_inclusion b
  valid_family = record {
    causal = history_causal h form v;
    apart = forms_apart h v form forms;
    bounded = forms_bounded h v form forms;
  }

  -- ---- ranks and groups

  pub valid_ranks : HasRanks b (rank_in h v)
  valid_ranks = record {
    grows = λ n m i e.
        let known = listed_known (Original n) i in
        rank_grows h v m n (base_listed h complete_h (Original n) (Original m) e) known (base_original h n (Original m) e).1;
    apart = λ n m i j ne r. ranks_apart h v n m (listed_known (Original n) i) (listed_known (Original m) j) ne r;
  }

  pub valid_groups : HasGroups b
  valid_groups = record {
    stray = λ x t g i e. base_stray h complete_h x t g e;
    target = λ t g i. group_has_target h t g (listed_known (Group t g) i);
    positive = λ t g i. (group_facts h complete_h t g (listed_known (Group t g) i)).generation;
    before = λ t g y i e. cases_of t g y i (base_group h t g y e).cases;
  }
    where
      cases_of : (t : NameData) (g : ℕ) (y : Member) → IsIn (Group t g) (members_in h)
          → (has (original_context h t) y ≡ true) ⊎ ((y ≡ Original t) ⊎ ((k : ℕ) × (y ≡ Group t k) × (1 ≤ k) × (k < g)))
          → (base_has h (Original t) y ≡ true) ⊎ ((y ≡ Original t) ⊎ ((k : ℕ) × (y ≡ Group t k) × (k < g)))
      cases_of t g y i (inl seen) = inl (in_original h t y (group_facts h complete_h t g (listed_known (Group t g) i)).target seen)
      cases_of t g y i (inr (inl e)) = inr (inl e)
      cases_of t g y i (inr (inr k)) = inr (inr (k.0, k.1, k.3))

  pub valid_is_family : IsFamilyOf h b
  valid_is_family = record { members = refl; contexts = λ o n i e y. context_of_original h v o n i e y; forms = forms }

  -- ---- the inserts of the family are those of the history

  -- what a member with an insert as its form puts
  abbrev put_of : Member → Ins → Insertion
  put_of m a =
      record {
        name = a.name;
        place = a.place;
        len = ins_extent a;
        rank = rank_in h v (target_of m);
        sees =
            λ (n : NameData). base_has h m (Original n);
      }

  put_is : (n : NameData) (p : ℕ) (text : List ℕ) (c : ContextData) (a : Ins) → IsIn (inserting n p text c) h → a.name ≡ n → a.place ≡ p
      → ins_extent a ≡ length text → put_of (Original n) a ≡ insertion n p text c
  put_is n p text c a i name place len =
      let r = rank_is h v (inserting n p text c) n i refl in
      λ j. record {
        name = name j;
        place = place j;
        len = len j;
        rank = r j;
        sees =
            λ m. context_of_original h v (inserting n p text c) n i refl (Original m) j;
      }

  pub same_inserts : SameElements (fixed_order h) (insertions_of b (rank_in h v) (members_in h))
  same_inserts = record {
    forth = λ z i.
        let r = in-insertions z h (in-sort_by is_earlier z (insertions_in h) i) in
        let o = inserting r.name r.place r.text r.context in
        let f = forms.inserts r.name r.place r.text r.context r.there in
        let there = insertions_of-in b (rank_in h v) (members_in h) (Original r.name) f.ins (member_listed o h r.there) f.is in
        subst (λ (x : Insertion). IsIn x (insertions_of b (rank_in h v) (members_in h)))
        (put_is r.name r.place r.text r.context f.ins r.there f.name f.place f.len ∙ sym r.is) there;
    back = λ z i.
        let r = in-insertions_of b (rank_in h v) (members_in h) z i in
        let o = insert_op h v form forms r.member r.ins r.there r.form in
        let f = forms.inserts o.name o.place o.text o.context o.there in
        let len : ins_extent r.ins ≡ length o.text = ap extent_of (sym r.form ∙ (ap form o.is ∙ f.is)) ∙ f.len in
        let same : z ≡ insertion o.name o.place o.text o.context =
        r.is ∙ (ap (λ (m : Member). put_of m r.ins) o.is
        ∙ put_is o.name o.place o.text o.context r.ins o.there o.named o.placed len) in
        subst (λ (x : Insertion). IsIn x (fixed_order h)) (sym same)
        (sort_by-in is_earlier (insertion o.name o.place o.text o.context) (insertions_in h)
        (insertions-in o.name o.place o.text o.context h o.there));
  }
