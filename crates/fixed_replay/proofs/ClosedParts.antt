-- The replay of a closed part of a history is, in order, the cells of the whole replay whose inserts are in the part.
use Rattle.std.proofs.Common.{◌≡◌, ℕ, Bool, true, List, [], ◌∷◌, filter, inl, inr, refl, ap, sym, ◌∙◌, subst}
use Rattle.std.proofs.lemmas.Bool.{cases_Bool}
use Rattle.op_name.specs.NameData.{NameData}
use Rattle.op_name.specs.declared.member.Member.{Member}
use Rattle.op_name.specs.declared.member.Member.TheVariants.{Original}
use Rattle.context_diff.specs.Operations.{OpData, inserting, member_of}
use Rattle.context_diff.specs.Histories.{members_in, IsValid}
use Rattle.context_diff.specs.Replays.{Insertion, insertions_in, fixed_order, is_earlier, replay, replay_of}
use Rattle.context_diff.proofs.CallerLemmas.{IsClosedSet}
use Rattle.ttf_form.specs.declared.form.Form.{Form}
use Rattle.ttf_form.specs.Cells.{CellData, cells_of}
use Rattle.ttf_form.specs.Families.{IsIn}
use Rattle.undo_group.specs.BaseForms.{AreBaseForms, base_form}
use Rattle.undo_group.specs.Laws.Forms.{base_forms_hold}
use Rattle.transform_rec.specs.Sets.{none, IsSubset}
use Rattle.transform_rec.specs.Lists.{SameElements}
use Rattle.transform_rec.specs.Family.{Family}
use Rattle.transform_rec.specs.Derived.{IsFamily}
use Rattle.transform_rec.specs.Executing.{Setting, HasOwnNames, keep}
use Rattle.transform_rec.specs.Histories.{family_in}
use Rattle.transform_rec.proofs.CallerLemmas.{IsRising, At, Forms, Run, run, run_forms, empty_state, part_run, filter_in, in_filter, restricted}
use Rattle.fixed_replay.specs.Originals.{AreToldFrom, AreToldApart}
use Rattle.fixed_replay.specs.Insertions.{insertions_of}
use Rattle.fixed_replay.proofs.Editor.{form_inclusion, form_table, setting_of, insert_owner}
use Rattle.fixed_replay.proofs.Elements.{not_both}
use Rattle.fixed_replay.proofs.ExecutedForms.{any_order_replayed, any_list_replayed}
use Rattle.fixed_replay.proofs.Families.{HasRanks, HasGroups}
use Rattle.fixed_replay.proofs.FixedList.{fixed_list, fixed_rising, fixed_same, fixed_run, IsInserted, in-insertions_of, insertions_of-in, rising_inserts}
use Rattle.fixed_replay.proofs.SameText.{IsRead, in-insertions, insertions-in, insertion, earlier_asym, earlier_trans, insertions_comparable}
use Rattle.fixed_replay.proofs.Sorting.{in-sort_by, sort_by-in, sort_by-sorted, sorted_once}
use Rattle.fixed_replay.proofs.ValidFamilies.{valid_family, valid_own_names, valid_ranks, valid_groups, same_inserts}
use Rattle.fixed_replay.proofs.ValidOriginals.{rank_in, told_apart}

-- the operations whose member is in the set
abbrev pub part : (Member → Bool) → List OpData → List OpData
part D h = filter (λ o. D (member_of o)) h

-- a part of a sorted list is sorted
rising_part : {A : Type 0} (less : A → A → Bool) (p : A → Bool) (xs : List A) → IsRising less xs → IsRising less (filter p xs)
rising_part less p [] r = tt
rising_part less p (x ∷ xs) r = elim (cases_Bool (p x)) [
  | inl k ↦ rw k ((λ z i. r.0 z (filter_in p z xs i).0), rising_part less p xs r.1)
  | inr k ↦ rw k (rising_part less p xs r.1)
]

told_from_part : (D : Member → Bool) (o : OpData) (os : List OpData) → AreToldFrom o os → AreToldFrom o (part D os)
told_from_part D o [] t = tt
told_from_part D o (p ∷ ps) t = elim (cases_Bool (D (member_of p))) [
  | inl k ↦ rw k (t.0, told_from_part D o ps t.1)
  | inr k ↦ rw k (told_from_part D o ps t.1)
]

-- originals that can be told apart in a history can be in a part of it
told_in_part : (D : Member → Bool) (h : List OpData) → AreToldApart h → AreToldApart (part D h)
told_in_part D [] t = tt
told_in_part D (o ∷ os) t = elim (cases_Bool (D (member_of o))) [
  | inl k ↦ rw k (told_from_part D o os t.0, told_in_part D os t.1)
  | inr k ↦ rw k (told_in_part D os t.1)
]

module _ (h : List OpData) (v : IsValid h) (D : Member → Bool) (closed : IsClosedSet h D) where
  abbrev b : Family Form
  b = family_in h (base_form h)

  forms : AreBaseForms h (base_form h)
  forms = base_forms_hold h v

  known : IsFamily form_inclusion b
  known = valid_family h v (base_form h) forms

  own_names : HasOwnNames form_table b
  own_names = valid_own_names h v (base_form h) forms

  abbrev w : Setting Form (List CellData)
  w = setting_of b known own_names

  abbrev rank : NameData → ℕ
  rank = rank_in h v

  ranks : HasRanks b rank
  ranks = valid_ranks h v (base_form h) forms

  groups : HasGroups b
  groups = valid_groups h v (base_form h) forms

  -- all members in their fixed order, and those of the set
  abbrev list : List Member
  list = fixed_list b known.causal rank ranks groups

  abbrev there : List Member
  there = filter D list

  same_members : SameElements list (members_in h)
  same_members = fixed_same b known.causal rank ranks groups

  start : At w none []
  start = empty_state w [] refl

  base_within : (x : Member) → D x ≡ true → IsSubset (b.context x) D
  base_within x e y k = closed.closed x y e k

  list_run : Run w none list
  list_run = fixed_run b known.causal rank ranks groups

  list_forms : (fs : List Form) × Forms w none list fs
  list_forms = run_forms w list none list_run

  part_forms : (fs : List Form) × Forms w none there fs
  part_forms = run_forms w there none (part_run w D base_within list none (λ z e. not_both e refl) list_run)

  whole_cells : cells_of (run w [] list_forms.0) ≡ replay_of h
  whole_cells = (any_order_replayed h v (base_form h) forms list list_forms.0 same_members list_forms.1).cells

  part_cells : filter (keep D) (cells_of (run w [] list_forms.0)) ≡ cells_of (run w [] part_forms.0)
  part_cells = restricted w D list none [] list_forms.0 part_forms.0 start (λ z e. not_both e refl) list_forms.1 part_forms.1

  along_part : replay [] [] (insertions_of b rank there) ≡ cells_of (run w [] part_forms.0)
  along_part = any_list_replayed h (base_form h) rank there part_forms.0 v forms part_forms.1

  -- ---- the inserts of the part in their order

  part_listed : (z : Member) → IsIn z there → IsIn z (members_in h)
  part_listed z i = same_members.forth z (filter_in D z list i).0

  whole_inserts : SameElements (fixed_order h) (insertions_of b rank (members_in h))
  whole_inserts = same_inserts h v (base_form h) forms

  -- an insert of the part is one of the whole, and its name is in the set
  in_whole : (z : Insertion) → IsRead (part D h) z → IsIn z (fixed_order h) × (D (Original z.name) ≡ true)
  in_whole z r =
      let passed = filter_in (λ p. D (member_of p)) (inserting r.name r.place r.text r.context) h r.there in (
        subst (λ (x : Insertion). IsIn x (fixed_order h)) (sym r.is)
            (sort_by-in is_earlier (insertion r.name r.place r.text r.context) (insertions_in h)
            (insertions-in r.name r.place r.text r.context h passed.0)),
        subst (λ (x : Insertion). D (Original x.name) ≡ true) (sym r.is) passed.1,
      )

  -- an insert of the whole whose name is in the set is one of the part
  in_part : (z : Insertion) → IsRead h z → D (Original z.name) ≡ true → IsIn z (fixed_order (part D h))
  in_part z r within =
      let named : D (Original r.name) ≡ true = subst (λ (x : Insertion). D (Original x.name) ≡ true) r.is within in
      subst (λ (x : Insertion). IsIn x (fixed_order (part D h))) (sym r.is)
      (sort_by-in is_earlier (insertion r.name r.place r.text r.context) (insertions_in (part D h))
      (insertions-in r.name r.place r.text r.context (part D h)
      (in_filter (λ p. D (member_of p)) (inserting r.name r.place r.text r.context) h r.there named)))

  -- the same of the inserts of members
  member_in_part : (z : Insertion) → IsInserted b rank (members_in h) z → D (Original z.name) ≡ true → IsIn z (insertions_of b rank there)
  member_in_part z q within =
      let owner : q.member ≡ Original q.ins.name = insert_owner b own_names q.member q.ins q.there q.form in
      let named : D q.member ≡ true =
      ap D owner ∙ subst (λ (x : Insertion). D (Original x.name) ≡ true) q.is within in
      subst (λ (x : Insertion). IsIn x (insertions_of b rank there)) (sym q.is)
      (insertions_of-in b rank there q.member q.ins (in_filter D q.member list (same_members.back q.member q.there) named) q.form)

  member_in_whole : (z : Insertion) → IsInserted b rank there z
      → IsIn z (insertions_of b rank (members_in h)) × (D (Original z.name) ≡ true)
  member_in_whole z q =
      let passed = filter_in D q.member list q.there in
      let listed = same_members.forth q.member passed.0 in
      let owner : q.member ≡ Original q.ins.name = insert_owner b own_names q.member q.ins listed q.form in (
        subst (λ (x : Insertion). IsIn x (insertions_of b rank (members_in h))) (sym q.is)
            (insertions_of-in b rank (members_in h) q.member q.ins listed q.form),
        subst (λ (x : Insertion). D (Original x.name) ≡ true) (sym q.is) (ap D (sym owner) ∙ passed.1),
      )

  same_part : SameElements (fixed_order (part D h)) (insertions_of b rank there)
  same_part = record {
    forth = λ z i.
        let r = in_whole z (in-insertions z (part D h) (in-sort_by is_earlier z (insertions_in (part D h)) i)) in
        member_in_part z (in-insertions_of b rank (members_in h) z (whole_inserts.forth z r.0)) r.1;
    back = λ z i.
        let r = member_in_whole z (in-insertions_of b rank there z i) in
        in_part z (in-insertions z h (in-sort_by is_earlier z (insertions_in h) (whole_inserts.back z r.0))) r.1;
  }

  part_order : fixed_order (part D h) ≡ insertions_of b rank there
  part_order =
      sorted_once is_earlier earlier_asym earlier_trans (fixed_order (part D h)) (insertions_of b rank there)
      (sort_by-sorted is_earlier earlier_asym earlier_trans (insertions_in (part D h))
      (insertions_comparable (part D h) (told_in_part D h (told_apart h v))))
      (rising_inserts b known own_names rank ranks groups there part_listed
      (rising_part _ D list (fixed_rising b known.causal rank ranks groups)))
      same_part

  pub part_replay : replay_of (part D h) ≡ filter (keep D) (replay_of h)
  part_replay = ap (replay [] []) part_order ∙ (along_part ∙ (sym part_cells ∙ ap (filter (keep D)) whole_cells))
