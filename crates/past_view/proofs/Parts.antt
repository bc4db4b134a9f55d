-- Parts of lists, and what a part of a history says: characters and generations.
use Rattle.std.proofs.Common.{◌≡◌, ℕ, ◌≤◌, Bool, true, if◌then◌else◌, List, [], ◌∷◌, filter, slice_index_or, inl, inr, refl, ap, sym, ◌∙◌, subst, arith}
use Rattle.std.proofs.lemmas.Bool.{cases_Bool, cases_lt, both_ways}
use Rattle.op_name.specs.NameData.{NameData, name_eq}
use Rattle.op_name.specs.declared.member.Member.{Member}
use Rattle.op_name.specs.declared.member.Member.TheVariants.{Original, Group}
use Rattle.op_name.proofs.CallerLemmas.{name_itself, name_same}
use Rattle.context_vector.specs.Contexts.{ContextData, has, entry_of}
use Rattle.context_diff.specs.Operations.{OpData, inserting, deleting, undoing, member_of}
use Rattle.context_diff.specs.Histories.{LacksNothing, generation_at, generation_in}
use Rattle.context_diff.specs.Replays.{Cell, character_in}
use Rattle.context_diff.proofs.CallerLemmas.{has_group, has_generation, holder}
use Rattle.ttf_form.specs.Families.{IsIn}
use Rattle.undo_group.specs.Laws.Members.{contains_in}
use Rattle.transform_rec.proofs.CallerLemmas.{in_filter}
use Rattle.past_view.specs.Pasts.{sub}

-- a part of a part, where the larger one has all of the smaller one
pub part_of_part : {A : Type 0} (p q : A → Bool) (xs : List A) → ((x : A) → p x ≡ true → q x ≡ true)
    → filter p (filter q xs) ≡ filter p xs
part_of_part p q [] h = refl
part_of_part p q (x ∷ xs) h = elim (cases_Bool (p x)) [
  | inl k ↦ let l = h x k in rw (l, k, part_of_part p q xs h) refl
  | inr k ↦ elim (cases_Bool (q x)) [ inl l ↦ rw (l, k) (part_of_part p q xs h) | inr l ↦ rw (l, k) (part_of_part p q xs h) ]
]

module _ (D : Member → Bool) where
  -- the operations whose member is in the set
  abbrev pub part : List OpData → List OpData
  part h = filter (λ o. D (member_of o)) h

  -- a cell whose insert is in the part has its character
  pub character_in_part : (h : List OpData) (c : Cell) → D (Original c.0) ≡ true → character_in (part h) c ≡ character_in h c
  character_in_part [] c e = refl
  character_in_part (inserting n p text k ∷ os) c e = elim (cases_Bool (D (Original n))) [
    | inl d ↦ rw d (ap (λ (z : ℕ). if name_eq n c.0 then slice_index_or text c.1 0 else z) (character_in_part os c e))
    | inr d ↦ elim (cases_Bool (name_eq n c.0)) [
      | inl q ↦ absurd (both_ways (D (Original n)) d (subst (λ (m : NameData). D (Original m) ≡ true) (sym (name_same n c.0 q)) e))
      | inr q ↦ rw (d, q) (character_in_part os c e)
    ]
  ]
  character_in_part (deleting n p k ∷ os) c e = elim (cases_Bool (D (Original n))) [
    | inl d ↦ rw d (character_in_part os c e)
    | inr d ↦ rw d (character_in_part os c e)
  ]
  character_in_part (undoing a t g k ∷ os) c e = elim (cases_Bool (D (Group t g))) [
    | inl d ↦ rw d (character_in_part os c e)
    | inr d ↦ rw d (character_in_part os c e)
  ]

  generation_here : (o : OpData) (t : NameData) (most : ℕ) → ((g : ℕ) → D (Group t g) ≡ true → g ≤ most) → D (member_of o) ≡ true
      → generation_at o t ≤ most
  generation_here (inserting n p text k) t most h d = omega arith
  generation_here (deleting n p k) t most h d = omega arith
  generation_here (undoing a n g k) t most h d = elim (cases_Bool (name_eq n t)) [
    | inl q ↦ rw q (h g (subst (λ (m : NameData). D (Group m g) ≡ true) (name_same n t q) d))
    | inr q ↦ rw q (omega arith)
  ]

  -- generations of the part are those of the set
  pub generation_most : (h : List OpData) (t : NameData) (most : ℕ) → ((g : ℕ) → D (Group t g) ≡ true → g ≤ most)
      → generation_in (part h) t ≤ most
  generation_most [] t most h = omega arith
  generation_most (o ∷ os) t most h =
      let ih = generation_most os t most h in
      elim (cases_Bool (D (member_of o))) [
        | inl d ↦ let here = generation_here o t most h d in rw d (omega (arith, here, ih))
        | inr d ↦ rw d ih
      ]

-- the generation of each operation is reached
generation_reached : (h : List OpData) (o : OpData) (t : NameData) → IsIn o h → generation_at o t ≤ generation_in h t
generation_reached [] o t i = absurd i
generation_reached (p ∷ ps) o t (inl e) =
    let same : generation_at o t ≡ generation_at p t = ap (λ (x : OpData). generation_at x t) e in
    omega arith
generation_reached (p ∷ ps) o t (inr i) = omega (arith, generation_reached ps o t i)

generation_of_group : (o : OpData) (t : NameData) (g : ℕ) → member_of o ≡ Group t g → generation_at o t ≡ g
generation_of_group (inserting n p text k) t g e = absurd (cc)
generation_of_group (deleting n p k) t g e = absurd (cc)
generation_of_group (undoing a n k c) t g e =
    let name : n ≡ t = cc in
    let same : name_eq n t ≡ true = ap (name_eq n) (sym name) ∙ name_itself n in
    rw same (cc)

-- the operations of a set have its generations
pub generation_in_sub : (h : List OpData) (c : ContextData) → LacksNothing h c → (t : NameData)
    → generation_in (sub h c) t ≡ entry_of c t
generation_in_sub h c ready t =
    let most = generation_most (has c) h t (entry_of c t) (λ g d. (has_generation c t g d).1) in
    elim (cases_lt 0 (entry_of c t)) [
      | inl some ↦
          let there : has c (Group t (entry_of c t)) ≡ true = has_group c t (entry_of c t) (omega arith) (omega arith) in
          let held = holder h (Group t (entry_of c t)) (ready (Group t (entry_of c t)) there) in
          let listed : IsIn held.op (sub h c) =
          in_filter (λ o. has c (member_of o)) held.op h (contains_in held.op h held.there) (ap (has c) held.is ∙ there) in
          let least = generation_reached (sub h c) held.op t listed in
          let at = generation_of_group held.op t (entry_of c t) held.is in
          omega (arith, most, least, at)
      | inr none ↦ omega (arith, most, none)
    ]
