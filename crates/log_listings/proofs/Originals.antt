-- The inserts and deletes of a history by their names, and the characters of cells.
use Rattle.std.proofs.Common.{◌≡◌, ℕ, false, List, [], ◌∷◌, Some, None, slice_index_or, refl, ap, sym, subst, ◌∙◌, inl, inr}
use Rattle.std.specs.Prelude.{Contains}
use Rattle.std.proofs.lemmas.Bool.{cases_Bool, false≢true, or_parts}
use Rattle.op_name.specs.declared.member.Member.TheVariants.{Original}
use Rattle.op_name.specs.NameData.{NameData, name_eq}
use Rattle.op_name.specs.Members.{member_eq}
use Rattle.op_name.proofs.CallerLemmas.{name_itself, name_same}
use Rattle.context_diff.specs.Operations.{OpData, inserting, deleting, undoing, member_of}
use Rattle.context_diff.specs.Histories.{IsValid, is_known}
use Rattle.context_diff.specs.Replays.{character_in}
use Rattle.context_diff.proofs.CallerLemmas.{complete, contains_cases, contains_here, contains_later, contains_none, known_member, member_itself, member_same}
use Rattle.fixed_replay.specs.Replayed.{letters_of}
use Rattle.log_listings.specs.Originals.{original_in}

-- ---- the original of a name

-- an original of the history is the one that its name finds, where no other has its name
module _ (o : OpData) (n : NameData) (named : member_of o ≡ Original n) where
  found_among : (h : List OpData) → ((p : OpData) → Contains h p → member_of p ≡ member_of o → p ≡ o) → Contains h o
      → original_in h n ≡ Some o
  found_among [] one at = absurd (contains_none o at)
  found_among (p ∷ ps) one at = elim (cases_Bool (member_eq (member_of p) (Original n))) [
    | inl same ↦
        rw same (ap (λ (q : OpData). Some q)
        (one p (contains_here p ps) (member_same (member_of p) (Original n) same ∙ sym named)))
    | inr other ↦ rw other (elim (contains_cases p ps o at) [
      | inl is ↦ absurd (false≢true (sym other
          ∙ (ap (λ (q : OpData). member_eq (member_of q) (Original n)) is
          ∙ (ap (λ m. member_eq m (Original n)) named ∙ member_itself (Original n)))))
      | inr later ↦ found_among ps (λ q there is. one q (contains_later p ps q there) is) later
    ])
  ]

pub original_found : (h : List OpData) (n : NameData) (o : OpData) → IsValid h → Contains h o → member_of o ≡ Original n
    → original_in h n ≡ Some o
original_found h n o valid at named = found_among o n named h (λ p there same. (complete h valid).one p o there at same) at

-- a name that isn't there finds none
pub original_missing : (h : List OpData) (n : NameData) → is_known h (Original n) ≡ false → original_in h n ≡ None
original_missing [] n e = refl
original_missing (o ∷ os) n e =
    let parts = or_parts (member_eq (member_of o) (Original n)) (is_known os (Original n)) e in
    rw parts.0 (original_missing os n parts.1)

-- ---- the character of a cell

-- no insert of the name brings any
no_character : (h : List OpData) (n : NameData) (k : ℕ) → ((p : OpData) → Contains h p → member_of p ≡ Original n → letters_of p ≡ [])
    → character_in h (n, k) ≡ 0
no_character [] n k none = refl
no_character (inserting m q text c ∷ os) n k none = elim (cases_Bool (name_eq m n)) [
  | inl same ↦
      let empty : text ≡ [] = none (inserting m q text c) (contains_here (inserting m q text c) os) (ap Original (name_same m n same)) in
      rw same (ap (λ (t : List ℕ). slice_index_or t k 0) empty)
  | inr other ↦ rw other (no_character os n k (λ p there. none p (contains_later (inserting m q text c) os p there)))
]
no_character (deleting m q c ∷ os) n k none = no_character os n k (λ p there. none p (contains_later (deleting m q c) os p there))
no_character (undoing a t g c ∷ os) n k none = no_character os n k (λ p there. none p (contains_later (undoing a t g c) os p there))

-- the one insert of the name brings it
inserted_character : (h : List OpData) (n : NameData) (k place : ℕ) (text : List ℕ) (c : _)
    → ((p : OpData) → Contains h p → member_of p ≡ Original n → p ≡ inserting n place text c) → Contains h (inserting n place text c)
    → character_in h (n, k) ≡ slice_index_or text k 0
inserted_character [] n k place text c one at = absurd (contains_none (inserting n place text c) at)
inserted_character (inserting m q letters d ∷ os) n k place text c one at = elim (cases_Bool (name_eq m n)) [
  | inl same ↦
      let is : inserting m q letters d ≡ inserting n place text c =
      one (inserting m q letters d) (contains_here (inserting m q letters d) os) (ap Original (name_same m n same)) in
      rw same (ap (λ (o : OpData). slice_index_or (letters_of o) k 0) is)
  | inr other ↦ rw other (elim (contains_cases (inserting m q letters d) os (inserting n place text c) at) [
    | inl is ↦ let same : m ≡ n = cc in absurd (false≢true (sym other ∙ (ap (λ x. name_eq x n) same ∙ name_itself n)))
    | inr later ↦
        inserted_character os n k place text c (λ p there named. one p (contains_later (inserting m q letters d) os p there) named) later
  ])
]
inserted_character (deleting m q d ∷ os) n k place text c one at =
    elim (contains_cases (deleting m q d) os (inserting n place text c) at) [
      | inl is ↦ absurd (cc)
      | inr later ↦
          inserted_character os n k place text c (λ p there named. one p (contains_later (deleting m q d) os p there) named) later
    ]
inserted_character (undoing a t g d ∷ os) n k place text c one at =
    elim (contains_cases (undoing a t g d) os (inserting n place text c) at) [
      | inl is ↦ absurd (cc)
      | inr later ↦
          inserted_character os n k place text c (λ p there named. one p (contains_later (undoing a t g d) os p there) named) later
    ]

-- so the original of the name tells it
pub character_of_original : (h : List OpData) (n : NameData) (k : ℕ) (o : OpData) → IsValid h → Contains h o → member_of o ≡ Original n
    → character_in h (n, k) ≡ slice_index_or (letters_of o) k 0
character_of_original h n k o valid at named = by o at named
  where
    one : (o : OpData) → Contains h o → member_of o ≡ Original n → (p : OpData) → Contains h p → member_of p ≡ Original n → p ≡ o
    one o at named p there is = (complete h valid).one p o there at (is ∙ sym named)

    by : (o : OpData) → Contains h o → member_of o ≡ Original n → character_in h (n, k) ≡ slice_index_or (letters_of o) k 0
    by (inserting m place text c) at named =
        let same : m ≡ n = cc in
        let here : Contains h (inserting n place text c) = subst (λ (x : NameData). Contains h (inserting x place text c)) same at in
        inserted_character h n k place text c (one (inserting n place text c) here refl) here
    by (deleting m place c) at named =
        no_character h n k (λ p there is. ap letters_of (one (deleting m place c) at named p there is))
    by (undoing a t g c) at named = absurd (cc)

-- of a name that isn't there none is told
pub character_unknown : (h : List OpData) (n : NameData) (k : ℕ) → is_known h (Original n) ≡ false → character_in h (n, k) ≡ 0
character_unknown h n k e =
    no_character h n k (λ p there named.
    absurd (false≢true (sym e ∙ (ap (is_known h) (sym named) ∙ known_member h p there))))
