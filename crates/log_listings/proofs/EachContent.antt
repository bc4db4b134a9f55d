-- Histories that have the same bytes have the same operations: the bytes are read as contents, one after the other.
use Rattle.std.proofs.Common.{◌≡◌, ℕ, ◌<◌, ◌≤◌, ◌^◌, Bool, true, List, [], ◌∷◌, ◌++◌, Option, Some, None, take, drop, length, refl, ap, ap₂, sym, subst, ◌∙◌, inl, inr, ◌⊎◌, arith, append-nil}
use Rattle.std.specs.Prelude.{Contains, if◌then◌else◌}
use Rattle.std.specs.Int.{w16, w32, from_be_bytes}
use Rattle.std.specs.List.{flat_map}
use Rattle.std.specs.Option.{option_map_or}
use Rattle.std.proofs.lemmas.Bool.{cases_Bool, cases_lt, false≢true}
use Rattle.std.proofs.lemmas.Grind.{flat_map-append}
use Rattle.std.proofs.lemmas.List.{append_cancel_left}
use Rattle.std.proofs.lemmas.Nat.{from_be_bytes-to_be_bytes_2, from_be_bytes-to_be_bytes_4}
use Rattle.op_name.specs.declared.member.Member.{Member}
use Rattle.op_name.specs.declared.member.Member.TheVariants.{Original, Group}
use Rattle.op_name.specs.NameData.{NameData}
use Rattle.op_name.specs.Members.{member_eq}
use Rattle.op_name.proofs.CallerLemmas.{same_parts}
use Rattle.context_vector.specs.Contexts.{has, entry_of}
use Rattle.context_vector.proofs.CallerLemmas.{has_group, group_entered}
use Rattle.context_diff.specs.Operations.{OpData, inserting, deleting, undoing, member_of, is_original, IsWellFormed}
use Rattle.context_diff.specs.Histories.{IsValid, is_known, context_of_all}
use Rattle.context_diff.proofs.CallerLemmas.{complete, all_is_context, contains_here, contains_later, generation_is, holder, known_member}
use Rattle.ttf_form.specs.Families.{IsIn}
use Rattle.wire_codec.specs.declared.version.Version.TheVariants.{Two}
use Rattle.wire_codec.specs.Spelling.{frame, body_bytes}
use Rattle.wire_codec.proofs.CallerLemmas.{frame_once, fits_two, body_long, body_short}
use Rattle.log_listings.specs.Originals.{original_in}
use Rattle.log_listings.specs.Digests.{content_of, group_bytes, members_of, history_bytes}
use Rattle.log_listings.specs.Laws.{SameBytesSameOperations}
use Rattle.log_listings.proofs.Originals.{original_found}
use Rattle.log_listings.proofs.Members.{listed_has, has_listed, in_parts, in_first, in_second}

-- ---- contents

-- what a member's content tells: an insert or delete, or a group
abbrev Item : Type 0
Item = OpData ⊎ (NameData × ℕ)

item_bytes : Item → List ℕ
item_bytes (inl o) = frame Two o
item_bytes (inr e) = group_bytes e.0 e.1

-- its parts are in range
IsItem : Item → Type 0
IsItem (inl o) = IsWellFormed o
IsItem (inr e) = (e.0.site < 2 ^ 16) × (e.0.number < 2 ^ 32) × (e.1 < 2 ^ 16)

-- ---- one content is read from the front

frame_group : (o : OpData) (n : NameData) (g : ℕ) (x y : List ℕ) → IsWellFormed o → frame Two o ++ x ≡ group_bytes n g ++ y → ⊥
frame_group o n g x y well e =
    let long = body_long Two o in
    let short = body_short Two o well.in_range (fits_two o well) in
    let len : length (body_bytes Two o) ≡ 8 =
    sym (from_be_bytes-to_be_bytes_4 (length (body_bytes Two o)) (omega (arith, short)))
    ∙ (ap (λ (bs : List ℕ). from_be_bytes w32 (take 4 bs)) e ∙ from_be_bytes-to_be_bytes_4 8 (omega arith)) in
    omega (arith, long, len)

group_group : (n m : NameData) (g j : ℕ) (x y : List ℕ) → n.site < 2 ^ 16 → n.number < 2 ^ 32 → g < 2 ^ 16 → m.site < 2 ^ 16
    → m.number < 2 ^ 32 → j < 2 ^ 16 → group_bytes n g ++ x ≡ group_bytes m j ++ y → (n ≡ m) × (g ≡ j) × (x ≡ y)
group_group n m g j x y ns nn gs ms mn js e =
    let site : n.site ≡ m.site =
    sym (from_be_bytes-to_be_bytes_2 n.site ns)
    ∙ (ap (λ (bs : List ℕ). from_be_bytes w16 (take 2 (drop 4 bs))) e ∙ from_be_bytes-to_be_bytes_2 m.site ms) in
    let number : n.number ≡ m.number =
    sym (from_be_bytes-to_be_bytes_4 n.number nn)
    ∙ (ap (λ (bs : List ℕ). from_be_bytes w32 (take 4 (drop 6 bs))) e ∙ from_be_bytes-to_be_bytes_4 m.number mn) in
    let generation : g ≡ j =
    sym (from_be_bytes-to_be_bytes_2 g gs)
    ∙ (ap (λ (bs : List ℕ). from_be_bytes w16 (take 2 (drop 10 bs))) e ∙ from_be_bytes-to_be_bytes_2 j js) in
    (same_parts n m site number, generation, ap (drop 12) e)

first_item : (a b : Item) (x y : List ℕ) → IsItem a → IsItem b → item_bytes a ++ x ≡ item_bytes b ++ y → (a ≡ b) × (x ≡ y)
unfolding item_bytes IsItem
first_item (inl o) (inl p) x y well also e =
    let same : o ≡ p = frame_once Two o p x y well (fits_two o well) also (fits_two p also) e in
    (ap inl same, append_cancel_left (frame Two o) x y (e ∙ ap (λ (q : OpData). frame Two q ++ y) (sym same)))
first_item (inl o) (inr e) x y well range is = absurd (frame_group o e.0 e.1 x y well is)
first_item (inr e) (inl p) x y range well is = absurd (frame_group p e.0 e.1 y x well (sym is))
first_item (inr e) (inr f) x y range also is =
    let r = group_group e.0 f.0 e.1 f.1 x y range.0 range.1 range.2 also.0 also.1 also.2 is in
    (ap₂ (λ (n : NameData) (g : ℕ). inr (n, g)) r.0 r.1, r.2)

item_some : (a : Item) (x : List ℕ) → [] ≡ item_bytes a ++ x → ⊥
unfolding item_bytes
item_some (inl o) x e = absurd (cc)
item_some (inr f) x e = absurd (cc)

-- ---- all are

AreItems : List Item → Type 0
AreItems xs = (x : Item) → IsIn x xs → IsItem x

same_items : (xs ys : List Item) → AreItems xs → AreItems ys → flat_map item_bytes xs ≡ flat_map item_bytes ys → xs ≡ ys
unfolding AreItems
same_items [] [] a b e = refl
same_items [] (y ∷ ys) a b e = absurd (item_some y (flat_map item_bytes ys) e)
same_items (x ∷ xs) [] a b e = absurd (item_some x (flat_map item_bytes xs) (sym e))
same_items (x ∷ xs) (y ∷ ys) a b e =
    let r = first_item x y (flat_map item_bytes xs) (flat_map item_bytes ys) (a x (inl refl)) (b y (inl refl)) e in
    ap₂ (λ (z : Item) (zs : List Item). z ∷ zs) r.0 (same_items xs ys (λ z i. a z (inr i)) (λ z i. b z (inr i)) r.1)

-- ---- the contents of a history

told : Option OpData → List Item
told None = []
told (Some o) = inl o ∷ []

items_at : List OpData → Member → List Item
items_at h (Original n) = told (original_in h n)
items_at h (Group n g) = inr (n, g) ∷ []

told_bytes : (o : Option OpData) → flat_map item_bytes (told o) ≡ option_map_or (frame Two) o []
unfolding told item_bytes
told_bytes None = refl
told_bytes (Some o) = append-nil (frame Two o)

at_bytes : (h : List OpData) (m : Member) → flat_map item_bytes (items_at h m) ≡ content_of h m
unfolding items_at item_bytes
at_bytes h (Original n) = told_bytes (original_in h n)
at_bytes h (Group n g) = append-nil (group_bytes n g)

items_bytes : (h : List OpData) (ms : List Member) → flat_map item_bytes (flat_map (items_at h) ms) ≡ flat_map (content_of h) ms
items_bytes h [] = refl
items_bytes h (m ∷ ms) =
    flat_map-append item_bytes (items_at h m) (flat_map (items_at h) ms)
    ∙ ap₂ (λ (xs ys : List ℕ). xs ++ ys) (at_bytes h m) (items_bytes h ms)

-- an element of one of the lists
in_some : {A B : Type 0} (f : A → List B) (xs : List A) (y : B) → IsIn y (flat_map f xs) → (x : A) × IsIn x xs × IsIn y (f x)
in_some f [] y i = absurd i
in_some f (x ∷ xs) y i = elim (in_parts (f x) (flat_map f xs) y i) [
  | inl j ↦ (x, inl refl, j)
  | inr j ↦ let r = in_some f xs y j in (r.0, inr r.1, r.2)
]

in_all : {A B : Type 0} (f : A → List B) (xs : List A) (x : A) (y : B) → IsIn x xs → IsIn y (f x) → IsIn y (flat_map f xs)
in_all f [] x y i j = absurd i
in_all {A} {B} f (z ∷ zs) x y (inl e) j = in_first (f z) (flat_map f zs) y (subst (λ (w : A). IsIn y (f w)) e j)
in_all f (z ∷ zs) x y (inr i) j = in_second (f z) (flat_map f zs) y (in_all f zs x y i j)

-- the original that a name finds is there
found_there : (h : List OpData) (n : NameData) (o : OpData) → original_in h n ≡ Some o → Contains h o
found_there [] n o e = absurd (cc)
found_there (p ∷ ps) n o e = elim (cases_Bool (member_eq (member_of p) (Original n))) [
  | inl same ↦
      let here : Some p ≡ Some o = sym (ap (λ (b : Bool). if b then Some p else original_in ps n) same) ∙ e in
      let is : p ≡ o = cc in
      subst (λ (q : OpData). Contains (p ∷ ps) q) is (contains_here p ps)
  | inr other ↦
      let later : original_in ps n ≡ Some o = sym (ap (λ (b : Bool). if b then Some p else original_in ps n) other) ∙ e in
      contains_later p ps o (found_there ps n o later)
]

module _ (h : List OpData) (v : IsValid h) where
  abbrev all_items : List Item
  all_items = flat_map (items_at h) (members_of (context_of_all h))

  -- an original is told exactly where it is there
  original_told : (n : NameData) (o : OpData) → member_of o ≡ Original n → Contains h o → IsIn {A = Item} (inl o) all_items
  unfolding items_at told
  original_told n o named there =
      let known : has (context_of_all h) (Original n) ≡ true =
      (complete h v).holds (Original n) ∙ (ap (is_known h) (sym named) ∙ known_member h o there) in
      in_all (items_at h) (members_of (context_of_all h)) (Original n) (inl o) (has_listed (context_of_all h) (Original n) known)
      (subst (λ (x : Option OpData). IsIn {A = Item} (inl o) (told x)) (sym (original_found h n o v there named)) (inl refl))

  told_there : (o : OpData) (x : Option OpData) → IsIn {A = Item} (inl o) (told x) → x ≡ Some o
  unfolding told
  told_there o None i = absurd i
  told_there o (Some p) (inl e) = let same : o ≡ p = cc in ap (λ (q : OpData). Some q) (sym same)
  told_there o (Some p) (inr i) = absurd i

  original_at : (o : OpData) (m : Member) → IsIn {A = Item} (inl o) (items_at h m) → Contains h o
  unfolding items_at
  original_at o (Original n) i = found_there h n o (told_there o (original_in h n) i)
  original_at o (Group n g) (inl e) = absurd (cc)
  original_at o (Group n g) (inr i) = absurd i

  original_there : (o : OpData) → IsIn {A = Item} (inl o) all_items → Contains h o
  original_there o i =
      let r = in_some (items_at h) (members_of (context_of_all h)) (inl o) i in original_at o r.0 r.2

  -- so is a group
  group_told : (n : NameData) (g : ℕ) → has (context_of_all h) (Group n g) ≡ true → IsIn {A = Item} (inr (n, g)) all_items
  unfolding items_at
  group_told n g there =
      in_all (items_at h) (members_of (context_of_all h)) (Group n g) (inr (n, g)) (has_listed (context_of_all h) (Group n g) there)
      (inl refl)

  told_group : (n : NameData) (g : ℕ) (x : Option OpData) → IsIn {A = Item} (inr (n, g)) (told x) → ⊥
  unfolding told
  told_group n g None i = i
  told_group n g (Some p) (inl e) = absurd (cc)
  told_group n g (Some p) (inr i) = i

  group_at : (n : NameData) (g : ℕ) (m : Member) → IsIn {A = Item} (inr (n, g)) (items_at h m) → m ≡ Group n g
  unfolding items_at
  group_at n g (Original k) i = absurd (told_group n g (original_in h k) i)
  group_at n g (Group k j) (inl e) =
      let same : ◌≡◌ {A = NameData × ℕ} (n, g) (k, j) = cc in
      ap (λ (x : NameData × ℕ). Group x.0 x.1) (sym same)
  group_at n g (Group k j) (inr i) = absurd i

  group_there : (n : NameData) (g : ℕ) → IsIn {A = Item} (inr (n, g)) all_items → has (context_of_all h) (Group n g) ≡ true
  group_there n g i =
      let r = in_some (items_at h) (members_of (context_of_all h)) (inr (n, g)) i in
      ap (has (context_of_all h)) (sym (group_at n g r.0 r.2))
      ∙ listed_has (context_of_all h) (all_is_context h v) r.0 r.1

  -- all are in range
  group_range : (o : OpData) (n : NameData) (g : ℕ) → IsWellFormed o → member_of o ≡ Group n g
      → (n.site < 2 ^ 16) × (n.number < 2 ^ 32) × (g < 2 ^ 16)
  group_range (inserting m p text c) n g well e = absurd (cc)
  group_range (deleting m p c) n g well e = absurd (cc)
  group_range (undoing a t j c) n g well e =
      let name : t ≡ n = cc in
      let generation : j ≡ g = cc in
      let r = well.in_range in
      let site : t.site < 2 ^ 16 = omega (arith, r.1.0) in
      let number : t.number < 2 ^ 32 = omega (arith, r.1.2) in
      let most : j < 2 ^ 16 = omega (arith, r.3) in (
        subst (λ (x : NameData). x.site < 2 ^ 16) name site,
        subst (λ (x : NameData). x.number < 2 ^ 32) name number,
        subst (λ (x : ℕ). x < 2 ^ 16) generation most,
      )

  are_items : AreItems all_items
  unfolding AreItems IsItem
  are_items (inl o) i = (complete h v).formed o (original_there o i)
  are_items (inr e) i =
      let known : is_known h (Group e.0 e.1) ≡ true = sym ((complete h v).holds (Group e.0 e.1)) ∙ group_there e.0 e.1 i in
      let o = holder h (Group e.0 e.1) known in
      group_range o.op e.0 e.1 ((complete h v).formed o.op o.there) o.is

-- ---- the law

named : (o : OpData) → is_original o ≡ true → (n : NameData) × (member_of o ≡ Original n)
named (inserting n p text c) e = (n, refl)
named (deleting n p c) e = (n, refl)
named (undoing a t g c) e = absurd (false≢true e)

module _ (h k : List OpData) (v : IsValid h) (w : IsValid k) (same : all_items h v ≡ all_items k w) where
  original_also : (o : OpData) → is_original o ≡ true → Contains h o → Contains k o
  original_also o is there =
      let n = named o is in
      original_there k w o (subst (λ (xs : List Item). IsIn {A = Item} (inl o) xs) same (original_told h v n.0 o n.1 there))

  entry_most : (t : NameData) → entry_of (context_of_all h) t ≤ entry_of (context_of_all k) t
  entry_most t =
      let g = entry_of (context_of_all h) t in
      elim (cases_lt 0 g) [
        | inl some ↦
            let there = has_group (context_of_all h) t g some (omega arith) in
            let also =
            group_there k w t g (subst (λ (xs : List Item). IsIn {A = Item} (inr (t, g)) xs) same (group_told h v t g there)) in
            (group_entered (context_of_all k) t g also).1
        | inr none ↦ omega (arith, none)
      ]

pub each_content_is_told : SameBytesSameOperations
unfolding history_bytes
each_content_is_told h k v w e =
    let items : all_items h v ≡ all_items k w =
    same_items (all_items h v) (all_items k w) (are_items h v) (are_items k w)
    (items_bytes h (members_of (context_of_all h)) ∙ (e ∙ sym (items_bytes k (members_of (context_of_all k))))) in
    record {
      originals = λ o is. (original_also h k v w items o is, original_also k h w v (sym items) o is);
      generations = λ t known.
          let there = entry_most h k v w items t in
          let back = entry_most k h w v (sym items) t in
          generation_is h v t ∙ (both (entry_of (context_of_all h) t) (entry_of (context_of_all k) t) there back
          ∙ sym (generation_is k w t));
    }
  where
    both : (a b : ℕ) → a ≤ b → b ≤ a → a ≡ b
    both a b there back = omega (arith, there, back)
