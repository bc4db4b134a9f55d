-- Two histories with the same originals, each at the same generation, have the same text.
use Rattle.std.proofs.Common.{◌≡◌, ◌≢◌, ℕ, zero, suc, Bool, true, false, not, ◌&&◌, List, [], ◌∷◌, length, map, filter, slice_index_or, encode_utf8_all, ◌⊎◌, inl, inr, refl, ap, ap₂, sym, ◌∙◌, subst, arith}
use Rattle.transform_rec.proofs.CallerLemmas.{filter_same, filter_in}
use Rattle.std.proofs.lemmas.Bool.{cases_Bool}
use Rattle.std.proofs.lemmas.Bool.Decides.{nat_tests}
use Rattle.std.specs.List.{list_any}
use Rattle.op_name.specs.declared.member.Member.TheVariants.{Original}
use Rattle.op_name.specs.NameData.{NameData, name_eq}
use Rattle.context_vector.specs.Contexts.{ContextData, has, rank_of}
use Rattle.context_diff.specs.Operations.{OpData, inserting, deleting, undoing, member_of, is_original}
use Rattle.context_diff.specs.Histories.{in_force, Same}
use Rattle.op_name.specs.Members.{is_even}
use Rattle.context_diff.specs.Replays.{Insertion, Cell, run_of, cells_from, insertions_in, is_earlier, fixed_order, replay, replay_of, stands_at, hits, covers, is_shown, shown, character_in, characters_of, text_of}
use Rattle.fixed_replay.specs.Originals.{AreTold, AreToldFrom, AreToldApart}
use Rattle.transform_rec.specs.Lists.{IsIn, SameElements}
use Rattle.fixed_replay.proofs.Elements.{contains_in, in_contains, any_in, in_any, map_same}
use Rattle.fixed_replay.proofs.Sorting.{AreComparable, in-sort_by, sort_by-in, sort_by-sorted, sorted_once}
use Rattle.fixed_replay.proofs.Narrowing.{in-replay}
use Rattle.op_name.proofs.CallerLemmas.{name_itself, name_same}
use Rattle.fixed_replay.proofs.Operations.{known_as}
use Rattle.std.specs.Cmp.{both_ways as same_bool}

-- what is told from all is told from each
pub told_from : (o : OpData) (os : List OpData) → AreToldFrom o os → (p : OpData) → IsIn p os → AreTold o p
told_from o [] t p i = absurd i
told_from o (q ∷ qs) t p (inl e) = subst (λ (r : OpData). AreTold o r) (sym e) t.0
told_from o (q ∷ qs) t p (inr i) = told_from o qs t.1 p i

-- what the replay reads of an insert
abbrev pub insertion : NameData → ℕ → List ℕ → ContextData → Insertion
insertion n p text c = record { name = n; place = p; len = length text; rank = rank_of c; sees = λ m. has c (Original m) }

-- an insert of the list with what the replay reads of it
pub record IsRead (h : List OpData) (i : Insertion) : Type 0 where
  pub name : NameData
  pub place : ℕ
  pub text : List ℕ
  pub context : ContextData
  pub there : IsIn (inserting name place text context) h
  pub is : i ≡ insertion name place text context

read_behind : (i : Insertion) (o : OpData) (os : List OpData) → IsRead os i → IsRead (o ∷ os) i
read_behind i o os r =
    record { name = r.name; place = r.place; text = r.text; context = r.context; there = inr r.there; is = r.is }

pub in-insertions : (i : Insertion) (h : List OpData) → IsIn i (insertions_in h) → IsRead h i
in-insertions i [] a = absurd a
in-insertions i (inserting n p text c ∷ os) (inl e) = record { name = n; place = p; text = text; context = c; there = inl refl; is = e }
in-insertions i (inserting n p text c ∷ os) (inr a) = read_behind i (inserting n p text c) os (in-insertions i os a)
in-insertions i (deleting n p c ∷ os) a = read_behind i (deleting n p c) os (in-insertions i os a)
in-insertions i (undoing s n g c ∷ os) a = read_behind i (undoing s n g c) os (in-insertions i os a)

pub insertions-in : (n : NameData) (p : ℕ) (text : List ℕ) (c : ContextData) (h : List OpData) → IsIn (inserting n p text c) h
    → IsIn (insertion n p text c) (insertions_in h)
insertions-in n p text c [] a = absurd a
insertions-in n p text c (inserting n' p' text' c' ∷ os) (inl e) =
    inl (let a : n ≡ n' = (cc) in
    let b : p ≡ p' = (cc) in
    let t : text ≡ text' = (cc) in
    let d : c ≡ c' = (cc) in
    λ i. insertion (a i) (b i) (t i) (d i))
insertions-in n p text c (inserting n' p' text' c' ∷ os) (inr a) = inr (insertions-in n p text c os a)
insertions-in n p text c (deleting n' p' c' ∷ os) (inl e) = absurd (cc)
insertions-in n p text c (deleting n' p' c' ∷ os) (inr a) = insertions-in n p text c os a
insertions-in n p text c (undoing s n' g c' ∷ os) (inl e) = absurd (cc)
insertions-in n p text c (undoing s n' g c' ∷ os) (inr a) = insertions-in n p text c os a

-- ---- the order of insertions

pub earlier_asym : (o p : Insertion) → is_earlier o p ≡ true → is_earlier p o ≡ false
earlier_asym o p h = grind (arith, nat_tests)

pub earlier_trans : (o p q : Insertion) → is_earlier o p ≡ true → is_earlier p q ≡ true → is_earlier o q ≡ true
earlier_trans o p q h k = grind (arith, nat_tests)

earlier_one : (o p : Insertion) → (o.rank ≡ p.rank → o.name.site ≢ p.name.site) → (is_earlier o p ≡ true) ⊎ (is_earlier p o ≡ true)
earlier_one o p ne = grind (arith, nat_tests)

pub insertions_comparable : (h : List OpData) → AreToldApart h → AreComparable is_earlier (insertions_in h)
insertions_comparable [] t = tt
insertions_comparable (inserting n p text c ∷ os) t = (first, insertions_comparable os t.1)
  where
    first : (z : Insertion) → IsIn z (insertions_in os)
        → (is_earlier (insertion n p text c) z ≡ true) ⊎ (is_earlier z (insertion n p text c) ≡ true)
    first z i = let r = in-insertions z os i in
        let told = told_from (inserting n p text c) os t.0 (inserting r.name r.place r.text r.context) r.there in
        subst (λ (w : Insertion). (is_earlier (insertion n p text c) w ≡ true) ⊎ (is_earlier w (insertion n p text c) ≡ true)) (sym r.is)
        (earlier_one (insertion n p text c) (insertion r.name r.place r.text r.context) (told.keys refl refl))
insertions_comparable (deleting n p c ∷ os) t = insertions_comparable os t.1
insertions_comparable (undoing s n g c ∷ os) t = insertions_comparable os t.1

-- ---- the same replay

module _ (h k : List OpData) (told_h : AreToldApart h) (told_k : AreToldApart k) (same : Same h k) where
  forth : (o : OpData) → is_original o ≡ true → IsIn o h → IsIn o k
  forth o e i = contains_in o k ((same.originals o e).0 (in_contains o h i))

  back : (o : OpData) → is_original o ≡ true → IsIn o k → IsIn o h
  back o e i = contains_in o h ((same.originals o e).1 (in_contains o k i))

  moved : (a b : List OpData) → ((o : OpData) → is_original o ≡ true → IsIn o a → IsIn o b) → (z : Insertion) → IsIn z (insertions_in a)
      → IsIn z (insertions_in b)
  moved a b f z i =
      let r = in-insertions z a i in
      subst (λ (w : Insertion). IsIn w (insertions_in b)) (sym r.is)
      (insertions-in r.name r.place r.text r.context b (f (inserting r.name r.place r.text r.context) refl r.there))

  same_elements : SameElements (fixed_order h) (fixed_order k)
  same_elements = record {
    forth = λ z i. sort_by-in is_earlier z (insertions_in k) (moved h k forth z (in-sort_by is_earlier z (insertions_in h) i));
    back = λ z i. sort_by-in is_earlier z (insertions_in h) (moved k h back z (in-sort_by is_earlier z (insertions_in k) i));
  }

  pub same_order : fixed_order h ≡ fixed_order k
  same_order = sorted_once is_earlier earlier_asym earlier_trans (fixed_order h) (fixed_order k)
      (sort_by-sorted is_earlier earlier_asym earlier_trans (insertions_in h) (insertions_comparable h told_h))
      (sort_by-sorted is_earlier earlier_asym earlier_trans (insertions_in k) (insertions_comparable k told_k))
      same_elements

  pub same_replay : replay_of h ≡ replay_of k
  same_replay = ap (replay [] []) same_order

-- the cells of an insert have its name
in-run : (c : Cell) (n : NameData) (first k : ℕ) → IsIn c (run_of n first k) → c.0 ≡ n
in-run c n first zero i = absurd i
in-run c n first (suc k) (inl e) = ap (λ (d : Cell). d.0) e
in-run c n first (suc k) (inr i) = in-run c n (suc first) k i

-- a cell of the replay is of an insert
pub record IsPut (h : List OpData) (c : Cell) : Type 0 where
  pub place : ℕ
  pub text : List ℕ
  pub context : ContextData
  pub there : IsIn (inserting c.0 place text context) h

pub in-replay_of : (h : List OpData) (c : Cell) → IsIn c (replay_of h) → IsPut h c
in-replay_of h c i = elim (in-replay c (fixed_order h) [] [] i) [
  | inl j ↦ absurd j
  | inr r ↦ of_insert r.0 r.1 r.2
]
  where
    of_insert : (o : Insertion) → IsIn o (fixed_order h) → IsIn c (cells_from o) → IsPut h c
    of_insert o j i =
        let r = in-insertions o h (in-sort_by is_earlier o (insertions_in h) j) in
        let name : c.0 ≡ r.name = in-run c o.name 0 o.len i ∙ ap (λ (x : Insertion). x.name) r.is in
        record {
          place = r.place;
          text = r.text;
          context = r.context;
          there =
              subst (λ (n : NameData). IsIn (inserting n r.place r.text r.context) h) (sym name) r.there;
        }

-- ---- characters

-- the character of a cell is that of its insert's text at the offset
pub character_at : (h : List OpData) → AreToldApart h → (n : NameData) (p : ℕ) (text : List ℕ) (ctx : ContextData) (offset : ℕ)
    → IsIn (inserting n p text ctx) h → character_in h (n, offset) ≡ slice_index_or text offset 0
character_at [] t n p text ctx offset i = absurd i
character_at (inserting n' p' text' ctx' ∷ os) t n p text ctx offset (inl e) =
    let a : n' ≡ n = (cc) in
    let b : text' ≡ text = (cc) in
    let eq : name_eq n' n ≡ true = subst (λ (m : NameData). name_eq n' m ≡ true) a (name_itself n') in
    rw eq (ap (λ (ts : List ℕ). slice_index_or ts offset 0) b)
character_at (inserting n' p' text' ctx' ∷ os) t n p text ctx offset (inr i) = elim (cases_Bool (name_eq n' n)) [
  | inl eq ↦ absurd ((told_from (inserting n' p' text' ctx') os t.0 (inserting n p text ctx) i).names refl refl
      (ap Original (name_same n' n eq)))
  | inr eq ↦ rw eq (character_at os t.1 n p text ctx offset i)
]
character_at (deleting n' p' ctx' ∷ os) t n p text ctx offset (inl e) = absurd (cc)
character_at (deleting n' p' ctx' ∷ os) t n p text ctx offset (inr i) = character_at os t.1 n p text ctx offset i
character_at (undoing s n' g ctx' ∷ os) t n p text ctx offset (inl e) = absurd (cc)
character_at (undoing s n' g ctx' ∷ os) t n p text ctx offset (inr i) = character_at os t.1 n p text ctx offset i

-- ---- the same text

module _ (h k : List OpData) (told_h : AreToldApart h) (told_k : AreToldApart k) (same : Same h k) where
  same_force : (o : OpData) (n : NameData) → IsIn o h → member_of o ≡ Original n → in_force h n ≡ in_force k n
  same_force o n i e = ap is_even (same.generations n (known_as o (Original n) h i e))

  same_hits : (n : NameData) (p : ℕ) (ctx : ContextData) (c : Cell) → hits h (deleting n p ctx) c ≡ hits k (deleting n p ctx) c
  same_hits n p ctx c =
      ap (λ (cs : List Cell). stands_at p (filter (λ d. has ctx (Original d.0)) cs) c) (same_replay h k told_h told_k same)

  same_covers : (o : OpData) (c : Cell) → IsIn o h → covers h c o ≡ covers k c o
  same_covers (inserting n p text ctx) c i = refl
  same_covers (deleting n p ctx) c i = ap₂ (λ (a b : Bool). a && b) (same_force (deleting n p ctx) n i refl) (same_hits n p ctx c)
  same_covers (undoing s n g ctx) c i = refl

  cover_original : (l : List OpData) (c : Cell) (o : OpData) → covers l c o ≡ true → is_original o ≡ true
  cover_original l c (inserting n p text ctx) e = refl
  cover_original l c (deleting n p ctx) e = refl
  cover_original l c (undoing s n g ctx) e = e

  same_covered : (c : Cell) → list_any (covers h c) h ≡ list_any (covers k c) k
  same_covered c = same_bool (list_any (covers h c) h) (list_any (covers k c) k) to from
    where
      to : list_any (covers h c) h ≡ true → list_any (covers k c) k ≡ true
      to e =
          let r = any_in (covers h c) h e in
          in_any (covers k c) r.0 k (forth h k told_h told_k same r.0 (cover_original h c r.0 r.2) r.1) (sym (same_covers r.0 c r.1) ∙ r.2)

      from : list_any (covers k c) k ≡ true → list_any (covers h c) h ≡ true
      from e =
          let r = any_in (covers k c) k e in
          let there = back h k told_h told_k same r.0 (cover_original k c r.0 r.2) r.1 in
          in_any (covers h c) r.0 h there (same_covers r.0 c there ∙ r.2)

  same_is_shown : (c : Cell) → IsIn c (replay_of h) → is_shown h c ≡ is_shown k c
  same_is_shown c i =
      let r = in-replay_of h c i in
      ap₂ (λ (a b : Bool). a && b) (same_force (inserting c.0 r.place r.text r.context) c.0 r.there refl) (ap not (same_covered c))

  pub same_shown : shown h ≡ shown k
  same_shown =
      filter_same (is_shown h) (is_shown k) (replay_of h) same_is_shown ∙ ap (filter (is_shown k)) (same_replay h k told_h told_k same)

  same_character : (c : Cell) → IsIn c (shown h) → character_in h c ≡ character_in k c
  same_character c i =
      let r = in-replay_of h c (filter_in (is_shown h) c (replay_of h) i).0 in
      character_at h told_h c.0 r.place r.text r.context c.1 r.there
      ∙ sym (character_at k told_k c.0 r.place r.text r.context c.1
      (forth h k told_h told_k same (inserting c.0 r.place r.text r.context) refl r.there))

  pub same_characters : characters_of h ≡ characters_of k
  same_characters = map_same (character_in h) (character_in k) (shown h) same_character ∙ ap (map (character_in k)) same_shown

  pub same_text : text_of h ≡ text_of k
  same_text = ap encode_utf8_all same_characters
