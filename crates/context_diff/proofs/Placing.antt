-- Where the members of a book stand, as operations come and go.
use Rattle.std.proofs.Common.{◌≡◌, ℕ, zero, suc, ◌+◌, ◌-◌, ◌<◌, ◌≤◌, false, inl, inr, List, [], ◌∷◌, ◌++◌, refl, ap, sym, subst, ◌∙◌, arith, length, length-append, take}
use Rattle.std.specs.Prelude.{◌==◌, ◌||◌, Contains, Option, Some, None, option_map, slice_get, if◌then◌else◌}
use Rattle.std.specs.Map.{lookup}
use Rattle.std.proofs.lemmas.Bool.{cases_Bool, cases_lt, eqb-true, false≢true, or_parts}
use Rattle.std.proofs.lemmas.List.{length-take-le}
use Rattle.std.proofs.lemmas.Option.{slice_get_within, slice_get-map}
use Rattle.op_name.specs.declared.member.Member.{Member}
use Rattle.op_name.specs.declared.member.Member.TheVariants.{Original, Group}
use Rattle.op_name.specs.NameData.{NameData}
use Rattle.op_name.specs.Members.{member_eq}
use Rattle.context_vector.specs.Contexts.{count_of, has}
use Rattle.context_diff.specs.Operations.{OpData, member_of}
use Rattle.context_diff.specs.Histories.{is_known, members_in, IsNext, context_of_all}
use Rattle.context_diff.specs.Code.Tallies.{place_at, placed, without_last, ArePlaces, ArePlaced}
use Rattle.context_diff.specs.Code.Kept.{IsPlaceOf, AreGroups}
use Rattle.context_diff.proofs.Names.{member_same, member_itself}
use Rattle.context_diff.proofs.Known.{contains_here, contains_later, known_push}
use Rattle.context_diff.proofs.Raising.{has_number, has_original}
use Rattle.context_diff.proofs.Complete.{IsComplete}
use Rattle.context_diff.proofs.Tallies.{counts_put, number_is, size_put, group_same}

-- ---- Lists with one more at their end

-- what stands in a history stands there with one more
some_on : (h : List OpData) (o : OpData) (i : ℕ) (m : Member) → slice_get (members_in h) i ≡ Some m
    → slice_get (members_in (h ++ o ∷ [])) i ≡ Some m
some_on [] o i m at = let none : None ≡ Some m = at in cc
some_on (p ∷ ps) o zero m at = at
some_on (p ∷ ps) o (suc i) m at = some_on ps o i m at

last_at : (h : List OpData) (o : OpData) → slice_get (members_in (h ++ o ∷ [])) (length h) ≡ Some (member_of o)
last_at [] o = refl
last_at (p ∷ ps) o = last_at ps o

-- and without it, if it is another member
some_back : (h : List OpData) (o : OpData) (i : ℕ) (m : Member) → (member_of o ≡ m → ⊥) → slice_get (members_in (h ++ o ∷ [])) i ≡ Some m
    → slice_get (members_in h) i ≡ Some m
some_back [] o zero m other at = let is : member_of o ≡ m = cc in absurd (other is)
some_back [] o (suc i) m other at = let none : None ≡ Some m = at in cc
some_back (p ∷ ps) o zero m other at = at
some_back (p ∷ ps) o (suc i) m other at = some_back ps o i m other at

get_left : (xs ys : List ℕ) (i : ℕ) → i < length xs → slice_get (xs ++ ys) i ≡ slice_get xs i
get_left [] ys i within = absurd (omega arith)
get_left (x ∷ xs) ys zero within = refl
get_left (x ∷ xs) ys (suc i) within = get_left xs ys i (omega arith)

get_end : (xs : List ℕ) (x i p : ℕ) → slice_get (xs ++ x ∷ []) i ≡ Some p → length xs ≤ i → (i ≡ length xs) × (p ≡ x)
get_end [] x zero p at past = let is : x ≡ p = cc in (refl, sym is)
get_end [] x (suc i) p at past = let none : None ≡ Some p = at in cc
get_end (y ∷ ys) x zero p at past = absurd (omega arith)
get_end (y ∷ ys) x (suc i) p at past = let rest = get_end ys x i p at (omega arith) in (omega (arith, rest.0), rest.1)

get_taken : (n : ℕ) (xs : List ℕ) (i p : ℕ) → slice_get (take n xs) i ≡ Some p → (slice_get xs i ≡ Some p) × (i < n)
get_taken zero [] i p at = let none : None ≡ Some p = at in cc
get_taken zero (x ∷ xs) i p at = let none : None ≡ Some p = at in cc
get_taken (suc n) [] i p at = let none : None ≡ Some p = at in cc
get_taken (suc n) (x ∷ xs) zero p at = (at, omega arith)
get_taken (suc n) (x ∷ xs) (suc i) p at = let rest = get_taken n xs i p at in (rest.0, omega (arith, rest.1))

-- an original with a place is one of as many as there are places
numbered : (places : List ℕ) (n p : ℕ) → place_at places n ≡ Some p → (1 ≤ n) × (n ≤ length places)
numbered places zero p at = let none : None ≡ Some p = at in cc
numbered places (suc n) p at = (omega arith, omega (arith, slice_get_within places n p at))

-- ---- Undo groups

place_push : (h : List OpData) (o : OpData) (m : Member) (r : Option ℕ) → member_eq (member_of o) m ≡ false → IsPlaceOf h m r
    → IsPlaceOf (h ++ o ∷ []) m r
place_push h o m None other unknown = known_push h o m ∙ (λ i. unknown i || other i)
place_push h o m (Some i) other at = some_on h o i m at

place_pop : (h : List OpData) (o : OpData) (m : Member) (r : Option ℕ) → (member_of o ≡ m → ⊥) → IsPlaceOf (h ++ o ∷ []) m r
    → IsPlaceOf h m r
place_pop h o m None other unknown = (or_parts (is_known h m) (member_eq (member_of o) m) (sym (known_push h o m) ∙ unknown)).0
place_pop h o m (Some i) other at = some_back h o i m other at

-- the places with a group more
pub groups_push : (h : List OpData) (o : OpData) (m : Member) (old new : List (Member × ℕ)) → member_of o ≡ m
    → ((q : Member) → lookup (member_eq q) new ≡ (if member_eq m q then Some (length h) else lookup (member_eq q) old)) → AreGroups h old
    → AreGroups (h ++ o ∷ []) new
groups_push h o m old new is put groups t g =
    let q : Member = Group t g in
    elim (cases_Bool (member_eq m q)) [
      | inl same ↦
          let found : lookup (member_eq q) new ≡ Some (length h) = put q ∙ rw same refl in
          subst (IsPlaceOf (h ++ o ∷ []) q) (sym found) (last_at h o ∙ ap (λ (x : Member). Some x) (is ∙ member_same m q same))
      | inr other ↦
          let found : lookup (member_eq q) new ≡ lookup (member_eq q) old = put q ∙ rw other refl in
          subst (IsPlaceOf (h ++ o ∷ []) q) (sym found)
          (place_push h o q (lookup (member_eq q) old) (ap (λ (x : Member). member_eq x q) is ∙ other) (groups t g))
    ]

pub groups_push_original : (h : List OpData) (o : OpData) (n : NameData) (places : List (Member × ℕ)) → member_of o ≡ Original n
    → AreGroups h places → AreGroups (h ++ o ∷ []) places
groups_push_original h o n places is groups t g =
    place_push h o (Group t g) (lookup (member_eq (Group t g)) places) (ap (λ (x : Member). member_eq x (Group t g)) is) (groups t g)

-- and with one less
pub groups_pop : (h : List OpData) (o : OpData) (m : Member) (old new : List (Member × ℕ)) → member_of o ≡ m → is_known h m ≡ false
    → ((q : Member) → lookup (member_eq q) new ≡ (if member_eq m q then None else lookup (member_eq q) old)) → AreGroups (h ++ o ∷ []) old
    → AreGroups h new
groups_pop h o m old new is unknown took groups t g =
    let q : Member = Group t g in
    elim (cases_Bool (member_eq m q)) [
      | inl same ↦
          let found : lookup (member_eq q) new ≡ None = took q ∙ rw same refl in
          subst (IsPlaceOf h q) (sym found) (subst (λ (x : Member). is_known h x ≡ false) (member_same m q same) unknown)
      | inr other ↦
          let found : lookup (member_eq q) new ≡ lookup (member_eq q) old = took q ∙ rw other refl in
          let apart : member_of o ≡ q → ⊥ = λ e. false≢true (sym other ∙ (ap (member_eq m) (sym e ∙ is) ∙ member_itself m)) in
          subst (IsPlaceOf h q) (sym found) (place_pop h o q (lookup (member_eq q) old) apart (groups t g))
    ]

pub groups_pop_original : (h : List OpData) (o : OpData) (n : NameData) (places : List (Member × ℕ)) → member_of o ≡ Original n
    → AreGroups (h ++ o ∷ []) places → AreGroups h places
groups_pop_original h o n places is groups t g =
    let apart : member_of o ≡ Group t g → ⊥ = λ e. (let no : Original n ≡ Group t g = sym is ∙ e in cc) in
    place_pop h o (Group t g) (lookup (member_eq (Group t g)) places) apart (groups t g)

-- ---- Originals

module _ (h : List OpData) (o : OpData) (w : IsComplete h) (next : IsNext h o) where
  -- an original that the history counts is none that comes next
  apart_from_next : (s n : ℕ) → 1 ≤ n → n ≤ count_of (context_of_all h) s → member_of o ≡ Original (record { site = s; number = n }) → ⊥
  apart_from_next s n low high e =
      let m : NameData = record { site = s; number = n } in
      false≢true (sym next.new ∙ (ap (is_known h) e ∙ (sym (w.holds (Original m)) ∙ has_original (context_of_all h) m low high)))

  -- the places of a site that has no original more
  same_push : (s : ℕ) (places : List ℕ) → count_of (context_of_all (h ++ o ∷ [])) s ≡ count_of (context_of_all h) s → ArePlaces h s places
      → ArePlaces (h ++ o ∷ []) s places
  same_push s places same are =
      record { size = are.size ∙ sym same; there = λ n p at. some_on h o p (Original (record { site = s; number = n })) (are.there n p at) }

  same_pop : (s : ℕ) (places : List ℕ) → count_of (context_of_all (h ++ o ∷ [])) s ≡ count_of (context_of_all h) s
      → ArePlaces (h ++ o ∷ []) s places → ArePlaces h s places
  same_pop s places same are = record {
    size = are.size ∙ same;
    there = λ n p at.
        let within = numbered places n p at in
        some_back h o p (Original (record { site = s; number = n }))
        (apart_from_next s n within.0 (omega (arith, within.1, are.size, same))) (are.there n p at);
  }

  module _ (n : NameData) (is : member_of o ≡ Original n) where
    here_push : (places : List ℕ) → ArePlaces h n.site places → ArePlaces (h ++ o ∷ []) n.site (places ++ length h ∷ [])
    here_push places are =
        let number : n.number ≡ length places + 1 = number_is h o w next n is ∙ ap (λ x. x + 1) (sym are.size) in
        let longer : length (places ++ length h ∷ []) ≡ length places + 1 = simp length-append (omega arith) in
        record { size = longer ∙ size_put h o w next n is n.site (length places + 1) refl number; there = λ k p at. entry number k p at }
      where
        entry : n.number ≡ length places + 1 → (k p : ℕ) → place_at (places ++ length h ∷ []) k ≡ Some p
            → slice_get (members_in (h ++ o ∷ [])) p ≡ Some (Original (record { site = n.site; number = k }))
        entry number zero p at = let none : None ≡ Some p = at in cc
        entry number (suc k) p at =
            elim (cases_lt k (length places)) [
              | inl before ↦ some_on h o p (Original (record { site = n.site; number = suc k }))
                  (are.there (suc k) p (sym (get_left places (length h ∷ []) k before) ∙ at))
              | inr last ↦
                  let end = get_end places (length h) k p at last in
                  let same : n.number ≡ suc k = omega (arith, number, end.0) in
                  ap (slice_get (members_in (h ++ o ∷ []))) end.1
                  ∙ (last_at h o ∙ (ap (λ (x : Member). Some x) is ∙ (λ i. Some (Original (record { site = n.site; number = same i })))))
            ]

    here_pop : (places : List ℕ) → ArePlaces (h ++ o ∷ []) n.site places → ArePlaces h n.site (take (length places - 1) places)
    here_pop places are =
        let all : n.number ≡ length places = size_put h o w next n is n.site n.number refl refl ∙ sym are.size in
        let number = number_is h o w next n is in
        let less : length (take (length places - 1) places) ≡ length places - 1 = length-take-le (length places - 1) places (omega arith) in
        record {
          size = less ∙ omega arith;
          there = λ k p at.
              let within = numbered (take (length places - 1) places) k p at in
              some_back h o p (Original (record { site = n.site; number = k }))
              (apart_from_next n.site k within.0 (omega (arith, within.1, less, all, number))) (are.there k p (whole k p at));
        }
      where
        whole : (k p : ℕ) → place_at (take (length places - 1) places) k ≡ Some p → place_at places k ≡ Some p
        whole zero p at = at
        whole (suc k) p at = (get_taken (length places - 1) places k p at).0

    original_push : (s : ℕ) (places : List ℕ) → ArePlaces h s places → ArePlaces (h ++ o ∷ []) s (placed (Original n) (length h) s places)
    original_push s places are =
        elim (cases_Bool (n.site == s)) [
          | inl same ↦
              let at : n.site ≡ s = eqb-true n.site s same in
              rw same (subst (λ t. ArePlaces h t places → ArePlaces (h ++ o ∷ []) t (places ++ length h ∷ [])) at (here_push places) are)
          | inr other ↦ rw other (same_push s places (counts_put h o w next n is s ∙ rw other refl) are)
        ]

    original_pop : (s : ℕ) (places : List ℕ) → ArePlaces (h ++ o ∷ []) s places → ArePlaces h s (without_last (Original n) s places)
    original_pop s places are =
        elim (cases_Bool (n.site == s)) [
          | inl same ↦
              let at : n.site ≡ s = eqb-true n.site s same in
              rw same (subst (λ t. ArePlaces (h ++ o ∷ []) t places → ArePlaces h t (take (length places - 1) places)) at (here_pop places)
              are)
          | inr other ↦ rw other (same_pop s places (counts_put h o w next n is s ∙ rw other refl) are)
        ]

  member_push : (m : Member) → member_of o ≡ m → (s : ℕ) (places : List ℕ) → ArePlaces h s places
      → ArePlaces (h ++ o ∷ []) s (placed m (length h) s places)
  member_push (Original n) is s places are = original_push n is s places are
  member_push (Group t g) is s places are = same_push s places (group_same h o w next t g s is) are

  member_pop : (m : Member) → member_of o ≡ m → (s : ℕ) (places : List ℕ) → ArePlaces (h ++ o ∷ []) s places
      → ArePlaces h s (without_last m s places)
  member_pop (Original n) is s places are = original_pop n is s places are
  member_pop (Group t g) is s places are = same_pop s places (group_same h o w next t g s is) are

  -- the places with a next operation
  pub placed_push : (places now : ℕ → List ℕ) → ArePlaced h places → ((s : ℕ) → now s ≡ placed (member_of o) (length h) s (places s))
      → ArePlaced (h ++ o ∷ []) now
  placed_push places now are more s =
      subst (λ (t : List ℕ). ArePlaces (h ++ o ∷ []) s t) (sym (more s)) (member_push (member_of o) refl s (places s) (are s))

  -- and without it
  pub placed_pop : (places now : ℕ → List ℕ) → ArePlaced (h ++ o ∷ []) places → ((s : ℕ) → now s ≡ without_last (member_of o) s (places s))
      → ArePlaced h now
  placed_pop places now are less s =
      subst (λ (t : List ℕ). ArePlaces h s t) (sym (less s)) (member_pop (member_of o) refl s (places s) (are s))

-- ---- Reading

pub not_past : {A : Type 0} (xs : List A) (i : ℕ) → i < length xs → slice_get xs i ≡ None → ⊥
not_past [] i less none = omega arith
not_past (x ∷ xs) zero less none = cc
not_past (x ∷ xs) (suc i) less none = not_past xs i (omega arith) none

-- a number without a place is no number of the site
unlisted : (places : List ℕ) (n : ℕ) → place_at places n ≡ None → 1 ≤ n → n ≤ length places → ⊥
unlisted places zero none low high = omega arith
unlisted places (suc k) none low high = not_past places k (omega arith) none

-- the place of an original, or that it isn't there
pub original_place : (h : List OpData) → IsComplete h → (n : NameData) (places : List ℕ) → ArePlaces h n.site places → (r : Option ℕ)
    → r ≡ place_at places n.number → IsPlaceOf h (Original n) r
original_place h w n places are None none =
    sym (w.holds (Original n))
    ∙ elim (cases_Bool (has (context_of_all h) (Original n))) [
      | inl there ↦ let within =
          has_number (context_of_all h) n there in absurd (unlisted places n.number (sym none) within.0 (omega (arith, within.1, are.size)))
      | inr missing ↦ missing
    ]
original_place h w n places are (Some p) some = are.there n.number p (sym some)

-- what stands at a place is the operation of the member there
pub record IsAtPlace (h : List OpData) (m : Member) (o : OpData) : Type 0 where
  pub there : Contains h o
  pub is : member_of o ≡ m

pub at_place : (h : List OpData) (m : Member) (i : ℕ) (o : OpData) → slice_get (members_in h) i ≡ Some m → slice_get h i ≡ Some o
    → IsAtPlace h m o
at_place [] m i o named at = let none : None ≡ Some o = at in cc
at_place (p ∷ ps) m zero o named at =
    let is : p ≡ o = cc in
    let member : member_of p ≡ m = cc in
    record { there = subst (Contains (p ∷ ps)) is (contains_here p ps); is = ap member_of (sym is) ∙ member }
at_place (p ∷ ps) m (suc i) o named at =
    let rest = at_place ps m i o named at in
    record { there = contains_later p ps o rest.there; is = rest.is }

-- where a member stands, an operation does
pub none_at : (h : List OpData) (m : Member) (i : ℕ) → slice_get (members_in h) i ≡ Some m → slice_get h i ≡ None → ⊥
none_at h m i named none =
    let gone : None ≡ Some m = sym (slice_get-map member_of h i ∙ ap (option_map member_of) none) ∙ named in
    cc
