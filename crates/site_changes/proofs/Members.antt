-- Which members the first operations of a history have: those whose operations stand among them.
use Rattle.std.proofs.Common.{◌≡◌, ℕ, zero, suc, ◌<◌, ◌≤◌, true, false, List, [], ◌∷◌, ◌++◌, Some, None, length, take, drop, slice_get, inl, inr, refl, sym, ◌∙◌, subst, arith, take-append-drop}
use Rattle.std.proofs.lemmas.Bool.{false≢true, false_from_ne_true}
use Rattle.op_name.specs.NameData.{NameData}
use Rattle.op_name.specs.declared.member.Member.{Member}
use Rattle.context_vector.specs.Contexts.{ContextData, has, entry_in, entry_of}
use Rattle.context_diff.specs.Operations.{OpData, member_of}
use Rattle.context_diff.specs.Histories.{is_known, members_in, context_of_all, IsValid, IsValidAfter}
use Rattle.context_diff.proofs.CallerLemmas.{complete, generation_is, known_on, valid_parts}
use Rattle.ttf_form.specs.Families.{IsIn}
use Rattle.undo_group.specs.Laws.Members.{known_as}
use Rattle.site_changes.proofs.Quiet.{generation-append}

got_member : (h : List OpData) (i : ℕ) (m : Member) → slice_get (members_in h) i ≡ Some m
    → (o : OpData) × (slice_get h i ≡ Some o) × (member_of o ≡ m)
got_member [] i m e = let none : None ≡ Some m = e in cc
got_member (o ∷ os) zero m e = let is : member_of o ≡ m = cc in (o, refl, is)
got_member (o ∷ os) (suc i) m e = got_member os i m e

-- an operation in front of a place is among those taken up to it
got_early : (h : List OpData) (i n : ℕ) (o : OpData) → slice_get h i ≡ Some o → i < n → IsIn o (take n h)
got_early [] i n o e lt = let none : None ≡ Some o = e in cc
got_early (p ∷ ps) i zero o e lt = absurd (omega (arith, lt))
got_early (p ∷ ps) zero (suc n) o e lt = let is : p ≡ o = cc in inl (sym is)
got_early (p ∷ ps) (suc i) (suc n) o e lt = inr (got_early ps i n o e (omega (arith, lt)))

-- and the member of any other operation is one of those behind it
got_late : (h : List OpData) (i n : ℕ) (m : Member) → slice_get (members_in h) i ≡ Some m → n ≤ i
    → (j : ℕ) × (slice_get (members_in (drop n h)) j ≡ Some m)
got_late [] i n m e le = let none : None ≡ Some m = e in cc
got_late (p ∷ ps) i zero m e le = (i, e)
got_late (p ∷ ps) zero (suc n) m e le = absurd (omega (arith, le))
got_late (p ∷ ps) (suc i) (suc n) m e le = got_late ps i n m e (omega (arith, le))

-- the first operations don't have the members of those behind them
later_new : (k os : List OpData) → IsValidAfter k os → (j : ℕ) (m : Member) → slice_get (members_in os) j ≡ Some m → is_known k m ≡ false
later_new k [] v j m e = let none : None ≡ Some m = e in cc
later_new k (o ∷ os) v zero m e =
    let is : member_of o ≡ m = cc in subst (λ (x : Member). is_known k x ≡ false) is v.0.new
later_new k (o ∷ os) v (suc j) m e =
    false_from_ne_true (is_known k m)
    (λ t. false≢true (sym (later_new (k ++ o ∷ []) os v.1 j m e) ∙ known_on k (o ∷ []) m t))

module _ (h : List OpData) (v : IsValid h) (n : ℕ) where
  abbrev k : List OpData
  k = take n h

  abbrev at : ContextData
  at = context_of_all k

  parts : IsValid k × IsValidAfter k (drop n h)
  parts = valid_parts k (drop n h) (subst IsValid (sym (take-append-drop n h)) v)

  holds : (m : Member) → has at m ≡ is_known k m
  holds = (complete k parts.0).holds

  pub has_early : (m : Member) (i : ℕ) → slice_get (members_in h) i ≡ Some m → i < n → has at m ≡ true
  has_early m i e lt =
      let got = got_member h i m e in
      holds m ∙ known_as got.0 m k (got_early h i n got.0 got.1 lt) got.2

  pub has_late : (m : Member) (i : ℕ) → slice_get (members_in h) i ≡ Some m → n ≤ i → has at m ≡ false
  has_late m i e le =
      let got = got_late h i n m e le in
      holds m ∙ later_new k (drop n h) parts.1 got.0 m got.1

  pub has_unknown : (m : Member) → is_known h m ≡ false → has at m ≡ false
  has_unknown m e =
      holds m
      ∙ false_from_ne_true (is_known k m) (λ t. false≢true (sym e
      ∙ subst (λ (x : List OpData). is_known x m ≡ true) (take-append-drop n h) (known_on k (drop n h) m t)))

  -- the undo groups of a name that they have are no higher than those that all have
  pub entry_most : (t : NameData) → entry_of at t ≤ entry_of (context_of_all h) t
  entry_most t =
      let whole = generation-append k (drop n h) t in
      let all =
      subst (λ (x : List OpData). entry_of (context_of_all x) t ≡ entry_of (context_of_all h) t) (sym (take-append-drop n h)) refl in
      let first = generation_is k parts.0 t in
      let both = generation_is (k ++ drop n h) (subst IsValid (sym (take-append-drop n h)) v) t in
      omega (arith, whole, all, first, both)

-- a set that has no undo entry has none of a name
pub no_entry : (c : ContextData) (t : NameData) → length c.entries ≡ 0 → entry_of c t ≡ 0
no_entry c t none = without c.entries none
  where
    without : (es : List (NameData × ℕ)) → length es ≡ 0 → entry_in es t ≡ 0
    without [] e = refl
    without (x ∷ xs) e = absurd (omega (arith, e))
