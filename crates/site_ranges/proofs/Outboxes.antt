-- The frames of what stands from an index on, and of what a set of members lacks.
use Rattle.std.proofs.Common.{◌≡◌, ℕ, zero, suc, ◌+◌, ◌<◌, ◌≤◌, Bool, true, false, List, [], ◌∷◌, ◌++◌, length, drop, get_or, refl, sym, ap, subst, inl, inr, ◌∙◌, arith}
use Rattle.std.specs.Prelude.{Some, None, Contains, ◌&&◌, not, filter, option_map, slice_get, if◌then◌else◌}
use Rattle.std.proofs.lemmas.List.{drop_all, length-map}
use Rattle.std.proofs.lemmas.Option.{slice_get-map}
use Rattle.op_name.specs.declared.member.Member.{Member}
use Rattle.context_vector.specs.Contexts.{ContextData, Within, has}
use Rattle.context_diff.specs.Operations.{OpData, member_of}
use Rattle.context_diff.specs.Histories.{members_in, context_of_all, IsValid}
use Rattle.context_diff.specs.Differences.{difference_of}
use Rattle.context_diff.proofs.CallerLemmas.{complete, contains_cases, contains_here, contains_later, contains_none, holder, known_member}
use Rattle.cot_site.proofs.CallerLemmas.{got_there}
use Rattle.wire_codec.specs.declared.version.Version.TheVariants.{Two}
use Rattle.wire_codec.specs.Spelling.{frame}
use Rattle.site_ranges.specs.Frames.{frames_of, lacked_by}
use Rattle.site_ranges.proofs.Undoers.{known_by}

-- ---- frames of what stands from a place on

frames_cut : (os : List OpData) (i : ℕ) (o : OpData) → slice_get os i ≡ Some o
    → frames_of (drop i os) ≡ frame Two o ++ frames_of (drop (suc i) os)
frames_cut [] i o at = cc
frames_cut (p ∷ ps) zero o at = let same : p ≡ o = cc in ap (λ (x : OpData). frame Two x ++ frames_of ps) same
frames_cut (p ∷ ps) (suc i) o at = frames_cut ps i o at

-- one was written
pub frames_next : (os : List OpData) (i : ℕ) (o : OpData) → slice_get os i ≡ Some o
    → frames_of (drop i os) ≡ frame Two o ++ frames_of (drop (i + 1) os)
frames_next os i o at =
    let next : suc i ≡ i + 1 = omega arith in
    frames_cut os i o at ∙ ap (λ (n : ℕ). frame Two o ++ frames_of (drop n os)) next

-- all were written
pub frames_ended : (os : List OpData) (i : ℕ) → length os ≤ i → frames_of (drop i os) ≡ []
frames_ended os i past = ap frames_of (drop_all i os past)

-- ---- what is lacked

-- the members of what is lacked of some operations of a set: those that the one set has and the other hasn't
lacked_members : (from to : ContextData) (os : List OpData) → ((o : OpData) → Contains os o → has to (member_of o) ≡ true)
    → filter (λ y. has to y && not (has from y)) (members_in os) ≡ members_in (lacked_by from os)
lacked_members from to [] known = refl
lacked_members from to (o ∷ os) known =
    by (has to (member_of o)) (not (has from (member_of o))) (known o (contains_here o os))
    (lacked_members from to os (λ p at. known p (contains_later o os p at)))
  where
    by : (t b : Bool) → t ≡ true
        → filter (λ y. has to y && not (has from y)) (members_in os) ≡ members_in (lacked_by from os)
        → (if t && b
        then member_of o ∷ filter (λ y. has to y && not (has from y)) (members_in os)
        else filter (λ y. has to y && not (has from y)) (members_in os))
        ≡ members_in (if b then o ∷ lacked_by from os else lacked_by from os)
    by true true is rest = ap (λ (ms : List Member). member_of o ∷ ms) rest
    by true false is rest = rest
    by false b is rest = cc

-- of all members of a history a set lacks those of the operations that it lacks
pub difference_is : (h : List OpData) (from all : ContextData) → IsValid h → all ≡ context_of_all h
    → difference_of h from all ≡ members_in (lacked_by from h)
difference_is h from all valid is =
    lacked_members from all h (λ o at. known_by h all (member_of o) valid is ∙ known_member h o at)

-- each operation that is lacked is one of the history
pub lacked_there : (c : ContextData) (os : List OpData) (o : OpData) → Contains (lacked_by c os) o → Contains os o
lacked_there c [] o at = at
lacked_there c (p ∷ ps) o at = by (not (has c (member_of p))) (lacked_there c ps o) at
  where
    by : (b : Bool) → (Contains (lacked_by c ps) o → Contains ps o) → Contains (if b then p ∷ lacked_by c ps else lacked_by c ps) o
        → Contains (p ∷ ps) o
    by true rest there = elim (contains_cases p (lacked_by c ps) o there) [
      | inl same ↦ subst (λ (x : OpData). Contains (p ∷ ps) x) same (contains_here p ps)
      | inr later ↦ contains_later p ps o (rest later)
    ]
    by false rest there = contains_later p ps o (rest there)

-- where nothing is lacked, the set has each
had : (c : ContextData) (os : List OpData) → lacked_by c os ≡ [] → (o : OpData) → Contains os o → has c (member_of o) ≡ true
had c [] none o at = absurd (contains_none o at)
had c (p ∷ ps) none o at = by (has c (member_of p)) refl (λ rest. had c ps rest o) none
  where
    by : (b : Bool) → has c (member_of p) ≡ b → (lacked_by c ps ≡ [] → Contains ps o → has c (member_of o) ≡ true)
        → (if not b then p ∷ lacked_by c ps else lacked_by c ps) ≡ [] → has c (member_of o) ≡ true
    by true is rest none = elim (contains_cases p ps o at) [
      | inl same ↦ ap (λ (x : OpData). has c (member_of x)) (sym same) ∙ is
      | inr later ↦ rest none later
    ]
    by false is rest none = cc

pub nothing_lacked : (h : List OpData) (c all : ContextData) → IsValid h → all ≡ context_of_all h → lacked_by c h ≡ [] → Within all c
nothing_lacked h c all valid is none m there =
    let held = holder h m (sym (known_by h all m valid is) ∙ there) in
    ap (has c) (sym held.is) ∙ had c h none held.op held.there

-- ---- one of those that are lacked

-- the operation that stands at this place, with this member
pub record StandsAt (os : List OpData) (i : ℕ) (m : Member) : Type 0 where
  pub op : OpData
  pub at : slice_get os i ≡ Some op
  pub there : Contains os op
  pub is : member_of op ≡ m

pub stands_at : (os : List OpData) (i : ℕ) (m d : Member) → i < length os → m ≡ get_or (members_in os) i d → StandsAt os i m
stands_at [] i m d lt is = absurd (omega (arith, lt))
stands_at (o ∷ os) zero m d lt is = record { op = o; at = refl; there = contains_here o os; is = sym is }
stands_at (o ∷ os) (suc i) m d lt is =
    let s = stands_at os i m d (omega (arith, lt)) is in
    record { op = s.op; at = s.at; there = contains_later o os s.op s.there; is = s.is }

module _ (h : List OpData) (from to : ContextData) (old now ms : List Member) (valid : IsValid h) (all : to ≡ context_of_all h)
    (none : old ≡ []) (made : now ≡ old ++ difference_of h from to) (is : ms ≡ now) where
  members : ms ≡ members_in (lacked_by from h)
  members = is ∙ made ∙ ap (λ (xs : List Member). xs ++ difference_of h from to) none ∙ difference_is h from to valid all

  long : length ms ≡ length (lacked_by from h)
  long = ap length members ∙ length-map (lacked_by from h) member_of

  -- each of the members that were listed is that of an operation that is lacked, at the same place
  pub lacked_at : (i : ℕ) (m : Member) → i < length ms → m ≡ get_or ms i m → StandsAt (lacked_by from h) i m
  lacked_at i m lt at =
      stands_at (lacked_by from h) i m m (omega (arith, lt, long)) (at ∙ ap (λ (xs : List Member). get_or xs i m) members)

  pub lacked_ended : (i : ℕ) → length ms ≤ i → frames_of (drop i (lacked_by from h)) ≡ []
  lacked_ended i past = frames_ended (lacked_by from h) i (omega (arith, past, long))

-- nothing stands in no list
pub none_empty : (os : List OpData) (i : ℕ) (o : OpData) → slice_get os i ≡ Some o → os ≡ [] → ⊥
none_empty os i o at none = empty (sym (ap (λ (xs : List OpData). slice_get xs i) none) ∙ at)
  where
    empty : None ≡ Some o → ⊥
    empty same = cc

-- the operation at the place of a member is the one that is that member
pub one_there : (h : List OpData) (i : ℕ) (m : Member) (q o : OpData) → IsValid h → slice_get h i ≡ Some q
    → slice_get (members_in h) i ≡ Some m → Contains h o → member_of o ≡ m → q ≡ o
one_there h i m q o valid at place there is =
    let named : Some (member_of q) ≡ Some m = ap (option_map member_of) (sym at) ∙ sym (slice_get-map member_of h i) ∙ place in
    let same : member_of q ≡ m = cc in
    (complete h valid).one q o (got_there h i q at) there (same ∙ sym is)
