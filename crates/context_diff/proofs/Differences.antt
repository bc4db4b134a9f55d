-- The laws of members that may be taken out of closed contexts.
use Rattle.std.proofs.Common.{◌≡◌, ◌≢◌, ℕ, ◌+◌, ◌≤◌, Bool, true, false, inl, inr, List, [], ◌∷◌, refl, ap, sym, subst, ◌∙◌, arith, not}
use Rattle.std.specs.Prelude.{◌&&◌, Contains}
use Rattle.std.proofs.lemmas.Bool.{false≢true, and_parts, and_from, or_cases, false_from_ne_true, not_from_false, not-true, cases_Bool, cases_lt}
use Rattle.op_name.specs.NameData.{NameData}
use Rattle.op_name.specs.declared.member.Member.{Member}
use Rattle.op_name.specs.declared.member.Member.TheVariants.{Original, Group}
use Rattle.op_name.specs.Members.{member_eq}
use Rattle.context_vector.specs.Contexts.{ContextData, IsContext, has, count_of, entry_of}
use Rattle.context_vector.specs.Vectors.{IsLastMember, lowered}
use Rattle.context_vector.proofs.CallerLemmas.{has_lowered, lowered_is_context, size_of, same_context}
use Rattle.context_diff.specs.Operations.{OpData, inserting, deleting, undoing, member_of, IsWellFormed}
use Rattle.context_diff.specs.Histories.{is_known, IsValid}
use Rattle.context_diff.specs.Bases.{base_has}
use Rattle.context_diff.specs.ClosedContexts.{MayBeTakenOut}
use Rattle.context_diff.specs.Differences.{LastMayBeTakenOut, TwoMayBeTakenOut}
use Rattle.context_diff.proofs.Names.{member_same, member_itself, member_apart}
use Rattle.context_diff.proofs.Raising.{has_number, has_original, has_generation, has_group}
use Rattle.context_diff.proofs.Known.{known_cases, holder, contains_none}
use Rattle.context_diff.proofs.Valid.{valid_before}
use Rattle.context_diff.proofs.Complete.{IsComplete, complete}
use Rattle.context_diff.proofs.Histories.{own_earlier}
use Rattle.context_diff.proofs.ClosedSets.{IsClosedSet, closed_set, closed_context, in_original, in_group_below, below_group, base_itself}
use Rattle.context_diff.proofs.Order.{base_within}
use Rattle.context_diff.proofs.Ready.{cut_at, passing_there}

-- no member of the context was made after this one
abbrev pub IsUnneeded : List OpData → ContextData → Member → Type 0
IsUnneeded h c x = (y : Member) → has c y ≡ true → base_has h y x ≡ true → ⊥

number_last : (h : List OpData) → IsComplete h → (c : ContextData) (n : NameData) → ((m : Member) → has c m ≡ true → is_known h m ≡ true)
    → has c (Original n) ≡ true → IsUnneeded h c (Original n) → n.number ≡ count_of c n.site
number_last h w c n ready there unneeded =
    let range = has_number c n there in
    let next : NameData = record { site = n.site; number = n.number + 1 } in
    elim (cases_lt n.number (count_of c n.site)) [
      | inl less ↦
          let later = has_original c next (omega arith) (omega arith) in
          let known = ready (Original next) later in
          absurd (unneeded (Original next) later
          (in_original h next (Original n) known (own_earlier h w next known n refl range.0 (omega arith))))
      | inr most ↦ omega (arith, range.1)
    ]

generation_last : (h : List OpData) → (c : ContextData) (t : NameData) (g : ℕ) → ((m : Member) → has c m ≡ true → is_known h m ≡ true)
    → has c (Group t g) ≡ true → IsUnneeded h c (Group t g) → g ≡ entry_of c t
generation_last h c t g ready there unneeded =
    let range = has_generation c t g there in
    elim (cases_lt g (entry_of c t)) [
      | inl less ↦
          let later = has_group c t (g + 1) (omega arith) (omega arith) in
          absurd (unneeded (Group t (g + 1)) later
          (in_group_below h t (g + 1) (Group t g) (ready (Group t (g + 1)) later) (below_group t (g + 1) g range.0 (omega arith))))
      | inr most ↦ omega (arith, range.1)
    ]

-- a member that no other one of the context was made after is the last of its site or its name there
pub unneeded_last : (h : List OpData) → IsComplete h → (c : ContextData) (x : Member)
    → ((m : Member) → has c m ≡ true → is_known h m ≡ true) → has c x ≡ true → IsUnneeded h c x → IsLastMember c x
unneeded_last h w c (Original n) ready there unneeded = number_last h w c n ready there unneeded
unneeded_last h w c (Group t g) ready there unneeded = generation_last h c t g ready there unneeded

has_least : (c : ContextData) (m : Member) → has c m ≡ true → 1 ≤ size_of m
has_least c (Original n) there = (has_number c n there).0
has_least c (Group t g) there = (has_generation c t g there).0

pub lowered_by : (c : ContextData) (o : OpData) → IsContext c → IsWellFormed o → IsContext (lowered c (member_of o))
lowered_by c (inserting n p text d) is f = lowered_is_context c (Original n) is f.in_range.0 tt f.in_range.0.2
lowered_by c (deleting n p d) is f = lowered_is_context c (Original n) is f.in_range.0 tt f.in_range.0.2
lowered_by c (undoing a t g d) is f = lowered_is_context c (Group t g) is f.in_range.1 f.in_range.2 f.in_range.3

-- a context without a member of the history has the form of contexts
lowered_known : (h : List OpData) → IsComplete h → (c : ContextData) (m : Member) → IsContext c → is_known h m ≡ true
    → IsContext (lowered c m)
lowered_known h w c m is known =
    let held = holder h m known in
    subst (λ (x : Member). IsContext (lowered c x)) held.is (lowered_by c held.op is (w.formed held.op held.there))

-- what is left: all others
left_parts : (c : ContextData) (x y : Member) → ((z : Member) → has (lowered c x) z ≡ (has c z && not (member_eq x z)))
    → has (lowered c x) y ≡ true → (has c y ≡ true) × (member_eq x y ≡ false)
left_parts c x y left e =
    let parts = and_parts (has c y) (not (member_eq x y)) (sym (left y) ∙ e) in
    (parts.0, not-true (member_eq x y) parts.1)

left_from : (c : ContextData) (x y : Member) → ((z : Member) → has (lowered c x) z ≡ (has c z && not (member_eq x z))) → has c y ≡ true
    → member_eq x y ≡ false → has (lowered c x) y ≡ true
left_from c x y left there other = left y ∙ and_from (has c y) (not (member_eq x y)) there (not_from_false (member_eq x y) other)

-- a closed context without a member that no other was made after is closed
pub unneeded_out : (h : List OpData) → IsComplete h → (c : ContextData) (x : Member) → IsContext c → IsClosedSet h (has c) → has c x ≡ true
    → IsUnneeded h c x → MayBeTakenOut h c x
unneeded_out h w c x is closed there unneeded =
    let last = unneeded_last h w c x closed.known there unneeded in
    let left = has_lowered c x is last (has_least c x there) in
    record {
      there = there;
      last = last;
      left = closed_context h w (lowered c x) (record {
        known = λ m e. closed.known m (left_parts c x m left e).0;
        closed = λ m y e needs.
            let parts = left_parts c x m left e in
            left_from c x y left (closed.closed m y parts.0 needs)
            (false_from_ne_true (member_eq x y)
            (λ same. unneeded m parts.0 (subst (λ (z : Member). base_has h m z ≡ true) (sym (member_same x y same)) needs)));
      });
    }

pub last_may_be_taken_out : LastMayBeTakenOut
last_may_be_taken_out h from to before m v is closed_from closed_to within e =
    let p : Member → Bool = λ z. has to z && not (has from z) in
    let w = complete h v in
    let of_from = closed_set h w from closed_from in
    let of_to = closed_set h w to closed_to in
    let c = cut_at p h before m [] e in
    let out = and_parts (has to m) (not (has from m)) c.passes in
    let lacks : has from m ≡ false = not-true (has from m) out.1 in
    let both = valid_before c.before c.op c.after (subst IsValid c.whole v) in
    let unneeded : IsUnneeded h to m = λ y there needs.
    elim (cases_Bool (has from y)) [
      | inl in_from ↦ false≢true (sym lacks ∙ of_from.closed y m in_from needs)
      | inr outside ↦ elim (known_cases c.before (c.op ∷ c.after) y
          (ap (λ (k : List OpData). is_known k y) (sym c.whole) ∙ of_to.known y there)) [
            | inl early ↦
                let stands : is_known c.before (member_of c.op) ≡ true =
                base_within c.before (c.op ∷ c.after) (complete c.before both.0) y (member_of c.op) early
                ((λ i. base_has (sym c.whole i) y (c.is i)) ∙ needs) in
                false≢true (sym both.1.new ∙ stands)
            | inr late ↦ elim (or_cases (member_eq (member_of c.op) y) (is_known c.after y) late) [
              | inl same ↦ base_itself h w m (subst (λ (z : Member). base_has h z m ≡ true)
                  (sym (member_same (member_of c.op) y same) ∙ c.is)
                  needs)
              | inr later ↦
                  let listed =
                  passing_there p c.after y later (and_from (has to y) (not (has from y)) there (not_from_false (has from y) outside)) in
                  contains_none y (subst (λ (ms : List Member). Contains ms y) c.rest listed)
            ]
          ]
    ] in
    let taken = unneeded_out h w to m is of_to out.0 unneeded in
    let left = has_lowered to m is taken.last (has_least to m out.0) in (
      taken,
      λ y in_from. left_from to m y left (within y in_from)
          (false_from_ne_true (member_eq m y) (λ same. false≢true (sym lacks ∙ (ap (has from) (member_same m y same) ∙ in_from)))),
    )

-- two members each of which may be taken out
module _ (h : List OpData) (w : IsComplete h) (v : ContextData) (x y : Member) (is : IsContext v) (apart : x ≢ y)
    (first : MayBeTakenOut h v x) (second : MayBeTakenOut h v y) where
  without_x : (z : Member) → has (lowered v x) z ≡ (has v z && not (member_eq x z))
  without_x = has_lowered v x is first.last (has_least v x first.there)

  without_y : (z : Member) → has (lowered v y) z ≡ (has v z && not (member_eq y z))
  without_y = has_lowered v y is second.last (has_least v y second.there)

  of_x : IsClosedSet h (has (lowered v x))
  of_x = closed_set h w (lowered v x) first.left

  of_y : IsClosedSet h (has (lowered v y))
  of_y = closed_set h w (lowered v y) second.left

  still : has (lowered v x) y ≡ true
  still = left_from v x y without_x second.there (member_apart x y apart)

  unrelated : base_has h x y ≡ false
  unrelated =
      false_from_ne_true (base_has h x y)
      (λ needs. false≢true (sym (left_parts v y y without_y
      (of_y.closed x y (left_from v y x without_y first.there (member_apart y x (λ e. apart (sym e)))) needs)).1 ∙ member_itself y))

  known_x : is_known h x ≡ true
  known_x = of_y.known x (left_from v y x without_y first.there (member_apart y x (λ e. apart (sym e))))

  form_without : IsContext (lowered v x)
  form_without = lowered_known h w v x is known_x

  -- nothing of what is left was made after the other one
  unneeded_other : IsUnneeded h (lowered v x) y
  unneeded_other z there needs =
      elim (cases_Bool (member_eq y z)) [
        | inl same ↦ base_itself h w y (subst (λ (m : Member). base_has h m y ≡ true) (sym (member_same y z same)) needs)
        | inr other ↦ false≢true (sym (left_parts v y y without_y
            (of_y.closed z y (left_from v y z without_y (left_parts v x z without_x there).0 other) needs)).1 ∙ member_itself y)
      ]

  other_out : MayBeTakenOut h (lowered v x) y
  other_out = unneeded_out h w (lowered v x) y form_without of_x still unneeded_other

  form_left : IsContext (lowered (lowered v x) y)
  form_left = lowered_known h w (lowered v x) y form_without (of_x.known y still)

  has_left : (z : Member) → has (lowered (lowered v x) y) z ≡ ((has v z && not (member_eq x z)) && not (member_eq y z))
  has_left z =
      has_lowered (lowered v x) y form_without other_out.last (has_least v y second.there) z
      ∙ ap (λ b. b && not (member_eq y z)) (without_x z)

swapped : (a b c : Bool) → ((a && b) && c) ≡ ((a && c) && b)
swapped true true true = refl
swapped true true false = refl
swapped true false true = refl
swapped true false false = refl
swapped false b c = refl

pub two_may_be_taken_out : TwoMayBeTakenOut
two_may_be_taken_out h v x y valid is apart first second =
    let w = complete h valid in
    let back : y ≢ x = λ e. apart (sym e) in
    let one = has_left h w v x y is apart first second in
    let other = has_left h w v y x is back second first in (
      unrelated h w v x y is apart first second,
      unrelated h w v y x is back second first,
      other_out h w v x y is apart first second,
      other_out h w v y x is back second first,
      same_context (lowered (lowered v x) y) (lowered (lowered v y) x) (form_left h w v x y is apart first second)
          (form_left h w v y x is back second first)
          (λ z. one z ∙ (swapped (has v z) (not (member_eq x z)) (not (member_eq y z)) ∙ sym (other z))),
    )
