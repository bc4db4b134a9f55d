-- Verdicts on delivered operations: the first case that holds (COT 2009: an operation is causally ready once its context is
-- integrated).
use Rattle.std.specs.Prelude.{◌≡◌, ◌⊎◌, ℕ, ◌≤◌, Bool, true, List, [], ◌∷◌, Option, Some, None, Contains, ◌&&◌, ◌||◌, not, nat_le, nat_lt, if◌then◌else◌, option_map}
use Rattle.std.specs.List.{list_any}
use Rattle.std.specs.Option.{option_or, is_none}
use Rattle.op_name.specs.declared.member.Member.{Member}
use Rattle.op_name.specs.declared.member.Member.TheVariants.{Original, Group}
use Rattle.op_name.specs.NameData.{NameData}
use Rattle.op_name.specs.Members.{target_of, member_eq}
use Rattle.context_vector.specs.Contexts.{ContextData, count_in, entry_in}
use Rattle.context_diff.specs.Operations.{OpData, inserting, deleting, undoing, member_of, context_of, is_original}
use Rattle.context_diff.specs.Histories.{generation_in, context_of_all, cells_in, LacksNothing, LacksFirst, IsClosed, HasPlace}
use Rattle.context_vector.specs.Shortfalls.{first_short}
use Rattle.context_diff.specs.Ops.{op_eq}
use Rattle.context_diff.specs.Bases.{original_context}
use Rattle.context_diff.specs.Books.{IsFirstOpenSite}
use Rattle.site_answers.specs.declared.verdict.Verdict.{Verdict}
use Rattle.site_answers.specs.declared.verdict.Verdict.TheVariants.{Repeat, Forged, Waits, NotClosed, PlaceOut, Integrated}

-- ---- what is asked

-- the same insert or delete is in the history; or the history has reached the generation of the undo
abbrev pub is_repeat : List OpData → OpData → Bool
is_repeat h (inserting n p text c) = list_any (op_eq (inserting n p text c)) h
is_repeat h (deleting n p c) = list_any (op_eq (deleting n p c)) h
is_repeat h (undoing a t g c) = nat_le g (generation_in h t)

-- the same member with other content
abbrev pub is_other : OpData → OpData → Bool
is_other o p = member_eq (member_of o) (member_of p) && not (op_eq o p)

-- an insert or delete of this name with other content is in the history or waits
abbrev pub is_forged : List OpData → List OpData → OpData → Bool
is_forged h w o = is_original o && (list_any (is_other o) h || list_any (is_other o) w)

-- the first member of the context, in the order of members, that `have` lacks
abbrev pub first_lacked : ContextData → ContextData → Option Member
first_lacked have c =
    option_or
    (option_map (λ p. Original (record { site = p.0; number = p.1 })) (first_short (count_in have.counts) c.counts))
    (option_map (λ e. Group e.0 e.1) (first_short (entry_in have.entries) c.entries))

-- the first member of the context that the history lacks
abbrev pub lacked : List OpData → ContextData → Option Member
lacked h c = first_lacked (context_of_all h) c

-- all that the original of this name was made after is in the context
abbrev pub is_covered : List OpData → ContextData → NameData → Bool
is_covered h c n = is_none (first_lacked c (original_context h n))

-- the first of these sites, each with the number of its last original, of which that original isn't covered
abbrev pub first_uncovered : List OpData → ContextData → List (ℕ × ℕ) → Option ℕ
first_uncovered h c [] = None
first_uncovered h c (p ∷ ps) = if is_covered h c (record { site = p.0; number = p.1 }) then first_uncovered h c ps else Some p.0

-- ---- the verdict

-- on an original whose context is there: a site that isn't covered, or else whether the place is among the cells
abbrev pub placed_verdict : Option ℕ → Bool → ℕ → ℕ → Verdict
placed_verdict (Some s) fits place cells = NotClosed s
placed_verdict None fits place cells = if fits then Integrated else PlaceOut place cells

-- on an operation whose context is there
abbrev pub ready_verdict : List OpData → OpData → Verdict
ready_verdict h (inserting n p text c) = placed_verdict (first_uncovered h c c.counts) (nat_le p (cells_in h c)) p (cells_in h c)
ready_verdict h (deleting n p c) = placed_verdict (first_uncovered h c c.counts) (nat_lt p (cells_in h c)) p (cells_in h c)
ready_verdict h (undoing a t g c) = Integrated

-- it waits for the missing member, if there is one
abbrev pub waiting_verdict : Option Member → Verdict → Verdict
waiting_verdict (Some m) v = Waits m
waiting_verdict None v = v

-- Verdict: on an operation, over a history and the operations that wait
abbrev pub verdict_of : List OpData → List OpData → OpData → Verdict
verdict_of h w o =
    if is_repeat h o
    then Repeat
    else if is_forged h w o then Forged (target_of (member_of o)) else waiting_verdict (lacked h (context_of o)) (ready_verdict h o)

-- ---- the same in words

-- the same insert or delete is in the history; or the history has reached the generation of the undo
abbrev pub IsRepeat : List OpData → OpData → Type 0
IsRepeat h (inserting n p text c) = Contains h (inserting n p text c)
IsRepeat h (deleting n p c) = Contains h (deleting n p c)
IsRepeat h (undoing a t g c) = g ≤ generation_in h t

-- among the operations is an original of this name that isn't o
pub record HasOther (os : List OpData) (o : OpData) (n : NameData) : Type 0 where
  pub other : OpData
  pub there : Contains os other
  pub same_name : member_of other ≡ Original n
  pub differs : ¬ (other ≡ o)

-- the operation is an original of this name, and another of the name is in the history or waits
pub record IsForgery (h w : List OpData) (o : OpData) (n : NameData) : Type 0 where
  pub name : member_of o ≡ Original n
  pub known : HasOther h o n ⊎ HasOther w o n

-- no case before that of readiness holds
pub record IsNew (h w : List OpData) (o : OpData) : Type 0 where
  pub no_repeat : ¬ IsRepeat h o
  pub no_forgery : (n : NameData) → ¬ IsForgery h w o n

-- the place that an original names
abbrev pub place_in : OpData → Option ℕ
place_in (inserting n p text c) = Some p
place_in (deleting n p c) = Some p
place_in (undoing a t g c) = None

-- each verdict with what it says
abbrev pub IsVerdict : List OpData → List OpData → OpData → Verdict → Type 0
IsVerdict h w o Repeat = IsRepeat h o
IsVerdict h w o (Forged n) = (¬ IsRepeat h o) × IsForgery h w o n
IsVerdict h w o (Waits m) = IsNew h w o × LacksFirst h (context_of o) m
IsVerdict h w o (NotClosed s) = IsNew h w o × LacksNothing h (context_of o) × (is_original o ≡ true) × IsFirstOpenSite h (context_of o) s
IsVerdict h w o (PlaceOut p k) =
    IsNew h w o × LacksNothing h (context_of o) × IsClosed h (context_of o) × (¬ HasPlace h o) × (place_in o ≡ Some p)
    × (k ≡ cells_in h (context_of o))
IsVerdict h w o Integrated = IsNew h w o × LacksNothing h (context_of o) × (is_original o ≡ true → IsClosed h (context_of o)) × HasPlace h o
