-- The past of a history: the operations of a set of members, and why a set has no text.
use Rattle.std.specs.Prelude.{◌≡◌, ℕ, List, [], ◌∷◌, Option, Some, None, filter, if◌then◌else◌}
use Rattle.op_name.specs.NameData.{NameData}
use Rattle.op_name.specs.declared.member.Member.TheVariants.{Original}
use Rattle.context_vector.specs.Contexts.{ContextData, HasNoStray, has}
use Rattle.context_diff.specs.Operations.{OpData, member_of}
use Rattle.context_diff.specs.Histories.{LacksNothing, LacksFirst}
use Rattle.context_diff.specs.Books.{IsFirstOpenSite}
use Rattle.context_diff.specs.ClosedContexts.{IsClosedContext}
use Rattle.past_view.specs.declared.past.AtBad.{AtBad}
use Rattle.past_view.specs.declared.past.AtBad.TheVariants.{Unknown, Stray, NotClosed, Memory}

-- Sub: the operations of a history whose member is in the set, in order
abbrev pub sub : List OpData → ContextData → List OpData
sub h c = filter (λ o. has c (member_of o)) h

-- the first of these undone names whose original the set hasn't
abbrev pub first_stray : ContextData → List (NameData × ℕ) → Option NameData
first_stray c [] = None
first_stray c (e ∷ es) = if has c (Original e.0) then first_stray c es else Some e.0

-- each refusal with what it says of the set in the history; no two of the first three hold at once, and a closed set is refused for lack
-- of memory alone
abbrev pub IsRefusal : List OpData → ContextData → AtBad → Type 0
IsRefusal h c (Unknown m) = LacksFirst h c m
IsRefusal h c (Stray n) = LacksNothing h c × (first_stray c c.entries ≡ Some n)
IsRefusal h c (NotClosed s) = LacksNothing h c × HasNoStray c × IsFirstOpenSite h c s
IsRefusal h c Memory = IsClosedContext h c
