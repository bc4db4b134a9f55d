-- What is kept beside operations that wait: members without which they aren't ready.
use Rattle.std.specs.Prelude.{◌≡◌, ◌+◌, ◌≤◌, true, List, [], ◌∷◌, Option, Some, None}
use Rattle.op_name.specs.declared.member.Member.TheVariants.{Original}
use Rattle.op_name.specs.NameData.{NameData}
use Rattle.op_name.specs.declared.member.Member.{Member}
use Rattle.context_vector.specs.Contexts.{ContextData, has}
use Rattle.context_diff.specs.Operations.{OpData, member_of, context_of}
use Rattle.causal_gate.specs.Waiting.{IsReady}

-- the hint is nothing, or a member of the operation's context
abbrev pub IsHint : OpData → Option Member → Type 0
IsHint o None = Unit {0}
IsHint o (Some m) = has (context_of o) m ≡ true

-- each operation of the list has a hint, at its place
abbrev pub AreHints : List OpData → List (Option Member) → Type 0
AreHints [] [] = Unit {0}
AreHints [] (h ∷ hs) = ⊥
AreHints (o ∷ os) [] = ⊥
AreHints (o ∷ os) (h ∷ hs) = IsHint o h × AreHints os hs

-- the operation is the original of its site that comes right after the one of this name
pub record IsRightBefore (b : NameData) (o : OpData) : Type 0 where
  pub name : NameData
  pub is : member_of o ≡ Original name
  pub site : b.site ≡ name.site
  pub number : b.number + 1 ≡ name.number
  pub least : 1 ≤ b.number

-- the name is nothing, or that of an original that each set has in which the operation is ready
abbrev pub IsBefore : OpData → Option NameData → Type 0
IsBefore o None = Unit {0}
IsBefore o (Some n) = (have : ContextData) → IsReady have o → has have (Original n) ≡ true

-- each operation of the list has such a name, at its place
abbrev pub AreBefore : List OpData → List (Option NameData) → Type 0
AreBefore [] [] = Unit {0}
AreBefore [] (n ∷ ns) = ⊥
AreBefore (o ∷ os) [] = ⊥
AreBefore (o ∷ os) (n ∷ ns) = IsBefore o n × AreBefore os ns
