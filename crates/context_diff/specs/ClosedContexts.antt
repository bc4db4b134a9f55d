-- Closed contexts of a history, and members that may be taken out of one.
use Rattle.std.specs.Prelude.{◌≡◌, true, List}
use Rattle.op_name.specs.declared.member.Member.{Member}
use Rattle.context_vector.specs.Contexts.{ContextData, HasNoStray, has}
use Rattle.context_vector.specs.Vectors.{IsLastMember, lowered}
use Rattle.context_diff.specs.Operations.{OpData}
use Rattle.context_diff.specs.Histories.{LacksNothing, IsClosed}

-- the history has the members of the context; the context has the original of each of its undo entries, and, with the last
-- original of each site, all that this was made after
pub record IsClosedContext (h : List OpData) (v : ContextData) : Type 0 where
  pub ready : LacksNothing h v
  pub stray : HasNoStray v
  pub closed : IsClosed h v

-- the member is in the context, as the last of its site or its name, and without it the context is closed
pub record MayBeTakenOut (h : List OpData) (v : ContextData) (m : Member) : Type 0 where
  pub there : has v m ≡ true
  pub last : IsLastMember v m
  pub left : IsClosedContext h (lowered v m)
