-- Which cells a mark covers in a history, and when a kept mark fits one.
use Rattle.std.specs.Prelude.{◌≡◌, ◌-◌, ◌==◌, ◌&&◌, Bool, List, Some, take, drop, slice_get}
use Rattle.std.specs.List.{list_any}
use Rattle.op_name.specs.declared.member.Member.TheVariants.{Original}
use Rattle.op_name.specs.NameData.{name_eq}
use Rattle.context_vector.specs.Contexts.{ContextData, has}
use Rattle.context_diff.specs.Operations.{OpData}
use Rattle.context_diff.specs.ClosedContexts.{IsClosedContext}
use Rattle.context_diff.specs.Replays.{Cell, replay_of, seen}
use Rattle.ttf_form.specs.Families.{IsIn}
use Rattle.char_marks.specs.Marks.{MarkData, KeptData}

-- Seen: the cells of the replay, shown or hidden, whose inserts the context has
abbrev pub seen_in : List OpData → ContextData → List Cell
seen_in h c = seen (λ n. has c (Original n)) (replay_of h)

-- the cells that the mark covers, in their order: so many of the seen ones, from its place on
abbrev pub covered : List OpData → MarkData → List Cell
covered h m = take m.len (drop m.place (seen_in h m.context))

-- whether it is that cell
abbrev pub is_cell : Cell → Cell → Bool
is_cell c d = name_eq d.0 c.0 && (d.1 == c.1)

-- Covered: the mark covers the cell
abbrev pub covers_cell : List OpData → MarkData → Cell → Bool
covers_cell h m c = list_any (is_cell c) (covered h m)

-- the history has the members of the mark's context, which is closed, and the mark's end cells are the first and the last one that it
-- covers
pub record IsFit (h : List OpData) (k : KeptData) : Type 0 where
  pub context : IsClosedContext h k.mark.context
  pub first : slice_get (covered h k.mark) 0 ≡ Some k.first
  pub last : slice_get (covered h k.mark) (k.mark.len - 1) ≡ Some k.last

-- so it is of each kept mark
abbrev pub AreFit : List OpData → List KeptData → Type 0
AreFit h ks = (k : KeptData) → IsIn k ks → IsFit h k
