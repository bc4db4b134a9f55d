-- The last mark so far that gives a cell its value.
use Rattle.std.specs.Prelude.{ℕ, Bool, true, List, Option, Some, None, ◌&&◌, ◌||◌, ◌==◌, nat_lt, if◌then◌else◌}
use Rattle.op_name.specs.NameData.{NameData, name_lt}
use Rattle.context_diff.specs.Operations.{OpData}
use Rattle.context_diff.specs.Replays.{Cell}
use Rattle.char_marks.specs.declared.value.Kind.{Kind}
use Rattle.char_marks.specs.declared.reading.Top.{Top}
use Rattle.char_marks.specs.Marks.{MarkData, KeptData}
use Rattle.char_marks.specs.Values.{is_borne}

-- what is kept of a mark
abbrev pub top_of : MarkData → Top
top_of m = record { rank = m.rank; name = m.name; value = m.value }

-- whether a mark comes after the last one so far
abbrev pub is_after : Option Top → MarkData → Bool
is_after None m = true
is_after (Some t) m = nat_lt t.rank m.rank || ((t.rank == m.rank) && name_lt t.name m.name)

-- the last one with one mark more
abbrev pub next_top : Option Top → MarkData → Option Top
next_top b m = if is_after b m then Some (top_of m) else b

-- the same with one kept mark more, which counts only where it gives the cell a value
abbrev pub top_with : Kind → List OpData → List (NameData × ℕ) → Cell → Option Top → KeptData → Option Top
top_with kind h raised c b k = if is_borne kind h raised c k.mark then next_top b k.mark else b
