-- Undos and redos of marks: to which generation, or why not.
use Rattle.std.specs.Prelude.{◌≡◌, ℕ, ◌+◌, ◌==◌, Result, Ok, Err, IsOk, is_some, if◌then◌else◌}
use Rattle.op_name.specs.NameData.{NameData}
use Rattle.op_name.specs.Members.{is_even}
use Rattle.op_name.specs.declared.member.TheConstants.{GENERATIONS}
use Rattle.context_vector.specs.Contexts.{entry_in}
use Rattle.char_marks.specs.declared.marks.MarkBad.{MarkBad}
use Rattle.char_marks.specs.declared.marks.MarkBad.TheVariants.{Unknown, NotInForce, InForce, GenerationFull, Memory}
use Rattle.char_marks.specs.Marks.{MarksData, mark_named}

-- the undo of a kept mark in force is at the generation after its own
abbrev pub undo_of : MarksData → NameData → Result ℕ MarkBad
undo_of s n =
    if is_some (mark_named s.kept n)
    then (if is_even (entry_in s.raised n) then Ok (entry_in s.raised n + 1) else Err (NotInForce (entry_in s.raised n)))
    else Err (Unknown n)

-- so is the redo of one that isn't in force
abbrev pub redo_of : MarksData → NameData → Result ℕ MarkBad
redo_of s n =
    if is_some (mark_named s.kept n)
    then (if is_even (entry_in s.raised n) then Err (InForce (entry_in s.raised n))
    else if entry_in s.raised n == GENERATIONS then Err GenerationFull else Ok (entry_in s.raised n + 1))
    else Err (Unknown n)

-- the answer is that of the definition, or out of memory where the definition has a generation
abbrev pub IsTurnAnswer : Result ℕ MarkBad → Result ℕ MarkBad → Type 0
IsTurnAnswer r (Ok g) = r ≡ Ok g
IsTurnAnswer r (Err Memory) = IsOk r
IsTurnAnswer r (Err e) = r ≡ Err e
