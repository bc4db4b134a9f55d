-- Undos and redos as one kind of runs.
use Rattle.std.specs.Prelude.{Bool, true, false, List}
use Rattle.op_name.specs.NameData.{NameData}
use Rattle.participant.specs.declared.edits.Edit.{Edit}
use Rattle.participant.specs.Runs.{undos, redos}

-- what has these names is redone, or undone, the last of them first
abbrev pub turns : Bool → List NameData → List Edit
turns true ns = redos ns
turns false ns = undos ns
