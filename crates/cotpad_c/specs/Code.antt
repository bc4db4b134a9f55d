-- Words that only the contracts of private functions use: the anchor that stands for what is none.
use Rattle.std.specs.Prelude.{Option, Some, None}
use Rattle.op_name.specs.declared.limits.TheConstants.{LETTERS}
use Rattle.tombstone_text.specs.declared.cell.CellId.{CellId}
use Rattle.site_anchors.specs.declared.anchors.Anchor.{Anchor}
use Rattle.site_anchors.specs.declared.anchors.Anchor.TheVariants.{After}
use Rattle.cotpad_c.specs.declared.anchors.CotpadAnchor.{CotpadAnchor}
use Rattle.cotpad_c.specs.Anchors.{anchor_given}

-- a cell that no insert puts: past the last one of the longest
abbrev pub nowhere : CellId
nowhere = record { name = record { site = 0; number = 1 }; offset = LETTERS }

-- an anchor, if there is one, else one beside that cell
abbrev pub anchor_or : Option Anchor → Anchor
anchor_or None = After nowhere
anchor_or (Some a) = a

-- the anchor that a host gives, likewise
abbrev pub anchor_or_nowhere : CotpadAnchor → Anchor
anchor_or_nowhere a = anchor_or (anchor_given a)
