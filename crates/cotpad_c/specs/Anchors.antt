-- Anchors as a host reads them, and as it gives them back.
use Rattle.std.specs.Prelude.{ℕ, ◌==◌, ◌&&◌, Bool, List, Option, Some, None, map, nat_le, nat_lt, option_map, if◌then◌else◌}
use Rattle.op_name.specs.declared.name.TheConstants.{SITES, NUMBERS}
use Rattle.op_name.specs.declared.limits.TheConstants.{LETTERS}
use Rattle.context_diff.specs.Operations.{OpData}
use Rattle.tombstone_text.specs.declared.cell.CellId.{CellId}
use Rattle.site_anchors.specs.declared.anchors.Anchor.{Anchor}
use Rattle.site_anchors.specs.declared.anchors.Anchor.TheVariants.{Start, End, After, Before}
use Rattle.site_anchors.specs.Anchors.{place_told}
use Rattle.cotpad_c.specs.declared.kinds.TheConstants.{START, END, AFTER, BEFORE, NO_PLACE}
use Rattle.cotpad_c.specs.declared.anchors.CotpadAnchor.{CotpadAnchor}

-- an end of the text is told by the kind alone
abbrev pub end_told : ℕ → CotpadAnchor
end_told k = record { kind = k; site = 0; number = 0; offset = 0 }

-- a cell by the name of its insert and its offset there
abbrev pub cell_told : ℕ → CellId → CotpadAnchor
cell_told k id = record { kind = k; site = id.name.site; number = id.name.number; offset = id.offset }

-- what a host reads of an anchor
abbrev pub anchor_told : Anchor → CotpadAnchor
anchor_told Start = end_told START
anchor_told End = end_told END
anchor_told (After id) = cell_told AFTER id
anchor_told (Before id) = cell_told BEFORE id

-- whether a cell can have these numbers: they are a name, and an offset in the longest insert
abbrev pub is_cell : CotpadAnchor → Bool
is_cell a = nat_lt a.offset LETTERS && (nat_lt a.site SITES && (nat_le 1 a.number && nat_le a.number NUMBERS))

-- the cell that has them, if one can
abbrev pub cell_given : CotpadAnchor → Option CellId
cell_given a =
    if is_cell a then Some (record { name = record { site = a.site; number = a.number }; offset = a.offset }) else None

-- the anchor that a host gives, if it is one: of an end of the text nothing but the kind is looked at
abbrev pub anchor_given : CotpadAnchor → Option Anchor
anchor_given a =
    if a.kind == START then Some Start
    else if a.kind == END then Some End
    else if a.kind == AFTER then option_map (λ id. After id) (cell_given a)
    else if a.kind == BEFORE then option_map (λ id. Before id) (cell_given a)
    else None

-- the place of an anchor, if there is one
abbrev pub place_of_any : List OpData → Option Anchor → Option ℕ
place_of_any h None = None
place_of_any h (Some a) = place_told h a

-- where what a host gives stands: it is an anchor, and the history has its character
abbrev pub place_given : List OpData → CotpadAnchor → Option ℕ
place_given h a = place_of_any h (anchor_given a)

-- what a host reads of a place, if there is one
abbrev pub place_number : Option ℕ → ℕ
place_number None = NO_PLACE
place_number (Some v) = v

-- what it reads of the places of many
abbrev pub places_given : List OpData → List CotpadAnchor → List ℕ
places_given h given = map (λ a. place_number (place_given h a)) given
