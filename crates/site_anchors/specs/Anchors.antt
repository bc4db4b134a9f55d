-- Anchors: places that stay beside a character while a text is edited, also while the character is hidden.
use Rattle.std.specs.Prelude.{◌≡◌, ℕ, ◌+◌, ◌==◌, ◌&&◌, nat_lt, Bool, false, List, [], ◌∷◌, ◌++◌, Option, Some, None, length, map, filter, if◌then◌else◌}
use Rattle.std.specs.List.{list_any}
use Rattle.op_name.specs.declared.member.Member.TheVariants.{Original}
use Rattle.op_name.specs.Members.{member_eq}
use Rattle.op_name.specs.NameData.{name_eq}
use Rattle.context_diff.specs.Operations.{OpData, member_of, cells_put}
use Rattle.context_diff.specs.Gaps.{until}
use Rattle.context_diff.specs.Replays.{Cell, replay_of, is_shown, shown}
use Rattle.tombstone_text.specs.declared.cell.CellId.{CellId}
use Rattle.site_anchors.specs.declared.anchors.Side.{Side}
use Rattle.site_anchors.specs.declared.anchors.Side.TheVariants.{Left, Right}
use Rattle.site_anchors.specs.declared.anchors.Anchor.{Anchor}
use Rattle.site_anchors.specs.declared.anchors.Anchor.TheVariants.{Start, End, After, Before}

-- the cell of this name and offset
abbrev pub cell_at : CellId → Cell
cell_at id = (id.name, id.offset)

-- the name and the offset of a cell
abbrev pub id_of : Cell → CellId
id_of c = record { name = c.0; offset = c.1 }

-- whether d is the cell c
abbrev pub is_same : Cell → Cell → Bool
is_same c d = name_eq d.0 c.0 && (d.1 == c.1)

-- the operation is the insert that puts the cell: it has its name, and a character at its offset
abbrev pub puts : Cell → OpData → Bool
puts c o = member_eq (member_of o) (Original c.0) && nat_lt c.1 (cells_put o)

-- the history has such an insert
abbrev pub has_cell : List OpData → Cell → Bool
has_cell h c = list_any (puts c) h

-- the cells in front of a cell in the replay of the history, shown or hidden
abbrev pub cells_before : List OpData → Cell → List Cell
cells_before h c = until (is_same c) (replay_of h)

-- how many of them the history shows
abbrev pub shown_before : List OpData → Cell → ℕ
shown_before h c = length (filter (is_shown h) (cells_before h c))

-- how many of them and of the cell itself
abbrev pub shown_up_to : List OpData → Cell → ℕ
shown_up_to h c = shown_before h c + (if is_shown h c then 1 else 0)

-- so many, where the history has the cell
abbrev pub where_had : List OpData → Cell → ℕ → Option ℕ
where_had h c n = if has_cell h c then Some n else None

-- Told: how many shown characters stand before the anchor
abbrev pub place_told : List OpData → Anchor → Option ℕ
place_told h Start = Some 0
place_told h End = Some (length (shown h))
place_told h (After id) = where_had h (cell_at id) (shown_up_to h (cell_at id))
place_told h (Before id) = where_had h (cell_at id) (shown_before h (cell_at id))

-- the anchor is beside a cell that the history hasn't
abbrev pub IsUnknown : List OpData → Anchor → Type 0
IsUnknown h Start = ⊥
IsUnknown h End = ⊥
IsUnknown h (After id) = has_cell h (cell_at id) ≡ false
IsUnknown h (Before id) = has_cell h (cell_at id) ≡ false

-- the anchors of all places of the text, from its front on: on the left each keeps to the character in front of its place, on the right
-- to the one behind it. The front and the end of the text stand for those that aren't there
abbrev pub anchors_of : List OpData → Side → List Anchor
anchors_of h Left = Start ∷ map (λ c. After (id_of c)) (shown h)
anchors_of h Right = map (λ c. Before (id_of c)) (shown h) ++ End ∷ []
