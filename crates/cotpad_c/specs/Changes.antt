-- By what a shown text changed, as a host reads it.
use Rattle.std.specs.Prelude.{ℕ, List, map}
use Rattle.context_diff.specs.Replays.{Cell}
use Rattle.change_list.specs.declared.change.Change.{Change}
use Rattle.change_list.specs.Changes.{AreChanges}
use Rattle.cotpad_c.specs.declared.changes.CotpadChange.{CotpadChange}
use Rattle.cotpad_c.specs.Statuses.{Wrote}

-- a place, how many characters are taken away there, and how many come in
abbrev pub change_told : Change → CotpadChange
change_told c = record { place = c.place; removed = c.removed; inserted = c.inserted }

-- the changes by which the one list of cells becomes the other were made
pub record WroteChanges (before after : List Cell) (n : ℕ) (old new : List CotpadChange) (needed : ℕ) : Type 0 where
  pub changes : List Change
  pub are : AreChanges changes before after
  pub wrote : Wrote n (map change_told changes) old new needed
