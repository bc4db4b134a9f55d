-- The room for a cover.
use Rattle.std.proofs.Common.{◌≡◌, ℕ, ◌<◌, ◌≤◌, List, length, slice_get, Some, sym, ap, subst, arith}
use Rattle.std.specs.Prelude.{IfSome}
use Rattle.std.proofs.lemmas.Option.{slice_get_past}
use Rattle.op_name.specs.NameData.{NameData}
use Rattle.ttf_form.specs.declared.cover.Cover.{Cover}
use Rattle.ttf_form.specs.declared.cover.Mark.TheVariants.{By}
use Rattle.ttf_form.specs.declared.form.Form.TheVariants.{Cover as Covered}
use Rattle.ttf_form.specs.Cells.{CellData}
use Rattle.tombstone_text.specs.Cells.{CellsData, HasGaps, HasRoomFor, HasRoomOn}
use Rattle.tombstone_text.specs.Chunks.{flat}
use Rattle.tombstone_text.proofs.Chunked.{spot_inside}

pub room_by : (t : CellsData) (c : Cover) (d : NameData) (g : ℕ) (x : CellData) → c.mark ≡ By d g → slice_get t.cells c.place ≡ Some x
    → length x.deleters < t.room.deleters → HasGaps t.chunks t.room.gaps c.place → HasRoomFor t (Covered c)
room_by t c d g x is at room gaps = (
  subst (λ o. IfSome o (λ y. HasRoomOn c.mark y t.room.deleters)) (sym at) (subst (λ m. HasRoomOn m x t.room.deleters) (sym is) room),
  gaps,
)

-- past the end there is nothing to mark
pub room_past : (t : CellsData) (c : Cover) → flat t.chunks ≡ t.cells → length t.cells ≤ c.place → HasRoomFor t (Covered c)
room_past t c whole past = (
  subst (λ o. IfSome o (λ y. HasRoomOn c.mark y t.room.deleters)) (sym (slice_get_past t.cells c.place past)) tt,
  λ i o s. let long = ap (λ (xs : List CellData). length xs) whole in
      absurd (omega (arith, spot_inside t.chunks i o c.place s, long, past)),
)
