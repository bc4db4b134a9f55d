-- Two inserts at different places, each included in the other.
use Rattle.std.proofs.Common.{◌≡◌, ℕ, ◌<◌, sym, ap}
use Rattle.ttf_form.specs.declared.ins.Ins.{Ins}
use Rattle.ttf_form.specs.Forms.{ins_extent, ins_over}
use Rattle.ttf_form.specs.Laws.Places.{over_less, over_more}
use Rattle.form_rows.specs.Placing.{ins_shifted}

-- the one in front of the other stays
pub insert_stays : (a b : Ins) → a.place < b.place → a ≡ ins_over a b
insert_stays a b h = ap (λ (k : ℕ). record a { place = k }) (sym (over_less a.place a.site b.place b.site (ins_extent b) h))

-- the one behind the other moves by its cells
pub insert_moves : (a b : Ins) → b.place < a.place → ins_shifted a (ins_extent b) ≡ ins_over a b
insert_moves a b h = ap (λ (k : ℕ). record a { place = k }) (sym (over_more a.place a.site b.place b.site (ins_extent b) h))
