use Rattle.std.proofs.Common.{position, refl, sym, ap, ◌∙◌}
use Rattle.op_name.specs.NameData.{name_eq}
use Rattle.ttf_form.specs.Cells.{CellData}
use Rattle.tombstone_text.proofs.Searches.{lacks_unplaced, lacked_unplaced}
use Rattle.tombstone_text.proofs.cells.Cells.lacks.Goals as goal

pub returns-in-Some : goal.returns-in-Some
returns-in-Some c = (
  λ t. cc,
  λ h. let none = lacked_unplaced c.args.name.now c.args.self.now.cells h in
      let at =
      sym c.in-Some.is ∙ c.first_place.ensures
      ∙ ap (λ v. position (λ (x : CellData). name_eq x.name c.args.name.now) v.cells) c.self.view_is ∙ none in
      cc,
)

pub returns-in-None : goal.returns-in-None
returns-in-None c = (
  λ t. lacks_unplaced c.args.name.now c.args.self.now.cells
      (sym (c.first_place.ensures ∙ ap (λ v. position (λ (x : CellData). name_eq x.name c.args.name.now) v.cells) c.self.view_is)
      ∙ c.in-None.is),
  λ h. refl,
)
