use Rattle.std.proofs.Common.{◌∙◌, ◌++◌, List, length, sym, ap, subst}
use Rattle.ttf_form.specs.Families.{total_by}
use Rattle.form_rows.specs.RowSets.{row_after, PassFits}
use Rattle.form_rows.specs.Code.Blocks.{joined}
use Rattle.form_rows.proofs.BlockPasses.{fits_left, fits_right, length-row, passed_parts, total_row}
use Rattle.form_rows.proofs.blocks.Blocks.pass.Goals as goal

pub pass_all-form-requires : goal.pass_all-form-requires
pass_all-form-requires g c =
    fits_left g.F.Include.over g.F.Include.place g.F.Include.extent c.args.form (joined c.self.inside.blocks.items) c.self.inside.rest.items
    (subst (λ (l : List g.row.F.Denot). PassFits g.F.Include.over g.F.Include.place g.F.Include.extent c.args.form l) (sym c.self.view_is)
    c.requires)

pub pass_rest-requires : goal.pass_rest-requires
pass_rest-requires g c =
    subst (λ (f : g.row.F.Denot). PassFits g.F.Include.over g.F.Include.place g.F.Include.extent f c.self.inside.rest.items)
    (sym c.pass_all-form.ensures.form)
    (fits_right g.F.Include.over g.F.Include.place g.F.Include.extent c.args.form (joined c.self.inside.blocks.items)
    c.self.inside.rest.items
    (subst (λ (l : List g.row.F.Denot). PassFits g.F.Include.over g.F.Include.place g.F.Include.extent c.args.form l) (sym c.self.view_is)
    c.requires))

pub invariant_of-self : goal.invariant_of-self
invariant_of-self g c =
    let made =
    passed_parts g.F.Include.over c.args.form c.pass_all-form.result (joined c.self.inside.blocks.items) c.self.inside.rest.items
    (joined c.pass_all-form.new.blocks.items) c.pass_rest.new.rest.items c.pass_all-form.ensures.form c.pass_all-form.ensures.row
    c.pass_rest.ensures.row in
    let all = joined c.self.inside.blocks.items ++ c.self.inside.rest.items in (
      c.self.invariant.0 ∙ sym (ap length made ∙ length-row g.F.Include.over c.args.form all),
      λ less. ap (total_by g.F.Include.extent) made
          ∙ (total_row g.F.Include.over g.F.Include.extent g.met.F.Include.extent_over c.args.form all ∙ c.self.invariant.1 less),
    )

pub returns-clause-row : goal.returns-clause-row
returns-clause-row g c =
    passed_parts g.F.Include.over c.args.form c.pass_all-form.result (joined c.self.inside.blocks.items) c.self.inside.rest.items
    (joined c.pass_all-form.new.blocks.items) c.pass_rest.new.rest.items c.pass_all-form.ensures.form c.pass_all-form.ensures.row
    c.pass_rest.ensures.row
    ∙ ap (λ (l : List g.row.F.Denot). row_after g.F.Include.over c.args.form l) c.self.view_is
