use Rattle.std.proofs.Common.{◌+◌, ◌≤◌, ℕ, map, sym, ap, subst, ◌∙◌}
use Rattle.form_rows.proofs.BlockPasses.{all_after, front_stays, front_moves, front_fits}
use Rattle.form_rows.proofs.block.before_all.Goals as goal

pub shift_all-requires : goal.shift_all-requires
shift_all-requires g c = λ k i.
    let after = all_after g.F.Include.place c.args.low c.args.form c.args.forms.now c.requires.below c.requires.low in
    subst (λ (n : ℕ). g.F.Include.place k + n ≤ 4294967295) (sym c.cells.ensures)
    (front_fits g.F.Include.over g.F.Include.place g.F.Include.extent g.F.Placed.shifted g.met.F.Placed.stays_before
    g.met.F.Placed.moves_after c.args.form c.args.forms.now after c.requires.fits k i)

pub returns-clause-form : goal.returns-clause-form
returns-clause-form g c =
    let after = all_after g.F.Include.place c.args.low c.args.form c.args.forms.now c.requires.below c.requires.low in
    sym (front_stays g.F.Include.over g.F.Include.place g.F.Include.extent g.F.Placed.shifted g.met.F.Placed.stays_before
    g.met.F.Placed.moves_after c.args.form c.args.forms.now after)

pub returns-clause-row : goal.returns-clause-row
returns-clause-row g c =
    let after = all_after g.F.Include.place c.args.low c.args.form c.args.forms.now c.requires.below c.requires.low in
    c.shift_all.ensures
    ∙ (ap (λ (n : ℕ). map (λ (k : g.row.F.Denot). g.F.Placed.shifted k n) c.args.forms.now) c.cells.ensures
    ∙ sym (front_moves g.F.Include.over g.F.Include.place g.F.Include.extent g.F.Placed.shifted g.met.F.Placed.stays_before
    g.met.F.Placed.moves_after c.args.form c.args.forms.now after))
