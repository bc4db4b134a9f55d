use Rattle.std.proofs.Common.{◌+◌, ◌≤◌, ℕ, sym, ap, subst, ◌∙◌}
use Rattle.form_rows.proofs.BlockPasses.{all_before, last_moves, last_stays, last_fits}
use Rattle.form_rows.proofs.block.after_all.Goals as goal

pub shift-requires : goal.shift-requires
shift-requires g c =
    let before = all_before g.F.Include.place c.args.high c.args.form c.args.forms.now c.requires.above c.requires.high in
    subst (λ (n : ℕ). g.F.Include.place c.args.form + n ≤ 4294967295) (c.requires.cells c.requires.counted)
    (last_fits g.F.Include.over g.F.Include.place g.F.Include.extent g.F.Placed.shifted g.met.F.Placed.stays_before
    g.met.F.Placed.moves_after g.met.F.Placed.place_shifted g.met.F.Placed.shifted_none g.met.F.Placed.shifted_twice c.args.form
    c.args.forms.now before c.requires.place c.requires.fits)

pub returns-clause-form : goal.returns-clause-form
returns-clause-form g c =
    let before = all_before g.F.Include.place c.args.high c.args.form c.args.forms.now c.requires.above c.requires.high in
    c.shift.ensures
    ∙ (ap (λ (n : ℕ). g.F.Placed.shifted c.args.form n) (sym (c.requires.cells c.requires.counted))
    ∙ sym (last_moves g.F.Include.over g.F.Include.place g.F.Include.extent g.F.Placed.shifted g.met.F.Placed.stays_before
    g.met.F.Placed.moves_after g.met.F.Placed.place_shifted g.met.F.Placed.shifted_none g.met.F.Placed.shifted_twice c.args.form
    c.args.forms.now before))

pub returns-clause-row : goal.returns-clause-row
returns-clause-row g c =
    let before = all_before g.F.Include.place c.args.high c.args.form c.args.forms.now c.requires.above c.requires.high in
    sym (last_stays g.F.Include.over g.F.Include.place g.F.Include.extent g.F.Placed.shifted g.met.F.Placed.stays_before
    g.met.F.Placed.moves_after g.met.F.Placed.place_shifted g.met.F.Placed.shifted_none g.met.F.Placed.shifted_twice c.args.form
    c.args.forms.now before)
