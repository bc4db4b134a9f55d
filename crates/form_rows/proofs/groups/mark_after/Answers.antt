use Rattle.std.proofs.Common.{◌+◌, ◌∙◌, drop, length, sym, ap, subst, refl}
use Rattle.std.proofs.lemmas.Option.{slice_get_read, get_or_from_slice_get}
use Rattle.ttf_form.specs.declared.form.Form.{Form}
use Rattle.ttf_form.specs.Forms.{form_over, place_of, extent_of, IsInertForm}
use Rattle.undo_group.specs.Following.{following}
use Rattle.form_rows.specs.RowSets.{form_after, AfterFits}
use Rattle.form_rows.proofs.Thresholds.{follower_inert}
use Rattle.form_rows.proofs.groups.mark_after.Goals as goal

pub after-requires-clause-fits : goal.after-requires-clause-fits
after-requires-clause-fits c =
    let read = c.index-executed-place.result in
    let is = c.followed-form.ensures.form ∙ ap (following c.args.mark) c.index-executed-place.is in
    subst (λ (f : Form). AfterFits form_over place_of extent_of f (drop (c.args.place + 1) c.args.executed.now)) (sym is)
    (c.requires.fits read)

pub after-requires-clause-mark : goal.after-requires-clause-mark
after-requires-clause-mark c =
    subst (λ (f : Form). IsInertForm f) (sym c.followed-form.ensures.form) (follower_inert c.args.mark c.index-executed-place.result)

pub returns : goal.returns
returns c f =
    let read = c.index-executed-place.result in
    let there =
    slice_get_read c.args.executed.now (length c.args.executed.now) c.args.place read refl c.requires.place c.index-executed-place.is in
    let is = c.followed-form.ensures.form
    ∙ ap (following c.args.mark) (sym (get_or_from_slice_get c.args.executed.now c.args.place read f there)) in
    c.after.ensures ∙ ap (λ (g : Form). form_after form_over g (drop (c.args.place + 1) c.args.executed.now)) is
