use Rattle.std.proofs.Common.{◌≡◌, ℕ, ◌+◌, ◌*◌, ◌∙◌, drop, length, refl, sym, ap, subst, arith}
use Rattle.ttf_form.specs.declared.form.Form.{Form}
use Rattle.ttf_form.specs.Forms.{form_over, place_of, extent_of}
use Rattle.form_rows.specs.declared.passages.TheConstants.{STRETCH}
use Rattle.form_rows.specs.RowSets.{form_after, AfterFits}
use Rattle.form_rows.proofs.Thresholds.{IsMark, stretch_fits, stretch_on, noted_length}
use Rattle.form_rows.proofs.passages.from_stretch.Goals as goal

pub loop-i-init : goal.loop-i-init
loop-i-init c =
    record {
      long = noted_length c.args.over.now c.args.executed.now c.requires.noted;
      few = c.requires.first;
      mark =
          record { mark = c.requires.mark; fits = c.requires.fits; rest = refl };
    }

pub pass-mark-requires : goal.pass-mark-requires
pass-mark-requires c =
    stretch_fits (form_after form_over c.args.near (drop (STRETCH * c.args.first) c.args.executed.now)) c.args.executed.now c.args.over.now
    c.requires.noted c.loop-i.mark c.loop-i.i c.index-over-i.result c.loop-i-test.true c.index-over-i.is c.loop-i.invariant.mark

pub loop-i-preserved : goal.loop-i-preserved
loop-i-preserved c =
    let end = form_after form_over c.args.near (drop (STRETCH * c.args.first) c.args.executed.now) in
    let next =
    stretch_on end c.args.executed.now c.args.over.now c.requires.noted c.loop-i.mark c.loop-i.i c.index-over-i.result
    c.loop-i-test.true c.index-over-i.is c.loop-i.invariant.mark (c.loop-i.i + 1) refl in
    record {
      long = c.loop-i.invariant.long;
      few = omega (arith, c.loop-i-test.true);
      mark =
          subst (λ (g : Form). IsMark end c.args.executed.now g (STRETCH * (c.loop-i.i + 1))) (sym c.pass-mark.ensures) next;
    }

pub after-requires : goal.after-requires
after-requires c =
    let few = c.loop-i.invariant.few in
    let all = c.loop-i-test.false in
    let same : STRETCH * c.loop-i.i ≡ STRETCH * length c.args.over.now = omega (arith, few, all) in
    subst (λ (n : ℕ). AfterFits form_over place_of extent_of c.loop-i.mark (drop n c.args.executed.now)) same c.loop-i.invariant.mark.fits

pub returns : goal.returns
returns c =
    let few = c.loop-i.invariant.few in
    let all = c.loop-i-test.false in
    let same : STRETCH * length c.args.over.now ≡ STRETCH * c.loop-i.i = omega (arith, few, all) in
    c.after.ensures ∙ (ap (λ (n : ℕ). form_after form_over c.loop-i.mark (drop n c.args.executed.now)) same ∙ c.loop-i.invariant.mark.rest)
