use Rattle.std.proofs.Common.{◌≡◌, ℕ, ◌+◌, ◌*◌, ◌∙◌, drop, length, refl, sym, ap, arith}
use Rattle.std.specs.Prelude.{fold}
use Rattle.form_rows.specs.declared.passages.TheConstants.{STRETCH}
use Rattle.form_rows.specs.Stretches.{place_after}
use Rattle.form_rows.proofs.Thresholds.{noted_length}
use Rattle.form_rows.proofs.Moved.{moved_stretch}
use Rattle.form_rows.proofs.passages.moved_from_stretch.Goals as goal

pub loop-i-init : goal.loop-i-init
loop-i-init c =
    record {
      long = noted_length c.args.over.now c.args.executed.now c.requires.noted;
      few = c.requires.first;
      most = omega arith;
      rest =
          refl;
    }

pub loop-i-preserved : goal.loop-i-preserved
loop-i-preserved c =
    let fs = c.args.executed.now in
    record {
      long = c.loop-i.invariant.long;
      few = omega (arith, c.loop-i-test.true);
      most = omega (arith, c.moved-place.ensures);
      rest = ap (λ (p : ℕ). fold place_after p (drop (STRETCH * (c.loop-i.i + 1)) fs)) c.moved-place.ensures
          ∙ (moved_stretch c.args.over.now fs c.loop-i.place c.loop-i.i c.index-over-i.result c.requires.noted c.loop-i-test.true
          c.index-over-i.is c.loop-i.invariant.most ∙ c.loop-i.invariant.rest);
    }

pub returns : goal.returns
returns c =
    let few = c.loop-i.invariant.few in
    let all = c.loop-i-test.false in
    let same : STRETCH * length c.args.over.now ≡ STRETCH * c.loop-i.i = omega (arith, few, all) in
    c.moved_by_each.ensures
    ∙ (ap (λ (n : ℕ). fold place_after c.loop-i.place (drop n c.args.executed.now)) same ∙ c.loop-i.invariant.rest)
