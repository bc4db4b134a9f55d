use Rattle.std.proofs.Common.{◌≡◌, ◌+◌, ◌*◌, length, suc, Ok, Err, sym, ap, ◌∙◌, arith}
use Rattle.std.proofs.Math.Nat.{mul-suc}
use Rattle.std.proofs.lemmas.Result.{err_from_is_err_and}
use Rattle.context_vector.specs.Contexts.{count_in}
use Rattle.wire_codec.specs.declared.cause.Cause.TheVariants.{Stray}
use Rattle.wire_codec.specs.Runs.{names_in}
use Rattle.wire_codec.specs.Reading.{want}
use Rattle.wire_codec.specs.Judging.{run_len, stray_from}
use Rattle.wire_codec.specs.Code.Lent.{context_seen}
use Rattle.wire_codec.proofs.Strays.{are_originals, stray_passes, stray_stops, stray_over}
use Rattle.wire_codec.proofs.originals.originals.Goals as goal

pub returns-in_err-check : goal.returns-in_err-check
returns-in_err-check c =
    let k = c.args.listing in
    let seen = context_seen c.args.context.now in
    let p = err_from_is_err_and c.from_residual.result c.from_residual.ensures.1 in
    let unknown : want (are_originals seen (names_in c.in-Some.run')) Stray c.loop-run.at ≡ Err c.in_err-check.field-0.0 =
    rw (← c.reaches.ensures) (sym c.in_err-check.ensures) in
    rw (p.1, p.2) (sym (stray_stops k seen c.loop-run.at c.loop-run.run-iterator c.next.new.self
    (stray_from k seen c.args.begin c.args.context.now.runs) c.loop-run.invariant.0
    c.in-Some.run' c.in_err-check.field-0.0 c.in-Some.ensures.steps unknown))

pub loop-run-preserved : goal.loop-run-preserved
loop-run-preserved c =
    let k = c.args.listing in
    let seen = context_seen c.args.context.now in
    let known : want (are_originals seen (names_in c.in-Some.run')) Stray c.loop-run.at ≡ Ok tt =
    rw (← c.reaches.ensures) (sym c.in_ok-check.ensures) in
    let room = c.loop-run.invariant.1 in
    let size = c.run_len.ensures in
    let len : length c.loop-run.run-iterator ≡ suc (length c.next.new.self) = ap length c.in-Some.ensures.steps in
    let one : run_len k * length c.loop-run.run-iterator ≡ run_len k * length c.next.new.self + run_len k =
    ap (λ n. run_len k * n) len ∙ mul-suc (run_len k) (length c.next.new.self) in (
      rw (c.run_len.ensures) (stray_passes k seen c.loop-run.at c.loop-run.run-iterator c.next.new.self
          (stray_from k seen c.args.begin c.args.context.now.runs) c.loop-run.invariant.0 c.in-Some.run' c.in-Some.ensures.steps known),
      omega (arith, room, size, one),
      c.count_after-known.ensures.count ∙ ap (count_in c.args.context.now.counts) (sym c.count_after-known.ensures.site),
    )

pub returns : goal.returns
returns c =
    let k = c.args.listing in
    let seen = context_seen c.args.context.now in
    sym (stray_over k seen c.loop-run.at c.loop-run.run-iterator c.next.new.self (stray_from k seen c.args.begin c.args.context.now.runs)
    c.loop-run.invariant.0 c.in-None.ensures.steps.0)
