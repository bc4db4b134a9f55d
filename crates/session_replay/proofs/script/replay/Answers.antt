use Rattle.std.proofs.Common.{◌≡◌, ◌∙◌, List, [], ℕ, ap, sym, length, arith}
use Rattle.script_text.specs.Report.{Report}
use Rattle.session_replay.specs.Scripts.{script_report}
use Rattle.session_replay.proofs.Needed.{on_err}
use Rattle.session_replay.proofs.Reading.{no_report}
use Rattle.session_replay.proofs.script.replay.Goals as goal

pub returns-in_err-extend_from_slice-clause-needed : goal.returns-in_err-extend_from_slice-clause-needed
returns-in_err-extend_from_slice-clause-needed c =
    on_err c.from_residual-in_err-extend_from_slice.result (λ none.
    let written : c.do_whole.new.out.items ≡ [] =
    sym (ap (λ (r : Report). r.written) c.in_ok-refused.ensures.report) ∙ ap (λ (bs : List ℕ). (script_report bs).written) none
    ∙ ap (λ (r : Report). r.written) no_report in
    omega (arith, c.in_err-extend_from_slice.ensures.full, c.args.out.now.ok.0, ap (λ (xs : List ℕ). length xs) written))
