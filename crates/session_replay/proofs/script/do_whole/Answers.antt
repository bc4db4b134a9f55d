use Rattle.std.proofs.Common.{◌≡◌, ◌∙◌, ◌++◌, ap, sym, [], List, ℕ, Bool, true, Ok, append-nil}
use Rattle.std.proofs.lemmas.Result.{IfOk-weaker, on_err_weaker}
use Rattle.script_text.specs.Streams.{looked_at}
use Rattle.session_replay.specs.declared.script.Next.{Next}
use Rattle.session_replay.specs.Scripts.{script_report}
use Rattle.session_replay.specs.Readers.{Keeps}
use Rattle.session_replay.proofs.Needed.{on_err}
use Rattle.session_replay.proofs.Reading.{looked_none, nothing_next}
use Rattle.session_replay.proofs.script.do_whole.Goals as goal

pub loop-reader-preserved : goal.loop-reader-preserved
loop-reader-preserved c =
    let was : c.advance.result ≡ Ok c.in_ok-advance.field-0 = c.in_ok-advance.was in
    c.advance.ensures.done (was ∙ ap (λ (n : Next). Ok n) c.in-Done.is) c.args.bytes.now [] c.loop-reader.invariant

pub finish-requires : goal.finish-requires
finish-requires c =
    let was : c.advance.result ≡ Ok c.in_ok-advance.field-0 = c.in_ok-advance.was in
    record {
      all = c.args.bytes.now;
      written = c.advance.new.out.items;
      awaits =
          c.advance.ensures.awaited (was ∙ ap (λ (n : Next). Ok n) c.in-Awaited.is) c.args.bytes.now [] c.loop-reader.invariant;
    }

pub returns-in-Awaited-clause-report : goal.returns-in-Awaited-clause-report
returns-in-Awaited-clause-report c =
    let was : c.advance.result ≡ Ok c.in_ok-advance.field-0 = c.in_ok-advance.was in
    let awaits = c.advance.ensures.awaited (was ∙ ap (λ (n : Next). Ok n) c.in-Awaited.is) c.args.bytes.now [] c.loop-reader.invariant in
    IfOk-weaker c.finish.result
    (λ (refused : Bool). (all before : List ℕ) → Keeps c.advance.new.self all (before ++ c.advance.new.out.items)
    → script_report all ≡ record { written = before ++ c.finish.new.out.items; refused = refused })
    (λ refused. script_report c.args.bytes.now ≡ record { written = c.finish.new.out.items; refused = refused })
    (λ refused report. report c.args.bytes.now [] awaits.keeps) c.finish.ensures.report

pub returns-in-Refused-clause-report : goal.returns-in-Refused-clause-report
returns-in-Refused-clause-report c =
    let was : c.advance.result ≡ Ok c.in_ok-advance.field-0 = c.in_ok-advance.was in
    ap script_report (sym (append-nil c.args.bytes.now))
    ∙ c.advance.ensures.refused (was ∙ ap (λ (n : Next). Ok n) c.in-Refused.is) c.args.bytes.now [] c.loop-reader.invariant []

-- ---- out of memory

pub returns-in_err-feed-clause-needed : goal.returns-in_err-feed-clause-needed
returns-in_err-feed-clause-needed c =
    on_err c.from_residual.result (λ none.
    c.in_err-feed.ensures.needed (ap (λ (xs : List ℕ). looked_at c.new-reader.result.input.fed xs) none ∙ looked_none _))

pub returns-in_err-advance-clause-needed : goal.returns-in_err-advance-clause-needed
returns-in_err-advance-clause-needed c =
    on_err c.from_residual-in_err-advance.result
    (λ none. nothing_next c.loop-reader.reader c.args.bytes.now c.loop-reader.out.items c.loop-reader.reader.input.over
    c.loop-reader.invariant none c.in_err-advance.ensures.needed)

pub returns-in-Awaited-clause-needed : goal.returns-in-Awaited-clause-needed
returns-in-Awaited-clause-needed c =
    let was : c.advance.result ≡ Ok c.in_ok-advance.field-0 = c.in_ok-advance.was in
    let awaits = c.advance.ensures.awaited (was ∙ ap (λ (n : Next). Ok n) c.in-Awaited.is) c.args.bytes.now [] c.loop-reader.invariant in
    on_err_weaker c.finish.result (λ does none.
    nothing_next c.advance.new.self c.args.bytes.now c.advance.new.out.items true awaits.keeps none does) c.finish.ensures.needed
