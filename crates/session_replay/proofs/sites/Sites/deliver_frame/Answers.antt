use Rattle.std.proofs.Common.{◌∙◌, ◌++◌, ap, sym, refl}
use Rattle.std.proofs.lemmas.Result.{err_from_is_err_and}
use Rattle.context_diff.specs.Ops.{data_of}
use Rattle.script_text.specs.Report.{raw_more_text, raw_bad_text}
use Rattle.wire_codec.specs.Answers.{judgement_of}
use Rattle.wire_codec.specs.declared.fault.Refused.TheVariants.{More, Bad}
use Rattle.wire_codec.specs.Reading.{fault}
use Rattle.session_replay.specs.LineSteps.{raw_word}
use Rattle.session_replay.proofs.Steps.{done_nothing, stopped, reached_in, well_in, told_done}
use Rattle.session_replay.proofs.Loops.{one_frame, one_refused}
use Rattle.session_replay.proofs.sites.Sites.deliver_frame.Goals as goal

pub returns-in_err-deliver-in-Ok-Got-clause-done : goal.returns-in_err-deliver-in-Ok-Got-clause-done
returns-in_err-deliver-in-Ok-Got-clause-done c =
    let is = sym (ap judgement_of c.in-Ok-Got.field-0-is) ∙ c.in-Ok-Got.ensures.exact in
    let one =
    one_frame c.args.version c.args.site c.args.bytes.now c.args.self.now (data_of c.in-Ok-Got.op) c.in-Ok-Got.used c.requires.some
    is in
    let p = err_from_is_err_and c.from_residual.result c.from_residual.ensures.1 in
    stopped c.from_residual.result p.0 p.1 _ _ _ _ _ (reached_in _ _ _ _ _ _ one c.in_err-deliver-in-Ok-Got.ensures.done)

pub returns-in_ok-deliver-in-Ok-Got-clause-done : goal.returns-in_ok-deliver-in-Ok-Got-clause-done
returns-in_ok-deliver-in-Ok-Got-clause-done c =
    let is = sym (ap judgement_of c.in-Ok-Got.field-0-is) ∙ c.in-Ok-Got.ensures.exact in
    let one =
    one_frame c.args.version c.args.site c.args.bytes.now c.args.self.now (data_of c.in-Ok-Got.op) c.in-Ok-Got.used c.requires.some
    is in
    well_in _ _ _ _ _ _ one c.in_ok-deliver-in-Ok-Got.ensures.done

pub returns-in_err-raw_more_line-in-Ok-More-clause-done : goal.returns-in_err-raw_more_line-in-Ok-More-clause-done
returns-in_err-raw_more_line-in-Ok-More-clause-done c =
    let result = c.from_residual-in_err-raw_more_line-in-Ok-More.result in
    let p = err_from_is_err_and result c.from_residual-in_err-raw_more_line-in-Ok-More.ensures.1 in
    stopped result p.0 p.1 _ _ _ _ _ (done_nothing _ _ _ _ _ refl c.in_err-raw_more_line-in-Ok-More.ensures.err)

pub returns-in_err-raw_bad_line-in-Ok-Bad-clause-done : goal.returns-in_err-raw_bad_line-in-Ok-Bad-clause-done
returns-in_err-raw_bad_line-in-Ok-Bad-clause-done c =
    let result = c.from_residual-in_err-raw_bad_line-in-Ok-Bad.result in
    let p = err_from_is_err_and result c.from_residual-in_err-raw_bad_line-in-Ok-Bad.ensures.1 in
    stopped result p.0 p.1 _ _ _ _ _ (done_nothing _ _ _ _ _ refl c.in_err-raw_bad_line-in-Ok-Bad.ensures.err)

pub returns-in_ok-raw_more_line-in-Ok-More-clause-done : goal.returns-in_ok-raw_more_line-in-Ok-More-clause-done
returns-in_ok-raw_more_line-in-Ok-More-clause-done c =
    let is = sym (ap judgement_of c.in-Ok-More.field-0-is) ∙ c.in-Ok-More.ensures.exact in
    let one = one_refused c.args.version c.args.site c.args.bytes.now c.args.self.now (More c.in-Ok-More.at_least) c.requires.some is in
    let line = ap (λ w. c.args.out.now.items ++ raw_more_text w c.args.site c.in-Ok-More.at_least) c.raw_word-word.ensures in
    well_in _ _ _ _ _ _ one (told_done _ _ _ _ _ refl (c.in_ok-raw_more_line-in-Ok-More.ensures.ok ∙ line))

pub returns-in_ok-raw_bad_line-in-Ok-Bad-clause-done : goal.returns-in_ok-raw_bad_line-in-Ok-Bad-clause-done
returns-in_ok-raw_bad_line-in-Ok-Bad-clause-done c =
    let is = sym (ap judgement_of c.in-Ok-Bad.field-0-is) ∙ c.in-Ok-Bad.ensures.exact in
    let one =
    one_refused c.args.version c.args.site c.args.bytes.now c.args.self.now (Bad (fault c.in-Ok-Bad.cause c.in-Ok-Bad.offset))
    c.requires.some is in
    let line =
    ap (λ w. c.args.out.now.items ++ raw_bad_text w c.args.site c.word.result.now c.in-Ok-Bad.offset) c.raw_word-word.ensures
    ∙ ap (λ w. c.args.out.now.items ++ raw_bad_text (raw_word c.args.version) c.args.site w c.in-Ok-Bad.offset) c.word.ensures in
    well_in _ _ _ _ _ _ one (told_done _ _ _ _ _ refl (c.in_ok-raw_bad_line-in-Ok-Bad.ensures.ok ∙ line))

pub returns-in-Err-clause-done : goal.returns-in-Err-clause-done
returns-in-Err-clause-done c = done_nothing _ _ _ _ _ refl refl
