use Rattle.std.proofs.Common.{ap, ◌∙◌, take}
use Rattle.std.proofs.lemmas.List.{take_rest}
use Rattle.lane_rank.specs.Texts.{starts_of}
use Rattle.past_view.proofs.Answered.{no_address, line_answer}
use Rattle.past_view.proofs.lines.line_of_place.Goals as goal

pub returns-in_err-end : goal.returns-in_err-end
returns-in_err-end c = λ cs text. c.from_residual.ensures ∙ no_address cs c.args.text.now c.args.v text c.in_err-end.ensures

pub returns : goal.returns
returns c = λ cs text.
    let front = take c.in_ok-end.end c.args.text.now in
    let column = c.utf8_len.ensures ∙ ap starts_of (take_rest front c.in_ok-start.start) in
    line_answer cs c.args.text.now c.args.v c.in_ok-end.end c.in_ok-start.start c.newlines-line.result c.utf8_len.result text
    c.in_ok-end.ensures
    c.newlines-line.ensures c.in_ok-start.ensures column
