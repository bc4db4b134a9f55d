use Rattle.std.proofs.Common.{◌≤◌, ◌<◌, ap, subst, ◌∙◌, arith, take, drop}
use Rattle.std.proofs.lemmas.List.{take_rest}
use Rattle.lane_rank.specs.Texts.{starts_of}
use Rattle.past_view.specs.Code.Counted.{IsLineEnd}
use Rattle.past_view.proofs.Answered.{no_line, no_column, place_answer}
use Rattle.past_view.proofs.lines.place_of_line.Goals as goal

pub returns-in_err-start : goal.returns-in_err-start
returns-in_err-start c =
    λ cs text. c.from_residual.ensures ∙ no_line cs c.args.text.now c.args.line c.args.column text c.in_err-start.ensures

pub returns-then-column-utf8_len : goal.returns-then-column-utf8_len
returns-then-column-utf8_len c = λ cs text.
    let rest = take_rest c.args.text.now c.in_ok-start.start in
    let end = subst (λ l. IsLineEnd l c.line_end-end.result) rest c.line_end-end.ensures in
    let size = c.utf8_len.ensures ∙ ap (λ l. starts_of (take c.line_end-end.result l)) rest in
    let short : c.args.column ≤ starts_of (take c.line_end-end.result (drop c.in_ok-start.start c.args.text.now)) =
    omega (arith, size, c.if-column-utf8_len.true) in
    place_answer cs c.args.text.now c.args.line c.args.column c.in_ok-start.start c.line_end-end.result
    c.utf8_len-then-column-utf8_len.result text
    c.in_ok-start.ensures end short c.utf8_len-then-column-utf8_len.ensures

pub returns-else-column-utf8_len : goal.returns-else-column-utf8_len
returns-else-column-utf8_len c = λ cs text.
    let rest = take_rest c.args.text.now c.in_ok-start.start in
    let end = subst (λ l. IsLineEnd l c.line_end-end.result) rest c.line_end-end.ensures in
    let size = c.utf8_len.ensures ∙ ap (λ l. starts_of (take c.line_end-end.result l)) rest in
    let past : starts_of (take c.line_end-end.result (drop c.in_ok-start.start c.args.text.now)) < c.args.column =
    omega (arith, size, c.if-column-utf8_len.false) in
    no_column cs c.args.text.now c.args.line c.args.column c.in_ok-start.start c.line_end-end.result text c.in_ok-start.ensures end past
