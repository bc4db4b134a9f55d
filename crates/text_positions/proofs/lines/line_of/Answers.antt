use Rattle.std.proofs.Common.{◌∙◌, sym, arith}
use Rattle.context_diff.specs.Replays.{characters_of}
use Rattle.text_positions.proofs.LineFronts.{address_is, first_le, lines_few, no_address}
use Rattle.text_positions.proofs.lines.line_of.Goals as goal

pub returns-in_err-line : goal.returns-in_err-line
returns-in_err-line c =
    c.from_residual.ensures ∙ sym (no_address (characters_of c.args.site.now.history) c.args.v c.in_err-line.ensures)

pub returns-in_err-front : goal.returns-in_err-front
returns-in_err-front c = absurd (c.in_err-front.ensures c.args.v (sym c.in_ok-line.ensures))

pub overflow_cast-result : goal.overflow_cast-result
overflow_cast-result c =
    let cs = characters_of c.args.site.now.history in
    record { fits = omega (arith, lines_few cs c.args.v c.in_ok-line.line (sym c.in_ok-line.ensures), c.known_few.ensures) }

pub overflow_sub-result : goal.overflow_sub-result
overflow_sub-result c =
    let cs = characters_of c.args.site.now.history in
    omega (arith, first_le cs c.args.v c.in_ok-front.front c.in_ok-line.line c.in_ok-front.ensures (sym c.in_ok-line.ensures))

pub returns : goal.returns
returns c =
    let cs = characters_of c.args.site.now.history in
    sym (address_is cs c.in_ok-line.line c.in_ok-front.front c.args.v c.in_ok-front.ensures (sym c.in_ok-line.ensures))
