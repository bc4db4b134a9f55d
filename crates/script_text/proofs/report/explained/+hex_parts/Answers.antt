use Rattle.std.proofs.Common.{arith}
use Rattle.std.proofs.lemmas.Result.{on_ok_weaker}
use Rattle.script_text.proofs.HexDigits.{hex_none, hex_more}
use Rattle.script_text.proofs.report.explained.+hex_parts.Goals as goal

pub returns-then-count-eq0-clause-ok : goal.returns-then-count-eq0-clause-ok
returns-then-count-eq0-clause-ok t c = hex_none c.args.count c.args.number c.args.out.now.items (omega (arith, c.if-count-eq0.true))

pub returns-clause-ok : goal.returns-clause-ok
returns-clause-ok t c =
    on_ok_weaker c.put_digit.result
    (λ e. hex_more c.args.count c.args.number c.args.out.now.items _ _ (omega (arith, c.if-count-eq0.false)) c.in_ok-hex_parts.ensures.ok e)
    c.put_digit.ensures.ok
