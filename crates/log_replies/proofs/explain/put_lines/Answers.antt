use Rattle.std.proofs.Common.{ap, ◌+◌}
use Rattle.log_replies.proofs.Traces.{lines_more}
use Rattle.log_replies.proofs.explain.put_lines.Goals as goal

pub loop-line-preserved : goal.loop-line-preserved
loop-line-preserved c =
    let next = ap (λ n. n + 1) c.loop-line.invariant.0 in (
      next,
      lines_more c.args.book.now.ops c.args.out.now.items c.args.lines.now c.loop-line.line-index (c.loop-line.number + 1)
          c.line-item.result
          c.loop-line.out.items c.put_line.new.out.items
          c.loop-line-test.true c.line-item.is next c.loop-line.invariant.1 c.in_ok-put_line.ensures,
    )
