use Rattle.std.proofs.Common.{sym, arith}
use Rattle.context_diff.specs.Ops.{data_of}
use Rattle.cot_site.proofs.CallerLemmas.{got_there}
use Rattle.log_listings.proofs.Lines.{lines_more, lines_all}
use Rattle.log_listings.proofs.listing.put_lines.Goals as goal

pub put_line-requires-clause-there : goal.put_line-requires-clause-there
put_line-requires-clause-there c = got_there c.args.book.now.ops c.loop-i.i (data_of c.in-Some.op.now) (sym c.in-Some.ensures)

pub loop-i-preserved : goal.loop-i-preserved
loop-i-preserved c =
    lines_more c.args.book.now.ops c.args.out.now.items c.loop-i.out.items c.put_line.new.out.items c.loop-i.i
    (data_of c.in-Some.op.now) c.loop-i.invariant (sym c.in-Some.ensures) c.in_ok-put_line-in-Some.ensures

pub returns : goal.returns
returns c =
    lines_all c.args.book.now.ops c.args.out.now.items c.loop-i.out.items c.loop-i.i c.loop-i.invariant
    (omega (arith, c.loop-i-test.false, c.len-i-end.ensures))
