use Rattle.std.proofs.Common.{rules, [], refl, sym, ◌∙◌, append-nil, arith}
use Rattle.context_diff.specs.Ops.{data_of}
use Rattle.context_diff.proofs.CallerLemmas.{complete}
use Rattle.cot_site.proofs.CallerLemmas.{formed_at}
use Rattle.peer_exchange.proofs.Lacked.{count_more, count_all, frames_more, frames_all}
use Rattle.peer_exchange.proofs.lacking.put_lacked.Goals as goal
use Rattle.wire_codec.proofs.CallerLemmas.{on_err, front_of_front, front_stays}

pub put_if_lacked-requires : goal.put_if_lacked-requires
put_if_lacked-requires c =
    formed_at c.args.book.now.ops c.loop-i.i (data_of c.in-Some.op.now) (complete c.args.book.now.ops c.known.ensures.valid).formed
    (sym c.in-Some.ensures)

pub loop-i-preserved : goal.loop-i-preserved
loop-i-preserved c = record {
  out =
      frames_more c.args.state.now.set c.args.book.now.ops c.loop-i.i (data_of c.in-Some.op.now) c.args.out.now.items c.loop-i.out.items
      c.put_if_lacked.new.out.items (sym c.in-Some.ensures) c.loop-i.invariant.out c.in_ok-count-in-Some.ensures.ok;
  count =
      count_more c.args.state.now.set c.args.book.now.ops c.loop-i.i (data_of c.in-Some.op.now) c.loop-i.count _ _ (sym c.in-Some.ensures)
      c.loop-i.invariant.count c.in_ok-count-in-Some.ensures.count refl;
  few = search rules;
}

pub returns-in_err-count-in-Some-clause-err : goal.returns-in_err-count-in-Some-clause-err
returns-in_err-count-in-Some-clause-err c =
    on_err c.from_residual.result (front_of_front c.args.out.now.items c.loop-i.out.items c.put_if_lacked.new.out.items _
    c.loop-i.invariant.out (front_stays c.loop-i.out.items [] c.put_if_lacked.new.out.items
    (c.in_err-count-in-Some.ensures.err ∙ sym (append-nil c.loop-i.out.items))))

pub returns-clause-count : goal.returns-clause-count
returns-clause-count c =
    count_all c.args.state.now.set c.args.book.now.ops c.loop-i.i _ c.loop-i.invariant.count
    (omega (arith, c.loop-i-test.false, c.len-i-end.ensures))

pub returns-clause-ok : goal.returns-clause-ok
returns-clause-ok c =
    frames_all c.args.state.now.set c.args.book.now.ops c.loop-i.i c.args.out.now.items c.loop-i.out.items c.loop-i.invariant.out
    (omega (arith, c.loop-i-test.false, c.len-i-end.ensures))
