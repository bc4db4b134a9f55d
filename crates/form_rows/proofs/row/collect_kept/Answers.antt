use Rattle.std.proofs.Common.{arith}
use Rattle.std.proofs.lemmas.Bool.{both_ways}
use Rattle.form_rows.proofs.Looks.{adding_skip, adding_push, adding_end}
use Rattle.form_rows.proofs.row.collect_kept.Goals.{then-not-inert, else-not-inert}
use Rattle.form_rows.proofs.row.collect_kept.Goals as goal

pub loop-i-preserved : goal.loop-i-preserved
loop-i-preserved g c =
    let less = c.loop-i-test.true in
    elim c.if-not-inert.branch [
      | then-not-inert w ↦ record {
        within = omega arith;
        room = rw w.out-is (omega (arith, w.push_reserved.ensures.len, w.push_reserved.ensures.capacity, c.loop-i.invariant.room));
        added = rw w.out-is (adding_push g.F.Include.IsInert c.args.forms.now c.args.from c.args.out.now.items c.index-forms-i.result
            c.loop-i.i c.loop-i.out.items w.push_reserved.new.self.items less c.index-forms-i.is
            (λ i. both_ways c.inert.result w.if-not-inert.true (c.inert.ensures.1 i)) w.push_reserved.ensures.items
            c.loop-i.invariant.added);
      }
      | else-not-inert w ↦ record {
        within = omega arith;
        room = rw w.out-is (omega (arith, c.loop-i.invariant.room));
        added = rw w.out-is (adding_skip g.F.Include.IsInert c.args.forms.now c.args.from c.args.out.now.items c.index-forms-i.result
            c.loop-i.i c.loop-i.out.items less c.index-forms-i.is (c.inert.ensures.0 w.if-not-inert.false) c.loop-i.invariant.added);
      }
    ]

pub returns-clause-ok : goal.returns-clause-ok
returns-clause-ok g c =
    adding_end g.F.Include.IsInert c.args.forms.now c.args.from c.args.out.now.items c.loop-i.i c.loop-i.out.items (omega arith)
    c.loop-i.invariant.added
