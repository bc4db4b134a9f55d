use Rattle.trace_explain.specs.Code.Listed.{data_of}
use Rattle.trace_explain.proofs.Turned.{fewer_turns, taken_can, taken_gives, work_ended, work_first}
use Rattle.trace_explain.proofs.tasks.list.Goals as goal

pub loop-task-init : goal.loop-task-init
loop-task-init c =
    let first =
    work_first c.args.book.now.ops (data_of c.args.listing.now) c.args.key c.new-work.result c.add.new.self c.new-work.ensures
    c.in_ok-add.ensures c.requires.pair in
    record { derived = c.requires.derived; can = first.0; gives = first.1 }

pub turn-requires-clause-tasks : goal.turn-requires-clause-tasks
turn-requires-clause-tasks c =
    taken_can c.args.book.now.ops c.in-Some.task c.loop-task.work.tasks c.next.new.self.tasks c.loop-task.work.done c.next.new.self.done
    c.in-Some.ensures.tasks c.next.ensures.done c.loop-task.invariant.can

pub loop-task-smaller : goal.loop-task-smaller
loop-task-smaller c =
    fewer_turns c.args.book.now.ops c.in-Some.task c.loop-task.work.tasks c.next.new.self.tasks _ c.in-Some.ensures.tasks
    c.in_ok-turn-in-Some.ensures.less

pub loop-task-preserved : goal.loop-task-preserved
loop-task-preserved c = record {
  derived = c.in_ok-turn-in-Some.ensures.derived;
  can = c.in_ok-turn-in-Some.ensures.can;
  gives = λ end e g. c.loop-task.invariant.gives end e
      (taken_gives c.args.book.now.ops (data_of c.loop-task.listing) end e c.in-Some.task c.loop-task.work.tasks c.next.new.self.tasks
      c.loop-task.work.done c.next.new.self.done c.in-Some.ensures.tasks c.next.ensures.done (c.in_ok-turn-in-Some.ensures.gives end e g));
}

pub returns-in-None : goal.returns-in-None
returns-in-None c =
    work_ended c.args.book.now.ops (data_of c.args.listing.now) (data_of c.loop-task.listing) c.args.key c.loop-task.work.tasks
    c.loop-task.work.done c.in-None.ensures.tasks c.loop-task.invariant.can c.loop-task.invariant.gives
