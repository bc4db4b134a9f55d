use Rattle.trace_explain.specs.declared.listing.Listed.{Listed}
use Rattle.trace_explain.specs.Listings.{ListingData, Lists}
use Rattle.trace_explain.specs.Code.Listed.{data_of}
use Rattle.trace_explain.specs.Code.Tasks.{AreDerived, CanBeDone, Gives, all_turns}
use Rattle.trace_explain.proofs.tasks.list.Given as goal

abbrev pub invariant-loop-task : goal.invariant-loop-task
invariant-loop-task l = record {
  derived : AreDerived l.book.ops (data_of l.listing);
  can : CanBeDone l.book.ops l.work.tasks l.work.done;
  gives : (end : ListingData) (e : Listed) → Gives l.book.ops l.work.tasks (data_of l.listing) l.work.done end e
      → Lists l.book.ops (data_of l.fn.listing) l.fn.key end e;
}

-- the most turns that the tasks take
abbrev pub decreases-loop-task : goal.decreases-loop-task
decreases-loop-task l = all_turns l.book.ops l.work.tasks
