use Rattle.std.proofs.Common.{◌∙◌}
use Rattle.std.specs.Prelude.{vec_len}
use Rattle.context_diff.proofs.CallerLemmas.{have_known}
use Rattle.trace_explain.proofs.Smaller.{none_left, nothing_between}
use Rattle.trace_explain.proofs.contexts.last_between.Goals as goal

pub difference-requires : goal.difference-requires
difference-requires c =
    λ m e. have_known c.args.book.now.ops c.args.book.now.have.set c.known.ensures.valid c.known.ensures.have m ∙ c.requires.added.ready m e

pub unreachable-requires : goal.unreachable-requires
unreachable-requires c =
    let none =
    none_left c.new-between.result.items _ c.difference.new.out.items c.pop.new.self.items (vec_len c.difference.new.out)
    c.new-between.ensures.items c.in_ok-difference.ensures.appended c.in-None.ensures.items c.in-None.ensures.rest
    c.in-None.ensures.cases.0 in
    c.requires.more (nothing_between c.args.book.now.ops c.known.ensures.valid c.args.m.now c.args.context.now.set c.args.own.now.set
    c.requires.added c.requires.own c.known-3.ensures c.known-2.ensures none)
