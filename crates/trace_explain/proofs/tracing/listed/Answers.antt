use Rattle.std.proofs.Common.{sym, subst, ◌∙◌}
use Rattle.context_vector.specs.Contexts.{ContextData}
use Rattle.transform_rec.specs.Histories.{MayBeAddedTo}
use Rattle.trace_explain.specs.Code.Listed.{data_of}
use Rattle.trace_explain.proofs.Executed.{before_added, before_is_context}
use Rattle.trace_explain.proofs.Rows.{listed_trace, trace_of_listed}
use Rattle.trace_explain.proofs.Turned.{no_line_derived}
use Rattle.trace_explain.proofs.tracing.listed.Goals as goal

pub list-requires-clause-pair : goal.list-requires-clause-pair
list-requires-clause-pair c =
    subst (λ (d : ContextData). MayBeAddedTo c.args.book.now.ops d c.args.m.now) (sym c.share.ensures) c.in_ok-context.ensures.added

pub list-requires-clause-derived : goal.list-requires-clause-derived
list-requires-clause-derived c = no_line_derived c.args.book.now.ops (data_of c.new-listing.result) c.new-listing.ensures

pub returns-clause-listed : goal.returns-clause-listed
returns-clause-listed c =
    trace_of_listed c.args.book.now.ops c.args.m.now (data_of c.new-listing.result) (data_of c.list.new.listing) c.share.new.self.set
    c.in_ok-list.ensures.0 c.new-listing.ensures (c.share.ensures ∙ c.in_ok-context.ensures.value) c.in_ok-list.ensures.1

pub returns-clause-trace : goal.returns-clause-trace
returns-clause-trace c =
    listed_trace c.last_may_be_taken_out.ensures c.args.book.now.ops c.known.ensures.valid c.args.m.now
    (before_is_context c.args.book.now.ops c.known.ensures.valid c.args.m.now c.requires)
    (before_added c.args.book.now.ops c.known.ensures.valid c.args.m.now c.requires) (data_of c.list.new.listing).lines
    (trace_of_listed c.args.book.now.ops c.args.m.now (data_of c.new-listing.result) (data_of c.list.new.listing) c.share.new.self.set
    c.in_ok-list.ensures.0 c.new-listing.ensures (c.share.ensures ∙ c.in_ok-context.ensures.value) c.in_ok-list.ensures.1)
