use Rattle.std.proofs.Common.{List, subst, sym}
use Rattle.context_diff.specs.Ops.{data_of}
use Rattle.session_log.specs.declared.log_bad.LogBad.TheVariants as bad
use Rattle.session_log.specs.declared.placed.Placed.{Placed}
use Rattle.session_log.specs.Readings.{IsUnread}
use Rattle.session_log.proofs.Frames.{unread, has_operation}
use Rattle.op_name.proofs.CallerLemmas.{handed_on}
use Rattle.session_log.proofs.Listings.{IsListing, listing_first, listing_more, listing_end, ends_placed, passes_placed, at_placed}
use Rattle.session_log.proofs.reading.read_into.Goals as goal

pub loop-placed-init : goal.loop-placed-init
loop-placed-init c =
    listing_first c.args.bytes.now c.args.out.now.items c.in_ok-left.left c.in_ok-left.ensures.begins c.in_ok-left.ensures.offset

pub returns-in_err-placed-clause-refused : goal.returns-in_err-placed-clause-refused
returns-in_err-placed-clause-refused c =
    handed_on (IsUnread c.args.bytes.now) c.from_residual-in_err-placed.result c.in_err-placed.field-0.0
    c.from_residual-in_err-placed.ensures.1
    (unread c.args.bytes.now c.loop-placed.invariant.ops c.loop-placed.left c.in_err-placed.field-0.0 c.loop-placed.invariant.passed
    c.in_err-placed.ensures.none)

pub loop-placed-preserved : goal.loop-placed-preserved
loop-placed-preserved c =
    let p = c.in-Some.placed in
    subst (λ (xs : List Placed). IsListing c.args.bytes.now c.args.out.now.items xs c.next.new.self) (sym c.in_ok-append.ensures.ok)
    (listing_more c.args.bytes.now c.args.out.now.items c.loop-placed.out.items c.loop-placed.left c.next.new.self p c.loop-placed.invariant
    (passes_placed c.loop-placed.left c.next.new.self c.in_ok-placed.field-0 p c.in-Some.is c.in_ok-placed.ensures.step)
    (at_placed c.loop-placed.left c.in_ok-placed.field-0 p c.in-Some.is c.in_ok-placed.ensures.place))

pub returns-clause-ok : goal.returns-clause-ok
returns-clause-ok c =
    listing_end c.args.bytes.now c.args.out.now.items c.loop-placed.out.items c.loop-placed.left c.loop-placed.invariant
    (ends_placed c.loop-placed.left c.next.new.self c.in_ok-placed.field-0 c.in_default.is c.in_ok-placed.ensures.step)

pub returns-in_err-append-clause-refused : goal.returns-in_err-append-clause-refused
returns-in_err-append-clause-refused c =
    let p = c.in-Some.placed in
    handed_on (IsUnread c.args.bytes.now) c.from_residual-in_err-append.result bad.Memory c.from_residual-in_err-append.ensures.1
    (has_operation c.args.bytes.now c.loop-placed.invariant.ops (data_of p.op) c.loop-placed.left c.next.new.self
    c.loop-placed.invariant.passed
    (passes_placed c.loop-placed.left c.next.new.self c.in_ok-placed.field-0 p c.in-Some.is c.in_ok-placed.ensures.step))
