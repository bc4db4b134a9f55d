use Rattle.std.proofs.Common.{sym, subst}
use Rattle.std.proofs.lemmas.List.Elements.{AllWithin-more}
use Rattle.std.proofs.lemmas.Option.{get_or_from_slice_get}
use Rattle.context_diff.specs.Ops.{data_of}
use Rattle.context_diff.proofs.CallerLemmas.{complete}
use Rattle.cot_site.specs.Verdicts.{IsRepeat}
use Rattle.cot_site.proofs.CallerLemmas.{formed_at}
use Rattle.uses.proofs.alike.has_all.Goals as goal

pub has-requires : goal.has-requires
has-requires c =
    formed_at c.args.book.now.ops c.loop-i.i (data_of c.in-Some.op.now) (complete c.args.book.now.ops c.known.ensures.valid).formed
    (sym c.in-Some.ensures)

pub loop-i-preserved : goal.loop-i-preserved
loop-i-preserved c =
    let repeat = IsRepeat c.args.site.now.history in
    let os = c.args.book.now.ops in
    let o = data_of c.in-Some.op.now in
    AllWithin-more repeat os 0 c.loop-i.i c.loop-i.invariant (λ d.
    subst repeat (sym (get_or_from_slice_get os c.loop-i.i o d (sym c.in-Some.ensures))) (c.has.ensures.0 c.if-not-has.false))
