use Rattle.std.proofs.Common.{◌<◌, ◌++◌, length, sym, ap, ◌∙◌, arith}
use Rattle.std.proofs.lemmas.List.{length-map}
use Rattle.std.proofs.lemmas.Option.{slice_get_within}
use Rattle.std.proofs.lemmas.Result.{on_ok_weaker}
use Rattle.context_diff.specs.Operations.{OpData, member_of}
use Rattle.context_diff.specs.Histories.{members_in}
use Rattle.context_diff.specs.Ops.{data_of}
use Rattle.context_diff.proofs.CallerLemmas.{complete}
use Rattle.cot_site.proofs.CallerLemmas.{formed_at}
use Rattle.wire_codec.specs.declared.version.Version.TheVariants.{Two}
use Rattle.wire_codec.specs.Spelling.{frame}
use Rattle.site_ranges.proofs.Outboxes.{one_there}
use Rattle.site_ranges.proofs.Turning.{none_there}
use Rattle.site_ranges.proofs.outbox.put_member.Goals as goal

pub encode2-requires : goal.encode2-requires
encode2-requires c =
    formed_at c.args.book.now.ops c.in-Some.place (data_of c.in-Some-op.op.now) (complete c.args.book.now.ops c.known.ensures.valid).formed
    (sym c.in-Some-op.ensures)

pub unreachable-requires : goal.unreachable-requires
unreachable-requires c =
    let os = c.args.book.now.ops in
    let within = slice_get_within (members_in os) c.in-Some.place c.args.member.now c.in-Some.ensures.place in
    let lt : c.in-Some.place < length os = omega (arith, within, length-map os member_of) in
    none_there os c.in-Some.place lt (sym c.in-None-op.ensures)

pub returns-clause-ok : goal.returns-clause-ok
returns-clause-ok c =
    let os = c.args.book.now.ops in
    let q = data_of c.in-Some-op.op.now in
    on_ok_weaker c.encode2.result
    (λ is o there named. is ∙ ap (λ (x : OpData). c.args.out.now.items ++ frame Two x)
    (one_there os c.in-Some.place c.args.member.now q o c.known.ensures.valid (sym c.in-Some-op.ensures) c.in-Some.ensures.place there
    named))
    c.encode2.ensures.ok
