use Rattle.cot_site.proofs.Findings.{site_found}
use Rattle.cot_site.proofs.judging.open_site.Goals as goal
use Rattle.context_diff.proofs.CallerLemmas.{ready_covered}

pub closed-requires : goal.closed-requires
closed-requires c =
    ready_covered c.args.book.now.ops c.args.book.now.have.set c.args.v.now.set c.known.ensures.valid c.known.ensures.have c.requires

pub returns : goal.returns
returns c =
    site_found c.args.book.now.ops c.known.ensures.valid c.args.v.now.set c.known-2.ensures c.requires c.closed.result c.closed.ensures.none
    c.closed.ensures.first
