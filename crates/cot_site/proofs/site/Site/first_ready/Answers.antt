use Rattle.cot_site.specs.Sites.{state_of}
use Rattle.cot_site.proofs.Waiting.{found_first}
use Rattle.cot_site.proofs.site.Site.first_ready.Goals as goal

pub returns : goal.returns
returns c =
    found_first (state_of c.args.self.now) c.known.ensures.history c.known.ensures.waiting c.vector.result.now.set c.pool.result.now
    c.vector.ensures c.pool.ensures c.first_ready.result c.first_ready.ensures.none c.first_ready.ensures.first
