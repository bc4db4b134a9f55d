use Rattle.log_listings.proofs.Appending.{where_told}
use Rattle.log_listings.proofs.Hitting.{noted_hits}
use Rattle.log_listings.proofs.hits.cells_hit.Goals as goal

pub returns : goal.returns
returns c =
    where_told c.noted_cells.result (λ noted a.
    noted_hits c.args.site.now.history c.known.ensures.history c.cells.result.now.cells c.cells.ensures.replayed noted.entries a)
    c.noted_cells.ensures
