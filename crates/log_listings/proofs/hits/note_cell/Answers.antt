use Rattle.std.proofs.Common.{ℕ, List, ap₂, subst}
use Rattle.op_name.specs.NameData.{NameData}
use Rattle.log_listings.proofs.Appending.{where_well}
use Rattle.log_listings.proofs.Hitting.{AreNotedAlso, noted_cell}
use Rattle.log_listings.proofs.hits.note_cell.Goals as goal

pub returns : goal.returns
returns c =
    let old = c.args.noted.now.entries in
    let new = c.note_deleters.new.noted.entries in
    where_well c.note_deleters.result (λ noted cells a.
    noted_cell cells c.args.cell.now c.id-id.result old new
    (ap₂ (λ (n : NameData) (k : ℕ). (n, k)) c.id-id.ensures.name c.id-id.ensures.offset)
    (subst (λ (ds : List (NameData × ℕ)). AreNotedAlso ds c.id-id.result old new) c.deleters.ensures.deleters noted) a)
    c.note_deleters.ensures
