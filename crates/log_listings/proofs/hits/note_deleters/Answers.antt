use Rattle.std.proofs.Common.{ℕ, List, subst}
use Rattle.std.proofs.lemmas.List.{take_all}
use Rattle.op_name.specs.NameData.{NameData}
use Rattle.log_listings.proofs.Hitting.{AreNotedAlso, noted_more}
use Rattle.log_listings.proofs.hits.note_deleters.Goals as goal

pub loop-deleter-preserved : goal.loop-deleter-preserved
loop-deleter-preserved c =
    noted_more c.args.deleters.now c.loop-deleter.deleter-index c.deleter-item.result c.args.id.now c.args.noted.now.entries
    c.loop-deleter.noted.entries c.note.new.noted.entries c.loop-deleter-test.true c.deleter-item.is c.loop-deleter.invariant
    c.in_ok-note.ensures

pub returns : goal.returns
returns c =
    subst (λ (ds : List (NameData × ℕ)). AreNotedAlso ds c.args.id.now c.args.noted.now.entries c.loop-deleter.noted.entries)
    (take_all c.loop-deleter.deleter-index c.args.deleters.now c.loop-deleter-test.false) c.loop-deleter.invariant
