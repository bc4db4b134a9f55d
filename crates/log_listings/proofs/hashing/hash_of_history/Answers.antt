use Rattle.std.proofs.Common.{[], ap, ◌∙◌}
use Rattle.sha2.specs.Sha256.{sha256}
use Rattle.log_listings.proofs.SameBytes.{history_parts}
use Rattle.log_listings.proofs.hashing.hash_of_history.Goals as goal

pub returns : goal.returns
returns c =
    let h = c.args.book.now.ops in
    let have = c.args.book.now.have.set in
    c.finalize.ensures _ (c.feed_groups.ensures _ (c.in_ok-feed_originals.ensures [] c.new-hasher.ensures))
    ∙ ap sha256 (history_parts h have c.known.ensures.have)
