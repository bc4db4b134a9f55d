use Rattle.std.proofs.Common.{ap, ◌∙◌}
use Rattle.std.specs.Int.{w16, w32, to_be_bytes}
use Rattle.op_name.specs.NameData.{NameData}
use Rattle.log_listings.proofs.Feeding.{fed_same, group_fed}
use Rattle.log_listings.proofs.hashing.feed_group.Goals as goal

pub returns : goal.returns
returns c =
    let n = c.args.name.now in
    let old = c.args.hasher.now in
    let one = c.update.new.self in
    let two = c.update-2.new.self in
    let three = c.update-3.new.self in
    let four = c.update-4.new.self in
    group_fed old one two three four (to_be_bytes w32 8) (to_be_bytes w16 n.site) (to_be_bytes w32 n.number)
    (to_be_bytes w16 c.args.generation)
    (fed_same old one c.to_be_bytes.result (to_be_bytes w32 8) c.to_be_bytes.ensures c.update.ensures)
    (fed_same one two c.to_be_bytes-2.result (to_be_bytes w16 n.site)
    (c.to_be_bytes-2.ensures ∙ ap (λ (x : NameData). to_be_bytes w16 x.site) c.name.view_is) c.update-2.ensures)
    (fed_same two three c.to_be_bytes-3.result (to_be_bytes w32 n.number)
    (c.to_be_bytes-3.ensures ∙ ap (λ (x : NameData). to_be_bytes w32 x.number) c.name.view_is) c.update-3.ensures)
    (fed_same three four c.to_be_bytes-4.result (to_be_bytes w16 c.args.generation) c.to_be_bytes-4.ensures c.update-4.ensures)
