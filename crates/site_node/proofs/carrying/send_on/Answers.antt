use Rattle.site_node.proofs.Carriages.{sends_piece, front_of_rest}
use Rattle.site_node.proofs.carrying.send_on.Goals as goal

pub returns-in-Ok-clause-sends : goal.returns-in-Ok-clause-sends
returns-in-Ok-clause-sends g c =
    sends_piece _ _ _ _ c.args.bytes.now _ c.split_at-2.result.0.now _ _ c.args.at c.split_at.ensures.back c.split_at-2.ensures.front
    c.split_at-2.ensures.front_len c.in-Ok.ensures.whole c.requires.pair c.requires.other c.in-Ok.ensures.brought

pub returns-in-Err-clause-front : goal.returns-in-Err-clause-front
returns-in-Err-clause-front g c =
    front_of_rest _ _ c.args.bytes.now _ c.split_at-2.result.0.now c.args.at _ c.split_at.ensures.back c.split_at-2.ensures.front
    c.in-Err.ensures.front
