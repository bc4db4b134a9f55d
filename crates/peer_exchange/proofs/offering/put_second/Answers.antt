use Rattle.peer_exchange.specs.Messages.{telling}
use Rattle.peer_exchange.proofs.offering.put_second.Goals as goal
use Rattle.wire_codec.proofs.CallerLemmas.{front_on}

pub returns-clause-err : goal.returns-clause-err
returns-clause-err c =
    front_on c.put_third.result c.args.out.now.items c.put_telling.new.out.items c.put_third.new.out.items
    (telling c.vector.result.now.set) c.in_ok-put_telling.ensures.ok c.put_third.ensures.err
