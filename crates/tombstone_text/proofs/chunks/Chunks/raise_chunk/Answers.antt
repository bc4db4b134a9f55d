use Rattle.tombstone_text.proofs.Reach.{change_lacking}
use Rattle.tombstone_text.proofs.chunks.Chunks.raise_chunk.Goals as goal

pub returns-in-Nothing-clause-chunks : goal.returns-in-Nothing-clause-chunks
returns-in-Nothing-clause-chunks c =
    change_lacking c.args.generation c.args.name.now c.args.self.now.chunks c.args.i c.in-Nothing.ensures
