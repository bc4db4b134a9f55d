use Rattle.std.proofs.Common.{rules}
use Rattle.past_view.proofs.Stretches.{end_of_bytes, end_counted, end_none}
use Rattle.past_view.proofs.player.byte_at.Goals as goal

pub returns-then-text-chars : goal.returns-then-text-chars
returns-then-text-chars c = λ front rest is long all.
    end_of_bytes front rest c.args.text.now c.args.v c.args.chars is long all (search rules)

pub returns-in-Some : goal.returns-in-Some
returns-in-Some c = λ front rest is long all. end_counted front rest c.args.text.now c.args.v c.in-Some.at is long c.in-Some.ensures

pub returns-in-None : goal.returns-in-None
returns-in-None c = λ front rest is long all. end_none front rest c.args.text.now c.args.v is long c.in-None.ensures
