use Rattle.std.proofs.Common.{sym}
use Rattle.std.proofs.lemmas.Result.{err_from_is_err_and}
use Rattle.wire_codec.specs.Reading.{character_at, any_after}
use Rattle.checkpoint_codec.specs.Code.Reads.{fault_of}
use Rattle.checkpoint_codec.proofs.Loops.{many_length, goes_on, ends, is_done}
use Rattle.checkpoint_codec.proofs.texts.characters.Goals as goal

pub returns-in_err-ch-clause-read : goal.returns-in_err-ch-clause-read
returns-in_err-ch-clause-read c =
    let p = err_from_is_err_and c.from_residual-in_err-ch.result c.from_residual-in_err-ch.ensures.1 in
    rw (p.1, p.2) (ends character_at any_after c.args.len tt c.args.left.now c.loop.counter c.loop.chars.items tt c.loop.left
    (fault_of c.in_err-ch.field-0.0) c.loop-test.true (sym c.in_err-ch.ensures) c.loop.invariant)

pub loop-preserved : goal.loop-preserved
loop-preserved c =
    rw c.in_ok-push.ensures.items
    (goes_on character_at any_after c.args.len tt c.args.left.now c.loop.counter c.loop.chars.items tt c.loop.left c.character.new.left
    c.in_ok-ch.ch c.loop-test.true (sym c.in_ok-ch.ensures) c.loop.invariant)

pub returns-clause-read : goal.returns-clause-read
returns-clause-read c =
    is_done character_at any_after c.args.len tt c.args.left.now c.loop.counter c.loop.chars.items tt c.loop.left c.loop-test.false
    c.loop.invariant

pub returns-clause-len : goal.returns-clause-len
returns-clause-len c =
    many_length character_at any_after c.args.len tt c.args.left.now c.loop.left c.loop.chars.items
    (is_done character_at any_after c.args.len tt c.args.left.now c.loop.counter c.loop.chars.items tt c.loop.left c.loop-test.false
    c.loop.invariant)
