use Rattle.std.proofs.Common.{ℕ, List, [], ◌∷◌, Ok, sym, ap, ◌∙◌, arith}
use Rattle.std.proofs.lemmas.Result.{err_from_is_err_and}
use Rattle.wire_codec.specs.Reading.{character_at, any_after}
use Rattle.checkpoint_codec.specs.Code.Reads.{fault_of}
use Rattle.checkpoint_codec.proofs.Loops.{begins, goes_on, ends, is_done}
use Rattle.checkpoint_codec.proofs.texts.one.Goals as goal

pub returns-in_err-ch : goal.returns-in_err-ch
returns-in_err-ch c =
    let p = err_from_is_err_and c.from_residual.result c.from_residual.ensures.1 in
    rw (p.1, p.2) (sym (ends character_at any_after 1 tt c.args.left.now 0 [] tt c.args.left.now (fault_of c.in_err-ch.field-0.0)
    (omega arith) (sym c.in_err-ch.ensures) (begins character_at any_after 1 tt c.args.left.now)))

pub returns : goal.returns
returns c =
    let start = c.args.left.now in
    let after = c.character.new.left in
    let way = goes_on character_at any_after 1 tt start 0 [] tt start after c.in_ok-ch.ch (omega arith) (sym c.in_ok-ch.ensures)
    (begins character_at any_after 1 tt start) in
    let all = is_done character_at any_after 1 tt start 1 (c.in_ok-ch.ch ∷ []) tt after (omega arith) way in
    ap (λ (text : List ℕ). Ok (text, after)) c.one.ensures ∙ sym all
