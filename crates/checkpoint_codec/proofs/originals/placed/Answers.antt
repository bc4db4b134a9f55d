use Rattle.std.proofs.Common.{◌≡◌, sym, ap, ◌∙◌}
use Rattle.std.proofs.lemmas.Result.{IfOk-weaker}
use Rattle.op_name.specs.NameData.{NameData}
use Rattle.op_name.specs.declared.member.Member.TheVariants.{Original}
use Rattle.context_vector.specs.Contexts.{raised}
use Rattle.flat_history.specs.Checkpoints.{Placed, name_of, with_placed}
use Rattle.checkpoint_codec.proofs.originals.placed.Goals as goal

pub returns-clause-known : goal.returns-clause-known
returns-clause-known c =
    IfOk-weaker c.rest.result (λ (e : Placed). name_of e ≡ c.in_ok-kind.name)
    (λ (e : Placed). c.next_start.new.known.set ≡ with_placed c.args.known.now.set e)
    (λ e h. c.in_ok-kind.ensures.known ∙ ap (λ (n : NameData). raised c.args.known.now.set (Original n)) (sym h))
    c.rest.ensures.name
