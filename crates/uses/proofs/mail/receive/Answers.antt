use Rattle.std.proofs.Common.{subst}
use Rattle.std.proofs.lemmas.Result.{IfErr-weaker}
use Rattle.context_diff.specs.Ops.{data_of}
use Rattle.cot_site.specs.Sites.{state_of}
use Rattle.wire_codec.specs.declared.answers.Decoded.{Decoded}
use Rattle.wire_codec.specs.declared.version.Version.TheVariants.{Two}
use Rattle.wire_codec.specs.Judging.{IsFrame}
use Rattle.wire_codec.specs.Answers.{TellsOf}
use Rattle.uses.specs.Mail.{IsUnreceived, IsUnsent}
use Rattle.uses.proofs.Sending.{unreceived}
use Rattle.uses.proofs.mail.receive.Goals as goal

pub returns-in-Ok-Got-clause-refused : goal.returns-in-Ok-Got-clause-refused
returns-in-Ok-Got-clause-refused c =
    let o = data_of c.in-Ok-Got.op in
    let s = state_of c.args.site.now in
    let t = state_of c.take_in.new.site in
    let bytes = c.args.bytes.now in
    let begins : IsFrame Two bytes o c.in-Ok-Got.field-0-1 =
    subst (λ (d : Decoded). TellsOf Two bytes d) c.in-Ok-Got.field-0-is c.in-Ok-Got.ensures.tells in
    IfErr-weaker c.take_in.result (IsUnsent o s t) (IsUnreceived bytes s t) (λ why. unreceived bytes o c.in-Ok-Got.field-0-1 s t why begins)
    c.take_in.ensures.refused
