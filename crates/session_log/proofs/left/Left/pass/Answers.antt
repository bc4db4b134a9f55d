use Rattle.std.proofs.Common.{Some, refl, ap, subst}
use Rattle.wire_codec.specs.Judging.{IsFrame}
use Rattle.session_log.specs.Code.Passing.{LeftData}
use Rattle.session_log.proofs.left.Left.pass.Goals as goal

pub returns-in-Frame-clause-step : goal.returns-in-Frame-clause-step
returns-in-Frame-clause-step c =
    let f = c.in-Frame.ensures.says in (
      Some f.op,
      record {
        used = c.in-Frame.used;
        is_frame = subst (λ (l : LeftData). IsFrame l.version l.bytes f.op c.in-Frame.used) c.self.view_is f.is;
        version = ap (λ (l : LeftData). l.version) c.advance.ensures;
        offset = ap (λ (l : LeftData). l.offset) c.advance.ensures;
        bytes = ap (λ (l : LeftData). l.bytes) c.advance.ensures;
      },
      refl,
    )
