use Rattle.std.proofs.Common.{◌+◌, ℕ, List, ◌++◌, refl, sym, ap, subst, ◌∙◌}
use Rattle.context_diff.specs.Ops.{data_of}
use Rattle.wire_codec.specs.declared.answers.Decoded.{Decoded}
use Rattle.wire_codec.specs.Spelling.{frame}
use Rattle.wire_codec.specs.Judging.{IsFrame}
use Rattle.wire_codec.specs.Answers.{TellsOf}
use Rattle.wire_codec.specs.StreamData.{StreamData}
use Rattle.wire_codec.specs.Streams.{TakesOp}
use Rattle.wire_codec.proofs.stream.FrameStream.take.Goals as goal

pub returns-in-Got-clause-taken : goal.returns-in-Got-clause-taken
returns-in-Got-clause-taken c =
    let v = c.self.inside.version in
    let op = data_of c.in-Got.op in
    let left = c.self.inside.left.items in
    let told : TellsOf v c.as_slice.result.now c.in_ok-op.field-0 = c.in_ok-op.ensures.tells in
    let is : IsFrame v left op c.in-Got.used =
    subst (λ (bytes : List ℕ). IsFrame v bytes op c.in-Got.used) c.as_slice.ensures
    (subst (λ (d : Decoded). TellsOf v c.as_slice.result.now d) c.in-Got.is told) in
    let after : StreamData = record { version = v; taken = c.self.inside.taken + c.from.result; left = c.advance.new.self.items } in
    subst (λ (old : StreamData). TakesOp old op after) c.self.view_is
    (record {
      well = is.well;
      fits = is.fits;
      version = refl;
      left = is.parts ∙ ap (λ (t : List ℕ). frame v op ++ t) (sym c.advance.ensures.items);
      taken = ap (λ (n : ℕ). c.self.inside.taken + n) (c.from.ensures ∙ is.size);
    })
