use Rattle.std.proofs.Common.{◌≡◌, subst, sym, ap, ◌∙◌, None, Ok, drop}
use Rattle.std.specs.Prelude.{Option}
use Rattle.script_text.specs.declared.reading.line.Line.{Line}
use Rattle.script_text.specs.LeftLines.{InputData}
use Rattle.script_text.specs.Streams.{Reads}
use Rattle.script_text.specs.Code.Keeping.{lines_kept, FrontIs}
use Rattle.script_text.proofs.Takings.{input_taken, dropped_rest}
use Rattle.script_text.proofs.reading.stream.LineStream.take_next.Goals as goal

pub invariant_of-self : goal.invariant_of-self
invariant_of-self c =
    let before : InputData =
    record {
      lines = lines_kept c.self.inside.lines;
      fed = c.self.inside.fed;
      over = c.self.inside.over;
      refusal =
          c.self.inside.refusal;
    } in
    let r : Reads before (Ok c.in-Ok-Some.line) =
    subst (λ (s : InputData). Reads s (Ok c.in-Ok-Some.line)) (sym c.self.view_is)
    (subst (λ (o : Option Line). FrontIs c.args.self.now (Ok o)) c.in-Ok-Some.field-0-is c.in-Ok-Some.ensures) in
    rw c.drop_front.ensures (input_taken before r.line r.rest c.self.invariant
    (subst (λ (s : InputData). s.refusal ≡ None) (sym c.self.view_is) c.requires) r.next)

pub returns-in-Ok-Some : goal.returns-in-Ok-Some
returns-in-Ok-Some c =
    let r : Reads c.args.self.now (Ok c.in-Ok-Some.line) =
    subst (λ (o : Option Line). FrontIs c.args.self.now (Ok o)) c.in-Ok-Some.field-0-is c.in-Ok-Some.ensures in
    let e : lines_kept c.drop_front.new.self ≡ r.rest =
    c.drop_front.ensures ∙ (ap (λ (s : InputData). drop 1 s.lines) c.self.view_is
    ∙ dropped_rest c.args.self.now r.line r.rest r.next) in
    (c.requires, (r, rw e (ap (λ (s : InputData). record s { lines = r.rest }) c.self.view_is)))
