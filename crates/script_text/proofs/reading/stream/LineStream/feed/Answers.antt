use Rattle.std.proofs.Common.{◌≡◌, subst, sym, false}
use Rattle.script_text.specs.LeftLines.{InputData}
use Rattle.script_text.specs.Code.Keeping.{lines_kept}
use Rattle.script_text.proofs.Takings.{input_fed, fed_len}
use Rattle.script_text.proofs.reading.stream.LineStream.feed.Goals as goal

pub invariant_of-self-2 : goal.invariant_of-self-2
invariant_of-self-2 c =
    let before : InputData =
    record {
      lines = lines_kept c.self.inside.lines;
      fed = c.self.inside.fed;
      over = c.self.inside.over;
      refusal =
          c.self.inside.refusal;
    } in
    rw (c.in_ok-add.ensures.ok, c.first-looked_at.ensures, fed_len c.self.inside.fed c.args.piece.now c.self.invariant.fed)
    (input_fed before c.args.piece.now c.self.invariant (subst (λ (s : InputData). s.over ≡ false) (sym c.self.view_is) c.requires))
