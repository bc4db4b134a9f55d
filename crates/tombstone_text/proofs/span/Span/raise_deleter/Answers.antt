use Rattle.std.proofs.Common.{subst, sym, ap, arith}
use Rattle.ttf_form.specs.Cells.{IsRising}
use Rattle.ttf_form.specs.Laws.Deleters.{raise_rising}
use Rattle.tombstone_text.proofs.span.Span.raise_deleter.Goals as goal

pub invariant_of-self : goal.invariant_of-self
invariant_of-self c =
    let count = ap (λ v. v.count) c.self.view_is in
    record {
      rising =
          subst IsRising (sym c.raise.ensures.raised)
          (raise_rising c.args.name c.args.generation c.self.inside.deleters c.self.invariant.rising);
      bare = λ several. absurd (omega (arith, several, count, c.requires.one));
      numbers = c.self.invariant.numbers;
      offsets = c.self.invariant.offsets;
    }
