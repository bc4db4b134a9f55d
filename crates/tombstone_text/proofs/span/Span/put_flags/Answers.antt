use Rattle.std.proofs.Common.{replicate, sym, ap, ◌∙◌}
use Rattle.tombstone_text.proofs.Following.{flags_run}
use Rattle.tombstone_text.proofs.span.Span.put_flags.Goals as goal

pub returns : goal.returns
returns c =
    let s = c.args.self.now in
    c.fill.ensures.after (λ y e. e) ∙ ap (λ k. replicate k c.flag.result) c.requires ∙ ap (λ x. replicate s.count x) c.flag.ensures
    ∙ sym (flags_run s.first s.count)
