use Rattle.std.proofs.Common.{◌≡◌, ℕ, List, length, sym, ap, ◌∙◌}
use Rattle.std.proofs.lemmas.List.{length-map}
use Rattle.tombstone_text.specs.Chunks.{flag_of}
use Rattle.tombstone_text.specs.Code.Spans.{span_cells}
use Rattle.tombstone_text.proofs.Following.{length-run}
use Rattle.tombstone_text.proofs.span.Span.raise.Goals as goal

pub put_flags-requires : goal.put_flags-requires
put_flags-requires c =
    let s = c.args.self.now in
    let h : length c.args.flags.now ≡ s.count =
    ap (λ (fs : List ℕ). length fs) c.requires ∙ length-map (span_cells s) flag_of ∙ length-run s.first s.count in
    h ∙ sym c.raise_own.ensures.count
