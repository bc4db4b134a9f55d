use Rattle.std.proofs.Common.{◌≡◌, ◌+◌, length, ap, arith}
use Rattle.char_marks.specs.Marks.{MarkData}
use Rattle.char_marks.specs.Covered.{seen_in}
use Rattle.char_marks.proofs.SeenCounts.{seen_counted}
use Rattle.char_marks.proofs.Spots.{seen_short}
use Rattle.char_marks.proofs.taking.with_ends.Goals as goal

pub ends_of-ends-requires-clause-range : goal.ends_of-ends-requires-clause-range
ends_of-ends-requires-clause-range c =
    let h = c.args.site.now.history in
    let end : c.mark.inside.place + c.mark.inside.len ≡ c.args.mark.place + c.args.mark.len =
    ap (λ (m : MarkData). m.place + m.len) c.mark.view_is in
    let counted = seen_counted h c.args.mark in
    let short = seen_short h c.args.mark c.cells.result.now.cells c.cells.ensures.replayed in
    omega (arith, end, counted, short, c.requires.within, c.known-2.ensures.most)

pub ends_of-ends-requires-clause-within : goal.ends_of-ends-requires-clause-within
ends_of-ends-requires-clause-within c =
    let h = c.args.site.now.history in
    let end : c.mark.inside.place + c.mark.inside.len ≡ c.args.mark.place + c.args.mark.len =
    ap (λ (m : MarkData). m.place + m.len) c.mark.view_is in
    let same : length (seen_in h c.mark.inside.context.set) ≡ length (seen_in h c.args.mark.context) =
    ap (λ (m : MarkData). length (seen_in h m.context)) c.mark.view_is in
    let counted = seen_counted h c.args.mark in
    omega (arith, end, same, counted, c.requires.within)
