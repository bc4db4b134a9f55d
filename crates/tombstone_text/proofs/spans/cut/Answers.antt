use Rattle.std.proofs.Common.{◌≡◌, ◌+◌, ◌<◌, length, ap, ◌∙◌, insert, set, arith}
use Rattle.tombstone_text.specs.Code.Spans.{pieces}
use Rattle.tombstone_text.proofs.Pieces.{piece_count, pieces_cut}
use Rattle.tombstone_text.proofs.spans.cut.Goals as goal

pub cut-upper-requires-clause-less : goal.cut-upper-requires-clause-less
cut-upper-requires-clause-less c =
    let lt : c.args.i < length c.args.spans.now.items = omega arith in
    let count = piece_count c.args.spans.now.items c.args.i c.index_mut-span.result.now lt c.index_mut-span.ensures.value in
    omega (arith, count, c.requires.less)

pub returns-clause-cut : goal.returns-clause-cut
returns-clause-cut c =
    let ss = c.args.spans.now.items in
    let x = c.index_mut-span.result.now in
    let low = c.cut-upper.new.self in
    let high = c.cut-upper.result in
    let lt : c.args.i < length ss = omega arith in
    let count = piece_count ss c.args.i x lt c.index_mut-span.ensures.value in
    let less = c.requires.less in
    let upper = ap (λ v. v.count) c.cut-upper.ensures.upper in
    let now : c.insert.new.self.items ≡ insert (set ss c.args.i low) (c.args.i + 1) high = c.in-Ok.ensures.items in
    ap (λ s. pieces s) now
    ∙ pieces_cut ss c.args.i (c.args.i + 1) c.args.keep x low high lt c.index_mut-span.ensures.value (omega arith)
    (omega (arith, upper, count, less)) c.cut-upper.ensures.lower (ap (λ v. v.first) c.cut-upper.ensures.upper)
