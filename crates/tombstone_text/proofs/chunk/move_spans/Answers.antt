use Rattle.std.proofs.Common.{◌≡◌, List, length, take, drop, reverse, sym, ap, ◌∙◌, arith}
use Rattle.std.proofs.lemmas.List.{take_at, drop_at}
use Rattle.tombstone_text.specs.Code.Spans.{SpanData}
use Rattle.tombstone_text.proofs.chunk.move_spans.Goals as goal

pub returns-clause-lower : goal.returns-clause-lower
returns-clause-lower c =
    let i = c.loop-from.invariant in
    let half : length c.loop-from.from.items ≡ c.args.keep =
    let done = c.loop-from-test.false in let l = c.len.ensures in let low = i.2 in omega arith in
    sym (ap (λ (s : List SpanData). take c.args.keep s) (sym i.0)
    ∙ take_at c.loop-from.from.items (reverse c.loop-from.to.items) c.args.keep half)

pub returns-clause-upper : goal.returns-clause-upper
returns-clause-upper c =
    let i = c.loop-from.invariant in
    let half : length c.loop-from.from.items ≡ c.args.keep =
    let done = c.loop-from-test.false in let l = c.len.ensures in let low = i.2 in omega arith in
    c.reverse.ensures.items ∙ sym (ap (λ (s : List SpanData). drop c.args.keep s) (sym i.0)
    ∙ drop_at c.loop-from.from.items (reverse c.loop-from.to.items) c.args.keep half)
