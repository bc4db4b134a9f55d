use Rattle.std.proofs.Common.{◌≡◌, ℕ, ◌≤◌, ◌++◌, List, OnOk, min, length, ap, ◌∙◌, subst, arith}
use Rattle.context_diff.specs.Operations.{OpData}
use Rattle.context_diff.specs.Replays.{text_of}
use Rattle.past_view.proofs.Plays.{take_front, text_after}
use Rattle.past_view.proofs.playing.text_before.Goals as goal

pub returns-clause-ok : goal.returns-clause-ok
returns-clause-ok c =
    let s = c.args.site.now in
    let i = c.loop-i.i in
    let size = ap (λ (l : List OpData). length l) c.book.ensures in
    let end : i ≡ min c.args.index (length s.history) =
    omega (arith, c.loop-i-test.false, c.loop-i.auto.i-end, c.min-i-end.ensures, c.len.ensures, size) in
    let within : i ≤ length s.history = omega (arith, end) in
    subst (λ (bytes : List ℕ). OnOk c.write_text.result (c.write_text.new.out.items ≡ c.args.out.now.items ++ bytes))
    (text_after s.history c.known.ensures.history s.forms c.known.ensures.forms i c.loop-i.cells.cells c.loop-i.cells.text within
    c.loop-i.invariant
    ∙ ap (λ (l : List OpData). text_of l) (take_front s.history i c.args.index end))
    c.write_text.ensures.ok
