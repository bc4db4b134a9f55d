use Rattle.std.proofs.Common.{◌≡◌, ◌∙◌, ◌+◌, List, None, Some, sym, subst, arith, drop}
use Rattle.cot_site.specs.declared.notes.Note.{Note}
use Rattle.cot_site.specs.Code.Notes.{first_of}
use Rattle.cot_site.proofs.Noted.{walk_here, walk_past, walk_end}
use Rattle.cot_site.proofs.notes.Notes.place_of.Goals as goal

pub returns-then-is_of : goal.returns-then-is_of
returns-then-is_of c =
    let ns = c.self.inside.list.items in
    let here =
    walk_here c.args.book.now.ops c.args.key.now ns c.loop-at.at c.index.result.now
    (omega (arith, c.loop-at-test.true, c.len-at-end.ensures, c.self.inside.list.ok.0)) c.index.ensures
    (sym c.is_of.ensures ∙ c.if-is_of.true) in
    sym (sym c.loop-at.invariant ∙ subst
    (λ (l : List Note). first_of c.args.book.now.ops c.args.key.now c.loop-at.at (drop c.loop-at.at l) ≡ Some c.loop-at.at)
    c.self.view_is here)

pub loop-at-preserved : goal.loop-at-preserved
loop-at-preserved c =
    let h = c.args.book.now.ops in
    let k = c.args.key.now in
    let i = c.loop-at.at in
    let past =
    walk_past h k c.self.inside.list.items i c.index.result.now
    (omega (arith, c.loop-at-test.true, c.len-at-end.ensures, c.self.inside.list.ok.0)) c.index.ensures
    (sym c.is_of.ensures ∙ c.if-is_of.false) in
    sym (subst (λ (l : List Note). first_of h k i (drop i l) ≡ first_of h k (i + 1) (drop (i + 1) l)) c.self.view_is past)
    ∙ c.loop-at.invariant

pub returns : goal.returns
returns c =
    let h = c.args.book.now.ops in
    let k = c.args.key.now in
    let i = c.loop-at.at in
    let end =
    walk_end h k c.self.inside.list.items i (omega (arith, c.loop-at-test.false, c.len-at-end.ensures, c.self.inside.list.ok.0)) in
    sym (subst (λ (l : List Note). first_of h k i (drop i l) ≡ None) c.self.view_is end) ∙ c.loop-at.invariant
