use Rattle.std.proofs.Common.{ℕ, ◌+◌, ◌∙◌, sym, arith}
use Rattle.session_replay.proofs.Names.{found_here, found_later, found_none, found_range}
use Rattle.session_replay.proofs.sites.drawing.named_at.Goals as goal

pub invariant_of-result : goal.invariant_of-result
invariant_of-result c =
    let p : ℕ × ℕ = (c.in-Some.site, c.in-Some.number) in
    let range = found_range c.loop-site.invariant.0 c.loop-site.sites c.next.new.self p c.loop-site.invariant.1 c.in-Some.ensures.first
    c.next.ensures.rest in
    (range.site, omega arith, omega (arith, range.greatest, c.if-left-number.true))

pub returns-then-left-number : goal.returns-then-left-number
returns-then-left-number c =
    let p : ℕ × ℕ = (c.in-Some.site, c.in-Some.number) in
    sym (c.loop-site.invariant.2 ∙ found_here c.loop-site.sites p c.loop-site.left c.in-Some.ensures.first c.if-left-number.true)

pub loop-site-preserved : goal.loop-site-preserved
loop-site-preserved c =
    let p : ℕ × ℕ = (c.in-Some.site, c.in-Some.number) in
    let range = found_range c.loop-site.invariant.0 c.loop-site.sites c.next.new.self p c.loop-site.invariant.1 c.in-Some.ensures.first
    c.next.ensures.rest in
    let later = found_later c.loop-site.sites c.next.new.self p c.loop-site.left c.in-Some.ensures.first c.next.ensures.rest
    c.if-left-number.false in
    (p.0 + 1, range.others, c.loop-site.invariant.2 ∙ later)

pub returns : goal.returns
returns c = sym (c.loop-site.invariant.2 ∙ found_none c.loop-site.sites c.loop-site.left c.in_default.ensures.first)
