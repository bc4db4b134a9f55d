use Rattle.std.proofs.Common.{◌≡◌, List, [], length, ap, ◌∙◌, arith}
use Rattle.std.proofs.lemmas.List.Filters.{dedup_is}
use Rattle.std.proofs.lemmas.List.Kept.{Contains-dedup_nat, Contains-from_dedup}
use Rattle.std.proofs.lemmas.List.Sorted.{Contains-permutation, IsPermutation-sym}
use Rattle.std.proofs.lemmas.Map.Keys.{IsStrictlyIncreasing-dedup}
use Rattle.context_diff.specs.Operations.{OpData}
use Rattle.ttf_form.specs.Cells.{applied}
use Rattle.transform_rec.specs.Executing.{executed}
use Rattle.touched_cells.proofs.Touching.{before_next, before_last, got_there}
use Rattle.touched_cells.proofs.places.touched.Goals as goal

pub loop-i-preserved : goal.loop-i-preserved
loop-i-preserved c =
    let s = c.args.site.now in
    let operations : c.len-end.result ≡ length s.history = c.len-end.ensures ∙ ap (λ (h : List OpData). length h) c.book.ensures in
    let o = got_there s.history c.loop-i.i (omega (arith, operations)) in
    before_next s.history c.args.from (executed applied [] s.forms) c.loop-i.i o.0 c.loop-i.places.items c.add_touched.new.places.items
    (omega arith) o.1 (c.in_ok-add_touched.ensures c.if-not-branch.false o.0 o.1) c.loop-i.invariant

pub returns : goal.returns
returns c =
    let s = c.args.site.now in
    let operations : c.len-end.result ≡ length s.history = c.len-end.ensures ∙ ap (λ (h : List OpData). length h) c.book.ensures in
    let is = dedup_is _ _ _ c.dedup.ensures.filtered in
    let moved = c.sort_unstable.ensures.permutation in
    before_last s.history c.args.from (executed applied [] s.forms) c.loop-i.i c.loop-i.places.items c.dedup.new.self.items
    (omega (arith, operations)) c.loop-i.invariant
    (rw is (IsStrictlyIncreasing-dedup _ c.sort_unstable.ensures.sorted))
    (λ p h. rw is (Contains-dedup_nat _ p (Contains-permutation _ _ p moved h)))
    (λ p h. Contains-permutation _ _ p (IsPermutation-sym _ _ moved) (Contains-from_dedup _ _ p (rw is at h)))
