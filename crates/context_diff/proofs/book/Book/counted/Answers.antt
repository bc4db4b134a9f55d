use Rattle.std.proofs.Common.{◌≡◌, ℕ, suc, ◌+◌, List, ap, sym, subst, ◌∙◌, arith, take, add-one}
use Rattle.context_vector.proofs.CallerLemmas.{read_all, read_first, read_more}
use Rattle.context_diff.specs.Operations.{OpData}
use Rattle.context_diff.specs.Books.{BookData}
use Rattle.context_diff.specs.Code.Counting.{cells_listed}
use Rattle.context_diff.specs.Code.Tallies.{AreTallies, counts_of}
use Rattle.context_diff.proofs.Books.{listed_next, listed_bound, listed_all}
use Rattle.context_diff.proofs.book.Book.counted.Goals as goal

-- the sum with the site at hand
next : (c : goal.After-cells-total)
    → cells_listed c.args.self.now.ops (take (suc c.loop-site.invariant.0) c.args.v.now.set.counts)
    ≡ c.loop-site.total + c.cells-total.result
next c =
    let h = c.args.self.now.ops in
    let ps = c.args.v.now.set.counts in
    let i = c.loop-site.invariant.0 in
    let p : ℕ × ℕ = (c.in-Some.site, c.in-Some.number) in
    let tallies : AreTallies h (counts_of c.self.inside.tallies) =
    subst (λ (k : List OpData). AreTallies k (counts_of c.self.inside.tallies)) (ap (λ (b : BookData). b.ops) c.self.view_is)
    c.self.invariant.tallies in
    let at = read_first ps c.loop-site.left i p c.loop-site.invariant.1 c.in-Some.ensures.first in
    listed_next h c.args.self.now.have.set c.args.v.now.set (counts_of c.self.inside.tallies) c.known-2.ensures.valid
    c.known-2.ensures.have c.requires c.known.ensures.counts tallies i p at
    ∙ (λ j. sym c.loop-site.invariant.2 j + sym c.cells-total.ensures j)

pub overflow_add-total : goal.overflow_add-total
overflow_add-total c =
    let bound = listed_bound c.args.self.now.ops c.args.v.now.set c.known-2.ensures.valid c.known.ensures.counts
    (suc c.loop-site.invariant.0) in
    record { fits = omega (arith, next c, bound, c.known-2.ensures.cells) }

pub loop-site-preserved : goal.loop-site-preserved
loop-site-preserved c =
    let ps = c.args.v.now.set.counts in
    let i = c.loop-site.invariant.0 in
    let sum = sym (next c) ∙ ap (λ n. cells_listed c.args.self.now.ops (take n ps)) (sym (add-one i)) in
    (i + 1, read_more ps c.loop-site.left c.next.new.self i c.loop-site.invariant.1 c.next.ensures.rest, sum)

pub returns : goal.returns
returns c =
    let past = read_all c.args.v.now.set.counts c.loop-site.left c.loop-site.invariant.0 c.loop-site.invariant.1
    c.in_default.ensures.first in
    c.loop-site.invariant.2 ∙ listed_all c.args.self.now.ops c.args.v.now.set c.known-2.ensures.valid c.known.ensures.counts
    c.loop-site.invariant.0 past
