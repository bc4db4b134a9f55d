use Rattle.std.proofs.Common.{ℕ, refl, ◌∙◌, sym, arith}
use Rattle.std.proofs.lemmas.Bool.{false≢true, true≢false}
use Rattle.op_name.specs.NameData.{NameData}
use Rattle.context_vector.specs.Contexts.{Within}
use Rattle.context_vector.proofs.CallerLemmas.{read_all, read_first, read_more}
use Rattle.context_diff.specs.Bases.{original_context}
use Rattle.context_diff.proofs.Complete.{complete}
use Rattle.context_diff.proofs.Listings.{count_at, place_at_most, each_more}
use Rattle.context_diff.proofs.Covering.{named_known, all_covered, covered_below, not_covered}
use Rattle.context_diff.proofs.Books.{covered_ready}
use Rattle.context_diff.proofs.coverage.closed.Goals as goal

pub invariant_of-is_covered : goal.invariant_of-is_covered
invariant_of-is_covered c =
    let ps = c.args.v.now.set.counts in
    let p : ℕ × ℕ = (c.in-Some.site, c.in-Some.number) in
    let at = read_first ps c.loop-site.left c.loop-site.i p c.loop-site.invariant.0 c.in-Some.ensures.first in
    let here = count_at 0 ps c.known.ensures.counts c.loop-site.i p at in
    (here.site, here.least, here.greatest)

pub is_covered-requires-clause-known : goal.is_covered-requires-clause-known
is_covered-requires-clause-known c =
    let h = c.args.book.now.ops in
    let v = c.args.v.now.set in
    let p : ℕ × ℕ = (c.in-Some.site, c.in-Some.number) in
    let at = read_first v.counts c.loop-site.left c.loop-site.i p c.loop-site.invariant.0 c.in-Some.ensures.first in
    let ready = covered_ready h c.args.book.now.have.set v c.known-2.ensures.valid c.known-2.ensures.have c.requires in
    named_known h v ready c.known.ensures.counts c.loop-site.i p at

pub overflow_add-i : goal.overflow_add-i
overflow_add-i c =
    let ps = c.args.v.now.set.counts in
    let p : ℕ × ℕ = (c.in-Some.site, c.in-Some.number) in
    let at = read_first ps c.loop-site.left c.loop-site.i p c.loop-site.invariant.0 c.in-Some.ensures.first in
    let here = count_at 0 ps c.known.ensures.counts c.loop-site.i p at in
    record { fits = omega (arith, here.site, place_at_most 0 ps c.known.ensures.counts c.loop-site.i p at) }

pub loop-site-preserved : goal.loop-site-preserved
loop-site-preserved c =
    let h = c.args.book.now.ops in
    let v = c.args.v.now.set in
    let p : ℕ × ℕ = (c.in-Some.site, c.in-Some.number) in
    let at = read_first v.counts c.loop-site.left c.loop-site.i p c.loop-site.invariant.0 c.in-Some.ensures.first in
    let here = c.is_covered.ensures.0 c.if-not-is_covered.false in
    let each = each_more (λ (q : ℕ × ℕ). Within (original_context h (record { site = q.0; number = q.1 })) v)
    v.counts c.loop-site.i p at here c.loop-site.invariant.1 in
    (read_more v.counts c.loop-site.left c.next.new.self c.loop-site.i c.loop-site.invariant.0 c.next.ensures.rest, each)

pub returns-then-not-is_covered-clause-none : goal.returns-then-not-is_covered-clause-none
returns-then-not-is_covered-clause-none c =
    let h = c.args.book.now.ops in
    let v = c.args.v.now.set in
    let p : ℕ × ℕ = (c.in-Some.site, c.in-Some.number) in
    let at = read_first v.counts c.loop-site.left c.loop-site.i p c.loop-site.invariant.0 c.in-Some.ensures.first in
    let ready = covered_ready h c.args.book.now.have.set v c.known-2.ensures.valid c.known-2.ensures.have c.requires in
    let n : NameData = record { site = c.in-Some.site; number = c.in-Some.number } in
    let fails : Within (original_context h n) v → ⊥ =
    λ within. false≢true (sym c.if-not-is_covered.true ∙ c.is_covered.ensures.1 within) in
    let isnt = not_covered h v ready c.known.ensures.counts c.loop-site.i p at fails in
    (λ no. absurd (true≢false no), λ closed. absurd (isnt (closed c.in-Some.site)))

pub returns-then-not-is_covered-clause-first : goal.returns-then-not-is_covered-clause-first
returns-then-not-is_covered-clause-first c =
    let h = c.args.book.now.ops in
    let v = c.args.v.now.set in
    let p : ℕ × ℕ = (c.in-Some.site, c.in-Some.number) in
    let at = read_first v.counts c.loop-site.left c.loop-site.i p c.loop-site.invariant.0 c.in-Some.ensures.first in
    let ready = covered_ready h c.args.book.now.have.set v c.known-2.ensures.valid c.known-2.ensures.have c.requires in
    let n : NameData = record { site = c.in-Some.site; number = c.in-Some.number } in
    let fails : Within (original_context h n) v → ⊥ =
    λ within. false≢true (sym c.if-not-is_covered.true ∙ c.is_covered.ensures.1 within) in
    record {
      open_site = not_covered h v ready c.known.ensures.counts c.loop-site.i p at fails;
      first = covered_below h (complete h c.known-2.ensures.valid) v c.known.ensures.counts c.loop-site.i p at c.loop-site.invariant.1;
    }

pub returns-clause-none : goal.returns-clause-none
returns-clause-none c =
    let h = c.args.book.now.ops in
    let v = c.args.v.now.set in
    let past = read_all v.counts c.loop-site.left c.loop-site.i c.loop-site.invariant.0 c.in_default.ensures.first in
    let all = all_covered h (complete h c.known-2.ensures.valid) v c.known.ensures.counts
    (λ j p less at. c.loop-site.invariant.1 j p (omega (arith, past)) at) in
    (λ _. all, λ _. refl)
