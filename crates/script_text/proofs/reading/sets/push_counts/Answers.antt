use Rattle.std.proofs.Common.{◌≡◌, ◌+◌, ℕ, List, [], ◌∷◌, ◌++◌, ap, ap₂, sym, subst, ◌∙◌, arith, leb-true}
use Rattle.context_vector.specs.Contexts.{ContextData}
use Rattle.context_vector.specs.Vectors.{SitesBelow}
use Rattle.script_text.specs.Sets.{counts_of, site_count_of, comes_from, rising_counts}
use Rattle.script_text.proofs.SetLaws.{IsTaken, set_with, taken_first, taken_next, sites_below, site_below, tested_comes}
use Rattle.script_text.proofs.reading.sets.push_counts.Goals as goal

pub loop-item-init : goal.loop-item-init
unfolding counts_of
loop-item-init c =
    let text = c.args.text.now in
    let items = c.of-items.result in
    let none : c.args.set.now.set.counts ≡ [] = ap (λ (s : ContextData). s.counts) c.requires in
    let all : counts_of text ≡ rising_counts 0 items = ap (rising_counts 0) (sym c.of-items.ensures) in (
      subst (λ (cs : List (ℕ × ℕ)). IsTaken comes_from (λ p. p.0 + 1) site_count_of (counts_of text) cs 0 items) (sym none)
          (taken_first comes_from (λ p. p.0 + 1) site_count_of (counts_of text) 0 items all),
      subst (λ (cs : List (ℕ × ℕ)). SitesBelow cs 0) (sym none) tt,
      omega arith,
      c.requires ∙ ap (λ (cs : List (ℕ × ℕ)). set_with cs []) (sym none),
    )

pub push_count-requires-clause-last : goal.push_count-requires-clause-last
push_count-requires-clause-last c =
    let k = c.in-Some-count_from in
    let l = c.loop-item in
    sites_below l.set.set.counts l.low k.site l.invariant.1
    (leb-true l.low k.site (tested_comes (comes_from l.low) site_count_of c.in-Some.item.now (k.site, k.number) k.ensures.read))

pub loop-item-preserved : goal.loop-item-preserved
loop-item-preserved c =
    let k = c.in-Some-count_from in
    let l = c.loop-item in
    let p : ℕ × ℕ = (k.site, k.number) in
    let new = c.push_count.new.self.set in
    let pushed : new ≡ set_with (l.set.set.counts ++ p ∷ []) l.set.set.entries = c.in_ok-push_count.ensures.pushed in
    let grown : new.counts ≡ l.set.set.counts ++ p ∷ [] = ap (λ (s : ContextData). s.counts) pushed in
    let last : SitesBelow l.set.set.counts k.site =
    sites_below l.set.set.counts l.low k.site l.invariant.1
    (leb-true l.low k.site (tested_comes (comes_from l.low) site_count_of c.in-Some.item.now p k.ensures.read)) in (
      taken_next comes_from (λ q. q.0 + 1) site_count_of (counts_of c.args.text.now) l.set.set.counts new.counts l.low c.in-Some.item.now
          l.items c.next.new.self p l.invariant.0 grown c.in-Some.ensures k.ensures.read,
      subst (λ (cs : List (ℕ × ℕ)). SitesBelow cs (k.site + 1)) (sym grown) (site_below l.set.set.counts p last),
      omega (arith, k.ensures.site),
      pushed ∙ ap₂ set_with (sym grown) (ap (λ (s : ContextData). s.entries) l.invariant.3),
    )
