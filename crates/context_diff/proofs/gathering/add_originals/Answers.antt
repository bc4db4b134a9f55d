use Rattle.std.proofs.Common.{◌≡◌, ℕ, ◌+◌, true, false, ◌||◌, List, ap, sym, subst, ◌∙◌, arith, add-one}
use Rattle.std.proofs.lemmas.Result.{err_from_is_err_and}
use Rattle.op_name.specs.NameData.{NameData}
use Rattle.op_name.specs.declared.member.Member.{Member}
use Rattle.op_name.specs.declared.member.Member.TheVariants.{Original}
use Rattle.context_vector.specs.Contexts.{count_of}
use Rattle.context_vector.proofs.CallerLemmas.{read_all, read_first, read_more}
use Rattle.context_diff.specs.Histories.{members_in}
use Rattle.context_diff.specs.Code.Places.{ArePlacesOf, is_between, is_missing, first_sites, first_names}
use Rattle.context_diff.proofs.Listings.{count_at}
use Rattle.context_diff.proofs.Raising.{has_original}
use Rattle.context_diff.proofs.Books.{covered_ready}
use Rattle.context_diff.proofs.PlaceSteps.{places_same, places_nothing, no_sites_missing, sites_more, site_is_new, site_is_short, sites_all}
use Rattle.context_diff.proofs.gathering.add_originals.Goals as goal

pub loop-site-init : goal.loop-site-init
loop-site-init c =
    let from = c.args.from.now.set in
    let to = c.args.to.now.set in
    let none = places_nothing (members_in c.args.book.now.ops) (is_missing from (first_sites to 0)) (no_sites_missing from to) in (
      0,
      c.sites_read-left.ensures,
      subst (λ (ps : List ℕ). ArePlacesOf (members_in c.args.book.now.ops)
          (is_missing from (first_sites to 0)) ps) (sym c.requires.empty) none,
    )

pub add_numbers-requires-clause-site : goal.add_numbers-requires-clause-site
add_numbers-requires-clause-site c =
    let ps = c.args.to.now.set.counts in
    let i = c.loop-site.invariant.0 in
    let p : ℕ × ℕ = (c.in-Some.site, c.in-Some.number) in
    (count_at 0 ps c.known-2.ensures.counts i p (read_first ps c.loop-site.left i p c.loop-site.invariant.1 c.in-Some.ensures.first)).site

pub add_numbers-requires-clause-high : goal.add_numbers-requires-clause-high
add_numbers-requires-clause-high c =
    let ps = c.args.to.now.set.counts in
    let i = c.loop-site.invariant.0 in
    let p : ℕ × ℕ = (c.in-Some.site, c.in-Some.number) in
    (count_at 0 ps c.known-2.ensures.counts i p (read_first ps c.loop-site.left i p c.loop-site.invariant.1
    c.in-Some.ensures.first)).greatest

pub add_numbers-requires-clause-there : goal.add_numbers-requires-clause-there
add_numbers-requires-clause-there c k low high =
    let h = c.args.book.now.ops in
    let to = c.args.to.now.set in
    let i = c.loop-site.invariant.0 in
    let p : ℕ × ℕ = (c.in-Some.site, c.in-Some.number) in
    let here = count_at 0 to.counts c.known-2.ensures.counts i p (read_first to.counts c.loop-site.left i p c.loop-site.invariant.1
    c.in-Some.ensures.first) in
    let n : NameData = record { site = p.0; number = k } in
    covered_ready h c.args.book.now.have.set to c.known.ensures.valid c.known.ensures.have c.requires.covered (Original n)
    (has_original to n (omega arith) (omega (arith, here.count)))

pub loop-site-preserved : goal.loop-site-preserved
loop-site-preserved c =
    let h = c.args.book.now.ops in
    let from = c.args.from.now.set in
    let to = c.args.to.now.set in
    let i = c.loop-site.invariant.0 in
    let p : ℕ × ℕ = (c.in-Some.site, c.in-Some.number) in
    let at = read_first to.counts c.loop-site.left i p c.loop-site.invariant.1 c.in-Some.ensures.first in
    let are = c.known-2.ensures.counts in
    let count : c.count.result ≡ count_of from p.0 = c.count.ensures.count in
    let fresh : (y : Member) → is_between p.0 c.count.result p.1 y ≡ true → is_missing from (first_sites to i) y ≡ false = λ y e.
    site_is_new from to are i p at y (ap (λ k. is_between p.0 k p.1 y) (sym count) ∙ e) in
    let added : ArePlacesOf (members_in h) (λ y. is_missing from (first_sites to i) y || is_between p.0 c.count.result p.1 y)
    c.add_numbers.new.places.items =
    c.in_ok-add_numbers.ensures.places (is_missing from (first_sites to i)) fresh c.loop-site.invariant.2 in
    let same : (y : Member) → (is_missing from (first_sites to i) y || is_between p.0 c.count.result p.1 y)
    ≡ is_missing from (first_sites to (i + 1)) y = λ y.
    ap (λ k. is_missing from (first_sites to i) y || is_between p.0 k p.1 y) count
    ∙ (sym (sites_more from to are i p at y) ∙ ap (λ k. is_missing from (first_sites to k) y) (sym (add-one i))) in
    let all = places_same (members_in h) (λ y. is_missing from (first_sites to i) y || is_between p.0 c.count.result p.1 y)
    (is_missing from (first_sites to (i + 1))) c.add_numbers.new.places.items same added in
    (i + 1, read_more to.counts c.loop-site.left c.next.new.self i c.loop-site.invariant.1 c.next.ensures.rest, all)

pub returns-in_err-add_numbers-clause-memory : goal.returns-in_err-add_numbers-clause-memory
returns-in_err-add_numbers-clause-memory c =
    let from = c.args.from.now.set in
    let to = c.args.to.now.set in
    let i = c.loop-site.invariant.0 in
    let p : ℕ × ℕ = (c.in-Some.site, c.in-Some.number) in
    let at = read_first to.counts c.loop-site.left i p c.loop-site.invariant.1 c.in-Some.ensures.first in
    let short = site_is_short from to c.known-2.ensures.counts i p at
    (omega (arith, c.count.ensures.count, c.in_err-add_numbers.ensures.memory)) in
    let failed = err_from_is_err_and c.from_residual.result c.from_residual.ensures.1 in
    rw failed.1 short

pub returns-clause-places : goal.returns-clause-places
returns-clause-places c =
    let from = c.args.from.now.set in
    let to = c.args.to.now.set in
    let i = c.loop-site.invariant.0 in
    places_same (members_in c.args.book.now.ops) (is_missing from (first_sites to i)) (is_missing from (first_names to 0))
    c.loop-site.places.items
    (sites_all from to i (read_all to.counts c.loop-site.left i c.loop-site.invariant.1 c.in_default.ensures.first)) c.loop-site.invariant.2
