use Rattle.std.proofs.Common.{◌≡◌, ℕ, ◌+◌, true, false, ◌||◌, ap, sym, ◌∙◌, arith, add-one}
use Rattle.std.proofs.lemmas.Result.{err_from_is_err_and}
use Rattle.op_name.specs.NameData.{NameData}
use Rattle.op_name.specs.declared.member.Member.{Member}
use Rattle.op_name.specs.declared.member.Member.TheVariants.{Group}
use Rattle.context_vector.specs.Contexts.{entry_of}
use Rattle.context_vector.proofs.CallerLemmas.{read_all, read_first, read_more}
use Rattle.context_diff.specs.Histories.{members_in}
use Rattle.context_diff.specs.Code.Places.{ArePlacesOf, is_group_between, is_missing, first_names}
use Rattle.context_diff.proofs.Listings.{entry_at}
use Rattle.context_diff.proofs.Raising.{has_group}
use Rattle.context_diff.proofs.Books.{covered_ready}
use Rattle.context_diff.proofs.PlaceSteps.{places_same, no_names_missing, names_more, name_is_new, name_is_short, names_all}
use Rattle.context_diff.proofs.gathering.add_groups.Goals as goal

pub returns-then-undoes_same-clause-places : goal.returns-then-undoes_same-clause-places
returns-then-undoes_same-clause-places c =
    let from = c.args.from.now.set in
    let to = c.args.to.now.set in
    let same = c.undoes_same.ensures.0 c.if-undoes_same.true in
    places_same (members_in c.args.book.now.ops) (is_missing from (first_names to 0)) (is_missing from to) c.args.places.now.items
    (no_names_missing from to same) c.requires.originals

pub add_generations-requires : goal.add_generations-requires
add_generations-requires c k low high =
    let h = c.args.book.now.ops in
    let to = c.args.to.now.set in
    let i = c.loop-undone.invariant.0 in
    let here = entry_at to.entries c.known-2.ensures.entries i c.in-Some.undone
    (read_first to.entries c.loop-undone.left i c.in-Some.undone c.loop-undone.invariant.1 c.in-Some.ensures.first) in
    covered_ready h c.args.book.now.have.set to c.known.ensures.valid c.known.ensures.have c.requires.covered (Group c.in-Some.undone.0 k)
    (has_group to c.in-Some.undone.0 k (omega arith) (omega (arith, here.entry)))

pub loop-undone-preserved : goal.loop-undone-preserved
loop-undone-preserved c =
    let h = c.args.book.now.ops in
    let from = c.args.from.now.set in
    let to = c.args.to.now.set in
    let i = c.loop-undone.invariant.0 in
    let p : NameData × ℕ = c.in-Some.undone in
    let at = read_first to.entries c.loop-undone.left i p c.loop-undone.invariant.1 c.in-Some.ensures.first in
    let are = c.known-2.ensures.entries in
    let entry : c.entry.result ≡ entry_of from p.0 = c.entry.ensures in
    let fresh : (y : Member) → is_group_between p.0 c.entry.result p.1 y ≡ true → is_missing from (first_names to i) y ≡ false = λ y e.
    name_is_new from to are i p at y (ap (λ k. is_group_between p.0 k p.1 y) (sym entry) ∙ e) in
    let added : ArePlacesOf (members_in h) (λ y. is_missing from (first_names to i) y || is_group_between p.0 c.entry.result p.1 y)
    c.add_generations.new.places.items =
    c.in_ok-add_generations.ensures.places (is_missing from (first_names to i)) fresh c.loop-undone.invariant.2 in
    let same : (y : Member) → (is_missing from (first_names to i) y || is_group_between p.0 c.entry.result p.1 y)
    ≡ is_missing from (first_names to (i + 1)) y = λ y.
    ap (λ k. is_missing from (first_names to i) y || is_group_between p.0 k p.1 y) entry
    ∙ (sym (names_more from to are i p at y) ∙ ap (λ k. is_missing from (first_names to k) y) (sym (add-one i))) in
    let all = places_same (members_in h) (λ y. is_missing from (first_names to i) y || is_group_between p.0 c.entry.result p.1 y)
    (is_missing from (first_names to (i + 1))) c.add_generations.new.places.items same added in
    (i + 1, read_more to.entries c.loop-undone.left c.next.new.self i c.loop-undone.invariant.1 c.next.ensures.rest, all)

pub returns-in_err-add_generations-clause-memory : goal.returns-in_err-add_generations-clause-memory
returns-in_err-add_generations-clause-memory c =
    let from = c.args.from.now.set in
    let to = c.args.to.now.set in
    let i = c.loop-undone.invariant.0 in
    let at = read_first to.entries c.loop-undone.left i c.in-Some.undone c.loop-undone.invariant.1 c.in-Some.ensures.first in
    let short = name_is_short from to c.known-2.ensures.entries i c.in-Some.undone at
    (omega (arith, c.entry.ensures, c.in_err-add_generations.ensures.memory)) in
    let failed = err_from_is_err_and c.from_residual.result c.from_residual.ensures.1 in
    rw failed.1 short

pub returns-clause-places : goal.returns-clause-places
returns-clause-places c =
    let from = c.args.from.now.set in
    let to = c.args.to.now.set in
    let i = c.loop-undone.invariant.0 in
    places_same (members_in c.args.book.now.ops) (is_missing from (first_names to i)) (is_missing from to) c.loop-undone.places.items
    (names_all from to i (read_all to.entries c.loop-undone.left i c.loop-undone.invariant.1 c.in_default.ensures.first))
    c.loop-undone.invariant.2
