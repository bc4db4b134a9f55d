use Rattle.std.proofs.Common.{◌≡◌, ◌+◌, ◌<◌, ◌≤◌, Some, drop, sym, ap, subst, ◌∙◌, arith}
use Rattle.std.specs.Prelude.{slice_get}
use Rattle.context_vector.specs.Contexts.{count_in, AreCounts}
use Rattle.context_vector.specs.Shortfalls.{first_short}
use Rattle.context_vector.specs.Code.Readers.{left_of}
use Rattle.context_vector.proofs.Merging.{ends}
use Rattle.context_vector.proofs.Counting.{counts_drop, lesser_passed, same_passed, site_short, site_lacks, sites_lack}
use Rattle.context_vector.proofs.vector.counting.first_short_site.Goals as goal

pub pass_enough-requires-then-site-clause-mine : goal.pass_enough-requires-then-site-clause-mine
pass_enough-requires-then-site-clause-mine c =
    let ps = left_of c.loop-wanted.left in
    let mine : left_of c.pass.new.self ≡ drop 1 ps = c.pass.ensures ∙ ap (drop 1) c.first-in-Some.ensures.same in
    subst (AreCounts 0) (sym mine) (counts_drop 0 1 ps c.loop-wanted.invariant.mine)

pub loop-wanted-preserved-then-site : goal.loop-wanted-preserved-then-site
loop-wanted-preserved-then-site c =
    let ps = left_of c.loop-wanted.left in let qs = left_of c.loop-wanted.right in
    let p = c.in-Some-first.had in let q = c.in-Some.wanted in
    let wanted_is : slice_get qs 0 ≡ Some q = sym c.first.ensures.first ∙ c.in-Some.is in
    let had_is : slice_get ps 0 ≡ Some p = sym c.first-in-Some.ensures.first ∙ c.in-Some-first.is in
    let less : p.0 < q.0 = omega arith in
    let mine : left_of c.pass.new.self ≡ drop 1 ps = c.pass.ensures ∙ ap (drop 1) c.first-in-Some.ensures.same in
    record {
      mine = c.pass_enough-then-site.ensures.mine;
      theirs = c.pass_enough-then-site.ensures.theirs;
      same = c.loop-wanted.invariant.same
          ∙ (lesser_passed ps qs p q c.loop-wanted.invariant.theirs had_is wanted_is less
          ∙ ((λ j. first_short (count_in (sym mine j)) (sym c.first.ensures.same j)) ∙ c.pass_enough-then-site.ensures.same));
    }

pub returns-then-site-2 : goal.returns-then-site-2
returns-then-site-2 c =
    let ps = left_of c.loop-wanted.left in let qs = left_of c.loop-wanted.right in
    let p = c.in-Some-first.had in let q = c.in-Some.wanted in
    let wanted_is : slice_get qs 0 ≡ Some q = sym c.first.ensures.first ∙ c.in-Some.is in
    let had_is : slice_get ps 0 ≡ Some p = sym c.first-in-Some.ensures.first ∙ c.in-Some-first.is in
    let more : q.0 < p.0 = omega arith in
    (λ j. Some (c.site-then-site-2.ensures j, 1))
    ∙ sym (c.loop-wanted.invariant.same
    ∙ site_lacks ps qs p q c.loop-wanted.invariant.mine c.loop-wanted.invariant.theirs had_is wanted_is more)

pub returns-then-number : goal.returns-then-number
returns-then-number c =
    let ps = left_of c.loop-wanted.left in let qs = left_of c.loop-wanted.right in
    let p = c.in-Some-first.had in let q = c.in-Some.wanted in
    let wanted_is : slice_get qs 0 ≡ Some q = sym c.first.ensures.first ∙ c.in-Some.is in
    let had_is : slice_get ps 0 ≡ Some p = sym c.first-in-Some.ensures.first ∙ c.in-Some-first.is in
    let same : q.0 ≡ p.0 = omega arith in
    let less : p.1 < q.1 = omega arith in
    (λ j. Some (c.site-then-number.ensures j, c.number-then-number.ensures j + 1))
    ∙ sym (c.loop-wanted.invariant.same ∙ site_short ps qs p q had_is wanted_is same less)

pub loop-wanted-preserved : goal.loop-wanted-preserved
loop-wanted-preserved c =
    let ps = left_of c.loop-wanted.left in let qs = left_of c.loop-wanted.right in
    let p = c.in-Some-first.had in let q = c.in-Some.wanted in
    let wanted_is : slice_get qs 0 ≡ Some q = sym c.first.ensures.first ∙ c.in-Some.is in
    let had_is : slice_get ps 0 ≡ Some p = sym c.first-in-Some.ensures.first ∙ c.in-Some-first.is in
    let same : q.0 ≡ p.0 = omega arith in
    let enough : q.1 ≤ p.1 = omega arith in
    let mine : left_of c.pass-else-number.new.self ≡ drop 1 ps = c.pass-else-number.ensures ∙ ap (drop 1) c.first-in-Some.ensures.same in
    let theirs : left_of c.pass-else-number-2.new.self ≡ drop 1 qs = c.pass-else-number-2.ensures ∙ ap (drop 1) c.first.ensures.same in
    record {
      mine = subst (AreCounts 0) (sym mine) (counts_drop 0 1 ps c.loop-wanted.invariant.mine);
      theirs = subst (AreCounts 0) (sym theirs) (counts_drop 0 1 qs c.loop-wanted.invariant.theirs);
      same = c.loop-wanted.invariant.same
          ∙ (same_passed ps qs p q c.loop-wanted.invariant.theirs had_is wanted_is same enough
          ∙ (λ j. first_short (count_in (sym mine j)) (sym theirs j)));
    }

pub returns-in-None : goal.returns-in-None
returns-in-None c =
    let ps = left_of c.loop-wanted.left in let qs = left_of c.loop-wanted.right in
    let q = c.in-Some.wanted in
    let none = sym c.first-in-Some.ensures.first ∙ c.in-None.is in
    (λ j. Some (c.site-in-None.ensures j, 1))
    ∙ sym (c.loop-wanted.invariant.same
    ∙ sites_lack ps qs q c.loop-wanted.invariant.theirs none (sym c.first.ensures.first ∙ c.in-Some.is))

pub returns : goal.returns
returns c =
    let none = ends (left_of c.loop-wanted.right) (sym c.first.ensures.first ∙ c.in_default.is) in
    sym (c.loop-wanted.invariant.same ∙ ap (first_short (count_in (left_of c.loop-wanted.left))) none)
