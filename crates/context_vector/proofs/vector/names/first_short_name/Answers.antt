use Rattle.std.proofs.Common.{◌≡◌, ◌+◌, ◌<◌, ◌≤◌, true, false, Some, drop, length, sym, ap, subst, ◌∙◌, arith}
use Rattle.std.specs.Prelude.{slice_get}
use Rattle.op_name.specs.NameData.{name_eq, name_lt}
use Rattle.context_vector.specs.Contexts.{entry_in, AreEntries}
use Rattle.context_vector.specs.Shortfalls.{first_short}
use Rattle.context_vector.proofs.Merging.{begins, ends}
use Rattle.context_vector.proofs.Undone.{lesser_passed, same_passed, name_short, name_lacks, names_lack, entries_rest}
use Rattle.context_vector.proofs.vector.names.first_short_name.Goals as goal
use Rattle.context_vector.proofs.vector.names.first_short_name.Goals.{in_default-first-via-in-Some-2+else-eq}
use Rattle.context_vector.proofs.vector.names.first_short_name.Goals.{in_default-first-via-in_default-first}

pub loop-wanted-init : goal.loop-wanted-init
loop-wanted-init c = (c.pass_same.ensures.mine, c.pass_same.ensures.theirs, sym c.pass_same.ensures.short)

pub loop-wanted-preserved-then-is_before : goal.loop-wanted-preserved-then-is_before
loop-wanted-preserved-then-is_before c =
    let es = c.loop-wanted.left in
    let fs = c.loop-wanted.right in
    let had = c.in-Some-first.had in
    let wanted = c.in-Some.wanted in
    let wanted_is : slice_get fs 0 ≡ Some wanted = sym c.first.ensures.first ∙ c.in-Some.is in
    let had_is : slice_get es 0 ≡ Some had = sym c.first-in-Some.ensures.first ∙ c.in-Some-first.is in
    let less : name_lt had.0 wanted.0 ≡ true = sym c.is_before.ensures ∙ c.if-is_before.true in
    let mine : c.next.new.self ≡ drop 1 es = c.next.ensures.rest ∙ ap (drop 1) c.first-in-Some.ensures.same in (
      subst AreEntries (sym mine) (entries_rest 1 es c.loop-wanted.invariant.0),
      subst AreEntries (sym c.first.ensures.same) c.loop-wanted.invariant.1,
      c.loop-wanted.invariant.2
          ∙ (lesser_passed es fs had wanted c.loop-wanted.invariant.1 had_is wanted_is less
          ∙ (λ j. first_short (entry_in (sym mine j)) (sym c.first.ensures.same j))),
    )

pub loop-wanted-smaller-then-is_before : goal.loop-wanted-smaller-then-is_before
loop-wanted-smaller-then-is_before c =
    let es = c.loop-wanted.left in
    let had = c.in-Some-first.had in
    let had_is : slice_get es 0 ≡ Some had = sym c.first-in-Some.ensures.first ∙ c.in-Some-first.is in
    let mine : c.next.new.self ≡ drop 1 es = c.next.ensures.rest ∙ ap (drop 1) c.first-in-Some.ensures.same in
    let smaller : length c.next.new.self + length c.first.new.self < length es + length c.loop-wanted.right =
    omega (arith, ap length (begins es had had_is), ap length mine, ap length c.first.ensures.same) in
    smaller

pub returns-then-had-wanted : goal.returns-then-had-wanted
returns-then-had-wanted c =
    let es = c.loop-wanted.left in
    let fs = c.loop-wanted.right in
    let had = c.in-Some-first.had in
    let wanted = c.in-Some.wanted in
    let wanted_is : slice_get fs 0 ≡ Some wanted = sym c.first.ensures.first ∙ c.in-Some.is in
    let had_is : slice_get es 0 ≡ Some had = sym c.first-in-Some.ensures.first ∙ c.in-Some-first.is in
    let same : name_eq had.0 wanted.0 ≡ true = sym c.eq.ensures ∙ c.if-eq.true in
    sym (c.loop-wanted.invariant.2 ∙ name_short es fs had wanted had_is wanted_is same c.if-had-wanted.true)

pub loop-wanted-preserved : goal.loop-wanted-preserved
loop-wanted-preserved c =
    let es = c.loop-wanted.left in
    let fs = c.loop-wanted.right in
    let had = c.in-Some-first.had in
    let wanted = c.in-Some.wanted in
    let wanted_is : slice_get fs 0 ≡ Some wanted = sym c.first.ensures.first ∙ c.in-Some.is in
    let had_is : slice_get es 0 ≡ Some had = sym c.first-in-Some.ensures.first ∙ c.in-Some-first.is in
    let same : name_eq had.0 wanted.0 ≡ true = sym c.eq.ensures ∙ c.if-eq.true in
    let enough : wanted.1 ≤ had.1 = omega (arith, c.if-had-wanted.false) in
    let mine : c.next-in-Some-2.new.self ≡ drop 1 es = c.next-in-Some-2.ensures.rest ∙ ap (drop 1) c.first-in-Some.ensures.same in
    let theirs : c.next-in-Some-2-2.new.self ≡ drop 1 fs = c.next-in-Some-2-2.ensures.rest ∙ ap (drop 1) c.first.ensures.same in (
      c.pass_same-in-Some-2.ensures.mine,
      c.pass_same-in-Some-2.ensures.theirs,
      c.loop-wanted.invariant.2
          ∙ (same_passed es fs had wanted c.loop-wanted.invariant.1 had_is wanted_is same enough
          ∙ ((λ j. first_short (entry_in (sym mine j)) (sym theirs j)) ∙ sym c.pass_same-in-Some-2.ensures.short)),
    )

pub loop-wanted-smaller : goal.loop-wanted-smaller
loop-wanted-smaller c =
    let es = c.loop-wanted.left in
    let fs = c.loop-wanted.right in
    let had = c.in-Some-first.had in
    let wanted = c.in-Some.wanted in
    let wanted_is : slice_get fs 0 ≡ Some wanted = sym c.first.ensures.first ∙ c.in-Some.is in
    let had_is : slice_get es 0 ≡ Some had = sym c.first-in-Some.ensures.first ∙ c.in-Some-first.is in
    let mine : c.next-in-Some-2.new.self ≡ drop 1 es = c.next-in-Some-2.ensures.rest ∙ ap (drop 1) c.first-in-Some.ensures.same in
    let theirs : c.next-in-Some-2-2.new.self ≡ drop 1 fs = c.next-in-Some-2-2.ensures.rest ∙ ap (drop 1) c.first.ensures.same in
    let now = c.pass_same-in-Some-2.new in
    let smaller : length now.self + length now.other < length es + length fs =
    omega (
      arith,
      ap length (begins es had had_is),
      ap length (begins fs wanted wanted_is),
      ap length mine,
      ap length theirs,
      c.pass_same-in-Some-2.ensures.less,
    ) in
    smaller

pub returns-in_default-first : goal.returns-in_default-first
returns-in_default-first c =
    let es = c.loop-wanted.left in
    let fs = c.loop-wanted.right in
    let wanted = c.in-Some.wanted in
    let wanted_is : slice_get fs 0 ≡ Some wanted = sym c.first.ensures.first ∙ c.in-Some.is in
    let are = c.loop-wanted.invariant.0 in
    let are' = c.loop-wanted.invariant.1 in
    elim c.in_default-first.branch [
      | in_default-first-via-in-Some-2+else-eq w ↦
          let had = w.in-Some-first.had in
          let had_is : slice_get es 0 ≡ Some had = sym c.first-in-Some.ensures.first ∙ w.in-Some-first.is in
          let not_before : name_lt had.0 wanted.0 ≡ false = sym w.is_before.ensures ∙ w.if-is_before.false in
          let other : name_eq had.0 wanted.0 ≡ false = sym w.eq.ensures ∙ w.if-eq.false in
          sym (c.loop-wanted.invariant.2 ∙ name_lacks es fs had wanted are are' had_is wanted_is not_before other)
      | in_default-first-via-in_default-first w ↦
          let none = sym c.first-in-Some.ensures.first ∙ w.in_default-first.is in
          sym (c.loop-wanted.invariant.2 ∙ names_lack es fs wanted are' none wanted_is)
    ]

pub returns : goal.returns
returns c =
    let none = ends c.loop-wanted.right (sym c.first.ensures.first ∙ c.in_default.is) in
    sym (c.loop-wanted.invariant.2 ∙ ap (first_short (entry_in c.loop-wanted.left)) none)
