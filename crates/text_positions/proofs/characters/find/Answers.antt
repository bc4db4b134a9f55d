use Rattle.std.proofs.Common.{◌++◌, ◌∷◌, ◌+◌, ◌≤◌, ℕ, List, [], length, take, get_or, refl, sym, ap, ◌∙◌, arith, length-append}
use Rattle.std.proofs.lemmas.List.{get_or_default}
use Rattle.tombstone_text.specs.Measures.{weight}
use Rattle.visible_view.specs.Code.{flagged}
use Rattle.text_positions.proofs.Weights.{weight-le}
use Rattle.text_positions.proofs.Walks.{flagged_all, flagged_more, flagged_same, reached_as, reached_more, reached_nowhere, reached_still, walked_few}
use Rattle.text_positions.proofs.characters.find.Goals.{then-flags-at-eq1+then-total-offset, then-flags-at-eq1+else-total-offset, else-flags-at-eq1}
use Rattle.text_positions.proofs.characters.find.Goals as goal

pub overflow_add-total : goal.overflow_add-total
overflow_add-total c =
    let front = flagged (take c.loop-at.at c.args.flags.now) (take c.loop-at.at c.args.text.now) in
    record {
      fits = omega (
        arith,
        c.loop-at.invariant.0.weighs,
        walked_few c.args.measure front c.loop-at.count c.loop-at.at c.loop-at.invariant.1,
        c.loop-at-test.true,
        c.requires.short,
        c.weigh-total.ensures,
        weight-le c.args.measure c.index-text-at.result,
      );
    }

pub loop-at-preserved : goal.loop-at-preserved
loop-at-preserved c =
    let m = c.args.measure in
    let fs = c.args.flags.now in
    let ts = c.args.text.now in
    let k = c.loop-at.at in
    let front = flagged (take k fs) (take k ts) in
    let next = flagged (take (k + 1) fs) (take (k + 1) ts) in
    let reached = c.loop-at.invariant.0 in
    let few = c.loop-at.invariant.1 in
    let lt = c.loop-at-test.true in
    let even = c.requires.beside in
    elim c.if-flags-at-eq1.branch [
      | then-flags-at-eq1+then-total-offset w ↦
          let t = w.index-text-at.result in
          let more = flagged_more fs ts k t lt even w.index-text-at.is w.if-flags-at-eq1.true in (
            reached_as m (front ++ t ∷ []) next c.args.offset (c.loop-at.count + 1) c.if-flags-at-eq1.count
                (c.loop-at.total + weight m t) c.if-flags-at-eq1.total
                (reached_more m front c.args.offset c.loop-at.count c.loop-at.total reached t w.if-total-offset.true)
                more w.count-is (w.total-is ∙ ap (λ n. c.loop-at.total + n) w.weigh-total.ensures),
            omega (arith, ap (λ (l : List ℕ). length l) more, length-append front (t ∷ []), few),
          )
      | then-flags-at-eq1+else-total-offset w ↦
          let t = get_or ts k 0 in
          let there = get_or_default ts k 0 t (omega (arith, lt, even)) in
          let more = flagged_more fs ts k t lt even there w.if-flags-at-eq1.true in (
            reached_as m (front ++ t ∷ []) next c.args.offset c.loop-at.count c.if-flags-at-eq1.count c.loop-at.total
                c.if-flags-at-eq1.total
                (reached_still m front c.args.offset c.loop-at.count c.loop-at.total reached t w.if-total-offset.false)
                more w.count-is w.total-is,
            omega (arith, ap (λ (l : List ℕ). length l) more, length-append front (t ∷ []), few),
          )
      | else-flags-at-eq1 w ↦
          let same = flagged_same fs ts k lt even w.if-flags-at-eq1.false in (
            reached_as m front next c.args.offset c.loop-at.count c.if-flags-at-eq1.count c.loop-at.total c.if-flags-at-eq1.total reached
                same w.count-is w.total-is,
            omega (arith, ap (λ (l : List ℕ). length l) same, few),
          )
    ]

pub returns-else-total-offset-2 : goal.returns-else-total-offset-2
returns-else-total-offset-2 c =
    let fs = c.args.flags.now in
    let ts = c.args.text.now in
    let k = c.loop-at.at in
    let front = flagged (take k fs) (take k ts) in
    let done : length fs ≤ k = omega (arith, c.loop-at-test.false) in
    reached_nowhere c.args.measure (flagged fs ts) c.args.offset c.loop-at.count c.loop-at.total
    (reached_as c.args.measure front (flagged fs ts) c.args.offset c.loop-at.count c.loop-at.count c.loop-at.total c.loop-at.total
    c.loop-at.invariant.0 (sym (flagged_all fs ts k c.requires.beside done)) refl refl)
    c.if-total-offset-2.false
