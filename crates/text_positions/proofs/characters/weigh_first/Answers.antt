use Rattle.std.proofs.Common.{◌∷◌, ◌≤◌, ℕ, List, [], length, take, get_or, ap, ◌∙◌, arith, length-append}
use Rattle.std.proofs.lemmas.List.{get_or_default}
use Rattle.tombstone_text.specs.Measures.{weight_of}
use Rattle.visible_view.specs.Code.{flagged}
use Rattle.text_positions.proofs.Weights.{weight-le}
use Rattle.text_positions.proofs.Walks.{flagged_all, flagged_more, flagged_same, taken_more, taken_same, walked_few}
use Rattle.text_positions.proofs.characters.weigh_first.Goals.{then-flags-at-eq1+then-left-gt0, then-flags-at-eq1+else-left-gt0, else-flags-at-eq1}
use Rattle.text_positions.proofs.characters.weigh_first.Goals as goal

pub overflow_add-total : goal.overflow_add-total
overflow_add-total c =
    let front = flagged (take c.loop-at.at c.args.flags.now) (take c.loop-at.at c.args.text.now) in
    record {
      fits = omega (
        arith,
        c.loop-at.invariant.0,
        walked_few c.args.measure front c.args.count c.loop-at.at c.loop-at.invariant.2,
        c.loop-at-test.true,
        c.requires.short,
        c.weigh-total.ensures,
        weight-le c.args.measure c.index-text-at.result,
      );
    }

pub loop-at-preserved : goal.loop-at-preserved
loop-at-preserved c =
    let m = c.args.measure in
    let fs = c.args.flags.now in
    let ts = c.args.text.now in
    let k = c.loop-at.at in
    let n = c.args.count in
    let front = flagged (take k fs) (take k ts) in
    let inv = c.loop-at.invariant in
    let lt = c.loop-at-test.true in
    let even = c.requires.beside in
    elim c.if-flags-at-eq1.branch [
      | then-flags-at-eq1+then-left-gt0 w ↦
          let t = w.index-text-at.result in
          let more = flagged_more fs ts k t lt even w.index-text-at.is w.if-flags-at-eq1.true in (
            omega (
              arith,
              w.total-is,
              w.weigh-total.ensures,
              inv.0,
              ap (λ (l : List ℕ). weight_of m (take n l)) more,
              taken_more m front t n (omega (arith, w.if-left-gt0.true, inv.1)),
            ),
            omega (arith, w.left-is, inv.1, ap (λ (l : List ℕ). length l) more, length-append front (t ∷ []), w.if-left-gt0.true),
            omega (arith, inv.2, ap (λ (l : List ℕ). length l) more, length-append front (t ∷ [])),
          )
      | then-flags-at-eq1+else-left-gt0 w ↦
          let t = get_or ts k 0 in
          let there = get_or_default ts k 0 t (omega (arith, lt, even)) in
          let more = flagged_more fs ts k t lt even there w.if-flags-at-eq1.true in (
            omega (
              arith,
              w.total-is,
              inv.0,
              ap (λ (l : List ℕ). weight_of m (take n l)) more,
              taken_same m front t n (omega (arith, w.if-left-gt0.false, inv.1)),
            ),
            omega (arith, w.left-is, inv.1, ap (λ (l : List ℕ). length l) more, length-append front (t ∷ []), w.if-left-gt0.false),
            omega (arith, inv.2, ap (λ (l : List ℕ). length l) more, length-append front (t ∷ [])),
          )
      | else-flags-at-eq1 w ↦
          let same = flagged_same fs ts k lt even w.if-flags-at-eq1.false in (
            omega (arith, w.total-is, inv.0, ap (λ (l : List ℕ). weight_of m (take n l)) same),
            omega (arith, w.left-is, inv.1, ap (λ (l : List ℕ). length l) same),
            omega (arith, inv.2, ap (λ (l : List ℕ). length l) same),
          )
    ]

pub returns : goal.returns
returns c =
    let fs = c.args.flags.now in
    let done : length fs ≤ c.loop-at.at = omega (arith, c.loop-at-test.false) in
    c.loop-at.invariant.0
    ∙ ap (λ (l : List ℕ). weight_of c.args.measure (take c.args.count l))
    (flagged_all fs c.args.text.now c.loop-at.at c.requires.beside done)
