use Rattle.std.proofs.Common.{◌++◌, ◌≤◌, ℕ, List, take, length, encode_utf8, encode_utf8_all, sym, ap, ◌∙◌, append_assoc, arith}
use Rattle.std.proofs.lemmas.List.{take_all}
use Rattle.visible_view.specs.Code.{flagged}
use Rattle.visible_view.proofs.ShownText.{flagged_more, flagged_same}
use Rattle.visible_view.proofs.text.push_flagged.Goals.{then-flags-at-eq1+in_ok-push_char, else-flags-at-eq1}
use Rattle.visible_view.proofs.text.push_flagged.Goals as goal

pub loop-at-preserved : goal.loop-at-preserved
loop-at-preserved c =
    let fs = c.args.flags.now in
    let ts = c.args.text.now in
    let k = c.loop-at.at in
    let front = c.args.out.now.items in
    let lt = c.loop-at-test.true in
    let long = c.requires in
    elim c.if-flags-at-eq1.branch [
      | then-flags-at-eq1+in_ok-push_char w ↦
          ap (λ o. o.items) w.out-is ∙ w.in_ok-push_char.ensures.ok
          ∙ ap (λ (bs : List ℕ). bs ++ encode_utf8 w.index-text-at.result) c.loop-at.invariant
          ∙ append_assoc front (encode_utf8_all (flagged (take k fs) (take k ts))) (encode_utf8 w.index-text-at.result)
          ∙ ap (λ (bs : List ℕ). front ++ bs)
          (sym (flagged_more fs ts k w.index-text-at.result lt long w.index-text-at.is w.if-flags-at-eq1.true))
      | else-flags-at-eq1 w ↦
          ap (λ o. o.items) w.out-is ∙ c.loop-at.invariant
          ∙ ap (λ (bs : List ℕ). front ++ bs)
          (sym (flagged_same fs ts k lt long w.if-flags-at-eq1.false))
    ]

pub returns-clause-ok : goal.returns-clause-ok
returns-clause-ok c =
    let fs = c.args.flags.now in
    let ts = c.args.text.now in
    let done : length fs ≤ c.loop-at.at = let t = c.loop-at-test.false in omega arith in
    c.loop-at.invariant
    ∙ ap (λ (s : List ℕ). c.args.out.now.items ++ encode_utf8_all (flagged s (take c.loop-at.at ts))) (take_all c.loop-at.at fs done)
    ∙ ap (λ (s : List ℕ). c.args.out.now.items ++ encode_utf8_all (flagged fs s))
    (take_all c.loop-at.at ts (omega (arith, done, c.requires)))
