use Rattle.std.proofs.Common.{◌≡◌, ◌≤◌, ◌+◌, ◌-◌, [], ◌∷◌, ◌++◌, length, sym, ap, ◌∙◌, arith}
use Rattle.std.specs.Prelude.{slice_set}
use Rattle.change_list.specs.Changes.{end_of}
use Rattle.change_list.specs.Told.{grown}
use Rattle.change_list.proofs.Numbers.{last_told, first_told, next_one_told}
use Rattle.change_list.proofs.telling.tell.Goals as goal
use Rattle.change_list.proofs.telling.tell.Goals.{then-len-gt0+else-last-place, else-len-gt0}

pub returns-then-last-place-clause-told : goal.returns-then-last-place-clause-told
returns-then-last-place-clause-told c =
    let k = c.len-len.result - 1 in
    let whole : length c.args.changes.now.items ≡ k + 1 = omega arith in
    let is = c.index-last.ensures in
    ap (λ d. slice_set c.args.changes.now.items k d) (c.grown.ensures ∙ ap (grown c.args.shown) is)
    ∙ last_told c.args.changes.now.items c.args.place c.args.shown k c.index-last.result.now whole
    (ap end_of (sym is) ∙ c.if-last-place.true)

pub returns-clause-told : goal.returns-clause-told
returns-clause-told c =
    c.in_ok-push.ensures.items
    ∙ ap (λ d. c.args.changes.now.items ++ d ∷ []) c.one_at.ensures
    ∙ elim c.if-len-gt0.branch [
      | then-len-gt0+else-last-place w ↦
          let k = c.len-len.result - 1 in
          let some = w.if-len-gt0.true in
          let whole : k + 1 ≡ length c.args.changes.now.items = omega arith in
          next_one_told c.args.changes.now.items c.args.place c.args.shown k w.index-last.result.now whole w.index-last.ensures
          w.if-last-place.false
      | else-len-gt0 w ↦
          let none = w.if-len-gt0.false in
          let few : length c.args.changes.now.items ≤ 0 = omega arith in
          first_told c.args.changes.now.items c.args.place c.args.shown few
    ]
