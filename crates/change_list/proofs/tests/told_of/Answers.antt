use Rattle.std.proofs.Common.{◌+◌, false, [], ◌∷◌, ◌++◌, length, take, get_or, sym, ap, subst, ◌∙◌, arith}
use Rattle.change_list.specs.Told.{after, told_at, told, HasRoom}
use Rattle.change_list.specs.Code.Rows.{mark_of, marks_of}
use Rattle.change_list.proofs.Rows.{marks_more, row_turned, row_same, row_room, row_shown, row_hidden}
use Rattle.change_list.proofs.tests.told_of.Goals as goal
use Rattle.change_list.proofs.tests.told_of.Goals.{then-was-is+in_ok-tell, else-was-is, then-is, else-is}

pub tell-requires : goal.tell-requires
tell-requires c =
    let i = c.loop-was.was-index in
    let ps = c.args.marks.now in
    subst (λ v. HasRoom v c.loop-was.changes.items) (sym c.loop-was.invariant.place)
    (subst (λ cs. HasRoom (length (after (marks_of (take i ps)))) cs) (sym c.loop-was.invariant.changes)
    (row_room ps i c.loop-was-test.true c.requires))

pub overflow_add-place : goal.overflow_add-place
overflow_add-place c =
    let room = row_room c.args.marks.now c.loop-was.was-index c.loop-was-test.true c.requires in
    let few = room.0 in
    let same = c.loop-was.invariant.place in
    record { fits = omega (arith, few, same) }

pub loop-was-preserved : goal.loop-was-preserved
loop-was-preserved c =
    let i = c.loop-was.was-index in
    let ps = c.args.marks.now in
    let p = get_or ps i (false, false) in
    let ms = marks_of (take i ps) in
    let next = marks_more ps i c.loop-was-test.true in
    record {
      changes = elim c.if-was-is.branch [
        | then-was-is+in_ok-tell w ↦
            ap (λ v. v.items) w.changes-is
            ∙ w.in_ok-tell.ensures.told
            ∙ ap (λ n. told_at n p.1 c.loop-was.changes.items) c.loop-was.invariant.place
            ∙ ap (λ cs. told_at (length (after ms)) p.1 cs) c.loop-was.invariant.changes
            ∙ sym (row_turned ms p.0 p.1 w.if-was-is.true)
            ∙ ap told (sym next)
        | else-was-is w ↦
            ap (λ v. v.items) w.changes-is ∙ c.loop-was.invariant.changes ∙ sym (row_same ms p.0 p.1 w.if-was-is.false) ∙ ap told (sym next)
      ];
      place = elim c.if-is.branch [
        | then-is w ↦
            w.place-is
            ∙ ap (λ n. n + 1) c.loop-was.invariant.place
            ∙ sym (row_shown ms p.0)
            ∙ ap (λ b. length (after (ms ++ mark_of (p.0, b) ∷ []))) (sym w.if-is.true)
            ∙ ap (λ ns. length (after ns)) (sym next)
        | else-is w ↦
            w.place-is
            ∙ c.loop-was.invariant.place
            ∙ sym (row_hidden ms p.0)
            ∙ ap (λ b. length (after (ms ++ mark_of (p.0, b) ∷ []))) (sym w.if-is.false)
            ∙ ap (λ ns. length (after ns)) (sym next)
      ];
    }
