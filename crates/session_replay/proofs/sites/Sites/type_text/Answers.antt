use Rattle.std.proofs.Common.{◌≡◌, ◌∙◌, ◌<◌, length, sym, refl, rules, arith}
use Rattle.std.proofs.lemmas.Result.{err_from_is_err_and}
use Rattle.session_replay.proofs.Steps.{along_first, along_part, along_end, along_short, done_short, reached_in, stopped}
use Rattle.session_replay.proofs.Loops.{cut_at, cut_fits, typed_more, typed_last, typed_part, typed_none}
use Rattle.session_replay.proofs.sites.Sites.type_text.Goals as goal

pub loop-rest-init : goal.loop-rest-init
loop-rest-init c = record { along = along_first _ _ _; sites = refl; shorter = omega arith }

pub returns-in_err-type_part-clause-done : goal.returns-in_err-type_part-clause-done
returns-in_err-type_part-clause-done c =
    let rest = c.loop-rest.rest.now in
    let some : 0 < length rest = search rules in
    let cut =
    cut_at c.args.size c.min.result rest _ _ c.requires.some some c.min.ensures c.split_at.ensures.front c.split_at.ensures.back in
    let p = err_from_is_err_and c.from_residual.result c.from_residual.ensures.1 in
    let part = typed_part c.args.size c.args.at c.loop-rest.place rest _ _ c.loop-rest.self cut in
    stopped c.from_residual.result p.0 p.1 _ _ _ _ _
    (along_short _ _ _ _ c.loop-rest.self _ _ _ c.loop-rest.invariant.along
    (reached_in _ _ _ _ _ _ part.1 (done_short _ part.0 _ _ _ _ c.in_err-type_part.ensures.done)))

pub returns-then-not-branch-clause-done : goal.returns-then-not-branch-clause-done
returns-then-not-branch-clause-done c =
    let rest = c.loop-rest.rest.now in
    let some : 0 < length rest = search rules in
    let cut =
    cut_at c.args.size c.min.result rest _ _ c.requires.some some c.min.ensures c.split_at.ensures.front c.split_at.ensures.back in
    let split =
    typed_last c.args.size c.args.at c.loop-rest.place rest _ _ c.loop-rest.self cut
    (sym c.if-not-branch.true ∙ c.in_ok-type_part.ensures.made) in
    along_end _ _ _ _ _ _ (along_part _ _ _ _ _ _ _ _ _ _ c.loop-rest.invariant.along split c.in_ok-type_part.ensures.done.0
    c.in_ok-type_part.ensures.done.1) refl

pub loop-rest-preserved : goal.loop-rest-preserved
loop-rest-preserved c =
    let rest = c.loop-rest.rest.now in
    let some : 0 < length rest = search rules in
    let cut =
    cut_at c.args.size c.min.result rest _ _ c.requires.some some c.min.ensures c.split_at.ensures.front c.split_at.ensures.back in
    let fits = cut_fits _ _ _ _ cut in
    let done = c.in_ok-type_part.ensures.done in
    let split =
    typed_more c.args.size c.args.at c.loop-rest.place rest _ _ c.loop-rest.self cut c.type_part.new.self
    (sym c.if-not-branch.false ∙ c.in_ok-type_part.ensures.made) done.0 in
    record {
      along = along_part _ _ _ _ _ _ _ _ _ _ c.loop-rest.invariant.along split done.0 done.1;
      sites = c.in_ok-type_part.ensures.sites ∙ c.loop-rest.invariant.sites;
      shorter = omega (arith, fits.2, c.loop-rest.invariant.shorter);
    }

pub returns-clause-done : goal.returns-clause-done
returns-clause-done c =
    let rest = c.loop-rest.rest.now in
    let none : length rest ≡ 0 = search rules in
    along_end _ _ _ _ _ _ c.loop-rest.invariant.along (typed_none c.args.size c.args.at c.loop-rest.place rest c.loop-rest.self none)
