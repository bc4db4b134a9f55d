use Rattle.std.proofs.Common.{◌≡◌, ◌∙◌, ◌<◌, ◌++◌, List, ℕ, ap, sym, refl, length, length-drop, arith, rules}
use Rattle.session_replay.specs.LineSteps.{framed, raw_steps}
use Rattle.session_replay.proofs.Steps.{along_first, along_part, along_end, along_short, done_short, reached_in}
use Rattle.session_replay.proofs.Loops.{frames_on, frames_end, frames_part, framed_none, frame_begun}
use Rattle.session_replay.proofs.sites.Sites.give_frames.Goals as goal

pub loop-rest-init : goal.loop-rest-init
loop-rest-init c = record { along = along_first _ _ _; sites = refl; shorter = omega arith }

pub loop-rest-smaller : goal.loop-rest-smaller
loop-rest-smaller c =
    let rest = c.loop-rest.rest.now in
    let some : 0 < length rest = search rules in
    let begun = frame_begun c.args.version rest c.in-Ok-Some.used (sym c.in-Ok-Some.field-0-is ∙ c.in-Ok-Some.ensures.used) in
    omega (arith, some, begun, ap (λ (xs : List ℕ). length xs) c.split_at-parts.ensures.back, length-drop c.in-Ok-Some.used rest)

pub loop-rest-preserved : goal.loop-rest-preserved
loop-rest-preserved c =
    let rest = c.loop-rest.rest.now in
    let now = c.deliver_frame.new.self in
    let done = c.in-Ok-Some.ensures.done in
    let some : 0 < length rest = search rules in
    let split =
    frames_on c.args.version c.args.site rest c.loop-rest.self now c.in-Ok-Some.used some
    (sym c.in-Ok-Some.field-0-is ∙ c.in-Ok-Some.ensures.used)
    done.0 in
    let split_after =
    split ∙ ap (λ (xs : List ℕ). framed c.args.version 1 c.args.site rest c.loop-rest.self ++ raw_steps c.args.version c.args.site xs now)
    (sym c.split_at-parts.ensures.back) in
    record {
      along = along_part _ _ _ _ _ _ _ _ _ _ c.loop-rest.invariant.along split_after done.0 done.1;
      sites = c.in-Ok-Some.ensures.sites ∙ c.loop-rest.invariant.sites;
      shorter =
          omega (
            arith,
            c.loop-rest.invariant.shorter,
            ap (λ (xs : List ℕ). length xs) c.split_at-parts.ensures.back,
            length-drop c.in-Ok-Some.used rest,
          );
    }

pub returns-in-Ok-None-clause-done : goal.returns-in-Ok-None-clause-done
returns-in-Ok-None-clause-done c =
    let rest = c.loop-rest.rest.now in
    let done = c.in-Ok-None.ensures.done in
    let some : 0 < length rest = search rules in
    let split =
    frames_end c.args.version c.args.site rest c.loop-rest.self some (sym c.in-Ok-None.field-0-is ∙ c.in-Ok-None.ensures.used) in
    along_end _ _ _ _ _ _ (along_part _ _ _ _ _ _ _ _ _ _ c.loop-rest.invariant.along split done.0 done.1) refl

pub returns-in-Err-clause-done : goal.returns-in-Err-clause-done
returns-in-Err-clause-done c =
    let rest = c.loop-rest.rest.now in
    let some : 0 < length rest = search rules in
    let part = frames_part c.args.version c.args.site rest c.loop-rest.self some in
    along_short _ _ _ _ c.loop-rest.self _ _ _ c.loop-rest.invariant.along
    (reached_in _ _ _ _ _ _ part.1 (done_short _ part.0 _ _ _ _ c.in-Err.ensures.done))

pub returns-clause-done : goal.returns-clause-done
returns-clause-done c =
    let rest = c.loop-rest.rest.now in
    let none : length rest ≡ 0 = search rules in
    along_end _ _ _ _ _ _ c.loop-rest.invariant.along (framed_none c.args.version c.args.site rest c.loop-rest.self none)

pub returns-in-Err-clause-needed : goal.returns-in-Err-clause-needed
returns-in-Err-clause-needed c =
    let some : 0 < length c.loop-rest.rest.now = search rules in
    omega (arith, some, c.loop-rest.invariant.shorter)
