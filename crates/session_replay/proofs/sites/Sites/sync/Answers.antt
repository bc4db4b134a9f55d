use Rattle.std.proofs.Common.{◌≡◌, ◌∙◌, ◌-◌, ◌+◌, ◌<◌, List, ap, subst, refl, length, arith}
use Rattle.context_diff.specs.Operations.{OpData}
use Rattle.session_replay.proofs.Needed.{on_err}
use Rattle.std.proofs.lemmas.List.{length-map}
use Rattle.std.proofs.lemmas.Result.{err_from_is_err_and}
use Rattle.cot_site.specs.Sites.{state_of}
use Rattle.session_replay.specs.Sessions.{SessionData, synced}
use Rattle.session_replay.proofs.Steps.{IsAlong, along_first, along_next, along_end, along_short, done_short, reached_in, stopped}
use Rattle.session_replay.proofs.Loops.{synced_more, synced_none}
use Rattle.session_replay.proofs.sites.Sites.sync.Goals as goal

pub loop-at-init : goal.loop-at-init
loop-at-init c =
    let d = c.args.self.now in
    let out = c.args.out.now.items in
    let all : length d.sites ≡ length d.sites - 0 = omega arith in
    record {
      along = subst (λ n. IsAlong (synced 0 (length d.sites) d) d out (synced 0 n d) d out) all (along_first _ _ _);
      sites = refl;
      messages = refl;
      end = omega (
        arith,
        c.len-at-end.ensures,
        c.self.inside.sites.ok.0,
        ap (λ (e : SessionData). length e.sites) c.self.view_is,
        length-map c.self.inside.sites.items state_of,
      );
    }

pub returns-in_err-give_all-clause-done : goal.returns-in_err-give_all-clause-done
returns-in_err-give_all-clause-done c =
    let p = err_from_is_err_and c.from_residual.result c.from_residual.ensures.1 in
    let split =
    synced_more c.loop-at.at (length c.args.self.now.sites) c.loop-at.self
    (omega (arith, c.loop-at-test.true, c.loop-at.invariant.end)) in
    stopped c.from_residual.result p.0 p.1 _ _ _ _ _
    (along_short _ _ _ _ c.loop-at.self _ _ _ c.loop-at.invariant.along
    (reached_in _ _ _ _ _ _ split (done_short _ _ _ _ _ _ c.in_err-give_all.ensures.done)))

pub returns-in_err-give_all-clause-needed : goal.returns-in_err-give_all-clause-needed
returns-in_err-give_all-clause-needed c =
    let some : 0 < length c.args.self.now.messages =
    omega (arith, c.in_err-give_all.ensures.needed, ap (λ (ms : List OpData). length ms) c.loop-at.invariant.messages) in
    on_err c.from_residual.result some

pub returns-in_err-give_all-clause-sites : goal.returns-in_err-give_all-clause-sites
returns-in_err-give_all-clause-sites c = c.in_err-give_all.ensures.sites ∙ c.loop-at.invariant.sites

pub loop-at-preserved : goal.loop-at-preserved
loop-at-preserved c =
    let split =
    synced_more c.loop-at.at (length c.args.self.now.sites) c.loop-at.self
    (omega (arith, c.loop-at-test.true, c.loop-at.invariant.end)) in
    record {
      along = along_next _ _ _ _ _ (synced (c.loop-at.at + 1) (length c.args.self.now.sites - (c.loop-at.at + 1))) _ _ _ _
          c.loop-at.invariant.along split c.in_ok-give_all.ensures.done.0 c.in_ok-give_all.ensures.done.1;
      sites = c.in_ok-give_all.ensures.sites ∙ c.loop-at.invariant.sites;
      messages = c.in_ok-give_all.ensures.messages ∙ c.loop-at.invariant.messages;
      end = c.loop-at.invariant.end;
    }

pub returns-clause-done : goal.returns-clause-done
returns-clause-done c =
    along_end _ _ _ _ _ _ c.loop-at.invariant.along
    (synced_none c.loop-at.at (length c.args.self.now.sites) c.loop-at.self (omega (arith, c.loop-at-test.false, c.loop-at.invariant.end)))

pub returns-clause-sites : goal.returns-clause-sites
returns-clause-sites c = c.loop-at.invariant.sites
