use Rattle.std.proofs.Common.{◌≡◌, ◌∙◌, ◌+◌, drop, List, ap, refl, length, map, arith}
use Rattle.std.specs.Prelude.{slice_get, vec_len}
use Rattle.std.proofs.lemmas.List.{length-map}
use Rattle.std.proofs.lemmas.Result.{err_from_is_err_and}
use Rattle.context_diff.specs.Operations.{OpData}
use Rattle.session_replay.specs.Sessions.{SessionData, given_all}
use Rattle.cot_site.specs.Sites.{state_of}
use Rattle.session_replay.specs.Code.Messages.{operation_of}
use Rattle.session_replay.proofs.Knowing.{known_passed}
use Rattle.session_replay.proofs.Keeping.{known_within, known_session}
use Rattle.session_replay.proofs.Steps.{along_next, along_end, along_short, done_short, reached_in, stopped}
use Rattle.session_replay.proofs.Loops.{given_more, given_none, message_there}
use Rattle.session_replay.proofs.sites.Sites.give_all.Goals as goal

pub index-message-requires : goal.index-message-requires
index-message-requires c =
    let counted : vec_len c.self.inside.known ≡ length c.self.inside.known.items = omega (arith, c.self.inside.known.ok.0) in
    known_within c.self.inside.sites.items c.self.inside.known.items c.self.inside.messages.items c.args.self.now c.args.at
    (vec_len c.self.inside.known) counted c.self.invariant c.self.view_is c.requires

pub loop-message-init : goal.loop-message-init
loop-message-init c = record {
  along = known_passed c.index-message.result.now c.args.at c.args.self.now.messages c.args.self.now c.args.out.now.items
      (known_session c.self.inside.sites.items c.self.inside.known.items c.self.inside.messages.items c.args.self.now c.args.at
      c.index-message.result.now c.self.invariant c.self.view_is c.requires c.index-message.ensures).1;
  sites = refl;
  messages = refl;
  end = omega (
    arith,
    c.len-message-end.ensures,
    c.self.inside.messages.ok.0,
    ap (λ (e : SessionData). length e.messages) c.self.view_is,
    length-map c.self.inside.messages.items (operation_of (map state_of c.self.inside.sites.items)),
  );
}

pub returns-in_err-deliver_message-clause-done : goal.returns-in_err-deliver_message-clause-done
returns-in_err-deliver_message-clause-done c =
    let p = err_from_is_err_and c.from_residual.result c.from_residual.ensures.1 in
    let k = c.loop-message.message in
    let there = message_there c.args.self.now.messages k (omega (arith, c.loop-message-test.true, c.loop-message.invariant.end)) in
    let done =
    c.in_err-deliver_message.ensures.done there.0
    (ap (λ (ms : List OpData). slice_get ms k) c.loop-message.invariant.messages ∙ there.1) in
    let split = given_more c.args.at k c.args.self.now.messages c.loop-message.self there.0 there.1 in
    stopped c.from_residual.result p.0 p.1 _ _ _ _ _
    (along_short _ _ _ _ c.loop-message.self _ _ _ c.loop-message.invariant.along
    (reached_in _ _ _ _ _ _ split (done_short _ _ _ _ _ _ done)))

pub loop-message-preserved : goal.loop-message-preserved
loop-message-preserved c =
    let k = c.loop-message.message in
    let there = message_there c.args.self.now.messages k (omega (arith, c.loop-message-test.true, c.loop-message.invariant.end)) in
    let done =
    c.in_ok-deliver_message.ensures.done there.0
    (ap (λ (ms : List OpData). slice_get ms k) c.loop-message.invariant.messages ∙ there.1) in
    let split = given_more c.args.at k c.args.self.now.messages c.loop-message.self there.0 there.1 in
    record {
      along = along_next _ _ _ _ _ (given_all c.args.at (drop (k + 1) c.args.self.now.messages)) _ _ _ _ c.loop-message.invariant.along
          split done.0 done.1;
      sites = c.in_ok-deliver_message.ensures.sites ∙ c.loop-message.invariant.sites;
      messages = c.in_ok-deliver_message.ensures.messages ∙ c.loop-message.invariant.messages;
      end = c.loop-message.invariant.end;
    }

pub returns-clause-done : goal.returns-clause-done
returns-clause-done c =
    along_end _ _ _ _ _ _ c.loop-message.invariant.along
    (given_none c.args.at c.args.self.now.messages c.loop-message.self c.loop-message.message
    (omega (arith, c.loop-message-test.false, c.loop-message.invariant.end)))
