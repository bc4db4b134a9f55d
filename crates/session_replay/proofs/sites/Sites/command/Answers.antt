use Rattle.std.proofs.Common.{◌≡◌, ◌∙◌, ℕ, List, [], ◌∷◌, ◌++◌, ap, sym, subst, refl, set, length, arith}
use Rattle.std.specs.Prelude.{vec_len}
use Rattle.std.proofs.lemmas.Result.{err_from_is_err_and}
use Rattle.cot_site.specs.States.{State}
use Rattle.script_text.specs.Verdicts.{local_text}
use Rattle.session_replay.specs.declared.message.Message.{Message}
use Rattle.session_replay.specs.Code.Knowing.{still_known}
use Rattle.session_replay.specs.Code.Messages.{IsKept}
use Rattle.session_replay.proofs.Steps.{stopped, done_nothing, ended_well, ended_short, all_done}
use Rattle.session_replay.proofs.Lifting.{session_of}
use Rattle.session_replay.proofs.Keeping.{Keeps, said, known_within}
use Rattle.session_replay.proofs.Noting.{IsMaking, made_place, making_kept, making_done}
use Rattle.session_replay.proofs.Commanding.{site_within, same_states, refused_same, command_refused, command_told}
use Rattle.session_replay.proofs.sites.Sites.command.Goals.{in-Ok-told, in-Err-told, in-Ok-refuse, in-Err-refuse}
use Rattle.session_replay.proofs.sites.Sites.command.Goals as goal

pub invariant_of-self : goal.invariant_of-self
invariant_of-self c =
    let sites = c.self.inside.sites.items in
    subst (λ (ms : List Message). Keeps sites c.self.inside.known.items ms) (sym c.make_room.ensures.same) c.self.invariant

pub returns-in_err-make_room-clause-done : goal.returns-in_err-make_room-clause-done
returns-in_err-make_room-clause-done c =
    let p = err_from_is_err_and c.from_residual.result c.from_residual.ensures.1 in
    let sites = c.self.inside.sites.items in
    let same = ap (λ (ms : List Message). session_of sites (said sites ms)) c.make_room.ensures.same ∙ c.self.view_is in
    stopped c.from_residual.result p.0 p.1 _ c.args.self.now _ _ _ (done_nothing _ c.args.self.now _ _ _ same refl)

pub invariant_of-self-in-Err : goal.invariant_of-self-in-Err
invariant_of-self-in-Err c =
    let sites = c.self.inside.sites.items in
    let y = c.edit_and_tell.new.site in
    let same = same_states sites c.args.at c.index_mut.result.now y c.index_mut.ensures.value c.in-Err.ensures.state in
    subst (λ (ms : List Message). Keeps (set sites c.args.at y) c.self.inside.known.items ms) (sym c.make_room.ensures.same)
    (subst (λ (ss : List State). IsKept ss c.self.inside.known.items c.self.inside.messages.items) (sym same) c.self.invariant)

pub invariant_of-self-in-Ok : goal.invariant_of-self-in-Ok
invariant_of-self-in-Ok c =
    let m : Message = record { site = c.args.at; place = c.len-place.result } in
    let sites = c.self.inside.sites.items in
    let within = site_within sites _ c.args.self.now c.args.at c.self.view_is c.requires in
    let x = c.index_mut.result.now in
    let is = c.index_mut.ensures.value in
    let d = c.args.self.now in
    let i = c.args.at in
    let messages = c.self.inside.messages.items in
    let e : IsMaking c.in-Ok.told c.args.edit.now c.len-number.result d sites messages i x c.edit_and_tell.new.site m c.args.out.now.items
    c.edit_and_tell.new.out.items = record {
      seen = c.self.view_is;
      within = c.requires;
      is = is;
      sound = c.edit_and_tell.ensures.sound;
      told = c.in-Ok.ensures.told;
      site = refl;
      place = made_place sites i c.index.result.now x m.place within c.index.ensures is (c.len-place.ensures ∙ ap length c.book.ensures);
    }
    in
    let pushed = c.push_reserved.ensures.items ∙ ap (λ (ms : List Message). ms ++ m ∷ []) c.make_room.ensures.same in
    let n = c.index-in-Ok.result.now in
    let next = c.still_known.ensures ∙ ap (λ done. still_known done n) c.is_ok.ensures.value in
    making_kept e c.self.inside.known.items _ n c.still_known.result c.self.invariant pushed c.index-in-Ok.ensures next

pub index-requires-in-Ok : goal.index-requires-in-Ok
index-requires-in-Ok c =
    let counted : vec_len c.self.inside.known ≡ length c.self.inside.known.items = omega (arith, c.self.inside.known.ok.0) in
    let sites = c.self.inside.sites.items in
    let messages = c.self.inside.messages.items in
    let d = c.args.self.now in
    known_within sites c.self.inside.known.items messages d c.args.at _ counted c.self.invariant c.self.view_is c.requires

pub index_mut-requires-in-Ok : goal.index_mut-requires-in-Ok
index_mut-requires-in-Ok c =
    let counted : vec_len c.self.inside.known ≡ length c.self.inside.known.items = omega (arith, c.self.inside.known.ok.0) in
    let sites = c.self.inside.sites.items in
    let messages = c.self.inside.messages.items in
    let d = c.args.self.now in
    known_within sites c.self.inside.known.items messages d c.args.at _ counted c.self.invariant c.self.view_is c.requires

pub returns-after-told-clause-done : goal.returns-after-told-clause-done
returns-after-told-clause-done c =
    let m : Message = record { site = c.args.at; place = c.len-place.result } in
    let sites = c.self.inside.sites.items in
    let within = site_within sites _ c.args.self.now c.args.at c.self.view_is c.requires in
    let x = c.index_mut.result.now in
    let is = c.index_mut.ensures.value in
    let d = c.args.self.now in
    let i = c.args.at in
    let messages = c.self.inside.messages.items in
    let e : IsMaking c.in-Ok.told c.args.edit.now c.len-number.result d sites messages i x c.edit_and_tell.new.site m c.args.out.now.items
    c.edit_and_tell.new.out.items = record {
      seen = c.self.view_is;
      within = c.requires;
      is = is;
      sound = c.edit_and_tell.ensures.sound;
      told = c.in-Ok.ensures.told;
      site = refl;
      place = made_place sites i c.index.result.now x m.place within c.index.ensures is (c.len-place.ensures ∙ ap length c.book.ensures);
    }
    in
    let pushed = c.push_reserved.ensures.items ∙ ap (λ (ms : List Message). ms ++ m ∷ []) c.make_room.ensures.same in
    let room = c.make_room.new.messages.ok.0 in
    let number : c.len-number.result ≡ length messages = omega (arith, c.len-number.ensures, room, ap length c.make_room.ensures.same) in
    let h = making_done e c.self.inside.known.items c.push_reserved.new.self.items c.self.invariant pushed number in
    elim c.match-told.branch [
      | in-Ok-told w ↦ ended_well c.in-Ok.told c.match-told.result _ _ _ _ _ _ _ w.in-Ok-told.is w.result-is h
      | in-Err-told w ↦ ended_short c.in-Ok.told c.match-told.result _ _ _ _ _ _ _ w.in-Err-told.is w.result-is h
    ]

pub returns-after-refuse-clause-done : goal.returns-after-refuse-clause-done
returns-after-refuse-clause-done c =
    let x = c.index_mut.result.now in
    let is = c.index_mut.ensures.value in
    let d = c.args.self.now in
    let i = c.args.at in
    let sites = c.self.inside.sites.items in
    let now = c.make_room.new.messages.items in
    let why = c.in-Err.why in
    let refused_so = refused_same sites c.self.inside.messages.items now d i x c.edit_and_tell.new.site c.self.view_is is in
    let same = refused_so c.in-Err.ensures.state c.make_room.ensures.same in
    elim c.match-refuse.branch [
      | in-Ok-refuse w ↦
          let told = w.in-Ok-refuse.ensures.told in
          let refused = command_refused d sites _ i c.args.edit.now why x c.self.view_is c.requires is c.in-Err.ensures.refused told in
          let all =
          command_told d _ i _ why _ _ refused same
          (w.in-Ok-refuse.ensures.ok ∙ ap (λ (xs : List ℕ). xs ++ local_text why) c.in-Err.ensures.err) in
          all_done c.match-refuse.result _ _ _ _ _ _ w.result-is all
      | in-Err-refuse w ↦ stopped c.match-refuse.result _ w.result-is _ _ _ _ _
          (done_nothing _ _ _ _ _ same (w.in-Err-refuse.ensures.err ∙ c.in-Err.ensures.err))
    ]
