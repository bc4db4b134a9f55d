use Rattle.std.proofs.Common.{◌≡◌, ◌∙◌, length, set, ap, arith}
use Rattle.std.specs.Prelude.{vec_len}
use Rattle.context_diff.specs.Ops.{data_of}
use Rattle.cot_site.specs.Sites.{state_of}
use Rattle.cot_site.specs.Releases.{IsSound}
use Rattle.session_replay.specs.Code.Knowing.{still_known}
use Rattle.session_replay.proofs.Keeping.{known_within, said}
use Rattle.session_replay.proofs.Noting.{IsDelivery, site_sound, delivery_kept, delivery_done, delivery_messages, delivery_known}
use Rattle.session_replay.proofs.sites.Sites.deliver.Goals as goal

pub index-requires-2 : goal.index-requires-2
index-requires-2 c =
    let counted : vec_len c.self.inside.known ≡ length c.self.inside.known.items = omega (arith, c.self.inside.known.ok.0) in
    let sites = c.self.inside.sites.items in
    let messages = c.self.inside.messages.items in
    let d = c.args.self.now in
    known_within sites c.self.inside.known.items messages d c.args.at _ counted c.self.invariant c.self.view_is c.requires.site

pub index_mut-requires-2 : goal.index_mut-requires-2
index_mut-requires-2 c =
    let counted : vec_len c.self.inside.known ≡ length c.self.inside.known.items = omega (arith, c.self.inside.known.ok.0) in
    let sites = c.self.inside.sites.items in
    let messages = c.self.inside.messages.items in
    let d = c.args.self.now in
    known_within sites c.self.inside.known.items messages d c.args.at _ counted c.self.invariant c.self.view_is c.requires.site

pub invariant_of-self : goal.invariant_of-self
invariant_of-self c =
    let x = c.index_mut.result.now in
    let y = c.take_in_and_tell-taken.new.site in
    let first = c.index.result.now in
    let known = c.known.ensures in
    let sound : IsSound (state_of first) = record { number = known.number; history = known.history; waiting = known.waiting } in
    let is = c.index_mut.ensures.value in
    let d = c.args.self.now in
    let i = c.args.at in
    let sites = c.self.inside.sites.items in
    let messages = c.self.inside.messages.items in
    let old = c.args.out.now.items in
    let new = c.take_in_and_tell-taken.new.out.items in
    let e : IsDelivery c.take_in_and_tell-taken.result c.args.many d sites messages i x y (data_of c.args.op.now) old new = record {
      seen = c.self.view_is;
      within = c.requires.site;
      is = is;
      sound = site_sound sites messages d i first x c.self.view_is c.requires.site c.index.ensures is sound;
      formed = c.requires.formed;
      done = c.take_in_and_tell-taken.ensures.done;
    }
    in
    let next = c.still_known.ensures ∙ ap (λ done. still_known done c.index-2.result.now) c.is_ok.ensures.value in
    delivery_kept e c.self.inside.known.items c.index-2.result.now c.still_known.result c.self.invariant c.index-2.ensures next

pub returns-clause-done : goal.returns-clause-done
returns-clause-done c =
    let x = c.index_mut.result.now in
    let y = c.take_in_and_tell-taken.new.site in
    let first = c.index.result.now in
    let known = c.known.ensures in
    let sound : IsSound (state_of first) = record { number = known.number; history = known.history; waiting = known.waiting } in
    let is = c.index_mut.ensures.value in
    let d = c.args.self.now in
    let i = c.args.at in
    let sites = c.self.inside.sites.items in
    let messages = c.self.inside.messages.items in
    let old = c.args.out.now.items in
    let new = c.take_in_and_tell-taken.new.out.items in
    let e : IsDelivery c.take_in_and_tell-taken.result c.args.many d sites messages i x y (data_of c.args.op.now) old new = record {
      seen = c.self.view_is;
      within = c.requires.site;
      is = is;
      sound = site_sound sites messages d i first x c.self.view_is c.requires.site c.index.ensures is sound;
      formed = c.requires.formed;
      done = c.take_in_and_tell-taken.ensures.done;
    }
    in
    delivery_done e c.self.inside.known.items c.self.invariant

pub returns-clause-messages : goal.returns-clause-messages
returns-clause-messages c =
    let x = c.index_mut.result.now in
    let y = c.take_in_and_tell-taken.new.site in
    let first = c.index.result.now in
    let known = c.known.ensures in
    let sound : IsSound (state_of first) = record { number = known.number; history = known.history; waiting = known.waiting } in
    let is = c.index_mut.ensures.value in
    let d = c.args.self.now in
    let i = c.args.at in
    let sites = c.self.inside.sites.items in
    let messages = c.self.inside.messages.items in
    let old = c.args.out.now.items in
    let new = c.take_in_and_tell-taken.new.out.items in
    let e : IsDelivery c.take_in_and_tell-taken.result c.args.many d sites messages i x y (data_of c.args.op.now) old new = record {
      seen = c.self.view_is;
      within = c.requires.site;
      is = is;
      sound = site_sound sites messages d i first x c.self.view_is c.requires.site c.index.ensures is sound;
      formed = c.requires.formed;
      done = c.take_in_and_tell-taken.ensures.done;
    }
    in
    delivery_messages e c.self.inside.known.items c.self.invariant

pub returns-clause-has : goal.returns-clause-has
returns-clause-has c =
    let x = c.index_mut.result.now in
    let y = c.take_in_and_tell-taken.new.site in
    let first = c.index.result.now in
    let known = c.known.ensures in
    let sound : IsSound (state_of first) = record { number = known.number; history = known.history; waiting = known.waiting } in
    let is = c.index_mut.ensures.value in
    let d = c.args.self.now in
    let i = c.args.at in
    let sites = c.self.inside.sites.items in
    let messages = c.self.inside.messages.items in
    let old = c.args.out.now.items in
    let new = c.take_in_and_tell-taken.new.out.items in
    let e : IsDelivery c.take_in_and_tell-taken.result c.args.many d sites messages i x y (data_of c.args.op.now) old new = record {
      seen = c.self.view_is;
      within = c.requires.site;
      is = is;
      sound = site_sound sites messages d i first x c.self.view_is c.requires.site c.index.ensures is sound;
      formed = c.requires.formed;
      done = c.take_in_and_tell-taken.ensures.done;
    }
    in
    let ms = said (set sites i y) messages in
    delivery_known _ _ _ _ _ ms _ _ _ _ _ _ e c.take_in_and_tell-taken.ensures.had
