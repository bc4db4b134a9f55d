use Rattle.std.proofs.Common.{◌≡◌, length, arith}
use Rattle.std.specs.Prelude.{vec_len}
use Rattle.session_replay.proofs.Loops.{message_there}
use Rattle.session_replay.proofs.Keeping.{known_within, next_kept}
use Rattle.session_replay.proofs.sites.Sites.note.Goals as goal

pub index-requires : goal.index-requires
index-requires c =
    let counted : vec_len c.self.inside.known ≡ length c.self.inside.known.items = omega (arith, c.self.inside.known.ok.0) in
    let sites = c.self.inside.sites.items in
    let messages = c.self.inside.messages.items in
    let d = c.args.self.now in
    known_within sites c.self.inside.known.items messages d c.args.at _ counted c.self.invariant c.self.view_is c.requires.site

pub index_mut-requires : goal.index_mut-requires
index_mut-requires c =
    let counted : vec_len c.self.inside.known ≡ length c.self.inside.known.items = omega (arith, c.self.inside.known.ok.0) in
    let sites = c.self.inside.sites.items in
    let messages = c.self.inside.messages.items in
    let d = c.args.self.now in
    known_within sites c.self.inside.known.items messages d c.args.at _ counted c.self.invariant c.self.view_is c.requires.site

pub invariant_of-self : goal.invariant_of-self
invariant_of-self c =
    let there = message_there c.args.self.now.messages c.args.message c.requires.message in
    let has = c.requires.has there.0 there.1 in
    let sites = c.self.inside.sites.items in
    let messages = c.self.inside.messages.items in
    let next = next_kept sites c.self.inside.known.items messages c.args.self.now c.args.at c.args.message c.index.result.now in
    next c.self.invariant c.self.view_is c.requires.site c.index.ensures c.if-index-message.true there.0 there.1 c.requires.message has
