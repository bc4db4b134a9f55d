use Rattle.std.proofs.Common.{◌≡◌, List, ℕ, ap, sym, subst, ◌∙◌}
use Rattle.op_name.specs.NameData.{NameData}
use Rattle.context_vector.specs.Vectors.{VectorData}
use Rattle.log_listings.proofs.Feeding.{FeedsFront, entries_bytes, front_none, front_all, name_fed, none_left}
use Rattle.log_listings.proofs.hashing.feed_groups.Goals as goal

pub loop-undone-init : goal.loop-undone-init
loop-undone-init c =
    let h = c.args.book.now.ops in
    let a = c.args.hasher.now in
    let all = c.args.book.now.have.set.entries in
    let is : c.names_read-left.result ≡ all = c.names_read-left.ensures ∙ ap (λ (v : VectorData). v.set.entries) c.have.ensures in
    subst (λ (es : List (NameData × ℕ)). FeedsFront a a (entries_bytes h all) (entries_bytes h es)) (sym is)
    (front_none a (entries_bytes h all))

pub loop-undone-preserved : goal.loop-undone-preserved
loop-undone-preserved c =
    let h = c.args.book.now.ops in
    name_fed h c.args.hasher.now c.loop-undone.hasher c.feed_name.new.hasher (entries_bytes h c.args.book.now.have.set.entries)
    c.loop-undone.left c.next.new.self c.in-Some.undone c.loop-undone.invariant c.in-Some.ensures.first
    c.next.ensures.rest (c.feed_name.ensures h)

pub returns : goal.returns
returns c =
    let h = c.args.book.now.ops in
    front_all c.args.hasher.now c.loop-undone.hasher (entries_bytes h c.args.book.now.have.set.entries) (entries_bytes h c.loop-undone.left)
    c.loop-undone.invariant (ap (entries_bytes h) (none_left c.loop-undone.left c.in_default.ensures.first))
