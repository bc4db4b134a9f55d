use Rattle.std.proofs.Common.{refl, sym, ◌∙◌, true≢false}
use Rattle.site_anchors.specs.Anchors.{cell_at}
use Rattle.site_anchors.proofs.Cells.{has_more, more_had, has_known}
use Rattle.site_anchors.proofs.standing.insert_of.Goals as goal

pub returns-then-brings : goal.returns-then-brings
returns-then-brings c = (
  λ _. has_more c.args.book.now.ops c.known.ensures.valid (cell_at c.args.id.now) c.in-Some.place c.in-Some.ensures.place
      (c.if-brings.ensures.0 refl),
  λ _. refl,
)

pub returns-else-brings : goal.returns-else-brings
returns-else-brings c = (
  λ some. absurd (true≢false (sym some)),
  λ has. c.if-brings.ensures.1
      (more_had c.args.book.now.ops c.known.ensures.valid (cell_at c.args.id.now) c.in-Some.place c.in-Some.ensures.place has),
)

pub returns-in-None : goal.returns-in-None
returns-in-None c = (
  λ some. absurd (true≢false (sym some)),
  λ has. absurd
      (true≢false (sym (has_known c.args.book.now.ops (cell_at c.args.id.now) has) ∙ c.in-None.ensures.none.0 refl)),
)
