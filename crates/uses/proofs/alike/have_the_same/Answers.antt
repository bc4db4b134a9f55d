use Rattle.std.proofs.Common.{sym, subst, ◌∙◌}
use Rattle.std.specs.Prelude.{All}
use Rattle.std.proofs.lemmas.Bool.{true≢false}
use Rattle.cot_site.specs.Verdicts.{IsRepeat}
use Rattle.uses.proofs.SameOperations.{same_is}
use Rattle.uses.proofs.alike.have_the_same.Goals as goal

pub returns-then-has_all : goal.returns-then-has_all
returns-then-has_all c =
    let h = c.args.ann.now.history in
    let k = c.args.bob.now.history in
    let is = same_is h k c.known.ensures.history c.known-2.ensures.history in
    let at_bob : All (IsRepeat k) h = subst (All (IsRepeat k)) c.book.ensures (c.has_all.ensures.0 c.if-has_all.true) in (
      λ yes. is.0 (at_bob, subst (All (IsRepeat h)) c.book-then-has_all.ensures (c.has_all-then-has_all.ensures.0 yes)),
      λ same. c.has_all-then-has_all.ensures.1 (subst (All (IsRepeat h)) (sym c.book-then-has_all.ensures) (is.1 same).1),
    )

pub returns-else-has_all : goal.returns-else-has_all
returns-else-has_all c =
    let h = c.args.ann.now.history in
    let k = c.args.bob.now.history in
    let is = same_is h k c.known.ensures.history c.known-2.ensures.history in (
      λ yes. absurd (true≢false (sym yes ∙ c.if-has_all.false)),
      λ same. c.has_all.ensures.1 (subst (All (IsRepeat k)) (sym c.book.ensures) (is.1 same).0),
    )
