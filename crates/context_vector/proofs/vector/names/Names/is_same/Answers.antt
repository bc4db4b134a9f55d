use Rattle.std.proofs.Common.{◌≡◌, sym, ap, ◌∙◌}
use lib.Pointwise.{pointwise}
use Rattle.context_vector.specs.Equality.{entry_eq, list_eq_decides}
use Rattle.context_vector.specs.Code.Readers.{left_of}
use Rattle.context_vector.specs.Code.Words.{entries_in}
use Rattle.context_vector.proofs.UndoneWords.{words_compared}
use Rattle.context_vector.proofs.WordReading.{left_done}
use Rattle.context_vector.proofs.vector.names.Names.is_same.Goals as goal

pub returns-then-are_equal : goal.returns-then-are_equal
returns-then-are_equal c =
    let ws = left_of c.self.inside.words in
    let vs = left_of c.other.inside.words in
    let hs = c.self.inside.high.now in
    let is = c.other.inside.high.now in
    let above : hs ≡ is = (list_eq_decides hs is).0 (sym c.are_equal.ensures ∙ c.if-are_equal.true) in
    let mine : c.args.self ≡ entries_in hs ws = sym c.self.view_is ∙ left_done hs _ _ _ ws c.if-self-eq0.true in
    let theirs : c.args.other ≡ entries_in hs vs =
    sym c.other.view_is ∙ (left_done is _ _ _ vs c.if-other-eq0.true ∙ ap (λ xs. entries_in xs vs) (sym above)) in
    c.are_same.ensures
    ∙ (words_compared ws vs hs c.self.invariant.1 c.other.invariant.1 ∙ (λ j. pointwise entry_eq (sym mine j) (sym theirs j)))
