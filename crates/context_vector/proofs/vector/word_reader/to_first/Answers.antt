use Rattle.std.proofs.Common.{◌≡◌, ◌+◌, ◌++◌, Some, sym, ap, subst, ◌∙◌}
use Rattle.std.specs.Prelude.{slice_get}
use Rattle.context_vector.specs.Code.Readers.{left_of}
use Rattle.context_vector.specs.Code.Words.{left_in, entries_in, IsLeft, AreWords}
use Rattle.context_vector.proofs.WordReading.{left_within, left_next, left_start, left_pass, left_loads, left_ends, words_rest, first_below}
use Rattle.context_vector.proofs.vector.word_reader.to_first.Goals as goal

pub loop-word-preserved-then-word-ne0 : goal.loop-word-preserved-then-word-ne0
loop-word-preserved-then-word-ne0 c =
    let was = c.loop-word.word in
    let ws = left_of c.loop-word.words in
    let within = left_within was.place was.digits c.loop-word.invariant.left c.if-word-ne0.true in
    let next = left_next was.place was.digits c.loop-word.invariant.left within in
    let now = c.step.new.self in
    record {
      left = subst (λ i. IsLeft i now.digits) (sym c.step.ensures.place) (subst (IsLeft (was.place + 1)) (sym c.step.ensures.digits) next);
      are = c.loop-word.invariant.are;
      same = λ hs.
          (λ j. left_in hs (c.step.ensures.key j) (c.step.ensures.place j) (c.step.ensures.digits j) ws)
          ∙ (ap (λ es. es ++ entries_in hs ws) (sym (left_pass hs was.key was.place was.digits within c.loop-word-test.true))
          ∙ c.loop-word.invariant.same hs);
    }

pub loop-word-preserved : goal.loop-word-preserved
loop-word-preserved c =
    let was = c.loop-word.word in
    let ws = left_of c.loop-word.words in
    let word = c.in-Some.next in
    let is : slice_get ws 0 ≡ Some word = sym c.next.ensures.first ∙ c.in-Some.is in
    let now = c.of.result in
    let start = left_start word.1 (first_below ws word c.loop-word.invariant.are is) in
    record {
      left = subst (λ i. IsLeft i now.digits) (sym c.of.ensures.place) (subst (IsLeft 0) (sym c.of.ensures.digits) start);
      are = subst (AreWords 0) (sym c.next.ensures.rest) (words_rest ws c.loop-word.invariant.are);
      same = λ hs.
          (λ j. left_in hs (c.of.ensures.key j) (c.of.ensures.place j) (c.of.ensures.digits j) (c.next.ensures.rest j))
          ∙ (sym (left_loads hs was.key was.place was.digits ws word c.if-word-ne0.false is) ∙ c.loop-word.invariant.same hs);
    }

pub returns-in-None-clause-end : goal.returns-in-None-clause-end
returns-in-None-clause-end c e hs =
    let was = c.loop-word.word in
    let ws = left_of c.loop-word.words in
    sym (c.loop-word.invariant.same hs)
    ∙ left_ends hs was.key was.place was.digits ws c.if-word-ne0.false (sym c.next.ensures.first ∙ c.in-None.is)
