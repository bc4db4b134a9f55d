use Rattle.std.proofs.Common.{◌≡◌, ◌++◌, length, drop, sym, ap, subst, ◌∙◌}
use Rattle.std.proofs.Math.Seq.{drop-append_seam}
use Rattle.context_vector.specs.Contexts.{count_in}
use Rattle.context_vector.specs.Code.Pieces.{joined}
use Rattle.context_vector.specs.Code.Readers.{left_of}
use Rattle.context_vector.specs.Code.Words.{AreWords}
use Rattle.context_vector.proofs.Counting.{count_past}
use Rattle.context_vector.proofs.WordReading.{words_front, words_back, word_front}
use Rattle.context_vector.proofs.vector.words.word_left.Goals as goal
use Rattle.context_vector.proofs.vector.words.word_left.Goals.{Else-is_empty}

-- the part that is being read, and what is left behind it
whole : (c : Else-is_empty) → left_of c.loop-left.left ≡ c.front-part.result.now ++ joined c.front-part.new.self.pieces
whole c = sym c.front-part.ensures.same ∙ ap (λ xs. xs ++ joined c.front-part.new.self.pieces) (sym c.front-part.ensures.front)

are : (c : Else-is_empty) → AreWords 0 (c.front-part.result.now ++ joined c.front-part.new.self.pieces)
are c = subst (AreWords 0) (whole c) c.loop-left.invariant.are

pub ends_below-requires : goal.ends_below-requires
ends_below-requires c = words_front 0 c.front-part.result.now (joined c.front-part.new.self.pieces) (are c)

pub word_among-requires : goal.word_among-requires
word_among-requires c =
    words_front 0 c.front-part.result.now (joined c.front-part.new.self.pieces) (are (goal.at.word_among-requires c).Else-is_empty)

pub returns-then-not-ends_below : goal.returns-then-not-ends_below
returns-then-not-ends_below c =
    let before = (goal.at.returns-then-not-ends_below c).Else-is_empty in
    let part = c.front-part.result.now in
    let rest = joined c.front-part.new.self.pieces in
    let after = c.ends_below.ensures.reached c.if-not-ends_below.true rest (are before) in
    let same = c.loop-left.invariant.same ∙ (ap (λ xs. count_in xs c.args.key) (whole before) ∙ word_front part rest c.args.key after) in
    c.word_among.ensures ∙ ap (λ d. (c.args.key, d)) (sym same)

pub loop-left-preserved : goal.loop-left-preserved
loop-left-preserved c =
    let before = (goal.at.loop-left-preserved c).Else-is_empty in
    let part = c.front-part.result.now in
    let rest = joined c.front-part.new.self.pieces in
    let left : left_of c.pass.new.self ≡ rest =
    c.pass.ensures ∙ (ap (λ xs. drop (length part) (xs ++ rest)) (sym c.front-part.ensures.front) ∙ drop-append_seam part rest) in
    let passed = count_past part rest c.args.key (c.ends_below.ensures.below c.if-not-ends_below.false) in
    record {
      are = subst (AreWords 0) (sym left) (words_back 0 part rest (are before));
      same = c.loop-left.invariant.same
          ∙ (ap (λ xs. count_in xs c.args.key) (whole before) ∙ (passed ∙ ap (λ xs. count_in xs c.args.key) (sym left)));
    }
