use Rattle.std.proofs.Common.{◌≡◌, ◌+◌, ◌-◌, ◌*◌, ℕ, List, length}
use Rattle.op_name.specs.NameData.{NameData}
use Rattle.context_vector.specs.Code.Readers.{left_of}
use Rattle.context_vector.specs.Code.Words.{left_in, IsLeft, AreWords}
use Rattle.context_vector.proofs.vector.word_reader.to_first.Given as goal

-- only places without a digit are passed
abbrev pub invariant-loop-word : goal.invariant-loop-word
invariant-loop-word l = record {
  left : IsLeft l.word.place l.word.digits;
  are : AreWords 0 (left_of l.words);
  same : (hs : List (NameData × ℕ)) →
      left_in hs l.word.key l.word.place l.word.digits (left_of l.words)
      ≡ left_in hs l.fn.word.key l.fn.word.place l.fn.word.digits (left_of l.fn.words);
}

abbrev pub decreases-loop-word : goal.decreases-loop-word
decreases-loop-word l = 9 * length (left_of l.words) + (8 - l.word.place)
