use Rattle.std.proofs.Common.{◌≡◌, ℕ, sym, ap, ◌∙◌, arith}
use Rattle.context_vector.specs.Contexts.{count_in, entry_in}
use Rattle.context_vector.specs.Code.Words.{digit, generation, entries_in}
use Rattle.context_vector.proofs.Entries.{entry_at_most}
use Rattle.context_vector.proofs.Words.{entry_words, digit_of}
use Rattle.context_vector.proofs.vector.kept.Kept.entry.Goals as goal
use Rattle.context_vector.proofs.vector.kept.Kept.entry.Goals.{After-entry_among}

-- the generation that the digit and what is above it tell
told : (c : After-entry_among) → let inside = c.self.inside in
    generation c.digit.result c.entry_among.result ≡ entry_in (entries_in inside.high.items inside.words) c.args.name.now
told c =
    let n = c.args.name.now in
    let ws = c.self.inside.words in
    let hs = c.self.inside.high.items in
    let word = ap (λ (p : ℕ × ℕ). p.1) c.word_left-word.ensures ∙ (λ j. count_in (c.reader.ensures j) (c.seat_of-key.ensures.key j)) in
    let low : c.digit.result ≡ digit_of ws n = c.digit.ensures.digit ∙ (λ j. digit (word j) (c.seat_of-key.ensures.place j)) in
    let high : c.entry_among.result ≡ entry_in hs n = c.entry_among.ensures ∙ ap (λ es. entry_in es n) c.as_slice.ensures.value in
    (λ j. generation (low j) (high j)) ∙ sym (entry_words hs 0 ws n c.self.invariant.0.words (omega (arith, c.known.ensures.2)))

pub generation_of-requires : goal.generation_of-requires
generation_of-requires c =
    omega (arith, told (goal.at.generation_of-requires c).After-entry_among, entry_at_most _ c.args.name.now c.self.invariant.0.entries)

pub returns : goal.returns
returns c = c.generation_of.ensures ∙ (told (goal.at.returns c).After-entry_among ∙ ap (λ es. entry_in es c.args.name.now) c.self.view_is)
