use Rattle.std.proofs.Common.{◌≡◌, ℕ, sym, ap, ◌∙◌, arith}
use Rattle.context_vector.specs.Contexts.{count_in, entry_in}
use Rattle.context_vector.specs.Code.Undone.{UndoneData}
use Rattle.context_vector.specs.Code.Words.{digit, word_key, generation, entries_in}
use Rattle.context_vector.proofs.Entries.{entry_at_most}
use Rattle.context_vector.proofs.Words.{entry_words, digit_of}
use Rattle.context_vector.proofs.vector.undone.Undone.entry.Goals as goal
use Rattle.context_vector.proofs.vector.undone.Undone.entry.Goals.{After-entry_among}

-- the generation that the digit and what is above it tell
told : (c : After-entry_among) → let inside = c.self.inside in
    generation c.digit.result c.entry_among.result ≡ entry_in (entries_in inside.high.items inside.words.items) c.args.name.now
told c =
    let n = c.args.name.now in
    let ws = c.self.inside.words.items in
    let hs = c.self.inside.high.items in
    let digits : _ ≡ count_in ws (word_key n) = λ j. count_in (c.as_slice.ensures.value j) (c.seat_of-key.ensures.key j) in
    let word = ap (λ (p : ℕ × ℕ). p.1) c.word_among-word.ensures ∙ digits in
    let low : c.digit.result ≡ digit_of ws n = c.digit.ensures.digit ∙ (λ j. digit (word j) (c.seat_of-key.ensures.place j)) in
    let high : c.entry_among.result ≡ entry_in hs n = c.entry_among.ensures ∙ ap (λ es. entry_in es n) c.as_slice-2.ensures.value in
    (λ j. generation (low j) (high j)) ∙ sym (entry_words hs 0 ws n c.self.invariant.0.words (omega (arith, c.known.ensures.2)))

pub generation_of-requires : goal.generation_of-requires
generation_of-requires c =
    omega (arith, told (goal.at.generation_of-requires c).After-entry_among, entry_at_most _ c.args.name.now c.self.invariant.0.entries)

pub returns : goal.returns
returns c =
    c.generation_of.ensures
    ∙ (told (goal.at.returns c).After-entry_among ∙ ap (λ (u : UndoneData). entry_in u.items c.args.name.now) c.self.view_is)
