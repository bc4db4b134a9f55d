use Rattle.std.proofs.Common.{◌≡◌, ℕ, ap, sym, ◌∙◌}
use Rattle.context_vector.specs.Contexts.{count_in}
use Rattle.context_vector.proofs.Counts.{count_in_gap}
use Rattle.context_vector.proofs.Words.{word_at_place}
use Rattle.context_vector.proofs.vector.words.word_among.Goals as goal

pub returns-in-Ok : goal.returns-in-Ok
returns-in-Ok c =
    let ws = c.args.words.now in
    let at = c.index-words-at.result in
    let key : at.0 ≡ c.args.key = ap (λ (p : ℕ × ℕ). p.0) c.index-words-at.is ∙ c.in-Ok.ensures.found.key at in
    let digits : at.1 ≡ count_in ws c.args.key =
    ap (λ (p : ℕ × ℕ). p.1) c.index-words-at.is ∙ sym (word_at_place ws c.args.key c.in-Ok.at at c.requires c.in-Ok.ensures.found) in
    λ i. (key i, digits i)

pub returns-in-Err : goal.returns-in-Err
returns-in-Err c =
    c.new.ensures ∙ ap (λ d. (c.args.key, d)) (sym (count_in_gap c.args.words.now c.args.key c.in-Err.field-0 c.in-Err.ensures.absent))
