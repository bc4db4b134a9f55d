use Rattle.std.proofs.Common.{List, ℕ, slice_index_or, refl, ap, sym, ◌∙◌}
use Rattle.context_diff.specs.Ops.{data_of}
use Rattle.log_listings.proofs.Originals.{character_of_original, character_unknown}
use Rattle.log_listings.proofs.characters.character_of.Goals as goal

pub returns-in-Some : goal.returns-in-Some
returns-in-Some c =
    let id = c.args.id.now in
    c.letter_at.ensures ∙ ap (λ (xs : List ℕ). slice_index_or xs id.offset 0) c.letters_of.ensures
    ∙ sym (character_of_original c.args.book.now.ops id.name id.offset (data_of c.in-Some.op.now) c.known.ensures.valid
    c.in-Some.ensures.there c.in-Some.ensures.named)

pub returns-in-None : goal.returns-in-None
returns-in-None c =
    sym (character_unknown c.args.book.now.ops c.args.id.now.name c.args.id.now.offset (c.in-None.ensures.none.0 refl))
