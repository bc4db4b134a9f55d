use Rattle.std.proofs.Common.{◌≡◌, ◌++◌, List, ℕ, [], Option, Some, refl, ap, sym, ◌∙◌}
use Rattle.std.specs.Option.{option_map_or}
use Rattle.context_diff.specs.Operations.{OpData}
use Rattle.context_diff.specs.Ops.{data_of}
use Rattle.log_listings.specs.Originals.{original_in}
use Rattle.log_listings.specs.Listings.{kind_word, deed_text, target_text}
use Rattle.log_listings.proofs.Appending.{then, nothing, where_well}
use Rattle.log_listings.proofs.Originals.{original_found, original_missing}
use Rattle.log_listings.proofs.listing.put_target.Goals as goal

pub returns-in_ok-text-in-Some : goal.returns-in_ok-text-in-Some
returns-in_ok-text-in-Some c =
    let h = c.args.book.now.ops in
    let n = c.args.name.now in
    let out = c.args.out.now.items in
    let o : OpData = data_of c.in-Some.op.now in
    let found : original_in h n ≡ Some o =
    original_found h n o c.known.ensures.valid c.in-Some.ensures.there c.in-Some.ensures.named in
    let word : c.text.new.out.items ≡ out ++ kind_word o =
    c.in_ok-text-in-Some.ensures.ok ∙ ap (λ (xs : List ℕ). out ++ xs) (c.as_bytes.ensures.value ∙ c.kind_word.ensures) in
    where_well c.put_deed.result (λ put.
    then out (kind_word o) (deed_text h o) c.text.new.out.items c.put_deed.new.out.items word put
    ∙ ap (λ (x : Option OpData). out ++ option_map_or (target_text h) x []) (sym found))
    c.put_deed.ensures

pub returns-in-None : goal.returns-in-None
returns-in-None c =
    let h = c.args.book.now.ops in
    let out = c.args.out.now.items in
    nothing out
    ∙ ap (λ (x : Option OpData). out ++ option_map_or (target_text h) x [])
    (sym (original_missing h c.args.name.now (c.in-None.ensures.none.0 refl)))
