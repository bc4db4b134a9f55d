use Rattle.std.proofs.Common.{◌≡◌, List, ℕ, [], ◌++◌, Option, refl, ap, sym, ◌∙◌}
use Rattle.std.specs.Option.{option_map_or}
use Rattle.op_name.specs.declared.member.Member.TheVariants.{Original}
use Rattle.context_diff.specs.Operations.{OpData}
use Rattle.context_diff.specs.Ops.{data_of}
use Rattle.context_diff.proofs.CallerLemmas.{complete}
use Rattle.wire_codec.specs.declared.version.Version.TheVariants.{Two}
use Rattle.wire_codec.specs.Spelling.{frame}
use Rattle.log_listings.specs.Digests.{content_of}
use Rattle.log_listings.proofs.Originals.{original_found, original_missing}
use Rattle.log_listings.proofs.Feeding.{fed_nothing, fed_same}
use Rattle.log_listings.proofs.hashing.feed_original.Goals as goal

pub encode2-requires : goal.encode2-requires
encode2-requires c =
    (complete c.args.book.now.ops c.known.ensures.valid).formed (data_of c.in-Some.op.now) c.in-Some.ensures.there

pub returns-in_ok-encode2-in-Some : goal.returns-in_ok-encode2-in-Some
returns-in_ok-encode2-in-Some c =
    let h = c.args.book.now.ops in
    let n = c.args.name.now in
    let o : OpData = data_of c.in-Some.op.now in
    let fed : c.as_slice.result.now ≡ frame Two o =
    c.as_slice.ensures.value ∙ (c.in_ok-encode2-in-Some.ensures.ok ∙ ap (λ (xs : List ℕ). xs ++ frame Two o) c.clear.ensures.items) in
    let content : content_of h (Original n) ≡ frame Two o =
    ap (λ (x : Option OpData). option_map_or (frame Two) x [])
    (original_found h n o c.known.ensures.valid c.in-Some.ensures.there c.in-Some.ensures.named) in
    fed_same c.args.hasher.now c.update.new.self c.as_slice.result.now (content_of h (Original n)) (fed ∙ sym content) c.update.ensures

pub returns-in-None : goal.returns-in-None
returns-in-None c =
    let h = c.args.book.now.ops in
    let n = c.args.name.now in
    let content : content_of h (Original n) ≡ [] =
    ap (λ (x : Option OpData). option_map_or (frame Two) x []) (original_missing h n (c.in-None.ensures.none.0 refl)) in
    fed_same c.args.hasher.now c.args.hasher.now [] (content_of h (Original n)) (sym content) (fed_nothing c.args.hasher.now)
