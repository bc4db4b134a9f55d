use Rattle.std.proofs.Common.{◌≡◌, ◌∙◌, ◌%◌, length, slice_get, ap, sym, subst, arith}
use Rattle.std.proofs.lemmas.Option.{slice_get_past}
use Rattle.context_vector.specs.Contexts.{ContextData, AreCounts, rank_of}
use Rattle.context_diff.specs.Histories.{context_of_all}
use Rattle.context_diff.proofs.CallerLemmas.{all_is_context}
use Rattle.session_replay.specs.Generating.{names_in, names_of}
use Rattle.session_replay.proofs.Names.{names_number}
use Rattle.session_replay.proofs.sites.drawing.drawn_target.Goals as goal

pub returns-then-originals-eq0 : goal.returns-then-originals-eq0
returns-then-originals-eq0 c =
    let h = c.args.site.now.history in
    let rank : c.rank-originals.result ≡ rank_of (context_of_all h) = c.rank-originals.ensures.rank ∙ ap rank_of c.vector-have.ensures in
    sym (slice_get_past (names_of h) (c.args.place % length (names_of h))
    (omega (arith, rank, names_number (context_of_all h).counts, c.if-originals-eq0.true)))

pub named_at-requires : goal.named_at-requires
named_at-requires c =
    let h = c.args.site.now.history in
    let counts = c.sites_read.ensures ∙ ap (λ (v : ContextData). v.counts) c.vector-have.ensures in
    subst (AreCounts 0) (sym counts) (all_is_context h c.known.ensures.history).counts

pub returns : goal.returns
returns c =
    let h = c.args.site.now.history in
    let counts = c.sites_read.ensures ∙ ap (λ (v : ContextData). v.counts) c.vector-have.ensures in
    let number : c.rank-originals.result ≡ length (names_of h) =
    c.rank-originals.ensures.rank ∙ (ap rank_of c.vector-have.ensures ∙ sym (names_number (context_of_all h).counts)) in
    c.named_at.ensures ∙ (λ i. slice_get (names_in (counts i)) (c.args.place % number i))
