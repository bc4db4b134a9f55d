use Rattle.std.proofs.Common.{◌≡◌, ◌∙◌, ap, sym}
use Rattle.std.specs.Prelude.{Some, option_map, slice_get}
use Rattle.std.proofs.lemmas.Option.{none-some}
use Rattle.context_diff.specs.Ops.{data_of}
use Rattle.cotpad_c.proofs.Formed.{kept_formed}
use Rattle.cotpad_c.proofs.reading.frame_at.Goals as goal

pub encode2-requires : goal.encode2-requires
encode2-requires c =
    let at : slice_get c.args.site.now.history c.args.index ≡ Some (data_of c.in-Some.op.now) =
    ap (λ h. slice_get h c.args.index) (sym c.book.ensures) ∙ sym c.op.ensures ∙ ap (option_map (λ o. data_of o.now)) c.in-Some.is in
    kept_formed c.args.site.now.history c.args.index (data_of c.in-Some.op.now) c.known.ensures.history at

pub returns-in-Ok-clause-none : goal.returns-in-Ok-clause-none
returns-in-Ok-clause-none c none =
    let at : slice_get c.args.site.now.history c.args.index ≡ Some (data_of c.in-Some.op.now) =
    ap (λ h. slice_get h c.args.index) (sym c.book.ensures) ∙ sym c.op.ensures ∙ ap (option_map (λ o. data_of o.now)) c.in-Some.is in
    absurd (none-some _ (sym none ∙ at))

pub returns-clause-none : goal.returns-clause-none
returns-clause-none c none =
    let at : slice_get c.args.site.now.history c.args.index ≡ Some (data_of c.in-Some.op.now) =
    ap (λ h. slice_get h c.args.index) (sym c.book.ensures) ∙ sym c.op.ensures ∙ ap (option_map (λ o. data_of o.now)) c.in-Some.is in
    absurd (none-some _ (sym none ∙ at))
