use Rattle.std.proofs.Common.{◌≡◌, ◌∙◌, sym, ap, List, Bor}
use Rattle.std.specs.Prelude.{Some, None, option_map, slice_get}
use Rattle.context_diff.specs.Operations.{OpData}
use Rattle.context_diff.specs.declared.op.Op.{Op}
use Rattle.context_diff.specs.Ops.{data_of}
use Rattle.context_diff.proofs.CallerLemmas.{not_past}
use Rattle.cot_site.proofs.Waiting.{copied}
use Rattle.cot_site.proofs.site.Site.copy_at.Goals as goal

pub unreachable-requires : goal.unreachable-requires
unreachable-requires c =
    let w = c.args.self.now.waiting in
    let at : slice_get w c.args.place ≡ None =
    ap (λ (l : List OpData). slice_get l c.args.place) (sym c.pool.ensures)
    ∙ (sym c.get.ensures ∙ ap (option_map (λ (o : Bor Op). data_of o.now)) c.in-None.is) in
    not_past w c.args.place c.requires at

pub returns : goal.returns
returns c =
    let w = c.args.self.now.waiting in
    let at : slice_get w c.args.place ≡ Some (data_of c.in-Some.op.now) =
    ap (λ (l : List OpData). slice_get l c.args.place) (sym c.pool.ensures)
    ∙ (sym c.get.ensures ∙ ap (option_map (λ (o : Bor Op). data_of o.now)) c.in-Some.is) in
    copied w c.args.place (data_of c.in-Some.op.now) c.try_clone.result at c.try_clone.ensures
