use Rattle.std.proofs.Common.{◌≡◌, ◌+◌, ◌++◌, [], ◌∷◌, List, Option, Some, take, sym, ap, ◌∙◌}
use Rattle.std.specs.List.{slice_get}
use Rattle.std.specs.Option.{option_to_list}
use Rattle.std.proofs.lemmas.Result.{IfOk-weaker}
use Rattle.context_diff.specs.Operations.{OpData}
use Rattle.context_diff.specs.Ops.{data_of}
use Rattle.flat_history.specs.Checkpoints as flat
use Rattle.flat_history.specs.Flat.{placed_in}
use Rattle.checkpoint.proofs.PlacedForms.{placed_more}
use Rattle.checkpoint.proofs.originals.placed_at.Goals as goal

pub returns : goal.returns
returns c =
    let h = c.args.site.now.history in
    let fs = c.args.site.now.forms in
    let i = c.args.i in
    let op = data_of c.in-Some-Some.op.now in
    let form = c.in-Some-Some.form.now in
    let at : slice_get h i ≡ Some op =
    ap (λ (os : List OpData). slice_get os i) (sym c.book.ensures) ∙ sym c.in-Some-Some.ensures in
    let there : slice_get fs i ≡ Some form = sym c.in-Some-Some.ensures'.form in
    IfOk-weaker c.placed.result (λ (e : Option flat.Placed). option_to_list e ≡ placed_in (op ∷ []) (form ∷ []))
    (λ (e : Option flat.Placed). placed_in (take (i + 1) h) (take (i + 1) fs) ≡ placed_in (take i h) (take i fs) ++ option_to_list e)
    (λ e is. placed_more h fs i op form at there ∙ ap (λ (es : List flat.Placed). placed_in (take i h) (take i fs) ++ es) (sym is))
    c.placed.ensures
