use Rattle.std.proofs.Common.{ap, sym, ◌∙◌, arith}
use Rattle.op_name.specs.NameData.{NameData, name_eq}
use Rattle.op_name.proofs.CallerLemmas.{name_same}
use Rattle.char_marks.proofs.Finding.{where_named, none_named}
use Rattle.char_marks.proofs.kept.find.Goals as goal
use Rattle.char_marks.proofs.kept.find.Goals.{else-place-kept-via-then-place-kept+else-eq, else-place-kept-via-else-place-kept}

pub returns-then-eq-clause-there : goal.returns-then-eq-clause-there
returns-then-eq-clause-there c =
    where_named c.args.kept.now c.args.name.now c.place_by_name-place.result c.place_by_name-place.ensures c.name_at.result
    c.if-place-kept.true c.name_at.ensures (name_same c.name_at.result c.args.name.now (sym c.eq.ensures ∙ c.if-eq.true))

pub returns-else-place-kept-clause-none : goal.returns-else-place-kept-clause-none
returns-else-place-kept-clause-none c =
    let ks = c.args.kept.now in
    let n = c.args.name.now in
    let i = c.place_by_name-place.result in
    elim c.else-place-kept.branch [
      | else-place-kept-via-then-place-kept+else-eq w ↦ none_named ks n i c.requires c.place_by_name-place.ensures (λ lt d.
          ap (λ (m : NameData). name_eq m n) (sym (w.name_at.ensures d)) ∙ (sym w.eq.ensures ∙ w.if-eq.false))
      | else-place-kept-via-else-place-kept w ↦ none_named ks n i c.requires c.place_by_name-place.ensures (λ lt d.
          absurd (omega (arith, lt, w.if-place-kept.false)))
    ]
