use Rattle.std.proofs.Common.{◌≡◌, suc, ◌+◌, ◌≤◌, length, take, sym, ap, ◌∙◌, subst, arith}
use Rattle.tombstone_text.specs.Chunks.{flat}
use Rattle.tombstone_text.specs.Code.Cells.{cut}
use Rattle.tombstone_text.specs.Code.Spans.{AreFilled, IsPlace, pieces}
use Rattle.tombstone_text.proofs.Chunked.{all_cut, filled_cut, before_high}
use Rattle.tombstone_text.proofs.Pieces.{pieces_long, place_inside}
use Rattle.tombstone_text.proofs.spans.border.Goals as goal

pub returns-then-inside-eq0-clause-border : goal.returns-then-inside-eq0-clause-border
returns-then-inside-eq0-clause-border c =
    let place = subst (λ ss. IsPlace (pieces ss) c.find-i.result.0 c.find-i.result.1 c.args.at) c.as_slice.ensures.value c.find-i.ensures in
    omega (arith, place.place_is, c.if-inside-eq0.true)

pub returns-then-inside-eq0-clause-within : goal.returns-then-inside-eq0-clause-within
returns-then-inside-eq0-clause-within c =
    let ss = c.args.spans.now.items in
    let place = subst (λ ss. IsPlace (pieces ss) c.find-i.result.0 c.find-i.result.1 c.args.at) c.as_slice.ensures.value c.find-i.ensures in
    omega (arith, place.most, pieces_long ss)

pub cut-requires-clause-span : goal.cut-requires-clause-span
cut-requires-clause-span c =
    let ss = c.args.spans.now.items in
    let place = subst (λ ss. IsPlace (pieces ss) c.find-i.result.0 c.find-i.result.1 c.args.at) c.as_slice.ensures.value c.find-i.ensures in
    let some : 1 ≤ c.find-i.result.1 = let other = c.if-inside-eq0.false in omega (arith, other) in
    omega (arith, place_inside (pieces ss) c.find-i.result.0 c.find-i.result.1 c.args.at place c.requires.within some, pieces_long ss)

pub cut-requires-clause-less : goal.cut-requires-clause-less
cut-requires-clause-less c =
    let ss = c.args.spans.now.items in
    let place = subst (λ ss. IsPlace (pieces ss) c.find-i.result.0 c.find-i.result.1 c.args.at) c.as_slice.ensures.value c.find-i.ensures in
    let some : 1 ≤ c.find-i.result.1 = let other = c.if-inside-eq0.false in omega (arith, other) in
    place.within (place_inside (pieces ss) c.find-i.result.0 c.find-i.result.1 c.args.at place c.requires.within some)

pub returns-clause-cells : goal.returns-clause-cells
returns-clause-cells c = ap (λ cs. flat cs) c.cut.ensures.cut ∙ all_cut (pieces c.args.spans.now.items) c.find-i.result.0 c.find-i.result.1

pub returns-clause-filled : goal.returns-clause-filled
returns-clause-filled c =
    let ss = c.args.spans.now.items in
    let place = subst (λ ss. IsPlace (pieces ss) c.find-i.result.0 c.find-i.result.1 c.args.at) c.as_slice.ensures.value c.find-i.ensures in
    let some : 1 ≤ c.find-i.result.1 = let other = c.if-inside-eq0.false in omega (arith, other) in
    let inside = place_inside (pieces ss) c.find-i.result.0 c.find-i.result.1 c.args.at place c.requires.within some in
    subst AreFilled (sym c.cut.ensures.cut)
    (filled_cut (pieces ss) c.find-i.result.0 c.find-i.result.1 c.requires.filled inside some (place.within inside))

pub returns-clause-border : goal.returns-clause-border
returns-clause-border c =
    let ss = c.args.spans.now.items in
    let i = c.find-i.result.0 in
    let place = subst (λ ss. IsPlace (pieces ss) c.find-i.result.0 c.find-i.result.1 c.args.at) c.as_slice.ensures.value c.find-i.ensures in
    let some : 1 ≤ c.find-i.result.1 = let other = c.if-inside-eq0.false in omega (arith, other) in
    let inside = place_inside (pieces ss) i c.find-i.result.1 c.args.at place c.requires.within some in
    let within = place.within inside in
    let next : i + 1 ≡ suc i = omega arith in
    ap (λ cs. length (flat (take (i + 1) cs))) c.cut.ensures.cut
    ∙ ap (λ k. length (flat (take k (cut (pieces ss) i c.find-i.result.1)))) next
    ∙ before_high (pieces ss) i c.find-i.result.1 inside (omega (arith, within)) ∙ place.place_is

pub returns-clause-within : goal.returns-clause-within
returns-clause-within c =
    let ss = c.args.spans.now.items in
    let place = subst (λ ss. IsPlace (pieces ss) c.find-i.result.0 c.find-i.result.1 c.args.at) c.as_slice.ensures.value c.find-i.ensures in
    let some : 1 ≤ c.find-i.result.1 = let other = c.if-inside-eq0.false in omega (arith, other) in
    let inside = place_inside (pieces ss) c.find-i.result.0 c.find-i.result.1 c.args.at place c.requires.within some in
    omega (arith, inside, pieces_long ss, c.cut.ensures.len)
