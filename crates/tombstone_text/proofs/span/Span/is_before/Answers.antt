use Rattle.std.proofs.Common.{◌≡◌, ℕ, ◌+◌, [], ap, ◌∙◌, subst, arith}
use Rattle.ttf_form.specs.Cells.{CellData}
use Rattle.tombstone_text.specs.Code.Spans.{IsNext}
use Rattle.tombstone_text.proofs.Following.{only_next}
use Rattle.tombstone_text.proofs.span.Span.is_before.Goals as goal

pub returns : goal.returns
returns c t =
    let s = c.self.inside in
    let a = c.args.ins.now in
    let of : ℕ = s.last + 1 in
    let first : CellData = record { name = s.name; offset = s.offset; of = of; generation = s.generation; deleters = s.deleters } in
    let alone : of ≡ 1 = let e = c.if-self-ne0.false in omega (arith, e) in
    let none : s.deleters ≡ [] = let e = c.if-not-is_empty.false in c.is_empty.ensures cc in
    let more = c.from.ensures in
    let is = c.is_behind.ensures.name t in
    let step : c.from.result + 1 ≡ s.more + 1 = omega (arith, more) in
    subst (λ v. IsNext v a) c.self.view_is
    (record {
      few = let e = c.if-self.false in omega (arith, e);
      numbers = let n = c.is_behind.ensures.number t in omega (arith, n, step);
      alone = alone;
      plain = none;
      next = only_next a first (s.more + 1) c.if-ins-ne1.false alone c.if-self-ne0-2.false c.if-self-ne0-3.false none
          (is ∙ ap (λ k. record { site = s.name.site; number = s.name.number + k }) step);
    })
