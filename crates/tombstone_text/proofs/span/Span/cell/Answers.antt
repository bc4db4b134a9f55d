use Rattle.std.proofs.Common.{◌≡◌, ◌≢◌, ℕ, ◌+◌, List, refl, sym, ap, ◌∙◌, arith}
use Rattle.op_name.specs.NameData.{NameData}
use Rattle.ttf_form.specs.Cells.{CellData}
use Rattle.tombstone_text.specs.Code.Spans.{after}
use Rattle.tombstone_text.proofs.Following.{after_numbered, after_placed}
use Rattle.tombstone_text.proofs.span.Span.cell.Goals as goal

pub returns-then-self-eq0 : goal.returns-then-self-eq0
returns-then-self-eq0 c =
    let s = c.self.inside in
    let of : ℕ = s.last + 1 in
    let first : CellData = record { name = s.name; offset = s.offset; of = of; generation = s.generation; deleters = s.deleters } in
    let one : of ≡ 1 = let e = c.if-self-eq0.true in omega (arith, e) in
    c.new.ensures
    ∙ ap (λ (n : NameData). record {
      name = n;
      offset = s.offset;
      of = of;
      generation = s.generation;
      deleters =
          c.as_slice-deleters.result.now;
    })
    c.name_behind-name.ensures
    ∙ ap (λ (ds : List (NameData × ℕ)).
    record {
      name = record { site = s.name.site; number = s.name.number + c.args.k };
      offset = s.offset;
      of = of;
      generation =
          s.generation;
      deleters = ds;
    })
    c.as_slice-deleters.ensures
    ∙ sym (after_numbered first c.args.k (s.name.number + c.args.k) one refl)
    ∙ ap (λ v. after v.first c.args.k) c.self.view_is

pub returns-else-self-eq0 : goal.returns-else-self-eq0
returns-else-self-eq0 c =
    let s = c.self.inside in
    let of : ℕ = s.last + 1 in
    let first : CellData = record { name = s.name; offset = s.offset; of = of; generation = s.generation; deleters = s.deleters } in
    let several : of ≢ 1 = λ one. c.if-self-eq0.false (omega (arith, one)) in
    c.new-else-self-eq0.ensures
    ∙ ap (λ (ds : List (NameData × ℕ)).
    record { name = s.name; offset = s.offset + c.args.k; of = of; generation = s.generation; deleters = ds })
    c.as_slice-deleters.ensures
    ∙ sym (after_placed first c.args.k (s.offset + c.args.k) several refl)
    ∙ ap (λ v. after v.first c.args.k) c.self.view_is
