use Rattle.std.proofs.Common.{◌≡◌, ℕ, ◌+◌, ◌-◌, ◌≤◌, [], refl, ap, ◌∙◌, arith}
use Rattle.op_name.specs.NameData.{NameData}
use Rattle.ttf_form.specs.Cells.{CellData}
use Rattle.tombstone_text.specs.Code.Spans.{SpanData, after}
use Rattle.tombstone_text.proofs.Following.{cut_numbered, cut_placed}
use Rattle.tombstone_text.proofs.span.Span.cut.Goals as goal
use Rattle.tombstone_text.proofs.span.Span.cut.Goals.{then-self-eq0, else-self-eq0}

pub returns-clause-upper : goal.returns-clause-upper
returns-clause-upper c =
    let s = c.self.inside in
    let of : ℕ = s.last + 1 in
    let first : CellData = record { name = s.name; offset = s.offset; of = of; generation = s.generation; deleters = s.deleters } in
    let count : s.more + 1 ≡ c.args.self.now.count = ap (λ v. v.count) c.self.view_is in
    let more : 1 ≤ s.more = omega (arith, count, c.requires.some, c.requires.less) in
    let bare : s.deleters ≡ [] = c.self.invariant.bare more in
    let left : s.more - c.args.keep + 1 ≡ s.more + 1 - c.args.keep = omega (arith, count, c.requires.less) in
    let seen = ap (λ (v : SpanData). record { first = after v.first c.args.keep; count = v.count - c.args.keep }) c.self.view_is in
    elim c.if-self-eq0.branch [
      | then-self-eq0 w ↦ w.result-is ∙ w.plain.ensures
          ∙ ap (λ (n : NameData). record {
            first =
                record { name = n; offset = s.offset; of = of; generation = s.generation; deleters = [] };
            count = s.more - c.args.keep + 1;
          })
          w.name_behind-name.ensures
          ∙ cut_numbered first c.args.keep (s.name.number + c.args.keep) (s.more - c.args.keep + 1) (s.more + 1)
          (let e = w.if-self-eq0.true in omega (arith, e)) bare refl left
          ∙ seen
      | else-self-eq0 w ↦ w.result-is ∙ w.plain-else-self-eq0.ensures
          ∙ cut_placed first c.args.keep (s.offset + c.args.keep) (s.more - c.args.keep + 1) (s.more + 1)
          (λ one. w.if-self-eq0.false (omega (arith, one))) bare refl left
          ∙ seen
    ]
