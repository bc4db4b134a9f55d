use Rattle.std.proofs.Common.{◌≡◌, ◌∷◌, ◌++◌, [], length, sym, ap, ◌∙◌, subst, arith}
use Rattle.std.specs.Prelude.{IfSome}
use Rattle.ttf_form.specs.Cells.{bare_cells}
use Rattle.ttf_form.specs.Laws.Cells.{length-bare}
use Rattle.tombstone_text.specs.Code.Chunks.{bodies, texts_of}
use Rattle.tombstone_text.proofs.Bodies.{bodies_none}
use Rattle.tombstone_text.proofs.Runs.{shown_bare}
use Rattle.tombstone_text.proofs.Texts.{text_first}
use Rattle.tombstone_text.proofs.Weighing.{sum-low, weights_first}
use Rattle.tombstone_text.proofs.Measuring.{weight_of-le}
use Rattle.tombstone_text.specs.Chunks.{flat}
use Rattle.tombstone_text.specs.Code.Weights.{AreWeights, weighed, column_of}
use Rattle.tombstone_text.proofs.chunks.Chunks.put_first.Goals as goal

pub invariant_of-self : goal.invariant_of-self
invariant_of-self c =
    let a = c.args.ins.now in
    let none : bodies c.self.inside.list.items ≡ [] = ap (λ v. v.chunks) c.self.view_is ∙ c.requires.empty in
    let one : c.push_reserved.new.self.items ≡ c.put_all.new.self ∷ [] =
    c.push_reserved.ensures.items ∙ ap (λ cs. cs ++ c.put_all.new.self ∷ []) (bodies_none c.self.inside.list.items none) in
    let empty =
    subst (λ f. IfSome f (λ d. (d.cells ≡ []) × (d.text ≡ []))) (sym c.take.ensures.value ∙ c.in-Some.is)
    c.self.invariant.0.fresh_is in
    let text =
    text_first _ _ _ _ a.len (bare_cells a) c.in-Some.chunk.cells c.put_all.new.self.cells c.self.invariant.0 none empty.0
    c.put_all.ensures.cells (length-bare a) (shown_bare a.name a.len 0 a.len) a.some in
    let weights =
    subst (λ ds. AreWeights (column_of c.add.new.self) ds) (sym one)
    (weights_first (column_of c.self.inside.weights) (column_of c.add.new.self) c.self.inside.list.items a c.in-Some.chunk
    c.put_all.new.self
    c.args.text.now (weighed c.weigh.result) c.self.invariant.2 (bodies_none c.self.inside.list.items none) empty.0 empty.1
    c.requires.text c.put_all.ensures.cells c.put_all.ensures.text c.add.ensures.parts c.weigh.ensures) in (
      rw (ap (λ ds. bodies ds) one, c.insert.ensures.parts, c.insert-in-Some.ensures.parts, c.take.ensures.after) text,
      rw (ap (λ ds. texts_of ds) one, c.insert.ensures.parts) (text.lens_are ∙ ap (λ k. k ∷ []) (sym c.put_all.ensures.long)),
      weights,
    )

pub weigh-requires : goal.weigh-requires
weigh-requires c = omega (arith, c.requires.text, c.args.ins.now.most)

pub add-requires-clause-low : goal.add-requires-clause-low
add-requires-clause-low c m =
    let none = ap (λ v. length (flat v.chunks)) c.self.view_is ∙ ap (λ ds. length (flat ds)) c.requires.empty in
    omega (
      arith,
      none,
      c.requires.text,
      c.args.ins.now.most,
      c.weigh.ensures m,
      weight_of-le m c.args.text.now,
      sum-low (column_of c.self.inside.weights) c.self.inside.list.items c.self.invariant.2 m,
    )
