use Rattle.std.proofs.Common.{◌≡◌, ℕ, ◌+◌, List, [], ◌∷◌, ◌++◌, sym, ap, subst, ◌∙◌, append-nil}
use Rattle.op_name.specs.NameData.{NameData}
use Rattle.context_vector.specs.Contexts.{ContextData}
use Rattle.context_vector.specs.Vectors.{NamesBelow}
use Rattle.wire_codec.specs.Runs.{further, names_from}
use Rattle.wire_codec.proofs.RunNames.{further_none, names_none}
use Rattle.wire_codec.proofs.RunPushes.{pushed_more, below_more}
use Rattle.wire_codec.proofs.runs.push_run.Goals as goal

pub loop-i-init : goal.loop-i-init
loop-i-init c =
    let es = c.args.vector.now.set.entries in
    let none : es ≡ es ++ names_from c.args.run.now.first 0 c.args.run.now.generation =
    sym (ap (λ (ds : List (NameData × ℕ)). es ++ ds) (names_none c.args.run.now.first c.args.run.now.generation) ∙ append-nil es) in (
      ap (λ (ds : List (NameData × ℕ)). record c.args.vector.now.set { entries = ds }) none,
      subst (NamesBelow es) (sym (further_none c.args.run.now.first)) c.requires.below,
    )

pub loop-i-preserved : goal.loop-i-preserved
loop-i-preserved c =
    let old : ContextData = c.args.vector.now.set in
    let now : ContextData = c.loop-i.vector.set in
    let first : NameData = c.args.run.now.first in
    let generation : ℕ = c.args.run.now.generation in
    let i : ℕ = c.loop-i.i in
    let pair : NameData × ℕ = (c.name.result, c.generation.result) in
    let last : NameData × ℕ = (further first i, generation) in
    let is : pair ≡ last =
    ap (λ (n : NameData). (n, c.generation.result)) c.name.ensures ∙ ap (λ (g : ℕ). (further first i, g)) c.generation.ensures in
    let pushed : c.push_entry.new.self.set ≡ record now { entries = now.entries ++ last ∷ [] } =
    c.in_ok-push_entry.ensures.pushed ∙ ap (λ (p : NameData × ℕ). record now { entries = now.entries ++ p ∷ [] }) is in (
      pushed
          ∙ (ap (λ (s : ContextData). record s { entries = s.entries ++ last ∷ [] }) c.loop-i.invariant.0
          ∙ ap (λ (es : List (NameData × ℕ)). record old { entries = es }) (pushed_more old.entries first i generation)),
      subst (λ (s : ContextData). NamesBelow s.entries (further first (i + 1))) (sym pushed)
          (below_more now.entries first i generation c.loop-i.invariant.1),
    )
