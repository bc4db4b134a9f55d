use Rattle.std.proofs.Common.{◌≡◌, ◌≢◌, ◌∷◌, Some, sym, ap, ◌∙◌, arith}
use Rattle.std.specs.Prelude.{slice_get}
use Rattle.context_vector.specs.Code.Readers.{left_of}
use Rattle.context_vector.proofs.Counting.{put_before, put_alone}
use Rattle.context_vector.proofs.vector.follows.pass_site.Goals as goal

pub returns-else-site : goal.returns-else-site
returns-else-site c k =
    let qs = left_of c.args.counts.now in let s = c.args.site in
    let first : slice_get qs 0 ≡ Some c.in-Some.had = sym c.first.ensures.first ∙ c.in-Some.is in
    let other : c.in-Some.had.0 ≢ s = omega arith in
    put_before qs c.in-Some.had s k c.requires first other ∙ ap (λ xs. (s, k) ∷ xs) (sym c.first.ensures.same)

pub returns-in_default : goal.returns-in_default
returns-in_default c k =
    let qs = left_of c.args.counts.now in let s = c.args.site in
    put_alone qs s k (sym c.first.ensures.first ∙ c.in_default.is) ∙ ap (λ xs. (s, k) ∷ xs) (sym c.first.ensures.same)
