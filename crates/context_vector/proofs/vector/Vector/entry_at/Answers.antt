use Rattle.std.proofs.Common.{◌≡◌, ℕ, ap, ◌∙◌, arith}
use Rattle.std.specs.Prelude.{slice_get}
use Rattle.context_vector.proofs.Reading.{first_left, read_more}
use Rattle.context_vector.proofs.vector.Vector.entry_at.Goals as goal

pub loop-passed-preserved : goal.loop-passed-preserved
loop-passed-preserved c = (
  read_more c.args.self.now.set.entries c.loop-passed.left c.next.new.self c.loop-passed.passed c.loop-passed.invariant.0
      c.next.ensures.rest,
  omega (arith, c.loop-passed-test.true),
)

pub returns : goal.returns
returns c =
    let entries = c.args.self.now.set.entries in
    let all : c.loop-passed.passed ≡ c.args.i = omega (arith, c.loop-passed-test.false, c.loop-passed.invariant.1) in
    c.next-2.ensures.first
    ∙ (ap (λ xs. slice_get xs 0) c.loop-passed.invariant.0
    ∙ (first_left entries c.loop-passed.passed ∙ ap (slice_get entries) all))
