use Rattle.std.proofs.Common.{◌≡◌, ◌++◌, [], take, refl, sym, ap, ◌∙◌}
use Rattle.context_vector.specs.Code.Readers.{left_of}
use Rattle.context_vector.proofs.Parts.{goes_on, passed_on}
use Rattle.context_vector.proofs.vector.words.pass_same.Goals as goal

pub loop-n-init : goal.loop-n-init
loop-n-init c = ([], refl, refl)

pub loop-n-preserved : goal.loop-n-preserved
loop-n-preserved c =
    let n = c.same_len-n.result in
    let p = c.front-one.result.now in
    let q = c.front-other.result.now in
    let mine : left_of c.loop-n.mine ≡ take n p ++ left_of c.pass.new.self =
    sym c.front-one.ensures.same
    ∙ (goes_on n c.front-one.new.self p c.front-one.ensures.front c.same_len-n.ensures.mine
    ∙ ap (λ xs. take n p ++ xs) (sym c.pass.ensures)) in
    let theirs : left_of c.loop-n.theirs ≡ take n p ++ left_of c.pass-in-loop-n.new.self =
    sym c.front-other.ensures.same
    ∙ (goes_on n c.front-other.new.self q c.front-other.ensures.front c.same_len-n.ensures.theirs
    ∙ (λ i. sym c.same_len-n.ensures.same i ++ sym c.pass-in-loop-n.ensures i)) in
    let after = c.pass-in-loop-n.new.self in
    let passed = c.loop-n.invariant in (
      passed.0 ++ take n p,
      passed_on passed.0 (left_of c.args.mine.now) (left_of c.loop-n.mine) (take n p) (left_of c.pass.new.self) passed.1 mine,
      passed_on passed.0 (left_of c.args.theirs.now) (left_of c.loop-n.theirs) (take n p) (left_of after) passed.2 theirs,
    )

pub returns-then-n-eq0 : goal.returns-then-n-eq0
returns-then-n-eq0 c =
    let passed = c.loop-n.invariant in (
      passed.0,
      passed.1 ∙ ap (λ xs. passed.0 ++ xs) (sym c.front-one.ensures.same),
      passed.2 ∙ ap (λ xs. passed.0 ++ xs) (sym c.front-other.ensures.same),
    )
