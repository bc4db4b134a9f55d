use Rattle.std.proofs.Common.{◌≡◌, ℕ, ◌+◌, ◌<◌, List, [], ◌∷◌, ◌++◌, length, get_or, take, add-one, sym, ◌∙◌, arith}
use Rattle.std.proofs.Math.Seq.{take-suc}
use Rattle.context_vector.specs.Equality.{counts_decide}
use Rattle.context_vector.proofs.vector.words.same_len.Goals as goal

one_more : (xs ys : List (ℕ × ℕ)) (n : ℕ) (x y : ℕ × ℕ) → n < length xs → n < length ys → take n xs ≡ take n ys →
    x ≡ get_or xs n x → y ≡ get_or ys n y → x ≡ y → take (n + 1) xs ≡ take (n + 1) ys
one_more xs ys n x y within within' same here there one =
    rw add-one
    (take-suc xs n x within
    ∙ ((λ i. same i ++ (sym here ∙ (one ∙ there)) i ∷ [])
    ∙ sym (take-suc ys n y within')))

pub loop-n-preserved : goal.loop-n-preserved
loop-n-preserved c =
    let one : c.index-one-n.result ≡ c.index-other-n.result =
    (counts_decide c.index-one-n.result c.index-other-n.result).0 (sym c.eq.ensures ∙ c.if-eq.true) in (
      omega (arith, c.loop-n-test.true),
      one_more c.args.one.now c.args.other.now c.loop-n.n c.index-one-n.result c.index-other-n.result
          (omega (arith, c.min-most.ensures, c.loop-n-test.true)) (omega (arith, c.min-most.ensures, c.loop-n-test.true))
          c.loop-n.invariant.1 c.index-one-n.is c.index-other-n.is one,
    )
