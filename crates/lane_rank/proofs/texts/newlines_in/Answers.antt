use Rattle.std.proofs.Common.{◌≡◌, ◌+◌, ◌-◌, take, drop, ap, ◌∙◌, arith}
use Rattle.std.proofs.lemmas.Simd.{bitmask_splat, ones-mask_l, length-chunk}
use Rattle.std.specs.Int.RustNames.{count_ones}
use Rattle.std.specs.Prelude.{◌==◌}
use Rattle.lane_rank.specs.Texts.{newlines_of, is_newline}
use mir.Syntax.{w8}
use Rattle.lane_rank.proofs.texts.newlines_in.Goals as goal

pub returns : goal.returns
returns c =
    let lanes = take 32 (drop c.args.at c.args.bytes.now) in
    let wide : 32 ≡ c.args.at + 32 - c.args.at = omega arith in
    ap count_ones (bitmask_splat w8 ◌==◌ lanes 32 10 (length-chunk c.args.at 32 c.args.bytes.now c.requires) (omega arith))
    ∙ (ones-mask_l is_newline lanes ∙ ap (λ n. newlines_of (take n (drop c.args.at c.args.bytes.now))) wide)
