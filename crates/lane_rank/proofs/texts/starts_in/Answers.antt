use Rattle.std.proofs.Common.{◌≡◌, ◌+◌, ◌-◌, take, drop, ap, ◌∙◌, arith}
use Rattle.std.proofs.lemmas.Simd.{bitmask_splat, ones-mask_l, length-chunk}
use Rattle.std.specs.Int.RustNames.{count_ones}
use Rattle.std.specs.Prelude.{nat_lt}
use Rattle.lane_rank.specs.Texts.{starts_of}
use Rattle.lane_rank.proofs.Starts.{bitmask_splat_left, starts_parts}
use mir.Syntax.{w8}
use Rattle.lane_rank.proofs.texts.starts_in.Goals as goal

pub returns : goal.returns
returns c =
    let lanes = take 32 (drop c.args.at c.args.bytes.now) in
    let size = length-chunk c.args.at 32 c.args.bytes.now c.requires in
    let wide : 32 ≡ c.args.at + 32 - c.args.at = omega arith in
    let below = ap count_ones (bitmask_splat w8 nat_lt lanes 32 0x80 size (omega arith)) ∙ ones-mask_l (λ b. nat_lt b 0x80) lanes in
    let above = ap count_ones (bitmask_splat_left w8 nat_lt lanes 32 0xBF size (omega arith)) ∙ ones-mask_l (nat_lt 0xBF) lanes in
    (λ i. below i + above i) ∙ (starts_parts lanes ∙ ap (λ n. starts_of (take n (drop c.args.at c.args.bytes.now))) wide)
