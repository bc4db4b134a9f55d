use Rattle.std.proofs.Common.{◌/◌, ◌<◌, length, set, ap, arith}
use Rattle.std.specs.List.{sum}
use Rattle.tombstone_text.proofs.Blocks as block
use Rattle.tombstone_text.specs.declared.sums.TheConstants.{BLOCK}
use Rattle.tombstone_text.proofs.sums.Sums.set.Goals as goal

pub overflow_sub-block : goal.overflow_sub-block
overflow_sub-block c =
    let n = ap (λ v. length v.parts) c.self.view_is in
    let lt : c.args.i < length c.self.inside.parts.items = omega arith in
    let changed =
    block.changed _ _ _ (c.args.i / BLOCK) c.args.part _ _ c.self.invariant.1 lt (omega arith) (omega arith) c.index-old.ensures
    c.index-block.ensures in
    changed.least

pub overflow_add-block : goal.overflow_add-block
overflow_add-block c =
    let n = ap (λ v. length v.parts) c.self.view_is in
    let lt : c.args.i < length c.self.inside.parts.items = omega arith in
    let changed =
    block.changed _ _ _ (c.args.i / BLOCK) c.args.part _ _ c.self.invariant.1 lt (omega arith) (omega arith) c.index-old.ensures
    c.index-block.ensures in
    let low = ap (λ v. sum (set v.parts c.args.i c.args.part)) c.self.view_is in
    let bound = c.requires.low in
    record { fits = omega (arith, changed.most) }

pub invariant_of-self : goal.invariant_of-self
invariant_of-self c =
    let n = ap (λ v. length v.parts) c.self.view_is in
    let lt : c.args.i < length c.self.inside.parts.items = omega arith in
    let changed =
    block.changed _ _ _ (c.args.i / BLOCK) c.args.part _ _ c.self.invariant.1 lt (omega arith) (omega arith) c.index-old.ensures
    c.index-block.ensures in
    let low = ap (λ v. sum (set v.parts c.args.i c.args.part)) c.self.view_is in
    let bound = c.requires.low in
    let total = c.self.invariant.0.total in
    (record { total = omega (arith, changed.some, changed.total); low = omega arith }, changed.blocks)
