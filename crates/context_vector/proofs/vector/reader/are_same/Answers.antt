use Rattle.std.proofs.Common.{◌≡◌, ◌≤◌, true, false, length, take, arith}
use lib.Pointwise.{pointwise}
use Rattle.context_vector.specs.Code.Readers.{left_of}
use Rattle.context_vector.proofs.Parts.{begins_with, same_apart, same_further}
use Rattle.context_vector.proofs.vector.reader.are_same.Goals as goal

pub loop-left-preserved : goal.loop-left-preserved
loop-left-preserved g c =
    let n = c.min-n.result in
    let one = c.front-one.new.self in
    let other = c.front-other.new.self in
    let short : n ≤ length c.front-one.result.now = omega (arith, c.split_at.ensures.back_len) in
    let short' : n ≤ length c.front-other.result.now = omega (arith, c.split_at-in-loop-left.ensures.back_len) in
    let mine = begins_with n one c.front-one.result.now c.front-one.ensures.front short in
    let theirs = begins_with n other c.front-other.result.now c.front-other.ensures.front short' in
    let firsts : pointwise g.T.PartialEq.eq (take n (left_of one)) (take n (left_of other)) ≡ true = cc in
    let rest = same_further g.T.PartialEq.eq n (left_of one) (left_of other) firsts in
    cc

pub returns-else-are_equal : goal.returns-else-are_equal
returns-else-are_equal g c =
    let n = c.min-n.result in
    let one = c.front-one.new.self in
    let other = c.front-other.new.self in
    let short : n ≤ length c.front-one.result.now = omega (arith, c.split_at.ensures.back_len) in
    let short' : n ≤ length c.front-other.result.now = omega (arith, c.split_at-in-loop-left.ensures.back_len) in
    let mine = begins_with n one c.front-one.result.now c.front-one.ensures.front short in
    let theirs = begins_with n other c.front-other.result.now c.front-other.ensures.front short' in
    let firsts : pointwise g.T.PartialEq.eq (take n (left_of one)) (take n (left_of other)) ≡ false = cc in
    let apart = same_apart g.T.PartialEq.eq n (left_of one) (left_of other) firsts in
    cc
