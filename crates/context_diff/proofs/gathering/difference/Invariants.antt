use Rattle.std.proofs.Common.{◌≡◌, ◌++◌, ◌+◌, ◌-◌, ◌≤◌, length, take, vec_len, vec_capacity}
use Rattle.context_diff.specs.Histories.{members_in}
use Rattle.context_diff.specs.Code.Places.{members_at}
use Rattle.context_diff.proofs.gathering.difference.Given as goal

-- the members at the places so far are appended, and there is room for those at the others
abbrev pub invariant-loop-place : goal.invariant-loop-place
invariant-loop-place l =
    (l.out.items ≡ l.initial.out.items ++ members_at (members_in l.book.ops) (take l.place-index l.place-items))
    × (vec_len l.out + (length l.place-items - l.place-index) ≤ vec_capacity l.out)
