use Rattle.std.proofs.Common.{◌≡◌, drop}
use Rattle.op_name.specs.declared.member.Member.TheVariants.{Original}
use Rattle.context_vector.specs.Contexts.{has}
use Rattle.fixed_replay.proofs.Standing.{stands_among}
use Rattle.fixed_replay.proofs.plain.shown.hits.Given as goal

-- so many more of the cells that are left are to be passed
abbrev pub invariant-loop-other : goal.invariant-loop-other
invariant-loop-other l =
    stands_among (λ n. has l.context.set (Original n)) l.cell l.place l.cells
    ≡ stands_among (λ n. has l.context.set (Original n)) l.cell l.before (drop l.other-index l.cells)
