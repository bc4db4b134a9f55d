use Rattle.std.proofs.Common.{arith}
use Rattle.cotpad_c.proofs.Spelled.{FollowsNames, next_name}
use Rattle.cotpad_c.specs.Pasts.{entry_told}
use Rattle.cotpad_c.proofs.sets.with_undone.Goals as goal

-- the next name follows those that were pushed
follows : (c : goal.After-row_known-in-Some-1) → FollowsNames c.loop-member.set.set.entries (entry_told c.in-Some.member.now)
follows c =
    next_name c.args.undone.now c.loop-member.set.set.entries c.loop-member.left.now c.in-Some.others.now c.in-Some.member.now
    c.requires.names c.loop-member.invariant.0 c.in-Some.ensures.cases.0

pub overflow_cast-name : goal.overflow_cast-name
overflow_cast-name c =
    let next =
    next_name c.args.undone.now c.loop-member.set.set.entries c.loop-member.left.now c.in-Some.others.now c.in-Some.member.now
    c.requires.names c.loop-member.invariant.0 c.in-Some.ensures.cases.0 in
    let site = next.name.0 in omega (arith, site)

pub overflow_cast-member : goal.overflow_cast-member
overflow_cast-member c = let greatest = (follows c).greatest in omega (arith, greatest)

pub invariant_of-name : goal.invariant_of-name
invariant_of-name c = (follows c).name

pub push_entry-requires-clause-last : goal.push_entry-requires-clause-last
push_entry-requires-clause-last c = (follows c).last

pub push_entry-requires-clause-least : goal.push_entry-requires-clause-least
push_entry-requires-clause-least c = (follows c).least
