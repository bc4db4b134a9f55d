use Rattle.std.proofs.Common.{◌≡◌, ◌+◌, Bool, true, false, ◌||◌}
use Rattle.op_name.specs.declared.member.Member.{Member}
use Rattle.context_diff.specs.Histories.{members_in}
use Rattle.context_diff.specs.Code.Places.{ArePlacesOf, is_group_between}
use Rattle.context_diff.proofs.gathering.add_generations.Given as goal

-- the places so far are those of the test, and of the members up to this step
abbrev pub invariant-loop-step : goal.invariant-loop-step
invariant-loop-step l =
    (t : Member → Bool) → ((y : Member) → is_group_between l.name l.low l.high y ≡ true → t y ≡ false)
    → ArePlacesOf (members_in l.book.ops) t l.initial.places.items
    → ArePlacesOf (members_in l.book.ops) (λ y. t y || is_group_between l.name l.low (l.low + l.step) y) l.places.items
