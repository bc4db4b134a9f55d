use Rattle.std.proofs.Common.{refl}
use Rattle.std.proofs.lemmas.Bool.{true≢false}
use Rattle.context_diff.specs.Code.Kept.{IsPlaceOf}
use Rattle.context_diff.proofs.Books.{seat_some}
use Rattle.std.proofs.Common.{subst}
use Rattle.context_diff.proofs.book.Book.place_of.Goals as goal

pub returns-in-Some-clause-none : goal.returns-in-Some-clause-none
returns-in-Some-clause-none c =
    let at = subst (IsPlaceOf c.args.self.now.ops c.args.m.now) c.in-Some.is c.seat.ensures in
    (λ e. absurd (true≢false e), λ unknown. absurd (seat_some c.args.self.now.ops c.args.m.now c.in-Some.place at unknown))

pub returns-in-Some-clause-place : goal.returns-in-Some-clause-place
returns-in-Some-clause-place c = subst (IsPlaceOf c.args.self.now.ops c.args.m.now) c.in-Some.is c.seat.ensures

pub returns-in-None-clause-none : goal.returns-in-None-clause-none
returns-in-None-clause-none c =
    let unknown = subst (IsPlaceOf c.args.self.now.ops c.args.m.now) c.in-None.is c.seat.ensures in
    (λ _. unknown, λ _. refl)
