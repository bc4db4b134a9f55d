use Rattle.std.proofs.Common.{subst}
use Rattle.context_diff.specs.Code.Kept.{IsPlaceOf}
use Rattle.context_diff.proofs.Books.{FindAnswer, find_none, find_some}
use Rattle.context_diff.proofs.book.Book.find.Goals as goal

found : (c : goal.After-op) → FindAnswer c.args.self.now.ops c.args.m.now c.op.result
found c =
    find_some c.args.self.now.ops c.args.m.now c.in-Some.place c.op.result
    (subst (IsPlaceOf c.args.self.now.ops c.args.m.now) c.in-Some.is c.seat.ensures) c.op.ensures

pub returns-in-Some-clause-none : goal.returns-in-Some-clause-none
returns-in-Some-clause-none c = (found c).none

pub returns-in-Some-clause-there : goal.returns-in-Some-clause-there
returns-in-Some-clause-there c = (found c).there

pub returns-in-Some-clause-is : goal.returns-in-Some-clause-is
returns-in-Some-clause-is c = (found c).is

pub returns-in-None-clause-none : goal.returns-in-None-clause-none
returns-in-None-clause-none c =
    (find_none c.args.self.now.ops c.args.m.now (subst (IsPlaceOf c.args.self.now.ops c.args.m.now) c.in-None.is c.seat.ensures)).none
