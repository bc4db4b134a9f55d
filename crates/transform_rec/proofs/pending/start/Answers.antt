use Rattle.transform_rec.proofs.Backwards.{found_way, base_way, back_added}
use Rattle.std.proofs.Common.{refl}
use Rattle.transform_rec.proofs.pending.start.Goals as goal

pub returns-in-Some-clause-way : goal.returns-in-Some-clause-way
returns-in-Some-clause-way g c =
    found_way g.F.Include.over c.args.book.now.ops (g.B.Bases.base_form c.args.bases.now) c.args.cache.now.entries c.go_back.new.at
    c.args.at.member _ _ c.in-Some.form c.requires.known (rw c.in-Some.is at c.in_ok-form.ensures.found) c.go_back.ensures.member
    c.requires.added.lacks c.in_ok-form.ensures.way

pub base_of-form-requires-clause-added : goal.base_of-form-requires-clause-added
base_of-form-requires-clause-added g c =
    back_added c.args.book.now.ops c.known.ensures.valid c.go_back.new.at c.args.at.member _ _ c.go_back.ensures.member
    c.in_ok-form.ensures.way

pub returns-clause-way : goal.returns-clause-way
returns-clause-way g c =
    base_way g.F.Include.over c.args.book.now.ops (g.B.Bases.base_form c.args.bases.now) c.go_back.new.at c.args.at.member _ _
    c.base_of-form.result c.base_of-form.ensures ((rw c.in-None.is at c.in_ok-form.ensures.base) refl) c.go_back.ensures.member
    c.requires.added.lacks c.in_ok-form.ensures.way
