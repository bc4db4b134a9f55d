use Rattle.std.specs.Prelude.{length}
use Rattle.std.proofs.Common.{refl, sym, ◌∙◌}
use Rattle.transform_rec.proofs.Backwards.{walk_first, walk_own}
use Rattle.transform_rec.proofs.pending.go_back.Goals as goal

pub loop-i-init : goal.loop-i-init
loop-i-init g c =
    walk_first c.args.book.now.ops c.known.ensures.valid c.args.at.now c.args.rest.now.items c.len-i.result c.requires.added
    c.requires.empty c.len-i.ensures

pub returns-then-is_at-clause-base : goal.returns-then-is_at-clause-base
returns-then-is_at-clause-base g c _ =
    walk_own c.args.book.now.ops c.known.ensures.valid c.args.at.now c.args.at.now c.args.own.now.set c.requires.own
    (sym c.is_at.ensures ∙ c.if-is_at.true)

pub returns-then-is_at-clause-way : goal.returns-then-is_at-clause-way
returns-then-is_at-clause-way g c =
    (walk_first c.args.book.now.ops c.known.ensures.valid c.args.at.now c.args.rest.now.items (length c.args.book.now.ops) c.requires.added
    c.requires.empty refl).back

pub returns-then-is_at-2-clause-base : goal.returns-then-is_at-2-clause-base
returns-then-is_at-2-clause-base g c _ =
    walk_own c.args.book.now.ops c.known.ensures.valid c.args.at.now c.take_out.new.at c.args.own.now.set c.requires.own
    (sym c.is_at-then-branch.ensures ∙ c.if-is_at-2.true)
