use Rattle.std.proofs.Common.{refl, ◌∙◌, sym, ap}
use Rattle.std.specs.Prelude.{not}
use Rattle.context_diff.specs.Ops.{data_of}
use Rattle.cot_site.proofs.Findings.{none_other, one_other, alone_in_history}
use Rattle.cot_site.proofs.judging.has_other.Goals as goal

pub returns-in-Some : goal.returns-in-Some
returns-in-Some c =
    let h = c.args.book.now.ops in
    let k = data_of c.in-Some.known.now in
    ap not c.is_same.ensures
    ∙ one_other h (data_of c.args.op.now) k c.args.name.now c.in-Some.ensures.there
    (alone_in_history h c.known.ensures.valid k c.in-Some.ensures.there) c.requires c.in-Some.ensures.named

pub returns-in-None : goal.returns-in-None
returns-in-None c = sym (none_other c.args.book.now.ops (data_of c.args.op.now) c.args.name.now c.requires (c.in-None.ensures.none.0 refl))
