use Rattle.std.proofs.Common.{◌∙◌, ap, sym, refl}
use Rattle.op_name.specs.declared.member.Member.TheVariants.{Original}
use Rattle.context_diff.specs.Ops.{data_of}
use Rattle.log_replies.specs.Explaining.{letters_by}
use Rattle.log_replies.proofs.Traces.{letters_original, letters_unknown, letters_group}
use Rattle.log_replies.proofs.explain.letters_by.Goals as goal

pub returns-in-Some : goal.returns-in-Some
returns-in-Some c =
    let h = c.args.book.now.ops in
    c.letters_of.ensures
    ∙ sym (letters_original h c.in-Original.name (data_of c.in-Some.op.now) c.known.ensures.valid c.in-Some.ensures.there
    c.in-Some.ensures.named)
    ∙ sym (ap (letters_by h) c.in-Original.is)

pub returns-in-None : goal.returns-in-None
returns-in-None c =
    let h = c.args.book.now.ops in
    sym (letters_unknown h (Original c.in-Original.name) (c.in-None.ensures.none.0 refl)) ∙ sym (ap (letters_by h) c.in-Original.is)

pub returns-in-Group : goal.returns-in-Group
returns-in-Group c =
    let h = c.args.book.now.ops in
    sym (letters_group h c.in-Group.field-0 c.in-Group.field-1) ∙ sym (ap (letters_by h) c.in-Group.is)
