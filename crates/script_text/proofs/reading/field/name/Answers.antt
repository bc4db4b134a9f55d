use Rattle.std.proofs.Common.{rules}
use Rattle.script_text.specs.Fields.{name_of}
use Rattle.script_text.proofs.FieldLaws.{named_new}
use Rattle.script_text.proofs.reading.field.name.Goals as goal

pub returns : goal.returns
unfolding name_of
returns c =
    let e = named_new c.in_ok-site.site c.in_ok-number.number c.new.result c.new.ensures.accepted c.new.ensures.site c.new.ensures.number
    c.in_ok-site.ensures.small in
    search (rules, e)
