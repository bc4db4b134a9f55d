use Rattle.script_text.proofs.FieldLaws.{text_some, text_none}
use Rattle.std.proofs.Common.{sym, ◌∙◌}
use Rattle.script_text.proofs.reading.field.characters.Goals as goal

pub returns-then-is_empty : goal.returns-then-is_empty
returns-then-is_empty c = text_none c.args.field.now (sym c.is_empty.ensures ∙ c.if-is_empty.true)

pub returns-else-is_empty : goal.returns-else-is_empty
returns-else-is_empty c = text_some c.args.field.now c.utf8.field (sym c.is_empty.ensures ∙ c.if-is_empty.false)
