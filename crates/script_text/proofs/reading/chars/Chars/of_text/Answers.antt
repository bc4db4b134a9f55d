use Rattle.std.proofs.Common.{rules}
use Rattle.std.proofs.lemmas.Str.{chars_from_encodes}
use Rattle.script_text.proofs.reading.chars.Chars.of_text.Goals as goal

pub returns : goal.returns
returns c = search (rules, chars_from_encodes)
