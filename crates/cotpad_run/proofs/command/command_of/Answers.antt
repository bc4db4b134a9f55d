use Rattle.std.proofs.Common.{◌≡◌, map, option_map, string_bytes, rules}
use Rattle.cotpad_run.specs.Commands.{command_data}
use Rattle.cotpad_run.specs.Code.Reading.{command_in}
use Rattle.cotpad_run.proofs.Spelling.{only}
use Rattle.cotpad_run.proofs.command.command_of.Goals as goal

pub returns-clause-only : goal.returns-clause-only
unfolding command_in
returns-clause-only c = λ command spelled.
    let read : option_map command_data c.command_row.result ≡ command_in (map string_bytes c.args.words.now) = search rules in
    only c.args.words.now c.command_row.result read command spelled
