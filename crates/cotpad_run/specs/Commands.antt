-- Commands: what the program is asked to do.
use Rattle.std.specs.Prelude.{ℕ}
use Rattle.op_name.specs.declared.member.Member.{Member}
use Rattle.context_vector.specs.Contexts.{ContextData}
use Rattle.script_text.specs.Sets.{set_or_empty}
use Rattle.log_replies.specs.Editing.{EditData, edit_data}
use Rattle.cotpad_run.specs.declared.command.Command.{Command}
use Rattle.cotpad_run.specs.declared.command.Command.TheVariants as command

-- a script is replayed; the text of a log is shown; a log is loaded as a site and edited there, or written anew in version 2; the
-- operations of a log are listed, or hashed with its text; a session is generated; the form of an operation of a log is derived step by
-- step; a place of the text of a log is told as a line and a column, or these as the place;
-- the text of a log at a set of members is shown, or its text after each operation;
-- a site that a log gives exchanges with a peer that comes to a port, or that waits at one; the two sites of a generated session
-- exchange with each other; the commands are listed, or the version is told, each for one of two words
pub data CommandData : Type 0 where
  Replay : CommandData
  Show : CommandData
  Edit : ℕ → EditData → CommandData
  Upgrade : CommandData
  History : CommandData
  Digest : CommandData
  Gen : ℕ → ℕ → ℕ → CommandData
  Explain : Member → CommandData
  Where : ℕ → CommandData
  Find : ℕ → ℕ → CommandData
  At : ContextData → CommandData
  Playback : CommandData
  Serve : ℕ → CommandData
  Join : ℕ → CommandData
  Loop : ℕ → CommandData
  Help : CommandData
  DashedHelp : CommandData
  Version : CommandData
  DashedVersion : CommandData

-- what contracts see of a command
abbrev pub command_data : Command → CommandData
command_data command.Replay = Replay
command_data command.Show = Show
command_data (command.Edit site e) = Edit site (edit_data e)
command_data command.Upgrade = Upgrade
command_data command.History = History
command_data command.Digest = Digest
command_data (command.Gen start events window) = Gen start events window
command_data (command.Explain m) = Explain m
command_data (command.Where place) = Where place
command_data (command.Find line column) = Find line column
command_data (command.At counts groups) = At (set_or_empty counts.now groups.now)
command_data command.Playback = Playback
command_data (command.Serve port) = Serve port
command_data (command.Join port) = Join port
command_data (command.Loop start) = Loop start
command_data command.Help = Help
command_data command.DashedHelp = DashedHelp
command_data command.Version = Version
command_data command.DashedVersion = DashedVersion
