-- The limits, whose names definitions and clauses cite, as numbers.
use Rattle.std.specs.Prelude.{◌≡◌, ◌+◌}
use Rattle.outside_io.specs.declared.reading.TheConstants.{MAX_INPUT}
use Rattle.op_name.specs.declared.member.TheConstants.{GENERATIONS}
use Rattle.op_name.specs.declared.name.TheConstants.{SITES, NUMBERS}
use Rattle.op_name.specs.declared.limits.TheConstants.{LETTERS}
use Rattle.context_diff.specs.declared.op.TheConstants.{PLACES, UNDO_ENTRIES}
use Rattle.wire_codec.specs.declared.rules.TheConstants.{LONGEST_BODY, LONGEST_BODY_TWO}
use Rattle.script_text.specs.declared.reading.parse.TheConstants.{LONGEST}
use Rattle.script_text.specs.declared.reading.stream.TheConstants.{MAX_SCRIPT}
use Rattle.session_log.specs.declared.reading.TheConstants.{MAX_LOG}
use Rattle.peer_exchange.specs.declared.messages.TheConstants.{MAX_MESSAGE}
use Rattle.session_replay.specs.declared.generator.TheConstants.{MAX_EVENTS, MAX_WINDOW}
use Rattle.cotpad_run.specs.declared.command.TheConstants.{MAX_PORT}
use Rattle.cotpad_run.specs.declared.generator.TheConstants.{GENERATED_SITES}
use Rattle.cotpad_run.specs.declared.looped.TheConstants.{LOOP_EVENTS, LOOP_SITES}

-- the greatest port; of a session that `gen` generates the most events, the widest window and the sites, and of that of `loop` the sites
-- and the events
pub record AreLimitsOfCommands : Type 0 where
  pub port : MAX_PORT ≡ 65535
  pub events : MAX_EVENTS ≡ 10000
  pub window : MAX_WINDOW ≡ 64
  pub generated_sites : GENERATED_SITES ≡ 4
  pub loop_sites : LOOP_SITES ≡ 2
  pub loop_events : LOOP_EVENTS ≡ 16

-- how many sites there are; how many inserts and deletes one of them makes, how often one of these is undone and redone, and of how many
-- names a context tells undos; the most characters of an insert; and the greatest place that an operation names
pub record AreLimitsOfOperations : Type 0 where
  pub sites : SITES ≡ 1024
  pub numbers : NUMBERS ≡ 1000000
  pub generations : GENERATIONS ≡ 65535
  pub undone : UNDO_ENTRIES ≡ 16384
  pub letters : LETTERS ≡ 256
  pub places : PLACES ≡ 4294967295

-- the most bytes of a line, of a frame of either version, which is a length of four bytes and a body, of an input, a script and a log,
-- and of a message
pub record AreLimitsOfBytes : Type 0 where
  pub line : LONGEST ≡ 262144
  pub frame_of_one : 4 + LONGEST_BODY ≡ 116051
  pub frame_of_two : 4 + LONGEST_BODY_TWO ≡ 171029
  pub input : MAX_INPUT ≡ 67108864
  pub script : MAX_SCRIPT ≡ 67108864
  pub log : MAX_LOG ≡ 67108864
  pub message : MAX_MESSAGE ≡ 67108864

-- all of them
pub record AreTheLimits : Type 0 where
  pub commands : AreLimitsOfCommands
  pub operations : AreLimitsOfOperations
  pub bytes : AreLimitsOfBytes
