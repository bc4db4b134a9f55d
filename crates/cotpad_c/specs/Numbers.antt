-- The numbers of `include/cotpad.h`, whose names definitions and clauses cite, and the most bytes of a frame.
use Rattle.std.specs.Prelude.{◌≡◌, ◌+◌}
use Rattle.op_name.specs.declared.member.TheConstants.{GENERATIONS}
use Rattle.op_name.specs.declared.name.TheConstants.{SITES, NUMBERS}
use Rattle.op_name.specs.declared.limits.TheConstants.{LETTERS}
use Rattle.context_diff.specs.declared.op.TheConstants.{UNDO_ENTRIES}
use Rattle.wire_codec.specs.declared.rules.TheConstants.{LONGEST_BODY_TWO}
use Rattle.session_log.specs.declared.reading.TheConstants.{MAX_LOG}
use Rattle.peer_exchange.specs.declared.messages.TheConstants.{MAX_MESSAGE}
use Rattle.cotpad_c.specs.declared.exports.TheConstants.{VERSION}
use Rattle.cotpad_c.specs.declared.kinds.TheConstants as kind
use Rattle.cotpad_c.specs.declared.status.TheConstants as status

-- what a call answers
pub record AreStatuses : Type 0 where
  pub ok : status.OK ≡ 0
  pub no_memory : status.NO_MEMORY ≡ 1
  pub site_out : status.SITE_OUT ≡ 2
  pub place_out : status.PLACE_OUT ≡ 3
  pub no_character : status.NO_CHARACTER ≡ 4
  pub unknown : status.UNKNOWN ≡ 5
  pub not_in_force : status.NOT_IN_FORCE ≡ 6
  pub in_force : status.IN_FORCE ≡ 7
  pub generation_full : status.GENERATION_FULL ≡ 8
  pub number_full : status.NUMBER_FULL ≡ 9
  pub context_full : status.CONTEXT_FULL ≡ 10
  pub no_name : status.NO_NAME ≡ 11
  pub none : status.NONE ≡ 12
  pub too_short : status.TOO_SHORT ≡ 13
  pub too_long : status.TOO_LONG ≡ 14
  pub no_head : status.NO_HEAD ≡ 15
  pub cut : status.CUT ≡ 16
  pub malformed : status.MALFORMED ≡ 17
  pub extra : status.EXTRA ≡ 18
  pub refused : status.REFUSED ≡ 19
  pub unsettled : status.UNSETTLED ≡ 20
  pub no_set : status.NO_SET ≡ 21
  pub stray : status.STRAY ≡ 22
  pub not_closed : status.NOT_CLOSED ≡ 23

-- what an operation is
pub record AreOperationKinds : Type 0 where
  pub insert : kind.INSERT ≡ 1
  pub delete : kind.DELETE ≡ 2
  pub undo : kind.UNDO ≡ 3
  pub redo : kind.REDO ≡ 4

-- where an anchor is, and what is told in place of its place where it has none
pub record AreAnchorKinds : Type 0 where
  pub start : kind.START ≡ 1
  pub end : kind.END ≡ 2
  pub after : kind.AFTER ≡ 3
  pub before : kind.BEFORE ≡ 4
  pub no_place : kind.NO_PLACE ≡ 4294967295

-- in what offsets are counted
pub record AreMeasures : Type 0 where
  pub bytes : kind.BYTES ≡ 1
  pub units : kind.UNITS ≡ 2

-- what became of a delivery or a release
pub record AreVerdictKinds : Type 0 where
  pub integrated : kind.INTEGRATED ≡ 1
  pub waits : kind.WAITS ≡ 2
  pub repeat : kind.REPEAT ≡ 3
  pub forged : kind.FORGED ≡ 4
  pub not_closed : kind.NOT_CLOSED ≡ 5
  pub place_out : kind.PLACE_OUT ≡ 6
  pub incomplete : kind.INCOMPLETE ≡ 7
  pub malformed : kind.MALFORMED ≡ 8

-- how many sites there are; how many inserts and deletes one of them makes, how often one of these is undone and redone, and of how many
-- names a context tells undos; the most characters of an insert; and the most bytes of a log, of a message and of a frame, which is a
-- length of four bytes and a body
pub record AreLimits : Type 0 where
  pub sites : SITES ≡ 1024
  pub numbers : NUMBERS ≡ 1000000
  pub generations : GENERATIONS ≡ 65535
  pub undone : UNDO_ENTRIES ≡ 16384
  pub letters : LETTERS ≡ 256
  pub log : MAX_LOG ≡ 67108864
  pub message : MAX_MESSAGE ≡ 67108864
  pub frame : 4 + LONGEST_BODY_TWO ≡ 171029

-- all of them, in this version
pub record AreTheNumbers : Type 0 where
  pub version : VERSION ≡ 4
  pub statuses : AreStatuses
  pub operations : AreOperationKinds
  pub anchors : AreAnchorKinds
  pub measures : AreMeasures
  pub verdicts : AreVerdictKinds
  pub limits : AreLimits
