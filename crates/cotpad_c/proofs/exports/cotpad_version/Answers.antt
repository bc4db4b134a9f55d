use Rattle.std.proofs.Common.{refl}
use Rattle.cotpad_c.specs.Numbers.{AreStatuses, AreOperationKinds, AreAnchorKinds, AreMeasures, AreVerdictKinds, AreLimits}
use Rattle.cotpad_c.proofs.exports.cotpad_version.Goals as goal

statuses : AreStatuses
statuses = record {
  ok = refl;
  no_memory = refl;
  site_out = refl;
  place_out = refl;
  no_character = refl;
  unknown = refl;
  not_in_force = refl;
  in_force = refl;
  generation_full = refl;
  number_full = refl;
  context_full = refl;
  no_name = refl;
  none = refl;
  too_short = refl;
  too_long = refl;
  no_head = refl;
  cut = refl;
  malformed = refl;
  extra = refl;
  refused = refl;
  unsettled = refl;
  no_set = refl;
  stray = refl;
  not_closed = refl;
}

operations : AreOperationKinds
operations = record {
  insert = refl;
  delete = refl;
  undo = refl;
  redo = refl;
}

anchors : AreAnchorKinds
anchors = record {
  start = refl;
  end = refl;
  after = refl;
  before = refl;
  no_place = refl;
}

measures : AreMeasures
measures = record {
  bytes = refl;
  units = refl;
}

verdicts : AreVerdictKinds
verdicts = record {
  integrated = refl;
  waits = refl;
  repeat = refl;
  forged = refl;
  not_closed = refl;
  place_out = refl;
  incomplete = refl;
  malformed = refl;
}

limits : AreLimits
limits = record {
  sites = refl;
  numbers = refl;
  generations = refl;
  undone = refl;
  letters = refl;
  log = refl;
  message = refl;
  frame = refl;
}

pub returns-clause-numbers : goal.returns-clause-numbers
returns-clause-numbers c =
    record {
      version = refl;
      statuses = statuses;
      operations = operations;
      anchors = anchors;
      measures = measures;
      verdicts = verdicts;
      limits = limits;
    }
