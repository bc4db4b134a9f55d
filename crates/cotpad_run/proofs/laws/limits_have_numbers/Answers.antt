use Rattle.std.proofs.Common.{refl}
use Rattle.cotpad_run.proofs.laws.limits_have_numbers.Goals as goal

pub returns : goal.returns
returns c = record {
  commands = record {
    port = refl;
    events = refl;
    window = refl;
    generated_sites = refl;
    loop_sites = refl;
    loop_events = refl;
  };
  operations = record {
    sites = refl;
    numbers = refl;
    generations = refl;
    undone = refl;
    letters = refl;
    places = refl;
  };
  bytes = record {
    line = refl;
    frame_of_one = refl;
    frame_of_two = refl;
    input = refl;
    script = refl;
    log = refl;
    message = refl;
  };
}
