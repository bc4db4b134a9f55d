use Rattle.std.proofs.Common.{refl}
use Rattle.session_replay.specs.Scripts.{script_report}
use Rattle.cotpad_run.proofs.replay.reports_are_there.Goals as goal

pub returns : goal.returns
returns c = λ bytes. record {
  report = refl {a = script_report bytes};
  transcript = c.transcripts_are_there.ensures bytes;
  transcript_once = c.one_transcript.ensures bytes;
  derived = c.derived_reports_are_there.ensures bytes;
  derived_once = c.one_derived_report.ensures bytes;
}
