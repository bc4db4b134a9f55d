use Rattle.session_replay.proofs.Transcripts.{report_transcript}
use Rattle.session_replay.proofs.laws.transcripts_are_there.Goals as goal

pub returns : goal.returns
returns c = report_transcript
