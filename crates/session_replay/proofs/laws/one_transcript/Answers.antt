use Rattle.session_replay.proofs.Transcripts.{transcript_once}
use Rattle.session_replay.proofs.laws.one_transcript.Goals as goal

pub returns : goal.returns
returns c = transcript_once
