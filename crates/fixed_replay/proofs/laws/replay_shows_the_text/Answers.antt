use Rattle.fixed_replay.proofs.ExecutedForms.{shows_the_text}
use Rattle.fixed_replay.proofs.laws.replay_shows_the_text.Goals as goal

pub returns : goal.returns
returns c = λ h cs r. shows_the_text h cs r
