use Rattle.fixed_replay.proofs.CallerLemmas.{same_text, told_apart}
use Rattle.cotpad_run.proofs.laws.same_operations.Goals as goal

pub returns : goal.returns
returns c = λ h k valid also same. same_text h k (told_apart h valid) (told_apart k also) same
