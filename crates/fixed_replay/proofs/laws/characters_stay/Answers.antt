use Rattle.fixed_replay.proofs.Characters.{characters_stay, letters_fit}
use Rattle.fixed_replay.proofs.laws.characters_stay.Goals as goal

pub returns-clause-fit : goal.returns-clause-fit
returns-clause-fit c = λ h o C f v d. letters_fit h o C f v d

pub returns-clause-stay : goal.returns-clause-stay
returns-clause-stay c = λ h o C f cs ts v d fits is. characters_stay h o C f v d cs ts fits is
