use Rattle.text_positions.proofs.Weights.{only_place}
use Rattle.text_positions.proofs.laws.one_place.Goals as goal

pub returns : goal.returns
returns c = λ m cs v offset n. (λ first. first.has, λ has. only_place m cs v offset n has)
