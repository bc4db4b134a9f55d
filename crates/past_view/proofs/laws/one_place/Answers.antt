use Rattle.past_view.proofs.Addresses.{address_from, address_back, place_found, place_back}
use Rattle.past_view.proofs.laws.one_place.Goals as goal

pub returns : goal.returns
returns c =
    λ cs v line column. (
      λ found. address_from (place_back cs line column v found),
      λ has. place_found cs line column v (address_back cs v line column has),
    )
