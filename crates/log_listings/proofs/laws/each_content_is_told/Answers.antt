use Rattle.log_listings.proofs.EachContent.{each_content_is_told}
use Rattle.log_listings.proofs.laws.each_content_is_told.Goals as goal

pub returns : goal.returns
returns c = each_content_is_told
