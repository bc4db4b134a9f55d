-- Listings as the code has them.
use Rattle.std.specs.HashMap.{get}
use Rattle.form_cache.specs.Keys.{key_eq}
use Rattle.trace_explain.specs.declared.listing.Listing.{Listing}
use Rattle.trace_explain.specs.Listings.{ListingData}

-- the lines of a listing, and the line of each pair that is listed
abbrev pub data_of : Listing → ListingData
data_of l = record { lines = l.lines.items; at = get key_eq l.listed }
