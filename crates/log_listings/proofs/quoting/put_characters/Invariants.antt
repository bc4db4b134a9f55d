use Rattle.std.proofs.Common.{◌≡◌, ◌++◌, take}
use Rattle.std.specs.List.{flat_map}
use Rattle.log_listings.specs.Quotes.{quoted_character}
use Rattle.log_listings.proofs.quoting.put_characters.Given as goal

-- the first characters stand there
abbrev pub invariant-loop-ch : goal.invariant-loop-ch
invariant-loop-ch l = l.out.items ≡ l.fn.out.items ++ flat_map quoted_character (take l.ch-index l.chars)
