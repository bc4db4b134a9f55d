use Rattle.std.proofs.Common.{◌≡◌, ◌++◌, take}
use Rattle.log_listings.specs.Listings.{lines_text}
use Rattle.log_listings.proofs.listing.put_lines.Given as goal

-- the lines of the first operations stand there
abbrev pub invariant-loop-i : goal.invariant-loop-i
invariant-loop-i l = l.out.items ≡ l.fn.out.items ++ lines_text l.book.ops 0 (take l.i l.book.ops)
