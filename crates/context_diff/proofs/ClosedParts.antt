-- A context that has all of a closed one: only where it counts more originals of a site can that site be open.
use Rattle.std.proofs.Common.{◌≡◌, ℕ, true, List, sym}
use Rattle.std.specs.Prelude.{Some, slice_get}
use Rattle.op_name.specs.NameData.{NameData}
use Rattle.op_name.specs.declared.member.Member.TheVariants.{Original}
use Rattle.context_vector.specs.Contexts.{ContextData, Within, AreCounts, count_of, count_in}
use Rattle.context_diff.specs.Operations.{OpData}
use Rattle.context_diff.specs.Histories.{is_known}
use Rattle.context_diff.specs.Bases.{original_context}
use Rattle.context_diff.specs.Code.ClosedParts.{IsClosedPart}
use Rattle.context_diff.proofs.Covering.{covers_to}
use Rattle.context_diff.proofs.Listings.{count_at}

-- the same of the site's last original: all that it was made after is in the greater one
pub last_covered : (h : List OpData) (v c : ContextData) → IsClosedPart h v c → (n : NameData) → is_known h (Original n) ≡ true
    → count_of c n.site ≡ n.number → Within (original_context h n) v
last_covered h v c part n known last m e = part.within m (covers_to h c n (part.closed n.site) known (sym last) m e)

-- a pair of the counts is its site's
pub count_here : (ps : List (ℕ × ℕ)) → AreCounts 0 ps → (i : ℕ) (p : ℕ × ℕ) → slice_get ps i ≡ Some p → count_in ps p.0 ≡ p.1
count_here ps are i p at = (count_at 0 ps are i p at).count
