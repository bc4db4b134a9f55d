-- Which sites have a checkpoint, and why others have none.
use Rattle.std.specs.Prelude.{◌≡◌, ◌<◌, ◌≤◌, [], length}
use Rattle.context_diff.specs.Histories.{context_of_all}
use Rattle.context_diff.specs.declared.op.TheConstants.{UNDO_ENTRIES}
use Rattle.cot_site.specs.Sites.{SiteData}
use Rattle.checkpoint_codec.specs.Spelled.{sum_of}
use Rattle.checkpoint_codec.specs.declared.undone.TheConstants.{GROUPS}
use Rattle.checkpoint.specs.declared.flat_bad.FlatBad.{FlatBad}
use Rattle.checkpoint.specs.declared.flat_bad.FlatBad.TheVariants.{Waiting, NamesFull, GroupsFull, Memory}

-- few names were ever undone
abbrev pub HasFewNames : SiteData → Type 0
HasFewNames s = length (context_of_all s.history).entries ≤ UNDO_ENTRIES

-- nothing waits, few names were ever undone, and their generations add up to few
pub record CanBeFlat (s : SiteData) : Type 0 where
  pub waiting : s.waiting ≡ []
  pub names : HasFewNames s
  pub groups : sum_of (context_of_all s.history).entries ≤ GROUPS

-- the first cause that holds: operations wait, too many names were ever undone, or their generations add up to too much; or memory ran out
-- where there is none
abbrev pub IsRefusal : SiteData → FlatBad → Type 0
IsRefusal s (Waiting count) = (count ≡ length s.waiting) × (0 < count)
IsRefusal s (NamesFull names) = (s.waiting ≡ []) × (names ≡ length (context_of_all s.history).entries) × (UNDO_ENTRIES < names)
IsRefusal s (GroupsFull sum) =
    (s.waiting ≡ []) × HasFewNames s × (sum ≡ sum_of (context_of_all s.history).entries) × (GROUPS < sum)
IsRefusal s Memory = CanBeFlat s
