-- Runs of edits: a text that is inserted, piece by piece, a range that is deleted, character by character, and a range of the history of
-- which each insert and delete is undone or redone, each with the releases after it.
use Rattle.std.specs.Prelude.{⊤, ◌≡◌, ℕ, ◌≤◌, List, Result, OnOk, length}
use Rattle.cot_site.specs.Sites.{SiteData}
use Rattle.participant.specs.declared.edits.Edit.{Edit}
use Rattle.participant.specs.declared.edits.Stopped.{Stopped}
use Rattle.participant.specs.Reached.{Reached}
use Rattle.participant.specs.Runs.{pieces, runs, deletes, undos, redos, IsRun}
use Rattle.context_diff.specs.Operations.{OpData}
use Rattle.site_ranges.specs.Originals.{originals_at}
use Rattle.cotpad_c.specs.declared.status.TheConstants.{NO_MEMORY}
use Rattle.cotpad_c.specs.Hosting.{HostedData, hosting}
use Rattle.cotpad_c.specs.Statuses.{number_of}

-- a run of these edits, which are so many: its number is that of how it ended, and it made so many operations
pub record Ran (n : ℕ) (es : List Edit) (count : ℕ) (a b : Reached) (made : ℕ) : Type 0 where
  pub end : Result ⊤ Stopped
  pub status : n ≡ number_of end
  pub run : IsRun es a (record { made = made; end = end }) b
  pub within : made ≤ count
  pub whole : OnOk end (made ≡ count)

-- the text is cut from the front into pieces of LETTERS characters and a shorter last one; the first `made` pieces are inserted:
-- all of them, or those before the first that isn't, or those up to the one at which memory ran out among the releases
abbrev pub IsTyped : ℕ → Reached → ℕ → List ℕ → Reached → ℕ → Type 0
IsTyped n a v cs b made = Ran n (runs v cs) (length (pieces cs)) a b made

-- memory ran out while the text was read, before its first insert: nothing is done
abbrev pub IsUnbegun : ℕ → SiteData → HostedData → ℕ → Type 0
IsUnbegun n s h made = (n ≡ NO_MEMORY) × (made ≡ 0) × (h ≡ hosting s)

-- the first `made` characters of the range are deleted: all of them, or those before the first that isn't, or those up to the one
-- at which memory ran out among the releases
abbrev pub IsCut : ℕ → Reached → ℕ → ℕ → Reached → ℕ → Type 0
IsCut n a v count b made = Ran n (deletes v count) count a b made

-- a run of these edits, of which those are passed over for which there is nothing to do
pub record Turned (n : ℕ) (es : List Edit) (count : ℕ) (a b : Reached) (made : ℕ) : Type 0 where
  pub end : Result ⊤ Stopped
  pub status : n ≡ number_of end
  pub run : IsRun es a (record { made = made; end = end }) b
  pub within : made ≤ count

-- each insert and delete among so many operations of the history is undone that isn't, the last one first: all of them, or those before
-- the first that can't be, or those up to the one at which memory ran out among the releases
abbrev pub IsUndone : ℕ → List OpData → ℕ → ℕ → Reached → Reached → ℕ → Type 0
IsUndone n h first count a b made = Turned n (undos (originals_at h first count)) count a b made

-- each is redone that isn't in force
abbrev pub IsRedone : ℕ → List OpData → ℕ → ℕ → Reached → Reached → ℕ → Type 0
IsRedone n h first count a b made = Turned n (redos (originals_at h first count)) count a b made
