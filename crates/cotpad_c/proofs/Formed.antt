-- Each operation of a valid history is well formed.
use Rattle.std.proofs.Common.{◌≡◌, ℕ, List}
use Rattle.std.specs.Prelude.{Some, slice_get}
use Rattle.context_diff.specs.Operations.{OpData, IsWellFormed}
use Rattle.context_diff.specs.Histories.{IsValid}
use Rattle.context_diff.proofs.CallerLemmas.{complete}
use Rattle.cot_site.proofs.CallerLemmas.{formed_at}

pub kept_formed : (h : List OpData) (i : ℕ) (o : OpData) → IsValid h → slice_get h i ≡ Some o → IsWellFormed o
kept_formed h i o valid at = formed_at h i o (complete h valid).formed at
