-- What a search finds among pairs whose keys rise.
use Rattle.std.specs.Prelude.{◌≡◌, ℕ, ◌<◌, ◌≤◌, Bool, true, List, length, slice_index_or}

-- the pair of the key is at place i
pub record IsPlace {K : Type 0} (ps : List (K × ℕ)) (k : K) (i : ℕ) : Type 0 where
  pub within : i < length ps
  pub key : (d : K × ℕ) → (slice_index_or ps i d).0 ≡ k

-- lesser keys stand before place i, and greater ones from it on
pub record IsGap {K : Type 0} (lt : K → K → Bool) (ps : List (K × ℕ)) (k : K) (i : ℕ) : Type 0 where
  pub within : i ≤ length ps
  pub before : (j : ℕ) (d : K × ℕ) → j < i → lt (slice_index_or ps j d).0 k ≡ true
  pub after : (j : ℕ) (d : K × ℕ) → i ≤ j → j < length ps → lt k (slice_index_or ps j d).0 ≡ true
