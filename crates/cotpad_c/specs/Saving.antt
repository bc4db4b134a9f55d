-- What may be saved: bytes that are loaded again.
use Rattle.std.specs.Prelude.{◌≤◌, ℕ, List, length}
use Rattle.cot_site.specs.States.{State}
use Rattle.session_log.specs.declared.reading.TheConstants.{MAX_LOG}
use Rattle.session_log.specs.Loadings.{IsLoaded}

-- the bytes are few enough to be loaded, and a site of any number that is made of them has the same history, and the same waits
pub record Loads (bytes : List ℕ) (s : State) : Type 0 where
  pub short : length bytes ≤ MAX_LOG
  pub loaded : (number : ℕ) → IsLoaded number bytes (record s { number = number })
