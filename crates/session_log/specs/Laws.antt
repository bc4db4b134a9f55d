-- The laws of logs.
use Rattle.std.specs.Prelude.{◌≡◌, ◌≢◌, ℕ, List}
use Rattle.context_diff.specs.Operations.{OpData}
use Rattle.causal_gate.specs.Waiting.{AreApart}
use Rattle.cot_site.specs.States.{State, IsSettled}
use Rattle.cot_site.specs.Releases.{IsSound}
use Rattle.session_log.specs.declared.log_bad.LogBad.{LogBad}
use Rattle.session_log.specs.declared.log_bad.LogBad.TheVariants as bad
use Rattle.session_log.specs.Logs.{log_of, IsLogOf}
use Rattle.session_log.specs.Readings.{IsUnread}
use Rattle.session_log.specs.Loadings.{IsLoaded, IsUnloaded}

-- bytes are the log of one list of operations at most
abbrev pub OneReading : Type 0
OneReading = (bytes : List ℕ) (a b : List OpData) → IsLogOf bytes a → IsLogOf bytes b → a ≡ b

-- a log has no fault
abbrev pub LogsHaveNoFault : Type 0
LogsHaveNoFault = (bytes : List ℕ) (os : List OpData) (why : LogBad) → IsLogOf bytes os → why ≢ bad.Memory → ¬ IsUnread bytes why

-- at most one reason not to read the bytes holds, apart from memory
abbrev pub OneFault : Type 0
OneFault = (bytes : List ℕ) (a b : LogBad) → a ≢ bad.Memory → b ≢ bad.Memory → IsUnread bytes a → IsUnread bytes b → a ≡ b

-- and one reason not to load them
abbrev pub OneRefusal : Type 0
OneRefusal =
    (site : ℕ) (bytes : List ℕ) (a b : LogBad) → a ≢ bad.Memory → b ≢ bad.Memory → IsUnloaded site bytes a → IsUnloaded site bytes b → a ≡ b

-- there is one loaded state at most, and where there is one, nothing is refused
abbrev pub OneLoading : Type 0
OneLoading =
    (site : ℕ) (bytes : List ℕ) (s : State)
    → IsLoaded site bytes s
    → ((t : State) → IsLoaded site bytes t → t ≡ s) × ((why : LogBad) → why ≢ bad.Memory → ¬ IsUnloaded site bytes why)

-- the log of a settled site is loaded as the same history and the same waiting operations, under any number
abbrev pub RoundTrip : Type 0
RoundTrip =
    (s : State) (site : ℕ)
    → IsSound s
    → IsSettled s
    → AreApart s.waiting
    → IsLoaded site (log_of s.history s.waiting) (record s { number = site })
