-- What readers answer, beside what the grammar says.
use Rattle.std.specs.Prelude.{◌≡◌, Result, Ok, Err}
use Rattle.wire_codec.specs.declared.fault.Fault.{Fault}
use Rattle.wire_codec.specs.Reading.{LeftData, fault, Found}
use Rattle.checkpoint_codec.specs.declared.flaw.Flaw.{Flaw}
use Rattle.checkpoint_codec.specs.declared.flaw.Stop.{Stop}
use Rattle.checkpoint_codec.specs.declared.flaw.Stop.TheVariants as stops
use Rattle.checkpoint_codec.specs.declared.refusal.CheckpointBad.{CheckpointBad}
use Rattle.checkpoint_codec.specs.declared.refusal.CheckpointBad.TheVariants as refusals
use Rattle.checkpoint_codec.specs.Refusals.{refusal_at}

-- the fault as definitions have it
abbrev pub fault_of : Flaw → Fault
fault_of f = fault f.cause f.offset

abbrev pub flawed : {A : Type 0} → Result A Flaw → Result A Fault
flawed (Ok x) = Ok x
flawed (Err f) = Err (fault_of f)

-- a value, and where its reader stands after it
abbrev pub after : {A : Type 0} → Result A Flaw → LeftData → Found A
after (Ok x) left = Ok (x, left)
after (Err f) left = Err (fault_of f)

-- the answer is what was to be found, unless memory ran out
abbrev pub IsRead : {X A : Type 0} → (X → A) → Result X Stop → LeftData → Found A → Type 0
IsRead view (Ok x) left found = found ≡ Ok (view x, left)
IsRead view (Err (stops.At f)) left found = found ≡ Err (fault_of f)
IsRead view (Err stops.Memory) left found = Unit {0}

abbrev pub refusal_of : Stop → CheckpointBad
refusal_of (stops.At f) = refusal_at f.cause f.offset
refusal_of stops.Memory = refusals.Memory
