-- Operations whose contexts are lent as they lie in frames, as contracts see them.
use Rattle.std.specs.Prelude.{ℕ, Result, Ok, Err}
use Rattle.std.specs.List.{flat_map}
use Rattle.context_vector.specs.Contexts.{ContextData}
use Rattle.context_diff.specs.Operations.{OpData}
use Rattle.wire_codec.specs.declared.fault.Fault.{Fault}
use Rattle.wire_codec.specs.declared.fault.Refused.{Refused}
use Rattle.wire_codec.specs.declared.fault.Unread.{Unread}
use Rattle.wire_codec.specs.declared.rules.LentContext.{LentContext}
use Rattle.wire_codec.specs.declared.rules.LentOp.{LentOp}
use Rattle.wire_codec.specs.Runs.{names_in}
use Rattle.wire_codec.specs.Spelling.{op_of}
use Rattle.wire_codec.specs.Reading.{LeftData, Found}

abbrev pub context_seen : LentContext → ContextData
context_seen c = record { counts = c.counts; entries = flat_map names_in c.runs }

abbrev pub op_seen : LentOp → OpData
op_seen o = op_of o.head (context_seen o.context)

-- what was read, seen by `view`, and where its reader stands after it
abbrev pub after_as : {X Y : Type 0} → (X → Y) → Result X Fault → LeftData → Found Y
after_as view (Ok x) left = Ok (view x, left)
after_as view (Err e) left = Err e

abbrev pub seen_as : {X Y : Type 0} → (X → Y) → Result X Fault → Result Y Fault
seen_as view (Ok x) = Ok (view x)
seen_as view (Err e) = Err e

abbrev pub judged_as : {X Y : Type 0} → (X → Y) → Result (X × ℕ) Refused → Result (Y × ℕ) Refused
judged_as view (Ok x) = Ok (view x.0, x.1)
judged_as view (Err e) = Err e

abbrev pub state_as : Result (LentContext × ℕ) Unread → Result (ContextData × ℕ) Unread
state_as (Ok x) = Ok (context_seen x.0, x.1)
state_as (Err e) = Err e

abbrev pub context_as : Result (LentContext × ℕ) Fault → Result (ContextData × ℕ) Fault
context_as (Ok x) = Ok (context_seen x.0, x.1)
context_as (Err e) = Err e
