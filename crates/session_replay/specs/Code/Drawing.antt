-- What the parts of a generated session are seen as.
use Rattle.std.specs.Prelude.{ℕ}
use Rattle.session_replay.specs.declared.generated.Tally.{Tally}
use Rattle.session_replay.specs.declared.generator.Order.{Order}
use Rattle.session_replay.specs.Generating.{Counts, Plan}

-- the counts of each kind
abbrev pub counts_in : Tally → Counts
counts_in t = record { inserts = t.inserts; deletes = t.deletes; undos = t.undos; redos = t.redos }

-- the order with the number that the draws begin with
abbrev pub plan_of : ℕ → Order → Plan
plan_of start order = record { start = start; events = order.events; window = order.window; sites = order.sites; syncs = order.syncs }
