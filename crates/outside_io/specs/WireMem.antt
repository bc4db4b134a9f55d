-- A wire in memory, as contracts see it.
use Rattle.std.specs.Prelude.{Result, ◌≡◌, ℕ, ◌+◌, List, Bool, Some, Contains, IsErr, min, is_ok, ◌==◌, if◌then◌else◌}
use Rattle.outside_io.specs.Faults.{last_count}
use Rattle.outside_io.specs.declared.link.Asked.{Asked}
use Rattle.outside_io.specs.Ends.{End, no_end}

-- an end in memory: whether it is linked; the bytes sent and received at it over all its links, and those to come
pub record MemEndData : Type 0 where
  pub linked : Bool
  pub sent : List ℕ
  pub received : List ℕ
  pub to_come : List ℕ

-- its two ends and the peer's bytes; the last link asked for, and how many were; the numbers of the calls that fail,
-- how many calls there were and how many of them failed
pub record WireMemData : Type 0 where
  pub first : MemEndData
  pub second : MemEndData
  pub peer : List ℕ
  pub asked : Asked
  pub asks : ℕ
  pub failing : List ℕ
  pub calls : ℕ
  pub faults : ℕ

-- the end with this number, which is 0 or 1
abbrev pub end_at : WireMemData → ℕ → MemEndData
end_at w end = if end == 0 then w.first else w.second

-- an end all of whose bytes are told
abbrev pub told_end : MemEndData → End
told_end e = record { linked = e.linked; sent = Some e.sent; received = Some e.received; to_come = Some e.to_come }

-- the ends 0 and 1 of a wire in memory; there are no others
abbrev pub mem_end : WireMemData → ℕ → End
mem_end w end = if end == 0 then told_end w.first else if end == 1 then told_end w.second else no_end

-- a numbered call: it fails where its number is listed, and a call that fails is counted as a fault
pub record IsNumbered {T E : Type 0} (old new : WireMemData) (result : Result T E) : Type 0 where
  pub listed : Contains old.failing old.calls → IsErr result
  pub calls : new.calls ≡ min (old.calls + 1) last_count
  pub faults : new.faults ≡ (if is_ok result then old.faults else min (old.faults + 1) last_count)
  pub failing : new.failing ≡ old.failing
