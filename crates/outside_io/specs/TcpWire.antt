-- A wire over sockets, as contracts see it.
use Rattle.std.specs.Prelude.{ℕ, Bool, None, false, ◌==◌, if◌then◌else◌}
use Rattle.outside_io.specs.declared.link.Asked.{Asked}
use Rattle.outside_io.specs.Ends.{End}

-- whether the ends 0 and 1 have a socket; the last link asked for, how many were, and how many calls failed
pub record TcpWireData : Type 0 where
  pub first : Bool
  pub second : Bool
  pub asked : Asked
  pub asks : ℕ
  pub faults : ℕ

-- an end that tells no bytes
abbrev pub silent_end : Bool → End
silent_end linked = record { linked = linked; sent = None; received = None; to_come = None }

-- the ends 0 and 1 of a wire over sockets; there are no others
abbrev pub socket_end : TcpWireData → ℕ → End
socket_end w end = silent_end (if end == 0 then w.first else if end == 1 then w.second else false)
