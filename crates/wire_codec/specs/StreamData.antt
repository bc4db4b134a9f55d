-- A stream as contracts see it.
use Rattle.std.specs.Prelude.{ℕ, List}
use Rattle.wire_codec.specs.declared.version.Version.{Version}

-- the version of its frames, how many bytes were taken, and the bytes left
pub record StreamData : Type 0 where
  pub version : Version
  pub taken : ℕ
  pub left : List ℕ
