-- A log that is loaded while it is read.
use Rattle.std.specs.Prelude.{◌≡◌, ◌+◌, ℕ, List, Option, min, length, take}
use Rattle.std.specs.Io.KnownBytes.{Consumes}
use Rattle.outside_io.specs.declared.reading.TheConstants.{MAX_INPUT}
use Rattle.session_log.specs.ReaderData.{ReaderData}
use Rattle.session_log.specs.Readers.{Keeps}

-- so many bytes of those that the source had left were read, and fed to the reader of this site, but none past the limit
pub record Feeds (site : ℕ) (left now : Option (List ℕ)) (read : ℕ) (r : ReaderData) : Type 0 where
  pub all : List ℕ
  pub size : length all ≡ read
  pub consumed : Consumes left now all
  pub kept : Keeps r (take MAX_INPUT all)
  pub number : r.site ≡ site

-- so many of these bytes were read, all of them or one past the limit, and fed to the reader of this site, but none past the limit
pub record IsFed (site : ℕ) (bytes : List ℕ) (read : ℕ) (r : ReaderData) : Type 0 where
  pub size : read ≡ min (length bytes) (MAX_INPUT + 1)
  pub kept : Keeps r (take MAX_INPUT bytes)
  pub number : r.site ≡ site
