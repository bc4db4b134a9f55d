-- A reader of a log that comes in pieces, as contracts see it.
use Rattle.std.specs.Prelude.{◌≡◌, ℕ, ◌+◌, ◌-◌, ◌<◌, Bool, false, true, List, Option, Some, None, length, nat_le, slice_index_or}
use Rattle.wire_codec.specs.declared.version.Version.{Version}
use Rattle.wire_codec.specs.StreamData.{StreamData}
use Rattle.cot_site.specs.States.{State}
use Rattle.session_log.specs.declared.headers.TheConstants.{HEADER_LEN}
use Rattle.session_log.specs.declared.log_bad.LogBad.{LogBad}
use Rattle.session_log.specs.declared.log_bad.LogBad.TheVariants as bad

-- the number of the site that is loaded; the version that the header tells, and 2 as long as its bytes are those of either one; the state
-- of the site, after the operations that were taken in; the bytes after the header that are not decoded yet; how many bytes were fed;
-- whether the header was read; the first fault of the bytes; the first refused verdict; and whether it is out of memory
pub record ReaderData : Type 0 where
  pub site : ℕ
  pub version : Version
  pub state : State
  pub left : List ℕ
  pub fed : ℕ
  pub header : Bool
  pub fault : Option LogBad
  pub refused : Option LogBad
  pub spent : Bool

-- a header was read where so many bytes were fed and this is their first fault
abbrev pub header_read : ℕ → Option LogBad → Bool
header_read fed None = nat_le HEADER_LEN fed
header_read fed (Some bad.Header) = false
header_read fed (Some (bad.Cut offset)) = true
header_read fed (Some (bad.Bad offset cause)) = true
header_read fed (Some (bad.Refused offset member verdict)) = true
header_read fed (Some bad.Memory) = true

-- a reader of these parts
abbrev pub reader_of : ℕ → Version → ℕ → List ℕ → State → Option LogBad → Option LogBad → Bool → ReaderData
reader_of site v fed left s refused why spent = record {
  site = site;
  version = v;
  state = s;
  left = left;
  fed = fed;
  header = header_read fed why;
  fault = why;
  refused = refused;
  spent = spent;
}

-- every element is a byte
abbrev pub AreBytes : List ℕ → Type 0
AreBytes bytes = (i : ℕ) → slice_index_or bytes i 0 < 256

-- of the bytes fed, those after the header were taken, or are left
abbrev pub IsCounted : ℕ → StreamData → Type 0
IsCounted fed s = (s.taken + length s.left ≡ fed - HEADER_LEN) × AreBytes s.left
