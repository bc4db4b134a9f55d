-- Logs: the header of a version, and after it the frames of operations in that version, to the end.
use Rattle.std.specs.Prelude.{◌≡◌, ℕ, ◌+◌, List, [], ◌++◌, length, codes, Contains}
use Rattle.std.specs.List.{flat_map}
use Rattle.context_diff.specs.Operations.{OpData}
use Rattle.wire_codec.specs.declared.version.Version.{Version}
use Rattle.wire_codec.specs.declared.version.Version.TheVariants.{One, Two}
use Rattle.wire_codec.specs.Versions.{Fits}
use Rattle.wire_codec.specs.Spelling.{frame}
use Rattle.cot_site.specs.Sites.{AllFormed}
use Rattle.session_log.specs.declared.headers.TheConstants.{HEADER_LEN}

-- what each log of a version begins with
abbrev pub header : Version → List ℕ
header One = codes "COTLOG1\n"
header Two = codes "COTLOG2\n"

-- the frames of these operations in a version, one after the other
abbrev pub frames : Version → List OpData → List ℕ
frames v os = flat_map (frame v) os

-- Log, as it is written: in version 2, a history, in the order of integration, and then the operations that wait, in the order of arrival
abbrev pub log_of : List OpData → List OpData → List ℕ
log_of h w = header Two ++ (frames Two h ++ frames Two w)

-- frames of this version can name the sites of all these operations
abbrev pub AllFit : Version → List OpData → Type 0
AllFit v os = (o : OpData) → Contains os o → Fits v o

-- the header of the version stands first, then the frames of these well-formed operations, then the rest
pub record BeginsWith (v : Version) (bytes : List ℕ) (os : List OpData) (rest : List ℕ) : Type 0 where
  pub formed : AllFormed os
  pub fits : AllFit v os
  pub parts : bytes ≡ header v ++ (frames v os ++ rest)

-- the offset of what follows these operations
abbrev pub offset_after : Version → List OpData → ℕ
offset_after v os = HEADER_LEN + length (frames v os)

-- the bytes are a log, of either version, which has these operations
pub record IsLogOf (bytes : List ℕ) (os : List OpData) : Type 0 where
  pub version : Version
  pub begins : BeginsWith version bytes os []
