-- Frames of operations, and which of them a peer lacks.
use Rattle.std.specs.Prelude.{ℕ, List, not, filter}
use Rattle.std.specs.List.{flat_map}
use Rattle.context_vector.specs.Contexts.{ContextData, has}
use Rattle.context_diff.specs.Operations.{OpData, member_of}
use Rattle.wire_codec.specs.declared.version.Version.TheVariants.{Two}
use Rattle.wire_codec.specs.Spelling.{frame}

-- the frames of these operations, of version 2, one after the other
abbrev pub frames_of : List OpData → List ℕ
frames_of os = flat_map (frame Two) os

-- the operations whose members the set lacks, in their order
abbrev pub lacked_by : ContextData → List OpData → List OpData
lacked_by c os = filter (λ o. not (has c (member_of o))) os
