-- Bytes that are appended to others, where there is room for them.
use Rattle.std.specs.Prelude.{◌≡◌, ℕ, ◌+◌, ◌*◌, ◌≤◌, ◌<◌, ◌==◌, List, [], ◌∷◌, ◌++◌, length, vec_len, vec_capacity, if◌then◌else◌}
use Rattle.std.specs.Global.{Vec}
use Rattle.op_name.specs.NameData.{NameData}
use Rattle.context_vector.specs.Contexts.{ContextData}
use Rattle.wire_codec.specs.declared.version.Version.{Version}
use Rattle.wire_codec.specs.Versions.{site_len, sites}
use Rattle.wire_codec.specs.Runs.{listing_of}
use Rattle.wire_codec.specs.Judging.{count_len, run_len}
use Rattle.wire_codec.specs.Code.Elements.{character_len}
use Rattle.wire_codec.specs.declared.head.Head.{Head}
use Rattle.wire_codec.specs.declared.head.Head.TheVariants.{Insert, Delete, Undo}

-- so many more bytes need no memory
abbrev pub HasRoom : Vec ℕ → ℕ → Type 0
HasRoom v n = vec_len v + n ≤ vec_capacity v

-- the bytes stand at the end, and no room is lost
pub record Puts (old new : Vec ℕ) (bytes : List ℕ) : Type 0 where
  pub items : new.items ≡ old.items ++ bytes
  pub len : vec_len new ≡ vec_len old + length bytes
  pub capacity : vec_capacity old ≤ vec_capacity new

-- the bytes of the number of characters, which an insert of one has not
abbrev pub length_len : ℕ → ℕ
length_len len = if len == 1 then 0 else 2

-- the bytes of so many characters, and of their number
abbrev pub text_len : ℕ → ℕ
text_len len = length_len len + character_len * len

-- how many bytes stand before a context
abbrev pub head_len : Version → Head → ℕ
head_len v (Insert n p text) = 9 + site_len v + text_len (length text)
head_len v (Delete n p) = 9 + site_len v
head_len v (Undo a t g) = 7 + 2 * site_len v

-- how many bytes a context has whose undone names are so many runs
abbrev pub context_len : Version → ContextData → ℕ → ℕ
context_len v c runs = (site_len v + count_len v * length c.counts) + (2 + run_len (listing_of v) * runs)

-- the sites before a context can be named
abbrev pub HeadFits : Version → Head → Type 0
HeadFits v (Insert n p text) = n.site < sites v
HeadFits v (Delete n p) = n.site < sites v
HeadFits v (Undo a t g) = (a < sites v) × (t.site < sites v)

-- and those of its two lists
abbrev pub CountsIn : Version → List (ℕ × ℕ) → Type 0
CountsIn v [] = Unit {0}
CountsIn v (p ∷ ps) = (p.0 < sites v) × CountsIn v ps

abbrev pub EntriesIn : Version → List (NameData × ℕ) → Type 0
EntriesIn v [] = Unit {0}
EntriesIn v (e ∷ es) = (e.0.site < sites v) × EntriesIn v es
