-- Lines of scripts: how each is spelled, and in what range its parts are.
use Rattle.std.specs.Prelude.{◌≡◌, ℕ, ◌<◌, ◌≤◌, ◌^◌, List, [], ◌∷◌, ◌++◌, length, codes, decimal, encode_utf8_all, Option, Some, None, Ok, ◌⊎◌, IsTrue}
use Rattle.std.specs.Str.{all_scalars}
use Rattle.hex.specs.Hex.{decode_of, encode_lower, IsBytes}
use Rattle.op_name.specs.NameData.{IsName}
use Rattle.op_name.specs.declared.name.TheConstants.{SITES}
use Rattle.script_text.specs.declared.reading.line.Line.{Line}
use Rattle.script_text.specs.declared.reading.line.Line.TheVariants.{Blank, Sites, Ins, Run, Nl, Del, Undo, Redo, Give, All, Sync, Raw, Raw2, Show, State}
use Rattle.site_answers.specs.Names.{name_text}

-- a word and its fields; two fields
abbrev pub command : List ℕ → List ℕ → List ℕ
command word fields = word ++ 32 ∷ fields

abbrev pub two : List ℕ → List ℕ → List ℕ
two first second = first ++ 32 ∷ second

-- the spelling of a line; one of its spellings for a line that does nothing, and for `raw` and `raw2`
abbrev pub spelling : Line → List ℕ
spelling Blank = []
spelling (Sites count) = command (codes "sites") (decimal count)
spelling (Ins site place text) = command (codes "ins") (two (decimal site) (two (decimal place) (encode_utf8_all text)))
spelling (Run site place text) = command (codes "run") (two (decimal site) (two (decimal place) (encode_utf8_all text)))
spelling (Nl site place) = command (codes "nl") (two (decimal site) (decimal place))
spelling (Del site place) = command (codes "del") (two (decimal site) (decimal place))
spelling (Undo site name) = command (codes "undo") (two (decimal site) (name_text name))
spelling (Redo site name) = command (codes "redo") (two (decimal site) (name_text name))
spelling (Give site message) = command (codes "give") (two (decimal site) (decimal message))
spelling (All site) = command (codes "all") (decimal site)
spelling Sync = codes "sync"
spelling (Raw site bytes) = command (codes "raw") (two (decimal site) (encode_lower bytes))
spelling (Raw2 site bytes) = command (codes "raw2") (two (decimal site) (encode_lower bytes))
spelling (Show site) = command (codes "show") (decimal site)
spelling (State site) = command (codes "state") (decimal site)

-- the parts of the line are in range
abbrev pub IsInRange : Line → Type 0
IsInRange Blank = Unit {0}
IsInRange (Sites count) = (1 ≤ count) × (count ≤ SITES)
IsInRange (Ins site place text) = (site < SITES) × (place < 2 ^ 32) × (0 < length text) × IsTrue (all_scalars text)
IsInRange (Run site place text) = (site < SITES) × (place < 2 ^ 32) × (0 < length text) × IsTrue (all_scalars text)
IsInRange (Nl site place) = (site < SITES) × (place < 2 ^ 32)
IsInRange (Del site place) = (site < SITES) × (place < 2 ^ 32)
IsInRange (Undo site name) = (site < SITES) × IsName name.site name.number
IsInRange (Redo site name) = (site < SITES) × IsName name.site name.number
IsInRange (Give site message) = (site < SITES) × (message < 2 ^ 32)
IsInRange (All site) = site < SITES
IsInRange Sync = Unit {0}
IsInRange (Raw site bytes) = (site < SITES) × (0 < length bytes) × IsBytes bytes
IsInRange (Raw2 site bytes) = (site < SITES) × (0 < length bytes) × IsBytes bytes
IsInRange (Show site) = site < SITES
IsInRange (State site) = site < SITES

-- the bytes spell what the line says. A line that does nothing is empty or starts with `#`; the digits of `raw` and `raw2` are of
-- either case; each other line has its one spelling
abbrev pub IsSpelled : List ℕ → Line → Type 0
IsSpelled bs Blank = (bs ≡ []) ⊎ ((cs : List ℕ) × (bs ≡ 35 ∷ cs))
IsSpelled bs (Raw site bytes) = (hex : List ℕ) × (bs ≡ command (codes "raw") (two (decimal site) hex)) × (decode_of hex ≡ Ok bytes)
IsSpelled bs (Raw2 site bytes) = (hex : List ℕ) × (bs ≡ command (codes "raw2") (two (decimal site) hex)) × (decode_of hex ≡ Ok bytes)
IsSpelled bs line = bs ≡ spelling line

-- the bytes are the line: a row of the table, spelled so, with its parts in range
abbrev pub IsLine : List ℕ → Line → Type 0
IsLine bs line = IsSpelled bs line × IsInRange line

-- the site that the line speaks of; a line that does nothing, `sites` and `sync` speak of no one site
abbrev pub line_site : Line → Option ℕ
line_site Blank = None
line_site (Sites count) = None
line_site Sync = None
line_site (Ins site place text) = Some site
line_site (Run site place text) = Some site
line_site (Nl site place) = Some site
line_site (Del site place) = Some site
line_site (Undo site name) = Some site
line_site (Redo site name) = Some site
line_site (Give site message) = Some site
line_site (All site) = Some site
line_site (Raw site bytes) = Some site
line_site (Raw2 site bytes) = Some site
line_site (Show site) = Some site
line_site (State site) = Some site

-- the line has a text or bytes
abbrev pub HasContent : Line → Type 0
HasContent (Ins site place text) = Unit {0}
HasContent (Run site place text) = Unit {0}
HasContent (Raw site bytes) = Unit {0}
HasContent (Raw2 site bytes) = Unit {0}
HasContent line = ⊥
