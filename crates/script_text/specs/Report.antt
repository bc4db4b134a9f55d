-- Reports, and the lines of which they are made.
use Rattle.std.specs.Prelude.{ℕ, Bool, List, [], ◌∷◌, ◌++◌, length, map, decimal, codes, if◌then◌else◌}
use Rattle.std.specs.List.{join_with_byte, flat_map}
use Rattle.context_vector.specs.Contexts.{ContextData}
use Rattle.context_diff.specs.Operations.{OpData, inserting, deleting, undoing}
use Rattle.op_name.specs.Members.{is_even}
use Rattle.site_answers.specs.Names.{name_text, group_text}
use Rattle.script_text.specs.declared.report.refusal.Refusal.{Refusal}
use Rattle.script_text.specs.declared.report.refusal.Refusal.TheVariants.{Limit, Long, Utf8, Form, NoSites, Twice, NoSite, NoMessage}

-- what is written in reply to an input, and whether something of it was refused
pub record Report : Type 0 where
  pub written : List ℕ
  pub refused : Bool

-- what a local operation does, in words: an undo at an even generation is a redo
abbrev pub turn_word : ℕ → List ℕ
turn_word g = if is_even g then codes "redo " else codes "undo "

abbrev pub made_words : OpData → List ℕ
made_words (inserting n p text c) = codes "insert " ++ name_text n
made_words (deleting n p c) = codes "delete " ++ name_text n
made_words (undoing a t g c) = turn_word g ++ group_text t g

-- `op M WORDS` and a line feed
abbrev pub op_words_text : ℕ → List ℕ → List ℕ
op_words_text message words = codes "op " ++ (decimal message ++ (codes " " ++ (words ++ codes "\n")))

-- the report line of a local operation that became a message
abbrev pub op_text : ℕ → OpData → List ℕ
op_text message o = op_words_text message (made_words o)

-- a frame of a line of bytes, `raw` or `raw2`, that is bad, with the word of the cause, or too short; each begins with the line's word
abbrev pub raw_bad_text : List ℕ → ℕ → List ℕ → ℕ → List ℕ
raw_bad_text word site cause offset =
    word ++ (codes " " ++ (decimal site ++ (codes " bad " ++ (cause ++ (codes " " ++ (decimal offset ++ codes "\n"))))))

abbrev pub raw_more_text : List ℕ → ℕ → ℕ → List ℕ
raw_more_text word site at_least =
    word ++ (codes " " ++ (decimal site ++ (codes " more " ++ (decimal at_least ++ codes "\n"))))

-- `text CHARS BYTES`, a line feed, the text, a line feed
abbrev pub shown_text : ℕ → List ℕ → List ℕ
shown_text chars text =
    codes "text " ++ (decimal chars ++ (codes " " ++ (decimal (length text) ++ (codes "\n" ++ (text ++ codes "\n")))))

-- items with commas between them; `-` for none
abbrev pub listed : List (List ℕ) → List ℕ
listed [] = codes "-"
listed (item ∷ items) = join_with_byte 44 (item ∷ items)

-- items with a comma before each
abbrev pub with_commas : {A : Type 0} → (A → List ℕ) → List A → List ℕ
with_commas text xs = flat_map (λ x. 44 ∷ text x) xs

-- `S:COUNT`
abbrev pub count_text : ℕ × ℕ → List ℕ
count_text c = decimal c.0 ++ (codes ":" ++ decimal c.1)

-- what a site has: the counts of its sites, the greatest generations of undone names, how many operations wait
abbrev pub state_text : ℕ → ContextData → ℕ → List ℕ
state_text site context waiting =
    codes "state " ++ (decimal site ++ (codes " have " ++ (listed (map count_text context.counts)
    ++ (codes " groups " ++ (listed (map (λ e. group_text e.0 e.1) context.entries)
    ++ (codes " waiting " ++ (decimal waiting ++ codes "\n")))))))

-- the word of a cause for which a script ends
abbrev pub refusal_word : Refusal → List ℕ
refusal_word Limit = codes "limit"
refusal_word Long = codes "long"
refusal_word Utf8 = codes "utf8"
refusal_word Form = codes "form"
refusal_word NoSites = codes "nosites"
refusal_word Twice = codes "twice"
refusal_word NoSite = codes "nosite"
refusal_word NoMessage = codes "nomessage"

-- `refused LINE CAUSE` and a line feed
abbrev pub refused_text : ℕ → Refusal → List ℕ
refused_text line cause = codes "refused " ++ (decimal line ++ (codes " " ++ (refusal_word cause ++ codes "\n")))
