-- The table of lines, as it is read: a word, and a reader of the fields after it.
use Rattle.std.specs.Prelude.{ℕ, List, [], ◌∷◌, codes, bytes_eq, Option, None, option_map, if◌then◌else◌}
use Rattle.script_text.specs.declared.reading.line.Line.{Line}
use Rattle.script_text.specs.declared.reading.line.Line.TheVariants.{Sites, Ins, Run, Nl, Del, Undo, Redo, Give, All, Raw, Raw2, Show, State}
use Rattle.script_text.specs.Fields.{pair_by, count_of, site_of, number_of, name_of, text_of, octets_of}

unfoldable pub sites_row : List ℕ → Option Line
sites_row bs = option_map (λ n. Sites n) (count_of bs)

unfoldable pub ins_row : List ℕ → Option Line
ins_row bs = option_map (λ x. Ins x.0 x.1.0 x.1.1) (pair_by 32 site_of (pair_by 32 number_of text_of) bs)

unfoldable pub run_row : List ℕ → Option Line
run_row bs = option_map (λ x. Run x.0 x.1.0 x.1.1) (pair_by 32 site_of (pair_by 32 number_of text_of) bs)

unfoldable pub nl_row : List ℕ → Option Line
nl_row bs = option_map (λ x. Nl x.0 x.1) (pair_by 32 site_of number_of bs)

unfoldable pub del_row : List ℕ → Option Line
del_row bs = option_map (λ x. Del x.0 x.1) (pair_by 32 site_of number_of bs)

unfoldable pub undo_row : List ℕ → Option Line
undo_row bs = option_map (λ x. Undo x.0 x.1) (pair_by 32 site_of name_of bs)

unfoldable pub redo_row : List ℕ → Option Line
redo_row bs = option_map (λ x. Redo x.0 x.1) (pair_by 32 site_of name_of bs)

unfoldable pub give_row : List ℕ → Option Line
give_row bs = option_map (λ x. Give x.0 x.1) (pair_by 32 site_of number_of bs)

unfoldable pub all_row : List ℕ → Option Line
all_row bs = option_map (λ s. All s) (site_of bs)

unfoldable pub raw_row : List ℕ → Option Line
raw_row bs = option_map (λ x. Raw x.0 x.1) (pair_by 32 site_of octets_of bs)

unfoldable pub raw2_row : List ℕ → Option Line
raw2_row bs = option_map (λ x. Raw2 x.0 x.1) (pair_by 32 site_of octets_of bs)

unfoldable pub show_row : List ℕ → Option Line
show_row bs = option_map (λ s. Show s) (site_of bs)

unfoldable pub state_row : List ℕ → Option Line
state_row bs = option_map (λ s. State s) (site_of bs)

-- a word, with the reader of its fields
abbrev pub Row : Type 0
Row = List ℕ × (List ℕ → Option Line)

-- the rows without a text and without bytes
abbrev pub plain_table : List Row
plain_table =
    (codes "sites", sites_row) ∷ (codes "nl", nl_row) ∷ (codes "del", del_row) ∷ (codes "undo", undo_row) ∷ (codes "redo", redo_row)
    ∷ (codes "give", give_row) ∷ (codes "all", all_row) ∷ (codes "show", show_row) ∷ (codes "state", state_row) ∷ []

abbrev pub table : List Row
table = (codes "ins", ins_row) ∷ (codes "run", run_row) ∷ (codes "raw", raw_row) ∷ (codes "raw2", raw2_row) ∷ plain_table

-- what the row of this word reads
abbrev pub row_in : List Row → List ℕ → List ℕ → Option Line
row_in [] word fields = None
row_in (r ∷ rs) word fields = if bytes_eq word r.0 then r.1 fields else row_in rs word fields
