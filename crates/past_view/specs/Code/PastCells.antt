-- Which cells of a site are of the text at a set of members, and their characters.
use Rattle.std.specs.Prelude.{ℕ, Bool, List, not, ◌&&◌, encode_utf8_all}
use Rattle.std.specs.List.{list_any}
use Rattle.op_name.specs.NameData.{NameData}
use Rattle.op_name.specs.declared.member.Member.TheVariants.{Original}
use Rattle.op_name.specs.Members.{is_even}
use Rattle.context_vector.specs.Contexts.{ContextData, has, entry_of}
use Rattle.ttf_form.specs.Cells.{CellData, chars_where}

-- the original is in the set, and in force by the undos that the set has
abbrev pub is_in_force_at : ContextData → NameData → Bool
is_in_force_at c n = has c (Original n) && is_even (entry_of c n)

-- the cell is of the text at the set: its insert is in force there, and none of its deletes is
abbrev pub is_past : ContextData → CellData → Bool
is_past c d = is_in_force_at c d.name && not (list_any (λ e. is_in_force_at c e.0) d.deleters)

-- the characters of these cells in UTF-8, of a text beside all cells
abbrev pub past_text : ContextData → List CellData → List ℕ → List ℕ
past_text c cs ts = encode_utf8_all (chars_where (is_past c) cs ts)
