-- The values that marks give to a cell: of each kind that of the last mark in force that covers it.
use Rattle.std.specs.Prelude.{◌≡◌, ℕ, Bool, true, false, List, ◌&&◌, Option, Some, None, filter, fold, map, option_map, if◌then◌else◌}
use Rattle.op_name.specs.NameData.{NameData}
use Rattle.op_name.specs.Members.{is_even}
use Rattle.context_vector.specs.Contexts.{entry_in}
use Rattle.context_diff.specs.Operations.{OpData}
use Rattle.context_diff.specs.Replays.{Cell}
use Rattle.ttf_form.specs.Families.{IsIn}
use Rattle.char_marks.specs.declared.value.Value.{Value}
use Rattle.char_marks.specs.declared.value.Value.TheVariants.{Bold, Italic, Colour}
use Rattle.char_marks.specs.declared.value.Kind.{Kind}
use Rattle.char_marks.specs.declared.value.Kind.TheVariants.{Weight, Slope, Hue}
use Rattle.char_marks.specs.declared.value.Values.{Values}
use Rattle.char_marks.specs.Marks.{MarkData, KeptData, MarksData, is_before}
use Rattle.char_marks.specs.Covered.{covers_cell}

-- whether a value is of a kind
abbrev pub is_of : Kind → Value → Bool
is_of Weight (Bold b) = true
is_of Weight (Italic b) = false
is_of Weight (Colour c) = false
is_of Slope (Bold b) = false
is_of Slope (Italic b) = true
is_of Slope (Colour c) = false
is_of Hue (Bold b) = false
is_of Hue (Italic b) = false
is_of Hue (Colour c) = true

-- a mark is in force: not undone, or redone
abbrev pub is_in_force : List (NameData × ℕ) → NameData → Bool
is_in_force raised n = is_even (entry_in raised n)

-- the mark is of the kind and in force, and covers the cell
abbrev pub is_borne : Kind → List OpData → List (NameData × ℕ) → Cell → MarkData → Bool
is_borne kind h raised c m = is_of kind m.value && (is_in_force raised m.name && covers_cell h m c)

-- of two marks the one that the other is before
abbrev pub later_of : Option MarkData → MarkData → Option MarkData
later_of None m = Some m
later_of (Some k) m = if is_before k m then Some m else Some k

-- the last of these marks by rank, site and number, if there is one
abbrev pub last_of : List MarkData → Option MarkData
last_of ms = fold later_of None ms

-- the marks, without their end cells
abbrev pub marks_of : List KeptData → List MarkData
marks_of ks = map (λ k. k.mark) ks

-- ValueOf: the value of the last mark of the kind that is in force and covers the cell; without one none
abbrev pub value_of : Kind → List OpData → MarksData → Cell → Option Value
value_of kind h s c = option_map (λ m. m.value) (last_of (filter (is_borne kind h s.raised c) (marks_of s.kept)))

-- without a mark a cell isn't bold, not italic, and has no colour
abbrev pub is_bold : Option Value → Bool
is_bold None = false
is_bold (Some (Bold b)) = b
is_bold (Some (Italic b)) = false
is_bold (Some (Colour c)) = false

abbrev pub is_italic : Option Value → Bool
is_italic None = false
is_italic (Some (Bold b)) = false
is_italic (Some (Italic b)) = b
is_italic (Some (Colour c)) = false

abbrev pub colour_in : Option Value → Option ℕ
colour_in None = None
colour_in (Some (Bold b)) = None
colour_in (Some (Italic b)) = None
colour_in (Some (Colour c)) = Some c

-- the values of the cell
abbrev pub values_of : List OpData → MarksData → Cell → Values
values_of h s c = record {
  bold = is_bold (value_of Weight h s c);
  italic = is_italic (value_of Slope h s c);
  colour = colour_in (value_of Hue h s c);
}

-- the same in words: the mark is among these, and none of them comes after it
pub record IsLast (ms : List MarkData) (m : MarkData) : Type 0 where
  pub there : IsIn m ms
  pub last : (k : MarkData) → IsIn k ms → is_before m k ≡ false
