-- Histories with the same operations give the same values.
use Rattle.std.proofs.Common.{Bool, List, Option, filter, take, drop, option_map, ap}
use Rattle.std.specs.Prelude.{◌&&◌}
use Rattle.std.specs.List.{list_any}
use Rattle.op_name.specs.declared.member.Member.TheVariants.{Original}
use Rattle.context_vector.specs.Contexts.{has}
use Rattle.context_diff.specs.Replays.{Cell, seen}
use Rattle.fixed_replay.proofs.CallerLemmas.{same_replay, told_apart}
use Rattle.char_marks.specs.declared.value.Value.{Value}
use Rattle.char_marks.specs.declared.value.Kind.{Kind}
use Rattle.char_marks.specs.declared.value.Kind.TheVariants.{Weight, Slope, Hue}
use Rattle.char_marks.specs.declared.value.Values.{Values}
use Rattle.char_marks.specs.Marks.{MarkData, MarksData}
use Rattle.char_marks.specs.Covered.{is_cell}
use Rattle.char_marks.specs.Values.{is_of, is_in_force, last_of, marks_of, is_bold, is_italic, colour_in}
use Rattle.char_marks.specs.Laws.{SameOperationsSameValues}

-- all that the values ask of a history is its replay
abbrev is_covered : List Cell → Cell → MarkData → Bool
is_covered cells c m = list_any (is_cell c) (take m.len (drop m.place (seen (λ n. has m.context (Original n)) cells)))

abbrev value_in : List Cell → MarksData → Cell → Kind → Option Value
value_in cells s c kind =
    option_map (λ (m : MarkData). m.value)
    (last_of (filter (λ (m : MarkData). is_of kind m.value && (is_in_force s.raised m.name && is_covered cells c m)) (marks_of s.kept)))

abbrev values_in : List Cell → MarksData → Cell → Values
values_in cells s c = record {
  bold = is_bold (value_in cells s c Weight);
  italic = is_italic (value_in cells s c Slope);
  colour = colour_in (value_in cells s c Hue);
}

pub same_values : SameOperationsSameValues
same_values h k s c v w same =
    ap (λ (cells : List Cell). values_in cells s c) (same_replay h k (told_apart h v) (told_apart k w) same)
