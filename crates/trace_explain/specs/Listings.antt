-- The listing rule: which lines the trace of a member has, and in which order.
use Rattle.std.specs.Prelude.{◌≡◌, ◌≢◌, ◌+◌, List, [], ◌∷◌, ◌++◌, length, Option, Some, None, if◌then◌else◌}
use Rattle.op_name.specs.declared.member.Member.{Member}
use Rattle.context_vector.specs.Vectors.{lowered}
use Rattle.context_diff.specs.Operations.{OpData}
use Rattle.context_diff.specs.Bases.{base_context_of}
use Rattle.context_diff.specs.Differences.{difference_of}
use Rattle.ttf_form.specs.declared.form.Form.{Form}
use Rattle.ttf_form.specs.Forms.{form_over}
use Rattle.form_cache.specs.Keys.{KeyData, key_eq}
use Rattle.undo_group.specs.BaseForms.{base_form}
use Rattle.trace_explain.specs.declared.line.TraceLine.{TraceLine}
use Rattle.trace_explain.specs.declared.line.TraceLine.TheVariants.{Base, Step}
use Rattle.trace_explain.specs.declared.listing.Listed.{Listed}
use Rattle.trace_explain.specs.Traces.{pair, context_before}

-- the lines so far, and of each pair of a member and a context that is listed, its line's number and form
pub record ListingData : Type 0 where
  pub lines : List TraceLine
  pub at : KeyData → Option Listed

-- the listing without lines
abbrev pub no_lines : ListingData
no_lines = record { lines = []; at = λ k. None }

-- the number and the form of the line that comes next
abbrev pub listed_next : ListingData → Form → Listed
listed_next l f = record { number = length l.lines + 1; form = f }

-- the listing with one line more, which serves this pair from now on
abbrev pub with_line : ListingData → KeyData → TraceLine → Listed → ListingData
with_line l k line a = record {
  lines = l.lines ++ line ∷ [];
  at = λ q. if key_eq k q then Some a else l.at q;
}

-- x is the last member, in the history's order, of the pair's context that its member's base context lacks
pub record IsLastBetween (h : List OpData) (k : KeyData) (x : Member) : Type 0 where
  pub earlier : List Member
  pub last : difference_of h (base_context_of h k.member) k.context ≡ earlier ++ x ∷ []

-- the member and the context without x
abbrev pub left_of : KeyData → Member → KeyData
left_of k x = pair k.member (lowered k.context x)

-- x and the context without x
abbrev pub over_of : KeyData → Member → KeyData
over_of k x = pair x (lowered k.context x)

module _ (h : List OpData) where
  -- the line of a pair's base form
  abbrev pub base_line : KeyData → TraceLine
  base_line k = Base k.member (base_form h k.member)

  -- the line of the step that includes the form of one listed line in that of another
  abbrev pub step_line : KeyData → Listed → Listed → TraceLine
  step_line k left over = Step left.number over.number k.member (form_over left.form over.form)

  -- the listing with the step of two listed lines, and that step
  abbrev pub stepped : ListingData → Listed → Listed → Listed
  stepped l left over = listed_next l (form_over left.form over.form)

  abbrev pub with_step : ListingData → KeyData → Listed → Listed → ListingData
  with_step l k left over = with_line l k (step_line k left over) (stepped l left over)

  -- the base of a pair, and the listing with it
  abbrev pub based : ListingData → KeyData → Listed
  based l k = listed_next l (base_form h k.member)

  abbrev pub with_base : ListingData → KeyData → ListingData
  with_base l k = with_line l k (base_line k) (based l k)

  -- from the one listing, the pair is listed, which gives the other, and its line is this one: its line serves if it is listed; at
  -- its base context it gets a line of its base form; else, with x the last member between, the member is listed without x, then x is
  -- listed there, and then comes the step of the two
  pub data Lists : ListingData → KeyData → ListingData → Listed → Type 0 where
    there : {l : ListingData} {k : KeyData} {n : ListingData} {a : Listed} → l.at k ≡ Some a → n ≡ l → Lists l k n a
    at_base : {l : ListingData} {k : KeyData} {n : ListingData} {a : Listed} → l.at k ≡ None → k.context ≡ base_context_of h k.member
        → n ≡ with_base l k → a ≡ based l k → Lists l k n a
    by_step : {l : ListingData} {k : KeyData} {n : ListingData} {a : Listed} (x : Member) (one two : ListingData) (left over : Listed)
        → l.at k ≡ None → k.context ≢ base_context_of h k.member → IsLastBetween h k x → Lists l (left_of k x) one left
        → Lists one (over_of k x) two over → n ≡ with_step two k left over → a ≡ stepped two left over → Lists l k n a

-- the lines that the listing rule gives for m at all members that the history holds before m
pub record IsTraceOf (h : List OpData) (m : Member) (lines : List TraceLine) : Type 0 where
  pub whole : ListingData
  pub last : Listed
  pub listed : Lists h no_lines (pair m (context_before h m)) whole last
  pub lines_are : lines ≡ whole.lines
