-- The words of a verdict on an operation, and of the reason for which a local one is refused, over plain values.
use Rattle.std.specs.Prelude.{ℕ, List, [], ◌++◌, decimal, codes}
use Rattle.op_name.specs.NameData.{NameData}
use Rattle.op_name.specs.declared.member.Member.{Member}
use Rattle.site_answers.specs.declared.verdict.Verdict.{Verdict}
use Rattle.site_answers.specs.declared.verdict.Verdict.TheVariants.{Repeat, Forged, Waits, NotClosed, PlaceOut, Integrated}
use Rattle.site_answers.specs.declared.local.Local.{Local}
use Rattle.site_answers.specs.declared.local.Local.TheVariants as local
use Rattle.site_answers.specs.Names.{name_text, member_text}

-- a forged operation is named by its name
abbrev pub forged_text : NameData → List ℕ
forged_text name = codes "forged " ++ name_text name

-- the words of a verdict on the operation of this member
abbrev pub verdict_text : Member → Verdict → List ℕ
verdict_text m Repeat = codes "repeat " ++ member_text m
verdict_text m (Forged name) = forged_text name
verdict_text m (Waits missing) = codes "waits " ++ (member_text m ++ (codes " " ++ member_text missing))
verdict_text m (NotClosed site) = codes "notclosed " ++ (member_text m ++ (codes " " ++ decimal site))
verdict_text m (PlaceOut place cells) =
    codes "placeout " ++ (member_text m ++ (codes " " ++ (decimal place ++ (codes " " ++ decimal cells))))
verdict_text m Integrated = codes "integrated " ++ member_text m

-- why a local operation was refused; out of memory is no reason of a report
abbrev pub reason_text : Local → List ℕ
reason_text (local.PlaceOut place visible) = codes "place " ++ (decimal place ++ (codes " " ++ decimal visible))
reason_text (local.Unknown name) = codes "unknown " ++ name_text name
reason_text (local.NotInForce g) = codes "notinforce " ++ decimal g
reason_text (local.InForce g) = codes "inforce " ++ decimal g
reason_text local.GenerationFull = codes "generationfull"
reason_text local.NumberFull = codes "numberfull"
reason_text (local.ContextFull entries) = codes "contextfull " ++ decimal entries
reason_text local.Memory = []
