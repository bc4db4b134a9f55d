use Rattle.script_text.proofs.MemberLaws.{member_only}
use Rattle.script_text.proofs.reading.words.parse_member.Goals as goal

pub returns-clause-only : goal.returns-clause-only
returns-clause-only c = λ m is. member_only c.args.text.now c.member.result c.member.ensures m is
