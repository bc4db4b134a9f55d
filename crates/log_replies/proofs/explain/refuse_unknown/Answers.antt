use Rattle.std.specs.Prelude.{codes}
use Rattle.site_answers.specs.Names.{member_text}
use Rattle.log_replies.proofs.Traces.{three_written}
use Rattle.log_replies.proofs.explain.refuse_unknown.Goals as goal

pub returns : goal.returns
returns c =
    three_written c.args.out.now.items (codes "refused unknown ") (member_text c.args.member) (codes "\n")
    c.extend_from_slice.new.self.items c.put_member.new.out.items c.extend_from_slice-2.new.self.items
    c.in_ok-extend_from_slice.ensures.items c.in_ok-put_member.ensures.ok c.in_ok-extend_from_slice-2.ensures.items
