use Rattle.std.specs.Prelude.{codes}
use Rattle.session_log.specs.Words.{log_bad_words}
use Rattle.session_log.proofs.Appending.{in_three}
use Rattle.session_log.proofs.words.line_parts.Goals as goal

pub returns-clause-ok : goal.returns-clause-ok
returns-clause-ok c =
    in_three c.put-2.result c.args.out.now.items (codes "refused log ") (log_bad_words c.args.why) (codes "\n") c.put.new.out.items
    c.put_words.new.out.items c.put-2.new.out.items c.put-2.ensures.ok c.in_ok-put_words.ensures.ok c.in_ok-put.ensures.ok
