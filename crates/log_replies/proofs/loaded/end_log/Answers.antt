use Rattle.std.proofs.Common.{ap}
use Rattle.std.specs.Prelude.{Err}
use Rattle.cot_site.specs.Sites.{state_of}
use Rattle.log_replies.proofs.Logs.{loaded, refused}
use Rattle.log_replies.proofs.loaded.end_log.Goals as goal

pub returns-in-Ok-finish-clause-loaded : goal.returns-in-Ok-finish-clause-loaded
returns-in-Ok-finish-clause-loaded c = λ site bytes fed.
    loaded site c.args.read bytes c.args.reader (state_of c.in-Ok-finish.site) c.if-read-gt-MAX_INPUT.false c.in-Ok-finish.ensures.loaded
    fed

pub returns-in-Ok-refused_log_line-clause-refused : goal.returns-in-Ok-refused_log_line-clause-refused
returns-in-Ok-refused_log_line-clause-refused c = λ site bytes fed.
    refused site c.args.read bytes c.args.out.now.items c.refused_log_line.new.out.items c.args.reader c.in-Err-finish.why
    c.if-read-gt-MAX_INPUT.false (λ is. c.in-Err-finish.ensures.memory _ fed.kept (ap Err is)) c.in-Err-finish.ensures.refused
    c.in-Ok-refused_log_line.ensures.ok fed
