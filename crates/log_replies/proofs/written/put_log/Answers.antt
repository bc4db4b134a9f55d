use Rattle.log_replies.proofs.WrittenLogs.{log_short, log_long}
use Rattle.log_replies.proofs.written.put_log.Goals as goal
