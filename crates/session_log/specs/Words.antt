-- The line that says why a log was refused.
use Rattle.std.specs.Prelude.{ℕ, List, [], ◌++◌, codes, decimal}
use Rattle.wire_codec.specs.Causes.{cause_word}
use Rattle.site_answers.specs.Words.{verdict_text}
use Rattle.session_log.specs.declared.log_bad.LogBad.{LogBad}
use Rattle.session_log.specs.declared.log_bad.LogBad.TheVariants as bad

-- why a log was refused, in words; out of memory is no reason to print
abbrev pub log_bad_words : LogBad → List ℕ
log_bad_words bad.Header = codes "header"
log_bad_words (bad.Cut offset) = codes "cut " ++ decimal offset
log_bad_words (bad.Bad offset cause) = codes "bad " ++ (decimal offset ++ (codes " " ++ cause_word cause))
log_bad_words (bad.Refused offset member verdict) = codes "op " ++ (decimal offset ++ (codes " " ++ verdict_text member verdict))
log_bad_words bad.Memory = []

-- `refused log WORDS` and a line feed
abbrev pub refused_log_text : LogBad → List ℕ
refused_log_text why = codes "refused log " ++ (log_bad_words why ++ codes "\n")
