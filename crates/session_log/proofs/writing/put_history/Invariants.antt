use Rattle.std.proofs.Common.{◌≡◌, ◌++◌, take}
use Rattle.wire_codec.specs.declared.version.Version.TheVariants.{Two}
use Rattle.session_log.specs.Logs.{frames}
use Rattle.session_log.proofs.writing.put_history.Given as goal

-- the frames of the first ones are appended
abbrev pub invariant-loop-i : goal.invariant-loop-i
invariant-loop-i l = l.out.items ≡ l.fn.out.items ++ frames Two (take l.i l.book.ops)
