use Rattle.std.proofs.Common.{◌≡◌, refl}
use Rattle.cotpad_run.specs.Commands.{command_data}
use Rattle.cotpad_run.specs.Help.{help_text, version_text}
use Rattle.cotpad_run.specs.Meeting.{serving, joining}
use Rattle.cotpad_run.specs.Table.{Reads, Links, Streams}
use Rattle.cotpad_run.specs.declared.command.Command.TheVariants as command
use Rattle.cotpad_run.proofs.Table.{same_row, not_of, replying_done, streaming_done, replay_done, gen_done, meeting_done, loop_done, saying_done}
use Rattle.cotpad_run.proofs.whole.run.Goals as goal

pub returns-in-Some-Replay-clause-run : goal.returns-in-Some-Replay-clause-run
returns-in-Some-Replay-clause-run g c =
    let k = c.in-Some-Replay in
    let f = k.field-0-is in
    let is : k.field-0 ≡ command.Replay = cc in
    record {
      done = λ asked spelled. same_row k.field-0 (command.Replay) asked _ _ _ is (k.ensures.only asked spelled)
          (replay_done _ _ _ c.answer_replay.ensures.answer refl);
      wrong = λ none. absurd (none (command_data k.field-0) k.ensures.found);
    }

pub returns-in-Some-Replay-clause-unread : goal.returns-in-Some-Replay-clause-unread
returns-in-Some-Replay-clause-unread g c = λ none.
    let k = c.in-Some-Replay in
    let f = k.field-0-is in
    let is : k.field-0 ≡ command.Replay = cc in
    absurd (not_of Reads k.field-0 (command.Replay) is (none (command_data k.field-0) k.ensures.found) refl)

pub returns-in-Some-Replay-clause-untouched : goal.returns-in-Some-Replay-clause-untouched
returns-in-Some-Replay-clause-untouched g c = λ none stopped.
    let k = c.in-Some-Replay in
    let f = k.field-0-is in
    let is : k.field-0 ≡ command.Replay = cc in
    absurd (not_of Streams k.field-0 (command.Replay) is (none (command_data k.field-0) k.ensures.found) refl)

pub returns-in-Some-Show-clause-run : goal.returns-in-Some-Show-clause-run
returns-in-Some-Show-clause-run g c =
    let k = c.in-Some-Show in
    let f = k.field-0-is in
    let is : k.field-0 ≡ command.Show = cc in
    record {
      done = λ asked spelled. same_row k.field-0 (command.Show) asked _ _ _ is (k.ensures.only asked spelled)
          (replying_done _ _ _ _ c.answer.ensures.answer refl);
      wrong = λ none. absurd (none (command_data k.field-0) k.ensures.found);
    }

pub returns-in-Some-Show-clause-unread : goal.returns-in-Some-Show-clause-unread
returns-in-Some-Show-clause-unread g c = λ none.
    let k = c.in-Some-Show in
    let f = k.field-0-is in
    let is : k.field-0 ≡ command.Show = cc in
    absurd (not_of Reads k.field-0 (command.Show) is (none (command_data k.field-0) k.ensures.found) refl)

pub returns-in-Some-Edit-clause-run : goal.returns-in-Some-Edit-clause-run
returns-in-Some-Edit-clause-run g c =
    let k = c.in-Some-Edit in
    let f = k.field-0-is in
    let is : k.field-0 ≡ command.Edit k.site k.edit = cc in
    record {
      done = λ asked spelled. same_row k.field-0 (command.Edit k.site k.edit) asked _ _ _ is (k.ensures.only asked spelled)
          (replying_done _ _ _ _ c.answer-in-Some-Edit.ensures.answer refl);
      wrong = λ none. absurd (none (command_data k.field-0) k.ensures.found);
    }

pub returns-in-Some-Edit-clause-unread : goal.returns-in-Some-Edit-clause-unread
returns-in-Some-Edit-clause-unread g c = λ none.
    let k = c.in-Some-Edit in
    let f = k.field-0-is in
    let is : k.field-0 ≡ command.Edit k.site k.edit = cc in
    absurd (not_of Reads k.field-0 (command.Edit k.site k.edit) is (none (command_data k.field-0) k.ensures.found) refl)

pub returns-in-Some-Upgrade-clause-run : goal.returns-in-Some-Upgrade-clause-run
returns-in-Some-Upgrade-clause-run g c =
    let k = c.in-Some-Upgrade in
    let f = k.field-0-is in
    let is : k.field-0 ≡ command.Upgrade = cc in
    record {
      done = λ asked spelled. same_row k.field-0 (command.Upgrade) asked _ _ _ is (k.ensures.only asked spelled)
          (replying_done _ _ _ _ c.answer-in-Some-Upgrade.ensures.answer refl);
      wrong = λ none. absurd (none (command_data k.field-0) k.ensures.found);
    }

pub returns-in-Some-Upgrade-clause-unread : goal.returns-in-Some-Upgrade-clause-unread
returns-in-Some-Upgrade-clause-unread g c = λ none.
    let k = c.in-Some-Upgrade in
    let f = k.field-0-is in
    let is : k.field-0 ≡ command.Upgrade = cc in
    absurd (not_of Reads k.field-0 (command.Upgrade) is (none (command_data k.field-0) k.ensures.found) refl)

pub returns-in-Some-History-clause-run : goal.returns-in-Some-History-clause-run
returns-in-Some-History-clause-run g c =
    let k = c.in-Some-History in
    let f = k.field-0-is in
    let is : k.field-0 ≡ command.History = cc in
    record {
      done = λ asked spelled. same_row k.field-0 (command.History) asked _ _ _ is (k.ensures.only asked spelled)
          (replying_done _ _ _ _ c.answer-in-Some-History.ensures.answer refl);
      wrong = λ none. absurd (none (command_data k.field-0) k.ensures.found);
    }

pub returns-in-Some-History-clause-unread : goal.returns-in-Some-History-clause-unread
returns-in-Some-History-clause-unread g c = λ none.
    let k = c.in-Some-History in
    let f = k.field-0-is in
    let is : k.field-0 ≡ command.History = cc in
    absurd (not_of Reads k.field-0 (command.History) is (none (command_data k.field-0) k.ensures.found) refl)

pub returns-in-Some-Digest-clause-run : goal.returns-in-Some-Digest-clause-run
returns-in-Some-Digest-clause-run g c =
    let k = c.in-Some-Digest in
    let f = k.field-0-is in
    let is : k.field-0 ≡ command.Digest = cc in
    record {
      done = λ asked spelled. same_row k.field-0 (command.Digest) asked _ _ _ is (k.ensures.only asked spelled)
          (replying_done _ _ _ _ c.answer-in-Some-Digest.ensures.answer refl);
      wrong = λ none. absurd (none (command_data k.field-0) k.ensures.found);
    }

pub returns-in-Some-Digest-clause-unread : goal.returns-in-Some-Digest-clause-unread
returns-in-Some-Digest-clause-unread g c = λ none.
    let k = c.in-Some-Digest in
    let f = k.field-0-is in
    let is : k.field-0 ≡ command.Digest = cc in
    absurd (not_of Reads k.field-0 (command.Digest) is (none (command_data k.field-0) k.ensures.found) refl)

pub returns-in-Some-Explain-clause-run : goal.returns-in-Some-Explain-clause-run
returns-in-Some-Explain-clause-run g c =
    let k = c.in-Some-Explain in
    let f = k.field-0-is in
    let is : k.field-0 ≡ command.Explain k.member = cc in
    record {
      done = λ asked spelled. same_row k.field-0 (command.Explain k.member) asked _ _ _ is (k.ensures.only asked spelled)
          (replying_done _ _ _ _ c.answer-in-Some-Explain.ensures.answer refl);
      wrong = λ none. absurd (none (command_data k.field-0) k.ensures.found);
    }

pub returns-in-Some-Explain-clause-unread : goal.returns-in-Some-Explain-clause-unread
returns-in-Some-Explain-clause-unread g c = λ none.
    let k = c.in-Some-Explain in
    let f = k.field-0-is in
    let is : k.field-0 ≡ command.Explain k.member = cc in
    absurd (not_of Reads k.field-0 (command.Explain k.member) is (none (command_data k.field-0) k.ensures.found) refl)

pub returns-in-Some-Where-clause-run : goal.returns-in-Some-Where-clause-run
returns-in-Some-Where-clause-run g c =
    let k = c.in-Some-Where in
    let f = k.field-0-is in
    let is : k.field-0 ≡ command.Where k.place = cc in
    record {
      done = λ asked spelled. same_row k.field-0 (command.Where k.place) asked _ _ _ is (k.ensures.only asked spelled)
          (replying_done _ _ _ _ c.answer-in-Some-Where.ensures.answer refl);
      wrong = λ none. absurd (none (command_data k.field-0) k.ensures.found);
    }

pub returns-in-Some-Where-clause-unread : goal.returns-in-Some-Where-clause-unread
returns-in-Some-Where-clause-unread g c = λ none.
    let k = c.in-Some-Where in
    let f = k.field-0-is in
    let is : k.field-0 ≡ command.Where k.place = cc in
    absurd (not_of Reads k.field-0 (command.Where k.place) is (none (command_data k.field-0) k.ensures.found) refl)

pub returns-in-Some-Find-clause-run : goal.returns-in-Some-Find-clause-run
returns-in-Some-Find-clause-run g c =
    let k = c.in-Some-Find in
    let f = k.field-0-is in
    let is : k.field-0 ≡ command.Find k.line k.column = cc in
    record {
      done = λ asked spelled. same_row k.field-0 (command.Find k.line k.column) asked _ _ _ is (k.ensures.only asked spelled)
          (replying_done _ _ _ _ c.answer-in-Some-Find.ensures.answer refl);
      wrong = λ none. absurd (none (command_data k.field-0) k.ensures.found);
    }

pub returns-in-Some-Find-clause-unread : goal.returns-in-Some-Find-clause-unread
returns-in-Some-Find-clause-unread g c = λ none.
    let k = c.in-Some-Find in
    let f = k.field-0-is in
    let is : k.field-0 ≡ command.Find k.line k.column = cc in
    absurd (not_of Reads k.field-0 (command.Find k.line k.column) is (none (command_data k.field-0) k.ensures.found) refl)

pub returns-in-Some-At-clause-run : goal.returns-in-Some-At-clause-run
returns-in-Some-At-clause-run g c =
    let k = c.in-Some-At in
    let f = k.field-0-is in
    let is : k.field-0 ≡ command.At k.counts k.groups = cc in
    record {
      done = λ asked spelled. same_row k.field-0 (command.At k.counts k.groups) asked _ _ _ is (k.ensures.only asked spelled)
          (replying_done _ _ _ _ c.answer-in-Some-At.ensures.answer refl);
      wrong = λ none. absurd (none (command_data k.field-0) k.ensures.found);
    }

pub returns-in-Some-At-clause-unread : goal.returns-in-Some-At-clause-unread
returns-in-Some-At-clause-unread g c = λ none.
    let k = c.in-Some-At in
    let f = k.field-0-is in
    let is : k.field-0 ≡ command.At k.counts k.groups = cc in
    absurd (not_of Reads k.field-0 (command.At k.counts k.groups) is (none (command_data k.field-0) k.ensures.found) refl)

pub returns-in-Some-Playback-clause-run : goal.returns-in-Some-Playback-clause-run
returns-in-Some-Playback-clause-run g c =
    let k = c.in-Some-Playback in
    let f = k.field-0-is in
    let is : k.field-0 ≡ command.Playback = cc in
    record {
      done = λ asked spelled. same_row k.field-0 (command.Playback) asked _ _ _ is (k.ensures.only asked spelled)
          (streaming_done _ _ _ _ c.answer_played.ensures.answer refl);
      wrong = λ none. absurd (none (command_data k.field-0) k.ensures.found);
    }

pub returns-in-Some-Playback-clause-unread : goal.returns-in-Some-Playback-clause-unread
returns-in-Some-Playback-clause-unread g c = λ none.
    let k = c.in-Some-Playback in
    let f = k.field-0-is in
    let is : k.field-0 ≡ command.Playback = cc in
    absurd (not_of Reads k.field-0 (command.Playback) is (none (command_data k.field-0) k.ensures.found) refl)

pub returns-in-Some-Playback-clause-untouched : goal.returns-in-Some-Playback-clause-untouched
returns-in-Some-Playback-clause-untouched g c = λ none stopped.
    let k = c.in-Some-Playback in
    let f = k.field-0-is in
    let is : k.field-0 ≡ command.Playback = cc in
    absurd (not_of Streams k.field-0 (command.Playback) is (none (command_data k.field-0) k.ensures.found) refl)

pub returns-in-Some-Gen-clause-run : goal.returns-in-Some-Gen-clause-run
returns-in-Some-Gen-clause-run g c =
    let k = c.in-Some-Gen in
    let f = k.field-0-is in
    let is : k.field-0 ≡ command.Gen k.start k.events k.window = cc in
    record {
      done = λ asked spelled. same_row k.field-0 (command.Gen k.start k.events k.window) asked _ _ _ is (k.ensures.only asked spelled)
          (gen_done k.start k.events k.window _ _ _
          (c.answer_generated.ensures.answer (g.S.Source.left c.args.source.now) (g.S.Source.faults c.args.source.now))
          c.answer_generated.ensures.counted refl refl);
      wrong = λ none. absurd (none (command_data k.field-0) k.ensures.found);
    }

pub returns-in-Some-Serve-clause-run : goal.returns-in-Some-Serve-clause-run
returns-in-Some-Serve-clause-run g c =
    let k = c.in-Some-Serve in
    let f = k.field-0-is in
    let is : k.field-0 ≡ command.Serve k.port = cc in
    record {
      done = λ asked spelled. same_row k.field-0 (command.Serve k.port) asked _ _ _ is (k.ensures.only asked spelled)
          (meeting_done serving k.port _ _ _ c.answer_met.ensures.answer c.answer_met.ensures.complete);
      wrong = λ none. absurd (none (command_data k.field-0) k.ensures.found);
    }

pub returns-in-Some-Serve-clause-unread : goal.returns-in-Some-Serve-clause-unread
returns-in-Some-Serve-clause-unread g c = λ none.
    let k = c.in-Some-Serve in
    let f = k.field-0-is in
    let is : k.field-0 ≡ command.Serve k.port = cc in
    absurd (not_of Reads k.field-0 (command.Serve k.port) is (none (command_data k.field-0) k.ensures.found) refl)

pub returns-in-Some-Serve-clause-unasked : goal.returns-in-Some-Serve-clause-unasked
returns-in-Some-Serve-clause-unasked g c = λ none.
    let k = c.in-Some-Serve in
    let f = k.field-0-is in
    let is : k.field-0 ≡ command.Serve k.port = cc in
    absurd (not_of Links k.field-0 (command.Serve k.port) is (none (command_data k.field-0) k.ensures.found) refl)

pub returns-in-Some-Join-clause-run : goal.returns-in-Some-Join-clause-run
returns-in-Some-Join-clause-run g c =
    let k = c.in-Some-Join in
    let f = k.field-0-is in
    let is : k.field-0 ≡ command.Join k.port = cc in
    record {
      done = λ asked spelled. same_row k.field-0 (command.Join k.port) asked _ _ _ is (k.ensures.only asked spelled)
          (meeting_done joining k.port _ _ _ c.answer_met-in-Some-Join.ensures.answer c.answer_met-in-Some-Join.ensures.complete);
      wrong = λ none. absurd (none (command_data k.field-0) k.ensures.found);
    }

pub returns-in-Some-Join-clause-unread : goal.returns-in-Some-Join-clause-unread
returns-in-Some-Join-clause-unread g c = λ none.
    let k = c.in-Some-Join in
    let f = k.field-0-is in
    let is : k.field-0 ≡ command.Join k.port = cc in
    absurd (not_of Reads k.field-0 (command.Join k.port) is (none (command_data k.field-0) k.ensures.found) refl)

pub returns-in-Some-Join-clause-unasked : goal.returns-in-Some-Join-clause-unasked
returns-in-Some-Join-clause-unasked g c = λ none.
    let k = c.in-Some-Join in
    let f = k.field-0-is in
    let is : k.field-0 ≡ command.Join k.port = cc in
    absurd (not_of Links k.field-0 (command.Join k.port) is (none (command_data k.field-0) k.ensures.found) refl)

pub returns-in-Some-Loop-clause-run : goal.returns-in-Some-Loop-clause-run
returns-in-Some-Loop-clause-run g c =
    let k = c.in-Some-Loop in
    let f = k.field-0-is in
    let is : k.field-0 ≡ command.Loop k.start = cc in
    record {
      done = λ asked spelled. same_row k.field-0 (command.Loop k.start) asked _ _ _ is (k.ensures.only asked spelled)
          (loop_done k.start _ _ _ (c.answer_looped.ensures.answer (g.S.Source.left c.args.source.now)
          (g.S.Source.faults c.args.source.now))
          (c.answer_looped.ensures.told (g.S.Source.left c.args.source.now) (g.S.Source.faults c.args.source.now)) refl);
      wrong = λ none. absurd (none (command_data k.field-0) k.ensures.found);
    }

pub returns-in-Some-Loop-clause-unasked : goal.returns-in-Some-Loop-clause-unasked
returns-in-Some-Loop-clause-unasked g c = λ none.
    let k = c.in-Some-Loop in
    let f = k.field-0-is in
    let is : k.field-0 ≡ command.Loop k.start = cc in
    absurd (not_of Links k.field-0 (command.Loop k.start) is (none (command_data k.field-0) k.ensures.found) refl)

pub returns-in-Some-Help-clause-run : goal.returns-in-Some-Help-clause-run
returns-in-Some-Help-clause-run g c =
    let k = c.in-Some-Help in
    let f = k.field-0-is in
    let is : k.field-0 ≡ command.Help = cc in
    record {
      done = λ asked spelled. same_row k.field-0 command.Help asked _ _ _ is (k.ensures.only asked spelled)
          (saying_done help_text _ _ _ (c.answer_help.ensures.answer (g.S.Source.left c.args.source.now)
          (g.S.Source.faults c.args.source.now)) refl refl);
      wrong = λ none. absurd (none (command_data k.field-0) k.ensures.found);
    }

pub returns-in-Some-DashedHelp-clause-run : goal.returns-in-Some-DashedHelp-clause-run
returns-in-Some-DashedHelp-clause-run g c =
    let k = c.in-Some-DashedHelp in
    let f = k.field-0-is in
    let is : k.field-0 ≡ command.DashedHelp = cc in
    record {
      done = λ asked spelled. same_row k.field-0 command.DashedHelp asked _ _ _ is (k.ensures.only asked spelled)
          (saying_done help_text _ _ _ (c.answer_help-in-Some-DashedHelp.ensures.answer (g.S.Source.left c.args.source.now)
          (g.S.Source.faults c.args.source.now)) refl refl);
      wrong = λ none. absurd (none (command_data k.field-0) k.ensures.found);
    }

pub returns-in-Some-Version-clause-run : goal.returns-in-Some-Version-clause-run
returns-in-Some-Version-clause-run g c =
    let k = c.in-Some-Version in
    let f = k.field-0-is in
    let is : k.field-0 ≡ command.Version = cc in
    record {
      done = λ asked spelled. same_row k.field-0 command.Version asked _ _ _ is (k.ensures.only asked spelled)
          (saying_done version_text _ _ _ (c.answer_version.ensures.answer (g.S.Source.left c.args.source.now)
          (g.S.Source.faults c.args.source.now)) refl refl);
      wrong = λ none. absurd (none (command_data k.field-0) k.ensures.found);
    }

pub returns-in-Some-DashedVersion-clause-run : goal.returns-in-Some-DashedVersion-clause-run
returns-in-Some-DashedVersion-clause-run g c =
    let k = c.in-Some-DashedVersion in
    let f = k.field-0-is in
    let is : k.field-0 ≡ command.DashedVersion = cc in
    record {
      done = λ asked spelled. same_row k.field-0 command.DashedVersion asked _ _ _ is (k.ensures.only asked spelled)
          (saying_done version_text _ _ _ (c.answer_version-in-Some-DashedVersion.ensures.answer (g.S.Source.left c.args.source.now)
          (g.S.Source.faults c.args.source.now)) refl refl);
      wrong = λ none. absurd (none (command_data k.field-0) k.ensures.found);
    }

pub returns-in-None-clause-run : goal.returns-in-None-clause-run
returns-in-None-clause-run g c = record {
  done = λ asked spelled. let wrong = c.in-None.ensures.only asked spelled in absurd cc;
  wrong = λ none. c.refuse_words.ensures.answer (g.S.Source.left c.args.source.now) (g.S.Source.faults c.args.source.now);
}
