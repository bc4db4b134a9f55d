use Rattle.std.proofs.Common.{◌++◌, [], ap, sym, subst, None, Some, Ok}
use Rattle.script_text.specs.LeftLines.{InputData}
use Rattle.script_text.specs.Streams.{TakesLine}
use Rattle.session_replay.specs.declared.script.Next.TheVariants.{Done, Refused}
use Rattle.session_replay.specs.ReaderData.{ReaderData}
use Rattle.session_replay.specs.Readers.{Keeps, NextDoesSomething}
use Rattle.session_replay.proofs.Needed.{on_err}
use Rattle.session_replay.proofs.NextLine.{err_from, read_does, unread_does}
use Rattle.session_replay.proofs.Reading.{awaits, line_goes, unread_goes, told_by}
use Rattle.session_replay.proofs.script.ScriptReader.advance.Goals as goal

pub returns-in-Ok-None-clause-awaited : goal.returns-in-Ok-None-clause-awaited
returns-in-Ok-None-clause-awaited c = λ e all before k.
    let r = c.self.inside in
    let old : ReaderData = record { input = r.lines; number = r.number; session = r.running.session } in
    let takes : TakesLine r.lines (Ok None) c.take.new.self = rw c.in-Ok-None.field-0-is at c.in-Ok-None.ensures.taken in
    awaits old _ all _ (ap (λ (i : InputData). record { input = i; number = r.number; session = r.running.session }) takes.1) takes.0
    (subst (λ (x : ReaderData). Keeps x all (before ++ c.args.out.now.items)) (sym c.self.view_is) k)

pub returns-in-Ok-Some-clause-done : goal.returns-in-Ok-Some-clause-done
returns-in-Ok-Some-clause-done c = λ e all before k.
    let r = c.self.inside in
    let old : ReaderData = record { input = r.lines; number = r.number; session = r.running.session } in
    let new : ReaderData = record { input = c.take.new.self; number = c.do_line.new.number; session = c.do_line.new.running.session } in
    let takes : TakesLine r.lines (Ok (Some c.in-Ok-Some.line)) c.take.new.self =
    rw c.in-Ok-Some.field-0-is at c.in-Ok-Some.ensures.taken in
    line_goes c.do_line.result Done old new c.in-Ok-Some.line c.args.out.now.items c.do_line.new.out.items takes c.do_line.ensures.report
    c.do_line.ensures.number e all before
    (subst (λ (x : ReaderData). Keeps x all (before ++ c.args.out.now.items)) (sym c.self.view_is) k)

pub returns-in-Ok-Some-clause-awaited : goal.returns-in-Ok-Some-clause-awaited
returns-in-Ok-Some-clause-awaited c = λ e. absurd (rw e at c.do_line.ensures.report [])

pub returns-in-Ok-Some-clause-refused : goal.returns-in-Ok-Some-clause-refused
returns-in-Ok-Some-clause-refused c = λ e all before k.
    let r = c.self.inside in
    let old : ReaderData = record { input = r.lines; number = r.number; session = r.running.session } in
    let new : ReaderData = record { input = c.take.new.self; number = c.do_line.new.number; session = c.do_line.new.running.session } in
    let takes : TakesLine r.lines (Ok (Some c.in-Ok-Some.line)) c.take.new.self =
    rw c.in-Ok-Some.field-0-is at c.in-Ok-Some.ensures.taken in
    line_goes c.do_line.result Refused old new c.in-Ok-Some.line c.args.out.now.items c.do_line.new.out.items takes c.do_line.ensures.report
    c.do_line.ensures.number e all before
    (subst (λ (x : ReaderData). Keeps x all (before ++ c.args.out.now.items)) (sym c.self.view_is) k)

pub returns-in-Err-clause-refused : goal.returns-in-Err-clause-refused
returns-in-Err-clause-refused c = λ e all before k.
    let r = c.self.inside in
    let old : ReaderData = record { input = r.lines; number = r.number; session = r.running.session } in
    unread_goes old c.take.new.self c.in-Err.why c.args.out.now.items c.refuse.new.out.items c.in-Err.ensures.taken
    (told_by c.refuse.result Refused c.in-Err.why r.number c.args.out.now.items c.refuse.new.out.items e c.refuse.ensures.told) all
    before
    (subst (λ (x : ReaderData). Keeps x all (before ++ c.args.out.now.items)) (sym c.self.view_is) k)

pub returns-in-Ok-Some-clause-needed : goal.returns-in-Ok-Some-clause-needed
returns-in-Ok-Some-clause-needed c =
    let r = c.self.inside in
    let line = c.in-Ok-Some.line in
    let takes : TakesLine r.lines (Ok (Some line)) c.take.new.self = rw c.in-Ok-Some.field-0-is at c.in-Ok-Some.ensures.taken in
    err_from c.do_line.result
    (λ some. subst (λ (x : ReaderData). NextDoesSomething x.input x.session) c.self.view_is
    (read_does r.lines line r.running.session takes.1.0 some)) c.do_line.ensures.needed

pub returns-in-Err-clause-needed : goal.returns-in-Err-clause-needed
returns-in-Err-clause-needed c =
    let r = c.self.inside in
    on_err c.refuse.result
    (subst (λ (x : ReaderData). NextDoesSomething x.input x.session) c.self.view_is
    (unread_does r.lines c.take.new.self c.in-Err.why r.running.session c.in-Err.ensures.taken))
