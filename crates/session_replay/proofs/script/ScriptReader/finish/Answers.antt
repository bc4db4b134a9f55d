use Rattle.std.proofs.Common.{◌≡◌, ◌∙◌, ◌++◌, Bool, true, ap, sym, subst, None, Some, Ok, Err}
use Rattle.script_text.specs.LeftLines.{InputData}
use Rattle.script_text.specs.Streams.{TakesLine}
use Rattle.session_replay.specs.ReaderData.{ReaderData}
use Rattle.session_replay.specs.Readers.{Keeps, AwaitsSome, NextDoesSomething}
use Rattle.session_replay.specs.Code.Reading.{is_refused}
use Rattle.session_replay.proofs.Reading.{open_of, ends_empty, ends_read, ends_unread}
use Rattle.session_replay.proofs.Needed.{on_err}
use Rattle.session_replay.proofs.NextLine.{read_does, unread_does}
use Rattle.session_replay.proofs.script.ScriptReader.finish.Goals as goal

pub returns-in-Ok-None-clause-report : goal.returns-in-Ok-None-clause-report
returns-in-Ok-None-clause-report c = λ all before k.
    let r = c.self.inside in
    let old : ReaderData = record { input = r.lines; number = r.number; session = r.running.session } in
    let takes : TakesLine c.end.new.self (Ok None) c.take.new.self = rw c.in-Ok-None.field-0-is at c.in-Ok-None.ensures.taken in
    ends_empty old c.take.new.self c.args.out.now.items
    (open_of old (subst (λ (x : ReaderData). AwaitsSome x) (sym c.self.view_is) c.requires))
    (subst (λ (i : InputData). TakesLine i (Ok None) c.take.new.self) c.end.ensures takes) all before
    (subst (λ (x : ReaderData). Keeps x all (before ++ c.args.out.now.items)) (sym c.self.view_is) k)

pub returns-in-Ok-Some-clause-report : goal.returns-in-Ok-Some-clause-report
returns-in-Ok-Some-clause-report c = λ all before k.
    let r = c.self.inside in
    let old : ReaderData = record { input = r.lines; number = r.number; session = r.running.session } in
    let line = c.in-Ok-Some.line in
    let takes : TakesLine c.end.new.self (Ok (Some line)) c.take.new.self = rw c.in-Ok-Some.field-0-is at c.in-Ok-Some.ensures.taken in
    let done = c.in_ok-do_line-in-Ok-Some in
    ends_read done.field-0 c.is_refused.result old c.do_line.new.number c.do_line.new.running.session line c.take.new.self
    c.args.out.now.items c.do_line.new.out.items
    (open_of old (subst (λ (x : ReaderData). AwaitsSome x) (sym c.self.view_is) c.requires))
    (subst (λ (i : InputData). TakesLine i (Ok (Some line)) c.take.new.self) c.end.ensures takes) c.is_refused.ensures done.ensures.report
    all before
    (subst (λ (x : ReaderData). Keeps x all (before ++ c.args.out.now.items)) (sym c.self.view_is) k)

pub returns-clause-report : goal.returns-clause-report
returns-clause-report c = λ all before k.
    let r = c.self.inside in
    let old : ReaderData = record { input = r.lines; number = r.number; session = r.running.session } in
    let why = c.in-Err.why in
    let done = c.in_ok-refuse-in-Err in
    let refused : c.is_refused-in-Err.result ≡ true = c.is_refused-in-Err.ensures ∙ ap is_refused done.ensures.refused in
    ends_unread old why c.take.new.self c.args.out.now.items c.refuse.new.out.items
    (open_of old (subst (λ (x : ReaderData). AwaitsSome x) (sym c.self.view_is) c.requires))
    (subst (λ (i : InputData). TakesLine i (Err why) c.take.new.self) c.end.ensures c.in-Err.ensures.taken) done.ensures.told all before
    (subst (λ (x : ReaderData). Keeps x all (before ++ c.args.out.now.items)) (sym c.self.view_is) k)
    ∙ ap (λ (b : Bool). record { written = before ++ c.refuse.new.out.items; refused = b }) (sym refused)

pub returns-in_err-do_line-in-Ok-Some-clause-needed : goal.returns-in_err-do_line-in-Ok-Some-clause-needed
returns-in_err-do_line-in-Ok-Some-clause-needed c =
    let r = c.self.inside in
    let line = c.in-Ok-Some.line in
    let takes : TakesLine c.end.new.self (Ok (Some line)) c.take.new.self = rw c.in-Ok-Some.field-0-is at c.in-Ok-Some.ensures.taken in
    on_err c.from_residual.result
    (subst (λ (x : ReaderData). NextDoesSomething (record x.input { over = true }) x.session) c.self.view_is
    (subst (λ (i : InputData). NextDoesSomething i r.running.session) c.end.ensures
    (read_does c.end.new.self line r.running.session takes.1.0 c.in_err-do_line-in-Ok-Some.ensures.needed)))

pub returns-in_err-refuse-in-Err-clause-needed : goal.returns-in_err-refuse-in-Err-clause-needed
returns-in_err-refuse-in-Err-clause-needed c =
    let r = c.self.inside in
    on_err c.from_residual-in_err-refuse-in-Err.result
    (subst (λ (x : ReaderData). NextDoesSomething (record x.input { over = true }) x.session) c.self.view_is
    (subst (λ (i : InputData). NextDoesSomething i r.running.session) c.end.ensures
    (unread_does c.end.new.self c.take.new.self c.in-Err.why r.running.session c.in-Err.ensures.taken)))
