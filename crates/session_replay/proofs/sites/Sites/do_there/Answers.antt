use Rattle.std.proofs.Common.{List, ℕ, Ok, refl, ap, sym, subst, ◌∙◌, length, arith}
use Rattle.cot_site.specs.Commands.{local_run}
use Rattle.op_name.specs.declared.limits.TheConstants.{LETTERS}
use Rattle.participant.specs.Runs.{letters, pieces}
use Rattle.script_text.specs.declared.reading.line.Line.TheVariants.{Ins, Run, Nl, All, Raw, Raw2, Show, State}
use Rattle.wire_codec.specs.declared.version.Version.TheVariants.{One, Two}
use Rattle.session_replay.specs.LineSteps.{commanded, typed, show_text, have_text}
use Rattle.session_replay.specs.Sessions.{site_at}
use Rattle.session_replay.specs.Code.Doing.{IsLineDone}
use Rattle.session_replay.specs.Code.Typing.{parts}
use Rattle.session_replay.proofs.Typing.{parts_letters, parts_pieces, letters_some, pieces_some}
use Rattle.session_replay.proofs.Needed.{needed_by, as_needed, typed_some, given_all_some, raw_needed}
use Rattle.session_replay.proofs.Lines.{blank_answer, sites_answer, line_is, steps_answer, told_answer}
use Rattle.session_replay.proofs.sites.Sites.do_there.Goals as goal

pub returns-in-Blank-clause-done : goal.returns-in-Blank-clause-done
returns-in-Blank-clause-done c = blank_answer c.args.line.now c.args.self.now c.args.out.now.items c.in-Blank.is

pub returns-in-Sites-clause-done : goal.returns-in-Sites-clause-done
returns-in-Sites-clause-done c =
    sites_answer c.args.line.now c.in-Sites.count c.start.result c.args.self.now c.start.new.self c.args.out.now.items c.in-Sites.is
    c.start.ensures

pub returns-in-Ins-clause-done : goal.returns-in-Ins-clause-done
returns-in-Ins-clause-done c =
    let i = c.in-Ins.site in
    let v = c.in-Ins.place in
    let d = c.args.self.now in
    let text = c.as_slice.result.now in
    let steps =
    ap (λ (ps : List (List ℕ)). Ok (typed i v ps d)) (ap letters (sym c.as_slice.ensures) ∙ sym (parts_letters text)) in
    steps_answer c.args.line.now (Ins i v c.in-Ins.text) c.type_text.result c.done.result (typed i v (parts 1 text) d) d
    c.type_text.new.self c.args.out.now.items c.type_text.new.out.items c.in-Ins.is steps c.done.ensures c.type_text.ensures.done

pub returns-in-Run-clause-done : goal.returns-in-Run-clause-done
returns-in-Run-clause-done c =
    let i = c.in-Run.site in
    let v = c.in-Run.place in
    let d = c.args.self.now in
    let text = c.as_slice-in-Run.result.now in
    let steps =
    ap (λ (ps : List (List ℕ)). Ok (typed i v ps d)) (ap pieces (sym c.as_slice-in-Run.ensures) ∙ sym (parts_pieces text)) in
    steps_answer c.args.line.now (Run i v c.in-Run.text) c.type_text-in-Run.result c.done-in-Run.result
    (typed i v (parts LETTERS text) d) d c.type_text-in-Run.new.self c.args.out.now.items c.type_text-in-Run.new.out.items c.in-Run.is
    steps c.done-in-Run.ensures c.type_text-in-Run.ensures.done

pub returns-in-Nl-clause-done : goal.returns-in-Nl-clause-done
returns-in-Nl-clause-done c =
    let i = c.in-Nl.site in
    let v = c.in-Nl.place in
    let d = c.args.self.now in
    let now = c.do_command.new.self in
    let old = c.args.out.now.items in
    let new = c.do_command.new.out.items in
    line_is c.args.line.now (Nl i v) c.do_command.result d now old new c.in-Nl.is
    (subst (λ (text : List ℕ). IsLineDone (Ok (commanded i (local_run (site_at d i) v text) d)) c.do_command.result d now old new)
    c.one.ensures c.do_command.ensures)

pub returns-in-Show-clause-done : goal.returns-in-Show-clause-done
returns-in-Show-clause-done c =
    told_answer c.args.line.now (Show c.in-Show.site) c.show.result c.done-in-Show.result (show_text c.in-Show.site c.args.self.now)
    c.args.self.now c.args.out.now.items c.show.new.out.items c.in-Show.is refl c.done-in-Show.ensures c.show.ensures.ok
    c.show.ensures.err

pub returns-in-State-clause-done : goal.returns-in-State-clause-done
returns-in-State-clause-done c =
    told_answer c.args.line.now (State c.in-State.site) c.show_state.result c.done-in-State.result
    (have_text c.in-State.site c.args.self.now) c.args.self.now c.args.out.now.items c.show_state.new.out.items c.in-State.is refl
    c.done-in-State.ensures c.show_state.ensures.ok c.show_state.ensures.err

-- ---- out of memory

pub returns-in-Ins-clause-needed : goal.returns-in-Ins-clause-needed
returns-in-Ins-clause-needed c = λ memory.
    let text = c.in-Ins.text in
    let some = as_needed c.type_text.result c.done.result c.done.ensures c.type_text.ensures.needed memory in
    needed_by c.args.line.now (Ins c.in-Ins.site c.in-Ins.place text) c.args.self.now c.in-Ins.is
    (typed_some c.in-Ins.site c.in-Ins.place (letters text) c.args.self.now
    (letters_some text (omega (arith, some, ap (λ (xs : List ℕ). length xs) c.as_slice.ensures))))

pub returns-in-Run-clause-needed : goal.returns-in-Run-clause-needed
returns-in-Run-clause-needed c = λ memory.
    let text = c.in-Run.text in
    let some = as_needed c.type_text-in-Run.result c.done-in-Run.result c.done-in-Run.ensures c.type_text-in-Run.ensures.needed memory in
    needed_by c.args.line.now (Run c.in-Run.site c.in-Run.place text) c.args.self.now c.in-Run.is
    (typed_some c.in-Run.site c.in-Run.place (pieces text) c.args.self.now
    (pieces_some text (omega (arith, some, ap (λ (xs : List ℕ). length xs) c.as_slice-in-Run.ensures))))

pub returns-in-All-clause-needed : goal.returns-in-All-clause-needed
returns-in-All-clause-needed c = λ memory.
    needed_by c.args.line.now (All c.in-All.site) c.args.self.now c.in-All.is
    (given_all_some c.in-All.site c.args.self.now.messages c.args.self.now
    (as_needed c.give_all.result c.done-in-All.result c.done-in-All.ensures c.give_all.ensures.needed memory))

pub returns-in-Raw-clause-needed : goal.returns-in-Raw-clause-needed
returns-in-Raw-clause-needed c =
    raw_needed One c.args.line.now (Raw c.in-Raw.site c.in-Raw.bytes) c.in-Raw.site c.in-Raw.bytes _ c.args.self.now c.give_frames.result
    c.done-in-Raw.result c.in-Raw.is refl c.as_slice-in-Raw.ensures c.done-in-Raw.ensures c.give_frames.ensures.needed

pub returns-in-Raw2-clause-needed : goal.returns-in-Raw2-clause-needed
returns-in-Raw2-clause-needed c =
    raw_needed Two c.args.line.now (Raw2 c.in-Raw2.site c.in-Raw2.bytes) c.in-Raw2.site c.in-Raw2.bytes _ c.args.self.now
    c.give_frames-in-Raw2.result c.done-in-Raw2.result c.in-Raw2.is refl c.as_slice-in-Raw2.ensures c.done-in-Raw2.ensures
    c.give_frames-in-Raw2.ensures.needed
