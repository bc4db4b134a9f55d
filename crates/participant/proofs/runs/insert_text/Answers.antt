use Rattle.std.proofs.Common.{◌≡◌, ℕ, ◌+◌, [], ◌∷◌, ◌++◌, length, drop, chars, refl, sym, subst, ◌∙◌, arith}
use Rattle.std.specs.Prelude.{Err}
use Rattle.std.proofs.lemmas.Iterator.{YieldsList-from_chars}
use Rattle.std.proofs.lemmas.Iterator.Consumers.{YieldsList-turn, YieldsList-end}
use Rattle.std.proofs.lemmas.List.{length_push}
use Rattle.cot_site.specs.Sites.{state_of}
use Rattle.cot_site.proofs.CallerLemmas.{later_on}
use Rattle.participant.specs.declared.edits.Edit.TheVariants.{Insert}
use Rattle.participant.specs.Reached.{at}
use Rattle.participant.specs.Runs.{inserts, begun, progress, Progress}
use Rattle.participant.proofs.Later.{later_same}
use Rattle.participant.proofs.EditRuns.{LeadsTo, leads_first, leads_more, leads_stop, leads_end, inserts_next, inserts_end, insert_counts, stop_counts}
use Rattle.participant.proofs.runs.insert_text.Goals as goal

pub loop-ch-init : goal.loop-ch-init
loop-ch-init c =
    let first : Progress = begun (at c.args.site.now c.args.released.now.items) in
    (leads_first (inserts c.args.place (chars c.args.text.now)) first, refl, omega arith, λ it. it, later_same (state_of c.args.site.now))

pub loop-ch-preserved : goal.loop-ch-preserved
loop-ch-preserved c =
    let text = chars c.args.text.now in
    let ch = c.in-Some.ch in
    let piece = c.from_ref.result.now in
    let first : Progress = begun (at c.args.site.now c.args.released.now.items) in
    let now : Progress = progress c.loop-ch.site c.loop-ch.released.items c.loop-ch.made in
    let next : Progress = progress c.put.new.site c.put.new.released.items c.put.new.made in
    let k = length c.loop-ch.yielded in
    let turn =
    YieldsList-turn (YieldsList-from_chars c.args.text.now c.utf8.text cc) c.loop-ch.yielded _ c.loop-ch.yielded_by _ _ ch c.in-Some.is
    c.next.ensures.steps in
    let left = inserts_next c.loop-ch.next k text ch piece turn.0 turn.1 c.from_ref.ensures.value in
    let longer : length (c.loop-ch.yielded ++ ch ∷ []) ≡ k + 1 = length_push c.loop-ch.yielded ch in
    let more : LeadsTo (inserts c.args.place text) first (inserts (c.loop-ch.next + 1) (drop (k + 1) text)) next =
    leads_more (inserts c.args.place text) first (Insert c.loop-ch.next piece) (inserts c.loop-ch.next (drop k text))
    (inserts (c.loop-ch.next + 1) (drop (k + 1) text)) now next
    c.loop-ch.invariant.0 left c.in-Ok.ensures.next in (
      subst (λ (n : ℕ). LeadsTo (inserts c.args.place text) first (inserts (c.loop-ch.next + 1) (drop n text)) next) (sym longer) more,
      omega (arith, longer, c.loop-ch.invariant.1, insert_counts c.loop-ch.next piece now next c.in-Ok.ensures.next),
      c.put.ensures.count,
      λ was. c.put.ensures.settled (c.loop-ch.invariant.3 was) (λ half. cc),
      later_on (state_of c.args.site.now) (state_of c.loop-ch.site) (state_of c.put.new.site) c.loop-ch.invariant.4 c.put.ensures.later,
    )

pub returns-in-Err-clause-run : goal.returns-in-Err-clause-run
returns-in-Err-clause-run c =
    let text = chars c.args.text.now in
    let ch = c.in-Some.ch in
    let piece = c.from_ref.result.now in
    let first : Progress = begun (at c.args.site.now c.args.released.now.items) in
    let now : Progress = progress c.loop-ch.site c.loop-ch.released.items c.loop-ch.made in
    let next : Progress = progress c.put.new.site c.put.new.released.items c.put.new.made in
    let k = length c.loop-ch.yielded in
    let turn =
    YieldsList-turn (YieldsList-from_chars c.args.text.now c.utf8.text cc) c.loop-ch.yielded _ c.loop-ch.yielded_by _ _ ch c.in-Some.is
    c.next.ensures.steps in
    let left = inserts_next c.loop-ch.next k text ch piece turn.0 turn.1 c.from_ref.ensures.value in
    leads_stop (inserts c.args.place text) first (Insert c.loop-ch.next piece) (inserts c.loop-ch.next (drop k text))
    (inserts (c.loop-ch.next + 1) (drop (k + 1) text)) now (Err c.in-Err.why) next
    c.loop-ch.invariant.0 left c.in-Err.ensures.stop

pub returns-clause-run : goal.returns-clause-run
returns-clause-run c =
    let text = chars c.args.text.now in
    let first : Progress = begun (at c.args.site.now c.args.released.now.items) in
    let now : Progress = progress c.loop-ch.site c.loop-ch.released.items c.loop-ch.made in
    let end =
    YieldsList-end (YieldsList-from_chars c.args.text.now c.utf8.text cc) c.loop-ch.yielded _ c.loop-ch.yielded_by _ _ c.in-None.is
    c.next.ensures.steps in
    leads_end (inserts c.args.place text) first (inserts c.loop-ch.next (drop (length c.loop-ch.yielded) text)) now c.loop-ch.invariant.0
    (inserts_end c.loop-ch.next (length c.loop-ch.yielded) text (omega (arith, end.1)))

pub returns-in-Err-clause-within : goal.returns-in-Err-clause-within
returns-in-Err-clause-within c =
    let ch = c.in-Some.ch in
    let piece = c.from_ref.result.now in
    let now : Progress = progress c.loop-ch.site c.loop-ch.released.items c.loop-ch.made in
    let next : Progress = progress c.put.new.site c.put.new.released.items c.put.new.made in
    let turn =
    YieldsList-turn (YieldsList-from_chars c.args.text.now c.utf8.text cc) c.loop-ch.yielded _ c.loop-ch.yielded_by _ _ ch c.in-Some.is
    c.next.ensures.steps in
    omega (
      arith,
      turn.0,
      c.loop-ch.invariant.1,
      stop_counts (Insert c.loop-ch.next piece) now next (Err c.in-Err.why) c.in-Err.ensures.stop,
    )

pub returns-clause-within : goal.returns-clause-within
returns-clause-within c =
    let end =
    YieldsList-end (YieldsList-from_chars c.args.text.now c.utf8.text cc) c.loop-ch.yielded _ c.loop-ch.yielded_by _ _ c.in-None.is
    c.next.ensures.steps in
    omega (arith, c.loop-ch.invariant.1, end.1)

pub returns-clause-whole : goal.returns-clause-whole
returns-clause-whole c =
    let end =
    YieldsList-end (YieldsList-from_chars c.args.text.now c.utf8.text cc) c.loop-ch.yielded _ c.loop-ch.yielded_by _ _ c.in-None.is
    c.next.ensures.steps in
    c.loop-ch.invariant.1 ∙ end.1
