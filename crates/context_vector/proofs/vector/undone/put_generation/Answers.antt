use Rattle.std.proofs.Common.{set, sym, ap, subst, ◌∙◌, arith}
use Rattle.std.specs.List.{insert}
use Rattle.op_name.specs.NameData.{name_lt}
use Rattle.context_vector.specs.Code.Places.{IsPlace, IsGap}
use Rattle.context_vector.proofs.Entries.{entry_in_gap, put_in_gap, put_at_place}
use Rattle.context_vector.proofs.Undone.{set_none, set_some, without_absent, remove_at_place}
use Rattle.context_vector.proofs.vector.undone.put_generation.Goals as goal

-- a name without an entry comes with a generation, for which there is room
pub unreachable-requires : goal.unreachable-requires
unreachable-requires c =
    let es = c.args.list.now.items in let n = c.args.name.now in
    let gap = subst (λ fs. IsGap name_lt fs n c.in-Err.field-0) c.as_slice.ensures.value c.in-Err.ensures.absent in
    let room = c.requires.room (omega (arith, entry_in_gap es n c.in-Err.field-0 gap, c.if-generation-eq0-2.false)) in
    omega (arith, c.in-Err-insert.ensures.full, room)

pub returns-in-Ok : goal.returns-in-Ok
returns-in-Ok c =
    let es = c.args.list.now.items in let n = c.args.name.now in
    let place = subst (λ fs. IsPlace fs n c.in-Ok.at) c.as_slice.ensures.value c.in-Ok.ensures.found in
    let none = set_none n c.args.generation es c.if-generation-eq0.true in
    c.remove.ensures.items ∙ (remove_at_place es n c.in-Ok.at c.requires.rising place ∙ sym none)

pub returns-in-Ok-2 : goal.returns-in-Ok-2
returns-in-Ok-2 c =
    let es = c.args.list.now.items in let n = c.args.name.now in let g = c.args.generation in
    let place = subst (λ fs. IsPlace fs n c.in-Ok.at) c.as_slice.ensures.value c.in-Ok.ensures.found in
    let some = set_some n g es c.if-generation-eq0.false in
    ap (λ e. set es c.in-Ok.at e) c.new.ensures ∙ (put_at_place es n g c.in-Ok.at c.requires.rising place ∙ sym some)

pub returns-in-Err : goal.returns-in-Err
returns-in-Err c =
    let es = c.args.list.now.items in let n = c.args.name.now in
    let gap = subst (λ fs. IsGap name_lt fs n c.in-Err.field-0) c.as_slice.ensures.value c.in-Err.ensures.absent in
    let absent = without_absent n es c.requires.rising (entry_in_gap es n c.in-Err.field-0 gap) in
    sym (set_none n c.args.generation es c.if-generation-eq0-2.true ∙ absent)

pub returns-in-Ok-insert : goal.returns-in-Ok-insert
returns-in-Ok-insert c =
    let es = c.args.list.now.items in let n = c.args.name.now in let g = c.args.generation in
    let gap = subst (λ fs. IsGap name_lt fs n c.in-Err.field-0) c.as_slice.ensures.value c.in-Err.ensures.absent in
    c.in-Ok-insert.ensures.items
    ∙ (ap (λ e. insert es c.in-Err.field-0 e) c.new-in-Err-2.ensures
    ∙ (put_in_gap es n g c.in-Err.field-0 gap ∙ sym (set_some n g es c.if-generation-eq0-2.false)))
