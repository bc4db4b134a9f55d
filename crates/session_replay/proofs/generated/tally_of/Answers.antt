use Rattle.std.proofs.Common.{◌≡◌, ◌<◌, ◌+◌, length, map, arith, subst, sym}
use Rattle.std.proofs.lemmas.List.{length-map}
use Rattle.context_diff.specs.Ops.{data_of}
use Rattle.cot_site.specs.Sites.{state_of}
use Rattle.session_replay.specs.Code.Drawing.{counts_in}
use Rattle.session_replay.specs.Code.Messages.{operation_of, operations_of}
use Rattle.session_replay.proofs.Tallies.{IsTally, tally_next, tally_less}
use Rattle.session_replay.proofs.generated.tally_of.Goals as goal

pub count-requires : goal.count-requires
count-requires c =
    let ss = map state_of c.args.sites.now in
    let ms = c.args.messages.now in
    let os = operations_of ss ms in
    let all : length os ≡ length ms = length-map ms (operation_of ss) in
    let within : c.loop-message.message-index < length os = omega (arith, c.loop-message-test.true, all) in
    omega (arith, tally_less os _ (counts_in c.loop-message.counted) c.loop-message.invariant within, all, c.requires.few)

pub loop-message-preserved : goal.loop-message-preserved
loop-message-preserved c =
    let ss = map state_of c.args.sites.now in
    let ms = c.args.messages.now in
    let o = data_of c.op.result.now in
    let counted = counts_in c.loop-message.counted in
    let next = tally_next ss ms c.loop-message.message-index _ o counted c.loop-message-test.true c.op.ensures c.loop-message.invariant in
    subst (IsTally (operations_of ss ms) (c.loop-message.message-index + 1)) (sym c.count.ensures) next
