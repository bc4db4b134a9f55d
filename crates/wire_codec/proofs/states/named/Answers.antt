use Rattle.std.proofs.Common.{◌≡◌, ◌*◌, length, sym, ap, subst, arith}
use Rattle.wire_codec.specs.declared.listing.Listing.TheVariants.{LongRuns}
use Rattle.wire_codec.specs.Reading.{LeftData}
use Rattle.wire_codec.specs.Judging.{run_len}
use Rattle.wire_codec.proofs.Steps.{IsBytes, IsBytes-take, IsBytes-drop}
use Rattle.wire_codec.proofs.StateJudgement.{runs_counted}
use Rattle.wire_codec.proofs.states.named.Goals as goal

pub unless_stray-requires : goal.unless_stray-requires
unless_stray-requires c =
    let start = c.new-left.result in
    let len = c.from_be_bytes-len.result in
    let all : IsBytes c.args.bytes.now = λ i. omega (arith, c.type_inv.bytes i) in
    let back : IsBytes c.split_at.result.1.now = subst IsBytes (sym c.split_at.ensures.back) (IsBytes-drop 4 c.args.bytes.now all) in
    let fits : IsBytes start.bytes =
    subst IsBytes (sym (ap (λ (l : LeftData). l.bytes) c.new-left.ensures))
    (IsBytes-take (run_len LongRuns * len) c.split_at.result.1.now back) in
    let count : length c.in-Ok.runs ≡ len = runs_counted len start c.runs_of.new.left c.in-Ok.runs fits (sym c.in-Ok.ensures.read) in
    let enough = c.if-bytes-section.false in
    let short = c.requires in
    omega (arith, count, enough, short)
