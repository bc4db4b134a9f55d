use Rattle.std.proofs.Common.{◌≡◌, ℕ, List, sym, ap, subst, ◌∙◌, arith, Ok}
use Rattle.std.proofs.lemmas.Result.{err_from_is_err_and}
use Rattle.wire_codec.specs.Reading.{LeftData}
use Rattle.wire_codec.specs.Code.Elements.{elements}
use Rattle.wire_codec.specs.Code.Sections.{raw_count}
use Rattle.wire_codec.specs.Judging.{count_len}
use Rattle.wire_codec.proofs.Steps.{IsBytes}
use Rattle.wire_codec.proofs.Loops.{counts_begin, counts_go_on, counts_end, counts_done}
use Rattle.wire_codec.proofs.listing.counts_of.Goals as goal

pub loop-init : goal.loop-init
loop-init c = (counts_begin c.args.version c.args.len c.args.left.now, c.bytes-bytes.ensures)

pub returns-in_err-site : goal.returns-in_err-site
returns-in_err-site c =
    let p = err_from_is_err_and c.from_residual.result c.from_residual.ensures.1 in
    rw (p.1, p.2) (sym (counts_end c.args.version c.args.len c.args.left.now c.loop.counter c.loop.low c.loop.left c.in_err-site.field-0.0
    c.loop-test.true
    (sym c.in_err-site.ensures.read) c.loop.invariant.0))

pub loop-preserved : goal.loop-preserved
loop-preserved c =
    let raw : IsBytes c.bytes-bytes.result.now = λ i. omega (arith, c.type_inv.bytes i) in
    let fits : IsBytes c.args.left.now.bytes = subst IsBytes c.bytes-bytes.ensures raw in (
      counts_go_on c.args.version c.args.len c.args.left.now c.loop.counter c.loop.low c.loop.left c.count.new.left
          (c.in_ok-site.site, c.in_ok-site.field-0-1) fits c.loop-test.true (sym c.in_ok-site.ensures.read) c.loop.invariant.0,
      c.bytes-bytes.ensures,
    )

pub returns : goal.returns
returns c =
    let start : LeftData = c.args.left.now in
    let whole : c.loop.counter ≡ c.args.len = omega arith in
    let all = counts_done c.args.version c.args.len start c.loop.counter c.loop.low c.loop.left c.loop-test.false c.loop.invariant.0 in
    let list : c.new.result ≡ elements (raw_count c.args.version) (count_len c.args.version) c.loop.counter start.bytes =
    c.new.ensures ∙ (ap (λ (b : List ℕ). elements (raw_count c.args.version) (count_len c.args.version) c.args.len b) c.bytes-bytes.ensures
    ∙ ap (λ (k : ℕ). elements (raw_count c.args.version) (count_len c.args.version) k start.bytes) (sym whole)) in
    ap (λ (es : List (ℕ × ℕ)). Ok (es, c.loop.left)) list ∙ sym all
