use Rattle.std.proofs.Common.{◌≡◌, ℕ, ◌+◌, ◌≤◌, List, Some, sym, ap, subst, ◌∙◌, arith, Ok}
use Rattle.std.proofs.lemmas.Result.{err_from_is_err_and}
use Rattle.op_name.specs.declared.name.TheConstants.{NUMBERS}
use Rattle.std.specs.List.{flat_map}
use Rattle.wire_codec.specs.Runs.{RunData, names_in, runs_of}
use Rattle.wire_codec.specs.Reading.{LeftData, Before}
use Rattle.wire_codec.specs.Judging.{run_len}
use Rattle.wire_codec.specs.Code.Elements.{elements}
use Rattle.wire_codec.specs.Code.Sections.{raw_run}
use Rattle.wire_codec.proofs.Steps.{IsBytes}
use Rattle.wire_codec.proofs.RunNames.{runs_of_names}
use Rattle.wire_codec.proofs.RunReads.{AreListed}
use Rattle.wire_codec.proofs.RunLoops.{RunsUnderWay, runs_begin, runs_go_on, runs_end, runs_done, runs_are}
use Rattle.wire_codec.proofs.run_reading.runs_of.Goals as goal

pub loop-init : goal.loop-init
loop-init c =
    let raw : IsBytes c.bytes-bytes.result.now = λ i. omega (arith, c.type_inv.bytes i) in (
      runs_begin c.args.listing c.args.len c.args.left.now,
      c.bytes-bytes.ensures,
      omega arith,
      subst IsBytes c.bytes-bytes.ensures raw,
    )

pub returns-in_err-next-clause-read : goal.returns-in_err-next-clause-read
returns-in_err-next-clause-read c =
    let p = err_from_is_err_and c.from_residual.result c.from_residual.ensures.1 in
    rw (p.1, p.2) (sym (runs_end c.args.listing c.args.len c.args.left.now c.loop.counter
    (record { run = c.loop.before; names = c.loop.names }) c.loop.left c.in_err-next.field-0.0 c.loop-test.true
    (sym c.in_err-next.ensures) c.loop.invariant.0))

pub loop-preserved : goal.loop-preserved
loop-preserved c =
    let before : Before = record { run = c.loop.before; names = c.loop.names } in
    let r : RunData = c.in_ok-next.next in
    let is : c.next.inside.len ≡ r.len = ap (λ (x : RunData). x.len) c.next.view_is in
    let len : c.from-names.result ≡ r.len = c.from-names.ensures ∙ is in
    let most : r.len ≤ NUMBERS = (let last = c.known.ensures.last in let first = c.known.ensures.first in omega (arith, last, first.1)) in
    let so_far = c.loop.invariant.2 in (
      subst
          (λ (n : ℕ). RunsUnderWay c.args.listing c.args.len c.args.left.now (c.loop.counter + 1)
          (record { run = Some r; names = c.loop.names + n }) c.run.new.left)
          (sym len)
          (runs_go_on c.args.listing c.args.len c.args.left.now c.loop.counter before c.loop.left c.run.new.left r c.loop.invariant.3
          c.loop-test.true (sym c.in_ok-next.ensures) c.loop.invariant.0),
      c.bytes-bytes.ensures,
      omega (arith, most, so_far, len),
      c.loop.invariant.3,
    )

-- what was read are runs that rise and stand apart
listed : (c : goal.After-loop) → AreListed c.args.listing 0
    (elements (raw_run c.args.listing) (run_len c.args.listing) c.args.len c.bytes-bytes.result.now)
listed c =
    let whole : c.loop.counter ≡ c.args.len = omega arith in
    let are = runs_are c.args.listing c.args.len c.args.left.now c.loop.counter
    (record { run = c.loop.before; names = c.loop.names }) c.loop.left c.loop.invariant.3 c.loop-test.false c.loop.invariant.0 in
    rw (c.bytes-bytes.ensures)
    (subst (λ (i : ℕ). AreListed c.args.listing 0 (elements (raw_run c.args.listing) (run_len c.args.listing) i c.args.left.now.bytes))
    whole are)

pub new-requires-clause-are : goal.new-requires-clause-are
new-requires-clause-are c = (listed c).are

pub returns-clause-read : goal.returns-clause-read
returns-clause-read c =
    let start : LeftData = c.args.left.now in
    let k = c.args.listing in
    let whole : c.loop.counter ≡ c.args.len = omega arith in
    let all = runs_done k c.args.len start c.loop.counter (record { run = c.loop.before; names = c.loop.names }) c.loop.left
    c.loop-test.false c.loop.invariant.0 in
    let list : c.new.result ≡ elements (raw_run k) (run_len k) c.loop.counter start.bytes =
    c.new.ensures ∙ (ap (λ (b : List ℕ). elements (raw_run k) (run_len k) c.args.len b) c.bytes-bytes.ensures
    ∙ ap (λ (i : ℕ). elements (raw_run k) (run_len k) i start.bytes) (sym whole)) in
    ap (λ (rs : List RunData). Ok (rs, c.loop.left)) list ∙ sym all

pub returns-clause-apart : goal.returns-clause-apart
returns-clause-apart c =
    let k = c.args.listing in
    let whole : c.loop.counter ≡ c.args.len = omega arith in
    let are = runs_are k c.args.len c.args.left.now c.loop.counter (record { run = c.loop.before; names = c.loop.names }) c.loop.left
    c.loop.invariant.3 c.loop-test.false c.loop.invariant.0 in
    let list : elements (raw_run k) (run_len k) c.loop.counter c.args.left.now.bytes ≡ c.new.result =
    ap (λ (i : ℕ). elements (raw_run k) (run_len k) i c.args.left.now.bytes) whole
    ∙ (ap (λ (b : List ℕ). elements (raw_run k) (run_len k) c.args.len b) (sym c.bytes-bytes.ensures) ∙ sym c.new.ensures) in
    subst (λ (rs : List RunData). runs_of k (flat_map names_in rs) ≡ rs) list
    (runs_of_names k (elements (raw_run k) (run_len k) c.loop.counter c.args.left.now.bytes) are.apart)
