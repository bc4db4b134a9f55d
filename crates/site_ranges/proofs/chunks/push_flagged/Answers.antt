use Rattle.std.proofs.Common.{◌++◌, ◌+◌, encode_utf8, sym, ap, ◌∙◌, arith}
use Rattle.site_ranges.proofs.Appending.{begun, more, same, ended}
use Rattle.site_ranges.proofs.ChunkTexts.{rest_of, passed_hidden, passed_before, passed_written, written_all, chunk_ended}
use Rattle.site_ranges.proofs.chunks.push_flagged.Goals.{then-flags-at-eq1+then-before-gt0, then-flags-at-eq1+else-before-gt0+in_ok-push_char, else-flags-at-eq1}
use Rattle.site_ranges.proofs.chunks.push_flagged.Goals as goal

pub loop-at-init : goal.loop-at-init
loop-at-init c = begun c.args.out.now.items (rest_of c.args.flags.now c.args.text.now 0 c.args.skipped c.args.count)

pub loop-at-preserved : goal.loop-at-preserved
loop-at-preserved c =
    let fs = c.args.flags.now in
    let ts = c.args.text.now in
    let at = c.loop-at.at in
    let before = c.loop-at.before in
    let left = c.loop-at.left in
    let old = c.args.out.now.items in
    let all = rest_of fs ts 0 c.args.skipped c.args.count in
    let now = c.loop-at.out.items in
    let new = c.if-flags-at-eq1.out.items in
    let lt = c.loop-at-test.true in
    elim c.if-flags-at-eq1.branch [
      | then-flags-at-eq1+then-before-gt0 w ↦
          same old all now (rest_of fs ts at before left) new _ c.loop-at.invariant
          (passed_before fs ts at before left lt c.requires w.if-flags-at-eq1.true w.if-before-gt0.true
          ∙ (λ i. rest_of fs ts (at + 1) (sym w.before-is i) (sym w.left-is i)))
          (ap (λ o. o.items) w.out-is)
      | then-flags-at-eq1+else-before-gt0+in_ok-push_char w ↦
          let ch = w.index-text-at.result in
          more old all now (rest_of fs ts at before left) new (encode_utf8 ch) _ c.loop-at.invariant
          (passed_written fs ts at before left lt c.requires ch w.if-flags-at-eq1.true (omega arith) (omega arith) w.index-text-at.is
          ∙ (λ i. encode_utf8 ch ++ rest_of fs ts (at + 1) (sym w.before-is i) (sym w.left-is i)))
          (ap (λ o. o.items) w.out-is ∙ w.in_ok-push_char.ensures.ok)
      | else-flags-at-eq1 w ↦
          same old all now (rest_of fs ts at before left) new _ c.loop-at.invariant
          (passed_hidden fs ts at before left lt c.requires w.if-flags-at-eq1.false
          ∙ (λ i. rest_of fs ts (at + 1) (sym w.before-is i) (sym w.left-is i)))
          (ap (λ o. o.items) w.out-is)
    ]

pub returns-then-left-eq0-clause-ok : goal.returns-then-left-eq0-clause-ok
returns-then-left-eq0-clause-ok c =
    ended c.args.out.now.items (rest_of c.args.flags.now c.args.text.now 0 c.args.skipped c.args.count) c.loop-at.out.items _
    c.loop-at.invariant
    (written_all c.args.flags.now c.args.text.now c.loop-at.at c.loop-at.before c.loop-at.left c.if-left-eq0.true)

pub returns-clause-ok : goal.returns-clause-ok
returns-clause-ok c =
    ended c.args.out.now.items (rest_of c.args.flags.now c.args.text.now 0 c.args.skipped c.args.count) c.loop-at.out.items _
    c.loop-at.invariant
    (chunk_ended c.args.flags.now c.args.text.now c.loop-at.at c.loop-at.before c.loop-at.left
    (let t = c.loop-at-test.false in omega arith))
