use Rattle.std.proofs.Common.{sym, ap, ◌∙◌, arith}
use Rattle.context_diff.specs.Histories.{is_known}
use Rattle.context_diff.proofs.CallerLemmas.{known_member}
use Rattle.visible_view.proofs.CallerLemmas.{on_err}
use Rattle.wire_codec.specs.declared.version.Version.TheVariants.{Two}
use Rattle.wire_codec.specs.Spelling.{frame}
use Rattle.site_ranges.specs.Frames.{frames_of, lacked_by}
use Rattle.site_ranges.proofs.Appending.{more, ended}
use Rattle.site_ranges.proofs.Outboxes.{frames_next, lacked_there, nothing_lacked, lacked_at, lacked_ended, none_empty}
use Rattle.site_ranges.proofs.outbox.put_lacked.Goals as goal

pub returns-in_err-difference-clause-needed : goal.returns-in_err-difference-clause-needed
returns-in_err-difference-clause-needed c =
    let all = ap (λ v. v.set) c.have.ensures ∙ c.known.ensures.have in
    on_err c.from_residual.result (λ none.
    c.in_err-difference.ensures.memory
    (nothing_lacked c.args.book.now.ops c.args.have.now.set c.have.result.now.set c.known.ensures.valid all none))

pub put_member-requires : goal.put_member-requires
put_member-requires c =
    let h = c.args.book.now.ops in
    let from = c.args.have.now.set in
    let all = ap (λ v. v.set) c.have.ensures ∙ c.known.ensures.have in
    let s = lacked_at h from c.have.result.now.set c.new-members.result.items c.difference.new.out.items c.deref-member-items.result.now
    c.known.ensures.valid all c.new-members.ensures.items c.in_ok-difference.ensures.appended c.deref-member-items.ensures.value
    c.loop-member.member-index c.member-item.result c.loop-member-test.true c.member-item.is in
    ap (is_known h) (sym s.is) ∙ known_member h s.op (lacked_there from h s.op s.there)

pub returns-in_err-put_member-clause-needed : goal.returns-in_err-put_member-clause-needed
returns-in_err-put_member-clause-needed c =
    let h = c.args.book.now.ops in
    let from = c.args.have.now.set in
    let all = ap (λ v. v.set) c.have.ensures ∙ c.known.ensures.have in
    let s = lacked_at h from c.have.result.now.set c.new-members.result.items c.difference.new.out.items c.deref-member-items.result.now
    c.known.ensures.valid all c.new-members.ensures.items c.in_ok-difference.ensures.appended c.deref-member-items.ensures.value
    c.loop-member.member-index c.member-item.result c.loop-member-test.true c.member-item.is in
    on_err c.from_residual-in_err-put_member.result (none_empty (lacked_by from h) c.loop-member.member-index s.op s.at)

pub loop-member-preserved : goal.loop-member-preserved
loop-member-preserved c =
    let h = c.args.book.now.ops in
    let from = c.args.have.now.set in
    let all = ap (λ v. v.set) c.have.ensures ∙ c.known.ensures.have in
    let s = lacked_at h from c.have.result.now.set c.new-members.result.items c.difference.new.out.items c.deref-member-items.result.now
    c.known.ensures.valid all c.new-members.ensures.items c.in_ok-difference.ensures.appended c.deref-member-items.ensures.value
    c.loop-member.member-index c.member-item.result c.loop-member-test.true c.member-item.is in
    more c.args.out.now.items (frames_of (lacked_by from h)) c.loop-member.out.items _ c.put_member.new.out.items (frame Two s.op) _
    c.loop-member.invariant (frames_next (lacked_by from h) c.loop-member.member-index s.op s.at)
    (c.in_ok-put_member.ensures.ok s.op (lacked_there from h s.op s.there) s.is)

pub returns-clause-ok : goal.returns-clause-ok
returns-clause-ok c =
    let h = c.args.book.now.ops in
    let from = c.args.have.now.set in
    let all = ap (λ v. v.set) c.have.ensures ∙ c.known.ensures.have in
    ended c.args.out.now.items (frames_of (lacked_by from h)) c.loop-member.out.items _ c.loop-member.invariant
    (lacked_ended h from c.have.result.now.set c.new-members.result.items c.difference.new.out.items c.deref-member-items.result.now
    c.known.ensures.valid all c.new-members.ensures.items c.in_ok-difference.ensures.appended c.deref-member-items.ensures.value
    c.loop-member.member-index (let t = c.loop-member-test.false in omega arith))
