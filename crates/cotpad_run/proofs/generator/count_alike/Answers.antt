use Rattle.std.proofs.Common.{◌≡◌, ◌+◌, true, ◌++◌, sym, ap, ◌∙◌, arith, length, bytes_eq}
use Rattle.std.specs.Prelude.{Some, slice_get}
use Rattle.context_diff.specs.Replays.{text_of}
use Rattle.cot_site.specs.Sites.{state_of}
use Rattle.cotpad_run.proofs.Alike.{contains_at, same_texts, one_more_alike, all_alike}
use Rattle.cotpad_run.proofs.generator.count_alike.Goals.{then-branch, else-branch}
use Rattle.cotpad_run.proofs.generator.count_alike.Goals as goal

pub loop-number-preserved : goal.loop-number-preserved
loop-number-preserved c =
    let sites = c.args.generated.now.sites in
    let s = state_of c.args.site.now in
    let t = state_of c.in-Some.other.now in
    let at : slice_get sites c.loop-number.number ≡ Some t = sym c.in-Some.ensures.site in
    let same : bytes_eq (text_of t.history) (text_of s.history) ≡ true =
    same_texts sites s t c.requires.same c.requires.one (contains_at sites c.loop-number.number t at) c.known.ensures.history
    c.known-in-Some.ensures.history in
    let text : c.deref.result.now ≡ text_of s.history =
    c.deref.ensures.value ∙ c.in_ok-text.ensures.ok ∙ ap (λ xs. xs ++ text_of s.history) c.new-text.ensures.items in
    let told : c.in_ok-shows-in-Some.field-0 ≡ true = c.in_ok-shows-in-Some.ensures ∙ ap (bytes_eq (text_of t.history)) text ∙ same in
    let count : c.if-branch.equal ≡ c.loop-number.number + 1 = elim c.if-branch.branch [
      | then-branch w ↦ w.equal-is ∙ ap (λ n. n + 1) c.loop-number.invariant.count
      | else-branch w ↦ let e = w.if-branch.false in absurd cc
    ] in
    record { alike = one_more_alike s sites c.loop-number.number t c.loop-number.invariant.alike at same; count = count }

pub returns-clause-count : goal.returns-clause-count
returns-clause-count c =
    let size : length c.args.generated.now.sites ≡ c.loop-number.number =
    omega (arith, c.requires.sites, c.loop-number-test.false, c.loop-number.auto.number-end, c.from-number-end.ensures) in
    c.loop-number.invariant.count ∙ sym
    (all_alike (state_of c.args.site.now) c.args.generated.now.sites c.loop-number.number size c.loop-number.invariant.alike)
