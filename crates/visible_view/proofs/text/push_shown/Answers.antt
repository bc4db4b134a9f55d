use Rattle.std.proofs.Common.{◌≡◌, ◌++◌, ◌<◌, ◌≤◌, ℕ, List, [], map, take, length, get_or, vec_len, encode_utf8_all, ap, ◌∙◌, sym, append_assoc, arith}
use Rattle.std.proofs.lemmas.List.{length-map}
use Rattle.ttf_form.specs.Cells.{CellData}
use Rattle.tombstone_text.specs.Chunks.{flag_of, flat, joined, shown_in}
use Rattle.tombstone_text.proofs.CallerLemmas.{beside_at}
use Rattle.visible_view.specs.View.{shown_text}
use Rattle.visible_view.specs.Code.{flagged}
use Rattle.visible_view.proofs.ShownText.{flagged_shown, text_more, text_same, text_all, front_stays, on_err}
use Rattle.visible_view.proofs.text.push_shown.Goals.{then-chunk_shown-gt0+in_ok-push_flagged, else-chunk_shown-gt0}
use Rattle.visible_view.proofs.text.push_shown.Goals as goal

pub push_flagged-requires : goal.push_flagged-requires
push_flagged-requires c =
    let cs = c.args.cells.now.chunks in
    let i = c.loop-i.i in
    let lt : i < length cs = let n = c.chunk_count-i-end.ensures in let t = c.loop-i-test.true in omega arith in
    let beside = beside_at c.args.cells.now.texts cs i c.known.ensures.beside lt in
    let text = ap (λ (s : List ℕ). length s) c.chunk_text.ensures in
    let flags = ap (λ (s : List ℕ). length s) c.chunk_flags.ensures.flags ∙ length-map (get_or cs i []) flag_of in
    omega (arith, beside, text, flags)

pub returns-in_err-push_flagged-clause-err : goal.returns-in_err-push_flagged-clause-err
returns-in_err-push_flagged-clause-err c =
    let more = shown_text (flat (take c.loop-i.i c.args.cells.now.chunks)) (joined (take c.loop-i.i c.args.cells.now.texts)) in
    let long : length c.args.out.now.items ≡ vec_len c.args.out.now = omega (arith, c.args.out.now.ok.0) in
    on_err c.from_residual.result
    (front_stays c.args.out.now.items more c.loop-i.out.items c.push_flagged.new.out.items (vec_len c.args.out.now)
    (vec_len c.loop-i.out)
    c.loop-i.invariant long c.in_err-push_flagged.ensures.err)

pub loop-i-preserved : goal.loop-i-preserved
loop-i-preserved c =
    let cs = c.args.cells.now.chunks in
    let ts = c.args.cells.now.texts in
    let i = c.loop-i.i in
    let front = c.args.out.now.items in
    let beside = c.known.ensures.beside in
    let lt : i < length cs = let n = c.chunk_count-i-end.ensures in let t = c.loop-i-test.true in omega arith in
    elim c.if-chunk_shown-gt0.branch [
      | then-chunk_shown-gt0+in_ok-push_flagged w ↦
          ap (λ o. o.items) w.out-is ∙ w.in_ok-push_flagged.ensures.ok
          ∙ ap (λ (s : List ℕ). c.loop-i.out.items ++ encode_utf8_all (flagged s w.chunk_text.result.now)) w.chunk_flags.ensures.flags
          ∙ ap (λ (s : List ℕ). c.loop-i.out.items ++ encode_utf8_all (flagged (map flag_of (get_or cs i [])) s)) w.chunk_text.ensures
          ∙ ap (λ (s : List ℕ). c.loop-i.out.items ++ encode_utf8_all s) (flagged_shown (get_or cs i []) (get_or ts i []))
          ∙ ap (λ (bs : List ℕ). bs ++ shown_text (get_or cs i []) (get_or ts i [])) c.loop-i.invariant
          ∙ append_assoc front (shown_text (flat (take i cs)) (joined (take i ts))) (shown_text (get_or cs i []) (get_or ts i []))
          ∙ ap (λ (bs : List ℕ). front ++ bs) (sym (text_more cs ts i beside lt))
      | else-chunk_shown-gt0 w ↦
          let none : shown_in (get_or cs i []) ≡ 0 = let n = c.chunk_shown.ensures in let t = w.if-chunk_shown-gt0.false in omega arith in
          ap (λ o. o.items) w.out-is ∙ c.loop-i.invariant ∙ ap (λ (bs : List ℕ). front ++ bs) (sym (text_same cs ts i beside lt none))
    ]

pub returns-clause-ok : goal.returns-clause-ok
returns-clause-ok c =
    let cs = c.args.cells.now.chunks in
    let ts = c.args.cells.now.texts in
    let done : length cs ≤ c.loop-i.i = let n = c.chunk_count-i-end.ensures in let t = c.loop-i-test.false in omega arith in
    c.loop-i.invariant
    ∙ ap (λ (bs : List ℕ). c.args.out.now.items ++ bs)
    (text_all cs ts c.loop-i.i c.known.ensures.beside done
    ∙ ap (λ (s : List CellData). shown_text s (joined ts)) c.known.ensures.chunks
    ∙ ap (λ (s : List ℕ). shown_text c.args.cells.now.cells s) c.known.ensures.texts)
