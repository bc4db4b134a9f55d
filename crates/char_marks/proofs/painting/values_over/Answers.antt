use Rattle.std.proofs.Common.{◌≡◌, List, Option, map, length, sym, subst}
use Rattle.std.specs.Prelude.{Result, Ok, Err, IfOk}
use Rattle.context_diff.specs.Replays.{replay_of}
use Rattle.char_marks.specs.declared.value.Kind.TheVariants.{Weight, Slope, Hue}
use Rattle.char_marks.specs.declared.reading.Top.{Top}
use Rattle.char_marks.specs.Marks.{MarksData}
use Rattle.char_marks.specs.Values.{values_of}
use Rattle.char_marks.specs.Code.Painting.{ArePainted, AreTold}
use Rattle.char_marks.proofs.Told.{all_told}
use Rattle.char_marks.proofs.painting.values_over.Goals as goal

on_ok : {X E : Type 0} (P Q : X → Type 0) (r : Result X E) → ((x : X) → P x → Q x) → IfOk r P → IfOk r Q
on_ok P Q (Ok x) f p = f x p
on_ok P Q (Err e) f p = tt

pub returns : goal.returns
returns c =
    let h = c.args.site.now.history in
    let raised = c.args.raised.now.set.entries in
    let ks = c.args.marks.now in
    let s : MarksData = record { kept = ks; raised = raised } in
    let ws = c.as_slice.result.now in
    let ss = c.as_slice-2.result.now in
    let hs = c.as_slice-3.result.now in
    let weights : ArePainted Weight h raised ks ws =
    subst (λ (l : List (Option Top)). ArePainted Weight h raised ks l) (sym c.as_slice.ensures.value) c.in_ok-weights.ensures in
    let slopes : ArePainted Slope h raised ks ss =
    subst (λ (l : List (Option Top)). ArePainted Slope h raised ks l) (sym c.as_slice-2.ensures.value) c.in_ok-slopes.ensures in
    let hues : ArePainted Hue h raised ks hs =
    subst (λ (l : List (Option Top)). ArePainted Hue h raised ks l) (sym c.as_slice-3.ensures.value) c.in_ok-hues.ensures in
    on_ok (λ vs. AreTold ws ss hs (length ws) vs.items) (λ vs. vs.items ≡ map (values_of h s) (replay_of h)) c.combined.result
    (λ vs are. all_told h s ws ss hs vs.items weights slopes hues are) c.combined.ensures
