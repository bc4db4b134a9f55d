use Rattle.std.proofs.Common.{◌≡◌, ℕ, ◌+◌, ◌-◌, ◌≤◌, List, Some, slice_get, ap, sym, ◌∙◌, arith}
use Rattle.context_diff.specs.Replays.{is_shown, replay_of}
use Rattle.cot_site.specs.Views.{shown_places_of}
use Rattle.cot_site.proofs.CallerLemmas.{places_are, shown_count}
use Rattle.char_marks.proofs.Made.{rising}
use Rattle.char_marks.proofs.making.span_of.Goals as goal

pub shown_place-first-requires : goal.shown_place-first-requires
shown_place-first-requires c =
    let count = shown_count c.args.site.now.history c.cells-cells.result.now.cells c.cells-cells.ensures.replayed in
    omega (arith, count, c.visible_len-visible.ensures, c.from.ensures, c.from-2.ensures, c.from-3.ensures, c.if-from.false, c.requires)

pub shown_place-last-requires : goal.shown_place-last-requires
shown_place-last-requires c =
    let count = shown_count c.args.site.now.history c.cells-cells.result.now.cells c.cells-cells.ensures.replayed in
    omega (arith, count, c.visible_len-visible.ensures, c.from.ensures, c.from-2.ensures, c.from-3.ensures, c.if-from.false, c.requires)

pub overflow_sub-result : goal.overflow_sub-result
overflow_sub-result c =
    let h = c.args.site.now.history in
    let v = c.args.v in
    let w = c.args.v + (c.args.count - 1) in
    let places = places_are h c.cells-cells.result.now.cells c.cells-cells.ensures.replayed in
    let le : v ≤ w = omega arith in
    rising (is_shown h) (replay_of h) 0 v w c.shown_place-first.result c.shown_place-last.result le
    (ap (λ (l : List ℕ). slice_get l v) (sym places) ∙ c.shown_place-first.ensures.place)
    (ap (λ (l : List ℕ). slice_get l w) (sym places) ∙ c.shown_place-last.ensures.place)

pub returns-clause-there : goal.returns-clause-there
returns-clause-there c =
    let h = c.args.site.now.history in
    let v = c.args.v in
    let w = c.args.v + (c.args.count - 1) in
    let a = c.shown_place-first.result in
    let b = c.shown_place-last.result in
    let places = places_are h c.cells-cells.result.now.cells c.cells-cells.ensures.replayed in
    let le : v ≤ w = omega arith in
    let at : slice_get (shown_places_of h) v ≡ Some a =
    ap (λ (l : List ℕ). slice_get l v) (sym places) ∙ c.shown_place-first.ensures.place in
    let to : slice_get (shown_places_of h) w ≡ Some b =
    ap (λ (l : List ℕ). slice_get l w) (sym places) ∙ c.shown_place-last.ensures.place in
    let order : a ≤ b = rising (is_shown h) (replay_of h) 0 v w a b le at to in
    let index : v + c.args.count - 1 ≡ w = omega (arith, c.requires) in
    let end : b ≡ a + (b - a + 1) - 1 = omega (arith, order) in
    record {
      within =
          omega (arith, c.visible_len-visible.ensures, c.from.ensures, c.from-2.ensures, c.from-3.ensures, c.if-from.false);
      first = at;
      last = ap (λ (k : ℕ). slice_get (shown_places_of h) k) index ∙ (to ∙ ap (λ (k : ℕ). Some k) end);
      some = omega arith;
    }
