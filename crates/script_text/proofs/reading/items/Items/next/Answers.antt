use Rattle.std.proofs.Common.{◌≡◌, Bor, List, ℕ, sym, ap, ◌∙◌, option_map}
use Rattle.std.specs.Prelude.{Option, Some}
use Rattle.script_text.specs.Code.Items.{left_items}
use Rattle.script_text.proofs.SetLaws.{split_cut, split_uncut}
use Rattle.script_text.proofs.reading.items.Items.next.Goals as goal

pub returns-in-Some-cut_at_comma : goal.returns-in-Some-cut_at_comma
returns-in-Some-cut_at_comma c =
    let e = c.in-Some.is in
    let f = c.in-Some.text-is in
    let left : c.self.inside.left ≡ Some c.in-Some.text = cc in
    let k = c.in-Some-cut_at_comma in
    sym c.self.view_is ∙ ap (λ (o : Option (Bor (List ℕ))). left_items (option_map (λ t. t.now) o)) left
    ∙ split_cut 44 c.in-Some.text.now k.item.now k.rest.now k.ensures

pub returns-in-None-cut_at_comma : goal.returns-in-None-cut_at_comma
returns-in-None-cut_at_comma c =
    let e = c.in-Some.is in
    let f = c.in-Some.text-is in
    let left : c.self.inside.left ≡ Some c.in-Some.text = cc in
    sym c.self.view_is ∙ ap (λ (o : Option (Bor (List ℕ))). left_items (option_map (λ t. t.now) o)) left
    ∙ split_uncut 44 c.in-Some.text.now c.in-None-cut_at_comma.ensures
