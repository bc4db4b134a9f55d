use Rattle.std.proofs.Common.{ℕ, ◌≡◌, ◌++◌, ◌∷◌, [], Bool, true, false, List, not, refl, ap, ap₂, sym, ◌∙◌}
use Rattle.std.proofs.Math.Bool.{beq}
use Rattle.std.proofs.lemmas.Result.{on_ok_weaker}
use Rattle.change_list.specs.declared.change.Change.{Change}
use Rattle.change_list.specs.Told.{told, told_at}
use Rattle.change_list.proofs.CallerLemmas.{told_same, told_turned}
use Rattle.site_changes.specs.Code.Marks.{mark_of}
use Rattle.site_changes.proofs.telling.tell_cell.Goals as goal

same : (a b : Bool) → beq a b ≡ true → a ≡ b
same true true e = refl
same true false e = cc
same false true e = cc
same false false e = refl

other : (a b : Bool) → beq a b ≡ false → a ≡ not b
other true true e = cc
other true false e = refl
other false true e = refl
other false false e = cc

pub returns-then-showed-shown : goal.returns-then-showed-shown
returns-then-showed-shown c ms is front =
    let m = mark_of c.args.at.now c.args.cell.now in
    let alike : m.was ≡ m.is =
    sym c.showed.ensures ∙ same c.showed.result c.shown-shown.result c.if-showed-shown.true ∙ c.shown-shown.ensures in
    is ∙ sym (told_same ms m alike)

pub returns : goal.returns
returns c =
    let m = mark_of c.args.at.now c.args.cell.now in
    let shown : c.shown-shown.result ≡ m.is = c.shown-shown.ensures in
    let turned : m.was ≡ not m.is =
    sym c.showed.ensures ∙ other c.showed.result c.shown-shown.result c.if-showed-shown.false ∙ ap not shown in
    let now = told_at c.args.place c.shown-shown.result c.args.changes.now.items in
    on_ok_weaker c.tell.result (λ (e : c.tell.new.changes.items ≡ now) ms is front.
    e
    ∙ ap₂ (λ (b : Bool) (cs : List Change). told_at c.args.place b cs) shown is
    ∙ ap (λ (n : ℕ). told_at n m.is (told ms)) (sym front)
    ∙ sym (told_turned ms m.it m.is)
    ∙ ap (λ (b : Bool). told (ms ++ record { it = m.it; was = b; is = m.is } ∷ [])) (sym turned)) c.tell.ensures.told
