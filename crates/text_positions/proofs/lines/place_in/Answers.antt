use Rattle.std.proofs.Common.{◌≡◌, ◌+◌, ℕ, sym, ap, subst, ◌∙◌, arith}
use Rattle.std.specs.Prelude.{Some}
use Rattle.std.proofs.lemmas.Option.{none-some, same_Some}
use Rattle.context_diff.specs.Replays.{characters_of}
use Rattle.tombstone_text.specs.declared.measure.Measure.TheVariants.{Lines}
use Rattle.text_positions.specs.Offsets.{HasNoPlace, IsFirstPlace}
use Rattle.text_positions.proofs.LineFronts.{no_line, no_place, place_there}
use Rattle.text_positions.proofs.Weights.{offset_none}
use Rattle.text_positions.proofs.lines.place_in.Goals as goal

pub returns-in_err-front : goal.returns-in_err-front
returns-in_err-front c =
    let cs = characters_of c.args.site.now.history in
    let is : c.from-lines.result ≡ c.args.line = omega (arith, c.from-lines.ensures) in
    c.from_residual.ensures
    ∙ sym (no_line cs c.args.line c.args.column (subst (λ n. HasNoPlace Lines cs n) is c.in_err-front.ensures))

pub returns-then-column-front : goal.returns-then-column-front
returns-then-column-front c =
    let cs = characters_of c.args.site.now.history in
    let w = c.in_ok-front.front in
    let is : c.from-lines.result ≡ c.args.line = omega (arith, c.from-lines.ensures) in
    let first : IsFirstPlace Lines cs c.args.line w = subst (λ n. IsFirstPlace Lines cs n w) is c.in_ok-front.ensures in
    let past = offset_none Lines cs (w + c.args.column) (omega (arith, c.if-column-front.true, c.known_few.ensures)) in
    sym (no_place cs c.args.line c.args.column w first (λ e. none-some c.args.line (sym past ∙ e)))

pub returns-in_err-there : goal.returns-in_err-there
returns-in_err-there c =
    let cs = characters_of c.args.site.now.history in
    let w = c.in_ok-front.front in
    let is : c.from-lines.result ≡ c.args.line = omega (arith, c.from-lines.ensures) in
    let first : IsFirstPlace Lines cs c.args.line w = subst (λ n. IsFirstPlace Lines cs n w) is c.in_ok-front.ensures in
    c.from_residual-in_err-there.ensures
    ∙ sym (no_place cs c.args.line c.args.column w first (λ e. none-some c.args.line (c.in_err-there.ensures ∙ e)))

pub returns-then-there-lines : goal.returns-then-there-lines
returns-then-there-lines c =
    let cs = characters_of c.args.site.now.history in
    let w = c.in_ok-front.front in
    let is : c.from-lines.result ≡ c.args.line = omega (arith, c.from-lines.ensures) in
    let first : IsFirstPlace Lines cs c.args.line w = subst (λ n. IsFirstPlace Lines cs n w) is c.in_ok-front.ensures in
    let line : c.in_ok-there.there ≡ c.args.line = c.if-there-lines.true ∙ is in
    sym (place_there cs c.args.line c.args.column w first (sym c.in_ok-there.ensures ∙ ap (λ n. Some n) line))

pub returns-else-there-lines : goal.returns-else-there-lines
returns-else-there-lines c =
    let cs = characters_of c.args.site.now.history in
    let w = c.in_ok-front.front in
    let is : c.from-lines.result ≡ c.args.line = omega (arith, c.from-lines.ensures) in
    let first : IsFirstPlace Lines cs c.args.line w = subst (λ n. IsFirstPlace Lines cs n w) is c.in_ok-front.ensures in
    sym (no_place cs c.args.line c.args.column w first
    (λ e. c.if-there-lines.false (same_Some c.in_ok-there.there c.args.line (c.in_ok-there.ensures ∙ e) ∙ sym is)))
