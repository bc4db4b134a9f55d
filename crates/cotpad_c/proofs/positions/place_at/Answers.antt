use Rattle.std.proofs.Common.{◌≡◌, subst, sym, ◌∙◌}
use Rattle.std.specs.Prelude.{Some}
use Rattle.context_diff.specs.Replays.{characters_of}
use Rattle.tombstone_text.specs.declared.measure.Measure.{Measure}
use Rattle.text_positions.specs.Offsets.{HasNoPlace}
use Rattle.cotpad_c.proofs.Offsets.{never_lines}
use Rattle.cotpad_c.proofs.positions.place_at.Goals as goal

pub place_by-requires : goal.place_by-requires
place_by-requires c = never_lines c.args.measure c.in-Some.given (sym c.measure_given.ensures ∙ c.in-Some.is)

pub returns-in-Some-clause-none : goal.returns-in-Some-clause-none
returns-in-Some-clause-none c m at none =
    let both : Some m ≡ Some c.in-Some.given = sym at ∙ sym c.measure_given.ensures ∙ c.in-Some.is in
    let same : m ≡ c.in-Some.given = cc in
    c.place_by.ensures.none (
    subst (λ (given : Measure). HasNoPlace given (characters_of c.args.site.now.history) c.args.offset) same none
    )
