use Rattle.std.proofs.Common.{◌≡◌, List, ap, ◌∙◌, subst}
use Rattle.ttf_form.specs.Families.{IsIn}
use Rattle.char_marks.specs.declared.value.Kind.TheVariants.{Weight, Slope, Hue}
use Rattle.char_marks.specs.Marks.{KeptData, MarksData}
use Rattle.char_marks.specs.Values.{is_bold, is_italic, colour_in, value_of}
use Rattle.char_marks.specs.Code.Cells.{cell_at}
use Rattle.char_marks.proofs.marks.Marks.values_at.Goals as goal

pub last_value-weight-requires-clause-fit : goal.last_value-weight-requires-clause-fit
last_value-weight-requires-clause-fit c =
    λ k i. c.requires.fit k
    (subst (λ (l : List KeptData). IsIn k l) (c.as_slice-marks.ensures.value ∙ ap (λ (s : MarksData). s.kept) c.self.view_is) i)

pub last_value-slope-requires-clause-fit : goal.last_value-slope-requires-clause-fit
last_value-slope-requires-clause-fit c =
    λ k i. c.requires.fit k
    (subst (λ (l : List KeptData). IsIn k l) (c.as_slice-marks.ensures.value ∙ ap (λ (s : MarksData). s.kept) c.self.view_is) i)

pub last_value-hue-requires-clause-fit : goal.last_value-hue-requires-clause-fit
last_value-hue-requires-clause-fit c =
    λ k i. c.requires.fit k
    (subst (λ (l : List KeptData). IsIn k l) (c.as_slice-marks.ensures.value ∙ ap (λ (s : MarksData). s.kept) c.self.view_is) i)

pub returns : goal.returns
returns c =
    let h = c.args.site.now.history in
    let cell = cell_at c.args.spot.now.id in
    let same : ◌≡◌ {A = MarksData} (record { kept = c.as_slice-marks.result.now; raised = c.self.inside.raised.set.entries })
    c.args.self.now =
    ap (λ (l : List KeptData). record { kept = l; raised = c.self.inside.raised.set.entries }) c.as_slice-marks.ensures.value
    ∙ c.self.view_is in
    let bold : c.is_bold.result ≡ is_bold (value_of Weight h c.args.self.now cell) =
    c.is_bold.ensures ∙ ap is_bold (c.last_value-weight.ensures ∙ ap (λ (s : MarksData). value_of Weight h s cell) same) in
    let italic : c.is_italic.result ≡ is_italic (value_of Slope h c.args.self.now cell) =
    c.is_italic.ensures ∙ ap is_italic (c.last_value-slope.ensures ∙ ap (λ (s : MarksData). value_of Slope h s cell) same) in
    let colour : c.colour_in.result ≡ colour_in (value_of Hue h c.args.self.now cell) =
    c.colour_in.ensures ∙ ap colour_in (c.last_value-hue.ensures ∙ ap (λ (s : MarksData). value_of Hue h s cell) same) in
    λ i. record { bold = bold i; italic = italic i; colour = colour i }
