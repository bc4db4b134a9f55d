use Rattle.std.proofs.Common.{◌≡◌, ℕ, ◌+◌, true, ◌||◌, List, [], ◌∷◌, ◌++◌, refl, sym, subst, ◌∙◌, arith}
use Rattle.std.specs.Prelude.{Some, slice_get}
use Rattle.std.proofs.lemmas.Bool.{false≢true}
use Rattle.op_name.specs.declared.member.Member.TheVariants.{Group}
use Rattle.context_diff.specs.Histories.{is_known, members_in}
use Rattle.context_diff.specs.Code.Places.{ArePlacesOf, is_group_between}
use Rattle.context_diff.proofs.PlaceSteps.{groups_step, groups_end}
use Rattle.context_diff.proofs.gathering.add_generations.Goals as goal
use Rattle.context_diff.proofs.gathering.add_generations.Goals.{in-Some+in_ok-add_place, in_default}

pub loop-step-preserved : goal.loop-step-preserved
loop-step-preserved c t apart first =
    let h = c.args.book.now.ops in
    let s = c.args.name in
    let low = c.args.low in
    let step = c.loop-step.step in
    elim c.match-place_of.branch [
      | in-Some+in_ok-add_place w ↦
          let at : slice_get (members_in h) w.in-Some.place ≡ Some (Group s ((low + step) + 1)) = (w.in-Some.ensures).place in
          let items : c.match-place_of.places.items ≡ c.loop-step.places.items ++ w.in-Some.place ∷ [] =
          (λ i. (w.places-is i).items) ∙ (w.in_ok-add_place.ensures) in
          subst (λ (ps : List ℕ). ArePlacesOf (members_in h) (λ y. t y || is_group_between s low (low + (step + 1)) y) ps) (sym items)
          (groups_step h c.known.ensures.valid t s low c.args.high step c.loop-step.places.items w.in-Some.place at
          (omega (arith, c.saturating_sub-step-end.ensures)) apart (c.loop-step.invariant t apart first))
      | in_default w ↦
          let there : is_known h (Group s ((low + step) + 1)) ≡ true =
          c.requires ((low + step) + 1) (omega arith) (omega (arith, c.saturating_sub-step-end.ensures)) in
          absurd (false≢true (sym ((w.in_default.ensures).none.0 refl) ∙ there))
    ]

pub returns-clause-places : goal.returns-clause-places
returns-clause-places c t apart first =
    groups_end (members_in c.args.book.now.ops) t c.args.name c.args.low c.args.high c.loop-step.step c.loop-step.places.items
    (omega (arith, c.saturating_sub-step-end.ensures)) (omega (arith, c.saturating_sub-step-end.ensures))
    (c.loop-step.invariant t apart first)
