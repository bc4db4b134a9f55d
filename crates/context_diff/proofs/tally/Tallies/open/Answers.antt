use Rattle.std.proofs.Common.{List, ap, sym, subst, ◌∙◌}
use Rattle.std.specs.List.{insert}
use Rattle.context_diff.specs.Code.Tallies.{TallyData, AreRising, GoesTo, counts_of, places_of}
use Rattle.context_diff.proofs.Sites.{inserted_at, rising_inserted, same_lists, tally_absent}
use Rattle.context_diff.proofs.tally.Tallies.open.Goals as goal

pub invariant_of-self-in-Err : goal.invariant_of-self-in-Err
invariant_of-self-in-Err c =
    let ts = c.self.inside.sites.items in
    let s = c.args.site in
    let i = c.in-Err.at in
    let gap : GoesTo ts s i = subst (λ (xs : List TallyData). GoesTo xs s i) (sym c.self.view_is) c.in-Err.ensures.absent in
    subst AreRising (sym c.in_ok-insert-in-Err.ensures.items)
    (rising_inserted ts s i gap c.new-tally.result c.new-tally.ensures.site c.self.invariant)

pub returns-in_ok-insert-in-Err-clause-counts : goal.returns-in_ok-insert-in-Err-clause-counts
returns-in_ok-insert-in-Err-clause-counts c =
    let ts = c.self.inside.sites.items in
    let s = c.args.site in
    let i = c.in-Err.at in
    let gap : GoesTo ts s i = subst (λ (xs : List TallyData). GoesTo xs s i) (sym c.self.view_is) c.in-Err.ensures.absent in
    let t = c.new-tally.result in
    let none = c.new-tally.ensures.counts ∙ sym (ap (λ (x : TallyData). x.counts) (tally_absent ts s i gap)) in
    ap counts_of c.in_ok-insert-in-Err.ensures.items
    ∙ ((λ j q. same_lists (λ (x : TallyData). x.counts) ts (insert ts i t) s t
    (inserted_at ts s i gap t c.new-tally.ensures.site) none q j) ∙ ap counts_of c.self.view_is)

pub returns-in_ok-insert-in-Err-clause-places : goal.returns-in_ok-insert-in-Err-clause-places
returns-in_ok-insert-in-Err-clause-places c =
    let ts = c.self.inside.sites.items in
    let s = c.args.site in
    let i = c.in-Err.at in
    let gap : GoesTo ts s i = subst (λ (xs : List TallyData). GoesTo xs s i) (sym c.self.view_is) c.in-Err.ensures.absent in
    let t = c.new-tally.result in
    let none = c.new-tally.ensures.places ∙ sym (ap (λ (x : TallyData). x.places) (tally_absent ts s i gap)) in
    ap places_of c.in_ok-insert-in-Err.ensures.items
    ∙ ((λ j q. same_lists (λ (x : TallyData). x.places) ts (insert ts i t) s t
    (inserted_at ts s i gap t c.new-tally.ensures.site) none q j) ∙ ap places_of c.self.view_is)
