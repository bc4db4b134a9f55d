use Rattle.std.proofs.Common.{ℕ, ◌-◌, List, if◌then◌else◌, length, take, set, ap, sym, subst, ◌∙◌}
use Rattle.std.specs.Prelude.{◌==◌}
use Rattle.context_diff.specs.Code.Tallies.{TallyData, StandsAt, counts_of, places_of}
use Rattle.context_diff.proofs.Sites.{no_list, one_list, put_at, read_at, tally_absent}
use Rattle.context_diff.proofs.tally.Tallies.pop_at.Goals as goal

pub returns-in-Ok-clause-counts : goal.returns-in-Ok-clause-counts
returns-in-Ok-clause-counts c q =
    let ts = c.self.inside.sites.items in
    let s = c.args.site in
    let at : StandsAt ts s c.in-Ok.at =
    subst (λ (xs : List TallyData). StandsAt xs s c.in-Ok.at) (sym c.self.view_is) c.in-Ok.ensures.found in
    let new = c.pop.new.self in
    let found = read_at ts c.self.invariant s c.in-Ok.at at c.index_mut.result.now c.index_mut.ensures.value in
    let have = put_at ts c.self.invariant s c.in-Ok.at at c.index_mut.result.now new c.index_mut.ensures.value c.pop.ensures.site in
    let less : List ℕ → List ℕ = λ xs. take (length xs - 1) xs in
    one_list (λ (t : TallyData). t.counts) less ts (set ts c.in-Ok.at new) s new have
    (c.pop.ensures.counts ∙ ap (λ (t : TallyData). less t.counts) found) q
    ∙ ap (λ (xs : List TallyData). if s == q then less (counts_of xs q) else counts_of xs q) c.self.view_is

pub returns-in-Ok-clause-places : goal.returns-in-Ok-clause-places
returns-in-Ok-clause-places c q =
    let ts = c.self.inside.sites.items in
    let s = c.args.site in
    let at : StandsAt ts s c.in-Ok.at =
    subst (λ (xs : List TallyData). StandsAt xs s c.in-Ok.at) (sym c.self.view_is) c.in-Ok.ensures.found in
    let new = c.pop.new.self in
    let found = read_at ts c.self.invariant s c.in-Ok.at at c.index_mut.result.now c.index_mut.ensures.value in
    let have = put_at ts c.self.invariant s c.in-Ok.at at c.index_mut.result.now new c.index_mut.ensures.value c.pop.ensures.site in
    let less : List ℕ → List ℕ = λ xs. take (length xs - 1) xs in
    one_list (λ (t : TallyData). t.places) less ts (set ts c.in-Ok.at new) s new have
    (c.pop.ensures.places ∙ ap (λ (t : TallyData). less t.places) found) q
    ∙ ap (λ (xs : List TallyData). if s == q then less (places_of xs q) else places_of xs q) c.self.view_is

pub returns-in_default-clause-counts : goal.returns-in_default-clause-counts
returns-in_default-clause-counts c =
    let none = tally_absent c.args.self.now c.args.site c.in_default.field-0 c.in_default.ensures.absent in
    no_list (λ (t : TallyData). t.counts) c.args.self.now c.args.site (ap (λ (t : TallyData). t.counts) none)

pub returns-in_default-clause-places : goal.returns-in_default-clause-places
returns-in_default-clause-places c =
    let none = tally_absent c.args.self.now c.args.site c.in_default.field-0 c.in_default.ensures.absent in
    no_list (λ (t : TallyData). t.places) c.args.self.now c.args.site (ap (λ (t : TallyData). t.places) none)
