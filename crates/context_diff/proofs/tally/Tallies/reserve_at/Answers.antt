use Rattle.std.proofs.Common.{◌<◌, List, OnOk, set, ap, sym, subst, ◌∙◌}
use Rattle.context_diff.specs.Code.Tallies.{TallyData, StandsAt, counts_of, places_of}
use Rattle.context_diff.proofs.Sites.{at_site, put_at, read_at, same_lists, spare_is}
use Rattle.context_diff.proofs.tally.Tallies.reserve_at.Goals as goal

pub returns-clause-counts : goal.returns-clause-counts
returns-clause-counts c =
    let ts = c.self.inside.sites.items in
    let s = c.args.site in
    let i = c.in_ok-at.at in
    let at : StandsAt ts s i = subst (λ (xs : List TallyData). StandsAt xs s i) (sym c.self.view_is) c.in_ok-at.ensures.there in
    let new = c.reserve.new.self in
    let found = read_at ts c.self.invariant s i at c.index_mut.result.now c.index_mut.ensures.value in
    let have = put_at ts c.self.invariant s i at c.index_mut.result.now new c.index_mut.ensures.value c.reserve.ensures.site in
    let same = c.reserve.ensures.counts ∙ ap (λ (t : TallyData). t.counts) found in
    (λ j q. same_lists (λ (t : TallyData). t.counts) ts (set ts i new) s new have same q j) ∙ (ap counts_of c.self.view_is
    ∙ c.in_ok-at.ensures.counts)

pub returns-clause-places : goal.returns-clause-places
returns-clause-places c =
    let ts = c.self.inside.sites.items in
    let s = c.args.site in
    let i = c.in_ok-at.at in
    let at : StandsAt ts s i = subst (λ (xs : List TallyData). StandsAt xs s i) (sym c.self.view_is) c.in_ok-at.ensures.there in
    let new = c.reserve.new.self in
    let found = read_at ts c.self.invariant s i at c.index_mut.result.now c.index_mut.ensures.value in
    let have = put_at ts c.self.invariant s i at c.index_mut.result.now new c.index_mut.ensures.value c.reserve.ensures.site in
    let same = c.reserve.ensures.places ∙ ap (λ (t : TallyData). t.places) found in
    (λ j q. same_lists (λ (t : TallyData). t.places) ts (set ts i new) s new have same q j) ∙ (ap places_of c.self.view_is
    ∙ c.in_ok-at.ensures.places)

pub returns-clause-room : goal.returns-clause-room
returns-clause-room c =
    let ts = c.self.inside.sites.items in
    let s = c.args.site in
    let i = c.in_ok-at.at in
    let at : StandsAt ts s i = subst (λ (xs : List TallyData). StandsAt xs s i) (sym c.self.view_is) c.in_ok-at.ensures.there in
    let new = c.reserve.new.self in
    let have = put_at ts c.self.invariant s i at c.index_mut.result.now new c.index_mut.ensures.value c.reserve.ensures.site in
    subst (λ n. OnOk c.reserve.result (0 < n)) (sym (spare_is (set ts i new) s ∙ ap (λ (t : TallyData). t.spare) (at_site ts
    (set ts i new) s new have))) c.reserve.ensures.room
