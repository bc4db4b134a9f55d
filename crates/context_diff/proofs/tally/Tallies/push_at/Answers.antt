use Rattle.std.proofs.Common.{◌≡◌, ℕ, ◌+◌, List, [], ◌∷◌, ◌++◌, if◌then◌else◌, set, ap, sym, subst, ◌∙◌, arith}
use Rattle.std.specs.Prelude.{◌==◌}
use Rattle.context_diff.specs.Code.Tallies.{TallyData, StandsAt, counts_of, places_of, tally_of, total}
use Rattle.context_diff.proofs.Sites.{one_list, put_at, read_at, rising_put, spare_is, tally_absent}
use Rattle.context_diff.proofs.tally.Tallies.push_at.Goals as goal

-- the lists that are found are the site's
read : (c : goal.After-index_mut) → c.index_mut.result.now ≡ tally_of c.self.inside.sites.items c.args.site
read c =
    let ts = c.self.inside.sites.items in
    let s = c.args.site in
    let at : StandsAt ts s c.in-Ok.at =
    subst (λ (xs : List TallyData). StandsAt xs s c.in-Ok.at) (sym c.self.view_is) c.in-Ok.ensures.found in
    read_at ts c.self.invariant s c.in-Ok.at at c.index_mut.result.now c.index_mut.ensures.value

pub push-requires-clause-room : goal.push-requires-clause-room
push-requires-clause-room c =
    let seen = ap (λ (xs : List TallyData). (tally_of xs c.args.site).spare) c.self.view_is in
    omega (arith, c.requires.room, spare_is c.args.self.now c.args.site, seen, ap (λ (t : TallyData). t.spare) (read c))

pub push-requires-clause-short : goal.push-requires-clause-short
push-requires-clause-short c =
    let seen = ap (λ (xs : List TallyData). total (counts_of xs c.args.site)) c.self.view_is in
    omega (arith, c.requires.short, seen, ap (λ (t : TallyData). total t.counts) (read c))

pub invariant_of-self : goal.invariant_of-self
invariant_of-self c =
    let ts = c.self.inside.sites.items in
    let s = c.args.site in
    let at : StandsAt ts s c.in-Ok.at =
    subst (λ (xs : List TallyData). StandsAt xs s c.in-Ok.at) (sym c.self.view_is) c.in-Ok.ensures.found in
    rising_put ts c.self.invariant s c.in-Ok.at at c.index_mut.result.now c.push.new.self c.index_mut.ensures.value c.push.ensures.site

pub unreachable-requires : goal.unreachable-requires
unreachable-requires c =
    let none = tally_absent c.args.self.now c.args.site c.in-Err.field-0 c.in-Err.ensures.absent in
    omega (arith, c.requires.room, spare_is c.args.self.now c.args.site, ap (λ (t : TallyData). t.spare) none)

pub returns-clause-counts : goal.returns-clause-counts
returns-clause-counts c q =
    let ts = c.self.inside.sites.items in
    let s = c.args.site in
    let at : StandsAt ts s c.in-Ok.at =
    subst (λ (xs : List TallyData). StandsAt xs s c.in-Ok.at) (sym c.self.view_is) c.in-Ok.ensures.found in
    let new = c.push.new.self in
    let found = read_at ts c.self.invariant s c.in-Ok.at at c.index_mut.result.now c.index_mut.ensures.value in
    let have = put_at ts c.self.invariant s c.in-Ok.at at c.index_mut.result.now new c.index_mut.ensures.value c.push.ensures.site in
    let more : List ℕ → List ℕ = λ xs. xs ++ (total xs + c.args.cells) ∷ [] in
    one_list (λ (t : TallyData). t.counts) more ts (set ts c.in-Ok.at new) s new have
    (c.push.ensures.counts ∙ ap (λ (t : TallyData). more t.counts) found) q
    ∙ ap (λ (xs : List TallyData). if s == q then more (counts_of xs q) else counts_of xs q) c.self.view_is

pub returns-clause-places : goal.returns-clause-places
returns-clause-places c q =
    let ts = c.self.inside.sites.items in
    let s = c.args.site in
    let at : StandsAt ts s c.in-Ok.at =
    subst (λ (xs : List TallyData). StandsAt xs s c.in-Ok.at) (sym c.self.view_is) c.in-Ok.ensures.found in
    let new = c.push.new.self in
    let found = read_at ts c.self.invariant s c.in-Ok.at at c.index_mut.result.now c.index_mut.ensures.value in
    let have = put_at ts c.self.invariant s c.in-Ok.at at c.index_mut.result.now new c.index_mut.ensures.value c.push.ensures.site in
    let more : List ℕ → List ℕ = λ xs. xs ++ c.args.place ∷ [] in
    one_list (λ (t : TallyData). t.places) more ts (set ts c.in-Ok.at new) s new have
    (c.push.ensures.places ∙ ap (λ (t : TallyData). more t.places) found) q
    ∙ ap (λ (xs : List TallyData). if s == q then more (places_of xs q) else places_of xs q) c.self.view_is
