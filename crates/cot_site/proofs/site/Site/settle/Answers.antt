use Rattle.std.proofs.Common.{◌≡◌, subst}
use Rattle.cot_site.specs.Sites.{AreKeptOrGone, state_of}
use Rattle.cot_site.specs.Code.Releasing.{IsReleasedInto}
use Rattle.cot_site.proofs.Settling.{settling_first, settling_more, settling_fewer, settling_last, forms_same, forms_on}
use Rattle.cot_site.proofs.Changes.{cache_same, cache_on, cache_stopped, into_later, refused}
use Rattle.cot_site.proofs.site.Site.settle.Goals as goal

pub loop-init : goal.loop-init
loop-init c = (
  settling_first (state_of c.args.self.now) c.args.released.now.items
      (record { number = c.known.ensures.number; history = c.known.ensures.history; waiting = c.known.ensures.waiting }),
  forms_same _,
  cache_same c.args.self.now,
)

pub loop-preserved : goal.loop-preserved
loop-preserved c =
    let now = state_of c.loop.self in
    let next = state_of c.release_into.new.self in
    let one =
    subst (λ b. IsReleasedInto now next c.loop.released.items c.release_into.new.list.items b) c.if-not-branch.false
    c.in_ok-release_into.ensures.release in
    let later = into_later now next _ _ _ c.in_ok-release_into.ensures.release in (
      settling_more _ now next _ c.loop.released.items c.release_into.new.list.items c.loop.invariant.0 one,
      forms_on _ _ _ c.loop.invariant.1 c.in_ok-release_into.ensures.forms,
      cache_on c.args.self.now c.loop.self c.release_into.new.self c.loop.invariant.2 later c.in_ok-release_into.ensures.entries,
    )

pub loop-smaller : goal.loop-smaller
loop-smaller c =
    let now = state_of c.loop.self in
    let next = state_of c.release_into.new.self in
    let one =
    subst (λ b. IsReleasedInto now next c.loop.released.items c.release_into.new.list.items b) c.if-not-branch.false
    c.in_ok-release_into.ensures.release in
    settling_fewer _ now next _ c.loop.released.items c.release_into.new.list.items c.loop.invariant.0 one

pub returns-then-not-branch-clause-state : goal.returns-then-not-branch-clause-state
returns-then-not-branch-clause-state c =
    let now = state_of c.loop.self in
    let next = state_of c.release_into.new.self in
    let none =
    subst (λ b. IsReleasedInto now next c.loop.released.items c.release_into.new.list.items b) c.if-not-branch.true
    c.in_ok-release_into.ensures.release in
    (settling_last _ now next _ c.loop.released.items c.release_into.new.list.items c.loop.invariant.0 none).0

pub returns-then-not-branch-clause-released : goal.returns-then-not-branch-clause-released
returns-then-not-branch-clause-released c =
    let now = state_of c.loop.self in
    let next = state_of c.release_into.new.self in
    let none =
    subst (λ b. IsReleasedInto now next c.loop.released.items c.release_into.new.list.items b) c.if-not-branch.true
    c.in_ok-release_into.ensures.release in
    (settling_last _ now next _ c.loop.released.items c.release_into.new.list.items c.loop.invariant.0 none).1

pub returns-then-not-branch-clause-entries : goal.returns-then-not-branch-clause-entries
returns-then-not-branch-clause-entries c =
    let later = into_later (state_of c.loop.self) (state_of c.release_into.new.self) _ _ _ c.in_ok-release_into.ensures.release in
    (cache_on c.args.self.now c.loop.self c.release_into.new.self c.loop.invariant.2 later c.in_ok-release_into.ensures.entries).entries

pub returns-in_err-release_into-clause-cache : goal.returns-in_err-release_into-clause-cache
returns-in_err-release_into-clause-cache c =
    let stopped : c.release_into.new.self.history ≡ c.args.self.now.history
    → AreKeptOrGone c.args.self.now.entries c.release_into.new.self.entries =
    λ same. cache_stopped c.args.self.now c.loop.self c.release_into.new.self c.loop.invariant.2 c.in_err-release_into.ensures.err same in
    refused _ stopped
