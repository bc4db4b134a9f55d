-- Generated sessions in which no message is delivered: each site has its own operations alone.
use Rattle.std.proofs.Common.{◌≡◌, ℕ, zero, suc, ◌+◌, ◌<◌, ◌≤◌, Bool, false, inl, inr, List, [], ◌∷◌, ◌++◌, length, refl, ap, sym, subst, ◌∙◌, length-append, arith}
use Rattle.std.specs.Prelude.{Contains, set, if◌then◌else◌}
use Rattle.std.proofs.Math.Nat.{mod-lt}
use Rattle.std.proofs.lemmas.Bool.{cases_eq, eq-eqb, ne_eqb}
use Rattle.std.proofs.lemmas.List.Elements.{Contains-push_cases}
use Rattle.op_name.specs.declared.member.Member.TheVariants.{Original}
use Rattle.op_name.specs.NameData.{NameData}
use Rattle.op_name.specs.Members.{target_of}
use Rattle.context_diff.specs.Operations.{OpData, inserting, deleting, undoing, member_of}
use Rattle.context_diff.specs.Histories.{IsNext}
use Rattle.context_diff.proofs.CallerLemmas.{contains_none, holder}
use Rattle.cot_site.specs.States.{State, with_last}
use Rattle.session_replay.specs.declared.generator.TheConstants.{MAX_EVENTS}
use Rattle.session_replay.specs.Sessions.{SessionData, new_site, site_at}
use Rattle.session_replay.specs.Generating.{Plan, drawn_operation, draws_from, turn_of, is_due, synced_if, acted, generating, turns, SitesStayAlone}
use Rattle.session_replay.proofs.Gathering.{IsPlan, Keeps, Steady, progress, acted_leaves, new_at, site_here, site_other}
use Rattle.session_replay.proofs.Making.{Makes, drawn_makes}
use Rattle.session_replay.proofs.Room.{no_longer}

-- all operations of the history are of originals of this site
abbrev AreOwn : ℕ → List OpData → Type 0
AreOwn i h = (o : OpData) → Contains h o → (target_of (member_of o)).site ≡ i

-- an operation that comes next, and whose name is the site's own if it has one, is of an original of the site
own_next : (i : ℕ) (h : List OpData) (o : OpData) → AreOwn i h → IsNext h o → ((n : NameData) → member_of o ≡ Original n → n.site ≡ i)
    → (target_of (member_of o)).site ≡ i
own_next i h (inserting n p text c) own next named = named n refl
own_next i h (deleting n p c) own next named = named n refl
own_next i h (undoing a t g c) own next named =
    let held = holder h (Original t) (next.ready (Original t) next.formed.target.0) in
    ap (λ m. (target_of m).site) (sym held.is) ∙ own held.op held.there

own_more : (i : ℕ) (h : List OpData) (o : OpData) → AreOwn i h → (target_of (member_of o)).site ≡ i → AreOwn i (h ++ o ∷ [])
own_more i h o own last x at = elim (Contains-push_cases h o x at) [
  | inl old ↦ own x old
  | inr same ↦ subst (λ y. (target_of (member_of y)).site ≡ i) same last
]

-- after the first k events
pub record Alone (p : Plan) (k i : ℕ) (s : State) : Type 0 where
  made : length s.history ≡ turns p i k
  own : AreOwn i s.history

alone_new : (p : Plan) (i : ℕ) → Alone p 0 i (new_site i)
unfolding turns
alone_new p i = record { made = refl; own = λ o at. absurd (contains_none o at) }

turn_here : (p : Plan) (k i : ℕ) → turn_of p k ≡ i → turns p i (suc k) ≡ suc (turns p i k)
unfolding turns
turn_here p k i is = ap (λ (b : Bool). if b then suc (turns p i k) else turns p i k) (eq-eqb (turn_of p k) i is)

turn_elsewhere : (p : Plan) (k i : ℕ) → (turn_of p k ≡ i → ⊥) → turns p i (suc k) ≡ turns p i k
unfolding turns
turn_elsewhere p k i isnt = ap (λ (b : Bool). if b then suc (turns p i k) else turns p i k) (ne_eqb (turn_of p k) i isnt)

never_due : (p : Plan) (k : ℕ) → p.syncs ≡ false → is_due p k ≡ false
never_due p k none = rw none refl

-- an event at one site
module _ (p : Plan) (k : ℕ) (d : SessionData) (steady : Steady p.sites d) (within : turn_of p k < p.sites)
    (few : length d.messages ≤ MAX_EVENTS) (x : ℕ)
    (alone : (i : ℕ) → i < p.sites → Alone p k i (site_at d i)) where
  abbrev at : ℕ
  at = turn_of p k

  abbrev s : State
  s = site_at d at

  keeps : Keeps d.messages at s
  keeps = steady.sites at within

  m : Makes s (drawn_operation s (draws_from x))
  m = drawn_makes s (draws_from x)
      (record {
        valid = keeps.sound.history;
        site = keeps.sound.number;
        few =
            omega (arith, few, no_longer s.history keeps.sound.history d.messages keeps.part);
      })

  abbrev after : SessionData
  after = record { sites = set d.sites at (with_last s m.op); messages = d.messages ++ m.op ∷ [] }

  here : Alone p (suc k) at (with_last s m.op)
  here = record {
    made = omega (arith, length-append s.history (m.op ∷ []), (alone at within).made, turn_here p k at refl);
    own = own_more at s.history m.op (alone at within).own
        (own_next at s.history m.op (alone at within).own m.next (λ n is. m.own n is ∙ keeps.number));
  }

  alone_after : (i : ℕ) → i < p.sites → Alone p (suc k) i (site_at after i)
  alone_after i less = elim (cases_eq i at) [
    | inl same ↦ subst (λ j. Alone p (suc k) j (site_at after j)) (sym same)
        (subst (Alone p (suc k) at) (sym
        (site_here d (d.messages ++ m.op ∷ []) at (with_last s m.op) (omega (arith, within, steady.count)))) here)
    | inr apart ↦
        let old = alone i less in
        subst (Alone p (suc k) i) (sym (site_other d (d.messages ++ m.op ∷ []) at i (with_last s m.op) apart))
        (record { made = old.made ∙ sym (turn_elsewhere p k i (λ e. apart (sym e))); own = old.own })
  ]

  pub alone_acted : (i : ℕ) → i < p.sites → Alone p (suc k) i (site_at (acted at (draws_from x) d) i)
  alone_acted i less =
      subst (λ e. Alone p (suc k) i (site_at e i)) (sym (acted_leaves at (draws_from x) d m keeps.quiet)) (alone_after i less)

alone_through : (p : Plan) → IsPlan p → p.syncs ≡ false → (k : ℕ) → k ≤ p.events → (i : ℕ) → i < p.sites
    → Alone p k i (site_at (generating p k).session i)
unfolding generating
alone_through p is none zero within i less =
    let most = is.most_sites in
    subst (Alone p 0 i) (sym (new_at 0 p.sites i (new_site i) less ∙ ap new_site (nothing i))) (alone_new p i)
  where
    nothing : (j : ℕ) → 0 + j ≡ j
    nothing j = omega arith
alone_through p is none (suc k) within i less =
    let before = progress p is k (omega (arith, within)) in
    let g = generating p k in
    let events = is.events in
    let acted_on =
    alone_acted p k g.session before.steady (mod-lt k {m = p.sites} is.sites) (omega (arith, before.count, within, events)) g.number
    (λ j smaller. alone_through p is none k (omega (arith, within)) j smaller) i less in
    subst (λ b. Alone p (suc k) i (site_at (synced_if b (acted (turn_of p k) (draws_from g.number) g.session)) i))
    (sym (never_due p (suc k) none)) acted_on

pub sites_stay_alone : SitesStayAlone
sites_stay_alone p events some most none i less =
    let is : IsPlan p = record { events = events; sites = some; most_sites = most } in
    let steady = (progress p is p.events (omega arith)).steady in
    let keeps = steady.sites i less in
    let alone = alone_through p is none p.events (omega arith) i less in
    record {
      number = keeps.number;
      sound = keeps.sound;
      quiet = keeps.quiet;
      made = alone.made;
      own = alone.own;
      one = λ o q n there here. steady.one o q n (keeps.part o there) (keeps.part q here);
    }
