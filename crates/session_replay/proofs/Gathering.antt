-- Generated sessions: all that a site has are messages, and once every message was delivered to all sites they have the same.
use Rattle.std.proofs.Common.{◌≡◌, ◌≢◌, ℕ, zero, suc, ◌+◌, ◌%◌, ◌<◌, ◌≤◌, Bool, true, false, inl, inr, List, [], ◌∷◌, ◌++◌, length, map, refl, ap, sym, subst, ◌∙◌, append-nil, length-append, arith, Result, get_or}
use Rattle.std.specs.Prelude.{Contains, set, ◌||◌, ◌==◌}
use Rattle.std.proofs.Math.Nat.{mod-lt}
use Rattle.std.proofs.lemmas.Bool.{cases_Bool, cases_eq, true≢false, false≢true}
use Rattle.std.proofs.lemmas.Bool.Decides.{nat_tests}
use Rattle.std.proofs.lemmas.List.{length-set, get_or-set_same, get_or-set_other}
use Rattle.std.proofs.lemmas.List.Elements.{Contains-append_left, Contains-append_right, Contains-push_cases}
use Rattle.op_name.specs.declared.member.Member.{Member}
use Rattle.op_name.specs.declared.member.Member.TheVariants.{Original}
use Rattle.op_name.specs.declared.name.TheConstants.{SITES}
use Rattle.op_name.specs.NameData.{NameData}
use Rattle.context_diff.specs.Operations.{OpData, inserting, deleting, undoing, member_of, context_of}
use Rattle.context_diff.specs.Histories.{is_known, LacksNothing, IsNext, IsValid, Same, Agree}
use Rattle.context_diff.proofs.CallerLemmas.{contains_cases, contains_here, contains_none, holder, known_member, known_on, next_elsewhere, same_by_members, shifted, known_end}
use Rattle.fixed_replay.proofs.CallerLemmas.{same_text, told_apart}
use Rattle.site_answers.specs.declared.verdict.Verdict.{Verdict}
use Rattle.site_answers.specs.declared.verdict.Verdict.TheVariants.{Repeat, Integrated}
use Rattle.site_answers.specs.declared.local.Local.{Local}
use Rattle.cot_site.specs.States.{State, judged, delivered, with_last, after_verdict}
use Rattle.cot_site.specs.Verdicts.{IsRepeat}
use Rattle.cot_site.specs.Releases.{IsSound as IsSoundSite, releases, all_releases, state_after, settled}
use Rattle.cot_site.proofs.CallerLemmas.{sound_more, verdicts_exact, next_integrated, group_reached}
use Rattle.script_text.specs.Report.{op_text}
use Rattle.session_replay.specs.declared.draws.Draw.{Draw}
use Rattle.session_replay.specs.declared.generator.TheConstants.{MAX_EVENTS, MAX_SITES}
use Rattle.session_replay.specs.Steps.{last_of}
use Rattle.session_replay.specs.Sessions.{SessionData, new_site, new_sites, opened, site_at, at_site, free_step, settling, told_verdict, given, given_all, synced}
use Rattle.session_replay.specs.LineSteps.{commanded}
use Rattle.session_replay.specs.Generating.{Plan, drawn_operation, draws_from, turn_of, is_due, synced_if, acted, generating, generated, NothingWaits, HaveTheSame, ShowTheSame}
use Rattle.session_replay.proofs.Steps.{last_append}
use Rattle.session_replay.proofs.Releasing.{last_freed}
use Rattle.session_replay.proofs.Sound.{last_at}
use Rattle.session_replay.proofs.Room.{no_longer}
use Rattle.session_replay.proofs.Making.{Makes, drawn_makes}

-- ---- messages

-- the operation was made next after a valid history whose operations are all in this list
pub record Origin (before : List OpData) (o : OpData) : Type 0 where
  history : List OpData
  valid : IsValid history
  part : (x : OpData) → Contains history x → Contains before x
  next : IsNext history o

-- each of these messages was, after those of the list and those before it
abbrev AreMade : List OpData → List OpData → Type 0
AreMade before [] = Unit {0}
AreMade before (o ∷ os) = Origin before o × AreMade (before ++ o ∷ []) os

made_more : (before os : List OpData) (o : OpData) → AreMade before os → Origin (before ++ os) o → AreMade before (os ++ o ∷ [])
made_more before [] o made origin = (subst (λ xs. Origin xs o) (append-nil before) origin, tt)
made_more before (x ∷ xs) o made origin =
    (made.0, made_more (before ++ x ∷ []) xs o made.1 (subst (λ ys. Origin ys o) (sym (shifted before x xs)) origin))

-- the history has the members of all of these
abbrev Knows : List OpData → List OpData → Type 0
Knows h ms = (x : OpData) → Contains ms x → is_known h (member_of x) ≡ true

knows_none : (h : List OpData) → Knows h []
knows_none h x at = absurd (contains_none x at)

-- ---- one site

-- the site of this number: nothing waits, all that it has are messages, and it has all of its own
pub record Keeps (ms : List OpData) (i : ℕ) (s : State) : Type 0 where
  pub number : s.number ≡ i
  pub sound : IsSoundSite s
  pub quiet : s.waiting ≡ []
  pub part : (x : OpData) → Contains s.history x → Contains ms x
  pub own : (x : OpData) (n : NameData) → Contains ms x → member_of x ≡ Original n → n.site ≡ i → Contains s.history x

-- a message was delivered: the site has its member, and what it had
record Took (ms : List OpData) (i : ℕ) (s : State) (o : OpData) (t : State) : Type 0 where
  keeps : Keeps ms i t
  has : is_known t.history (member_of o) ≡ true
  stays : (m : Member) → is_known s.history m ≡ true → is_known t.history m ≡ true

repeat_known : (h ms : List OpData) (o : OpData) → IsValid h → ((x : OpData) → Contains h x → Contains ms x) → Agree ms ms → Contains ms o
    → is_known h (member_of o) ≡ true → IsRepeat h o
repeat_known h ms (inserting n p text c) valid part one at known =
    let held = holder h (Original n) known in
    subst (λ x. Contains h x) (one held.op (inserting n p text c) n (part held.op held.there) at held.is refl) held.there
repeat_known h ms (deleting n p c) valid part one at known =
    let held = holder h (Original n) known in
    subst (λ x. Contains h x) (one held.op (deleting n p c) n (part held.op held.there) at held.is refl) held.there
repeat_known h ms (undoing a t g c) valid part one at known = group_reached h valid t g known

keeps_last : (ms : List OpData) (i : ℕ) (s : State) (o : OpData) → Keeps ms i s → Contains ms o → IsNext s.history o
    → Keeps ms i (with_last s o)
keeps_last ms i s o keeps at next = record {
  number = keeps.number;
  sound = sound_more s o keeps.sound next;
  quiet = keeps.quiet;
  part = λ x there. elim (Contains-push_cases s.history o x there)
      [ inl old ↦ keeps.part x old | inr same ↦ subst (λ y. Contains ms y) same at ];
  own = λ x n there is site. Contains-append_left s.history (o ∷ []) x (keeps.own x n there is site);
}

took : (ms before : List OpData) (i : ℕ) (s : State) (o : OpData) → Keeps ms i s → Agree ms ms → Contains ms o
    → ((x : OpData) → Contains before x → Contains ms x) → Knows s.history before → Origin before o → Took ms i s o (delivered s o)
took ms before i s o keeps one at earlier knows origin =
    elim (cases_Bool (is_known s.history (member_of o))) [
      | inl known ↦
          let is : judged s o ≡ Repeat =
          sym ((verdicts_exact s.history s.waiting o Repeat keeps.sound.history origin.next.formed).0
          (repeat_known s.history ms o keeps.sound.history keeps.part one at known)) in
          subst (λ (v : Verdict). Took ms i s o (after_verdict v o s)) (sym is) (record { keeps = keeps; has = known; stays = λ m e. e })
      | inr new ↦
          let next = next_here new in
          let is : judged s o ≡ Integrated =
          next_integrated s.history s.waiting o keeps.sound.history next.formed next
          (λ n e other. contains_none other.other (subst (λ w. Contains w other.other) keeps.quiet other.there)) in
          subst (λ (v : Verdict). Took ms i s o (after_verdict v o s)) (sym is) (record {
            keeps = keeps_last ms i s o keeps at next;
            has = known_end s.history o;
            stays = λ m e. known_on s.history (o ∷ []) m e;
          })
    ]
  where
    ready : LacksNothing s.history (context_of o)
    ready m e =
        let held = holder origin.history m (origin.next.ready m e) in
        ap (is_known s.history) (sym held.is) ∙ knows held.op (origin.part held.op held.there)

    agree : Agree s.history origin.history
    agree x y n there here xs ys = one x y n (keeps.part x there) (earlier y (origin.part y here)) xs ys

    next_here : is_known s.history (member_of o) ≡ false → IsNext s.history o
    next_here new = next_elsewhere s.history origin.history o keeps.sound.history origin.valid agree ready new origin.next

-- where nothing waits, no release follows
quiet_settled : (s : State) → s.waiting ≡ [] → settled s ≡ s
unfolding releases state_after
quiet_settled s none = ap (λ (w : List OpData). state_after s (releases (length w) s)) none

-- ---- one event of a session

event_leaves : (d : SessionData) (ms : List OpData) (i : ℕ) (w : List ℕ) (s : State) → s.waiting ≡ []
    → last_of d (at_site d.sites ms i (settling w s)) ≡ record { sites = set d.sites i s; messages = ms }
unfolding last_of
event_leaves d ms i w s none =
    last_at d.sites ms i s (map free_step (all_releases s))
    ∙ ap (λ (x : State). record { sites = set d.sites i x; messages = ms }) (last_freed s (all_releases s) ∙ quiet_settled s none)

-- so many sites; no two messages have one name; each was made after those before it
pub record Steady (n : ℕ) (d : SessionData) : Type 0 where
  pub count : length d.sites ≡ n
  pub sites : (i : ℕ) → i < n → Keeps d.messages i (site_at d i)
  pub one : Agree d.messages d.messages
  pub made : AreMade [] d.messages

pub site_here : (d : SessionData) (ms : List OpData) (i : ℕ) (s : State) → i < length d.sites
    → site_at (record { sites = set d.sites i s; messages = ms }) i ≡ s
site_here d ms i s within = get_or-set_same d.sites i s (new_site i) within

pub site_other : (d : SessionData) (ms : List OpData) (i j : ℕ) (s : State) → j ≢ i
    → site_at (record { sites = set d.sites i s; messages = ms }) j ≡ site_at d j
site_other d ms i j s apart = get_or-set_other d.sites i j s (new_site j) apart

-- one site is in another state, and there are other messages
open_with : (n : ℕ) (d : SessionData) (ms : List OpData) (i : ℕ) (s : State) → Steady n d → i < n → Keeps ms i s
    → ((j : ℕ) → j < n → j ≢ i → Keeps ms j (site_at d j)) → Agree ms ms → AreMade [] ms
    → Steady n (record { sites = set d.sites i s; messages = ms })
open_with n d ms i s steady within keeps others one made = record {
  count = length-set d.sites i s ∙ steady.count;
  sites = λ j less. elim (cases_eq j i) [
    | inl same ↦ subst (λ k. Keeps ms k (site_at (record { sites = set d.sites i s; messages = ms }) k)) (sym same)
        (subst (Keeps ms i) (sym (site_here d ms i s (omega (arith, within, steady.count)))) keeps)
    | inr apart ↦ subst (Keeps ms j) (sym (site_other d ms i j s apart)) (others j less apart)
  ];
  one = one;
  made = made;
}

-- ---- deliveries of all messages to one site

-- a session with the same messages; the site of this number has those of the list, and no site has lost a member
record Gathered (n i : ℕ) (ms : List OpData) (d e : SessionData) : Type 0 where
  steady : Steady n e
  messages : e.messages ≡ d.messages
  has : Knows (site_at e i).history ms
  stays : (j : ℕ) (m : Member) → is_known (site_at d j).history m ≡ true → is_known (site_at e j).history m ≡ true

one_given : (n i : ℕ) (before os : List OpData) (o : OpData) (d : SessionData) → i < n → Steady n d → d.messages ≡ before ++ o ∷ os
    → Origin before o → Knows (site_at d i).history before → Gathered n i (before ++ o ∷ []) d (last_of d (given true i o d))
one_given n i before os o d within steady are origin knows = subst (Gathered n i (before ++ o ∷ []) d) (sym leaves) (record {
  steady = open_with n d d.messages i t steady within it.keeps (λ j less apart. steady.sites j less) steady.one steady.made;
  messages = refl;
  has = λ x there. ap (λ (y : State). is_known y.history (member_of x)) here ∙ elim (Contains-push_cases before o x there) [
    | inl old ↦ it.stays (member_of x) (knows x old)
    | inr same ↦ subst (λ y. is_known t.history (member_of y) ≡ true) same it.has
  ];
  stays = λ j m e. elim (cases_eq j i) [
    | inl same ↦ ap (λ (k : ℕ). is_known (site_at after k).history m) same
        ∙ (ap (λ (y : State). is_known y.history m) here ∙ it.stays m (ap (λ (k : ℕ). is_known (site_at d k).history m) (sym same) ∙ e))
    | inr apart ↦ ap (λ (y : State). is_known y.history m) (site_other d d.messages i j t apart) ∙ e
  ];
})
  where
    s : State
    s = site_at d i

    t : State
    t = delivered s o

    at : Contains d.messages o
    at = subst (λ xs. Contains xs o) (sym are) (Contains-append_right before (o ∷ os) o (contains_here o os))

    earlier : (x : OpData) → Contains before x → Contains d.messages x
    earlier x there = subst (λ xs. Contains xs x) (sym are) (Contains-append_left before (o ∷ os) x there)

    it : Took d.messages i s o t
    it = took d.messages before i s o (steady.sites i within) steady.one at earlier knows origin

    after : SessionData
    after = record { sites = set d.sites i t; messages = d.messages }

    here : site_at after i ≡ t
    here = site_here d d.messages i t (omega (arith, within, steady.count))

    leaves : last_of d (given true i o d) ≡ after
    leaves = event_leaves d d.messages i (told_verdict true o (judged s o) s.number) t it.keeps.quiet

gathered_on : (n i : ℕ) (xs ys : List OpData) (d e f : SessionData) → Gathered n i xs d e → Gathered n i ys e f → Gathered n i ys d f
gathered_on n i xs ys d e f first second = record {
  steady = second.steady;
  messages = second.messages ∙ first.messages;
  has = second.has;
  stays = λ j m known. second.stays j m (first.stays j m known);
}

gathered : (n i : ℕ) (before os : List OpData) (d : SessionData) → i < n → Steady n d → d.messages ≡ before ++ os → AreMade before os
    → Knows (site_at d i).history before → Gathered n i (before ++ os) d (last_of d (given_all i os d))
unfolding given_all last_of
gathered n i before [] d within steady are made knows = record {
  steady = steady;
  messages = refl;
  has = subst (Knows (site_at d i).history) (sym (append-nil before)) knows;
  stays = λ j m e. e;
}
gathered n i before (o ∷ os) d within steady are made knows =
    let one = one_given n i before os o d within steady are made.0 knows in
    let e = last_of d (given true i o d) in
    let rest = gathered n i (before ++ o ∷ []) os e within one.steady (one.messages ∙ (are ∙ sym (shifted before o os))) made.1 one.has in
    let all = gathered_on n i (before ++ o ∷ []) ((before ++ o ∷ []) ++ os) d e (last_of e (given_all i os e)) one rest in
    subst (λ xs. Gathered n i xs d (last_of d (given_all i (o ∷ os) d))) (shifted before o os)
    (subst (Gathered n i ((before ++ o ∷ []) ++ os) d) (sym (last_append d (given true i o d) (given_all i os e))) all)

-- ---- deliveries to all sites

-- the same messages, and every site has them all
record Together (n : ℕ) (d e : SessionData) : Type 0 where
  steady : Steady n e
  messages : e.messages ≡ d.messages
  has : (i : ℕ) → i < n → Knows (site_at e i).history e.messages

knows_more : (n i : ℕ) (d e : SessionData) → Gathered n i d.messages d e → ((j : ℕ) → j < i → Knows (site_at d j).history d.messages)
    → (j : ℕ) → j < suc i → Knows (site_at e j).history e.messages
knows_more n i d e it done j less x there =
    let was : Contains d.messages x = subst (λ xs. Contains xs x) it.messages there in
    elim (cases_eq j i) [
      | inl same ↦ ap (λ (q : ℕ). is_known (site_at e q).history (member_of x)) same ∙ it.has x was
      | inr apart ↦ it.stays j (member_of x) (done j (omega (arith, less, apart)) x was)
    ]

together_from : (n k i : ℕ) (d : SessionData) → k + i ≡ n → Steady n d → ((j : ℕ) → j < i → Knows (site_at d j).history d.messages)
    → Together n d (last_of d (synced i k d))
unfolding synced last_of
together_from n zero i d all steady done = record { steady = steady; messages = refl; has = λ j less. done j (omega (arith, less, all)) }
together_from n (suc k) i d all steady done =
    let it = gathered n i [] d.messages d (omega (arith, all)) steady refl steady.made (knows_none (site_at d i).history) in
    let e = last_of d (given_all i d.messages d) in
    let rest = together_from n k (suc i) e (omega (arith, all)) it.steady (knows_more n i d e it done) in
    subst (Together n d) (sym (last_append d (given_all i d.messages d) (synced (suc i) k e)))
    (record { steady = rest.steady; messages = rest.messages ∙ it.messages; has = rest.has })

together : (n : ℕ) (d : SessionData) → Steady n d → Together n d (last_of d (synced 0 (length d.sites) d))
together n d steady = together_from n (length d.sites) 0 d (omega (arith, steady.count)) steady (λ j less. absurd (omega (arith, less)))

-- ---- what is made

-- a session with one message more
record Grown (n : ℕ) (d e : SessionData) : Type 0 where
  steady : Steady n e
  more : length e.messages ≡ length d.messages + 1

pub acted_leaves : (i : ℕ) (r : Draw) (d : SessionData) (m : Makes (site_at d i) (drawn_operation (site_at d i) r))
    → (site_at d i).waiting ≡ [] → acted i r d
    ≡ record { sites = set d.sites i (with_last (site_at d i) m.op); messages = d.messages ++ m.op ∷ [] }
acted_leaves i r d m none =
    ap (λ (q : Result OpData Local). last_of d (commanded i q d)) m.is
    ∙ event_leaves d (d.messages ++ m.op ∷ []) i (op_text (length d.messages) m.op) (with_last (site_at d i) m.op) none

-- the operation has a name that no message has
one_more_message : (n : ℕ) (d : SessionData) (i : ℕ) (o : OpData) → i < n → Steady n d → IsNext (site_at d i).history o
    → ((m : NameData) → member_of o ≡ Original m → m.site ≡ i) → Agree (d.messages ++ o ∷ []) (d.messages ++ o ∷ [])
one_more_message n d i o within steady next own x y m there here xs ys =
    elim (Contains-push_cases d.messages o x there) [
      | inl old ↦ elim (Contains-push_cases d.messages o y here) [
        | inl old' ↦ steady.one x y m old old' xs ys
        | inr same ↦ absurd (new x old xs (ap member_of same ∙ ys))
      ]
      | inr same ↦ elim (Contains-push_cases d.messages o y here) [
        | inl old ↦ absurd (new y old ys (ap member_of same ∙ xs))
        | inr same' ↦ sym same ∙ same'
      ]
    ]
  where
    new : (z : OpData) → Contains d.messages z → member_of z ≡ Original m → member_of o ≡ Original m → ⊥
    new z old zs is =
        let held = (steady.sites i within).own z m old zs (own m is) in
        false≢true (sym next.new ∙ (ap (is_known (site_at d i).history) (is ∙ sym zs) ∙ known_member (site_at d i).history z held))

keeps_more : (ms : List OpData) (o : OpData) (i j : ℕ) (s : State) → j ≢ i → ((m : NameData) → member_of o ≡ Original m → m.site ≡ i)
    → Keeps ms j s → Keeps (ms ++ o ∷ []) j s
keeps_more ms o i j s apart own keeps = record {
  number = keeps.number;
  sound = keeps.sound;
  quiet = keeps.quiet;
  part = λ x there. Contains-append_left ms (o ∷ []) x (keeps.part x there);
  own = λ x m there is site. elim (Contains-push_cases ms o x there) [
    | inl old ↦ keeps.own x m old is site
    | inr same ↦ absurd (apart (sym site ∙ own m (ap member_of same ∙ is)))
  ];
}

keeps_own : (ms : List OpData) (o : OpData) (i : ℕ) (s : State) → Keeps ms i s → IsNext s.history o → Keeps (ms ++ o ∷ []) i (with_last s o)
keeps_own ms o i s keeps next = record {
  number = keeps.number;
  sound = sound_more s o keeps.sound next;
  quiet = keeps.quiet;
  part = λ x there. elim (Contains-push_cases s.history o x there) [
    | inl old ↦ Contains-append_left ms (o ∷ []) x (keeps.part x old)
    | inr same ↦ subst (λ y. Contains (ms ++ o ∷ []) y) same (Contains-append_right ms (o ∷ []) o (contains_here o []))
  ];
  own = λ x m there is site. elim (Contains-push_cases ms o x there) [
    | inl old ↦ Contains-append_left s.history (o ∷ []) x (keeps.own x m old is site)
    | inr same ↦ subst (λ y. Contains (s.history ++ o ∷ []) y) same (Contains-append_right s.history (o ∷ []) o (contains_here o []))
  ];
}

grown : (n i : ℕ) (r : Draw) (d : SessionData) → i < n → Steady n d → length d.messages ≤ MAX_EVENTS → Grown n d (acted i r d)
grown n i r d within steady few = subst (Grown n d) (sym (acted_leaves i r d m keeps.quiet)) (record {
  steady = open_with n d (d.messages ++ m.op ∷ []) i (with_last s m.op) steady within
      (keeps_own d.messages m.op i s keeps m.next)
      (λ j less apart. keeps_more d.messages m.op i j (site_at d j) apart own (steady.sites j less))
      (one_more_message n d i m.op within steady m.next own)
      (made_more [] d.messages m.op steady.made
      (record { history = s.history; valid = keeps.sound.history; part = keeps.part; next = m.next }));
  more = length-append d.messages (m.op ∷ []);
})
  where
    s : State
    s = site_at d i

    keeps : Keeps d.messages i s
    keeps = steady.sites i within

    m : Makes s (drawn_operation s r)
    m = drawn_makes s r (record {
      valid = keeps.sound.history;
      site = keeps.sound.number;
      few =
          omega (arith, few, no_longer s.history keeps.sound.history d.messages keeps.part);
    })

    own : (q : NameData) → member_of m.op ≡ Original q → q.site ≡ i
    own q is = m.own q is ∙ keeps.number

-- ---- the whole session

pub new_at : (b n i : ℕ) (x : State) → i < n → get_or (new_sites b n) i x ≡ new_site (b + i)
unfolding new_sites
new_at b zero i x less = absurd (omega (arith, less))
new_at b (suc n) zero x less = let same : b ≡ b + 0 = omega arith in ap new_site same
new_at b (suc n) (suc i) x less =
    let same : suc b + i ≡ b + suc i = omega arith in new_at (suc b) n i x (omega (arith, less)) ∙ ap new_site same

pub new_count : (b n : ℕ) → length (new_sites b n) ≡ n
unfolding new_sites
new_count b zero = refl
new_count b (suc n) = ap suc (new_count (suc b) n)

keeps_new : (i : ℕ) → i < SITES → Keeps [] i (new_site i)
keeps_new i less = record {
  number = refl;
  sound = record { number = less; history = tt; waiting = λ x at. absurd (contains_none x at) };
  quiet = refl;
  part = λ x at. at;
  own = λ x m at is site. at;
}

open_new : (n : ℕ) → n ≤ SITES → Steady n (opened n)
open_new n few = record {
  count = new_count 0 n;
  sites = λ i less. subst (Keeps [] i) (sym (new_at 0 n i (new_site i) less ∙ ap new_site (nothing i)))
      (keeps_new i (omega (arith, less, few)));
  one = λ x y m at. absurd (contains_none x at);
  made = tt;
}
  where
    nothing : (i : ℕ) → 0 + i ≡ i
    nothing i = omega arith

-- every site has all messages
abbrev AllKnow : ℕ → SessionData → Type 0
AllKnow n d = (i : ℕ) → i < n → Knows (site_at d i).history d.messages

-- what a session can be generated by
pub record IsPlan (p : Plan) : Type 0 where
  pub events : p.events ≤ MAX_EVENTS
  pub sites : 0 < p.sites
  pub most_sites : p.sites ≤ MAX_SITES

-- the session after the first k events
pub record Progress (p : Plan) (k : ℕ) (d : SessionData) : Type 0 where
  pub steady : Steady p.sites d
  pub count : length d.messages ≡ k
  pub known : is_due p k ≡ true → AllKnow p.sites d

synced_progress : (p : Plan) (k : ℕ) (d : SessionData) → Steady p.sites d → length d.messages ≡ k → (due : Bool) → is_due p k ≡ due
    → Progress p k (synced_if due d)
synced_progress p k d steady count true due =
    let it = together p.sites d steady in
    record { steady = it.steady; count = ap length it.messages ∙ count; known = λ e. it.has }
synced_progress p k d steady count false due = record { steady = steady; count = count; known = λ e. absurd (true≢false (sym e ∙ due)) }

pub progress : (p : Plan) → IsPlan p → (k : ℕ) → k ≤ p.events → Progress p k (generating p k).session
unfolding generating
progress p is zero within = record {
  steady = open_new p.sites (omega (arith, is.most_sites));
  count = refl;
  known = λ e i less x at. absurd (contains_none x at);
}
progress p is (suc k) within =
    let before = progress p is k (omega (arith, within)) in
    let g = generating p k in
    let events = is.events in
    let i = turn_of p k in
    let next =
    grown p.sites i (draws_from g.number) g.session (mod-lt k {m = p.sites} is.sites) before.steady
    (omega (arith, before.count, within, events)) in
    let counted : length (acted i (draws_from g.number) g.session).messages ≡ suc k = omega (arith, next.more, before.count) in
    synced_progress p (suc k) (acted i (draws_from g.number) g.session) next.steady counted (is_due p (suc k)) refl

-- ---- what holds at last

pub all_made : (p : Plan) → IsPlan p → length (generated p).messages ≡ p.events
all_made p is = (progress p is p.events (omega arith)).count

pub all_sites : (p : Plan) → IsPlan p → length (generated p).sites ≡ p.sites
all_sites p is = (progress p is p.events (omega arith)).steady.count

record At (sites : List State) (s : State) : Type 0 where
  place : ℕ
  within : place < length sites
  is : (x : State) → get_or sites place x ≡ s

place_of : (sites : List State) (s : State) → Contains sites s → At sites s
place_of [] s at = absurd (contains_none s at)
place_of (x ∷ xs) s at =
    elim (contains_cases x xs s at) [
      | inl same ↦ record { place = 0; within = omega arith; is = λ y. same }
      | inr later ↦ let rest = place_of xs s later in record { place = suc rest.place; within = omega (arith, rest.within); is = rest.is }
    ]

pub all_quiet : (p : Plan) → IsPlan p → NothingWaits (generated p).sites
all_quiet p is s at =
    let d = generated p in
    let it = progress p is p.events (omega arith) in
    let found = place_of d.sites s at in
    let keeps = it.steady.sites found.place (omega (arith, found.within, it.steady.count)) in
    subst (λ (x : State). x.waiting ≡ []) (found.is (new_site found.place)) keeps.quiet

due_last : (p : Plan) → p.syncs ≡ true → is_due p p.events ≡ true
due_last p syncs =
    let last : (p.events == p.events) ≡ true = grind (arith, nat_tests) in
    rw (syncs, last) (or_true (p.events % p.window == 0))
  where
    or_true : (b : Bool) → (b || true) ≡ true
    or_true true = refl
    or_true false = refl

same_at : (n : ℕ) (d : SessionData) (i j : ℕ) → i < n → j < n → Steady n d → AllKnow n d → Same (site_at d i).history (site_at d j).history
same_at n d i j less less' steady know =
    let a = steady.sites i less in
    let b = steady.sites j less' in
    let h = (site_at d i).history in
    let q = (site_at d j).history in
    same_by_members h q a.sound.history b.sound.history
    (λ x y m there here xs ys. steady.one x y m (a.part x there) (b.part y here) xs ys)
    (λ m known. let held = holder h m known in ap (is_known q) (sym held.is) ∙ know j less' held.op (a.part held.op held.there))
    (λ m known. let held = holder q m known in ap (is_known h) (sym held.is) ∙ know i less held.op (b.part held.op held.there))

pub all_same : (p : Plan) → IsPlan p → p.syncs ≡ true → HaveTheSame (generated p).sites
all_same p is syncs s t at bt =
    let d = generated p in
    let it = progress p is p.events (omega arith) in
    let a = place_of d.sites s at in
    let b = place_of d.sites t bt in
    let same =
    same_at p.sites d a.place b.place (omega (arith, a.within, it.steady.count)) (omega (arith, b.within, it.steady.count)) it.steady
    (it.known (due_last p syncs)) in
    subst (λ (x : State). Same x.history t.history) (a.is (new_site a.place))
    (subst (λ (y : State). Same (site_at d a.place).history y.history) (b.is (new_site b.place)) same)

valid_at : (p : Plan) → IsPlan p → (s : State) → Contains (generated p).sites s → IsValid s.history
valid_at p is s at =
    let d = generated p in
    let it = progress p is p.events (omega arith) in
    let found = place_of d.sites s at in
    let keeps = it.steady.sites found.place (omega (arith, found.within, it.steady.count)) in
    subst (λ (x : State). IsValid x.history) (found.is (new_site found.place)) keeps.sound.history

pub all_show : (p : Plan) → IsPlan p → p.syncs ≡ true → ShowTheSame (generated p).sites
all_show p is syncs s t at bt =
    same_text s.history t.history (told_apart s.history (valid_at p is s at)) (told_apart t.history (valid_at p is t bt))
    (all_same p is syncs s t at bt)
