-- Generated sessions: which site acts is counted, and what it does is drawn from a number.
use Rattle.std.specs.Prelude.{◌≡◌, ℕ, zero, suc, ◌+◌, ◌*◌, ◌/◌, ◌%◌, ◌^◌, ◌≤◌, ◌<◌, Bool, false, List, [], ◌∷◌, ◌++◌, ◌&&◌, ◌||◌, ◌==◌, Contains, Option, Some, None, Result, if◌then◌else◌, length, map, nat_lt, slice_get}
use Rattle.std.specs.List.{range_with_len}
use Rattle.op_name.specs.NameData.{NameData}
use Rattle.op_name.specs.declared.member.Member.TheVariants.{Original}
use Rattle.context_diff.specs.Operations.{OpData, inserting, deleting, undoing, member_of}
use Rattle.op_name.specs.Members.{is_even, target_of}
use Rattle.context_diff.specs.Histories.{context_of_all, in_force, Same}
use Rattle.context_diff.specs.Replays.{shown, text_of}
use Rattle.cot_site.specs.States.{State}
use Rattle.cot_site.specs.Releases.{IsSound}
use Rattle.cot_site.specs.Commands.{local_insert, local_delete, local_undo, local_redo}
use Rattle.site_answers.specs.declared.local.Local.{Local}
use Rattle.session_replay.specs.declared.draws.Draw.{Draw}
use Rattle.session_replay.specs.declared.generator.TheConstants.{MAX_EVENTS, MAX_SITES}
use Rattle.session_replay.specs.Steps.{last_of}
use Rattle.session_replay.specs.Sessions.{SessionData, opened, site_at, synced}
use Rattle.session_replay.specs.LineSteps.{commanded}

-- ---- numbers

-- the number after a draw (Knuth's linear congruential generator of 64 bits, MMIX)
abbrev pub next_number : ℕ → ℕ
next_number x = (x * 6364136223846793005 + 1442695040888963407) % 2 ^ 64

-- what a draw gives: the upper half of the number that it leaves
abbrev pub drawn : ℕ → ℕ
drawn x = x / 2 ^ 32

-- the number after the draws of an event
abbrev pub number_after : ℕ → ℕ
number_after x = next_number (next_number (next_number x))

-- the three draws of an event, in their order: what is done, where, and with which character
abbrev pub draws_from : ℕ → Draw
draws_from x = record {
  kind = drawn (next_number x);
  place = drawn (next_number (next_number x));
  letter = drawn (number_after x);
}

-- ---- one event

-- the names of the first n originals of a site
abbrev pub first_names : ℕ → ℕ → List NameData
first_names s n = map (λ k. record { site = s; number = k }) (range_with_len 1 n)

-- the names of the first originals of sites, each site with how many
abbrev pub names_in : List (ℕ × ℕ) → List NameData
names_in [] = []
names_in (p ∷ ps) = first_names p.0 p.1 ++ names_in ps

-- the names of a history's originals, in the order of names
abbrev pub names_of : List OpData → List NameData
names_of h = names_in (context_of_all h).counts

-- the original that is undone or redone, if there is one: that at the drawn place, counted round
abbrev pub drawn_target : State → ℕ → Option NameData
drawn_target s place = slice_get (names_of s.history) (place % length (names_of s.history))

-- the undo of an original in force, the redo of any other
abbrev pub drawn_turn : State → NameData → Result OpData Local
drawn_turn s t = if in_force s.history t then local_undo s t else local_redo s t

-- the insert of a drawn letter at a drawn place
abbrev pub drawn_insert : State → Draw → Result OpData Local
drawn_insert s r = local_insert s (r.place % (length (shown s.history) + 1)) (97 + r.letter % 26)

-- ten of sixteen kinds insert; three delete, where there is a shown cell; three undo or redo, where there is an original
abbrev pub drawn_operation : State → Draw → Result OpData Local
drawn_operation s r =
    let kind = r.kind % 16 in
    if nat_lt kind 10
    then drawn_insert s r
    else if nat_lt kind 13
    then (if nat_lt 0 (length (shown s.history)) then local_delete s (r.place % length (shown s.history)) else drawn_insert s r)
    else elim (drawn_target s r.place) [ None ↦ drawn_insert s r | Some t ↦ drawn_turn s t ]

-- ---- sessions

-- how a session is generated: the first number, how many events, after how many of them all messages are delivered to all sites,
-- how many sites, and whether messages are delivered at all
pub record Plan : Type 0 where
  pub start : ℕ
  pub events : ℕ
  pub window : ℕ
  pub sites : ℕ
  pub syncs : Bool

-- the site of the event of this number, from 0: one after the other, round and round
abbrev pub turn_of : Plan → ℕ → ℕ
turn_of p k = k % p.sites

-- whether all messages are delivered after so many events: after each window, and after the last event
abbrev pub is_due : Plan → ℕ → Bool
is_due p k = p.syncs && (k % p.window == 0 || k == p.events)

-- the session after every message was delivered to each site, if that is due
abbrev pub synced_if : Bool → SessionData → SessionData
synced_if due d = if due then last_of d (synced 0 (length d.sites) d) else d

-- the session after an event at this site: the operation, which becomes the next message, and the releases after it
abbrev pub acted : ℕ → Draw → SessionData → SessionData
acted i r d = last_of d (commanded i (drawn_operation (site_at d i) r) d)

-- a session, with the number that the next draws begin with
pub record Generation : Type 0 where
  pub session : SessionData
  pub number : ℕ

-- one more event: it is the one of this number, from 0
abbrev pub generated_on : Plan → ℕ → Generation → Generation
generated_on p k g = record {
  session = synced_if (is_due p (suc k)) (acted (turn_of p k) (draws_from g.number) g.session);
  number = number_after g.number;
}

-- the session after the first events of the plan, as many as this
unfoldable pub generating : Plan → ℕ → Generation
generating p zero = record { session = opened p.sites; number = p.start }
generating p (suc k) = generated_on p k (generating p k)

-- the session after all events of the plan
abbrev pub generated : Plan → SessionData
generated p = (generating p p.events).session

-- ---- what was generated

-- how many operations of each kind there are
pub record Counts : Type 0 where
  pub inserts : ℕ
  pub deletes : ℕ
  pub undos : ℕ
  pub redos : ℕ

-- one operation more, by what it is: a group of an even generation is a redo
abbrev pub one_more : OpData → Counts → Counts
one_more (inserting n p text c) k = record k { inserts = k.inserts + 1 }
one_more (deleting n p c) k = record k { deletes = k.deletes + 1 }
one_more (undoing a t g c) k = if is_even g then record k { redos = k.redos + 1 } else record k { undos = k.undos + 1 }

-- the operations by what they are
abbrev pub counts_of : List OpData → Counts
counts_of [] = record { inserts = 0; deletes = 0; undos = 0; redos = 0 }
counts_of (o ∷ os) = one_more o (counts_of os)

abbrev pub all_counted : Counts → ℕ
all_counted k = k.inserts + k.deletes + k.undos + k.redos

-- the sites of a generated session, and how many operations of each kind were made
pub record GeneratedData : Type 0 where
  pub sites : List State
  pub counts : Counts

-- any two of the sites have the same inserts and deletes, at the same generations
abbrev pub HaveTheSame : List State → Type 0
HaveTheSame sites = (s t : State) → Contains sites s → Contains sites t → Same s.history t.history

-- any two of the sites show the same text
abbrev pub ShowTheSame : List State → Type 0
ShowTheSame sites = (s t : State) → Contains sites s → Contains sites t → text_of s.history ≡ text_of t.history

-- at no site does an operation wait
abbrev pub NothingWaits : List State → Type 0
NothingWaits sites = (s : State) → Contains sites s → s.waiting ≡ []

-- ---- sessions without deliveries

-- how many of the first k events are at this site
unfoldable pub turns : Plan → ℕ → ℕ → ℕ
turns p i zero = 0
turns p i (suc k) = if turn_of p k == i then suc (turns p i k) else turns p i k

-- the site of this number has the operations that its own events made, one for each, and no others; they are of originals of its own, no
-- two of which have one name
pub record IsAlone (p : Plan) (i : ℕ) (s : State) : Type 0 where
  pub number : s.number ≡ i
  pub sound : IsSound s
  pub quiet : s.waiting ≡ []
  pub made : length s.history ≡ turns p i p.events
  pub own : (o : OpData) → Contains s.history o → (target_of (member_of o)).site ≡ i
  pub one : (o q : OpData) (n : NameData) → Contains s.history o → Contains s.history q → member_of o ≡ Original n
      → member_of q ≡ Original n → o ≡ q

-- where no message is delivered, each site has its own operations alone
abbrev pub SitesStayAlone : Type 0
SitesStayAlone =
    (p : Plan) → p.events ≤ MAX_EVENTS → 0 < p.sites → p.sites ≤ MAX_SITES → p.syncs ≡ false
    → (i : ℕ) → i < p.sites → IsAlone p i (site_at (generated p) i)
