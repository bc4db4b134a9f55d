-- What sites in memory keep: each message stands in the history of the site that made it, and each site has the first few messages.
use Rattle.std.proofs.Common.{◌≡◌, ℕ, ◌+◌, ◌≤◌, ◌<◌, List, [], refl, sym, ap, subst, ◌∙◌, length, map, set, take, arith}
use Rattle.std.specs.Prelude.{Some, replicate, slice_get, slice_index_or}
use Rattle.std.proofs.lemmas.List.{map-set, length-map, length-set, set-get_or}
use Rattle.op_name.specs.declared.name.TheConstants.{SITES}
use Rattle.context_diff.specs.Operations.{OpData, IsWellFormed}
use Rattle.context_diff.proofs.CallerLemmas.{contains_none}
use Rattle.cot_site.specs.States.{State}
use Rattle.cot_site.specs.Sites.{SiteData, state_of, AllFormed}
use Rattle.cot_site.specs.Releases.{IsLater}
use Rattle.cot_site.proofs.CallerLemmas.{formed_at}
use Rattle.session_replay.specs.declared.message.Message.{Message}
use Rattle.session_replay.specs.Sessions.{SessionData, site_at, new_site, new_sites}
use Rattle.session_replay.specs.Code.Knowing.{Has, HasAll, AreKnown}
use Rattle.session_replay.specs.Code.Messages.{IsKept, IsHeld, operation_of, operations_of}
use Rattle.session_replay.proofs.Gathering.{new_count}
use Rattle.session_replay.proofs.Lifting.{session_of, state_at}
use Rattle.session_replay.proofs.Messages.{AreLater, later_at, held_later, same_operations, message_in, message_at}
use Rattle.session_replay.proofs.Knowing.{known_number, known_there, known_set, known_first, has_next}

-- the operations of messages, in these sites in memory
abbrev pub said : List SiteData → List Message → List OpData
said sites messages = operations_of (map state_of sites) messages

-- what these sites in memory keep
abbrev pub Keeps : List SiteData → List ℕ → List Message → Type 0
Keeps sites known messages = IsKept (map state_of sites) known messages

-- the session that they are
abbrev pub Shows : List SiteData → List Message → SessionData → Type 0
Shows sites messages d = session_of sites (said sites messages) ≡ d

-- ---- no message yet

pub keeps_none : (sites : List SiteData) (known : List ℕ) (messages : List Message) → sites ≡ [] → known ≡ [] → messages ≡ []
    → Keeps sites known messages
keeps_none sites known messages no_sites none no_messages =
    subst (λ (ss : List SiteData). Keeps ss known messages) (sym no_sites)
    (subst (λ (ks : List ℕ). Keeps [] ks messages) (sym none) (subst (λ (ms : List Message). Keeps [] [] ms) (sym no_messages) nothing))
  where
    nothing : Keeps [] [] []
    nothing = record {
      few = omega arith;
      held = λ m at. absurd (contains_none m at);
      formed = λ o at. absurd (contains_none o at);
      known = tt;
    }

pub keeps_first : (count : ℕ) (sites : List SiteData) (known : List ℕ) (messages : List Message)
    → count ≤ SITES → map state_of sites ≡ new_sites 0 count → AreKnown (new_sites 0 count) known [] → messages ≡ []
    → Keeps sites known messages
keeps_first count sites known messages few made none no_messages =
    subst (λ (ss : List State). IsKept ss known messages) (sym made)
    (subst (λ (ms : List Message). IsKept (new_sites 0 count) known ms) (sym no_messages) first)
  where
    first : IsKept (new_sites 0 count) known []
    first = record {
      few = omega (arith, few, new_count 0 count);
      held = λ m at. absurd (contains_none m at);
      formed = λ o at. absurd (contains_none o at);
      known = none;
    }

pub zeros_known : (count : ℕ) (known : List ℕ) → known ≡ replicate count 0 → AreKnown (new_sites 0 count) known []
zeros_known count known zeros = subst (λ ks. AreKnown (new_sites 0 count) ks []) (sym zeros) (known_first 0 count)

-- ---- one of the sites

pub known_within : (sites : List SiteData) (known : List ℕ) (messages : List Message) (d : SessionData) (i count : ℕ)
    → count ≡ length known → Keeps sites known messages → Shows sites messages d → i < length d.sites → i < count
known_within sites known messages d i count counted keeps seen within =
    let numbers = known_number (map state_of sites) known (said sites messages) keeps.known in
    omega (arith, counted, within, numbers, ap (λ (e : SessionData). length e.sites) seen)

-- what is known of a site, in the session
pub known_session : (sites : List SiteData) (known : List ℕ) (messages : List Message) (d : SessionData) (i n : ℕ)
    → Keeps sites known messages → Shows sites messages d → i < length d.sites → n ≡ slice_index_or known i n
    → (n ≤ length d.messages) × HasAll (site_at d i) (take n d.messages)
known_session sites known messages d i n keeps seen within is =
    let ms = said sites messages in
    let there : i < length (map state_of sites) = omega (arith, within, ap (λ (e : SessionData). length e.sites) seen) in
    let has = known_there (map state_of sites) known ms i (new_site i) n keeps.known there in
    let here : (n ≤ length ms) × HasAll (site_at (session_of sites ms) i) (take n ms) =
    subst (λ j. (j ≤ length ms) × HasAll (site_at (session_of sites ms) i) (take j ms)) (sym is) has
    in
    subst (λ (e : SessionData). (n ≤ length e.messages) × HasAll (site_at e i) (take n e.messages)) seen here

-- and of the site in memory
pub known_here : (sites : List SiteData) (known : List ℕ) (messages : List Message) (i n : ℕ) (x : SiteData)
    → Keeps sites known messages → i < length sites → x ≡ slice_index_or sites i x → n ≡ slice_index_or known i n
    → (n ≤ length (said sites messages)) × HasAll (state_of x) (take n (said sites messages))
known_here sites known messages i n x keeps within at is =
    let ms = said sites messages in
    let there : i < length (map state_of sites) = omega (arith, within, length-map sites state_of) in
    let here = known_session sites known messages (session_of sites ms) i n keeps refl there is in
    (here.0, subst (λ s. HasAll s (take n ms)) (sym (state_at sites ms i x within at)) here.1)

-- a later state of a site was written back, with the number of messages that it is known to have
pub kept_at : (sites : List SiteData) (known : List ℕ) (messages : List Message) (i : ℕ) (x y : SiteData) (n : ℕ)
    → Keeps sites known messages → x ≡ slice_index_or sites i x → IsLater (state_of x) (state_of y)
    → n ≤ length (said sites messages) → HasAll (state_of y) (take n (said sites messages)) → Keeps (set sites i y) (set known i n) messages
kept_at sites known messages i x y n keeps is later few has =
    let ss = map state_of sites in
    let ts = map state_of (set sites i y) in
    let ms = said sites messages in
    let grown : AreLater ss ts = later_at sites i x y is later in
    let same : said (set sites i y) messages ≡ ms = same_operations ss ts messages grown keeps.held in
    let all = known_set ss known ms i (state_of y) n keeps.known few has in
    let noted : AreKnown ts (set known i n) ms =
    subst (λ (us : List State). AreKnown us (set known i n) ms) (sym (map-set state_of sites i y)) all
    in
    record {
      few = omega (arith, keeps.few, length-map sites state_of, length-map (set sites i y) state_of, length-set sites i y);
      held = held_later ss ts messages grown keeps.held;
      formed = subst AllFormed (sym same) keeps.formed;
      known = subst (λ (os : List OpData). AreKnown ts (set known i n) os) (sym same) noted;
    }

-- ---- the message of a number

message_within : (sites : List SiteData) (messages : List Message) (d : SessionData) (n : ℕ) → Shows sites messages d
    → n < length d.messages → n < length messages
message_within sites messages d n seen within =
    omega (arith, within, ap (λ (e : SessionData). length e.messages) seen, length-map messages (operation_of (map state_of sites)))

pub message_held : (sites : List SiteData) (known : List ℕ) (messages : List Message) (d : SessionData) (n : ℕ) (m : Message)
    → Keeps sites known messages → Shows sites messages d → n < length d.messages → m ≡ slice_index_or messages n m
    → IsHeld (map state_of sites) m
message_held sites known messages d n m keeps seen within is =
    keeps.held m (message_in messages n m (message_within sites messages d n seen within) is)

-- a copy of its operation
pub message_is : (sites : List SiteData) (messages : List Message) (d : SessionData) (n : ℕ) (m : Message) (o p : OpData)
    → Shows sites messages d → n < length d.messages → m ≡ slice_index_or messages n m → p ≡ operation_of (map state_of sites) m → o ≡ p
    → slice_get d.messages n ≡ Some o
message_is sites messages d n m o p seen within is named copied =
    ap (λ (e : SessionData). slice_get e.messages n) (sym seen)
    ∙ message_at (map state_of sites) messages n m (message_within sites messages d n seen within) is
    ∙ ap (λ (q : OpData). Some q) (sym (copied ∙ named))

pub one_message : (ms : List OpData) (n : ℕ) (o p : OpData) → slice_get ms n ≡ Some o → slice_get ms n ≡ Some p → o ≡ p
one_message ms n o p at also = let both : Some o ≡ Some p = sym at ∙ also in cc

pub message_formed : (sites : List SiteData) (known : List ℕ) (messages : List Message) (d : SessionData) (n : ℕ) (o : OpData)
    → Keeps sites known messages → Shows sites messages d → slice_get d.messages n ≡ Some o → IsWellFormed o
message_formed sites known messages d n o keeps seen at =
    formed_at d.messages n o (subst AllFormed (ap (λ (e : SessionData). e.messages) seen) keeps.formed) at

-- the site has one more of the first messages
pub next_kept : (sites : List SiteData) (known : List ℕ) (messages : List Message) (d : SessionData) (i k n : ℕ)
    → Keeps sites known messages → Shows sites messages d → i < length d.sites → n ≡ slice_index_or known i n → n ≡ k
    → (o : OpData) → slice_get d.messages k ≡ Some o → k < length d.messages → Has (site_at d i) o
    → Keeps sites (set known i (k + 1)) messages
next_kept sites known messages d i k n keeps seen within is same o at less has =
    let ss = map state_of sites in
    let ms = said sites messages in
    let before = known_session sites known messages d i n keeps seen within is in
    let first : HasAll (site_at d i) (take k d.messages) = subst (λ j. HasAll (site_at d i) (take j d.messages)) same before.1 in
    let all : HasAll (site_at d i) (take (k + 1) d.messages) = has_next k d.messages (site_at d i) o at first has in
    let here : HasAll (slice_index_or ss i (new_site i)) (take (k + 1) ms) =
    subst (λ (e : SessionData). HasAll (site_at e i) (take (k + 1) e.messages)) (sym seen) all
    in
    let few : k + 1 ≤ length ms = omega (arith, less, ap (λ (e : SessionData). length e.messages) seen) in
    let noted = known_set ss known ms i (slice_index_or ss i (new_site i)) (k + 1) keeps.known few here in
    record {
      few = keeps.few;
      held = keeps.held;
      formed = keeps.formed;
      known = subst (λ (ts : List State). AreKnown ts (set known i (k + 1)) ms) (set-get_or ss i (new_site i)) noted;
    }
