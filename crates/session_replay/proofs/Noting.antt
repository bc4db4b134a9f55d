-- What sites in memory keep and show after each event at one of them: a delivery, or a local operation.
use Rattle.std.proofs.Common.{◌≡◌, ℕ, ◌<◌, Bool, List, [], ◌∷◌, ◌++◌, sym, ap, subst, ◌∙◌, length, map, set, take, arith}
use Rattle.std.specs.Prelude.{Contains, Result, Ok, Err, IfOk, true, slice_index_or}
use Rattle.std.specs.Result.{is_ok}
use Rattle.std.proofs.lemmas.List.{map-append, length-map, length-set, get_or-set_same}
use Rattle.context_diff.specs.Operations.{OpData, IsWellFormed}
use Rattle.cot_site.specs.States.{State, delivered, judged, with_last}
use Rattle.cot_site.specs.Sites.{SiteData, state_of, AllFormed}
use Rattle.cot_site.specs.Releases.{IsSound, IsLater}
use Rattle.cot_site.specs.Verdicts.{is_repeat}
use Rattle.cot_site.proofs.CallerLemmas.{sound_delivered, sound_more, held_formed, verdict_history, delivered_number}
use Rattle.participant.specs.declared.edits.Edit.{Edit}
use Rattle.participant.specs.Edits.{made_by}
use Rattle.participant.specs.Taking.{is_had}
use Rattle.script_text.specs.Report.{op_text}
use Rattle.session_replay.specs.declared.message.Message.{Message}
use Rattle.session_replay.specs.Sessions.{SessionData, site_at, taking_in, told_verdict, given}
use Rattle.session_replay.specs.LineSteps.{commanded}
use Rattle.session_replay.specs.Code.Doing.{AreDone, IsTold}
use Rattle.session_replay.specs.Code.Knowing.{Has, AreKnown, still_known}
use Rattle.session_replay.specs.Code.Messages.{IsHeld, operation_of}
use Rattle.session_replay.proofs.Releasing.{event_later, later_same}
use Rattle.session_replay.proofs.Lifting.{session_of, state_at, given_done}
use Rattle.session_replay.proofs.Commanding.{site_is, site_within, command_made}
use Rattle.session_replay.proofs.Messages.{later_at, later_made, same_operations, message_made, held_push}
use Rattle.session_replay.proofs.Knowing.{known_more, event_has, event_known, still_few, repeat_more, repeat_after, delivery_has}
use Rattle.session_replay.proofs.Keeping.{Keeps, Shows, said, known_here, kept_at}

-- ---- a delivery

-- a delivery to the site at place i, which was x and is y then, as far as it came
pub record IsDelivery {T E : Type 0} (result : Result T E) (many : Bool) (d : SessionData) (sites : List SiteData) (messages : List Message)
    (i : ℕ) (x y : SiteData) (o : OpData) (old new : List ℕ) : Type 0 where
  pub seen : Shows sites messages d
  pub within : i < length d.sites
  pub is : x ≡ slice_index_or sites i x
  pub sound : IsSound (state_of x)
  pub formed : IsWellFormed o
  pub done : AreDone result (taking_in many o (state_of x)) (state_of x) (state_of y) old new

-- the site was read before
pub site_sound : (sites : List SiteData) (messages : List Message) (d : SessionData) (i : ℕ) (first x : SiteData)
    → Shows sites messages d → i < length d.sites → first ≡ slice_index_or sites i first → x ≡ slice_index_or sites i x
    → IsSound (state_of first) → IsSound (state_of x)
site_sound sites messages d i first x seen within one two sound =
    let ms = said sites messages in
    subst IsSound (site_is sites ms d i first seen within one ∙ sym (site_is sites ms d i x seen within two)) sound

module _ {T E : Type 0} {result : Result T E} {many : Bool} {d : SessionData} {sites : List SiteData} {messages : List Message}
    {i : ℕ} {x y : SiteData} {o : OpData} {old new : List ℕ} (e : IsDelivery result many d sites messages i x y o old new) where
  delivery_later : IsLater (state_of x) (state_of y)
  delivery_later =
      let s = state_of x in
      let first : IsLater s (delivered s o) = record { number = delivered_number s o; history = verdict_history (judged s o) o s } in
      let written = told_verdict many o (judged s o) s.number in
      event_later result written s (delivered s o) (state_of y) old new e.done first (sound_delivered s o e.sound e.formed)

  pub delivery_kept : (known : List ℕ) (n next : ℕ) → Keeps sites known messages → n ≡ slice_index_or known i n
      → next ≡ still_known (is_ok result) n
      → Keeps (set sites i y) (set known i next) messages
  delivery_kept known n next keeps count counted =
      let ms = said sites messages in
      let within = site_within sites ms d i e.seen e.within in
      let s = state_of x in
      let here = known_here sites known messages i n x keeps within e.is count in
      let after = sound_delivered s o e.sound e.formed in
      let written = told_verdict many o (judged s o) s.number in
      let stays : (p : OpData) → is_repeat s.history p ≡ true → is_repeat (delivered s o).history p ≡ true =
      λ p is. repeat_after (judged s o) o p s is in
      let has = event_known result written s (delivered s o) (state_of y) old new n ms e.done after stays here.1 in
      let still = still_known (is_ok result) n in
      let kept = kept_at sites known messages i x y still keeps e.is delivery_later (still_few result n (length ms) here.0) has in
      subst (λ j. Keeps (set sites i y) (set known i j) messages) (sym counted) kept

  -- the messages are the same
  delivery_same : (known : List ℕ) → Keeps sites known messages → said (set sites i y) messages ≡ said sites messages
  delivery_same known keeps =
      same_operations (map state_of sites) (map state_of (set sites i y)) messages (later_at sites i x y e.is delivery_later) keeps.held

  pub delivery_messages : (known : List ℕ) → Keeps sites known messages → said (set sites i y) messages ≡ d.messages
  delivery_messages known keeps = delivery_same known keeps ∙ ap (λ (c : SessionData). c.messages) e.seen

  pub delivery_done : (known : List ℕ) → Keeps sites known messages
      → AreDone result (given many i o d) d (session_of (set sites i y) (said (set sites i y) messages)) old new
  delivery_done known keeps =
      let done = given_done result d sites (said sites messages) i many o x y old new e.seen e.within e.is e.done in
      subst (λ (ms : List OpData). AreDone result (given many i o d) d (session_of (set sites i y) ms) old new)
      (sym (delivery_same known keeps)) done

-- the site has the operation then, where its verdict says so
pub delivery_known : {E : Type 0} (result : Result Bool E) (many : Bool) (d : SessionData) (sites : List SiteData) (messages : List Message)
    (ms : List OpData)
    (i : ℕ) (x y : SiteData) (o : OpData) (old new : List ℕ)
    → IsDelivery result many d sites messages i x y o old new → IfOk result (λ had. had ≡ is_had (judged (state_of x) o))
    → IfOk result (λ has. has ≡ true → Has (site_at (session_of (set sites i y) ms) i) o)
delivery_known (Err err) many d sites messages ms i x y o old new e had = tt
delivery_known (Ok b) many d sites messages ms i x y o old new e had = λ is.
    let within = site_within sites (said sites messages) d i e.seen e.within in
    let read : y ≡ slice_index_or (set sites i y) i y = sym (get_or-set_same sites i y y within) in
    let there = state_at (set sites i y) ms i y (omega (arith, within, length-set sites i y)) read in
    subst (λ s. Has s o) there (delivery_has many o (state_of x) (state_of y) e.done.0 e.sound e.formed (sym had ∙ is))

-- ---- a local operation

-- a local command at the site of place i: its operation was made, and told as the message of this number, and the releases after
-- it, as far as they came; the site was x, and is z then
pub record IsMaking {T E : Type 0} (result : Result T E) (edit : Edit) (count : ℕ) (d : SessionData) (sites : List SiteData)
    (messages : List Message)
    (i : ℕ) (x z : SiteData) (m : Message) (old new : List ℕ) : Type 0 where
  pub seen : Shows sites messages d
  pub within : i < length d.sites
  pub is : x ≡ slice_index_or sites i x
  pub sound : IsSound (state_of x)
  pub told : IsTold edit count result (state_of x) (state_of z) old new
  pub site : m.site ≡ i
  pub place : m.place ≡ length x.history

-- the place of the operation that a site is about to make
pub made_place : (sites : List SiteData) (i : ℕ) (first x : SiteData) (place : ℕ)
    → i < length sites → first ≡ slice_index_or sites i first → x ≡ slice_index_or sites i x → place ≡ length first.history
    → place ≡ length x.history
made_place sites i first x place within one two is =
    is ∙ ap (λ (s : State). length s.history) (state_at sites [] i first within one ∙ sym (state_at sites [] i x within two))

module _ {T E : Type 0} {result : Result T E} {edit : Edit} {count : ℕ} {d : SessionData} {sites : List SiteData} {messages : List Message}
    {i : ℕ} {x z : SiteData} {m : Message} {old new : List ℕ} (e : IsMaking result edit count d sites messages i x z m old new) where
  -- the operation
  abbrev o : OpData
  o = e.told.op

  -- the site with it
  abbrev made : State
  made = with_last (state_of x) o

  made_sound : IsSound made
  made_sound = sound_more (state_of x) o e.sound e.told.next

  making_after : IsLater made (state_of z)
  making_after = event_later result (op_text count o) made made (state_of z) old new e.told.done (later_same made) made_sound

  making_later : IsLater (state_of x) (state_of z)
  making_later = later_made (state_of x) (state_of z) o making_after

  -- the messages before are the same
  making_same : (known : List ℕ) → Keeps sites known messages → said (set sites i z) messages ≡ said sites messages
  making_same known keeps =
      same_operations (map state_of sites) (map state_of (set sites i z)) messages (later_at sites i x z e.is making_later) keeps.held

  making_message : IsHeld (map state_of (set sites i z)) m × (operation_of (map state_of (set sites i z)) m ≡ o)
  making_message =
      message_made sites i x z o m (site_within sites (said sites messages) d i e.seen e.within) e.is making_after e.site e.place

  -- the operation is the next
  making_next : (known : List ℕ) → Keeps sites known messages → said (set sites i z) (messages ++ m ∷ []) ≡ said sites messages ++ o ∷ []
  making_next known keeps =
      map-append (operation_of (map state_of (set sites i z))) messages (m ∷ [])
      ∙ (λ j. making_same known keeps j ++ making_message.1 j ∷ [])

  making_at : (known : List ℕ) (n : ℕ) → Keeps sites known messages → n ≡ slice_index_or known i n
      → Keeps (set sites i z) (set known i (still_known (is_ok result) n)) messages
  making_at known n keeps counted =
      let ms = said sites messages in
      let within = site_within sites ms d i e.seen e.within in
      let here = known_here sites known messages i n x keeps within e.is counted in
      let stays : (p : OpData) → Contains (take n ms) p → is_repeat made.history p ≡ true =
      λ p at. repeat_more x.history (o ∷ []) p (here.1 p at).0
      in
      let has = event_has result (op_text count o) made made (state_of z) old new n ms e.told.done made_sound stays in
      kept_at sites known messages i x z (still_known (is_ok result) n) keeps e.is making_later (still_few result n (length ms) here.0) has

  making_all : (known : List ℕ) (n : ℕ) → Keeps sites known messages → n ≡ slice_index_or known i n
      → Keeps (set sites i z) (set known i (still_known (is_ok result) n)) (messages ++ m ∷ [])
  making_all known n keeps counted =
      let ts = map state_of (set sites i z) in
      let ns = set known i (still_known (is_ok result) n) in
      let kept = making_at known n keeps counted in
      let before = said (set sites i z) messages in
      let more : AreKnown ts ns (before ++ o ∷ []) = known_more ts ns before (o ∷ []) kept.known in
      let next : before ++ o ∷ [] ≡ said (set sites i z) (messages ++ m ∷ []) =
      ap (λ (os : List OpData). os ++ o ∷ []) (making_same known keeps) ∙ sym (making_next known keeps)
      in
      let formed = held_formed (said sites messages) o keeps.formed e.told.next.formed in
      record {
        few = kept.few;
        held = held_push ts messages m kept.held making_message.0;
        formed = subst AllFormed (sym (making_next known keeps)) formed;
        known = subst (λ (os : List OpData). AreKnown ts ns os) next more;
      }

  pub making_kept : (known : List ℕ) (now : List Message) (n next : ℕ)
      → Keeps sites known messages → now ≡ messages ++ m ∷ [] → n ≡ slice_index_or known i n → next ≡ still_known (is_ok result) n
      → Keeps (set sites i z) (set known i next) now
  making_kept known now n next keeps pushed here counted =
      subst (λ (ns : List Message). Keeps (set sites i z) (set known i next) ns) (sym pushed)
      (subst (λ j. Keeps (set sites i z) (set known i j) (messages ++ m ∷ [])) (sym counted) (making_all known n keeps here))

  -- the operation is the next message
  pub making_done : (known : List ℕ) (now : List Message) → Keeps sites known messages → now ≡ messages ++ m ∷ [] → count ≡ length messages
      → AreDone result (commanded i (made_by edit (site_at d i)) d) d (session_of (set sites i z) (said (set sites i z) now)) old new
  making_done known now keeps pushed counted =
      let ms = said sites messages in
      let number : count ≡ length ms = omega (arith, counted, length-map messages (operation_of (map state_of sites))) in
      let done = command_made result d sites ms i edit o x z count old new e.seen e.within e.is e.told.is number e.told.done in
      let next : said (set sites i z) now ≡ ms ++ o ∷ [] = ap (said (set sites i z)) pushed ∙ making_next known keeps in
      subst (λ (os : List OpData). AreDone result (commanded i (made_by edit (site_at d i)) d) d (session_of (set sites i z) os) old new)
      (sym next) done
