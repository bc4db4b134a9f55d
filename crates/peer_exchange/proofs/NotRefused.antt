-- Where two sides agree, no call of an exchange refuses but out of memory, also while both go on editing.
use Rattle.std.proofs.Common.{◌≡◌, ℕ, Bool, false, inl, inr, List, [], ◌∷◌, ◌++◌, length, Ok, Err, refl, ap, sym, subst, ◌∙◌}
use Rattle.std.specs.Prelude.{Contains, ◌⊎◌}
use Rattle.std.proofs.lemmas.Bool.{cases_Bool, false≢true}
use Rattle.std.proofs.lemmas.List.Elements.{Contains-append_left, Contains-append_right}
use Rattle.op_name.specs.declared.member.Member.{Member}
use Rattle.op_name.specs.declared.member.Member.TheVariants.{Original}
use Rattle.op_name.specs.NameData.{NameData}
use Rattle.context_vector.specs.Contexts.{ContextData}
use Rattle.context_diff.specs.Operations.{OpData, member_of}
use Rattle.context_diff.specs.Histories.{context_of_all, is_known, IsValid}
use Rattle.context_diff.proofs.CallerLemmas.{complete, contains_cases, contains_none, known_member}
use Rattle.cot_site.specs.States.{State}
use Rattle.cot_site.specs.Releases.{IsSound}
use Rattle.peer_exchange.specs.declared.messages.Which.TheVariants.{First, Second, Third}
use Rattle.peer_exchange.specs.declared.messages.Measure.{Measure}
use Rattle.peer_exchange.specs.declared.messages.Measure.TheVariants as message
use Rattle.peer_exchange.specs.declared.messages.PeerCause.{PeerCause}
use Rattle.peer_exchange.specs.declared.peer.Peer.{Peer}
use Rattle.peer_exchange.specs.declared.peer.Peer.TheVariants as peer
use Rattle.peer_exchange.specs.Joins.{unseen}
use Rattle.peer_exchange.specs.Measuring.{measure_of}
use Rattle.peer_exchange.specs.Messages.{first_message, IsSecond, IsThird}
use Rattle.peer_exchange.specs.Refusals.{IsWhole, IsUnread, Spoils}
use Rattle.peer_exchange.specs.Taking.{Refusal, all_taken_in, IsRefusedAt}
use Rattle.peer_exchange.specs.Closing.{IsUnclosed, IsUnfinished}
use Rattle.peer_exchange.specs.Exchanges.{AgreeInAll, AgreeingSitesAreNotRefused}
use Rattle.peer_exchange.specs.Gaining.{Meanwhile, IsMeanwhile, OnlyMemoryRefusesMeanwhile, EditingMeanwhileIsNotRefused}
use Rattle.peer_exchange.proofs.Unseen.{unseen_contains}
use Rattle.peer_exchange.proofs.Receivings.{refused_is}
use Rattle.peer_exchange.proofs.Later.{later_same}
use Rattle.peer_exchange.proofs.Origins.{comes_taken}
use Rattle.peer_exchange.proofs.LackedTaken.{known_later, has_later, taken_but_known}
use Rattle.peer_exchange.proofs.Wholes.{messages_are_whole}
use Rattle.peer_exchange.proofs.OneThing.{first_of, messages_tell_one_thing}
use Rattle.peer_exchange.proofs.Exchanging.{answered_is, closed_is}

not_spoiled : (len : ℕ) (m : Measure) (offset : ℕ) (cause : PeerCause) → m ≡ message.Whole len → Spoils len m offset cause → ⊥
not_spoiled len m offset cause is spoils = let of_whole = subst (λ (x : Measure). Spoils len x offset cause) is spoils in of_whole.0 refl

not_refused : (s t' u : State) (os ps : List OpData) (why : Refusal) → all_taken_in s os ≡ Ok u → ps ≡ os → IsRefusedAt s ps t' why → ⊥
not_refused s t' u os ps why takes same r =
    let never : Err why ≡ Ok u = sym (refused_is s ps t' why r) ∙ (ap (all_taken_in s) same ∙ takes) in cc

unread_first : (bytes : List ℕ) (why : Peer) → IsWhole First bytes → IsUnread First bytes why → why ≡ peer.Memory
unread_first bytes (peer.Bytes offset cause) whole is = absurd (not_spoiled (length bytes) (measure_of First bytes) offset cause whole is)
unread_first bytes (peer.Op member verdict) whole is = absurd is
unread_first bytes peer.Memory whole is = refl

pub unclosed_why : (t t' u : State) (second : List ℕ) (c : ContextData) (os : List OpData) (why : Peer) → IsSecond second c os
    → all_taken_in t os ≡ Ok u → IsUnclosed t second t' why → why ≡ peer.Memory
unclosed_why t t' u second c os (peer.Bytes offset cause) is takes why =
    absurd (not_spoiled (length second) (measure_of Second second) offset cause (messages_are_whole.second second c os is) why.1)
unclosed_why t t' u second c os (peer.Op member verdict) is takes why =
    absurd (not_refused t t' u os why.1 (record { member = member; verdict = verdict }) takes
    (messages_tell_one_thing.second second why.0 c why.1 os why.2 is) why.3)
unclosed_why t t' u second c os peer.Memory is takes why = refl

pub unfinished_why : (s s' u : State) (third : List ℕ) (os : List OpData) (why : Peer) → IsThird third os → all_taken_in s os ≡ Ok u
    → IsUnfinished s third s' why → why ≡ peer.Memory
unfinished_why s s' u third os (peer.Bytes offset cause) is takes why =
    absurd (not_spoiled (length third) (measure_of Third third) offset cause (messages_are_whole.third third os is) why.1)
unfinished_why s s' u third os (peer.Op member verdict) is takes why =
    absurd (not_refused s s' u os why.0 (record { member = member; verdict = verdict }) takes
    (messages_tell_one_thing.third third why.0 os why.1 is) why.2)
unfinished_why s s' u third os peer.Memory is takes why = refl

-- what a history lacks isn't known there
unseen_lacks : (k : Member → Bool) (os : List OpData) (o : OpData) → Contains (unseen k os) o → k (member_of o) ≡ false
unseen_lacks k [] o c = absurd (contains_none o c)
unseen_lacks k (p ∷ ps) o c =
    elim (cases_Bool (k (member_of p))) [
      | inl seen ↦ let in_rest : Contains (unseen k ps) o = rw seen at c in unseen_lacks k ps o in_rest
      | inr new ↦
          let in_all : Contains (p ∷ unseen k ps) o = rw new at c in
          elim (contains_cases p (unseen k ps) o in_all) [
            | inl same ↦ ap (λ (x : OpData). k (member_of x)) (sym same) ∙ new
            | inr later ↦ unseen_lacks k ps o later
          ]
    ]

-- the joiner takes in all that it lacked of the server, and the server then all that it lacked of the joiner
module _ (server joiner : Meanwhile) (ss : IsMeanwhile server) (sj : IsMeanwhile joiner) (agree : AgreeInAll server.took joiner.took) where
  -- what the server had when it answered
  abbrev had : List OpData
  had = server.told.history

  abbrev to_joiner : List OpData
  to_joiner = unseen (is_known joiner.told.history) had

  one_content : (x y : OpData) (n : NameData) → Contains server.took.history x ⊎ Contains server.took.waiting x
      → Contains joiner.took.history y ⊎ Contains joiner.took.waiting y → member_of x ≡ Original n → member_of y ≡ Original n → x ≡ y
  one_content x y n at bt is js = agree x y n (either server.took x at) (either joiner.took y bt) is js
    where
      either : (u : State) (z : OpData) → Contains u.history z ⊎ Contains u.waiting z → Contains (u.history ++ u.waiting) z
      either u z (inl old) = Contains-append_left u.history u.waiting z old
      either u z (inr held) = Contains-append_right u.history u.waiting z held

  joiner_takes : (t : State) × (all_taken_in joiner.took to_joiner ≡ Ok t)
  joiner_takes =
      taken_but_known joiner.took had (is_known joiner.told.history) sj.took ss.told.history
      (λ m known. known_later joiner.told joiner.took sj.on m known)
      (λ y x n bt at js is. sym (one_content x y n (inl (kept x at)) (inl bt) is js))
      (λ y x n bt at js is. sym (one_content x y n (inl (kept x (unseen_contains (is_known joiner.told.history) had x at))) (inr bt) is js))
    where
      kept : (x : OpData) → Contains had x → Contains server.took.history x
      kept x at = has_later server.told server.took ss.on x at

  module _ (after : State) (takes : all_taken_in joiner.took to_joiner ≡ Ok after) (valid : IsValid after.history) where
    -- what the joiner then has was there, or is what the server had
    origin : (y : OpData) → Contains after.history y → (Contains joiner.took.history y ⊎ Contains joiner.took.waiting y) ⊎ Contains had y
    origin y bt =
        elim ((comes_taken joiner.took after to_joiner takes).history y bt) [
          | inl old ↦ inl (inl old)
          | inr (inl held) ↦ inl (inr held)
          | inr (inr came) ↦ inr (unseen_contains (is_known joiner.told.history) had y came)
        ]

    server_takes : (t : State) × (all_taken_in server.took (unseen (is_known had) after.history) ≡ Ok t)
    server_takes =
        taken_but_known server.took after.history (is_known had) ss.took valid
        (λ m known. known_later server.told server.took ss.on m known)
        (λ x y n at bt is js. elim (origin y bt) [
          | inl own ↦ one_content x y n (inl at) own is js
          | inr mine ↦ (complete server.took.history ss.took.history).one x y at (has_later server.told server.took ss.on y mine)
              (is ∙ sym js)
        ])
        (λ x y n at bt is js. elim (origin y (unseen_contains (is_known had) after.history y bt)) [
          | inl own ↦ one_content x y n (inr at) own is js
          | inr mine ↦ absurd (false≢true (sym (unseen_lacks (is_known had) after.history y bt) ∙ known_member had y mine))
        ])

pub editing_meanwhile_is_not_refused : EditingMeanwhileIsNotRefused
editing_meanwhile_is_not_refused server joiner ss sj agree =
    let h = server.told.history in
    let p = joiner.told.history in
    let v = ss.told.history in
    let w = sj.told.history in
    let takes = joiner_takes server joiner ss sj agree in
    record {
      answering =
          λ why is. unread_first (first_message p) why (messages_are_whole.first (first_message p) (context_of_all p) (first_of p w)) is;
      closing = λ second n why a is.
          unclosed_why joiner.took joiner.after takes.0 second (context_of_all h) (unseen (is_known p) h) why
          (answered_is h p second n v w a).0 takes.1 is;
      finishing = λ second third n m k why a c is.
          let reply = closed_is h p joiner.took joiner.after second third m k v sj.took (answered_is h p second n v w a).0 c in
          let last = server_takes server joiner ss sj agree joiner.after reply.takes reply.valid in
          unfinished_why server.took server.after last.0 third (unseen (is_known h) joiner.after.history) why reply.sends last.1 is;
    }

-- ---- where neither goes on

abbrev at_once : State → State → Meanwhile
at_once s t = record { told = s; took = s; after = t }

is_at_once : (s t : State) → IsSound s → IsMeanwhile (at_once s t)
is_at_once s t sound = record { told = sound; took = sound; on = later_same s }

pub agreeing_sites_are_not_refused : AgreeingSitesAreNotRefused
agreeing_sites_are_not_refused s t ss st agree = record {
  answering = (calls s t).answering;
  closing = λ second n t' why a is. (calls s t').closing second n why a is;
  finishing = λ second third n m k t' s' why a c is. (calls s' t').finishing second third n m k why a c is;
}
  where
    calls : (s' t' : State) → OnlyMemoryRefusesMeanwhile (at_once s s') (at_once t t')
    calls s' t' = editing_meanwhile_is_not_refused (at_once s s') (at_once t t') (is_at_once s s' ss) (is_at_once t t' st) agree
