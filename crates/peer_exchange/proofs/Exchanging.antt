-- What one exchange leaves, and what a second one does.
use Rattle.std.proofs.Common.{◌≡◌, ℕ, Bool, List, [], ◌++◌, length, Ok, ap, sym, subst, ◌∙◌, append-nil}
use Rattle.std.specs.List.{flat_map}
use Rattle.op_name.specs.declared.member.Member.{Member}
use Rattle.context_vector.specs.Contexts.{ContextData, has}
use Rattle.context_diff.specs.Operations.{OpData}
use Rattle.context_diff.specs.Histories.{context_of_all, is_known, IsValid}
use Rattle.context_diff.proofs.CallerLemmas.{complete}
use Rattle.cot_site.specs.States.{State}
use Rattle.cot_site.specs.Releases.{IsSound}
use Rattle.cot_site.specs.Sites.{AllFormed}
use Rattle.wire_codec.specs.declared.version.Version.TheVariants.{Two}
use Rattle.wire_codec.specs.Spelling.{frame}
use Rattle.peer_exchange.specs.Joins.{unseen, joined, AreAlike, IsJoined}
use Rattle.peer_exchange.specs.Messages.{end_mark, telling, first_message, IsSecond, IsThird, IsAnswered}
use Rattle.peer_exchange.specs.Taking.{all_taken_in, with_history}
use Rattle.peer_exchange.specs.Closing.{IsClosed}
use Rattle.peer_exchange.specs.Exchanges.{Talk, IsExchange, IsQuiet, UnrefusedCallsJoin, AgreeingSitesMeet}
use Rattle.peer_exchange.specs.Exchanges.{SecondExchangesAreEmpty}
use Rattle.peer_exchange.proofs.BothSides.{both_sides_are_joined, joins_commute, nothing_more, third_is, unseen_by_state}
use Rattle.peer_exchange.proofs.Unseen.{unseen_contains}
use Rattle.peer_exchange.proofs.Unrefused.{unrefused_exchanges_join}
use Rattle.peer_exchange.proofs.Later.{taking_in_keeps_histories}
use Rattle.peer_exchange.proofs.OneThing.{history_is_state, first_of, messages_tell_one_thing}

-- ---- what the messages have

pub formed_unseen : (k : Member → Bool) (h : List OpData) → IsValid h → AllFormed (unseen k h)
formed_unseen k h v o at = (complete h v).formed o (unseen_contains k h o at)

-- the server's answer tells its own state, and has what the joiner lacks
pub answered_is : (h p : List OpData) (second : List ℕ) (n : ℕ) → IsValid h → IsValid p → IsAnswered h (first_message p) [] second n
    → IsSecond second (context_of_all h) (unseen (is_known p) h) × (n ≡ length (unseen (is_known p) h))
answered_is h p second n v w a =
    let state : a.state ≡ context_of_all p =
    messages_tell_one_thing.first (first_message p) a.state (context_of_all p) a.told (first_of p w) in
    let lacked : unseen (has a.state) h ≡ unseen (is_known p) h =
    ap (λ (c : ContextData). unseen (has c) h) state ∙ unseen_by_state p h w in (
      record {
        is = history_is_state h v;
        formed = formed_unseen (is_known p) h v;
        parts = a.appended ∙ ap (λ (os : List OpData). telling (context_of_all h) ++ (flat_map (frame Two) os ++ end_mark)) lacked;
      },
      a.frames ∙ ap length lacked,
    )

-- what the joiner takes in and sends, where the server told the one history and the joiner the other
pub record IsReplied (h p : List OpData) (t t' : State) (third : List ℕ) (took sent : ℕ) : Type 0 where
  pub takes : all_taken_in t (unseen (is_known p) h) ≡ Ok t'
  pub valid : IsValid t'.history
  pub sends : IsThird third (unseen (is_known h) t'.history)
  pub received : took ≡ length (unseen (is_known p) h)
  pub replied : sent ≡ length (unseen (is_known h) t'.history)

pub closed_is : (h p : List OpData) (t t' : State) (second third : List ℕ) (took sent : ℕ) → IsValid h → IsSound t
    → IsSecond second (context_of_all h) (unseen (is_known p) h) → IsClosed t second t' [] third (took, sent)
    → IsReplied h p t t' third took sent
closed_is h p t t' second third took sent v sound is c =
    let os = unseen (is_known p) h in
    let state : c.state ≡ context_of_all h = messages_tell_one_thing.state second c.state (context_of_all h) c.ops os c.read is in
    let ops : c.ops ≡ os = messages_tell_one_thing.second second c.state (context_of_all h) c.ops os c.read is in
    let takes : all_taken_in t os ≡ Ok t' = ap (all_taken_in t) (sym ops) ∙ c.taken in
    let valid : IsValid t'.history = (taking_in_keeps_histories t t' os sound is.formed takes).0.history in
    let lacked : unseen (has c.state) t'.history ≡ unseen (is_known h) t'.history =
    ap (λ (x : ContextData). unseen (has x) t'.history) state ∙ unseen_by_state h t'.history v in
    record {
      takes = takes;
      valid = valid;
      sends =
          record {
            formed = formed_unseen (is_known h) t'.history valid;
            parts = c.appended
                ∙ ap (λ (ps : List OpData). flat_map (frame Two) ps ++ end_mark) lacked;
          };
      received = c.received ∙ ap length ops;
      replied = c.sent ∙ ap length lacked;
    }

-- the whole exchange, as the two sites take it in
record IsTalk (s t s' t' : State) (x : Talk) : Type 0 where
  reply : IsReplied s.history t.history t t' x.third x.joiner_took x.joiner_sent
  server_sent : x.server_sent ≡ length (unseen (is_known t.history) s.history)
  takes : all_taken_in s (unseen (is_known s.history) t'.history) ≡ Ok s'
  server_took : x.server_took ≡ length (unseen (is_known s.history) t'.history)

talk_is : (s t s' t' : State) (x : Talk) → IsQuiet s → IsQuiet t → IsExchange s t s' t' x → IsTalk s t s' t' x
talk_is s t s' t' x qs qt e =
    let answered = answered_is s.history t.history x.second x.server_sent qs.sound.history qt.sound.history
    (subst (λ (first : List ℕ). IsAnswered s.history first [] x.second x.server_sent) e.offered e.answered) in
    let reply =
    closed_is s.history t.history t t' x.second x.third x.joiner_took x.joiner_sent qs.sound.history qt.sound answered.0 e.closed in
    let f = e.finished in
    let ops : f.ops ≡ unseen (is_known s.history) t'.history =
    messages_tell_one_thing.third x.third f.ops (unseen (is_known s.history) t'.history) f.read reply.sends in
    record {
      reply = reply;
      server_sent = answered.1;
      takes = ap (all_taken_in s) (sym ops) ∙ f.taken;
      server_took = f.received ∙ ap length ops;
    }

pub unrefused_calls_join : UnrefusedCallsJoin
unrefused_calls_join s t s' t' x qs qt e =
    let h = s.history in
    let p = t.history in
    let talk = talk_is s t s' t' x qs qt e in
    let ends = unrefused_exchanges_join s t s' t' qs.sound.history qt.sound.history qs.none qt.none talk.reply.takes talk.takes in
    let both = both_sides_are_joined h p in
    let at_joiner : t'.history ≡ joined p h = ap (λ (u : State). u.history) ends.0 in
    let at_server : s'.history ≡ joined h p = ap (λ (u : State). u.history) ends.1 in
    let lacked : unseen (is_known h) t'.history ≡ unseen (is_known h) p = ap (unseen (is_known h)) at_joiner ∙ third_is h p in
    record {
      server = ends.1;
      joiner = ends.0;
      server_joined = subst (IsJoined h p) (sym at_server) both.first;
      joiner_joined = subst (IsJoined h p) (sym at_joiner) both.second;
      to_joiner = talk.server_sent;
      at_joiner = talk.reply.received ∙ sym talk.server_sent;
      to_server = talk.reply.replied ∙ ap length lacked;
      at_server = talk.server_took ∙ sym talk.reply.replied;
    }

pub agreeing_sites_meet : AgreeingSitesMeet
agreeing_sites_meet s t s' t' x qs qt agree e =
    let j = unrefused_calls_join s t s' t' x qs qt e in
    let alike = joins_commute s.history t.history qs.sound.history qt.sound.history agree in
    let server : joined s.history t.history ≡ s'.history = sym (ap (λ (u : State). u.history) j.server) in
    let joiner : joined t.history s.history ≡ t'.history = sym (ap (λ (u : State). u.history) j.joiner) in
    subst (λ (a : List OpData). AreAlike a t'.history) server (subst (λ (b : List OpData). AreAlike (joined s.history t.history) b) joiner
    alike)

-- ---- the second exchange

quiet_after : (s s' : State) (k : List OpData) → IsQuiet s → IsSound s' → s' ≡ with_history s k → IsQuiet s'
quiet_after s s' k q sound is = record { sound = sound; none = ap (λ (u : State). u.waiting) is ∙ q.none }

pub second_exchanges_are_empty : SecondExchangesAreEmpty
second_exchanges_are_empty s t s' t' s'' t'' x y qs qt e f =
    let h = s.history in
    let p = t.history in
    let talk = talk_is s t s' t' x qs qt e in
    let one = unrefused_calls_join s t s' t' x qs qt e in
    let sound_t =
    (taking_in_keeps_histories t t' (unseen (is_known p) h) qt.sound (formed_unseen (is_known p) h qs.sound.history) talk.reply.takes).0 in
    let sound_s =
    (taking_in_keeps_histories s s' (unseen (is_known h) t'.history) qs.sound (formed_unseen (is_known h) t'.history sound_t.history)
    talk.takes).0 in
    let two =
    unrefused_calls_join s' t' s'' t'' y (quiet_after s s' (joined h p) qs sound_s one.server)
    (quiet_after t t' (joined p h) qt sound_t one.joiner) f in
    let server : s'.history ≡ joined h p = ap (λ (u : State). u.history) one.server in
    let joiner : t'.history ≡ joined p h = ap (λ (u : State). u.history) one.joiner in
    let none_at_joiner : unseen (is_known t'.history) s'.history ≡ [] = (λ i. unseen (is_known (joiner i)) (server i)) ∙ nothing_more p h in
    let none_at_server : unseen (is_known s'.history) t'.history ≡ [] = (λ i. unseen (is_known (server i)) (joiner i)) ∙ nothing_more h p in
    record {
      server = two.server ∙ ap (with_history s') (ap (λ (os : List OpData). s'.history ++ os) none_at_server ∙ append-nil s'.history);
      joiner = two.joiner ∙ ap (with_history t') (ap (λ (os : List OpData). t'.history ++ os) none_at_joiner ∙ append-nil t'.history);
      server_sent = two.to_joiner ∙ ap length none_at_joiner;
      joiner_sent = two.to_server ∙ ap length none_at_server;
    }
