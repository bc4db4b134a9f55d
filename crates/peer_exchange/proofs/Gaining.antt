-- What each side of an exchange gains.
use Rattle.std.proofs.Common.{◌≡◌, ℕ, true, inl, inr, List, [], length, Ok, refl, ap, sym, subst, ◌∙◌}
use Rattle.std.specs.Prelude.{Contains}
use Rattle.std.proofs.lemmas.Bool.{cases_Bool}
use Rattle.op_name.specs.declared.member.Member.{Member}
use Rattle.context_vector.specs.Contexts.{ContextData}
use Rattle.context_diff.specs.Operations.{OpData, inserting, deleting, undoing, is_original}
use Rattle.context_diff.specs.Histories.{context_of_all, is_known}
use Rattle.context_diff.proofs.CallerLemmas.{holder}
use Rattle.cot_site.specs.States.{State}
use Rattle.cot_site.specs.Releases.{IsSound, IsLater}
use Rattle.cot_site.specs.Sites.{AllFormed}
use Rattle.peer_exchange.specs.Joins.{unseen}
use Rattle.peer_exchange.specs.Messages.{IsSecond, IsThird, IsAnswered}
use Rattle.peer_exchange.specs.Taking.{all_taken_in}
use Rattle.peer_exchange.specs.Closing.{IsClosed, IsFinished}
use Rattle.peer_exchange.specs.Exchanges.{Talk}
use Rattle.peer_exchange.specs.Gaining.{HasGained, TakingInGains, Meanwhile, IsExchangeMeanwhile, HaveGained, EditingMeanwhileLosesNothing}
use Rattle.peer_exchange.proofs.Later.{taking_in_keeps_histories}
use Rattle.peer_exchange.proofs.OneThing.{messages_tell_one_thing}
use Rattle.peer_exchange.proofs.Origins.{comes_taken, waited_before}
use Rattle.peer_exchange.proofs.LackedTaken.{known_later, is_unseen}
use Rattle.peer_exchange.proofs.Again.{Has, taken_has}
use Rattle.peer_exchange.proofs.Exchanging.{answered_is, closed_is, IsReplied}

original_there : (h : List OpData) (o : OpData) → is_original o ≡ true → Has h o → Contains h o
original_there h (inserting n p text c) original there = there.same n refl
original_there h (deleting n p c) original there = there.same n refl
original_there h (undoing a t g c) original there = absurd (let never = original in cc)

gained : (s t : State) (os : List OpData) → IsSound s → AllFormed os → all_taken_in s os ≡ Ok t → HasGained s t os
gained s t os sound formed e = record {
  later = (taking_in_keeps_histories s t os sound formed e).1;
  members = λ o at. (taken_has s t os sound formed e o at).known;
  originals = λ o at original. original_there t.history o original (taken_has s t os sound formed e o at);
  history = (comes_taken s t os e).history;
  waiting = waited_before s t os e;
}

closed_gains : (s t : State) (second before now : List ℕ) (counts : ℕ × ℕ) (state : ContextData) (os : List OpData) → IsSound s
    → IsSecond second state os → IsClosed s second t before now counts → HasGained s t os
closed_gains s t second before now counts state os sound read c =
    gained s t os sound read.formed
    (ap (all_taken_in s) (messages_tell_one_thing.second second state c.state os c.ops read c.read) ∙ c.taken)

finished_gains : (s t : State) (third : List ℕ) (count : ℕ) (os : List OpData) → IsSound s → IsThird third os
    → IsFinished s third t count → HasGained s t os
finished_gains s t third count os sound read f =
    gained s t os sound read.formed (ap (all_taken_in s) (messages_tell_one_thing.third third os f.ops read f.read) ∙ f.taken)

pub taking_in_gains : TakingInGains
taking_in_gains = record { closed = closed_gains; finished = finished_gains }

-- where the frames are what the told history lacks, whatever the site did since, it has all members of the other history afterwards
all_gained : (told took after : State) (h : List OpData) → IsLater told took → HasGained took after (unseen (is_known told.history) h)
    → (m : Member) → is_known h m ≡ true → is_known after.history m ≡ true
all_gained told took after h on gains m known =
    elim (cases_Bool (is_known told.history m)) [
      | inl had ↦ known_later took after gains.later m (known_later told took on m had)
      | inr lacked ↦
          let held = holder h m known in
          let sent = is_unseen (is_known told.history) h held.op held.there (ap (is_known told.history) held.is ∙ lacked) in
          ap (is_known after.history) (sym held.is) ∙ gains.members held.op sent
    ]

module _ (server joiner : Meanwhile) (x : Talk) (e : IsExchangeMeanwhile server joiner x) where
  -- what the server had when it answered
  abbrev had : List OpData
  had = server.told.history

  abbrev to_joiner : List OpData
  to_joiner = unseen (is_known joiner.told.history) had

  abbrev to_server : List OpData
  to_server = unseen (is_known had) joiner.after.history

  answered : IsSecond x.second (context_of_all had) to_joiner × (x.server_sent ≡ length to_joiner)
  answered =
      answered_is had joiner.told.history x.second x.server_sent e.server_side.told.history e.joiner_side.told.history
      (subst (λ (first : List ℕ). IsAnswered had first [] x.second x.server_sent) e.offered e.answered)

  replied : IsReplied had joiner.told.history joiner.took joiner.after x.third x.joiner_took x.joiner_sent
  replied =
      closed_is had joiner.told.history joiner.took joiner.after x.second x.third x.joiner_took x.joiner_sent e.server_side.told.history
      e.joiner_side.took answered.0 e.closed

  have_gained : HaveGained server joiner x
  have_gained =
      let at_joiner = gained joiner.took joiner.after to_joiner e.joiner_side.took answered.0.formed replied.takes in
      let at_server = finished_gains server.took server.after x.third x.server_took to_server e.server_side.took replied.sends e.finished in
      let ps : e.finished.ops ≡ to_server = messages_tell_one_thing.third x.third e.finished.ops to_server e.finished.read replied.sends in
      record {
        joiner_keeps = at_joiner.later;
        joiner_gains = all_gained joiner.told joiner.took joiner.after had e.joiner_side.on at_joiner;
        server_keeps = at_server.later;
        server_gains = all_gained server.told server.took server.after joiner.after.history e.server_side.on at_server;
        at_joiner = replied.received ∙ sym answered.1;
        at_server = e.finished.received ∙ (ap length ps ∙ sym replied.replied);
      }

pub editing_meanwhile_loses_nothing : EditingMeanwhileLosesNothing
editing_meanwhile_loses_nothing server joiner x e = have_gained server joiner x e
