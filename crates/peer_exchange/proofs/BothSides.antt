-- Joins of valid histories that agree: what both sides have, and the laws of joining.
use Rattle.std.proofs.Common.{◌≡◌, Bool, true, false, ◌⊎◌, inl, inr, List, [], ◌∷◌, ◌++◌, refl, ap, sym, subst, ◌∙◌, append-nil}
use Rattle.std.specs.Prelude.{Contains, ◌||◌}
use Rattle.op_name.specs.declared.member.Member.{Member}
use Rattle.context_vector.specs.Contexts.{has}
use Rattle.context_diff.specs.Operations.{OpData, member_of}
use Rattle.context_diff.specs.Histories.{is_known, context_of_all, IsValid, Agree}
use Rattle.context_diff.proofs.CallerLemmas.{agree_back, agree_itself, complete, known_member, same_by_members}
use Rattle.fixed_replay.proofs.CallerLemmas.{same_text, told_apart}
use Rattle.peer_exchange.specs.Joins.{unseen, joined, EqualMembersAreAlike, BothSidesAreJoined, JoinsCommute, JoinsAssociate}
use Rattle.peer_exchange.specs.Joins.{JoinsAreIdempotent, AreSound, IsExchanged, AreExchanged, latest, AnyExchangesMeet}
use Rattle.peer_exchange.proofs.Unseen.{known_joined, unseen_nothing, unseen_append, unseen_contains, unseen_same}
use Rattle.peer_exchange.proofs.ValidJoins.{joined_cases, joined_is_valid}

pub agree_joined : (h p l : List OpData) → Agree h l → Agree p l → Agree (joined h p) l
agree_joined h p l first second x y n at bt is js =
    elim (joined_cases h p x at) [
      | inl old ↦ first x y n old bt is js
      | inr new ↦ second x y n new bt is js
    ]

-- ---- same members

pub equal_members_are_alike : EqualMembersAreAlike
equal_members_are_alike h p v w agree members =
    let same = same_by_members h p v w agree (λ m e. sym (members m) ∙ e) (λ m e. members m ∙ e) in
    (same, same_text h p (told_apart h v) (told_apart p w) same)

-- ---- both sides

or_swap : (a b : Bool) → (a || b) ≡ (b || a)
or_swap true true = refl
or_swap true false = refl
or_swap false true = refl
or_swap false false = refl

or_assoc : (a b c : Bool) → ((a || b) || c) ≡ (a || (b || c))
or_assoc true b c = refl
or_assoc false b c = refl

swapped : {A B : Type 0} → A ⊎ B → B ⊎ A
swapped (inl a) = inr a
swapped (inr b) = inl b

both_members : (h p : List OpData) (m : Member) → is_known (joined h p) m ≡ is_known (joined p h) m
both_members h p m = known_joined h p m ∙ (or_swap (is_known h m) (is_known p m) ∙ sym (known_joined p h m))

both_agree : (h p : List OpData) → IsValid h → IsValid p → Agree h p → Agree (joined h p) (joined p h)
both_agree h p v w agree =
    agree_joined h p (joined p h)
    (agree_back (joined p h) h (agree_joined p h h (agree_back h p agree) (agree_itself h v)))
    (agree_back (joined p h) p (agree_joined p h p (agree_itself p w) agree))

-- no member of the one join is lacking in the other
pub nothing_more : (h p : List OpData) → unseen (is_known (joined h p)) (joined p h) ≡ []
nothing_more h p =
    unseen_nothing (is_known (joined h p)) (joined p h) (λ o at. both_members h p (member_of o) ∙ known_member (joined p h) o at)

pub both_sides_are_joined : BothSidesAreJoined
both_sides_are_joined h p = record {
  first = record { members = known_joined h p; originals = λ o at original. joined_cases h p o at };
  second = record {
    members = λ m. known_joined p h m ∙ or_swap (is_known p m) (is_known h m);
    originals = λ o at original. swapped (joined_cases p h o at);
  };
  none_for_first = nothing_more h p;
  none_for_second = nothing_more p h;
}

pub joins_commute : JoinsCommute
joins_commute h p v w agree =
    equal_members_are_alike (joined h p) (joined p h)
    (joined_is_valid h p v w agree)
    (joined_is_valid p h w v (agree_back h p agree))
    (both_agree h p v w agree)
    (both_members h p)

-- the third message, made from the join, is what the second history has of its own
pub third_is : (h p : List OpData) → unseen (is_known h) (joined p h) ≡ unseen (is_known h) p
third_is h p =
    unseen_append (is_known h) p (unseen (is_known p) h)
    ∙ (ap (λ xs. unseen (is_known h) p ++ xs) (unseen_nothing (is_known h) (unseen (is_known p) h)
    (λ o at. known_member h o (unseen_contains (is_known p) h o at)))
    ∙ append-nil (unseen (is_known h) p))

-- what is lacking can be told from the context of all members alone
pub unseen_by_state : (h os : List OpData) → IsValid h → unseen (has (context_of_all h)) os ≡ unseen (is_known h) os
unseen_by_state h os v = unseen_same (has (context_of_all h)) (is_known h) os (complete h v).holds

-- ---- laws

pub joins_associate : JoinsAssociate
joins_associate h p l v w u agree_hp agree_hl agree_pl =
    let hp = joined_is_valid h p v w agree_hp in
    let pl = joined_is_valid p l w u agree_pl in
    let left = agree_joined h p l agree_hl agree_pl in
    let right : Agree h (joined p l) = agree_back (joined p l) h (agree_joined p l h (agree_back h p agree_hp) (agree_back h l agree_hl)) in
    let p_right : Agree p (joined p l) = agree_back (joined p l) p (agree_joined p l p (agree_itself p w) (agree_back p l agree_pl)) in
    let l_right : Agree l (joined p l) = agree_back (joined p l) l (agree_joined p l l agree_pl (agree_itself l u)) in
    let hp_right = agree_joined h p (joined p l) right p_right in
    let all_right : Agree (joined (joined h p) l) (joined p l) = agree_joined (joined h p) l (joined p l) hp_right l_right in
    let hp_h : Agree (joined h p) h = agree_joined h p h (agree_itself h v) (agree_back h p agree_hp) in
    let all_h : Agree (joined (joined h p) l) h = agree_joined (joined h p) l h hp_h (agree_back h l agree_hl) in
    let all : Agree (joined (joined h p) l) (joined h (joined p l)) =
    agree_back (joined h (joined p l)) (joined (joined h p) l)
    (agree_joined h (joined p l) (joined (joined h p) l) (agree_back (joined (joined h p) l) h all_h)
    (agree_back (joined (joined h p) l) (joined p l) all_right)) in
    equal_members_are_alike (joined (joined h p) l) (joined h (joined p l))
    (joined_is_valid (joined h p) l hp u left)
    (joined_is_valid h (joined p l) v pl right)
    all
    (λ m.
    known_joined (joined h p) l m
    ∙ (ap (λ b. b || is_known l m) (known_joined h p m)
    ∙ (or_assoc (is_known h m) (is_known p m) (is_known l m)
    ∙ (ap (λ b. is_known h m || b) (sym (known_joined p l m)) ∙ sym (known_joined h (joined p l) m)))))

pub joins_are_idempotent : JoinsAreIdempotent
joins_are_idempotent h = ap (λ xs. h ++ xs) (unseen_nothing (is_known h) h (λ o at. known_member h o at)) ∙ append-nil h

-- ---- exchanges

exchanged_valid : (hs js : List (List OpData)) → AreSound hs → IsExchanged hs js → (j : List OpData) → Contains js j → IsValid j
exchanged_valid hs js sound is j at =
    elim (is j at) [
      | inl old ↦ sound.valid j old
      | inr new ↦ subst IsValid (sym new.4) (joined_is_valid new.0 new.1 (sound.valid new.0 new.2) (sound.valid new.1 new.3)
          (sound.agree new.0 new.1 new.2 new.3))
    ]

-- a history that agrees with all that were there agrees with all that are there
agree_later : (hs js : List (List OpData)) → IsExchanged hs js → (l : List OpData) → ((h : List OpData) → Contains hs h → Agree h l)
    → (j : List OpData) → Contains js j → Agree j l
agree_later hs js is l agree j at =
    elim (is j at) [
      | inl old ↦ agree j old
      | inr new ↦ subst (λ (x : List OpData). Agree x l) (sym new.4) (agree_joined new.0 new.1 l (agree new.0 new.2) (agree new.1 new.3))
    ]

exchanges_keep_sound : (hs js : List (List OpData)) → AreSound hs → IsExchanged hs js → AreSound js
exchanges_keep_sound hs js sound is = record {
  valid = exchanged_valid hs js sound is;
  agree = λ j k at bt.
      agree_later hs js is k (λ h ht. agree_back k h (agree_later hs js is h (λ p pt. sound.agree p h pt ht) k bt)) j at;
}

latest_sound : (hs : List (List OpData)) (rounds : List (List (List OpData))) → AreSound hs → AreExchanged hs rounds
    → AreSound (latest hs rounds)
latest_sound hs [] sound are = sound
latest_sound hs (js ∷ rest) sound are = latest_sound js rest (exchanges_keep_sound hs js sound are.0) are.1

pub any_exchanges_meet : AnyExchangesMeet
any_exchanges_meet hs rounds sound are =
    let last = latest_sound hs rounds sound are in
    (last, λ h p at bt same. equal_members_are_alike h p (last.valid h at) (last.valid p bt) (last.agree h p at bt) same)
