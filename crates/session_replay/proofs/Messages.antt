-- Messages stay the same while the sites integrate more: each history begins with what it was.
use Rattle.std.proofs.Common.{◌≡◌, ℕ, zero, suc, ◌<◌, inl, inr, List, [], ◌∷◌, ◌++◌, refl, sym, ap, subst, ◌∙◌, length, map, set, take, arith}
use Rattle.std.specs.Prelude.{Contains, Some, slice_get, slice_index_or}
use Rattle.std.proofs.lemmas.List.{get_or-take, length-append, length-map, length-take}
use Rattle.std.proofs.lemmas.List.Elements.{Contains-push_cases}
use Rattle.std.proofs.Math.Seq.{take-append_seam}
use Rattle.context_diff.specs.Operations.{OpData}
use Rattle.context_diff.proofs.CallerLemmas.{contains_here, contains_later}
use Rattle.cot_site.specs.States.{State, with_last}
use Rattle.cot_site.specs.Sites.{SiteData, state_of}
use Rattle.cot_site.specs.Releases.{IsLater}
use Rattle.cot_site.proofs.CallerLemmas.{later_on}
use Rattle.session_replay.specs.declared.message.Message.{Message}
use Rattle.session_replay.specs.Sessions.{new_site}
use Rattle.session_replay.specs.Code.Messages.{IsHeld, AreHeld, history_of, operation_of, operations_of, no_operation}
use Rattle.session_replay.proofs.Releasing.{later_same}

-- each site is a later one
abbrev pub AreLater : List State → List State → Type 0
AreLater [] [] = Unit {0}
AreLater [] (t ∷ ts) = ⊥
AreLater (s ∷ ss) [] = ⊥
AreLater (s ∷ ss) (t ∷ ts) = IsLater s t × AreLater ss ts

later_sites : (ss : List State) → AreLater ss ss
later_sites [] = tt
later_sites (s ∷ ss) = (later_same s, later_sites ss)

-- the site at one place is a later one
pub later_at : (sites : List SiteData) (i : ℕ) (x y : SiteData) → x ≡ slice_index_or sites i x → IsLater (state_of x) (state_of y)
    → AreLater (map state_of sites) (map state_of (set sites i y))
later_at [] i x y is later = tt
later_at (z ∷ zs) zero x y is later = (subst (λ (s : SiteData). IsLater (state_of s) (state_of y)) is later, later_sites (map state_of zs))
later_at (z ∷ zs) (suc i) x y is later = (later_same (state_of z), later_at zs i x y is later)

-- a site that made an operation, and maybe more after it
pub later_made : (s u : State) (o : OpData) → IsLater (with_last s o) u → IsLater s u
later_made s u o later =
    let first : IsLater s (with_last s o) = record { number = refl; history = take-append_seam s.history (o ∷ []) } in
    later_on s (with_last s o) u first later

-- a history that begins with another has its operations, at their places
begun_within : (h k : List OpData) (n : ℕ) → take (length h) k ≡ h → n < length h → n < length k
begun_within h k n begins within = omega (arith, within, length-take (length h) k, ap (λ (os : List OpData). length os) begins)

begun_at : (h k : List OpData) (n : ℕ) (d : OpData) → take (length h) k ≡ h → n < length h → slice_index_or k n d ≡ slice_index_or h n d
begun_at h k n d begins within = sym (get_or-take (length h) k n d within) ∙ ap (λ (os : List OpData). slice_index_or os n d) begins

later_there : (ss ts : List State) (j : ℕ) (d : State) → AreLater ss ts → j < length ss
    → (j < length ts) × IsLater (slice_index_or ss j d) (slice_index_or ts j d)
later_there [] ts j d later within = absurd (omega (arith, within))
later_there (s ∷ ss) [] j d later within = absurd later
later_there (s ∷ ss) (t ∷ ts) zero d later within = (omega arith, later.0)
later_there (s ∷ ss) (t ∷ ts) (suc j) d later within =
    let rest = later_there ss ts j d later.1 (omega arith) in
    (omega (arith, rest.0), rest.1)

stays : (ss ts : List State) (m : Message) → AreLater ss ts → IsHeld ss m → IsHeld ts m × (operation_of ts m ≡ operation_of ss m)
stays ss ts m later held =
    let there = later_there ss ts m.site (new_site m.site) later held.site in
    let begins = there.1.history in (
      record { site = there.0; place = begun_within (history_of ss m) (history_of ts m) m.place begins held.place },
      begun_at (history_of ss m) (history_of ts m) m.place no_operation begins held.place,
    )

-- messages stay held, with the same operations
pub held_later : (ss ts : List State) (ms : List Message) → AreLater ss ts → AreHeld ss ms → AreHeld ts ms
held_later ss ts ms later held = λ m at. (stays ss ts m later (held m at)).0

pub same_operations : (ss ts : List State) (ms : List Message) → AreLater ss ts → AreHeld ss ms → operations_of ts ms ≡ operations_of ss ms
same_operations ss ts [] later held = refl
same_operations ss ts (m ∷ ms) later held =
    let first = (stays ss ts m later (held m (contains_here m ms))).1 in
    let rest = same_operations ss ts ms later (λ n at. held n (contains_later m ms n at)) in
    λ i. first i ∷ rest i

-- ---- a message more

-- the message of an operation that a site made, and maybe more after it
pub message_made : (sites : List SiteData) (i : ℕ) (x z : SiteData) (o : OpData) (m : Message)
    → i < length sites → x ≡ slice_index_or sites i x → IsLater (with_last (state_of x) o) (state_of z)
    → m.site ≡ i → m.place ≡ length x.history
    → IsHeld (map state_of (set sites i z)) m × (operation_of (map state_of (set sites i z)) m ≡ o)
message_made sites i x z o m within is later site place =
    let h = x.history ++ o ∷ [] in
    let ts = map state_of (set sites i z) in
    let named : history_of ts m ≡ (slice_index_or ts i (new_site m.site)).history =
    ap (λ j. (slice_index_or ts j (new_site m.site)).history) site in
    let there : history_of ts m ≡ z.history = named ∙ written_there sites i z (new_site m.site) within in
    let last : m.place < length h = omega (arith, place, length-append x.history (o ∷ [])) in
    let begins : take (length h) z.history ≡ h = later.history in
    let later_last = begun_within h z.history m.place begins last in
    let held : m.place < length (history_of ts m) = omega (arith, later_last, ap (λ (os : List OpData). length os) there) in (
      record { site = omega (arith, site, within, written_count sites i z); place = held },
      ap (λ (os : List OpData). slice_index_or os m.place no_operation) there
          ∙ begun_at h z.history m.place no_operation begins last
          ∙ ap (λ n. slice_index_or h n no_operation) place
          ∙ last_one x.history,
    )
  where
    written_there : (zs : List SiteData) (j : ℕ) (z : SiteData) (d : State) → j < length zs
        → (slice_index_or (map state_of (set zs j z)) j d).history ≡ z.history
    written_there [] j z d within = absurd (omega (arith, within))
    written_there (w ∷ ws) zero z d within = refl
    written_there (w ∷ ws) (suc j) z d within = written_there ws j z d (omega arith)

    written_count : (zs : List SiteData) (j : ℕ) (z : SiteData) → length (map state_of (set zs j z)) ≡ length zs
    written_count [] j z = refl
    written_count (w ∷ ws) zero z = ap suc (length-map ws state_of)
    written_count (w ∷ ws) (suc j) z = ap suc (written_count ws j z)

    last_one : (h : List OpData) → slice_index_or (h ++ o ∷ []) (length h) no_operation ≡ o
    last_one [] = refl
    last_one (p ∷ h) = last_one h

pub held_push : (ss : List State) (ms : List Message) (m : Message) → AreHeld ss ms → IsHeld ss m → AreHeld ss (ms ++ m ∷ [])
held_push ss ms m held one n at = elim (Contains-push_cases ms m n at) [
  | inl before ↦ held n before
  | inr same ↦ subst (IsHeld ss) same one
]

-- ---- the message of a number

pub message_in : (ms : List Message) (n : ℕ) (m : Message) → n < length ms → m ≡ slice_index_or ms n m → Contains ms m
message_in [] n m within is = absurd (omega (arith, within))
message_in (k ∷ ks) zero m within is = subst (Contains (k ∷ ks)) (sym is) (contains_here k ks)
message_in (k ∷ ks) (suc n) m within is = contains_later k ks m (message_in ks n m (omega arith) is)

pub message_at : (ss : List State) (ms : List Message) (n : ℕ) (m : Message) → n < length ms → m ≡ slice_index_or ms n m
    → slice_get (operations_of ss ms) n ≡ Some (operation_of ss m)
message_at ss [] n m within is = absurd (omega (arith, within))
message_at ss (k ∷ ks) zero m within is = ap (λ p. Some (operation_of ss p)) (sym is)
message_at ss (k ∷ ks) (suc n) m within is = message_at ss ks n m (omega arith) is
