-- The log of a settled site is loaded as the same history and the same waiting operations.
use Rattle.std.proofs.Common.{◌≡◌, ◌≢◌, ℕ, false, ◌⊎◌, inl, inr, List, [], ◌∷◌, ◌++◌, refl, ap, sym, subst, ◌∙◌, append-nil, map}
use Rattle.std.specs.Prelude.{Option, Some, None, Contains}
use Rattle.std.specs.List.{list_any}
use Rattle.std.specs.Option.{is_none}
use Rattle.std.proofs.lemmas.Bool.{true≢false, cond-false, false_from_ne_true, or_left, or_right}
use Rattle.std.proofs.lemmas.Grind.{flat_map-append}
use Rattle.std.proofs.lemmas.List.Elements.{Contains-append_left, Contains-append_right}
use Rattle.op_name.specs.declared.member.Member.{Member}
use Rattle.op_name.specs.declared.member.Member.TheVariants.{Original}
use Rattle.op_name.specs.NameData.{NameData}
use Rattle.context_diff.specs.Operations.{OpData, member_of, context_of}
use Rattle.context_diff.specs.Histories.{is_known, IsNext, IsValid}
use Rattle.context_diff.specs.Ops.{op_eq}
use Rattle.context_diff.proofs.CallerLemmas.{by_pushes, complete, contains_cases, contains_here, contains_none, known_member, shifted}
use Rattle.causal_gate.specs.Waiting.{AllDifferFrom, AreApart}
use Rattle.causal_gate.proofs.CallerLemmas.{named_once}
use Rattle.wire_codec.specs.declared.version.Version.TheVariants.{Two}
use Rattle.wire_codec.specs.Spelling.{frame}
use Rattle.wire_codec.proofs.CallerLemmas.{fits_two}
use Rattle.site_answers.specs.declared.verdict.Verdict.{Verdict}
use Rattle.site_answers.specs.declared.verdict.Verdict.TheVariants.{Waits, Integrated}
use Rattle.cot_site.specs.Verdicts.{HasOther, IsNew, lacked, verdict_of}
use Rattle.cot_site.specs.States.{State, held, after_verdict, judged, delivered, is_ready, IsSettled}
use Rattle.cot_site.specs.Sites.{AllFormed}
use Rattle.cot_site.specs.Releases.{IsSound, release_of}
use Rattle.cot_site.proofs.CallerLemmas.{formed_context, unknown_no_repeat, next_integrated, verdict_only, first_lacked_is, same_any, settled_none, settled_has_none, settled_stays}
use Rattle.participant.specs.Reached.{Reached, from, all_settled}
use Rattle.participant.specs.Taking.{is_refusal}
use Rattle.session_log.specs.Logs.{header, frames, log_of, IsLogOf}
use Rattle.session_log.specs.Loadings.{led_to, after_all, AreTakenIn, new_state, IsLoaded}
use Rattle.session_log.proofs.Frames.{formed_append}
use Rattle.session_log.proofs.TakingIn.{led_unrefused, first_released, after-append, taken-append}

-- these operations are taken in, and lead from the one state to the other
abbrev Leads : State → List OpData → State → Type 0
Leads s os t = AreTakenIn s os × (after_all s os ≡ t)

-- an operation whose verdict is no refusal and leads to a settled state
leads_one : (s t : State) (o : OpData) (v : Verdict) → judged s o ≡ v → is_refusal v ≡ false → after_verdict v o s ≡ t → IsSettled t
    → Leads s (o ∷ []) t
leads_one s t o v is no_refusal after settles =
    let fine : is_refusal (judged s o) ≡ false = ap is_refusal is ∙ no_refusal in
    let there : delivered s o ≡ t = ap (λ (w : Verdict). after_verdict w o s) is ∙ after in
    let led : led_to s o ≡ all_settled (from t) = led_unrefused s o fine ∙ ap (λ (x : State). all_settled (from x)) there in
    let none : [] ≡ (led_to s o).released =
    ap (map release_of) (sym (settled_has_none t settles)) ∙ ap (λ (r : Reached). r.released) (sym led) in (
      (first_released s o [] fine none, tt),
      ap (λ (r : Reached). r.state) led ∙ settled_stays t settles,
    )

leads_on : (s t u : State) (fs bs : List OpData) → Leads s fs t → Leads t bs u → Leads s (fs ++ bs) u
leads_on s t u fs bs (first, to_t) (rest, to_u) = (
  taken-append s fs bs first (subst (λ (x : State). AreTakenIn x bs) (sym to_t) rest),
  after-append s fs bs ∙ ap (λ (x : State). after_all x bs) to_t ∙ to_u,
)

-- ---- the history

-- a state in which nothing waits
abbrev alone : ℕ → List OpData → State
alone k h = record { number = k; history = h; waiting = [] }

next_led : (k : ℕ) (h : List OpData) (o : OpData) → IsValid h → IsNext h o → Leads (alone k h) (o ∷ []) (alone k (h ++ o ∷ []))
next_led k h o valid next =
    let is : verdict_of h [] o ≡ Integrated =
    next_integrated h [] o valid next.formed next (λ n name other. contains_none other.other other.there) in
    leads_one (alone k h) (alone k (h ++ o ∷ [])) o Integrated is refl refl refl

history_led : (k : ℕ) (h : List OpData) → IsValid h → Leads (new_state k) h (alone k h)
history_led k h valid = by_pushes (λ (g : List OpData). Leads (new_state k) g (alone k g)) (tt, refl) step h valid
  where
    step : (g : List OpData) (o : OpData) → IsValid g → Leads (new_state k) g (alone k g) → IsNext g o
        → Leads (new_state k) (g ++ o ∷ []) (alone k (g ++ o ∷ []))
    step g o v led next = leads_on (new_state k) (alone k g) (alone k (g ++ o ∷ [])) g (o ∷ []) led (next_led k g o v next)

-- ---- what waits

differs_in : (x : OpData) (ys : List OpData) (y : OpData) → AllDifferFrom x ys → Contains ys y → y ≢ x
differs_in x [] y all c = absurd (contains_none y c)
differs_in x (z ∷ zs) y all c =
    elim (contains_cases z zs y c) [
      | inl same ↦ subst (λ (w : OpData). w ≢ x) same all.0
      | inr later ↦ differs_in x zs y all.2 later
    ]

in_back : (fs : List OpData) (o : OpData) (bs : List OpData) → Contains (fs ++ o ∷ bs) o
in_back fs o bs = Contains-append_right fs (o ∷ bs) o (contains_here o bs)

apart_new : (fs : List OpData) (o : OpData) (bs : List OpData) → AreApart (fs ++ o ∷ bs) → ¬ Contains fs o
apart_new [] o bs apart c = contains_none o c
apart_new (a ∷ fs) o bs apart c =
    elim (contains_cases a fs o c) [
      | inl same ↦ differs_in a (fs ++ o ∷ bs) o apart.0 (in_back fs o bs) (sym same)
      | inr later ↦ apart_new fs o bs apart.1 later
    ]

-- nothing of the list is ready after the history
abbrev NoneReady : List OpData → List OpData → Type 0
NoneReady h w = (o : OpData) → Contains w o → is_ready h o ≡ false

-- a list of operations of which none is ready, well formed and apart
record CanWait (h w : List OpData) : Type 0 where
  pub unready : NoneReady h w
  pub formed : AllFormed w
  pub apart : AreApart w

some_lacked : (r : Option Member) → is_none r ≡ false → (m : Member) × (r ≡ Some m)
some_lacked None e = absurd (true≢false e)
some_lacked (Some m) e = (m, refl)

not_known : (h : List OpData) (o : OpData) → is_ready h o ≡ false → is_known h (member_of o) ≡ false
not_known h o e =
    false_from_ne_true (is_known h (member_of o))
    (λ known. true≢false (sym (or_left (is_known h (member_of o)) (is_none (lacked h (context_of o))) known) ∙ e))

not_none : (h : List OpData) (o : OpData) → is_ready h o ≡ false → is_none (lacked h (context_of o)) ≡ false
not_none h o e =
    false_from_ne_true (is_none (lacked h (context_of o)))
    (λ none. true≢false (sym (or_right (is_known h (member_of o)) (is_none (lacked h (context_of o))) none) ∙ e))

-- the verdict on one of them, while those before it wait
waits_next : (h fs : List OpData) (o : OpData) (bs : List OpData) → IsValid h → CanWait h (fs ++ o ∷ bs)
    → (m : Member) × (verdict_of h fs o ≡ Waits m)
waits_next h fs o bs valid w =
    let here = in_back fs o bs in
    let formed = w.formed o here in
    let unready = w.unready o here in
    let unknown = not_known h o unready in
    let some = some_lacked (lacked h (context_of o)) (not_none h o unready) in
    let first = first_lacked_is h (complete h valid) (context_of o) some.0 (formed_context o formed) some.1 in
    let new : IsNew h fs o = record {
      no_repeat = unknown_no_repeat h valid o formed unknown;
      no_forgery = λ n forgery. no_other unknown n forgery.name forgery.known;
    } in
    (some.0, sym (verdict_only h fs valid o formed (Waits some.0) (new, first)))
  where
    no_other : is_known h (member_of o) ≡ false → (n : NameData) → member_of o ≡ Original n → HasOther h o n ⊎ HasOther fs o n → ⊥
    no_other unknown n name (inl other) =
        true≢false (sym (known_member h other.other other.there) ∙ (ap (is_known h) (other.same_name ∙ sym name) ∙ unknown))
    no_other unknown n name (inr other) =
        other.differs (named_once (fs ++ o ∷ bs) w.apart other.other o n (Contains-append_left fs (o ∷ bs) other.other other.there)
        (in_back fs o bs) other.same_name name)

abbrev with_waiting : ℕ → List OpData → List OpData → State
with_waiting k h w = record { number = k; history = h; waiting = w }

waiting_settles : (k : ℕ) (h w : List OpData) → NoneReady h w → IsSettled (with_waiting k h w)
waiting_settles k h w none = (settled_none (with_waiting k h w)).1 none

waiting_led : (k : ℕ) (h fs bs : List OpData) → IsValid h → CanWait h (fs ++ bs)
    → Leads (with_waiting k h fs) bs (with_waiting k h (fs ++ bs))
waiting_led k h fs [] valid w = (tt, ap (with_waiting k h) (sym (append-nil fs)))
waiting_led k h fs (o ∷ bs) valid w =
    let v = waits_next h fs o bs valid w in
    let new : list_any (op_eq o) fs ≡ false =
    false_from_ne_true (list_any (op_eq o) fs) (λ e. apart_new fs o bs w.apart ((same_any o fs).0 e)) in
    let now : held fs o ≡ fs ++ o ∷ [] = cond-false _ _ _ new in
    let same = shifted fs o bs in
    let more : CanWait h ((fs ++ o ∷ []) ++ bs) = subst (CanWait h) (sym same) w in
    let settles = waiting_settles k h (fs ++ o ∷ []) (λ x c. more.unready x (Contains-append_left (fs ++ o ∷ []) bs x c)) in
    let one =
    leads_one (with_waiting k h fs) (with_waiting k h (fs ++ o ∷ [])) o (Waits v.0) v.1 refl (ap (with_waiting k h) now) settles in
    let rest = waiting_led k h (fs ++ o ∷ []) bs valid more in
    let all =
    leads_on (with_waiting k h fs) (with_waiting k h (fs ++ o ∷ [])) (with_waiting k h ((fs ++ o ∷ []) ++ bs)) (o ∷ []) bs one rest in
    subst (λ (x : List OpData). Leads (with_waiting k h fs) (o ∷ bs) (with_waiting k h x)) same all

-- ---- both

pub written_log : (h w : List OpData) → AllFormed h → AllFormed w → IsLogOf (log_of h w) (h ++ w)
written_log h w fh fw =
    let formed = formed_append h w fh fw in
    record {
      version = Two;
      begins = record {
        formed = formed;
        fits = λ o there. fits_two o (formed o there);
        parts =
            ap (λ (t : List ℕ). header Two ++ t) (sym (append-nil (frames Two (h ++ w)) ∙ flat_map-append (frame Two) h w));
      };
    }

pub came_back : (s : State) (k : ℕ) → IsSound s → IsSettled s → AreApart s.waiting
    → IsLoaded k (log_of s.history s.waiting) (with_waiting k s.history s.waiting)
came_back s k sound settles apart =
    let can : CanWait s.history s.waiting = record { unready = (settled_none s).0 settles; formed = sound.waiting; apart = apart } in
    let led =
    leads_on (new_state k) (alone k s.history) (with_waiting k s.history s.waiting) s.history s.waiting
    (history_led k s.history sound.history) (waiting_led k s.history [] s.waiting sound.history can) in
    record {
      ops = s.history ++ s.waiting;
      log = written_log s.history s.waiting (complete s.history sound.history).formed sound.waiting;
      taken = led.0;
      state = sym led.1;
    }
