-- A site takes in what it lacks of a history that agrees with all that it has and holds, also where operations wait.
use Rattle.std.proofs.Common.{◌≡◌, Bool, true, false, inl, inr, List, [], ◌∷◌, ◌++◌, length, drop, Ok, refl, ap, sym, subst, ◌∙◌}
use Rattle.std.proofs.Common.{append-nil}
use Rattle.std.specs.Prelude.{Contains}
use Rattle.std.proofs.lemmas.Bool.{cases_Bool, false≢true, or_cases}
use Rattle.std.proofs.lemmas.List.{take-append-drop}
use Rattle.std.proofs.lemmas.List.Elements.{Contains-append_left, Contains-append_right}
use Rattle.op_name.specs.declared.member.Member.{Member}
use Rattle.op_name.specs.declared.member.Member.TheVariants.{Original}
use Rattle.op_name.specs.NameData.{NameData}
use Rattle.op_name.specs.Members.{member_eq}
use Rattle.context_diff.specs.Operations.{OpData, inserting, deleting, undoing, member_of}
use Rattle.context_diff.specs.Histories.{is_known, IsNext, IsValid, Agree}
use Rattle.context_diff.proofs.CallerLemmas.{by_pushes, complete, contains_cases, contains_here, contains_later, contains_none, holder}
use Rattle.context_diff.proofs.CallerLemmas.{known_member, known_on, known_push, member_same, next_elsewhere}
use Rattle.site_answers.specs.declared.verdict.Verdict.{Verdict}
use Rattle.site_answers.specs.declared.verdict.Verdict.TheVariants.{Repeat, Integrated}
use Rattle.cot_site.specs.Verdicts.{IsRepeat, HasOther}
use Rattle.cot_site.specs.States.{State, judged, delivered, after_verdict}
use Rattle.cot_site.specs.Releases.{IsSound, IsLater, settled}
use Rattle.cot_site.proofs.CallerLemmas.{group_reached, next_integrated, verdicts_exact}
use Rattle.participant.specs.Taking.{is_had}
use Rattle.peer_exchange.specs.Joins.{unseen}
use Rattle.peer_exchange.specs.Taking.{all_taken_in, LackedOperationsAreTaken}
use Rattle.peer_exchange.proofs.Unseen.{unseen_contains, unseen_old, unseen_new}
use Rattle.peer_exchange.proofs.FirstTaken.{taken_none, taken_first}
use Rattle.peer_exchange.proofs.Receivings.{taken_append}
use Rattle.peer_exchange.proofs.Later.{later_settled, settled_later, taking_in_keeps_histories}
use Rattle.peer_exchange.proofs.Origins.{comes_taken, waited_before}

-- a later site has what the site had
pub known_later : (s t : State) → IsLater s t → (m : Member) → is_known s.history m ≡ true → is_known t.history m ≡ true
known_later s t later m known =
    let parts : s.history ++ drop (length s.history) t.history ≡ t.history =
    ap (λ (xs : List OpData). xs ++ drop (length s.history) t.history) (sym later.history)
    ∙ take-append-drop (length s.history) t.history in
    ap (λ (h : List OpData). is_known h m) (sym parts) ∙ known_on s.history (drop (length s.history) t.history) m known

pub has_later : (s t : State) → IsLater s t → (x : OpData) → Contains s.history x → Contains t.history x
has_later s t later x at =
    let parts : s.history ++ drop (length s.history) t.history ≡ t.history =
    ap (λ (xs : List OpData). xs ++ drop (length s.history) t.history) (sym later.history)
    ∙ take-append-drop (length s.history) t.history in
    subst (λ (h : List OpData). Contains h x) parts (Contains-append_left s.history (drop (length s.history) t.history) x at)

pub is_unseen : (k : Member → Bool) (os : List OpData) (o : OpData) → Contains os o → k (member_of o) ≡ false → Contains (unseen k os) o
is_unseen k [] o at new = absurd (contains_none o at)
is_unseen k (p ∷ ps) o at new =
    elim (contains_cases p ps o at) [
      | inl same ↦
          let first : k (member_of p) ≡ false = ap (λ (x : OpData). k (member_of x)) same ∙ new in
          rw first (subst (λ (x : OpData). Contains (p ∷ unseen k ps) x) same (contains_here p (unseen k ps)))
      | inr later ↦ elim (cases_Bool (k (member_of p))) [
        | inl seen ↦ rw seen (is_unseen k ps o later new)
        | inr fresh ↦ rw fresh (contains_later p (unseen k ps) o (is_unseen k ps o later new))
      ]
    ]

-- an operation that the history has, under agreement on its name, is a repeat
repeats : (h : List OpData) (o : OpData) → IsValid h → is_known h (member_of o) ≡ true
    → ((x : OpData) (n : NameData) → Contains h x → member_of x ≡ Original n → member_of o ≡ Original n → x ≡ o) → IsRepeat h o
repeats h (inserting n p text c) v known same =
    let held = holder h (Original n) known in
    subst (λ (x : OpData). Contains h x) (same held.op n held.there held.is refl) held.there
repeats h (deleting n p c) v known same =
    let held = holder h (Original n) known in
    subst (λ (x : OpData). Contains h x) (same held.op n held.there held.is refl) held.there
repeats h (undoing a t g c) v known same = group_reached h v t g known

-- the operations of the history but those of some members that the site has
module _ (s : State) (p : List OpData) (k : Member → Bool) (sound : IsSound s) (w : IsValid p)
    (less : (m : Member) → k m ≡ true → is_known s.history m ≡ true) (agree : Agree s.history p) (held : Agree s.waiting (unseen k p)) where
  -- those among the first operations are taken in, and then the site has all of these
  record Took (q : List OpData) : Type 0 where
    t : State
    taken : all_taken_in s (unseen k q) ≡ Ok t
    knows : (m : Member) → is_known q m ≡ true → is_known t.history m ≡ true

  module _ (q : List OpData) (v : IsValid q) (within : (x : OpData) → Contains q x → Contains p x) (took : Took q) where
    later : IsSound took.t × IsLater s took.t
    later =
        taking_in_keeps_histories s took.t (unseen k q) sound
        (λ o at. (complete q v).formed o (unseen_contains k q o at)) took.taken

    -- an operation of this name in the history that is lacking at the site is the one of the other history
    one_new : (x y : OpData) (n : NameData) → Contains took.t.history x → Contains p y → member_of x ≡ Original n
        → member_of y ≡ Original n → k (member_of y) ≡ false
        → (Contains q x → x ≡ y) → x ≡ y
    one_new x y n at bt is js new in_q =
        elim ((comes_taken s took.t (unseen k q) took.taken).history x at) [
          | inl old ↦ agree x y n old bt is js
          | inr (inl waited) ↦ held x y n waited (is_unseen k p y bt new) is js
          | inr (inr came) ↦ in_q (unseen_contains k q x came)
        ]

    agrees_known : (x y : OpData) (n : NameData) → Contains took.t.history x → Contains p y → member_of x ≡ Original n
        → member_of y ≡ Original n → is_known s.history (member_of y) ≡ true → x ≡ y
    agrees_known x y n at bt is js known =
        let z = holder s.history (member_of y) known in
        let first : x ≡ z.op =
        (complete took.t.history later.0.history).one x z.op at (has_later s took.t later.1 z.op z.there) (is ∙ sym (z.is ∙ js)) in
        first ∙ agree z.op y n z.there bt (z.is ∙ js) js

    agrees : Agree took.t.history q
    agrees x y n at bt is js =
        elim (cases_Bool (k (member_of y))) [
          | inl known ↦ agrees_known x y n at (within y bt) is js (less (member_of y) known)
          | inr new ↦ one_new x y n at (within y bt) is js new (λ ct. (complete q v).one x y ct bt (is ∙ sym js))
        ]

    module _ (o : OpData) (next : IsNext q o) (is_in : Contains p o) (new : k (member_of o) ≡ false) where
      -- none of these operations has the member
      none_in : (x : OpData) (n : NameData) → Contains q x → member_of x ≡ Original n → member_of o ≡ Original n → ⊥
      none_in x n at is js = false≢true (sym next.new ∙ (ap (is_known q) (js ∙ sym is) ∙ known_member q x at))

      repeated : is_known took.t.history (member_of o) ≡ true → judged took.t o ≡ Repeat
      repeated known =
          sym ((verdicts_exact took.t.history took.t.waiting o Repeat later.0.history next.formed).0
          (repeats took.t.history o later.0.history known (λ x n at is js. one_new x o n at is_in is js new
          (λ ct. absurd (none_in x n ct is js)))))

      alone : (n : NameData) → member_of o ≡ Original n → HasOther took.t.waiting o n → ⊥
      alone n js other =
          let waited = waited_before s took.t (unseen k q) took.taken other.other other.there in
          other.differs (held other.other o n waited (is_unseen k p o is_in new) other.same_name js)

      integrated : is_known took.t.history (member_of o) ≡ false → judged took.t o ≡ Integrated
      integrated fresh =
          let there = next_elsewhere took.t.history q o later.0.history v agrees (λ m e. took.knows m (next.ready m e)) fresh next in
          next_integrated took.t.history took.t.waiting o later.0.history next.formed there alone

      had : is_had (judged took.t o) ≡ true
      had =
          elim (cases_Bool (is_known took.t.history (member_of o))) [
            | inl known ↦ ap is_had (repeated known)
            | inr fresh ↦ ap is_had
                (integrated fresh)
          ]

      known_then : is_known (delivered took.t o).history (member_of o) ≡ true
      known_then = elim (cases_Bool (is_known took.t.history (member_of o))) [
        | inl known ↦
            let same : delivered took.t o ≡ took.t = ap (λ (x : Verdict). after_verdict x o took.t) (repeated known) in
            ap (λ (x : State). is_known x.history (member_of o)) same ∙ known
        | inr fresh ↦
            let more : (delivered took.t o).history ≡ took.t.history ++ o ∷ [] =
            ap (λ (x : Verdict). (after_verdict x o took.t).history) (integrated fresh) in
            known_member (delivered took.t o).history o (subst (λ (h : List OpData). Contains h o) (sym more)
            (Contains-append_right took.t.history (o ∷ []) o (contains_here o [])))
      ]

      took_new : Took (q ++ o ∷ [])
      took_new = record {
        t = settled (delivered took.t o);
        taken = ap (all_taken_in s) (unseen_new k q o new)
            ∙ (taken_append s took.t (unseen k q) (o ∷ []) took.taken
            ∙ (taken_first took.t o [] had ∙ taken_none (settled (delivered took.t o))));
        knows = λ m e. elim (or_cases (is_known q m) (member_eq (member_of o) m) (sym (known_push q o m) ∙ e)) [
          | inl old ↦ known_later took.t (settled (delivered took.t o)) (later_settled took.t o later.0 next.formed).1 m (took.knows m old)
          | inr same ↦ ap (is_known (settled (delivered took.t o)).history) (sym (member_same (member_of o) m same)) ∙ known_at_end
        ];
      }
        where
          known_at_end : is_known (settled (delivered took.t o)).history (member_of o) ≡ true
          known_at_end =
              known_later (delivered took.t o) (settled (delivered took.t o)) (settled_later took.t o later.0 next.formed) (member_of o)
              known_then

    took_old : (o : OpData) → k (member_of o) ≡ true → Took (q ++ o ∷ [])
    took_old o known = record {
      t = took.t;
      taken = ap (all_taken_in s) (unseen_old k q o known ∙ append-nil (unseen k q)) ∙ took.taken;
      knows = λ m e. elim (or_cases (is_known q m) (member_eq (member_of o) m) (sym (known_push q o m) ∙ e)) [
        | inl old ↦ took.knows m old
        | inr same ↦ ap (is_known took.t.history) (sym (member_same (member_of o) m same))
            ∙ known_later s took.t later.1 (member_of o) (less (member_of o) known)
      ];
    }

  took_all : Took p
  took_all =
      by_pushes (λ q. ((x : OpData) → Contains q x → Contains p x) → Took q)
      (λ within. record { t = s; taken = taken_none s; knows = λ m e. absurd (false≢true e) })
      (λ q o v was next within.
      let front : (x : OpData) → Contains q x → Contains p x = λ x at. within x (Contains-append_left q (o ∷ []) x at) in
      let took = was front in
      elim (cases_Bool (k (member_of o))) [
        | inl known ↦ took_old q v front took o known
        | inr new ↦ took_new q v front took o next (within o (Contains-append_right q (o ∷ []) o (contains_here o []))) new
      ]) p w (λ x at. at)

pub taken_but_known : (s : State) (p : List OpData) (k : Member → Bool) → IsSound s → IsValid p
    → ((m : Member) → k m ≡ true → is_known s.history m ≡ true) → Agree s.history p → Agree s.waiting (unseen k p)
    → (t : State) × (all_taken_in s (unseen k p) ≡ Ok t)
taken_but_known s p k sound w less agree held =
    let took = took_all s p k sound w less agree held in
    (took.t, took.taken)

pub lacked_operations_are_taken : LackedOperationsAreTaken
lacked_operations_are_taken s p sound w agree held = taken_but_known s p (is_known s.history) sound w (λ m known. known) agree held
