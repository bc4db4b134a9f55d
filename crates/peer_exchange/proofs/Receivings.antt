-- Operations of a message are taken in one after the other.
use Rattle.std.proofs.Common.{◌≡◌, ℕ, ◌+◌, ◌≤◌, ltb, eqb, true, false, inl, inr, List, [], ◌∷◌, ◌++◌, length, drop, refl, ap, sym}
use Rattle.std.proofs.Common.{subst, ◌∙◌, append_assoc, Result, Ok, Err, arith}
use Rattle.std.specs.Prelude.{Contains, Some, None}
use Rattle.std.proofs.lemmas.Bool.{cases_Bool, false≢true, le-ltb, eqb-true}
use Rattle.std.proofs.lemmas.Nat.{from_be_bytes-to_be_bytes_4}
use Rattle.std.specs.List.{flat_map}
use Rattle.std.proofs.lemmas.List.{length-append, length-drop, drop_at}
use Rattle.std.proofs.lemmas.List.Concat.{flat_map-cons}
use Rattle.context_diff.specs.Operations.{OpData, IsWellFormed}
use Rattle.context_diff.specs.declared.op.Op.{Op}
use Rattle.context_diff.specs.Ops.{data_of}
use Rattle.context_diff.proofs.CallerLemmas.{contains_here, contains_later}
use Rattle.cot_site.specs.States.{State, delivered}
use Rattle.cot_site.specs.Releases.{settled}
use Rattle.wire_codec.specs.declared.version.Version.TheVariants.{Two}
use Rattle.wire_codec.specs.declared.fault.Refused.{Refused}
use Rattle.wire_codec.specs.Spelling.{frame, body_bytes}
use Rattle.wire_codec.specs.Judging.{length_of}
use Rattle.wire_codec.specs.Answers.{HasFrame}
use Rattle.wire_codec.proofs.CallerLemmas.{body_short, body_long, fits_two}
use Rattle.peer_exchange.specs.declared.peer.Peer.{Peer}
use Rattle.peer_exchange.specs.declared.peer.Peer.TheVariants as peer
use Rattle.peer_exchange.specs.Messages.{end_mark, IsThird}
use Rattle.peer_exchange.specs.Taking.{Refusal, all_taken_in, IsBefore, IsOnTheWay, IsRefusedAt}
use Rattle.peer_exchange.specs.Code.Receiving.{no_frame, IsOneUntaken, AreUntaken, IsFirstOf}
use Rattle.peer_exchange.proofs.FirstTaken.{taken_none, same_after_none, taken_first, first_taken, still_refused}

-- what follows is taken in at the state that those before left
pub taken_append : (s at : State) (before os : List OpData) → all_taken_in s before ≡ Ok at
    → all_taken_in s (before ++ os) ≡ all_taken_in at os
taken_append s at [] os e = ap (λ (t : State). all_taken_in t os) (same_after_none s at e)
taken_append s at (o ∷ before) os e =
    let first = first_taken s at o before e in
    taken_first s o (before ++ os) first.0 ∙ taken_append (settled (delivered s o)) at before os first.1

pub refused_is : (s : State) (os : List OpData) (t : State) (why : Refusal) → IsRefusedAt s os t why → all_taken_in s os ≡ Err why
refused_is s os t why r =
    ap (all_taken_in s) r.parts ∙ (taken_append s t r.before (r.op ∷ r.behind) r.taken ∙ still_refused t r.op r.behind why r.refused)

-- so many operations were taken in, and the frames of the others are left
pub record IsTaking (s : State) (bytes left : List ℕ) (now : State) (count : ℕ) : Type 0 where
  pub done : List OpData
  pub others : List OpData
  pub all : IsThird bytes (done ++ others)
  pub behind : IsThird left others
  pub taken : all_taken_in s done ≡ Ok now
  pub counted : count ≡ length done
  pub few : count + length left ≤ length bytes

pub taking_begins : (s : State) (bytes : List ℕ) → (os : List OpData) × IsThird bytes os → IsTaking s bytes bytes s 0
taking_begins s bytes are =
    record { done = []; others = are.0; all = are.1; behind = are.1; taken = taken_none s; counted = refl; few = omega arith }

module _ (s : State) (bytes left : List ℕ) (now : State) (count : ℕ) (p : Op × ℕ) (w : IsTaking s bytes left now count)
    (first : (os : List OpData) → IsThird left os → IsFirstOf left os (Some p)) where
  -- the first operation of those that are left, and the others
  pub record IsNext : Type 0 where
    pub later : List OpData
    pub split : w.others ≡ data_of p.0 ∷ later
    pub size : p.1 ≡ length (frame Two (data_of p.0))

  pub next_of : IsNext
  next_of = go w.others w.behind refl
    where
      go : (os : List OpData) → IsThird left os → w.others ≡ os → IsNext
      go [] are is = absurd (first [] are)
      go (o ∷ os) are is =
          let f = first (o ∷ os) are in
          record {
            later = os;
            split = is ∙ ap (λ (x : OpData). x ∷ os) (sym f.0);
            size = f.1
                ∙ ap (λ (x : OpData). length (frame Two x)) (sym f.0);
          }

  pub next_formed : IsWellFormed (data_of p.0)
  next_formed =
      let n =
      next_of in w.behind.formed (data_of p.0) (subst (λ (os : List OpData). Contains os (data_of p.0)) (sym n.split)
      (contains_here (data_of p.0) n.later))

  pub taking_more : (t : State) → all_taken_in now (data_of p.0 ∷ []) ≡ Ok t → IsTaking s bytes (drop p.1 left) t (count + 1)
  taking_more t e =
      let n = next_of in
      let o = data_of p.0 in
      let shifted : w.done ++ w.others ≡ (w.done ++ o ∷ []) ++ n.later =
      ap (λ (os : List OpData). w.done ++ os) n.split ∙ sym (append_assoc w.done (o ∷ []) n.later) in
      let here : IsThird left (o ∷ n.later) = subst (IsThird left) n.split w.behind in
      let text : left ≡ frame Two o ++ (flat_map (frame Two) n.later ++ end_mark) =
      here.parts ∙ (ap (λ (xs : List ℕ). xs ++ end_mark) (flat_map-cons (frame Two) o n.later)
      ∙ append_assoc (frame Two o) (flat_map (frame Two) n.later) end_mark) in
      let counted = w.counted in
      record {
        done = w.done ++ o ∷ [];
        others = n.later;
        all = subst (IsThird bytes) shifted w.all;
        behind = record {
          formed = λ q at. here.formed q (contains_later o n.later q at);
          parts = ap (drop p.1) text ∙ drop_at (frame Two o) (flat_map (frame Two) n.later ++ end_mark) p.1 (sym n.size);
        };
        taken = taken_append s now w.done (o ∷ []) w.taken ∙ e;
        counted = omega (arith, counted, length-append w.done (o ∷ []));
        few = (
            let few = w.few in
            let size = n.size in
            let total : length left ≡ length (frame Two o) + length (flat_map (frame Two) n.later ++ end_mark) =
            ap length text ∙ length-append (frame Two o) (flat_map (frame Two) n.later ++ end_mark) in
            omega (arith, few, size, total, length-drop p.1 left)
            );
      }

  pub taking_stops : (t : State) (why : Peer) → IsOneUntaken now (data_of p.0) t why
      → (os : List OpData) × IsThird bytes os × AreUntaken s os t why
  taking_stops t why u = (w.done ++ w.others, w.all, stopped why u)
    where
      stopped : (y : Peer) → IsOneUntaken now (data_of p.0) t y → AreUntaken s (w.done ++ w.others) t y
      stopped (peer.Bytes offset cause) never = absurd never
      stopped (peer.Op member verdict) is =
          let n = next_of in
          record {
            before = w.done;
            op = data_of p.0;
            behind = n.later;
            parts = ap (λ (os : List OpData). w.done ++ os) n.split;
            taken = w.taken ∙ ap (λ (x : State). Ok x) (sym is.0);
            refused = ap (λ (x : State). all_taken_in x (data_of p.0 ∷ [])) is.0 ∙ is.1;
          }
      stopped peer.Memory is =
          let n = next_of in
          record {
            before = w.done;
            behind = data_of p.0 ∷ n.later;
            parts = ap (λ (os : List OpData). w.done ++ os) n.split;
            at = now;
            taken = w.taken;
            reached = is;
          }

-- where none of these operations is taken in yet
pub none_taken : (s : State) (os : List OpData) → IsBefore s os s
none_taken s [] = refl
none_taken s (o ∷ os) = inl refl

pub none_on_the_way : (s : State) (os : List OpData) → IsOnTheWay s os s
none_on_the_way s os = record { before = []; behind = os; parts = refl; at = s; taken = taken_none s; reached = none_taken s os }

-- ---- the first frame

-- where frames are, the first one is of an operation
pub record IsThere (bytes : List ℕ) (os : List OpData) : Type 0 where
  pub op : OpData
  pub later : List OpData
  pub split : os ≡ op ∷ later
  pub formed : IsWellFormed op
  pub parts : bytes ≡ frame Two op ++ (flat_map (frame Two) later ++ end_mark)

pub first_frame : (bytes : List ℕ) (o : OpData) (os : List OpData) → IsThird bytes (o ∷ os)
    → bytes ≡ frame Two o ++ (flat_map (frame Two) os ++ end_mark)
first_frame bytes o os are =
    are.parts ∙ (ap (λ (xs : List ℕ). xs ++ end_mark) (flat_map-cons (frame Two) o os)
    ∙ append_assoc (frame Two o) (flat_map (frame Two) os) end_mark)

pub frame_says : (bytes : List ℕ) (o : OpData) (os : List OpData) → IsThird bytes (o ∷ os) → no_frame bytes ≡ false
frame_says bytes o os are =
    let well = are.formed o (contains_here o os) in
    let short = body_short Two o well.in_range (fits_two o well) in
    let long = body_long Two o in
    let n = length (body_bytes Two o) in
    let text = first_frame bytes o os are in
    let behind = flat_map (frame Two) os ++ end_mark in
    let size : length_of bytes ≡ n = ap length_of text ∙ from_be_bytes-to_be_bytes_4 n (omega (arith, short)) in
    let total : length bytes ≡ 4 + (n + length behind) = ap length text ∙ omega (arith, length-append (body_bytes Two o) behind) in
    let enough : ltb (length bytes) 4 ≡ false = le-ltb _ _ (omega (arith, total)) in
    elim (cases_Bool (eqb (length_of bytes) 0)) [
      | inl ended ↦ absurd (let zero_is = eqb-true _ _ ended in omega (arith, zero_is, size, long))
      | inr more ↦ rw (enough, more) refl
    ]

pub none_at_end : (bytes : List ℕ) (os : List OpData) → no_frame bytes ≡ true → IsThird bytes os → IsFirstOf bytes os None
none_at_end bytes [] e are = tt
none_at_end bytes (o ∷ os) e are = absurd (false≢true (sym (frame_says bytes o os are) ∙ e))

pub frame_there : (bytes : List ℕ) (os : List OpData) → no_frame bytes ≡ false → IsThird bytes os → IsThere bytes os
frame_there bytes [] e are = absurd (false≢true (sym e ∙ ap no_frame are.parts))
frame_there bytes (o ∷ os) e are =
    record { op = o; later = os; split = refl; formed = are.formed o (contains_here o os); parts = first_frame bytes o os are }

-- what is decoded there is that operation
pub decoded_first : (bytes : List ℕ) (op : Op) (used : ℕ) → no_frame bytes ≡ false
    → ((o : OpData) (rest : List ℕ) → IsWellFormed o → bytes ≡ frame Two o ++ rest
    → ◌≡◌ {A = Result (OpData × ℕ) Refused} (Ok (data_of op, used)) (Ok (o, length (frame Two o))))
    → (os : List OpData) → IsThird bytes os → IsFirstOf bytes os (Some (op, used))
decoded_first bytes op used e only os are =
    let t = frame_there bytes os e are in
    let is = only t.op (flat_map (frame Two) t.later ++ end_mark) t.formed t.parts in
    let both : ◌≡◌ {A = OpData × ℕ} (data_of op, used) (t.op, length (frame Two t.op)) = cc in
    subst (λ (xs : List OpData). IsFirstOf bytes xs (Some (op, used))) (sym t.split)
    (ap (λ (x : OpData × ℕ). x.0) both, ap (λ (x : OpData × ℕ). x.1) both)

-- an answer without an operation never comes there
pub decoded_never : (bytes : List ℕ) (r : Refused) → no_frame bytes ≡ false
    → ((o : OpData) (rest : List ℕ) → IsWellFormed o → bytes ≡ frame Two o ++ rest
    → ◌≡◌ {A = Result (OpData × ℕ) Refused} (Err r) (Ok (o, length (frame Two o))))
    → (os : List OpData) → IsThird bytes os → ⊥
decoded_never bytes r e only os are =
    let t = frame_there bytes os e are in
    let is = only t.op (flat_map (frame Two) t.later ++ end_mark) t.formed t.parts in
    cc

-- ---- a message with an operation begins with a frame

begins_with : (bytes : List ℕ) (o : OpData) (os : List OpData) → IsThird bytes (o ∷ os) → HasFrame Two bytes
begins_with bytes o os are =
    let well = are.formed o (contains_here o os) in
    let behind = flat_map (frame Two) os ++ end_mark in
    let n = length (frame Two o) in
    let text = first_frame bytes o os are in
    let rest : drop n bytes ≡ behind = ap (drop n) text ∙ drop_at (frame Two o) behind n refl in (
      n,
      record {
        op = o;
        is = record {
          well = well;
          fits = fits_two o well;
          size = refl;
          parts = text
              ∙ ap (λ (xs : List ℕ). frame Two o ++ xs) (sym rest);
        };
      },
    )

has_frame : (bytes : List ℕ) (done : List OpData) (o : OpData) (behind : List OpData) → IsThird bytes (done ++ o ∷ behind)
    → HasFrame Two bytes
has_frame bytes [] o behind are = begins_with bytes o behind are
has_frame bytes (p ∷ done) o behind are = begins_with bytes p (done ++ o ∷ behind) are

-- a frame is left
pub frame_left : (s : State) (bytes left : List ℕ) (now : State) (count : ℕ) → IsTaking s bytes left now count → no_frame left ≡ false
    → HasFrame Two bytes
frame_left s bytes left now count w e =
    let t = frame_there left w.others e w.behind in
    has_frame bytes w.done t.op t.later (subst (λ (os : List OpData). IsThird bytes (w.done ++ os)) t.split w.all)

-- out of memory before the next operation was there
pub taking_fails : (s : State) (bytes left : List ℕ) (now : State) (count : ℕ) → IsTaking s bytes left now count
    → (os : List OpData) × IsThird bytes os × AreUntaken s os now peer.Memory
taking_fails s bytes left now count w = (
  w.done ++ w.others,
  w.all,
  record {
    before = w.done;
    behind = w.others;
    parts = refl;
    at = now;
    taken = w.taken;
    reached = none_taken
        now w.others;
  },
)

pub next_left : (s : State) (bytes left : List ℕ) (now : State) (count : ℕ) (p : Op × ℕ) → IsTaking s bytes left now count
    → ((os : List OpData) → IsThird left os → IsFirstOf left os (Some p)) → HasFrame Two bytes
next_left s bytes left now count p w first =
    let n = next_of s bytes left now count p w first in
    has_frame bytes w.done (data_of p.0) n.later (subst (λ (os : List OpData). IsThird bytes (w.done ++ os)) n.split w.all)
