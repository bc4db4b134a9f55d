-- Steps one after the other: the state after them, what they write, and how far an answer says that they came.
use Rattle.std.proofs.Common.{◌≡◌, ℕ, List, [], ◌∷◌, ◌++◌, refl, sym, ap, subst, ◌∙◌, append_assoc, append-nil}
use Rattle.std.specs.Prelude.{Result, Ok, Err, OnOk, OnErr}
use Rattle.std.proofs.lemmas.Result.{on_ok_weaker, on_err_weaker}
use Rattle.session_replay.specs.Steps.{Step, last_of, written_by, IsReached}
use Rattle.session_replay.specs.Code.Doing.{IsFront, AreDone}

-- ---- more steps after

pub last_append : {S : Type 0} (s : S) (es fs : List (Step S)) → last_of s (es ++ fs) ≡ last_of (last_of s es) fs
unfolding last_of
last_append s [] fs = refl
last_append s (e ∷ es) fs = last_append e.after es fs

pub written_append : {S : Type 0} (es fs : List (Step S)) → written_by (es ++ fs) ≡ written_by es ++ written_by fs
unfolding written_by
written_append [] fs = refl
written_append (e ∷ es) fs = ap (λ w. e.written ++ w) (written_append es fs) ∙ sym (append_assoc e.written (written_by es) (written_by fs))

-- ---- the first few

pub none_reached : {S : Type 0} (s : S) (es : List (Step S)) → IsReached s es s
unfolding last_of
none_reached s es = record { done = []; left = es; parts = refl; state = refl }

-- the first few of the first part are the first few of all
pub reached_before : {S : Type 0} (s r : S) (es fs : List (Step S)) → IsReached s es r → IsReached s (es ++ fs) r
reached_before s r es fs h = record {
  done = h.done;
  left = h.left ++ fs;
  parts = ap (λ xs. xs ++ fs) h.parts ∙ append_assoc h.done h.left fs;
  state = h.state;
}

-- all of the first part, and the first few of the second
pub reached_after : {S : Type 0} (s r : S) (es fs : List (Step S)) → IsReached (last_of s es) fs r → IsReached s (es ++ fs) r
reached_after s r es fs h = record {
  done = es ++ h.done;
  left = h.left;
  parts = ap (λ xs. es ++ xs) h.parts ∙ sym (append_assoc es h.done h.left);
  state = h.state ∙ sym (last_append s es h.done);
}

again_of : {S : Type 0} (s t r : S) (e : Step S) (es done left : List (Step S)) → e.after ≡ s → e ∷ es ≡ done ++ left → r ≡ last_of s done
    → IsReached t (e ∷ es) r
unfolding last_of
again_of s t r e es [] left same parts state = record { done = e ∷ []; left = es; parts = refl; state = state ∙ sym same }
again_of s t r e es (d ∷ ds) left same parts state = record { done = d ∷ ds; left = left; parts = parts; state = state }

-- steps whose first leaves the state as it was may start from any state
pub reached_again : {S : Type 0} (s t r : S) (e : Step S) (es : List (Step S)) → e.after ≡ s → IsReached s (e ∷ es) r
    → IsReached t (e ∷ es) r
reached_again s t r e es same h = again_of s t r e es h.done h.left same h.parts h.state

reached_same : {S : Type 0} (s t r : S) (es : List (Step S)) → s ≡ t → IsReached s es r → IsReached t es r
reached_same s t r es same h = record { done = h.done; left = h.left; parts = h.parts; state = h.state ∙ ap (λ x. last_of x h.done) same }

-- ---- bytes in front

pub front_same : (old : List ℕ) → IsFront old old
front_same old = record { more = []; parts = sym (append-nil old) }

pub front_on : (old mid new : List ℕ) → IsFront old mid → IsFront mid new → IsFront old new
front_on old mid new h k = record {
  more = h.more ++ k.more;
  parts = k.parts ∙ ap (λ xs. xs ++ k.more) h.parts ∙ append_assoc old h.more k.more;
}

-- bytes were written, and then more, as far as an answer says
pub told_on : {T E : Type 0} (result : Result T E) (first more old mid new : List ℕ) → mid ≡ old ++ first → OnOk result (new ≡ mid ++ more)
    → OnOk result (new ≡ old ++ (first ++ more))
told_on result first more old mid new written = on_ok_weaker result (λ e. e ∙ ap (λ xs. xs ++ more) written ∙ append_assoc old first more)

pub told_short : {T E : Type 0} (result : Result T E) (first old mid new : List ℕ) → mid ≡ old ++ first → OnErr result (IsFront mid new)
    → OnErr result (IsFront old new)
told_short result first old mid new written = on_err_weaker result (front_on old mid new (record { more = first; parts = written }))

-- ---- how far an answer says that steps came

pub on_ok : {T E : Type 0} {X : Type 0} (r : Result T E) → X → OnOk r X
on_ok (Ok t) x = x
on_ok (Err e) x = tt

-- no step was done, out of memory
pub done_nothing : {S : Type 0} (es : List (Step S)) (s now : S) (old new : List ℕ) → now ≡ s → new ≡ old
    → IsReached s es now × IsFront old new
unfolding last_of
done_nothing es s now old new same kept = (
  record { done = []; left = es; parts = refl; state = same },
  record { more = []; parts = kept ∙ sym (append-nil old) },
)

-- the first part wasn't done whole
pub done_short : {S : Type 0} (es fs : List (Step S)) (s now : S) (old new : List ℕ) → IsReached s es now × IsFront old new
    → IsReached s (es ++ fs) now × IsFront old new
done_short es fs s now old new h = (reached_before s now es fs h.0, h.1)

-- the same steps in another form
pub reached_in : {S : Type 0} (es fs : List (Step S)) (s now : S) (old new : List ℕ) → es ≡ fs → IsReached s fs now × IsFront old new
    → IsReached s es now × IsFront old new
reached_in es fs s now old new same h = (subst (λ xs. IsReached s xs now) (sym same) h.0, h.1)

-- ---- on the way through steps

-- these bytes and this state were reached on the way through steps, of which these are left
pub record IsAlong {S : Type 0} (whole : List (Step S)) (first : S) (old : List ℕ) (left : List (Step S)) (now : S) (new : List ℕ) : Type 0
  where
    pub done : List (Step S)
    pub parts : whole ≡ done ++ left
    pub state : now ≡ last_of first done
    pub written : new ≡ old ++ written_by done

pub along_first : {S : Type 0} (whole : List (Step S)) (first : S) (old : List ℕ) → IsAlong whole first old whole first old
unfolding last_of written_by
along_first whole first old = record { done = []; parts = refl; state = refl; written = sym (append-nil old) }

-- the first part of what was left was done
pub along_part : {S : Type 0} (whole : List (Step S)) (first : S) (old : List ℕ) (left es fs : List (Step S)) (now next : S)
    (new more : List ℕ)
    → IsAlong whole first old left now new → left ≡ es ++ fs → next ≡ last_of now es → more ≡ new ++ written_by es
    → IsAlong whole first old fs next more
along_part whole first old left es fs now next new more a split state written = record {
  done = a.done ++ es;
  parts = a.parts ∙ ap (λ xs. a.done ++ xs) split ∙ sym (append_assoc a.done es fs);
  state = state ∙ ap (λ x. last_of x es) a.state ∙ sym (last_append first a.done es);
  written =
      written ∙ ap (λ xs. xs ++ written_by es) a.written ∙ append_assoc old (written_by a.done) (written_by es)
      ∙ ap (λ xs. old ++ xs) (sym (written_append a.done es));
}

-- the same, where what is left is given by the state
pub along_next : {S : Type 0} (whole : List (Step S)) (first : S) (old : List ℕ) (left es : List (Step S)) (rest : S → List (Step S))
    (now next : S) (new more : List ℕ)
    → IsAlong whole first old left now new → left ≡ es ++ rest (last_of now es) → next ≡ last_of now es → more ≡ new ++ written_by es
    → IsAlong whole first old (rest next) next more
along_next whole first old left es rest now next new more a split state written =
    along_part whole first old left es (rest next) now next new more a (split ∙ ap (λ x. es ++ rest x) (sym state)) state written

-- nothing is left
pub along_end : {S : Type 0} (whole : List (Step S)) (first : S) (old : List ℕ) (left : List (Step S)) (now : S) (new : List ℕ)
    → IsAlong whole first old left now new → left ≡ [] → (now ≡ last_of first whole) × (new ≡ old ++ written_by whole)
along_end whole first old left now new a none =
    let all : whole ≡ a.done = a.parts ∙ ap (λ xs. a.done ++ xs) none ∙ append-nil a.done in
    (a.state ∙ ap (last_of first) (sym all), a.written ∙ ap (λ xs. old ++ written_by xs) (sym all))

-- and then the first few of what was left
pub along_short : {S : Type 0} (whole : List (Step S)) (first : S) (old : List ℕ) (left : List (Step S)) (now last : S) (new final : List ℕ)
    → IsAlong whole first old left now new → IsReached now left last × IsFront new final → IsReached first whole last × IsFront old final
along_short whole first old left now last new final a h = (
  subst (λ xs. IsReached first xs last) (sym a.parts)
      (reached_after first last a.done left (reached_same now (last_of first a.done) last left a.state h.0)),
  front_on old new final (record { more = written_by a.done; parts = a.written }) h.1,
)

pub reached_at : {S : Type 0} (s now : S) (es : List (Step S)) → now ≡ last_of s es → IsReached s es now
reached_at s now es at = record { done = es; left = []; parts = sym (append-nil es); state = at }

pub front_at : (old new : List ℕ) → new ≡ old → IsFront old new
front_at old new kept = record { more = []; parts = kept ∙ sym (append-nil old) }

-- ---- what a call hands on out of memory

pub stopped : {T E S : Type 0} (result : Result T E) (e : E) → result ≡ Err e → (es : List (Step S)) (s now : S) (old new : List ℕ)
    → IsReached s es now × IsFront old new → AreDone result es s now old new
stopped (Ok t) e is es s now old new h = absurd (ok-err is)
  where
    ok-err : Ok t ≡ Err e → ⊥
    ok-err p = cc
stopped (Err d) e is es s now old new h = h

-- ---- the same ending in another answer

pub ended_well : {T E U F S : Type 0} (r : Result T E) (q : Result U F) (t : T) (u : U) (es : List (Step S)) (s now : S) (old new : List ℕ)
    → r ≡ Ok t → q ≡ Ok u → AreDone r es s now old new → AreDone q es s now old new
ended_well r q t u es s now old new is also h =
    subst (λ x. AreDone x es s now old new) (sym also) (subst (λ x. AreDone x es s now old new) is h)

pub ended_short : {T E U F S : Type 0} (r : Result T E) (q : Result U F) (e : E) (f : F) (es : List (Step S)) (s now : S) (old new : List ℕ)
    → r ≡ Err e → q ≡ Err f → AreDone r es s now old new → AreDone q es s now old new
ended_short r q e f es s now old new is also h =
    subst (λ x. AreDone x es s now old new) (sym also) (subst (λ x. AreDone x es s now old new) is h)

pub all_done : {T E S : Type 0} (q : Result T E) (u : T) (es : List (Step S)) (s now : S) (old new : List ℕ) → q ≡ Ok u
    → (now ≡ last_of s es) × (new ≡ old ++ written_by es) → AreDone q es s now old new
all_done q u es s now old new is h = subst (λ x. AreDone x es s now old new) (sym is) h

-- ---- one line that is told, and the same steps in another form

pub told_done : {S : Type 0} (s now : S) (w old new : List ℕ) → now ≡ s → new ≡ old ++ w
    → (now ≡ last_of s (record { written = w; after = s } ∷ [])) × (new ≡ old ++ written_by (record { written = w; after = s } ∷ []))
unfolding last_of written_by
told_done s now w old new same written = (same, written ∙ ap (λ xs. old ++ xs) (sym (append-nil w)))

pub well_in : {S : Type 0} (es fs : List (Step S)) (s now : S) (old new : List ℕ) → es ≡ fs
    → (now ≡ last_of s fs) × (new ≡ old ++ written_by fs) → (now ≡ last_of s es) × (new ≡ old ++ written_by es)
well_in es fs s now old new same h = (h.0 ∙ ap (last_of s) (sym same), h.1 ∙ ap (λ xs. old ++ written_by xs) (sym same))
