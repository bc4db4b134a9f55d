-- What a closed context sees stays when the history grows.
use Rattle.std.proofs.Common.{◌≡◌, Bool, false, if◌then◌else◌, List, [], ◌∷◌, ◌++◌, take, drop, filter, slice_get, ap, sym, ◌∙◌, subst, append-nil, inl, inr}
use Rattle.std.proofs.lemmas.Bool.{false_from_ne_true}
use Rattle.std.specs.Prelude.{◌-◌}
use Rattle.context_vector.specs.Contexts.{ContextData, has}
use Rattle.context_diff.specs.Operations.{OpData, member_of}
use Rattle.context_diff.specs.Histories.{IsNext, IsValid}
use Rattle.context_diff.specs.ClosedContexts.{IsClosedContext}
use Rattle.context_diff.specs.Replays.{Cell, replay_of}
use Rattle.context_diff.proofs.CallerLemmas.{closed_on, closed_set, complete, known_on, shifted, valid_parts}
use Rattle.transform_rec.proofs.CallerLemmas.{filter-append}
use Rattle.fixed_replay.proofs.CallerLemmas.{not_both, part_replay}
use Rattle.char_marks.specs.Marks.{KeptData, put_kept}
use Rattle.char_marks.specs.Covered.{seen_in, IsFit, AreFit}
use Rattle.char_marks.specs.Laws.{CoveredCellsStay, FitMarksStayFit}
use Rattle.char_marks.proofs.Keeping.{in_put}

-- the operations of a context
abbrev part : ContextData → List OpData → List OpData
part c h = filter (λ o. has c (member_of o)) h

part_seen : (h : List OpData) (c : ContextData) → IsValid h → IsClosedContext h c → replay_of (part c h) ≡ seen_in h c
part_seen h c v closed = part_replay h v (has c) (closed_set h (complete h v) c closed)

-- an operation that the context hasn't is none of its part
part_on : (h : List OpData) (o : OpData) (c : ContextData) → has c (member_of o) ≡ false → part c (h ++ o ∷ []) ≡ part c h
part_on h o c lacks =
    filter-append (λ p. has c (member_of p)) h (o ∷ [])
    ∙ (ap (λ (b : Bool). part c h ++ (if b then o ∷ [] else [])) lacks ∙ append-nil (part c h))

closed_next : (h : List OpData) (o : OpData) (c : ContextData) → IsNext h o → IsClosedContext h c → IsClosedContext (h ++ o ∷ []) c
closed_next h o c next closed = record {
  ready = λ m e. known_on h (o ∷ []) m (closed.ready m e);
  stray = closed.stray;
  closed = closed_on h o c next.formed next.new closed.ready closed.closed;
}

seen_next : (h : List OpData) (o : OpData) (c : ContextData) → IsValid h → IsValid (h ++ o ∷ []) → IsNext h o → IsClosedContext h c
    → seen_in (h ++ o ∷ []) c ≡ seen_in h c
seen_next h o c v w next closed =
    let lacks : has c (member_of o) ≡ false =
    false_from_ne_true (has c (member_of o)) (λ e. not_both (closed.ready (member_of o) e) next.new) in
    sym (part_seen (h ++ o ∷ []) c w (closed_next h o c next closed)) ∙ (ap replay_of (part_on h o c lacks) ∙ part_seen h c v closed)

-- a closed context stays closed, and sees the same cells
pub seen_on : (h l : List OpData) (c : ContextData) → IsValid (h ++ l) → IsClosedContext h c
    → IsClosedContext (h ++ l) c × (seen_in (h ++ l) c ≡ seen_in h c)
seen_on h [] c v closed =
    let same : h ≡ h ++ [] = sym (append-nil h) in (
      subst (λ (k : List OpData). IsClosedContext k c) same closed,
      ap (λ (k : List OpData). seen_in k c) (append-nil h),
    )
seen_on h (o ∷ os) c v closed =
    let both = valid_parts h (o ∷ os) v in
    let w : IsValid ((h ++ o ∷ []) ++ os) = subst IsValid (sym (shifted h o os)) v in
    let next : IsNext h o = both.1.0 in
    let grown : IsValid (h ++ o ∷ []) = (valid_parts (h ++ o ∷ []) os w).0 in
    let rest = seen_on (h ++ o ∷ []) os c w (closed_next h o c next closed) in (
      subst (λ (k : List OpData). IsClosedContext k c) (shifted h o os) rest.0,
      ap (λ (k : List OpData). seen_in k c) (sym (shifted h o os)) ∙ (rest.1 ∙ seen_next h o c both.0 grown next closed),
    )

pub covered_stays : CoveredCellsStay
covered_stays h l m v closed =
    let r = seen_on h l m.context v closed in
    (r.0, ap (λ (cs : List Cell). take m.len (drop m.place cs)) r.1)

pub fit_on : (h l : List OpData) (k : KeptData) → IsValid (h ++ l) → IsFit h k → IsFit (h ++ l) k
fit_on h l k v fit =
    let r = covered_stays h l k.mark v fit.context in
    record {
      context = r.0;
      first = ap (λ (cs : List Cell). slice_get cs 0) r.1 ∙ fit.first;
      last = ap (λ (cs : List Cell). slice_get cs (k.mark.len - 1)) r.1 ∙ fit.last;
    }

pub fits_stay : FitMarksStayFit
fits_stay h l ks v fit k i = fit_on h l k v (fit k i)

-- a mark that fits is kept among those that do
pub fit_put : (h : List OpData) (k : KeptData) (ks : List KeptData) → AreFit h ks → IsFit h k → AreFit h (put_kept k ks)
fit_put h k ks fits fit x i = elim (in_put k ks x i) [
  | inl is ↦ subst (λ (y : KeptData). IsFit h y) (sym is) fit
  | inr j ↦ fits x j
]
