-- Steps at one site as steps of the session.
use Rattle.std.proofs.Common.{◌≡◌, ℕ, zero, suc, ◌<◌, List, [], ◌∷◌, ◌++◌, refl, sym, ap, subst, ◌∙◌, length, map, set, arith}
use Rattle.std.specs.Prelude.{Bool, Result, Ok, Err, slice_index_or}
use Rattle.std.proofs.lemmas.List.{map-append, map-set, length-map, set-get_or}
use Rattle.context_diff.specs.Operations.{OpData}
use Rattle.cot_site.specs.States.{State, with_last}
use Rattle.cot_site.specs.Sites.{SiteData, state_of}
use Rattle.session_replay.specs.Steps.{Step, last_of, written_by, IsReached}
use Rattle.session_replay.specs.Code.Doing.{AreDone}
use Rattle.session_replay.specs.Sessions.{SessionData, site_at, new_site, at_site, taking_in, making, given, made}
use Rattle.session_replay.proofs.Steps.{reached_again}

-- the session with this state of the site of number i
abbrev pub session_at : List State → List OpData → ℕ → State → SessionData
session_at ss ms i s = record { sites = set ss i s; messages = ms }

pub last_at : (ss : List State) (ms : List OpData) (i : ℕ) (s : State) (es : List (Step State))
    → last_of (session_at ss ms i s) (at_site ss ms i es) ≡ session_at ss ms i (last_of s es)
unfolding last_of
last_at ss ms i s [] = refl
last_at ss ms i s (e ∷ es) = last_at ss ms i e.after es

pub written_at : (ss : List State) (ms : List OpData) (i : ℕ) (es : List (Step State)) → written_by (at_site ss ms i es) ≡ written_by es
unfolding written_by
written_at ss ms i [] = refl
written_at ss ms i (e ∷ es) = ap (λ w. e.written ++ w) (written_at ss ms i es)

reached_lift : (ss : List State) (ms : List OpData) (i : ℕ) (es : List (Step State)) (s now : State) → IsReached s es now
    → IsReached (session_at ss ms i s) (at_site ss ms i es) (session_at ss ms i now)
reached_lift ss ms i es s now h = record {
  done = at_site ss ms i h.done;
  left = at_site ss ms i h.left;
  parts = ap (at_site ss ms i) h.parts
      ∙ map-append (λ e. record { written = e.written; after = record { sites = set ss i e.after; messages = ms } }) h.done h.left;
  state = ap (session_at ss ms i) h.state ∙ sym (last_at ss ms i s h.done);
}

-- so much of the steps at the site is so much of the session's
lifted : {T E : Type 0} (result : Result T E) (ss : List State) (ms : List OpData) (i : ℕ) (es : List (Step State)) (s now : State)
    (old new : List ℕ)
    → AreDone result es s now old new → AreDone result (at_site ss ms i es) (session_at ss ms i s) (session_at ss ms i now) old new
lifted (Ok t) ss ms i es s now old new h = (
  ap (session_at ss ms i) h.0 ∙ sym (last_at ss ms i s es),
  h.1 ∙ ap (λ w. old ++ w) (sym (written_at ss ms i es)),
)
lifted (Err e) ss ms i es s now old new h = (reached_lift ss ms i es s now h.0, h.1)

-- ---- sites in memory

-- the session that these sites and messages are
abbrev pub session_of : List SiteData → List OpData → SessionData
session_of sites ms = record { sites = map state_of sites; messages = ms }

-- the state of the site at a place
state_in : (sites : List SiteData) (i : ℕ) (x : SiteData) (none : State) → i < length sites → x ≡ slice_index_or sites i x
    → state_of x ≡ slice_index_or (map state_of sites) i none
state_in [] i x none within is = absurd (omega (arith, within))
state_in (y ∷ ys) zero x none within is = ap state_of is
state_in (y ∷ ys) (suc i) x none within is = state_in ys i x none (omega arith) is

pub state_at : (sites : List SiteData) (ms : List OpData) (i : ℕ) (x : SiteData) → i < length sites → x ≡ slice_index_or sites i x
    → state_of x ≡ site_at (session_of sites ms) i
state_at sites ms i x within is = state_in sites i x (new_site i) within is

-- the sites as they are, with the state of one written in again
same_session : (sites : List SiteData) (ms : List OpData) (i : ℕ) (s : State) → s ≡ site_at (session_of sites ms) i
    → session_at (map state_of sites) ms i s ≡ session_of sites ms
same_session sites ms i s is =
    ap (λ (xs : List State). record { sites = xs; messages = ms })
    (ap (λ x. set (map state_of sites) i x) is ∙ set-get_or (map state_of sites) i (new_site i))

written_back : (sites : List SiteData) (ms : List OpData) (i : ℕ) (y : SiteData)
    → session_at (map state_of sites) ms i (state_of y) ≡ session_of (set sites i y) ms
written_back sites ms i y = ap (λ (xs : List State). record { sites = xs; messages = ms }) (sym (map-set state_of sites i y))

given_here : {T E : Type 0} (result : Result T E) (sites : List SiteData) (ms : List OpData) (i : ℕ) (many : Bool) (o : OpData)
    (x y : SiteData) (old new : List ℕ)
    → i < length sites → x ≡ slice_index_or sites i x
    → AreDone result (taking_in many o (state_of x)) (state_of x) (state_of y) old new
    → AreDone result (given many i o (session_of sites ms)) (session_of sites ms) (session_of (set sites i y) ms) old new
given_here result sites ms i many o x y old new within is h =
    let ss = map state_of sites in
    let at : state_of x ≡ site_at (session_of sites ms) i = state_at sites ms i x within is in
    let here : AreDone result (taking_in many o (site_at (session_of sites ms) i)) (site_at (session_of sites ms) i) (state_of y) old new =
    subst (λ s. AreDone result (taking_in many o s) s (state_of y) old new) at h in
    let up = lifted result ss ms i (taking_in many o (site_at (session_of sites ms) i)) (site_at (session_of sites ms) i) (state_of y) old
    new here in
    subst (λ d. AreDone result (given many i o (session_of sites ms)) (session_of sites ms) d old new) (written_back sites ms i y)
    (subst (λ d. AreDone result (given many i o (session_of sites ms)) d (session_at ss ms i (state_of y)) old new)
    (same_session sites ms i (site_at (session_of sites ms) i) refl) up)

-- a delivery to a site in memory
pub given_done : {T E : Type 0} (result : Result T E) (d : SessionData) (sites : List SiteData) (ms : List OpData) (i : ℕ) (many : Bool)
    (o : OpData) (x y : SiteData) (old new : List ℕ)
    → session_of sites ms ≡ d → i < length d.sites → x ≡ slice_index_or sites i x
    → AreDone result (taking_in many o (state_of x)) (state_of x) (state_of y) old new
    → AreDone result (given many i o d) d (session_of (set sites i y) ms) old new
given_done result d sites ms i many o x y old new seen within is h =
    let there : i < length sites = omega (arith, ap (λ (e : SessionData). length e.sites) seen, length-map sites state_of) in
    subst (λ e. AreDone result (given many i o e) e (session_of (set sites i y) ms) old new) seen
    (given_here result sites ms i many o x y old new there is h)

-- ---- a local operation

-- steps whose first leaves the site as it is: they may start from any session
from_any : {T E : Type 0} (result : Result T E) (d e : SessionData) (first : Step SessionData) (es : List (Step SessionData))
    (now : SessionData) (old new : List ℕ)
    → first.after ≡ e → AreDone result (first ∷ es) e now old new → AreDone result (first ∷ es) d now old new
unfolding last_of
from_any (Ok t) d e first es now old new same h = h
from_any (Err x) d e first es now old new same h = (reached_again e d now first es same h.0, h.1)

made_here : {T E : Type 0} (result : Result T E) (d : SessionData) (i : ℕ) (o : OpData) (now : State) (old new : List ℕ)
    → AreDone result (making (length d.messages) o (site_at d i)) (with_last (site_at d i) o) now old new
    → AreDone result (made i o d) d (session_at d.sites (d.messages ++ o ∷ []) i now) old new
made_here result d i o now old new h =
    let s = with_last (site_at d i) o in
    let ms = d.messages ++ o ∷ [] in
    let up = lifted result d.sites ms i (making (length d.messages) o (site_at d i)) s now old new h in
    from_any result d (session_at d.sites ms i s) _ _ (session_at d.sites ms i now) old new refl up

-- a site that made an operation, and then told it and released, in memory
pub made_done : {T E : Type 0} (result : Result T E) (d : SessionData) (sites : List SiteData) (ms : List OpData) (i : ℕ) (o : OpData)
    (x z : SiteData) (n : ℕ) (old new : List ℕ)
    → session_of sites ms ≡ d → i < length d.sites → x ≡ slice_index_or sites i x → n ≡ length ms
    → AreDone result (making n o (state_of x)) (with_last (state_of x) o) (state_of z) old new
    → AreDone result (made i o d) d (session_of (set sites i z) (ms ++ o ∷ [])) old new
made_done result d sites ms i o x z n old new seen within is number h =
    let there : i < length sites = omega (arith, ap (λ (e : SessionData). length e.sites) seen, length-map sites state_of) in
    let at : state_of x ≡ site_at d i = state_at sites ms i x there is ∙ ap (λ e. site_at e i) seen in
    let count : n ≡ length d.messages = number ∙ ap (λ (e : SessionData). length e.messages) seen in
    let here : AreDone result (making (length d.messages) o (site_at d i)) (with_last (site_at d i) o) (state_of z) old new =
    subst (λ s. AreDone result (making (length d.messages) o s) (with_last s o) (state_of z) old new) at
    (subst (λ k. AreDone result (making k o (state_of x)) (with_last (state_of x) o) (state_of z) old new) count h)
    in
    let up = made_here result d i o (state_of z) old new here in
    let whole : session_at d.sites (d.messages ++ o ∷ []) i (state_of z) ≡ session_of (set sites i z) (ms ++ o ∷ []) =
    ap (λ (e : SessionData). session_at e.sites (e.messages ++ o ∷ []) i (state_of z)) (sym seen) ∙ written_back sites (ms ++ o ∷ []) i z
    in
    subst (λ e. AreDone result (made i o d) d e old new) whole up
