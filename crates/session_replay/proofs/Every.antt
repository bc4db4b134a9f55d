-- What holds of the state after each step.
use Rattle.std.proofs.Common.{List, [], ◌∷◌, ◌++◌, sym, subst}
use Rattle.session_replay.specs.Steps.{Step, last_of, IsReached}

-- it holds of the state after each of these steps
abbrev pub Every : {S : Type 0} → (S → Type 0) → List (Step S) → Type 0
Every P [] = Unit {0}
Every P (e ∷ es) = P e.after × Every P es

pub every_append : {S : Type 0} (P : S → Type 0) (es fs : List (Step S)) → Every P es → Every P fs → Every P (es ++ fs)
every_append P [] fs a b = b
every_append P (e ∷ es) fs a b = (a.0, every_append P es fs a.1 b)

every_front : {S : Type 0} (P : S → Type 0) (es fs : List (Step S)) → Every P (es ++ fs) → Every P es
every_front P [] fs all = tt
every_front P (e ∷ es) fs all = (all.0, every_front P es fs all.1)

pub every_last : {S : Type 0} (P : S → Type 0) (s : S) (es : List (Step S)) → P s → Every P es → P (last_of s es)
unfolding last_of
every_last P s [] first all = first
every_last P s (e ∷ es) first all = every_last P e.after es all.0 all.1

-- so it holds of each state that is reached
pub every_reached : {S : Type 0} (P : S → Type 0) (s r : S) (es : List (Step S)) → P s → Every P es → IsReached s es r → P r
every_reached P s r es first all h =
    subst P (sym h.state) (every_last P s h.done first (every_front P h.done h.left (subst (Every P) h.parts all)))

pub every_map : {S : Type 0} (P Q : S → Type 0) → ((s : S) → P s → Q s) → (es : List (Step S)) → Every P es → Every Q es
every_map P Q f [] all = tt
every_map P Q f (e ∷ es) all = (f e.after all.0, every_map P Q f es all.1)
