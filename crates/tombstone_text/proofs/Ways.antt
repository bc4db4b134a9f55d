-- What a way of new cells asks, at a place of the text.
use Rattle.std.proofs.Common.{◌≡◌, ℕ, zero, suc, ◌+◌, ◌-◌, ◌<◌, ◌≤◌, min, List, [], ◌∷◌, length, get_or, ap, ◌∙◌, sym, refl, subst, arith}
use Rattle.ttf_form.specs.Cells.{put_in}
use Rattle.tombstone_text.specs.Code.Cells.{ChunksData, IsSeat, HasPlaces, MayBeCut, IsWay, IsReady, cut}
use Rattle.tombstone_text.specs.declared.chunk.TheConstants.{GAPS}
use Rattle.tombstone_text.specs.declared.chunks.Way.{Way}
use Rattle.tombstone_text.specs.declared.chunks.Way.TheVariants.{First, Into, Cut}
use Rattle.tombstone_text.specs.declared.chunks.Ready.{Ready}
use Rattle.tombstone_text.proofs.Chunked.{seat_low, seat_high, parts_long}

this_way : (t : ChunksData) (r : Ready) (w : Way) (n : ℕ) → IsReady t r → r.way ≡ w → r.place ≤ length t.cells → r.len ≡ n
    → IsWay t w r.place n
this_way t r w n ready is le all =
    let at : min r.place (length t.cells) ≡ r.place = omega (arith, le) in
    subst (λ m. IsWay t w r.place m) all
    (subst (λ p. IsWay t w p r.len) at (subst (λ v. IsWay t v (min r.place (length t.cells)) r.len) is ready))

pub first_way : (t : ChunksData) (r : Ready) (n : ℕ) → IsReady t r → r.way ≡ First → r.place ≤ length t.cells → r.len ≡ n
    → (t.chunks ≡ []) × (n ≤ t.fresh) × (1 ≤ t.spare) × (GAPS ≤ t.fresh_gaps)
first_way t r n ready is le all = this_way t r First n ready is le all

pub into_way : (t : ChunksData) (r : Ready) (i o n : ℕ) → IsReady t r → r.way ≡ Into i o → r.place ≤ length t.cells → r.len ≡ n
    → IsSeat t.chunks i o r.place × HasPlaces t i n
into_way t r i o n ready is le all = this_way t r (Into i o) n ready is le all

pub cut_way : (t : ChunksData) (r : Ready) (i o k n : ℕ) → IsReady t r → r.way ≡ Cut i o k → r.place ≤ length t.cells → r.len ≡ n
    → IsSeat t.chunks i o r.place × MayBeCut t i o k n
cut_way t r i o k n ready is le all = this_way t r (Cut i o k) n ready is le all

-- the first cells come in at the front
pub first_in : {A : Type 0} (xs : List A) (p : ℕ) (new : List A) → length xs ≡ 0 → p ≤ length xs → put_in 0 new [] ≡ put_in p new xs
first_in [] zero new none le = refl
first_in [] (suc p) new none le = absurd (omega (arith, le))
first_in (y ∷ ys) p new none le = absurd (omega (arith, none))

-- after the cut, n new cells have their seat in the lower part, which has room
pub cut_low : (t u : ChunksData) (i o k n p least : ℕ) → IsSeat t.chunks i o p → MayBeCut t i o k n → o ≤ k
    → u.chunks ≡ cut t.chunks i k → least ≡ k + n → (least ≤ get_or t.rooms i 0 → least ≤ get_or u.rooms i 0)
    → GAPS ≤ get_or u.gaps i 0 → IsSeat u.chunks i o p × HasPlaces u i n
cut_low t u i o k n p least s c side is room kept gaps =
    let parts = parts_long t.chunks i k s.chunk (omega (arith, c.less)) in
    let long = ap (λ ds. length (get_or ds i [])) is in
    let own = kept (omega (arith, room, c.low side)) in (
      subst (λ ds. IsSeat ds i o p) (sym is) (seat_low t.chunks i o p k s (omega (arith, c.less)) side),
      (omega (arith, parts.0, long, own, room), gaps),
    )

-- or in the upper part
pub cut_high : (t u : ChunksData) (i j o k n p : ℕ) → IsSeat t.chunks i o p → MayBeCut t i o k n → k < o
    → u.chunks ≡ cut t.chunks i k → j ≡ suc i → t.fresh ≤ get_or u.rooms j 0
    → GAPS ≤ get_or u.gaps j 0 → IsSeat u.chunks j (o - k) p × HasPlaces u j n
cut_high t u i j o k n p s c side is next room gaps =
    let parts = parts_long t.chunks i k s.chunk (omega (arith, c.less)) in
    let long = ap (λ ds. length (get_or ds j [])) is ∙ ap (λ m. length (get_or (cut t.chunks i k) m [])) next in
    let own = c.high side in (
      subst (λ ds. IsSeat ds j (o - k) p) (sym is)
          (seat_high t.chunks i j o (o - k) p k s (omega (arith, c.less)) side next (omega (arith, side))),
      (omega (arith, parts.1, long, own, room), gaps),
    )
