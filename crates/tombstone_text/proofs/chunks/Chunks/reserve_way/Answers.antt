use Rattle.std.proofs.Common.{◌≡◌, ◌+◌, ◌≤◌, Bool, true, false, List, length, nat_le, refl, ap, arith}
use Rattle.std.proofs.lemmas.Bool.Decides.{nat_tests}
use Rattle.ttf_form.specs.Cells.{CellData}
use Rattle.tombstone_text.specs.declared.chunk.TheConstants.{FULL}
use Rattle.tombstone_text.proofs.Chunked.{seat_last}
use Rattle.tombstone_text.proofs.chunks.Chunks.reserve_way.Goals as goal

pub reserve_cut-requires-clause-low : goal.reserve_cut-requires-clause-low
reserve_cut-requires-clause-low c side = by (nat_le c.len-all.result c.args.place) refl
  where
    by : (b : Bool) → nat_le c.len-all.result c.args.place ≡ b → c.kept-keep.result + c.args.n ≤ FULL
    by true e =
        let past : c.len-all.result ≤ c.args.place = grind (arith, nat_tests) in
        let all = c.len-all.ensures in
        let at = c.min.ensures in
        let whole = ap (λ (s : List CellData). length s) c.known.ensures.chunks in
        let place = c.seat-chunk.ensures.place_is in
        let last =
        seat_last c.args.self.now.chunks c.seat-chunk.result.0 c.seat-chunk.result.1 c.seat-chunk.ensures.chunk
        (omega (arith, past, all, at, whole, place)) in
        let len = c.len_of-len.ensures.len in
        absurd (omega (arith, last, len, side, c.kept-keep.ensures.less))
    by false e = omega (arith, c.kept-keep.ensures.low e, c.requires)
