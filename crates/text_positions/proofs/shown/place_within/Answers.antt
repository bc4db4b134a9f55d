use Rattle.std.proofs.Common.{◌≡◌, ◌+◌, ℕ, List, length, sym, ap, ap₂, subst, ◌∙◌, arith}
use Rattle.std.specs.Prelude.{Option, MatchOption}
use Rattle.text_positions.specs.Offsets.{HasNoPlace, IsFirstPlace}
use Rattle.text_positions.specs.Code.{characters_in}
use Rattle.text_positions.proofs.Chunks.{chars, chars_few, columns_even, columns_tell, front_chars, front_count, later_chars, own_chars, parts, weight_chunk}
use Rattle.text_positions.proofs.Places.{found_within, length_whole, missing_within, whole}
use Rattle.text_positions.proofs.Weights.{offset_back}
use Rattle.text_positions.proofs.shown.place_within.Goals as goal

pub chunk_flags-requires : goal.chunk_flags-requires
chunk_flags-requires c =
    let t = c.args.cells.now in
    (weight_chunk c.args.measure t.chunks t.texts _ _ _ c.known.ensures.beside c.weight_chunk-i.ensures).0

pub find-requires-clause-beside : goal.find-requires-clause-beside
find-requires-clause-beside c =
    let t = c.args.cells.now in
    let part = weight_chunk c.args.measure t.chunks t.texts _ _ _ c.known.ensures.beside c.weight_chunk-i.ensures in
    columns_even t.chunks t.texts _ _ _ c.known.ensures.beside part.0 c.chunk_flags.ensures.flags c.chunk_text.ensures

pub returns-in_err-count : goal.returns-in_err-count
returns-in_err-count c =
    let t = c.args.cells.now in
    let m = c.args.measure in
    let o = c.args.offset in
    let i = c.weight_chunk-i.result.0 in
    let before = c.weight_chunk-i.result.1 in
    let part = weight_chunk m t.chunks t.texts i before _ c.known.ensures.beside c.weight_chunk-i.ensures in
    let tell =
    columns_tell t.chunks t.texts i c.chunk_flags.result.now c.chunk_text.result.now c.chunk_flags.ensures.flags c.chunk_text.ensures in
    let front = front_chars t.chunks t.texts i in
    let own = own_chars t.chunks t.texts i in
    let is : characters_in t ≡ whole m front own (later_chars t.chunks t.texts i) =
    sym (ap₂ chars c.known.ensures.chunks c.known.ensures.texts) ∙ parts t.chunks t.texts i c.known.ensures.beside part.0 in
    let next = c.from.ensures in
    let none : HasNoPlace m own (before + 1) =
    subst (λ n. HasNoPlace m own n) (omega (arith, next))
    (subst (λ (l : List ℕ). HasNoPlace m l (c.from.result + 1)) tell c.in_err-count.ensures) in
    let missing = missing_within m front own (later_chars t.chunks t.texts i) o (before + 1)
    (omega (arith, part.2, c.requires.some)) (omega arith) (omega (arith, part.1)) none in
    subst (λ (r : Option ℕ). MatchOption r (HasNoPlace m (characters_in t) o) (IsFirstPlace m (characters_in t) o))
    (sym c.from_residual.ensures) (subst (λ (l : List ℕ). HasNoPlace m l o) (sym is) missing)

pub returns : goal.returns
returns c =
    let t = c.args.cells.now in
    let m = c.args.measure in
    let o = c.args.offset in
    let i = c.weight_chunk-i.result.0 in
    let before = c.weight_chunk-i.result.1 in
    let count = c.in_ok-count.count in
    let part = weight_chunk m t.chunks t.texts i before _ c.known.ensures.beside c.weight_chunk-i.ensures in
    let tell =
    columns_tell t.chunks t.texts i c.chunk_flags.result.now c.chunk_text.result.now c.chunk_flags.ensures.flags c.chunk_text.ensures in
    let front = front_chars t.chunks t.texts i in
    let own = own_chars t.chunks t.texts i in
    let is : characters_in t ≡ whole m front own (later_chars t.chunks t.texts i) =
    sym (ap₂ chars c.known.ensures.chunks c.known.ensures.texts) ∙ parts t.chunks t.texts i c.known.ensures.beside part.0 in
    let next = c.from.ensures in
    let first : IsFirstPlace m own (before + 1) count =
    subst (λ n. IsFirstPlace m own n count) (omega (arith, next))
    (subst (λ (l : List ℕ). IsFirstPlace m l (c.from.result + 1) count) tell c.in_ok-count.ensures) in
    let found = found_within m front own (later_chars t.chunks t.texts i) o (before + 1)
    (omega (arith, part.2, c.requires.some)) (omega arith) count first in
    let at : length front + count ≡ c.shown_start.result + count =
    omega (arith, c.shown_start.ensures, front_count t.chunks t.texts i c.known.ensures.beside) in
    subst (λ n. IsFirstPlace m (characters_in t) o n) at (subst (λ (l : List ℕ). IsFirstPlace m l o (length front + count)) (sym is) found)

pub overflow_add-result : goal.overflow_add-result
overflow_add-result c =
    let t = c.args.cells.now in
    let m = c.args.measure in
    let i = c.weight_chunk-i.result.0 in
    let part = weight_chunk m t.chunks t.texts i _ _ c.known.ensures.beside c.weight_chunk-i.ensures in
    let tell =
    columns_tell t.chunks t.texts i c.chunk_flags.result.now c.chunk_text.result.now c.chunk_flags.ensures.flags c.chunk_text.ensures in
    let front = front_chars t.chunks t.texts i in
    let own = own_chars t.chunks t.texts i in
    let is : characters_in t ≡ whole m front own (later_chars t.chunks t.texts i) =
    sym (ap₂ chars c.known.ensures.chunks c.known.ensures.texts) ∙ parts t.chunks t.texts i c.known.ensures.beside part.0 in
    let first = subst (λ (l : List ℕ). IsFirstPlace m l (c.from.result + 1) c.in_ok-count.count) tell c.in_ok-count.ensures in
    record {
      fits = omega (
        arith,
        c.shown_start.ensures,
        front_count t.chunks t.texts i c.known.ensures.beside,
        (offset_back m own c.in_ok-count.count (c.from.result + 1) first.has).0,
        length_whole m front own (later_chars t.chunks t.texts i),
        ap (λ (l : List ℕ). length l) is,
        chars_few t.cells t.text,
        c.known.ensures.most,
      );
    }
