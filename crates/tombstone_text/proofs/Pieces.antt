-- The cells of a list of spans, and where a place lies among them.
use Rattle.std.proofs.Common.{◌≡◌, ℕ, zero, suc, ◌+◌, ◌<◌, ◌≤◌, Bool, true, false, nat_lt, List, [], ◌∷◌, ◌++◌, map, length, take, drop, insert, set, get_or, refl, sym, ap, ◌∙◌, subst, append_assoc, arith}
use Rattle.std.proofs.lemmas.Bool.Decides.{nat_tests}
use Rattle.std.proofs.lemmas.List.{map-append, length-map, length-append, length-take, map-set, get_or-map, take-map, drop-map, take_at, drop_at, take_all, set-get_or}
use Rattle.std.proofs.lemmas.List.Concat.{get_or-flat_map}
use Rattle.ttf_form.specs.Cells.{CellData, change_at, put_in}
use Rattle.ttf_form.specs.Laws.Lists.{put_behind}
use Rattle.tombstone_text.specs.Chunks.{flat, flag_of}
use Rattle.tombstone_text.specs.Code.Cells.{cut}
use Rattle.tombstone_text.specs.Code.Chunks.{blank}
use Rattle.tombstone_text.specs.Code.Spans.{AreFilled, SpanData, span_cells, pieces, cells_in, run_from, after, IsPlace, IsSpot}
use Rattle.tombstone_text.proofs.Flags.{map-insert}
use Rattle.tombstone_text.proofs.Chunked.{chunks-le, cut_is, flat_put, flat_change, low_part, before_low, length-cut}
use Rattle.tombstone_text.proofs.Searches.{length-more}
use Rattle.tombstone_text.proofs.Following.{length-run, run_low, run_high}

pub pieces_long : (ss : List SpanData) → length (pieces ss) ≡ length ss
pieces_long ss = length-map ss span_cells

-- a span that was read
pub piece_read : (ss : List SpanData) (i : ℕ) (x : SpanData) → i < length ss → x ≡ get_or ss i x
    → run_from x.first x.count ≡ get_or (pieces ss) i []
piece_read ss i x lt read = ap span_cells read ∙ sym (get_or-map span_cells ss i x [] lt)

pub piece_there : (ss : List SpanData) (i : ℕ) (x : SpanData) → i < length ss → x ≡ get_or ss i x
    → run_from x.first x.count ≡ get_or (pieces ss) i (run_from x.first x.count)
piece_there ss i x lt read = ap span_cells read ∙ sym (get_or-map span_cells ss i x (span_cells x) lt)

pub piece_count : (ss : List SpanData) (i : ℕ) (x : SpanData) → i < length ss → x ≡ get_or ss i x
    → length (get_or (pieces ss) i []) ≡ x.count
piece_count ss i x lt read =
    ap (λ (xs : List CellData). length xs) (sym (piece_read ss i x lt read)) ∙ length-run x.first x.count

pub pieces_set : (ss : List SpanData) (i : ℕ) (x : SpanData) → pieces (set ss i x) ≡ set (pieces ss) i (run_from x.first x.count)
pieces_set ss i x = map-set span_cells ss i x

pub pieces_insert : (ss : List SpanData) (i : ℕ) (x : SpanData) → pieces (insert ss i x) ≡ insert (pieces ss) i (run_from x.first x.count)
pieces_insert ss i x = map-insert span_cells ss i x

-- a span cut in two
pub pieces_cut : (ss : List SpanData) (i n k : ℕ) (x low high : SpanData) → i < length ss → x ≡ get_or ss i x → n ≡ suc i
    → k + high.count ≡ x.count → low ≡ record { first = x.first; count = k } → high.first ≡ after x.first k
    → pieces (insert (set ss i low) n high) ≡ cut (pieces ss) i k
pieces_cut ss i n k x low high lt read next count is_low is_high =
    let piece = piece_read ss i x lt read in
    let long : i < length (pieces ss) = omega (arith, lt, pieces_long ss) in
    let least : k ≤ x.count = omega (arith, count) in
    pieces_insert (set ss i low) n high
    ∙ ap (λ ds. insert ds n (run_from high.first high.count)) (pieces_set ss i low)
    ∙ ap (λ d. insert (set (pieces ss) i (run_from d.first d.count)) n (run_from high.first high.count)) is_low
    ∙ ap (λ d. insert (set (pieces ss) i d) n (run_from high.first high.count))
    (run_low x.first k x.count least ∙ ap (λ d. take k d) piece)
    ∙ ap (λ d. insert (set (pieces ss) i (take k (get_or (pieces ss) i []))) n d)
    (ap (λ c. run_from c high.count) is_high ∙ run_high x.first k high.count x.count count ∙ ap (λ d. drop k d) piece)
    ∙ cut_is (pieces ss) i k n long next

-- the lists in front of a place and those behind it
flat_split : (cs : List (List CellData)) (i : ℕ) → flat cs ≡ flat (take i cs) ++ flat (drop i cs)
flat_split cs zero = refl
flat_split [] (suc i) = refl
flat_split (c ∷ cs) (suc i) =
    ap (λ xs. c ++ xs) (flat_split cs i) ∙ sym (append_assoc c (flat (take i cs)) (flat (drop i cs)))

pub flat_low : (cs : List (List CellData)) (i p : ℕ) → length (flat (take i cs)) ≡ p → flat (take i cs) ≡ take p (flat cs)
flat_low cs i p e =
    sym (ap (λ xs. take p xs) (flat_split cs i) ∙ take_at (flat (take i cs)) (flat (drop i cs)) p e)

pub flat_high : (cs : List (List CellData)) (i p : ℕ) → length (flat (take i cs)) ≡ p → flat (drop i cs) ≡ drop p (flat cs)
flat_high cs i p e =
    sym (ap (λ xs. drop p xs) (flat_split cs i) ∙ drop_at (flat (take i cs)) (flat (drop i cs)) p e)

pub cells_low : (ss : List SpanData) (i p : ℕ) → length (flat (take i (pieces ss))) ≡ p → cells_in (take i ss) ≡ take p (cells_in ss)
cells_low ss i p e = ap (λ cs. flat cs) (sym (take-map span_cells i ss)) ∙ flat_low (pieces ss) i p e

pub cells_high : (ss : List SpanData) (i p : ℕ) → length (flat (take i (pieces ss))) ≡ p → cells_in (drop i ss) ≡ drop p (cells_in ss)
cells_high ss i p e = ap (λ cs. flat cs) (sym (drop-map span_cells i ss)) ∙ flat_high (pieces ss) i p e

flat_next : (cs : List (List CellData)) (i : ℕ) → i < length cs → flat (take (suc i) cs) ≡ flat (take i cs) ++ get_or cs i []
flat_next [] i lt = absurd (omega arith)
flat_next (c ∷ cs) zero lt = none c
  where
    none : (xs : List CellData) → xs ++ [] ≡ xs
    none [] = refl
    none (x ∷ xs) = ap (λ ys. x ∷ ys) (none xs)
flat_next (c ∷ cs) (suc i) lt =
    ap (λ xs. c ++ xs) (flat_next cs i (omega arith)) ∙ sym (append_assoc c (flat (take i cs)) (get_or cs i []))

-- one list more
pub flat_more : (cs : List (List CellData)) (i n : ℕ) (c : List CellData) → i < length cs → n ≡ suc i → c ≡ get_or cs i []
    → flat (take n cs) ≡ flat (take i cs) ++ c
flat_more cs i n c lt next is =
    ap (λ k. flat (take k cs)) next ∙ flat_next cs i lt ∙ ap (λ xs. flat (take i cs) ++ xs) (sym is)

-- the flags of the cells of a list, among those of all, and once the list is another one
flat_set : (cs : List (List CellData)) (i : ℕ) (d : List CellData) → i < length cs
    → flat (set cs i d) ≡ flat (take i cs) ++ (d ++ flat (drop (suc i) cs))
flat_set [] i d lt = absurd (omega arith)
flat_set (c ∷ cs) zero d lt = refl
flat_set (c ∷ cs) (suc i) d lt =
    ap (λ xs. c ++ xs) (flat_set cs i d (omega arith))
    ∙ sym (append_assoc c (flat (take i cs)) (d ++ flat (drop (suc i) cs)))

flags_split : (cs : List (List CellData)) (i : ℕ) (d : List CellData) → i < length cs
    → map flag_of (flat (set cs i d)) ≡ map flag_of (flat (take i cs)) ++ (map flag_of d ++ map flag_of (flat (drop (suc i) cs)))
flags_split cs i d lt =
    let low = flat (take i cs) in
    let high = flat (drop (suc i) cs) in
    ap (λ (xs : List CellData). map flag_of xs) (flat_set cs i d lt)
    ∙ map-append flag_of low (d ++ high) ∙ ap (λ fs. map flag_of low ++ fs) (map-append flag_of d high)

flags_whole : (cs : List (List CellData)) (i : ℕ) → i < length cs
    → map flag_of (flat cs)
    ≡ map flag_of (flat (take i cs)) ++ (map flag_of (get_or cs i []) ++ map flag_of (flat (drop (suc i) cs)))
flags_whole cs i lt =
    ap (λ (ds : List (List CellData)). map flag_of (flat ds)) (sym (set-get_or cs i [])) ∙ flags_split cs i (get_or cs i []) lt

pub flags_part : (cs : List (List CellData)) (i a k : ℕ) (c : List CellData) → i < length cs → a ≡ length (flat (take i cs))
    → c ≡ get_or cs i [] → k ≡ length c → take k (drop a (map flag_of (flat cs))) ≡ map flag_of c
flags_part cs i a k c lt at is long =
    let low = map flag_of (flat (take i cs)) in
    let mid = map flag_of (get_or cs i []) in
    let high = map flag_of (flat (drop (suc i) cs)) in
    let same = ap (λ (xs : List CellData). length xs) is in
    ap (λ fs. take k (drop a fs)) (flags_whole cs i lt)
    ∙ ap (λ fs. take k fs) (drop_at low (mid ++ high) a (omega (arith, at, length-map (flat (take i cs)) flag_of)))
    ∙ take_at mid high k (omega (arith, long, same, length-map (get_or cs i []) flag_of))
    ∙ ap (λ (xs : List CellData). map flag_of xs) (sym is)

pub flags_put : (cs : List (List CellData)) (i a k : ℕ) (c d : List CellData) → i < length cs → a ≡ length (flat (take i cs))
    → c ≡ get_or cs i [] → k ≡ length c
    → take a (map flag_of (flat cs)) ++ (map flag_of d ++ drop k (drop a (map flag_of (flat cs)))) ≡ map flag_of (flat (set cs i d))
flags_put cs i a k c d lt at is long =
    let low = map flag_of (flat (take i cs)) in
    let mid = map flag_of (get_or cs i []) in
    let high = map flag_of (flat (drop (suc i) cs)) in
    let new = map flag_of d in
    let same = ap (λ (xs : List CellData). length xs) is in
    let front : length low ≡ a = omega (arith, at, length-map (flat (take i cs)) flag_of) in
    let wide : length mid ≡ k = omega (arith, long, same, length-map (get_or cs i []) flag_of) in
    ap (λ fs. take a fs ++ (new ++ drop k (drop a fs))) (flags_whole cs i lt)
    ∙ ap (λ fs. fs ++ (new ++ drop k (drop a (low ++ (mid ++ high))))) (take_at low (mid ++ high) a front)
    ∙ ap (λ fs. low ++ (new ++ drop k fs)) (drop_at low (mid ++ high) a front)
    ∙ ap (λ fs. low ++ (new ++ fs)) (drop_at mid high k wide)
    ∙ sym (flags_split cs i d lt)

-- how many cells there are up to a list that was set
pub length-set_more : (cs : List (List CellData)) (i : ℕ) (d : List CellData) → i < length cs
    → length (flat (take (i + 1) (set cs i d))) ≡ length (flat (take i cs)) + length d
length-set_more [] i d lt = absurd (omega arith)
length-set_more (c ∷ cs) zero d lt = omega (arith, length-append d [])
length-set_more (c ∷ cs) (suc i) d lt =
    let rest = length-set_more cs i d (omega arith) in
    let next : suc i + 1 ≡ suc (i + 1) = omega arith in
    ap (λ k. length (flat (take k (c ∷ set cs i d)))) next
    ∙ omega (arith, length-append c (flat (take (i + 1) (set cs i d))), length-append c (flat (take i cs)))

-- a list that comes in between two others
pub flat_insert : (cs : List (List CellData)) (i p : ℕ) (c : List CellData) → i ≤ length cs → length (flat (take i cs)) ≡ p
    → flat (insert cs i c) ≡ put_in p c (flat cs)
flat_insert cs i p c le e = at cs i le ∙ ap (λ k. put_in k c (flat cs)) e
  where
    at : (ds : List (List CellData)) (j : ℕ) → j ≤ length ds → flat (insert ds j c) ≡ put_in (length (flat (take j ds))) c (flat ds)
    at ds zero le = refl
    at [] (suc j) le = absurd (omega arith)
    at (d ∷ ds) (suc j) le =
        ap (λ xs. d ++ xs) (at ds j (omega arith))
        ∙ sym (put_behind (length (flat (take j ds))) (length (d ++ flat (take j ds))) d c (flat ds)
        (omega (arith, length-append d (flat (take j ds)))))

-- a list that grows at its end
pub flat_grown : (cs : List (List CellData)) (i n p : ℕ) (was new : List CellData) → i < length cs → was ≡ get_or cs i [] → n ≡ suc i
    → length (flat (take n cs)) ≡ p → flat (set cs i (was ++ new)) ≡ put_in p new (flat cs)
flat_grown cs i n p was new lt is next e =
    let c = get_or cs i [] in
    let o = length c in
    let step : suc i ≡ i + 1 = omega arith in
    let more = ap (λ k. length (flat (take k cs))) (next ∙ step) ∙ length-more cs i lt in
    ap (λ xs. flat (set cs i (xs ++ new))) is
    ∙ ap (λ xs. flat (set cs i xs)) (end c new)
    ∙ flat_put cs i o p new (record { chunk = lt; within = omega arith; place_is = omega (arith, more, e) })
  where
    end : (xs ys : List CellData) → xs ++ ys ≡ put_in (length xs) ys xs
    end [] [] = refl
    end [] (y ∷ ys) = ap (λ zs. y ∷ zs) (end [] ys)
    end (x ∷ xs) ys = ap (λ zs. x ∷ zs) (end xs ys)

pub filled_insert : (cs : List (List CellData)) (i : ℕ) (c : List CellData) → AreFilled cs → 1 ≤ length c → AreFilled (insert cs i c)
filled_insert cs zero c f l = (l, f)
filled_insert [] (suc i) c f l = (l, tt)
filled_insert (d ∷ cs) (suc i) c f l = (f.0, filled_insert cs i c f.1 l)

pub filled_take : (cs : List (List CellData)) (i : ℕ) → AreFilled cs → AreFilled (take i cs)
filled_take cs zero f = tt
filled_take [] (suc i) f = tt
filled_take (c ∷ cs) (suc i) f = (f.0, filled_take cs i f.1)

pub filled_drop : (cs : List (List CellData)) (i : ℕ) → AreFilled cs → AreFilled (drop i cs)
filled_drop cs zero f = f
filled_drop [] (suc i) f = tt
filled_drop (c ∷ cs) (suc i) f = filled_drop cs i f.1

-- a place that a search came to
pub place_inside : (cs : List (List CellData)) (i o p : ℕ) → IsPlace cs i o p → p ≤ length (flat cs) → 1 ≤ o → i < length cs
place_inside cs i o p s le some = by (nat_lt i (length cs)) refl
  where
    by : (t : Bool) → nat_lt i (length cs) ≡ t → i < length cs
    by true e = grind (arith, nat_tests)
    by false e =
        let past : length cs ≤ i = grind (arith, nat_tests) in
        let all = ap (λ (ds : List (List CellData)). length (flat ds)) (take_all i cs past) in
        absurd (omega (arith, all, s.place_is, le, some))

-- a border in front of a cell has a list behind it
pub border_inside : (cs : List (List CellData)) (i p : ℕ) → length (flat (take i cs)) ≡ p → p < length (flat cs) → i < length cs
border_inside cs i p e lt = by (nat_lt i (length cs)) refl
  where
    by : (t : Bool) → nat_lt i (length cs) ≡ t → i < length cs
    by true h = grind (arith, nat_tests)
    by false h =
        let past : length cs ≤ i = grind (arith, nat_tests) in
        let all = ap (λ (ds : List (List CellData)). length (flat ds)) (take_all i cs past) in
        absurd (omega (arith, all, e, lt))

-- the span at a place that has one cell
pub piece_alone : (ss : List SpanData) (i : ℕ) (x : SpanData) → i < length ss → x ≡ get_or ss i x → length (get_or (pieces ss) i []) ≡ 1
    → x.first ∷ [] ≡ get_or (pieces ss) i []
piece_alone ss i x lt read one =
    ap (run_from x.first) (sym one ∙ piece_count ss i x lt read) ∙ piece_read ss i x lt read

-- that cell changed
pub pieces_changed : (f : CellData → CellData) (ss : List SpanData) (i p : ℕ) (x y : SpanData) → IsSpot (pieces ss) i 0 p
    → length (get_or (pieces ss) i []) ≡ 1 → x ≡ get_or ss i x → y ≡ record { first = f x.first; count = 1 }
    → (cells_in (set ss i y) ≡ change_at p f (cells_in ss)) × (x.first ≡ get_or (cells_in ss) p blank)
pieces_changed f ss i p x y s one read is =
    let lt : i < length ss = omega (arith, s.chunk, pieces_long ss) in
    let alone = piece_alone ss i x lt read one in
    let at = s.place_is in (
      ap (λ cs. flat cs) (pieces_set ss i y)
          ∙ ap (λ z. flat (set (pieces ss) i (run_from z.first z.count))) is
          ∙ ap (λ c. flat (set (pieces ss) i (change_at 0 f c))) alone
          ∙ flat_change f (pieces ss) i 0 p s,
      ap (λ c. get_or c 0 blank) alone
          ∙ sym (get_or-flat_map (λ (c : List CellData). c) (pieces ss) i 0 [] blank s.chunk s.within)
          ∙ ap (λ k. get_or (cells_in ss) k blank) at,
    )

-- all spans raised
pub filled_map : (f : CellData → CellData) (cs : List (List CellData)) → AreFilled cs → AreFilled (map (map f) cs)
filled_map f [] h = tt
filled_map f (c ∷ cs) h = (omega (arith, h.0, length-map c f), filled_map f cs h.1)

-- the first cell of a list of several, cut off
pub spot_alone : (cs : List (List CellData)) (i p : ℕ) → i < length cs → 1 < length (get_or cs i []) → length (flat (take i cs)) ≡ p
    → IsSpot (cut cs i 1) i 0 p × (length (get_or (cut cs i 1) i []) ≡ 1)
spot_alone cs i p lt several e =
    let low = ap (λ (c : List CellData). length c) (low_part cs i 1 lt) in
    let long = length-take 1 (get_or cs i []) in
    let before = ap (λ (c : List CellData). length c) (before_low cs i 1 lt) in (
      record {
        chunk = omega (arith, length-cut cs i 1 lt, lt);
        within = omega (arith, low, long, several);
        place_is = omega (arith, before, e);
      },
      omega (arith, low, long, several),
    )

-- there are no more spans than cells, and none where there is no cell
pub spans_few : (ss : List SpanData) → AreFilled (pieces ss) → length ss ≤ length (cells_in ss)
spans_few ss f = omega (arith, chunks-le (pieces ss) f, pieces_long ss)

pub spans_none : (ss : List SpanData) → AreFilled (pieces ss) → cells_in ss ≡ [] → ss ≡ []
spans_none [] f e = refl
spans_none (s ∷ ss) f e =
    let none = ap (λ (xs : List CellData). length xs) e in
    let few = spans_few (s ∷ ss) f in
    absurd (omega (arith, none, few))

-- the spans of a part
pub pieces_take : (ss : List SpanData) (i : ℕ) → AreFilled (pieces ss) → AreFilled (pieces (take i ss))
pieces_take ss i f = subst AreFilled (take-map span_cells i ss) (filled_take (pieces ss) i f)

pub pieces_drop : (ss : List SpanData) (i : ℕ) → AreFilled (pieces ss) → AreFilled (pieces (drop i ss))
pieces_drop ss i f = subst AreFilled (drop-map span_cells i ss) (filled_drop (pieces ss) i f)
