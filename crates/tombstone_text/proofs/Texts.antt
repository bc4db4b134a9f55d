-- What a change of one chunk does to the columns of a text.
use Rattle.std.proofs.Common.{◌≡◌, ℕ, suc, ◌+◌, ◌-◌, ◌<◌, ◌≤◌, List, [], ◌∷◌, ◌++◌, length, map, filter, take, drop, insert, set, get_or, Option, None, sym, ap, ◌∙◌, subst, arith}
use Rattle.std.specs.List.{sum}
use Rattle.std.proofs.lemmas.List.{map-set, get_or-map, get_or_read, length-map, set-get_or, length-take, length-drop, take-append-drop}
use Rattle.std.proofs.lemmas.List.Elements.{filter-append}
use Rattle.std.proofs.lemmas.List.{length-append}
use Rattle.std.proofs.lemmas.List.Sums.{sum_by-set, get_or-le-sum_by}
use Rattle.ttf_form.specs.Cells.{CellData, cell_shown, change_at, put_in}
use Rattle.ttf_form.specs.Laws.Lists.{length-put}
use Rattle.tombstone_text.specs.Chunks.{flat, flag_of, shown_in}
use Rattle.tombstone_text.specs.Sums.{IsPart}
use Rattle.tombstone_text.specs.Code.Cells.{cut, IsText}
use Rattle.tombstone_text.specs.Code.Chunks.{ChunkData}
use Rattle.tombstone_text.proofs.Flags.{map-insert}
use Rattle.tombstone_text.proofs.Shown.{length-filter-le}
use Rattle.tombstone_text.specs.Code.Spans.{IsSpot}
use Rattle.tombstone_text.proofs.Chunked.{spot, text-len, text-shown, filled_at, filled_set, filled_cut, cut_is, length-change, flag-le, shown-change}

pub len_at : (cs : List (List CellData)) (ls ss : List ℕ) (f : Option ChunkData) (i : ℕ) → IsText cs ls ss f → i < length cs
    → get_or ls i 0 ≡ length (get_or cs i [])
len_at cs ls ss f i t lt = ap (λ (l : List ℕ). get_or l i 0) t.lens_are ∙ get_or-map (λ (c : List CellData). length c) cs i [] 0 lt

pub shown_at : (cs : List (List CellData)) (ls ss : List ℕ) (f : Option ChunkData) (i : ℕ) → IsText cs ls ss f → i < length cs
    → get_or ss i 0 ≡ shown_in (get_or cs i [])
shown_at cs ls ss f i t lt = ap (λ (l : List ℕ). get_or l i 0) t.shown_are ∙ get_or-map shown_in cs i [] 0 lt

pub lens_long : (cs : List (List CellData)) (ls ss : List ℕ) (f : Option ChunkData) → IsText cs ls ss f
    → (length ls ≡ length cs) × (length ss ≡ length cs)
lens_long cs ls ss f t = (
  ap (λ (l : List ℕ). length l) t.lens_are ∙ length-map cs (λ (c : List CellData). length c),
  ap (λ (l : List ℕ). length l) t.shown_are
      ∙ length-map cs shown_in,
)

-- a number changed in a column
pub set-sum : (xs : List ℕ) (i y : ℕ) → i < length xs → sum (set xs i y) + get_or xs i 0 ≡ sum xs + y
set-sum xs i y lt = sum_by-set (λ (n : ℕ). n) xs i y 0 lt

pub part-le : (xs : List ℕ) (i : ℕ) → i < length xs → get_or xs i 0 ≤ sum xs
part-le xs i lt = get_or-le-sum_by (λ (n : ℕ). n) xs i 0 lt

pub set_both : (xs ys : List ℕ) (i a b : ℕ) → xs ≡ ys → a ≡ b → set xs i a ≡ set ys i b
set_both xs ys i a b e f = ap (λ l. set l i a) e ∙ ap (λ n. set ys i n) f

shown-append : (xs ys : List CellData) → shown_in (xs ++ ys) ≡ shown_in xs + shown_in ys
shown-append xs ys =
    ap (λ (s : List CellData). length s) (filter-append cell_shown xs ys) ∙ length-append (filter cell_shown xs) (filter cell_shown ys)

shown-put : (k : ℕ) (new xs : List CellData) → shown_in (put_in k new xs) ≡ shown_in xs + shown_in new
shown-put k new xs =
    let whole = ap (λ (s : List CellData). shown_in s) (sym (take-append-drop k xs)) in
    omega
    (arith, whole, shown-append (take k xs) (new ++ drop k xs), shown-append new (drop k xs), shown-append (take k xs) (drop k xs))

-- n more shown cells in a chunk
pub text_put : (cs : List (List CellData)) (ls ss : List ℕ) (f : Option ChunkData) (i o n : ℕ) (new d : List CellData) (a b : ℕ)
    → IsText cs ls ss f → i < length cs → o ≤ length (get_or cs i []) → d ≡ put_in o new (get_or cs i []) → length new ≡ n
    → shown_in new ≡ n → a ≡ get_or ls i 0 + n → b ≡ get_or ss i 0 + n → IsText (set cs i d) (set ls i a) (set ss i b) f
text_put cs ls ss f i o n new d a b t lt within is many all la sb =
    let long = ap (λ (c : List CellData). length c) is ∙ length-put o new (get_or cs i []) within in
    let count = ap (λ (c : List CellData). shown_in c) is ∙ shown-put o new (get_or cs i []) in
    let old = len_at cs ls ss f i t lt in
    let seen = shown_at cs ls ss f i t lt in
    let some = filled_at cs i t.filled lt in
    record {
      lens_are =
          set_both ls (map (λ (c : List CellData). length c) cs) i a (length d) t.lens_are (omega (arith, la, old, long, many))
          ∙ sym (map-set (λ (c : List CellData). length c) cs i d);
      shown_are =
          set_both ss (map shown_in cs) i b (shown_in d) t.shown_are (omega (arith, sb, seen, count, all))
          ∙ sym (map-set shown_in cs i d);
      filled = filled_set cs i d t.filled (omega (arith, long, some));
      fresh_is = t.fresh_is;
    }

-- the first n cells of a text
pub text_first : (cs : List (List CellData)) (ls ss : List ℕ) (f : Option ChunkData) (n : ℕ) (new old d : List CellData)
    → IsText cs ls ss f → cs ≡ [] → old ≡ [] → d ≡ put_in 0 new old → length new ≡ n → shown_in new ≡ n → 1 ≤ n
    → IsText (d ∷ []) (insert ls 0 n) (insert ss 0 n) None
text_first cs ls ss f n new old d t none empty is many all some =
    let no = ap (λ (c : List CellData). length c) empty in
    let hidden = ap (λ (c : List CellData). shown_in c) empty in
    let long = ap (λ (c : List CellData). length c) is ∙ length-put 0 new old (omega arith) in
    let count = ap (λ (c : List CellData). shown_in c) is ∙ shown-put 0 new old in
    let lens = t.lens_are ∙ ap (λ (c : List (List CellData)). map (λ b. length b) c) none in
    let shown = t.shown_are ∙ ap (λ (c : List (List CellData)). map shown_in c) none in
    record {
      lens_are = ap (λ l. insert l 0 n) lens ∙ ap (λ k. k ∷ []) (omega (arith, long, many, no));
      shown_are = ap (λ l. insert l 0 n) shown ∙ ap (λ k. k ∷ []) (omega (arith, count, all, hidden));
      filled = (omega (arith, long, many, some), tt);
      fresh_is = tt;
    }

-- what stays true when the cells of a chunk are changed, and the chunk is d then, of which n cells are shown
pub record IsChunkChanged (cs : List (List CellData)) (ls ss : List ℕ) (f : Option ChunkData) (i n : ℕ) (d : List CellData) : Type 0 where
  pub all : sum (set ss i n) ≤ length (flat cs)
  pub text : IsText (set cs i d) ls (set ss i n) f

pub chunk_changed : (cs : List (List CellData)) (ls ss : List ℕ) (f : Option ChunkData) (i n : ℕ) (d : List CellData)
    → IsText cs ls ss f → i < length cs → length d ≡ length (get_or cs i []) → n ≡ shown_in d → IsChunkChanged cs ls ss f i n d
chunk_changed cs ls ss f i n d t lt long is =
    let one = filled_at cs i t.filled lt in
    let kept : set (map (λ (c : List CellData). length c) cs) i (length d) ≡ map (λ (c : List CellData). length c) cs =
    ap (λ k. set (map (λ (c : List CellData). length c) cs) i k) (long ∙ sym (get_or-map (λ (c : List CellData). length c) cs i [] 0 lt))
    ∙ set-get_or (map (λ (c : List CellData). length c) cs) i 0 in
    let text : IsText (set cs i d) ls (set ss i n) f =
    record {
      lens_are = t.lens_are ∙ sym kept ∙ sym (map-set (λ (c : List CellData). length c) cs i d);
      shown_are = set_both ss (map shown_in cs) i n (shown_in d) t.shown_are is ∙ sym (map-set shown_in cs i d);
      filled = filled_set cs i d t.filled (omega (arith, one, long));
      fresh_is = t.fresh_is;
    } in
    let was_all = text-len cs ls ss f t in
    let now_all = text-len (set cs i d) ls (set ss i n) f text in
    let seen = text-shown (set cs i d) ls (set ss i n) f text in
    let most = length-filter-le cell_shown (flat (set cs i d)) in
    record { all = omega (arith, was_all, now_all, seen, most); text = text }

pub insert_both : (xs ys : List ℕ) (k a b : ℕ) → xs ≡ ys → a ≡ b → insert xs k a ≡ insert ys k b
insert_both xs ys k a b e f = ap (λ l. insert l k a) e ∙ ap (λ n. insert ys k n) f

-- a column of a text with a chunk cut in two
column_cut : (h : List CellData → ℕ) (cs : List (List CellData)) (ls : List ℕ) (i n k low high : ℕ) → ls ≡ map h cs → i < length cs
    → n ≡ suc i
    → low ≡ h (take k (get_or cs i [])) → high ≡ h (drop k (get_or cs i [])) → insert (set ls i low) n high ≡ map h (cut cs i k)
column_cut h cs ls i n k low high e lt next l u =
    let lower = take k (get_or cs i []) in
    let upper = drop k (get_or cs i []) in
    insert_both (set ls i low) (map h (set cs i lower)) n high (h upper)
    (set_both ls (map h cs) i low (h lower) e l ∙ sym (map-set h cs i lower)) u
    ∙ sym (map-insert h (set cs i lower) n upper)
    ∙ ap (λ ds. map h ds) (cut_is cs i k n lt next)

pub text_cut : (cs : List (List CellData)) (ls ss : List ℕ) (f : Option ChunkData) (i n k up low high : ℕ)
    → IsText cs ls ss f → i < length cs → n ≡ suc i → 1 ≤ k → up + k ≡ length (get_or cs i []) → 1 ≤ up
    → low ≡ shown_in (take k (get_or cs i [])) → high ≡ shown_in (drop k (get_or cs i []))
    → IsText (cut cs i k) (insert (set ls i k) n up) (insert (set ss i low) n high) None
text_cut cs ls ss f i n k up low high t lt next some all more l u =
    record {
      lens_are =
          column_cut (λ (c : List CellData). length c) cs ls i n k k up t.lens_are lt next (omega (arith, length-take k (get_or cs i [])))
          (omega (arith, length-drop k (get_or cs i [])));
      shown_are = column_cut shown_in cs ss i n k low high t.shown_are lt next l u;
      filled = filled_cut cs i k t.filled lt some (omega arith);
      fresh_is = tt;
    }

-- both parts have as many shown cells as the whole
pub shown_parts : (xs : List CellData) (k : ℕ) → shown_in (take k xs) + shown_in (drop k xs) ≡ shown_in xs
shown_parts xs k =
    sym (shown-append (take k xs) (drop k xs)) ∙ ap (λ (s : List CellData). shown_in s) (take-append-drop k xs)

-- the number of shown cells, counted anew by the two flags of the cell that changed
pub counted_again : (g : CellData → CellData) (xs : List CellData) (k n before after : ℕ) (d : CellData) → k < length xs → n ≡ shown_in xs
    → before ≡ flag_of (get_or xs k d) → after ≡ flag_of (get_or (change_at k g xs) k d)
    → (before ≤ n) × (n - before + after ≡ shown_in (change_at k g xs))
counted_again g xs k n before after d lt e b a =
    let low = flag-le xs k d lt in
    let change = shown-change g xs k d lt in
    (omega arith, omega arith)

-- what stays true when a chunk is cut in two, its parts being lower and upper
pub record IsCut (cs : List (List CellData)) (ls ss : List ℕ) (i n k up low high : ℕ) (lower upper : List CellData) : Type 0 where
  pub chunks : insert (set cs i lower) n upper ≡ cut cs i k
  pub text : IsText (cut cs i k) (insert (set ls i k) n up) (insert (set ss i low) n high) None
  pub lens : sum (set ls i k) + up ≡ length (flat cs)
  pub shown : sum (set ss i low) + high ≤ length (flat cs)

pub cut_text : (cs : List (List CellData)) (ls ss : List ℕ) (f : Option ChunkData) (i n k len low high : ℕ)
    (was lower upper : List CellData)
    → IsText cs ls ss f → i < length cs → n ≡ suc i → 1 ≤ k → k < length (get_or cs i []) → was ≡ get_or cs i was → lower ≡ take k was
    → upper ≡ drop k was
    → len ≡ get_or ls i 0 → low ≡ shown_in lower → high ≡ shown_in upper → IsCut cs ls ss i n k (len - k) low high lower upper
cut_text cs ls ss f i n k len low high was lower upper t lt next some less read is_lower is_upper is_len is_low is_high =
    let same : was ≡ get_or cs i [] = get_or_read cs i was lt read [] in
    let lower_is : lower ≡ take k (get_or cs i []) = is_lower ∙ ap (λ (s : List CellData). take k s) same in
    let upper_is : upper ≡ drop k (get_or cs i []) = is_upper ∙ ap (λ (s : List CellData). drop k s) same in
    let low_is : low ≡ shown_in (take k (get_or cs i [])) = is_low ∙ ap (λ (s : List CellData). shown_in s) lower_is in
    let high_is : high ≡ shown_in (drop k (get_or cs i [])) = is_high ∙ ap (λ (s : List CellData). shown_in s) upper_is in
    let all = len_at cs ls ss f i t lt in
    let had = shown_at cs ls ss f i t lt in
    let both = shown_parts (get_or cs i []) k in
    let long = lens_long cs ls ss f t in
    let whole = text-len cs ls ss f t in
    let seen = text-shown cs ls ss f t in
    let most = length-filter-le cell_shown (flat cs) in
    let lens = set-sum ls i k (omega (arith, long.0)) in
    let shown = set-sum ss i low (omega (arith, long.1)) in
    record {
      chunks = ap (λ d. insert (set cs i d) n upper) lower_is ∙ ap (λ d. insert (set cs i (take k (get_or cs i []))) n d) upper_is
          ∙ cut_is cs i k n lt next;
      text = text_cut cs ls ss f i n k (len - k) low high t lt next some (omega arith) (omega arith) low_is high_is;
      lens = omega arith;
      shown = omega arith;
    }

-- the same, where the chunks are seen as those
pub cut_seen : {seen cs : List (List CellData)} {ls ss : List ℕ} {f : Option ChunkData} {i n k len low high : ℕ}
    {was lower upper : List CellData}
    → cs ≡ seen → IsText cs ls ss f → i < length seen → n ≡ suc i → 1 ≤ k → k < length (get_or seen i []) → was ≡ get_or cs i was
    → lower ≡ take k was → upper ≡ drop k was
    → len ≡ get_or ls i 0 → low ≡ shown_in lower → high ≡ shown_in upper → IsCut cs ls ss i n k (len - k) low high lower upper
cut_seen {seen} {cs} {ls} {ss} {f} {i} {n} {k} {len} {low} {high} {was} {lower} {upper} is t lt next some less =
    cut_text cs ls ss f i n k len low high was lower upper t (subst (λ ds. i < length ds) (sym is) lt) next some
    (subst (λ ds. k < length (get_or ds i [])) (sym is) less)

-- where a place of a text lies, found in the column of lengths
pub text-spot : (cs : List (List CellData)) (ls ss : List ℕ) (f : Option ChunkData) (i o p : ℕ) → IsText cs ls ss f → IsPart ls i o p
    → IsSpot cs i o p
text-spot cs ls ss f i o p t part = spot cs i o p (subst (λ (l : List ℕ). IsPart l i o p) t.lens_are part)

-- what stays true when a cell of a chunk is changed, and the chunk is d then, of which n - before + after cells are shown
pub record IsChangedIn (g : CellData → CellData) (cs : List (List CellData)) (ls ss : List ℕ) (f : Option ChunkData)
    (i o n before after : ℕ) (d : List CellData) : Type 0 where
  pub chunk : d ≡ change_at o g (get_or cs i [])
  pub low : before ≤ n
  pub shown : n - before + after ≤ length (flat cs)
  pub all : sum (set ss i (n - before + after)) ≤ length (flat cs)
  pub text : IsText (set cs i d) ls (set ss i (n - before + after)) f

pub changed_text : (g : CellData → CellData) (cs : List (List CellData)) (ls ss : List ℕ) (f : Option ChunkData) (i o n before after : ℕ)
    (was d : List CellData) (x : CellData)
    → IsText cs ls ss f → i < length cs → o < length (get_or cs i []) → was ≡ get_or cs i was → d ≡ change_at o g was → n ≡ get_or ss i 0
    → before ≡ flag_of (get_or was o x) → after ≡ flag_of (get_or d o x) → IsChangedIn g cs ls ss f i o n before after d
changed_text g cs ls ss f i o n before after was d x t lt within read change is_n is_before is_after =
    let same : was ≡ get_or cs i [] = get_or_read cs i was lt read [] in
    let new : d ≡ change_at o g (get_or cs i []) = change ∙ ap (λ (s : List CellData). change_at o g s) same in
    let b = is_before ∙ ap (λ (s : List CellData). flag_of (get_or s o x)) same in
    let a = is_after ∙ ap (λ (s : List CellData). flag_of (get_or s o x)) new in
    let again = counted_again g (get_or cs i []) o n before after x within (is_n ∙ shown_at cs ls ss f i t lt) b a in
    let long = length-change g (get_or cs i []) o in
    let now =
    chunk_changed cs ls ss f i (n - before + after) d t lt (ap (λ (s : List CellData). length s) new ∙ long)
    (again.1 ∙ ap (λ (s : List CellData). shown_in s) (sym new)) in
    let one = length-filter-le cell_shown (change_at o g (get_or cs i [])) in
    let lens = lens_long cs ls ss f t in
    let part = part-le ls i (omega (arith, lens.0)) in
    let len = len_at cs ls ss f i t lt in
    let was_all = text-len cs ls ss f t in
    record { chunk = new; low = again.0; shown = omega (arith, again.1); all = now.all; text = now.text }
