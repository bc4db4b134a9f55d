-- Lists of sites with their counts, and of undone names: each is read where it is spelled, and nothing else is.
use Rattle.std.proofs.Common.{◌≡◌, ℕ, ◌+◌, ◌<◌, ◌≤◌, Bool, true, false, ◌==◌, List, [], ◌∷◌, ◌++◌, length, map, codes, bytes_eq, decimal, get_or, Option, Some, None, refl, sym, ap, ap₂, ◌∙◌, subst, arith, le-leb, leb-true, ne_eqb, option_map, append_assoc}
use Rattle.std.specs.Prelude.{if◌then◌else◌, is_some, unwrap_or}
use Rattle.std.specs.Int.{IsInRange}
use Rattle.std.specs.List.{slice_split, join_with_byte, All}
use Rattle.std.proofs.lemmas.Bool.{cond_both}
use Rattle.std.proofs.lemmas.List.{append-nil, get_or_default}
use Rattle.std.proofs.lemmas.List.Splits.{slice_split-cons_yes, slice_split-cons_no, slice_split_none, slice_split_at, length-slice_split, join_with_byte-slice_split}
use Rattle.std.proofs.lemmas.Slice.Eq.{bytes_eq-Decides}
use Rattle.op_name.specs.NameData.{NameData, IsName, IsBefore, name_lt}
use Rattle.op_name.specs.declared.name.TheConstants.{SITES, NUMBERS}
use Rattle.op_name.specs.declared.member.TheConstants.{GENERATIONS}
use Rattle.op_name.proofs.CallerLemmas.{name_transitive}
use Rattle.context_vector.specs.Contexts.{ContextData, AreCounts, AreEntries, empty}
use Rattle.context_vector.specs.Vectors.{SitesBelow, NamesBelow}
use Rattle.site_answers.specs.Names.{name_text, group_text}
use Rattle.script_text.specs.Fields.{cut, tested, name_of, generation_of, site_of, IsSite, IsNameText, IsGeneration, ◌>>=◌}
use Rattle.script_text.specs.Report.{listed, count_text}
use Rattle.script_text.specs.Sets.{items_of, originals_of, site_count_of, undone_of, rising_of, comes_from, comes_after, counts_of, entries_of, set_of, set_or_empty, IsSetText}
use Rattle.script_text.proofs.FieldLaws.{Lacks, Reads, and_then_some, some_is, some_if, tested_reads, from_one_reads, pair_reads, number_lacks, site_reads, site_lacks, name_reads}
use Rattle.script_text.proofs.MemberLaws.{lacks_first, lacks_both, name_lacks, generation_reads, spelled}

-- ---- what stands between commas

-- the cut of a list that begins with x, by that of the rest
abbrev cut_further : Bool → ℕ → List ℕ → Option (List ℕ × List ℕ) → Option (List ℕ × List ℕ)
cut_further t x bs r = if t then Some ([], bs) else option_map (λ q. (x ∷ q.0, q.1)) r

-- a list that is cut at its first comma has the first item, and those after it
pub split_cut : (c : ℕ) (bs a b : List ℕ) → cut c bs ≡ Some (a, b) → slice_split (λ x. x == c) bs ≡ a ∷ slice_split (λ x. x == c) b
unfolding cut
split_cut c [] a b e = cc
split_cut c (x ∷ bs) a b e = by (λ q is. split_cut c bs q.0 q.1 is) (x == c) refl (cut c bs) refl e
  where
    by : ((q : List ℕ × List ℕ) → cut c bs ≡ Some q → slice_split (λ y. y == c) bs ≡ q.0 ∷ slice_split (λ y. y == c) q.1) → (t : Bool)
        → (x == c) ≡ t → (r : Option (List ℕ × List ℕ)) → cut c bs ≡ r → cut_further t x bs r ≡ Some (a, b)
        → slice_split (λ y. y == c) (x ∷ bs) ≡ a ∷ slice_split (λ y. y == c) b
    by later true t r is e =
        let same = some_is ([], bs) (a, b) e in
        slice_split-cons_yes (λ y. y == c) x bs t
        ∙ ap (λ (q : List ℕ × List ℕ). q.0 ∷ slice_split (λ y. y == c) q.1) same
    by later false t None is e = cc
    by later false t (Some q) is e =
        let same = some_is (x ∷ q.0, q.1) (a, b) e in
        slice_split-cons_no (λ y. y == c) x bs t
        ∙ rw (later q is) (ap (λ (p : List ℕ × List ℕ). p.0 ∷ slice_split (λ y. y == c) p.1) same)

-- one without a comma is one item
pub split_uncut : (c : ℕ) (bs : List ℕ) → cut c bs ≡ None → slice_split (λ x. x == c) bs ≡ bs ∷ []
unfolding cut
split_uncut c [] e = refl
split_uncut c (x ∷ bs) e = by (λ is. split_uncut c bs is) (x == c) refl (cut c bs) refl e
  where
    by : (cut c bs ≡ None → slice_split (λ y. y == c) bs ≡ bs ∷ []) → (t : Bool)
        → (x == c) ≡ t → (r : Option (List ℕ × List ℕ)) → cut c bs ≡ r → cut_further t x bs r ≡ None
        → slice_split (λ y. y == c) (x ∷ bs) ≡ (x ∷ bs) ∷ []
    by later true t r is e = cc
    by later false t None is e = slice_split-cons_no (λ y. y == c) x bs t ∙ rw (later is) refl
    by later false t (Some q) is e = cc

joined : (ws : List (List ℕ)) → 0 < length ws → listed ws ≡ join_with_byte 44 ws
joined [] some = absurd (omega arith)
joined (w ∷ ws) some = refl

-- the items, listed, are the list
listed_items : (bs : List ℕ) → listed (items_of bs) ≡ bs
unfolding items_of
listed_items bs =
    cond_both (bytes_eq bs (codes "-")) [] (slice_split (λ b. b == 44) bs) (λ ws. listed ws ≡ bs)
    (λ t. sym ((bytes_eq-Decides bs (codes "-")).0 t))
    (λ t. joined (slice_split (λ b. b == 44) bs) (omega (arith, length-slice_split (λ b. b == 44) bs)) ∙ join_with_byte-slice_split 44 bs)

lacking : (c : ℕ) (a : List ℕ) → Lacks c a → All (λ x. (x == c) ≡ false) a
lacking c a lacks = λ k d lt. ne_eqb (get_or a k d) c (λ e. lacks k lt (get_or_default a k 0 d lt ∙ e))

-- ---- lists of items

module _ {X S : Type 0} (comes : S → X → Bool) (key : X → S) (read : List ℕ → Option X) (text : X → List ℕ) (InRange : X → Type 0)
    (reads : Reads read (λ bs x. (bs ≡ text x) × InRange x)) where
  -- each is in range, and comes after the one before it
  abbrev Rises : S → List X → Type 0
  Rises last [] = Unit {0}
  Rises last (x ∷ xs) = (comes last x ≡ true) × InRange x × Rises (key x) xs

  rising_from : (last : S) (ws : List (List ℕ)) (xs : List X) → rising_of comes key read last ws ≡ Some xs
      → (ws ≡ map text xs) × Rises last xs
  rising_from last [] xs e = subst (λ (ys : List X). ([] ≡ map text ys) × Rises last ys) (some_is [] xs e) (refl, tt)
  rising_from last (w ∷ ws) xs e =
      let x = and_then_some (tested (comes last) read w) _ xs e in
      let rest = and_then_some (rising_of comes key read (key x.0) ws) _ xs x.2 in
      let one = (tested_reads (comes last) read (λ bs y. (bs ≡ text y) × InRange y) reads).from w x.0 x.1 in
      let more = rising_from (key x.0) ws rest.0 rest.1 in
      subst (λ (ys : List X). (w ∷ ws ≡ map text ys) × Rises last ys) (some_is (x.0 ∷ rest.0) xs rest.2)
      (ap₂ (λ (a : List ℕ) (b : List (List ℕ)). a ∷ b) one.0.0 more.0, (one.1, one.0.1, more.1))

  rising_to : (last : S) (xs : List X) → Rises last xs → rising_of comes key read last (map text xs) ≡ Some xs
  rising_to last [] r = refl
  rising_to last (x ∷ xs) r =
      let one = (tested_reads (comes last) read (λ bs y. (bs ≡ text y) × InRange y) reads).to (text x) x ((refl, r.1), r.0) in
      ap (λ (o : Option X). o >>= λ y. rising_of comes key read (key y) (map text xs) >>= λ ys. Some (y ∷ ys)) one
      ∙ ap (λ (o : Option (List X)). o >>= λ ys. Some (x ∷ ys)) (rising_to (key x) xs r.2)

  module _ (lacks : (x : X) → InRange x → Lacks 44 (text x)) (dash : read (codes "-") ≡ None) where
    split_listed : (x : X) (xs : List X) → InRange x → Rises (key x) xs
        → slice_split (λ b. b == 44) (listed (map text (x ∷ xs))) ≡ map text (x ∷ xs)
    split_listed x [] first r = slice_split_none (λ b. b == 44) (text x) (lacking 44 (text x) (lacks x first))
    split_listed x (y ∷ ys) first r =
        slice_split_at (λ b. b == 44) (text x) 44 (listed (map text (y ∷ ys))) (lacking 44 (text x) (lacks x first)) refl
        ∙ ap (λ (ws : List (List ℕ)). text x ∷ ws) (split_listed y ys r.1 r.2)

    -- a list with an item isn't `-`
    no_dash : (x : X) (xs : List X) → InRange x → Rises (key x) xs → listed (map text (x ∷ xs)) ≡ codes "-" → ⊥
    no_dash x xs first r e =
        let items : map text (x ∷ xs) ≡ codes "-" ∷ [] =
        sym (split_listed x xs first r) ∙ ap (λ (bs : List ℕ). slice_split (λ b. b == 44) bs) e in
        let is : text x ≡ codes "-" = cc in
        let none : Some x ≡ None = sym (reads.to (text x) x (refl, first)) ∙ ap read is ∙ dash in
        cc

    items_listed : (last : S) (xs : List X) → Rises last xs → items_of (listed (map text xs)) ≡ map text xs
    unfolding items_of
    items_listed last [] r = refl
    items_listed last (x ∷ xs) r =
        cond_both (bytes_eq (listed (map text (x ∷ xs))) (codes "-")) [] (slice_split (λ b. b == 44) (listed (map text (x ∷ xs))))
        (λ ws. ws ≡ map text (x ∷ xs))
        (λ t. absurd (no_dash x xs r.1 r.2 ((bytes_eq-Decides (listed (map text (x ∷ xs))) (codes "-")).0 t)))
        (λ t. split_listed x xs r.1 r.2)

    list_reads : (last : S)
        → Reads (λ bs. rising_of comes key read last (items_of bs)) (λ bs xs. (bs ≡ listed (map text xs)) × Rises last xs)
    list_reads last = record {
      from = λ bs xs e. let r = rising_from last (items_of bs) xs e in (sym (listed_items bs) ∙ ap listed r.0, r.1);
      to = λ bs xs h. ap (λ (b : List ℕ). rising_of comes key read last (items_of b)) h.0
          ∙ ap (rising_of comes key read last) (items_listed last xs h.1) ∙ rising_to last xs h.1;
    }

-- ---- items taken one after the other

module _ {X S : Type 0} (comes : S → X → Bool) (key : X → S) (read : List ℕ → Option X) where
  -- the items that are left are read as they were after those before them
  pub read_next : (last : S) (w : List ℕ) (old new : List (List ℕ)) (x : X) → old ≡ w ∷ new → Some x ≡ tested (comes last) read w
      → rising_of comes key read last old ≡ option_map (λ xs. x ∷ xs) (rising_of comes key read (key x) new)
  read_next last w old new x is one =
      ap (rising_of comes key read last) is
      ∙ ap (λ (o : Option X). o >>= λ y. rising_of comes key read (key y) new >>= λ ys. Some (y ∷ ys)) (sym one)
      ∙ mapped (rising_of comes key read (key x) new)
    where
      mapped : (o : Option (List X)) → (o >>= λ ys. Some (x ∷ ys)) ≡ option_map (λ xs. x ∷ xs) o
      mapped None = refl
      mapped (Some ys) = refl

  -- one that isn't read ends it
  pub read_none : (last : S) (w : List ℕ) (old new : List (List ℕ)) → old ≡ w ∷ new → None ≡ tested (comes last) read w
      → rising_of comes key read last old ≡ None
  read_none last w old new is none =
      ap (rising_of comes key read last) is
      ∙ ap (λ (o : Option X). o >>= λ y. rising_of comes key read (key y) new >>= λ ys. Some (y ∷ ys)) (sym none)

  pub judged_next : (all : Option (List X)) (last : S) (w : List ℕ) (old new : List (List ℕ)) (x : X)
      → is_some all ≡ is_some (rising_of comes key read last old) → old ≡ w ∷ new → Some x ≡ tested (comes last) read w
      → is_some all ≡ is_some (rising_of comes key read (key x) new)
  judged_next all last w old new x so is one =
      so ∙ ap is_some (read_next last w old new x is one) ∙ same (rising_of comes key read (key x) new)
    where
      same : (o : Option (List X)) → is_some (option_map (λ xs. x ∷ xs) o) ≡ is_some o
      same None = refl
      same (Some xs) = refl

  pub judged_none : (all : Option (List X)) (last : S) (w : List ℕ) (old new : List (List ℕ))
      → is_some all ≡ is_some (rising_of comes key read last old) → old ≡ w ∷ new → None ≡ tested (comes last) read w → false ≡ is_some all
  judged_none all last w old new so is none = sym (so ∙ ap is_some (read_none last w old new is none))

  pub judged_all : (all : Option (List X)) (last : S) (old : List (List ℕ)) → is_some all ≡ is_some (rising_of comes key read last old)
      → old ≡ [] → true ≡ is_some all
  judged_all all last old so is = sym (so ∙ ap (λ (ws : List (List ℕ)). is_some (rising_of comes key read last ws)) is)

  -- what was taken, and what is read of the items that are left, is what is read of all
  abbrev pub IsTaken : Option (List X) → List X → S → List (List ℕ) → Type 0
  IsTaken all taken last left = all ≡ option_map (λ xs. taken ++ xs) (rising_of comes key read last left)

  pub taken_first : (all : Option (List X)) (last : S) (left : List (List ℕ)) → all ≡ rising_of comes key read last left
      → IsTaken all [] last left
  taken_first all last left is = is ∙ same (rising_of comes key read last left)
    where
      same : (o : Option (List X)) → o ≡ option_map (λ xs. [] ++ xs) o
      same None = refl
      same (Some xs) = refl

  pub taken_next : (all : Option (List X)) (taken now : List X) (last : S) (w : List ℕ) (old new : List (List ℕ)) (x : X)
      → IsTaken all taken last old → now ≡ taken ++ x ∷ [] → old ≡ w ∷ new → Some x ≡ tested (comes last) read w
      → IsTaken all now (key x) new
  taken_next all taken now last w old new x so grown is one =
      so ∙ ap (option_map (λ xs. taken ++ xs)) (read_next last w old new x is one)
      ∙ same (rising_of comes key read (key x) new)
      ∙ ap (λ (t : List X). option_map (λ xs. t ++ xs) (rising_of comes key read (key x) new)) (sym grown)
    where
      same : (o : Option (List X))
          → option_map (λ xs. taken ++ xs) (option_map (λ xs. x ∷ xs) o) ≡ option_map (λ xs. (taken ++ x ∷ []) ++ xs) o
      same None = refl
      same (Some xs) = ap Some (sym (append_assoc taken (x ∷ []) xs))

  pub taken_none : (all : Option (List X)) (taken : List X) (last : S) (w : List ℕ) (old new : List (List ℕ))
      → IsTaken all taken last old → old ≡ w ∷ new → None ≡ tested (comes last) read w → all ≡ None
  taken_none all taken last w old new so is none = so ∙ ap (option_map (λ xs. taken ++ xs)) (read_none last w old new is none)

  pub taken_all : (all : Option (List X)) (taken : List X) (last : S) (old : List (List ℕ)) → IsTaken all taken last old → old ≡ []
      → all ≡ Some taken
  taken_all all taken last old so is =
      so ∙ ap (λ (ws : List (List ℕ)). option_map (λ xs. taken ++ xs) (rising_of comes key read last ws)) is
      ∙ ap Some (append-nil taken)

abbrev pub set_with : List (ℕ × ℕ) → List (NameData × ℕ) → ContextData
set_with cs es = record { counts = cs; entries = es }

-- sites below one are below a greater one
pub sites_below : (ps : List (ℕ × ℕ)) (s low : ℕ) → SitesBelow ps s → s ≤ low → SitesBelow ps low
sites_below [] s low b le = tt
sites_below (p ∷ ps) s low b le = (omega (arith, b.0, le), sites_below ps s low b.1 le)

pub site_below : (ps : List (ℕ × ℕ)) (p : ℕ × ℕ) → SitesBelow ps p.0 → SitesBelow (ps ++ p ∷ []) (p.0 + 1)
site_below [] p b = (omega arith, tt)
site_below (q ∷ ps) p b = (omega (arith, b.0), site_below ps p b.1)

name_below : (es : List (NameData × ℕ)) (e : NameData × ℕ) (n : NameData) → NamesBelow es e.0 → name_lt e.0 n ≡ true
    → NamesBelow (es ++ e ∷ []) n
name_below [] e n b lt = (lt, tt)
name_below (d ∷ es) e n b lt = (name_transitive d.0 e.0 n b.0 lt, name_below es e n b.1 lt)

-- the names of the list are before each name that comes after the last one
abbrev pub AllBefore : List (NameData × ℕ) → Option NameData → Type 0
AllBefore es last = (e : NameData × ℕ) → comes_after last e ≡ true → NamesBelow es e.0

pub none_before : (last : Option NameData) → AllBefore [] last
none_before last e comes = tt

pub one_before : (es : List (NameData × ℕ)) (last : Option NameData) (e : NameData × ℕ) → AllBefore es last
    → comes_after last e ≡ true → AllBefore (es ++ e ∷ []) (Some e.0)
one_before es last e all comes = λ d after. name_below es e d.0 (all e comes) after

-- an item that may come comes
pub tested_comes : {X : Type 0} (comes : X → Bool) (read : List ℕ → Option X) (w : List ℕ) (x : X) → Some x ≡ tested comes read w
    → comes x ≡ true
tested_comes comes read w x e =
    let y = and_then_some (read w) _ x (sym e) in
    let p = some_if (comes y.0) y.0 x y.2 in
    ap comes (sym p.1) ∙ p.0

-- one entry more is in the set
pub entry_next : (e : NameData × ℕ) (all : Option (List (NameData × ℕ))) (first old new : ContextData) (last : Option NameData)
    (w : List ℕ) (items left : List (List ℕ))
    → IsTaken comes_after (λ d. Some d.0) undone_of all old.entries last items × AllBefore old.entries last
    × (old ≡ set_with first.counts old.entries)
    → new ≡ set_with old.counts (old.entries ++ e ∷ []) → items ≡ w ∷ left → Some e ≡ tested (comes_after last) undone_of w
    → IsTaken comes_after (λ d. Some d.0) undone_of all new.entries (Some e.0) left × AllBefore new.entries (Some e.0)
    × (new ≡ set_with first.counts new.entries)
entry_next e all first old new last w items left so pushed is read =
    let grown : new.entries ≡ old.entries ++ e ∷ [] = ap (λ (s : ContextData). s.entries) pushed in
    let before : AllBefore (old.entries ++ e ∷ []) (Some e.0) =
    one_before old.entries last e so.1 (tested_comes (comes_after last) undone_of w e read) in (
      taken_next comes_after (λ d. Some d.0) undone_of all old.entries new.entries last w items left e so.0 grown is read,
      subst (λ (es : List (NameData × ℕ)). AllBefore es (Some e.0)) (sym grown) before,
      pushed ∙ ap (λ (cs : List (ℕ × ℕ)). set_with cs (old.entries ++ e ∷ [])) (ap (λ (s : ContextData). s.counts) so.2)
          ∙ ap (set_with first.counts) (sym grown),
    )

-- ---- sites with their counts

AreOriginals : List ℕ → ℕ → Type 0
AreOriginals bs n = (bs ≡ decimal n) × (1 ≤ n) × (n ≤ NUMBERS)

originals_reads : Reads originals_of AreOriginals
unfolding originals_of AreOriginals
originals_reads = let r = from_one_reads NUMBERS (omega arith) in record { from = λ bs n e. r.from bs n e; to = λ bs n h. r.to bs n h }

abbrev IsCounted : ℕ × ℕ → Type 0
IsCounted p = (p.0 < SITES) × (1 ≤ p.1) × (p.1 ≤ NUMBERS)

colon_no_digit : ¬ (IsInRange 48 57 58)
colon_no_digit h = omega (arith, h)

comma_no_digit : ¬ (IsInRange 48 57 44)
comma_no_digit h = omega (arith, h)

site_count_reads : Reads site_count_of (λ bs p. (bs ≡ count_text p) × IsCounted p)
unfolding site_count_of AreOriginals
site_count_reads =
    let pair = pair_reads 58 site_of IsSite originals_of AreOriginals site_reads originals_reads (site_lacks 58 colon_no_digit) in
    record {
      from = λ bs p e.
          let h = pair.from bs p e in
          (h.2 ∙ ap (λ x. x ++ 58 ∷ h.1) h.3.0 ∙ ap (λ y. decimal p.0 ++ 58 ∷ y) h.4.0, (h.3.1, h.4.1, h.4.2));
      to = λ bs p h. pair.to bs p (decimal p.0, decimal p.1, h.0, (refl, h.1.0), (refl, h.1.1, h.1.2));
    }

count_lacks : (p : ℕ × ℕ) → IsCounted p → Lacks 44 (count_text p)
count_lacks p is =
    lacks_both 44 (decimal p.0) (58 ∷ decimal p.1) (number_lacks 44 comma_no_digit (decimal p.0) p.0 (refl, omega (arith, is.0)))
    (lacks_first 44 58 (decimal p.1) (λ e. cc) (number_lacks 44 comma_no_digit (decimal p.1) p.1 (refl, omega (arith, is.2))))

abbrev RisingCounts : ℕ → List (ℕ × ℕ) → Type 0
RisingCounts = Rises comes_from (λ p. p.0 + 1) site_count_of count_text IsCounted site_count_reads

counts_rise : (low : ℕ) (ps : List (ℕ × ℕ)) → RisingCounts low ps → AreCounts low ps
counts_rise low [] r = tt
counts_rise low (p ∷ ps) r = (leb-true low p.0 r.0, r.1.0, r.1.1, r.1.2, counts_rise (p.0 + 1) ps r.2)

rise_counts : (low : ℕ) (ps : List (ℕ × ℕ)) → AreCounts low ps → RisingCounts low ps
rise_counts low [] r = tt
rise_counts low (p ∷ ps) r = (le-leb low p.0 r.0, (r.1, r.2, r.3), rise_counts (p.0 + 1) ps r.4)

no_count : site_count_of (codes "-") ≡ None
unfolding site_count_of cut
no_count = refl

pub counts_reads : Reads counts_of (λ bs cs. (bs ≡ listed (map count_text cs)) × AreCounts 0 cs)
unfolding counts_of
counts_reads =
    let l = list_reads comes_from (λ p. p.0 + 1) site_count_of count_text IsCounted site_count_reads count_lacks no_count 0 in
    record {
      from = λ bs cs e. let h = l.from bs cs e in (h.0, counts_rise 0 cs h.1);
      to = λ bs cs h. l.to bs cs (h.0, rise_counts 0 cs h.1);
    }

-- ---- undone names with their generations

abbrev IsUndone : NameData × ℕ → Type 0
IsUndone e = IsName e.0.site e.0.number × (1 ≤ e.1) × (e.1 ≤ GENERATIONS)

abbrev entry_text : NameData × ℕ → List ℕ
entry_text e = group_text e.0 e.1

undone_reads : Reads undone_of (λ bs e. (bs ≡ entry_text e) × IsUndone e)
unfolding undone_of
undone_reads =
    let pair = pair_reads 47 name_of IsNameText generation_of IsGeneration name_reads generation_reads
    (λ bs n is. subst (Lacks 47) (sym is.0) (name_lacks n (refl, is.1))) in
    record {
      from = λ bs e is.
          let h = pair.from bs e is in
          (h.2 ∙ ap (λ x. x ++ 47 ∷ h.1) h.3.0 ∙ ap (λ y. name_text e.0 ++ 47 ∷ y) h.4.0 ∙ spelled e.0 e.1, (h.3.1, h.4.1, h.4.2));
      to = λ bs e h.
          pair.to bs e (name_text e.0, decimal e.1, h.0 ∙ sym (spelled e.0 e.1), (refl, h.1.0), (refl, h.1.1, h.1.2));
    }

entry_lacks : (e : NameData × ℕ) → IsUndone e → Lacks 44 (entry_text e)
entry_lacks e is =
    lacks_both 44 (decimal e.0.site) (46 ∷ (decimal e.0.number ++ 47 ∷ decimal e.1))
    (number_lacks 44 comma_no_digit (decimal e.0.site) e.0.site (refl, omega (arith, is.0.0)))
    (lacks_first 44 46 (decimal e.0.number ++ 47 ∷ decimal e.1) (λ h. cc)
    (lacks_both 44 (decimal e.0.number) (47 ∷ decimal e.1)
    (number_lacks 44 comma_no_digit (decimal e.0.number) e.0.number (refl, omega (arith, is.0.2)))
    (lacks_first 44 47 (decimal e.1) (λ h. cc)
    (number_lacks 44 comma_no_digit (decimal e.1) e.1 (refl, omega (arith, is.2))))))

abbrev RisingEntries : Option NameData → List (NameData × ℕ) → Type 0
RisingEntries = Rises comes_after (λ e. Some e.0) undone_of entry_text IsUndone undone_reads

comes_before : (n : NameData) (es : List (NameData × ℕ)) → RisingEntries (Some n) es → IsBefore n es
comes_before n [] r = tt
comes_before n (e ∷ es) r = r.0

entries_rise : (last : Option NameData) (es : List (NameData × ℕ)) → RisingEntries last es → AreEntries es
entries_rise last [] r = tt
entries_rise last (e ∷ es) r = (r.1.0, r.1.1, r.1.2, comes_before e.0 es r.2, entries_rise (Some e.0) es r.2)

rise_entries : (last : Option NameData) (es : List (NameData × ℕ)) → ((n : NameData) → last ≡ Some n → IsBefore n es) → AreEntries es
    → RisingEntries last es
rise_entries last [] first r = tt
rise_entries None (e ∷ es) first r =
    (refl, (r.0, r.1, r.2), rise_entries (Some e.0) es (λ n is. subst (λ (m : NameData). IsBefore m es) (some_is e.0 n is) r.3) r.4)
rise_entries (Some m) (e ∷ es) first r =
    (first m refl, (r.0, r.1, r.2), rise_entries (Some e.0) es (λ n is. subst (λ (k : NameData). IsBefore k es) (some_is e.0 n is) r.3) r.4)

no_entry : undone_of (codes "-") ≡ None
unfolding undone_of cut
no_entry = refl

pub entries_reads : Reads entries_of (λ bs es. (bs ≡ listed (map (λ e. group_text e.0 e.1) es)) × AreEntries es)
unfolding entries_of
entries_reads =
    let l = list_reads comes_after (λ e. Some e.0) undone_of entry_text IsUndone undone_reads entry_lacks no_entry None in
    record {
      from = λ bs es e. let h = l.from bs es e in (h.0, entries_rise None es h.1);
      to = λ bs es h. l.to bs es (h.0, rise_entries None es (λ n never. absurd (cc)) h.1);
    }

-- ---- sets

pub set_from : (counts groups : List ℕ) (c : ContextData) → set_of counts groups ≡ Some c → IsSetText counts groups c
unfolding set_of
set_from counts groups c e =
    let cs = and_then_some (counts_of counts) _ c e in
    let es = and_then_some (entries_of groups) _ c cs.2 in
    let first = counts_reads.from counts cs.0 cs.1 in
    let second = entries_reads.from groups es.0 es.1 in
    let all : ContextData = record { counts = cs.0; entries = es.0 } in
    subst (λ (x : ContextData). IsSetText counts groups x) (some_is all c es.2)
    (record { counts = first.0; groups = second.0; in_range = record { counts = first.1; entries = second.1 } })

pub set_to : (counts groups : List ℕ) (c : ContextData) → IsSetText counts groups c → set_of counts groups ≡ Some c
unfolding set_of
set_to counts groups c h =
    rw (
      counts_reads.to counts c.counts (h.counts, h.in_range.counts),
      entries_reads.to groups c.entries (h.groups, h.in_range.entries),
    ) refl

-- ---- what the calls answer

-- two lists spell a set where each is one
pub told_both : (counts groups : List ℕ) → true ≡ is_some (counts_of counts) → is_some (entries_of groups) ≡ is_some (set_of counts groups)
unfolding set_of
told_both counts groups t = by (counts_of counts) t (entries_of groups)
  where
    by : (a : Option (List (ℕ × ℕ))) → true ≡ is_some a → (b : Option (List (NameData × ℕ)))
        → is_some b ≡ is_some (a >>= λ cs. b >>= λ es. Some (set_with cs es))
    by None t b = cc
    by (Some cs) t None = refl
    by (Some cs) t (Some es) = refl

pub told_none : (counts groups : List ℕ) → false ≡ is_some (counts_of counts) → false ≡ is_some (set_of counts groups)
unfolding set_of
told_none counts groups f = by (counts_of counts) f
  where
    by : (a : Option (List (ℕ × ℕ))) → false ≡ is_some a
        → false ≡ is_some (a >>= λ cs. entries_of groups >>= λ es. Some (set_with cs es))
    by None f = refl
    by (Some cs) f = cc

-- where there is one, it is the one or the empty set
pub set_some : (counts groups : List ℕ) → true ≡ is_some (set_of counts groups) → set_of counts groups ≡ Some (set_or_empty counts groups)
set_some counts groups t = by (set_of counts groups) t
  where
    by : (o : Option ContextData) → true ≡ is_some o → o ≡ Some (unwrap_or o empty)
    by None t = cc
    by (Some c) t = refl

pub set_none : (counts groups : List ℕ) → false ≡ is_some (set_of counts groups) → empty ≡ set_or_empty counts groups
set_none counts groups t = by (set_of counts groups) t
  where
    by : (o : Option ContextData) → false ≡ is_some o → empty ≡ unwrap_or o empty
    by None t = refl
    by (Some c) t = cc

pub set_found : (counts groups : List ℕ) (r : Bool) → r ≡ is_some (set_of counts groups) → r ≡ true
    → IsSetText counts groups (set_or_empty counts groups)
set_found counts groups r read t = set_from counts groups (set_or_empty counts groups) (set_some counts groups (sym t ∙ read))

-- a set to which both lists were added
pub set_pushed : (counts groups : List ℕ) (middle all : ContextData) → true ≡ is_some (counts_of counts)
    → true ≡ is_some (entries_of groups)
    → ((cs : List (ℕ × ℕ)) → counts_of counts ≡ Some cs → middle ≡ record empty { counts = cs })
    → ((es : List (NameData × ℕ)) → entries_of groups ≡ Some es → all ≡ record middle { entries = es })
    → all ≡ set_or_empty counts groups
unfolding set_of
set_pushed counts groups middle all s t first second = by (counts_of counts) refl s (entries_of groups) refl t
  where
    by : (a : Option (List (ℕ × ℕ))) → counts_of counts ≡ a → true ≡ is_some a → (b : Option (List (NameData × ℕ)))
        → entries_of groups ≡ b → true ≡ is_some b
        → all ≡ unwrap_or (a >>= λ cs. b >>= λ es. Some (set_with cs es)) empty
    by None is s b same t = cc
    by (Some cs) is s None same t = cc
    by (Some cs) is s (Some es) same t = second es same ∙ ap (λ (m : ContextData). record m { entries = es }) (first cs is)

pub nothing_pushed : (counts groups : List ℕ) → true ≡ is_some (counts_of counts) → false ≡ is_some (entries_of groups)
    → empty ≡ set_or_empty counts groups
nothing_pushed counts groups t f = set_none counts groups (f ∙ told_both counts groups t)

pub no_counts_pushed : (counts groups : List ℕ) → false ≡ is_some (counts_of counts) → empty ≡ set_or_empty counts groups
no_counts_pushed counts groups f = set_none counts groups (told_none counts groups f)
