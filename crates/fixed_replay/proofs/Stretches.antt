-- Stretches: what a gap is among cells, where it starts, and how one more insert narrows it.
use Rattle.std.proofs.Common.{◌≡◌, ℕ, zero, suc, ◌+◌, ◌<◌, ◌≤◌, Bool, true, false, ◌||◌, List, [], ◌∷◌, ◌++◌, length, take, drop, filter, if◌then◌else◌, ◌≢◌, ◌⊎◌, inl, inr, refl, ap, sym, ◌∙◌, subst, arith, append_assoc, append-nil, take-append-drop}
use Rattle.std.proofs.lemmas.Bool.{both_ways, cases_Bool, false_from_ne_true}
use Rattle.transform_rec.proofs.CallerLemmas.{in_left, in_right, count-append, length-count, filter-append, filter_all, count, either, EachAt}
use Rattle.std.specs.List.{list_any}
use Rattle.std.proofs.Math.Seq.{take-append_seam, drop-append_seam}
use Rattle.ttf_form.specs.Laws.Places.{IsMoved}
use Rattle.context_diff.specs.Gaps.{Gap, until, onward, through, beyond, gap, narrow}
use Rattle.transform_rec.specs.Lists.{IsIn}
use Rattle.fixed_replay.proofs.Elements.{not_both}
use Rattle.fixed_replay.proofs.Counts.{count-either, any_count, count_any, count_all, AreDisjoint, each-append, each-late, each-between, each-early, begins-late, BeginsIn, EndsIn, ends-more, ends-append, ends-cons, begins-more, begins-append}

no_length : {K : Type 0} (xs : List K) → length xs ≡ 0 → xs ≡ []
no_length [] h = refl
no_length (x ∷ xs) h = absurd (omega arith)

-- where no element passes, none is kept
none_kept : {K : Type 0} (p : K → Bool) (xs : List K) → count p xs ≡ 0 → filter p xs ≡ []
none_kept p xs none = no_length (filter p xs) (length-count p xs ∙ none)

-- of elements put among others that fail, the elements put in are kept
pub kept_alone : {K : Type 0} (p : K → Bool) (n : ℕ) (new xs : List K) → count p xs ≡ 0 → ((c : K) → IsIn c new → p c ≡ true)
    → filter p (take n xs ++ (new ++ drop n xs)) ≡ new
kept_alone {K} p n new xs none pass =
    let parts = count-append p (take n xs) (drop n xs) in
    let whole = ap (count p) (take-append-drop n xs) in
    let before = none_kept p (take n xs) (omega (arith, parts, whole, none)) in
    let behind = none_kept p (drop n xs) (omega (arith, parts, whole, none)) in
    filter-append p (take n xs) (new ++ drop n xs)
    ∙ (ap (λ (ys : List K). ys ++ filter p (new ++ drop n xs)) before
    ∙ (filter-append p new (drop n xs)
    ∙ ((λ i. filter_all p new pass i ++ behind i) ∙ append-nil new)))

-- what is kept of the elements that pass another test, where all that are kept pass that
pub kept_within : {K : Type 0} (p q : K → Bool) → ((c : K) → p c ≡ true → q c ≡ true) → (xs : List K)
    → filter p (filter q xs) ≡ filter p xs
kept_within p q h [] = refl
kept_within p q h (x ∷ xs) =
    let rest = kept_within p q h xs in
    elim (cases_Bool (q x)) [
      | inl k ↦ rw (k, rest) refl
      | inr k ↦ let fails : p x ≡ false = false_from_ne_true (p x) (λ e. both_ways (q x) k (h x e)) in rw (k, fails) rest
    ]

-- the four parts of a list

pub until-onward : {K : Type 0} (p : K → Bool) (xs : List K) → until p xs ++ onward p xs ≡ xs
unfolding until onward
until-onward p [] = refl
until-onward {K} p (x ∷ xs) =
    elim (cases_Bool (p x)) [ inl h ↦ rw h refl | inr h ↦ rw h (ap (λ (ys : List K). x ∷ ys) (until-onward p xs)) ]

pub until_none : {K : Type 0} (p : K → Bool) (xs : List K) → count p (until p xs) ≡ 0
unfolding until
until_none p [] = refl
until_none p (x ∷ xs) = elim (cases_Bool (p x)) [ inl h ↦ rw h refl | inr h ↦ rw (h, h, until_none p xs) refl ]

pub onward_begins : {K : Type 0} (p : K → Bool) (xs : List K) → BeginsIn p (onward p xs)
unfolding onward
onward_begins p [] = tt
onward_begins p (x ∷ xs) = elim (cases_Bool (p x)) [ inl h ↦ rw h h | inr h ↦ rw h (onward_begins p xs) ]

pub through-beyond : {K : Type 0} (p : K → Bool) (xs : List K) → through p xs ++ beyond p xs ≡ xs
unfolding through beyond
through-beyond p [] = refl
through-beyond {K} p (x ∷ xs) =
    elim (cases_Bool (p x || list_any p xs)) [ inl h ↦ rw h (ap (λ (ys : List K). x ∷ ys) (through-beyond p xs)) | inr h ↦ rw h refl ]

pub beyond_none : {K : Type 0} (p : K → Bool) (xs : List K) → count p (beyond p xs) ≡ 0
unfolding beyond
beyond_none p [] = refl
beyond_none p (x ∷ xs) =
    elim (cases_Bool (p x || list_any p xs)) [ inl h ↦ rw h (beyond_none p xs) | inr h ↦ rw h (count_any p (x ∷ xs) h) ]

through_some : {K : Type 0} (p : K → Bool) (xs : List K) → list_any p xs ≡ true → through p xs ≡ [] → ⊥
unfolding through
through_some p [] h e = not_both h refl
through_some {K} p (y ∷ ys) h e = let k : (p y || list_any p ys) ≡ true = h in let u : y ∷ through p ys ≡ [] = rw k at e in cc

ends_through : {K : Type 0} (p : K → Bool) (x : K) (xs : List K) → (p x || list_any p xs) ≡ true → through p xs ≡ [] → p x ≡ true
ends_through p x xs h e = elim (cases_Bool (p x)) [ inl k ↦ k | inr k ↦ absurd (through_some p xs (rw k at h) e) ]

pub through_ends : {K : Type 0} (p : K → Bool) (xs : List K) → EndsIn p (through p xs)
unfolding through
through_ends p [] = tt
through_ends p (x ∷ xs) =
    elim (cases_Bool (p x || list_any p xs))
    [ inl h ↦ rw h (ends-cons p x (through p xs) (through_ends p xs) (ends_through p x xs h)) | inr h ↦ rw h tt ]

-- without an element that passes

pub until_all : {K : Type 0} (p : K → Bool) (xs : List K) → count p xs ≡ 0 → until p xs ≡ xs
unfolding until
until_all p [] h = refl
until_all {K} p (x ∷ xs) h =
    elim (cases_Bool (p x)) [
      | inl k ↦ let e : 1 + count p xs ≡ 0 = rw k at h in absurd (omega arith)
      | inr k ↦ let e : 0 + count p xs ≡ 0 =
          rw k at h in rw k (ap (λ (ys : List K). x ∷ ys) (until_all p xs (omega arith)))
    ]

pub onward_nothing : {K : Type 0} (p : K → Bool) (xs : List K) → count p xs ≡ 0 → onward p xs ≡ []
unfolding onward
onward_nothing p [] h = refl
onward_nothing p (x ∷ xs) h =
    elim (cases_Bool (p x)) [
      | inl k ↦ let e : 1 + count p xs ≡ 0 = rw k at h in absurd (omega arith)
      | inr k ↦ let e : 0 + count p xs ≡ 0 =
          rw k at h in rw k (onward_nothing p xs (omega arith))
    ]

pub through_nothing : {K : Type 0} (p : K → Bool) (xs : List K) → count p xs ≡ 0 → through p xs ≡ []
unfolding through
through_nothing p [] h = refl
through_nothing p (x ∷ xs) h = let e : (p x || list_any p xs) ≡ false = any_count p (x ∷ xs) h in rw e refl

pub beyond_all : {K : Type 0} (p : K → Bool) (xs : List K) → count p xs ≡ 0 → beyond p xs ≡ xs
unfolding beyond
beyond_all p [] h = refl
beyond_all p (x ∷ xs) h = let e : (p x || list_any p xs) ≡ false = any_count p (x ∷ xs) h in rw e refl

-- the three lists of a gap are the whole
abbrev pub whole_of : {K : Type 0} → Gap K → List K
whole_of g = g.before ++ (g.between ++ g.behind)

pub gap_whole : {K : Type 0} (p : K → Bool) (n : ℕ) (S : List K) → whole_of (gap p n S) ≡ S
unfolding gap
gap_whole p zero S = until-onward p S
gap_whole p (suc n) [] = refl
gap_whole {K} p (suc n) (c ∷ cs) = ap (λ (ys : List K). c ∷ ys) (gap_whole p (if p c then n else suc n) cs)

pub narrow_whole : {K : Type 0} (left : Bool) (x : K → Bool) (g : Gap K) → whole_of (narrow left x g) ≡ whole_of g
narrow_whole {K} true x g =
    append_assoc g.before (through x g.between) (beyond x g.between ++ g.behind)
    ∙ ap (λ (ys : List K). g.before ++ ys)
    (sym (append_assoc (through x g.between) (beyond x g.between) g.behind)
    ∙ ap (λ (ys : List K). ys ++ g.behind) (through-beyond x g.between))
narrow_whole {K} false x g =
    ap (λ (ys : List K). g.before ++ ys)
    (sym (append_assoc (until x g.between) (onward x g.between) g.behind) ∙ ap (λ (ys : List K). ys ++ g.behind) (until-onward x g.between))

-- an insert with no cell in the gap leaves it
pub narrow_none : {K : Type 0} (left : Bool) (x : K → Bool) (g : Gap K) → count x g.between ≡ 0 → narrow left x g ≡ g
narrow_none true x g h = rw (through_nothing x g.between h, beyond_all x g.between h, append-nil) refl
narrow_none false x g h = rw (until_all x g.between h, onward_nothing x g.between h) refl

-- the gap after n cells of p: none of p between, and one of p at each end or no cell
pub record Stretch {K : Type 0} (S : List K) (p : K → Bool) (n : ℕ) (g : Gap K) : Type 0 where
  pub whole : S ≡ whole_of g
  pub at : count p g.before ≡ n
  pub free : count p g.between ≡ 0
  pub ends : EndsIn p g.before
  pub begins : BeginsIn p g.behind

grown_count : {K : Type 0} (p : K → Bool) (n : ℕ) (c : K) (cs : List K) → count p cs ≡ (if p c then n else suc n) → count p (c ∷ cs) ≡ suc n
grown_count p n c cs h =
    elim (cases_Bool (p c)) [
      | inl k ↦ let e : count p cs ≡ n = rw k at h in rw k (omega arith)
      | inr k ↦ let e : count p cs ≡ suc n =
          rw k at h in rw k (omega arith)
    ]

grown_end : {K : Type 0} (p : K → Bool) (n : ℕ) (c : K) (cs : List K) → count p cs ≡ (if p c then n else suc n) → cs ≡ [] → p c ≡ true
grown_end p n c cs h e =
    elim (cases_Bool (p c)) [
      | inl k ↦ k
      | inr k ↦ let u : count p cs ≡ suc n = rw k at h in let v : count p cs ≡ 0 = ap (count p) e in
          absurd (omega arith)
    ]

grown : {K : Type 0} (p : K → Bool) (n : ℕ) (c : K) (cs : List K) (g : Gap K) → Stretch cs p (if p c then n else suc n) g
    → Stretch (c ∷ cs) p (suc n) (record g { before = c ∷ g.before })
grown {K} p n c cs g s = record {
  whole = ap (λ (ys : List K). c ∷ ys) s.whole;
  at = grown_count p n c g.before s.at;
  free = s.free;
  ends = ends-cons p c g.before s.ends (grown_end p n c g.before s.at);
  begins = s.begins;
}

fewer : {K : Type 0} (p : K → Bool) (n : ℕ) (c : K) (cs : List K) → suc n ≤ count p (c ∷ cs) → (if p c then n else suc n) ≤ count p cs
fewer p n c cs h =
    elim (cases_Bool (p c)) [
      | inl k ↦ let e : suc n ≤ 1 + count p cs = rw k at h in
          rw k (omega arith)
      | inr k ↦ let e : suc n ≤ 0 + count p cs = rw k at h in rw k (omega arith)
    ]

pub start : {K : Type 0} (p : K → Bool) (n : ℕ) (S : List K) → n ≤ count p S → Stretch S p n (gap p n S)
unfolding gap
start p zero S h = record { whole = sym (until-onward p S); at = refl; free = until_none p S; ends = tt; begins = onward_begins p S }
start p (suc n) [] h = absurd (omega arith)
start p (suc n) (c ∷ cs) h = grown p n c cs (gap p (if p c then n else suc n) cs) (start p (if p c then n else suc n) cs (fewer p n c cs h))

pub three : (n q : ℕ) → (q < n) ⊎ ((n < q) ⊎ (n ≡ q))
three zero zero = inr (inr refl)
three zero (suc q) = inr (inl (omega arith))
three (suc n) zero = inl (omega arith)
three (suc n) (suc q) =
    elim (three n q) [ inl h ↦ inl (omega arith) | inr h ↦ elim h [ inl k ↦ inr (inl (omega arith)) | inr k ↦ inr (inr (ap suc k)) ] ]

pub either_right : {K : Type 0} (p x : K → Bool) (c : K) → x c ≡ true → either p x c ≡ true
either_right p x c h = elim (cases_Bool (p c)) [ inl k ↦ rw k refl | inr k ↦ rw (k, h) refl ]

module _ {K : Type 0} (S : List K) (p x : K → Bool) (disjoint : AreDisjoint p x) (q : ℕ) (each : EachAt p x q 0 S) (n : ℕ) (g : Gap K)
    (s : Stretch S p n g) where
  -- the cells of x in the three lists
  parts : EachAt p x q 0 g.before × EachAt p x q n g.between × EachAt p x q n g.behind
  parts =
      let e : EachAt p x q 0 (whole_of g) = subst (λ (xs : List K). EachAt p x q 0 xs) s.whole each in
      let a = each-append p x q 0 g.before (g.between ++ g.behind) e in
      let at : count p g.before + 0 ≡ n = let m = s.at in omega arith in
      let b = each-append p x q (count p g.before + 0) g.between g.behind a.1 in (
        a.0,
        subst (λ (k : ℕ). EachAt p x q k g.between) at b.0,
        subst (λ (k : ℕ). EachAt p x q k g.behind) (let f = s.free in let m = s.at in omega arith) b.1,
      )

  all_x : count x S ≡ count x g.before + (count x g.between + count x g.behind)
  all_x = ap (count x) s.whole ∙ count-append x g.before (g.between ++ g.behind)
      ∙ ap (λ (k : ℕ). count x g.before + k) (count-append x g.between g.behind)

  ends_either : EndsIn (either p x) g.before
  ends_either = ends-more p (either p x) (λ c h. rw h refl) g.before s.ends

  begins_either : BeginsIn (either p x) g.behind
  begins_either = begins-more p (either p x) (λ c h. rw h refl) g.behind s.begins

  -- none of x between: the gap stays
  stays : (n' : ℕ) (left : Bool) → count x g.between ≡ 0 → n' ≡ n + count x g.before → Stretch S (either p x) n' (narrow left x g)
  stays n' left none e = rw (narrow_none left x g none) (record {
    whole = s.whole;
    at = let a = count-either p x disjoint g.before in let b = s.at in omega arith;
    free = let a = count-either p x disjoint g.between in let b = s.free in omega arith;
    ends = ends_either;
    begins = begins_either;
  })

  -- the last one becomes the left neighbour
  to_left : (n' : ℕ) → count x g.before ≡ 0 → count x g.behind ≡ 0 → n' ≡ n + count x S → Stretch S (either p x) n' (narrow true x g)
  to_left n' no_before no_behind e = record {
    whole = s.whole ∙ sym (narrow_whole true x g);
    at =
        let a = count-either p x disjoint (g.before ++ through x g.between) in
        let b = count-append p g.before (through x g.between) in
        let c = count-append x g.before (through x g.between) in
        let d = count_parts p in let f = count_parts x in
        let h = beyond_none x g.between in let k = all_x in
        let at = s.at in let free = s.free in omega arith;
    free =
        let a = count-either p x disjoint (beyond x g.between) in
        let d = count_parts p in let h = beyond_none x g.between in let free = s.free in omega arith;
    ends = ends-append (either p x) g.before (through x g.between) ends_either
        (ends-more x (either p x) (either_right p x) (through x g.between) (through_ends x g.between));
    begins = begins_either;
  }
    where
      count_parts : (r : K → Bool) → count r g.between ≡ count r (through x g.between) + count r (beyond x g.between)
      count_parts r = ap (count r) (sym (through-beyond x g.between)) ∙ count-append r (through x g.between) (beyond x g.between)

  -- the first one becomes the right neighbour
  to_right : (n' : ℕ) → count x g.before ≡ 0 → n' ≡ n → Stretch S (either p x) n' (narrow false x g)
  to_right n' no_before e = record {
    whole = s.whole ∙ sym (narrow_whole false x g);
    at = let a = count-either p x disjoint g.before in let at = s.at in omega arith;
    free =
        let a = count-either p x disjoint (until x g.between) in
        let d = ap (count p) (sym (until-onward x g.between)) ∙ count-append p (until x g.between) (onward x g.between) in
        let h = until_none x g.between in let free = s.free in omega arith;
    ends = ends_either;
    begins = begins-append (either p x) (onward x g.between) g.behind
        (begins-more x (either p x) (either_right p x) (onward x g.between) (onward_begins x g.between)) begins_either;
  }

  -- all cells of x are between, or none is
  pub all_or_none : (filter x g.between ≡ []) ⊎ (filter x g.between ≡ filter x S)
  all_or_none = by_place (three n q)
    where
      none : n ≢ q → filter x g.between ≡ []
      none other = none_kept x g.between (each-between p x q n g.between s.free other parts.1)

      by_place : (q < n) ⊎ ((n < q) ⊎ (n ≡ q)) → (filter x g.between ≡ []) ⊎ (filter x g.between ≡ filter x S)
      by_place (inl h) = inl (none (λ e. absurd (omega (arith, h, e))))
      by_place (inr (inl h)) = inl (none (λ e. absurd (omega (arith, h, e))))
      by_place (inr (inr h)) =
          let before = none_kept x g.before (each-early p x disjoint q 0 g.before s.ends (let at = s.at in omega arith) parts.0) in
          let behind = none_kept x g.behind (begins-late p x disjoint q n g.behind s.begins (omega arith) parts.2) in
          inr (sym (ap (filter x) s.whole
          ∙ (filter-append x g.before (g.between ++ g.behind)
          ∙ (ap (λ (ys : List K). ys ++ filter x (g.between ++ g.behind)) before
          ∙ (filter-append x g.between g.behind
          ∙ (ap (λ (ys : List K). filter x g.between ++ ys) behind ∙ append-nil (filter x g.between)))))))

  -- the insert of x has its cells in one of the three lists, by its place and by the tie
  pub walk_step : (left : Bool) (n' : ℕ) → IsMoved n q (count x S) left n' → Stretch S (either p x) n' (narrow left x g)
  walk_step left n' m = by_place (three n q)
    where
      by_place : (q < n) ⊎ ((n < q) ⊎ (n ≡ q)) → Stretch S (either p x) n' (narrow left x g)
      by_place (inl h) =
          let b = each-between p x q n g.between s.free (λ (f : n ≡ q). absurd (omega arith)) parts.1 in
          let c = each-late p x q n g.behind h parts.2 in
          let k = all_x in let e = m.less h in
          stays n' left b (omega arith)
      by_place (inr (inl h)) =
          let a = each-early p x disjoint q 0 g.before s.ends (let at = s.at in omega arith) parts.0 in
          let b = each-between p x q n g.between s.free (λ (f : n ≡ q). absurd (omega arith)) parts.1 in
          let e = m.more h in
          stays n' left b (omega arith)
      by_place (inr (inr h)) = tie left refl
        where
          no_before : count x g.before ≡ 0
          no_before = each-early p x disjoint q 0 g.before s.ends (let at = s.at in omega arith) parts.0

          no_behind : count x g.behind ≡ 0
          no_behind = begins-late p x disjoint q n g.behind s.begins (omega arith) parts.2

          tie : (l : Bool) → left ≡ l → Stretch S (either p x) n' (narrow left x g)
          tie true t = rw t (to_left n' no_before no_behind (m.tie_left h t))
          tie false t = rw t (to_right n' no_before (m.tie_right h t))

seam : {K : Type 0} (xs new ys : List K) (n : ℕ) → length xs ≡ n → xs ++ (new ++ ys) ≡ take n (xs ++ ys) ++ (new ++ drop n (xs ++ ys))
seam xs new ys n h = rw (← h, take-append_seam xs ys, drop-append_seam xs ys) refl

-- when all cells pass, the gap after n of them is the place n
pub whole_gap : {K : Type 0} (S new : List K) (p : K → Bool) (n : ℕ) (g : Gap K) → Stretch S p n g → ((c : K) → IsIn c S → p c ≡ true)
    → g.before ++ (g.between ++ (new ++ g.behind)) ≡ take n S ++ (new ++ drop n S)
whole_gap {K} S new p n g s all =
    let in_whole = λ (c : K) (i : IsIn c (whole_of g)). all c (subst (λ (xs : List K). IsIn c xs) (sym s.whole) i) in
    let before = count_all p g.before (λ c i. in_whole c (in_left c g.before (g.between ++ g.behind) i)) in
    let between =
    count_all p g.between (λ c i. in_whole c (in_right c g.before (g.between ++ g.behind) (in_left c g.between g.behind i))) in
    let free = s.free in
    let none : g.between ≡ [] = no_length g.between (omega arith) in
    let at = s.at in
    let e : S ≡ g.before ++ g.behind = s.whole ∙ ap (λ (ys : List K). g.before ++ (ys ++ g.behind)) none in
    rw (none, e) (seam g.before new g.behind n (omega arith))
