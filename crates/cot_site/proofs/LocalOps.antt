-- What a site makes may come next in its history.
use Rattle.std.proofs.Common.{◌≡◌, ◌≢◌, ℕ, zero, suc, ◌+◌, ◌*◌, ◌<◌, ◌≤◌, Bool, true, false, inl, inr, List, [], ◌∷◌, ◌++◌, length, map, Result, Ok, Err, refl, ap, sym, subst, ◌∙◌, arith, length-append}
use Rattle.std.specs.Prelude.{Option, Some, None, Contains, slice_get, nat_le, ◌&&◌, ◌==◌, if◌then◌else◌}
use Rattle.std.specs.Char.{IsScalar}
use Rattle.ttf_form.specs.Families.{total_by}
use Rattle.std.proofs.lemmas.Bool.{cases_Bool, cases_lt, true≢false, false≢true, false_from_ne_true, lt-ltb, le-ltb, eq-eqb}
use Rattle.std.proofs.lemmas.Bool.Decides.{nat_tests}
use Rattle.op_name.specs.declared.name.TheConstants.{SITES, NUMBERS}
use Rattle.op_name.specs.declared.member.TheConstants.{GENERATIONS}
use Rattle.op_name.specs.declared.limits.TheConstants.{LETTERS}
use Rattle.context_diff.specs.declared.op.TheConstants.{PLACES, UNDO_ENTRIES}
use Rattle.op_name.specs.NameData.{NameData, IsName}
use Rattle.op_name.specs.declared.member.Member.TheVariants.{Original, Group}
use Rattle.context_vector.specs.Contexts.{ContextData, HasNoStray, has}
use Rattle.context_diff.specs.Operations.{OpData, inserting, deleting, undoing, member_of, cells_put, IsLetters, IsWellFormed}
use Rattle.context_diff.specs.Histories.{is_known, generation_in, context_of_all, all_cells, cells_in, LacksNothing, IsClosed, IsNext, IsValid}
use Rattle.op_name.specs.Members.{is_even}
use Rattle.context_diff.specs.Replays.{Insertion, Cell, insertions_in, is_earlier, put_by, sort_by, run_of, cells_from, gap_of, put, replay, replay_of, is_shown, characters_of}
use Rattle.context_vector.proofs.CallerLemmas.{entry_at_most}
use Rattle.context_diff.proofs.CallerLemmas.{IsComplete, complete, generation_is, group_facts, contains_here, contains_later, holder, known_member, all_is_context, has_number, has_generation}
use Rattle.fixed_replay.proofs.CallerLemmas.{gap_of_whole}
use Rattle.site_answers.specs.declared.local.Local.{Local}
use Rattle.site_answers.specs.declared.local.Local.TheVariants.{PlaceOut, Unknown, NotInForce, InForce, GenerationFull, NumberFull, ContextFull}
use Rattle.cot_site.specs.States.{State}
use Rattle.cot_site.specs.Views.{shown_places_of}
use Rattle.op_name.specs.Lists.{places_from}
use Rattle.visible_view.specs.View.{places_after}
use Rattle.cot_site.specs.Code.Making.{IsHead}
use Rattle.cot_site.specs.Commands.{within_range, place_of_shown, place_behind, count_made, next_name, in_context, numbered, turned, local_run, local_insert, local_delete, local_undo, local_redo}

-- ---- how many cells the replay has

-- how many cells these inserts put
abbrev all_len : List Insertion → ℕ
all_len os = total_by (λ (o : Insertion). o.len) os

more_cells : (a b c new : List Cell) → length (a ++ (b ++ (new ++ c))) ≡ length (a ++ (b ++ c)) + length new
more_cells a b c new =
    omega (
      arith,
      length-append a (b ++ (new ++ c)),
      length-append b (new ++ c),
      length-append new c,
      length-append a (b ++ c),
      length-append b c,
    )

length_run : (n : NameData) (first k : ℕ) → length (run_of n first k) ≡ k
length_run n first zero = refl
length_run n first (suc k) = ap suc (length_run n (suc first) k)

length_put : (o : Insertion) (earlier : List Insertion) (cells : List Cell) → length (put o earlier cells) ≡ length cells + o.len
length_put o earlier cells =
    let g = gap_of o earlier cells in
    let whole = ap length (gap_of_whole o earlier cells) in
    omega (arith, more_cells g.before g.between g.behind (cells_from o), length_run o.name 0 o.len, whole)

length_replay : (os : List Insertion) (earlier : List Insertion) (cells : List Cell)
    → length (replay earlier cells os) ≡ length cells + all_len os
unfolding replay
length_replay [] earlier cells = omega arith
length_replay (o ∷ os) earlier cells =
    omega (arith, length_replay os (earlier ++ o ∷ []) (put o earlier cells), length_put o earlier cells)

len_put_by : (less : Insertion → Insertion → Bool) (x : Insertion) (xs : List Insertion) → all_len (put_by less x xs) ≡ x.len + all_len xs
unfolding put_by
len_put_by less x [] = refl
len_put_by less x (y ∷ ys) = by (less x y) (len_put_by less x ys)
  where
    by : (t : Bool) → all_len (put_by less x ys) ≡ x.len + all_len ys
        → all_len (if t then x ∷ (y ∷ ys) else y ∷ put_by less x ys) ≡ x.len + (y.len + all_len ys)
    by true rest = refl
    by false rest = omega (arith, rest)

len_sort_by : (less : Insertion → Insertion → Bool) (xs : List Insertion) → all_len (sort_by less xs) ≡ all_len xs
unfolding sort_by
len_sort_by less [] = refl
len_sort_by less (x ∷ xs) = len_put_by less x (sort_by less xs) ∙ ap (λ n. x.len + n) (len_sort_by less xs)

-- an insert of a history puts a cell for each of its characters
each_put : (os : List OpData) → all_len (insertions_in os) ≡ all_cells os
each_put [] = refl
each_put (inserting n p text c ∷ os) = ap (λ k. length text + k) (each_put os)
each_put (deleting n p c ∷ os) = omega (arith, each_put os)
each_put (undoing a t g c ∷ os) = omega (arith, each_put os)

-- the replay has the cells of all inserts
pub cells_counted : (h : List OpData) → length (replay_of h) ≡ all_cells h
cells_counted h =
    omega (
      arith,
      length_replay (sort_by is_earlier (insertions_in h)) [] [],
      len_sort_by is_earlier (insertions_in h),
      each_put h,
    )

cells_listed : (os : List OpData) (c : ContextData) → ((o : OpData) → Contains os o → has c (member_of o) ≡ true)
    → cells_in os c ≡ all_cells os
cells_listed [] c there = refl
cells_listed (o ∷ os) c there =
    let rest = cells_listed os c (λ x at. there x (contains_later o os x at)) in
    rw (there o (contains_here o os)) (omega (arith, rest))

-- so has the context of all members
pub all_have : (h : List OpData) → IsComplete h → cells_in h (context_of_all h) ≡ all_cells h
all_have h w = cells_listed h (context_of_all h) (λ o at. w.holds (member_of o) ∙ known_member h o at)

-- each operation puts at most LETTERS cells
pub cells_few : (h : List OpData) → IsValid h → all_cells h ≤ LETTERS * length h
cells_few h valid = of_formed h (complete h valid).formed
  where
    few : (o : OpData) → IsWellFormed o → cells_put o ≤ LETTERS
    few (inserting n p text c) f = f.in_range.2.most
    few (deleting n p c) f = omega arith
    few (undoing a t g c) f = omega arith

    of_formed : (os : List OpData) → ((o : OpData) → Contains os o → IsWellFormed o) → all_cells os ≤ LETTERS * length os
    of_formed [] formed = omega arith
    of_formed (o ∷ os) formed =
        omega (arith, few o (formed o (contains_here o os)), of_formed os (λ x at. formed x (contains_later o os x at)))

-- ---- the context of all members

pub all_ready : (h : List OpData) → IsComplete h → LacksNothing h (context_of_all h)
all_ready h w m there = sym (w.holds m) ∙ there

pub all_closed : (h : List OpData) → IsComplete h → IsClosed h (context_of_all h)
all_closed h w s o n at is site number m there = w.holds m ∙ w.ready o at m there

pub all_stray : (h : List OpData) → IsComplete h → HasNoStray (context_of_all h)
all_stray h w t g there = w.holds (Original t) ∙ (group_facts h w t g (sym (w.holds (Group t g)) ∙ there)).target

-- ---- places

no_place : (v p : ℕ) → slice_get {X = ℕ} [] v ≡ Some p → ⊥
no_place zero p e = cc
no_place (suc v) p e = cc

some_is : (a b : ℕ) → Some a ≡ Some b → a ≡ b
some_is a b e = cc

at_first : (xs : List ℕ) (n p m : ℕ) → ((u : ℕ) → slice_get xs u ≡ Some p → p < suc n + m) → (u : ℕ) → slice_get (n ∷ xs) u ≡ Some p
    → p < n + suc m
at_first xs n p m rest zero e = omega (arith, some_is n p e)
at_first xs n p m rest (suc u) e = omega (arith, rest u e)

at_most : (test : Cell → Bool) (cs : List Cell) (n v p : ℕ) → slice_get (places_from test n cs) v ≡ Some p → p < n + length cs
at_most test [] n v p e = absurd (no_place v p e)
at_most test (c ∷ cs) n v p e = elim (cases_Bool (test c)) [
  | inl so ↦
      at_first (places_from test (suc n) cs) n p (length cs) (λ u f. at_most test cs (suc n) u p f) v
      (sym (ap (λ (b : Bool). slice_get (if b then n ∷ places_from test (suc n) cs else places_from test (suc n) cs) v) so) ∙ e)
  | inr isnt ↦ omega (
    arith,
    at_most test cs (suc n) v p
        (sym (ap (λ (b : Bool). slice_get (if b then n ∷ places_from test (suc n) cs else places_from test (suc n) cs) v) isnt) ∙ e),
  )
]

behind_some : (xs : List ℕ) (v p : ℕ) → slice_get (map suc xs) v ≡ Some p → (q : ℕ) × (slice_get xs v ≡ Some q) × (p ≡ suc q)
behind_some [] v p e = absurd (no_place v p e)
behind_some (x ∷ xs) zero p e = (x, refl, sym (some_is (suc x) p e))
behind_some (x ∷ xs) (suc v) p e = behind_some xs v p e

shown_within : (h : List OpData) (v p : ℕ) → slice_get (shown_places_of h) v ≡ Some p → p < all_cells h
shown_within h v p e = omega (arith, at_most (is_shown h) (replay_of h) 0 v p e, cells_counted h)

behind_within : (h : List OpData) (v p : ℕ) → slice_get (places_after (shown_places_of h)) v ≡ Some p → p ≤ all_cells h
behind_within h zero p e = omega (arith, some_is 0 p e)
behind_within h (suc v) p e = let found = behind_some (shown_places_of h) v p e in omega (arith, shown_within h v found.0 found.1, found.2)

-- a place that an operation may name was there, and is a number in range
pub range_was : (r : Option ℕ) (p : ℕ) → within_range r ≡ Some p → (r ≡ Some p) × (p ≤ PLACES)
range_was None p e = absurd (none_some p e)
  where
    none_some : (p : ℕ) → ◌≡◌ {A = Option ℕ} None (Some p) → ⊥
    none_some p e = cc
range_was (Some q) p e =
    elim (cases_Bool (nat_le q PLACES)) [
      | inl so ↦
          let same : q ≡ p = some_is q p (sym (ap (λ (b : Bool). if b then Some q else None) so) ∙ e) in
          (ap (λ (n : ℕ). Some n) same, grind (arith, nat_tests))
      | inr isnt ↦ absurd (never (sym (ap (λ (b : Bool). if b then Some q else None) isnt) ∙ e))
    ]
  where
    never : ◌≡◌ {A = Option ℕ} None (Some p) → ⊥
    never f = cc

-- each place in range may be named
range_is : (r : Option ℕ) → ((p : ℕ) → r ≡ Some p → p ≤ PLACES) → within_range r ≡ r
range_is None within = refl
range_is (Some p) within =
    let so : nat_le p PLACES ≡ true = (let few = within p refl in grind (arith, nat_tests)) in
    ap (λ (b : Bool). if b then Some p else None) so

-- of at most PLACES cells each place is in range
pub shown_named : (h : List OpData) → all_cells h ≤ PLACES → (v : ℕ) → place_of_shown h v ≡ slice_get (shown_places_of h) v
shown_named h few v = range_is (slice_get (shown_places_of h) v) (λ p e. omega (arith, shown_within h v p e))

pub behind_named : (h : List OpData) → all_cells h ≤ PLACES → (v : ℕ) → place_behind h v ≡ slice_get (places_after (shown_places_of h)) v
behind_named h few v = range_is (slice_get (places_after (shown_places_of h)) v) (λ p e. omega (arith, behind_within h v p e))

-- ---- what a made operation has passed

pub in_context_made : (c : ContextData) (o : OpData) → length c.entries ≤ UNDO_ENTRIES → in_context c o ≡ Ok o
in_context_made c o few =
    ap (λ (b : Bool). if b then Err (ContextFull (length c.entries)) else Ok o) (le-ltb UNDO_ENTRIES (length c.entries) few)

ok_same : (a b : OpData) → ◌≡◌ {A = Result OpData Local} (Ok a) (Ok b) → a ≡ b
ok_same a b e = cc

err_ok : (e : Local) (b : OpData) → ◌≡◌ {A = Result OpData Local} (Err e) (Ok b) → ⊥
err_ok e b is = cc

pub in_context_ok : (c : ContextData) (o p : OpData) → in_context c o ≡ Ok p → (o ≡ p) × (length c.entries ≤ UNDO_ENTRIES)
in_context_ok c o p e =
    elim (cases_lt UNDO_ENTRIES (length c.entries)) [
      | inl more ↦ absurd (err_ok (ContextFull (length c.entries)) p
          (sym (ap (λ (b : Bool). if b then Err (ContextFull (length c.entries)) else Ok o) (lt-ltb UNDO_ENTRIES (length c.entries) more))
          ∙ e))
      | inr few ↦ (ok_same o p (sym (in_context_made c o few) ∙ e), few)
    ]

pub numbered_ok : (s : State) (o p : OpData) → numbered s o ≡ Ok p
    → (count_made s < NUMBERS) × (o ≡ p) × (length (context_of_all s.history).entries ≤ UNDO_ENTRIES)
numbered_ok s o p e =
    elim (cases_lt (count_made s) NUMBERS) [
      | inl free ↦
          let inner =
          in_context_ok (context_of_all s.history) o p
          (sym (ap (λ (b : Bool). if b then in_context (context_of_all s.history) o else Err NumberFull)
          (lt-ltb (count_made s) NUMBERS free)) ∙ e) in
          (free, inner.0, inner.1)
      | inr full ↦ absurd (err_ok NumberFull p
          (sym (ap (λ (b : Bool). if b then in_context (context_of_all s.history) o else Err NumberFull)
          (le-ltb (count_made s) NUMBERS full)) ∙ e))
    ]

-- ---- the operations

-- a character is a text of one
one_letter : (ch : ℕ) → IsScalar ch → IsLetters (ch ∷ [])
one_letter ch scalar = record { some = omega arith; most = omega arith; scalars = ap (λ (b : Bool). b && true) scalar }

module _ (s : State) (valid : IsValid s.history) (site : s.number < SITES) where
  next_unknown : is_known s.history (Original (next_name s)) ≡ false
  next_unknown =
      false_from_ne_true (is_known s.history (Original (next_name s))) (λ e.
      let w = complete s.history valid in
      let there = has_number (context_of_all s.history) (next_name s) (w.holds (Original (next_name s)) ∙ e) in
      let most : count_made s + 1 ≤ count_made s = there.1 in
      omega (arith, most))

  pub insert_next : (v p : ℕ) (text : List ℕ) → IsLetters text → count_made s < NUMBERS
      → length (context_of_all s.history).entries ≤ UNDO_ENTRIES → place_behind s.history v ≡ Some p
      → IsNext s.history (inserting (next_name s) p text (context_of_all s.history))
  insert_next v p text letters free few at =
      let w = complete s.history valid in
      let place = range_was (slice_get (places_after (shown_places_of s.history)) v) p at in
      record {
        formed = record {
          in_range = ((site, omega arith, omega arith), place.1, letters, all_is_context s.history valid, few);
          own = refl;
          target = tt;
          stray = all_stray s.history w;
        };
        new = next_unknown;
        ready = all_ready s.history w;
        closed = λ _. all_closed s.history w;
        placed = omega (arith, all_have s.history w, behind_within s.history v p place.0);
      }

  pub delete_next : (v p : ℕ) → count_made s < NUMBERS → length (context_of_all s.history).entries ≤ UNDO_ENTRIES
      → place_of_shown s.history v ≡ Some p → IsNext s.history (deleting (next_name s) p (context_of_all s.history))
  delete_next v p free few at =
      let w = complete s.history valid in
      let place = range_was (slice_get (shown_places_of s.history) v) p at in
      record {
        formed = record {
          in_range = ((site, omega arith, omega arith), place.1, all_is_context s.history valid, few);
          own = refl;
          target = tt;
          stray = all_stray s.history w;
        };
        new = next_unknown;
        ready = all_ready s.history w;
        closed = λ _. all_closed s.history w;
        placed = omega (arith, all_have s.history w, shown_within s.history v p place.0);
      }

  name_range : (o : OpData) (t : NameData) → IsWellFormed o → member_of o ≡ Original t → IsName t.site t.number
  name_range (inserting n p text c) t f is = let same : n ≡ t = cc in subst (λ (x : NameData). IsName x.site x.number) same f.in_range.0
  name_range (deleting n p c) t f is = let same : n ≡ t = cc in subst (λ (x : NameData). IsName x.site x.number) same f.in_range.0
  name_range (undoing a u g c) t f is = absurd (cc)

  turned_next : (t : NameData) → is_known s.history (Original t) ≡ true → generation_in s.history t + 1 ≤ GENERATIONS → (o : OpData)
      → turned s t ≡ Ok o → IsNext s.history o
  turned_next t known most o e =
      let w = complete s.history valid in
      let made =
      in_context_ok (context_of_all s.history) (undoing s.number t (generation_in s.history t + 1) (context_of_all s.history)) o e in
      let held = holder s.history (Original t) known in
      let new : is_known s.history (Group t (generation_in s.history t + 1)) ≡ false =
      false_from_ne_true (is_known s.history (Group t (generation_in s.history t + 1))) (λ k.
      let there =
      has_generation (context_of_all s.history) t (generation_in s.history t + 1)
      (w.holds (Group t (generation_in s.history t + 1)) ∙ k) in
      omega (arith, there.1, generation_is s.history valid t)) in
      subst (IsNext s.history) made.0 (record {
        formed = record {
          in_range =
              (site, name_range held.op t (w.formed held.op held.there) held.is, omega arith, most, all_is_context s.history valid, made.1);
          own = tt;
          target = (w.holds (Original t) ∙ known, ap (λ g. g + 1) (sym (generation_is s.history valid t)));
          stray = all_stray s.history w;
        };
        new = new;
        ready = all_ready s.history w;
        closed = λ original. absurd (false≢true original);
        placed = tt;
      })

  generation_range : (t : NameData) → generation_in s.history t ≤ GENERATIONS
  generation_range t =
      omega (
        arith,
        generation_is s.history valid t,
        entry_at_most (context_of_all s.history).entries t (all_is_context s.history valid).entries,
      )

  -- ---- the commands

  pub local_run_next : (o : OpData) (v : ℕ) (text : List ℕ) → IsLetters text → local_run s v text ≡ Ok o → IsNext s.history o
  local_run_next o v text letters e = from (place_behind s.history v) refl e
    where
      from : (r : Option ℕ) → place_behind s.history v ≡ r
          → ◌≡◌ {A = Result OpData Local}
          (elim r [
            | None ↦ Err (PlaceOut v (length (characters_of s.history)))
            | Some p ↦
                numbered s (inserting (next_name s) p text (context_of_all s.history))
          ]) (Ok o) → IsNext s.history o
      from None at f = absurd (err_ok (PlaceOut v (length (characters_of s.history))) o f)
      from (Some p) at f =
          let made = numbered_ok s (inserting (next_name s) p text (context_of_all s.history)) o f in
          subst (IsNext s.history) made.1 (insert_next v p text letters made.0 made.2 at)

  pub local_insert_next : (o : OpData) (v ch : ℕ) → IsScalar ch → local_insert s v ch ≡ Ok o → IsNext s.history o
  local_insert_next o v ch scalar e = local_run_next o v (ch ∷ []) (one_letter ch scalar) e

  pub local_delete_next : (o : OpData) (v : ℕ) → local_delete s v ≡ Ok o → IsNext s.history o
  local_delete_next o v e = from (place_of_shown s.history v) refl e
    where
      from : (r : Option ℕ) → place_of_shown s.history v ≡ r
          → ◌≡◌ {A = Result OpData Local}
          (elim r [
            | None ↦ Err (PlaceOut v (length (characters_of s.history)))
            | Some p ↦
                numbered s (deleting (next_name s) p (context_of_all s.history))
          ]) (Ok o) → IsNext s.history o
      from None at f = absurd (err_ok (PlaceOut v (length (characters_of s.history))) o f)
      from (Some p) at f =
          let made = numbered_ok s (deleting (next_name s) p (context_of_all s.history)) o f in
          subst (IsNext s.history) made.1 (delete_next v p made.0 made.2 at)

  pub local_undo_next : (o : OpData) (t : NameData) → local_undo s t ≡ Ok o → IsNext s.history o
  local_undo_next o t e =
      elim (cases_Bool (is_known s.history (Original t))) [
        | inr isnt ↦ absurd (err_ok (Unknown t) o
            (sym (ap (λ (b : Bool). if b then (if is_even (generation_in s.history t) then turned s t
            else Err (NotInForce (generation_in s.history t))) else Err (Unknown t)) isnt) ∙ e))
        | inl known ↦
            let f : (if is_even (generation_in s.history t) then turned s t else Err (NotInForce (generation_in s.history t))) ≡ Ok o =
            sym (ap (λ (b : Bool). if b then (if is_even (generation_in s.history t) then turned s t
            else Err (NotInForce (generation_in s.history t))) else Err (Unknown t)) known) ∙ e in
            elim (cases_Bool (is_even (generation_in s.history t))) [
              | inr odd ↦ absurd (err_ok (NotInForce (generation_in s.history t)) o
                  (sym (ap (λ (b : Bool). if b then turned s t else Err (NotInForce (generation_in s.history t))) odd) ∙ f))
              | inl even ↦
                  let below : generation_in s.history t ≢ GENERATIONS = λ full. false≢true (ap is_even (sym full) ∙ even) in
                  let range = generation_range t in
                  turned_next t known (less (generation_in s.history t) range below) o
                  (sym (ap (λ (b : Bool). if b then turned s t else Err (NotInForce (generation_in s.history t))) even) ∙ f)
            ]
      ]
    where
      less : (g : ℕ) → g ≤ GENERATIONS → g ≢ GENERATIONS → g + 1 ≤ GENERATIONS
      less g le ne = omega arith

  pub local_redo_next : (o : OpData) (t : NameData) → local_redo s t ≡ Ok o → IsNext s.history o
  local_redo_next o t e =
      let g = generation_in s.history t in
      let last : Result OpData Local = if g == GENERATIONS then Err GenerationFull else turned s t in
      let inner : Result OpData Local = if is_even g then Err (InForce g) else last in
      elim (cases_Bool (is_known s.history (Original t))) [
        | inr isnt ↦ absurd (err_ok (Unknown t) o (sym (ap (λ (b : Bool). if b then inner else Err (Unknown t)) isnt) ∙ e))
        | inl known ↦
            let f : inner ≡ Ok o = sym (ap (λ (b : Bool). if b then inner else Err (Unknown t)) known) ∙ e in
            elim (cases_Bool (is_even g)) [
              | inl even ↦ absurd (err_ok (InForce g) o (sym (ap (λ (b : Bool). if b then Err (InForce g) else last) even) ∙ f))
              | inr odd ↦
                  let k : last ≡ Ok o = sym (ap (λ (b : Bool). if b then Err (InForce g) else last) odd) ∙ f in
                  elim (cases_Bool (g == GENERATIONS)) [
                    | inl full ↦ absurd (err_ok GenerationFull o
                        (sym (ap (λ (b : Bool). if b then Err GenerationFull else turned s t) full) ∙ k))
                    | inr free ↦
                        let below : g ≢ GENERATIONS = λ is. true≢false (sym (eq-eqb g GENERATIONS is) ∙ free) in
                        turned_next t known (less g (generation_range t) below) o
                        (sym (ap (λ (b : Bool). if b then Err GenerationFull else turned s t) free) ∙ k)
                  ]
            ]
      ]
    where
      less : (g : ℕ) → g ≤ GENERATIONS → g ≢ GENERATIONS → g + 1 ≤ GENERATIONS
      less g le ne = omega arith

-- the same for parts that are equal to these
pub insert_ready : (s : State) → IsValid s.history → s.number < SITES → (v : ℕ) (n : NameData) (p : ℕ) (k : ContextData) (text : List ℕ)
    → IsHead s v n p k → IsLetters text → IsNext s.history (inserting n p text k)
insert_ready s valid site v n p k text head letters =
    subst (λ (m : NameData). IsNext s.history (inserting m p text k)) (sym head.name)
    (subst (λ (c : ContextData). IsNext s.history (inserting (next_name s) p text c)) (sym head.context)
    (insert_next s valid site v p text letters head.free head.few head.place))

pub delete_ready : (s : State) → IsValid s.history → s.number < SITES → (n : NameData) (p v : ℕ) (k : ContextData) → n ≡ next_name s
    → count_made s < NUMBERS → k ≡ context_of_all s.history → length (context_of_all s.history).entries ≤ UNDO_ENTRIES
    → place_of_shown s.history v ≡ Some p → IsNext s.history (deleting n p k)
delete_ready s valid site n p v k name free context few at =
    subst (λ (m : NameData). IsNext s.history (deleting m p k)) (sym name)
    (subst (λ (c : ContextData). IsNext s.history (deleting (next_name s) p c)) (sym context)
    (delete_next s valid site v p free few at))

pub turn_ready : (s : State) → IsValid s.history → s.number < SITES → (a : ℕ) (t : NameData) (g : ℕ) (k : ContextData) → a ≡ s.number
    → is_known s.history (Original t) ≡ true → g ≡ generation_in s.history t → g < GENERATIONS → k ≡ context_of_all s.history
    → length (context_of_all s.history).entries ≤ UNDO_ENTRIES → IsNext s.history (undoing a t (g + 1) k)
turn_ready s valid site a t g k author known generation below context few =
    let o : OpData = undoing s.number t (generation_in s.history t + 1) (context_of_all s.history) in
    let next : IsNext s.history o =
    turned_next s valid site t known (omega (arith, below, generation)) o (in_context_made (context_of_all s.history) o few) in
    subst (λ (x : OpData). IsNext s.history x) (λ i. undoing (sym author i) t (sym generation i + 1) (sym context i)) next
