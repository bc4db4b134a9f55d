-- What is told of a list that grows at its end.
use Rattle.std.proofs.Common.{◌≡◌, ℕ, ◌+◌, ◌<◌, ◌≤◌, Bool, true, false, not, ◌&&◌, if◌then◌else◌, List, [], ◌∷◌, ◌++◌, length, map, filter, append_assoc, length-append, refl, sym, ap, subst, ◌∙◌, arith}
use Rattle.std.proofs.lemmas.List.{append-nil, map-append}
use Rattle.std.proofs.lemmas.List.Elements.{filter-append}
use Rattle.ttf_form.specs.declared.include.TheConstants.{CELLS}
use Rattle.change_list.specs.declared.change.Change.{Change}
use Rattle.change_list.specs.Changes.{spliced, end_of}
use Rattle.change_list.specs.Told.{Marked, elements, before, after, turned, nothing_at, grown, told_at, told_of, told_from, told, HasRoom}
use Rattle.change_list.proofs.Lists.{by_ends, append_one}
use Rattle.change_list.proofs.Patches.{Each, EndBy, coming, going, Leads, spliced_all, all_told}
use Rattle.change_list.proofs.Numbers.{each_all, each_more, each_told, AreParted, parted_told}

-- the elements that pass, with one more at the end
pub passed_more : {A : Type 0} (p : Marked A → Bool) (ms : List (Marked A)) (m : Marked A)
    → elements (filter p (ms ++ m ∷ [])) ≡ elements (filter p ms) ++ elements (filter p (m ∷ []))
passed_more p ms m = ap elements (filter-append p ms (m ∷ [])) ∙ map-append (λ n. n.it) (filter p ms) (filter p (m ∷ []))

-- how many are shown, with one more at the end
pub shown_more : {A : Type 0} (ms : List (Marked A)) (m : Marked A)
    → length (after (ms ++ m ∷ [])) ≡ (if m.is then length (after ms) + 1 else length (after ms))
shown_more ms m = ap (λ xs. length xs) (passed_more (λ n. n.is) ms m) ∙ length-append (after ms) (after (m ∷ [])) ∙ by m.is
  where
    by : (b : Bool) → length (after ms) + length (after (record m { is = b } ∷ []))
        ≡ (if b then length (after ms) + 1 else length (after ms))
    by true = refl
    by false = omega arith

-- how many are shown in a list that begins with an element
shown_first : {A : Type 0} (v : ℕ) (m : Marked A) (ms : List (Marked A))
    → (if m.is then v + 1 else v) + length (after ms) ≡ v + length (after (m ∷ ms))
shown_first v m ms = by m.is
  where
    by : (b : Bool) → (if b then v + 1 else v) + length (after ms) ≡ v + length (after (record m { is = b } ∷ ms))
    by true = omega arith
    by false = refl

-- one element more is told of behind the rest
told_behind : {A : Type 0} (v : ℕ) (cs : List Change) (ms : List (Marked A)) (m : Marked A)
    → told_from v cs (ms ++ m ∷ []) ≡ told_of (v + length (after ms)) m (told_from v cs ms)
told_behind v cs [] m = ap (λ n. told_of n m cs) (omega arith)
told_behind v cs (n ∷ ms) m =
    told_behind (if n.is then v + 1 else v) (told_of v n cs) ms m
    ∙ ap (λ k. told_of k m (told_from (if n.is then v + 1 else v) (told_of v n cs) ms)) (shown_first v n ms)

pub told_more : {A : Type 0} (ms : List (Marked A)) (m : Marked A) → told (ms ++ m ∷ []) ≡ told_of (length (after ms)) m (told ms)
told_more ms m = told_behind 0 [] ms m ∙ ap (λ n. told_of n m (told ms)) (omega arith)

-- nothing is told of no element
pub told_nothing : (A : Type 0) → told {A = A} [] ≡ []
told_nothing A = refl

-- nor of one that was shown exactly if it is
pub told_same : {A : Type 0} (ms : List (Marked A)) (m : Marked A) → m.was ≡ m.is → told (ms ++ m ∷ []) ≡ told ms
told_same ms m same = told_more ms m ∙ by m.was m.is same
  where
    by : (was is : Bool) → was ≡ is
        → (if is then (if was then told ms else told_at (length (after ms)) true (told ms))
        else (if was then told_at (length (after ms)) false (told ms) else told ms))
        ≡ told ms
    by true true e = refl
    by true false e = cc
    by false true e = cc
    by false false e = refl

-- one that came in or was taken away is told of at the number of those that are shown before it
pub told_turned : {A : Type 0} (ms : List (Marked A)) (x : A) (shown : Bool)
    → told (ms ++ turned shown x ∷ []) ≡ told_at (length (after ms)) shown (told ms)
told_turned ms x true = told_more ms (turned true x)
told_turned ms x false = told_more ms (turned false x)

-- the changes make of one list the other, whatever stands behind both; these come in, and these are taken away
record Turns {A : Type 0} (cs : List Change) (b a came gone : List A) : Type 0 where
  within : EndBy (length a) cs
  leads : (rest : List A) → Leads (map (spliced a) cs) (b ++ rest) (a ++ rest) came gone

-- an element that stays
stays : {A : Type 0} (x : A) (cs : List Change) (b a came gone : List A) → Turns cs b a came gone
    → Turns cs (b ++ x ∷ []) (a ++ x ∷ []) came gone
stays {A} x cs b a came gone t =
    let long = length-append a (x ∷ []) in
    record {
      within = each_more (λ c. end_of c ≤ length a) (λ c. end_of c ≤ length (a ++ x ∷ [])) cs (λ c h. omega (arith, long, h)) t.within;
      leads = λ rest.
          subst (λ ks. Leads ks ((b ++ x ∷ []) ++ rest) ((a ++ x ∷ []) ++ rest) came gone) (sym (spliced_all a (x ∷ []) cs t.within))
          (subst (λ zs. Leads (map (spliced a) cs) zs ((a ++ x ∷ []) ++ rest) came gone) (sym (append_one b x rest))
          (subst (λ ys. Leads (map (spliced a) cs) (b ++ (x ∷ rest)) ys came gone) (sym (append_one a x rest)) (t.leads (x ∷ rest))));
    }

grown_end : (s : Bool) (c : Change) (n m : ℕ) → n + length (coming {A = ℕ} s 0) ≡ m → end_of c ≤ n → end_of (grown s c) ≤ m
grown_end true c n m e h = omega (arith, e, h)
grown_end false c n m e h = omega (arith, e, h)

coming_long : {A : Type 0} (s : Bool) (x : A) → length (coming s x) ≡ length (coming {A = ℕ} s 0)
coming_long true x = refl
coming_long false x = refl

-- an element that came in or was taken away
turns : {A : Type 0} (s : Bool) (x : A) (cs : List Change) (b a came gone : List A) → Turns cs b a came gone
    → Turns (told_at (length a) s cs) (b ++ going s x) (a ++ coming s x) (came ++ coming s x) (gone ++ going s x)
turns s x cs b a came gone t =
    let both = length-append a (coming s x) in
    let one = coming_long s x in
    let long : length a + length (coming {A = ℕ} s 0) ≡ length (a ++ coming s x) = omega (arith, both, one) in
    let none : end_of (nothing_at (length a)) ≤ length a = omega arith in
    record {
      within = each_told (λ c. end_of c ≤ length a) (λ c. end_of c ≤ length (a ++ coming s x)) (length a) s cs
          (λ c h. omega (arith, both, h)) (λ c h. grown_end s c (length a) (length (a ++ coming s x)) long h)
          (grown_end s (nothing_at (length a)) (length a) (length (a ++ coming s x)) long none) t.within;
      leads = λ rest.
          subst (λ zs. Leads (map (spliced (a ++ coming s x)) (told_at (length a) s cs)) zs ((a ++ coming s x) ++ rest) (came ++ coming s x)
          (gone ++ going s x)) (sym (append_assoc b (going s x) rest))
          (all_told s x cs (b ++ (going s x ++ rest)) a rest came gone t.within (t.leads (going s x ++ rest)));
    }

-- the elements that came in, and those that were taken away
abbrev pub came_in : {A : Type 0} → List (Marked A) → List A
came_in ms = elements (filter (λ m. m.is && not m.was) ms)

abbrev pub taken_away : {A : Type 0} → List (Marked A) → List A
taken_away ms = elements (filter (λ m. m.was && not m.is) ms)

-- by what is told, what was shown becomes what is shown
abbrev Tells : {A : Type 0} → List (Marked A) → List Change → Type 0
Tells ms cs = Turns cs (before ms) (after ms) (came_in ms) (taken_away ms)

moved : {A : Type 0} (cs : List Change) (b c d e b2 c2 d2 e2 : List A) → b2 ≡ b → c2 ≡ c → d2 ≡ d → e2 ≡ e → Turns cs b c d e
    → Turns cs b2 c2 d2 e2
moved cs b c d e b2 c2 d2 e2 p q r s t =
    subst (λ x. Turns cs x c2 d2 e2) (sym p)
    (subst (λ x. Turns cs b x d2 e2) (sym q) (subst (λ x. Turns cs b c x e2) (sym r) (subst (λ x. Turns cs b c d x) (sym s) t)))

one_more : {A : Type 0} (ms : List (Marked A)) (x : A) (was is : Bool) (cs : List Change) → Tells ms cs
    → Turns (told_of (length (after ms)) (record { it = x; was = was; is = is }) cs)
    (before ms ++ before (record { it = x; was = was; is = is } ∷ []))
    (after ms ++ after (record { it = x; was = was; is = is } ∷ [])) (came_in ms ++ came_in (record { it = x; was = was; is = is } ∷ []))
    (taken_away ms ++ taken_away (record { it = x; was = was; is = is } ∷ []))
one_more ms x true true cs t =
    moved cs (before ms ++ x ∷ []) (after ms ++ x ∷ []) (came_in ms) (taken_away ms) (before ms ++ x ∷ []) (after ms ++ x ∷ [])
    (came_in ms ++ []) (taken_away ms ++ []) refl refl (append-nil (came_in ms)) (append-nil (taken_away ms))
    (stays x cs (before ms) (after ms) (came_in ms) (taken_away ms) t)
one_more ms x true false cs t = turns false x cs (before ms) (after ms) (came_in ms) (taken_away ms) t
one_more ms x false true cs t = turns true x cs (before ms) (after ms) (came_in ms) (taken_away ms) t
one_more ms x false false cs t =
    moved cs (before ms) (after ms) (came_in ms) (taken_away ms) (before ms ++ []) (after ms ++ []) (came_in ms ++ []) (taken_away ms ++ [])
    (append-nil (before ms)) (append-nil (after ms)) (append-nil (came_in ms)) (append-nil (taken_away ms)) t

tells_more : {A : Type 0} (ms : List (Marked A)) (m : Marked A) → Tells ms (told ms) → Tells (ms ++ m ∷ []) (told (ms ++ m ∷ []))
tells_more ms m t =
    subst (λ cs. Tells (ms ++ m ∷ []) cs) (sym (told_more ms m))
    (moved (told_of (length (after ms)) m (told ms)) (before ms ++ before (m ∷ [])) (after ms ++ after (m ∷ []))
    (came_in ms ++ came_in (m ∷ [])) (taken_away ms ++ taken_away (m ∷ [])) (before (ms ++ m ∷ [])) (after (ms ++ m ∷ []))
    (came_in (ms ++ m ∷ [])) (taken_away (ms ++ m ∷ [])) (passed_more (λ n. n.was) ms m) (passed_more (λ n. n.is) ms m)
    (passed_more (λ n. n.is && not n.was) ms m) (passed_more (λ n. n.was && not n.is) ms m)
    (one_more ms m.it m.was m.is (told ms) t))

tells : {A : Type 0} (ms : List (Marked A)) → Tells ms (told ms)
tells ms =
    by_ends (λ ns. Tells ns (told ns))
    (record { within = tt; leads = λ rest. record { fits = tt; makes = refl; lets = refl; takes = refl } })
    tells_more ms

pub told_within : {A : Type 0} (ms : List (Marked A)) → EndBy (length (after ms)) (told ms)
told_within ms = (tells ms).within

pub told_leads : {A : Type 0} (ms : List (Marked A))
    → Leads (map (spliced (after ms)) (told ms)) (before ms) (after ms) (came_in ms) (taken_away ms)
told_leads ms =
    subst (λ xs. Leads (map (spliced (after ms)) (told ms)) (before ms) xs (came_in ms) (taken_away ms)) (append-nil (after ms))
    (subst (λ xs. Leads (map (spliced (after ms)) (told ms)) xs (after ms ++ []) (came_in ms) (taken_away ms)) (append-nil (before ms))
    ((tells ms).leads []))

-- what telling keeps, of changes that end by the number of those that are shown
kept_by_telling : {A : Type 0} (P : List Change → Type 0) → ((v : ℕ) (s : Bool) (cs : List Change) → EndBy v cs → P cs → P (told_at v s cs))
    → (ms : List (Marked A)) (m : Marked A) → P (told ms) → P (told (ms ++ m ∷ []))
kept_by_telling P keeps ms m p = subst P (sym (told_more ms m)) (by m.was m.is)
  where
    by : (was is : Bool)
        → P (if is then (if was then told ms else told_at (length (after ms)) true (told ms))
        else (if was then told_at (length (after ms)) false (told ms) else told ms))
    by true true = p
    by true false = keeps (length (after ms)) false (told ms) (told_within ms) p
    by false true = keeps (length (after ms)) true (told ms) (told_within ms) p
    by false false = p

-- no change is empty
abbrev pub IsSome : Change → Type 0
IsSome c = 0 < c.removed + c.inserted

some_grown : (s : Bool) (c : Change) → IsSome (grown s c)
some_grown true c = omega arith
some_grown false c = omega arith

pub told_some : {A : Type 0} (ms : List (Marked A)) → Each IsSome (told ms)
told_some ms = by_ends (λ ns. Each IsSome (told ns)) tt
    (kept_by_telling (λ cs. Each IsSome cs)
    (λ v s cs w h. each_told IsSome IsSome v s cs (λ c i. i) (λ c i. some_grown s c) (some_grown s (nothing_at v)) h))
    ms

-- neighbours are one change
pub told_parted : {A : Type 0} (ms : List (Marked A)) → AreParted (told ms)
told_parted ms = by_ends (λ ns. AreParted (told ns)) tt (kept_by_telling AreParted parted_told) ms

-- no change takes more away than there are elements
abbrev TakesAtMost : ℕ → Change → Type 0
TakesAtMost n c = c.removed ≤ n

takes_grown : (s : Bool) (c : Change) (n : ℕ) → TakesAtMost n c → TakesAtMost (n + 1) (grown s c)
takes_grown true c n h = omega (arith, h)
takes_grown false c n h = omega (arith, h)

told_takes : {A : Type 0} (ms : List (Marked A)) → Each (TakesAtMost (length ms)) (told ms)
told_takes {A} ms = by_ends (λ ns. Each (TakesAtMost (length ns)) (told ns)) tt more ms
  where
    more : (ns : List (Marked A)) (m : Marked A) → Each (TakesAtMost (length ns)) (told ns)
        → Each (TakesAtMost (length (ns ++ m ∷ []))) (told (ns ++ m ∷ []))
    more ns m h =
        let long : length ns + 1 ≡ length (ns ++ m ∷ []) = let l = length-append ns (m ∷ []) in omega (arith, l) in
        subst (λ n. Each (TakesAtMost n) (told (ns ++ m ∷ []))) long
        (subst (λ cs. Each (TakesAtMost (length ns + 1)) cs) (sym (told_more ns m)) (by m.was m.is))
      where
        tells : (s : Bool) → Each (TakesAtMost (length ns + 1)) (told_at (length (after ns)) s (told ns))
        tells s =
            each_told (TakesAtMost (length ns)) (TakesAtMost (length ns + 1)) (length (after ns)) s (told ns) (λ c i. omega (arith, i))
            (λ c i. takes_grown s c (length ns) i) (takes_grown s (nothing_at (length (after ns))) (length ns) (omega arith)) h

        stays : Each (TakesAtMost (length ns + 1)) (told ns)
        stays = each_more (TakesAtMost (length ns)) (TakesAtMost (length ns + 1)) (told ns) (λ c i. omega (arith, i)) h

        by : (was is : Bool) → Each (TakesAtMost (length ns + 1))
            (if is then (if was then told ns else told_at (length (after ns)) true (told ns))
            else (if was then told_at (length (after ns)) false (told ns) else told ns))
        by true true = stays
        by true false = tells false
        by false true = tells true
        by false false = stays

-- no more are shown than there are elements
shown_few : {A : Type 0} (ms : List (Marked A)) → length (after ms) ≤ length ms
shown_few [] = omega arith
shown_few (m ∷ ms) = by m.is (shown_few ms)
  where
    by : (b : Bool) → length (after ms) ≤ length ms → length (after (record m { is = b } ∷ ms)) ≤ length (m ∷ ms)
    by true h = omega (arith, h)
    by false h = omega (arith, h)

-- one more can be told of, where fewer elements than the greatest number of cells are before it
pub room_to_tell : {A : Type 0} (ms : List (Marked A)) → length ms < CELLS → HasRoom (length (after ms)) (told ms)
room_to_tell ms few =
    let shown = shown_few ms in
    let ends = each_all (λ c. end_of c ≤ length (after ms)) (told ms) (told_within ms) in
    let takes = each_all (TakesAtMost (length ms)) (told ms) (told_takes ms) in
    (omega (arith, few, shown), λ k d lt. (ends k d lt, let h = takes k d lt in omega (arith, h, few)))
