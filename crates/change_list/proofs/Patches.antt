-- Changes that are told of one element more: what they make of the old list, what comes in and what is taken away.
use Rattle.std.proofs.Common.{◌≡◌, ℕ, ◌+◌, ◌≤◌, ◌==◌, Bool, true, false, if◌then◌else◌, List, [], ◌∷◌, ◌++◌, length, map, take, drop, append_assoc, length-append, length-drop, refl, sym, ap, subst, ◌∙◌, arith}
use Rattle.std.proofs.lemmas.List.{append-nil, take-append-drop, take-append-le, drop-append-le, take_all, length-take-le, drop-drop}
use Rattle.std.proofs.lemmas.Bool.Decides.{nat_tests}
use Rattle.change_list.specs.declared.change.Change.{Change}
use Rattle.change_list.specs.Changes.{ChangeOf, changed, patched, FitsAll, inserted_of, removed_of, spliced, end_of}
use Rattle.change_list.specs.Told.{nothing_at, grown, told_at}
use Rattle.change_list.proofs.Lists.{front_same, rest_same, append_one, drop_one, one_left, take_one}

-- P holds of each change
abbrev pub Each : (Change → Type 0) → List Change → Type 0
Each P [] = Unit {0}
Each P (c ∷ cs) = P c × Each P cs

-- no change ends behind n
abbrev pub EndBy : ℕ → List Change → Type 0
EndBy n cs = Each (λ c. end_of c ≤ n) cs

-- what comes in, and what is taken away, with an element that is told of
abbrev pub coming : {A : Type 0} → Bool → A → List A
coming true x = x ∷ []
coming false x = []

abbrev pub going : {A : Type 0} → Bool → A → List A
going true x = []
going false x = x ∷ []

-- the changes can be made in one list, and make another one of it; these elements come in, and these are taken away
pub record Leads {A : Type 0} (ks : List (ChangeOf A)) (from to came gone : List A) : Type 0 where
  pub fits : FitsAll ks from
  pub makes : patched ks from ≡ to
  pub lets : inserted_of ks ≡ came
  pub takes : removed_of ks from ≡ gone

-- what comes in by a change stays where the list grows behind it
spliced_more : {A : Type 0} (a zs : List A) (c : Change) → end_of c ≤ length a → spliced (a ++ zs) c ≡ spliced a c
spliced_more a zs c within =
    let room : c.place ≤ length a = omega (arith, within) in
    let left = length-drop c.place a in
    let there : c.inserted ≤ length (drop c.place a) = omega (arith, left, within) in
    ap (λ ys. record { place = c.place; removed = c.removed; inserted = ys })
    (ap (take c.inserted) (drop-append-le c.place a zs room) ∙ take-append-le c.inserted (drop c.place a) zs there)

pub spliced_all : {A : Type 0} (a zs : List A) (cs : List Change) → EndBy (length a) cs → map (spliced (a ++ zs)) cs ≡ map (spliced a) cs
spliced_all a zs [] w = refl
spliced_all a zs (c ∷ cs) w = λ i. spliced_more a zs c w.0 i ∷ spliced_all a zs cs w.1 i

-- a change whose end is the end of the list lets all of the list from its place on come in
whole_inserted : {A : Type 0} (a : List A) (c : Change) → end_of c ≡ length a → take c.inserted (drop c.place a) ≡ drop c.place a
whole_inserted a c ends =
    let left = length-drop c.place a in
    take_all c.inserted (drop c.place a) (omega (arith, left, ends))

spliced_grown : {A : Type 0} (a : List A) (x : A) (c : Change) → end_of c ≡ length a
    → take (c.inserted + 1) (drop c.place (a ++ x ∷ [])) ≡ take c.inserted (drop c.place a) ++ x ∷ []
spliced_grown a x c ends =
    let room : c.place ≤ length a = omega (arith, ends) in
    let left = length-drop c.place a in
    let more = length-append (drop c.place a) (x ∷ []) in
    let long : length (drop c.place a ++ x ∷ []) ≤ c.inserted + 1 = omega (arith, left, ends, more) in
    ap (take (c.inserted + 1)) (drop-append-le c.place a (x ∷ []) room)
    ∙ take_all (c.inserted + 1) (drop c.place a ++ x ∷ []) long
    ∙ ap (λ ys. ys ++ x ∷ []) (sym (whole_inserted a c ends))

-- a list after a change: what is in front of the end of the change, and what is behind what it takes away
record Parts {A : Type 0} (k : ChangeOf A) (z a rest : List A) : Type 0 where
  front : take k.place z ++ k.inserted ≡ a
  behind : drop (k.place + k.removed) z ≡ rest

parts : {A : Type 0} (k : ChangeOf A) (z a rest : List A) → k.place + k.removed ≤ length z → k.place + length k.inserted ≡ length a
    → changed k z ≡ a ++ rest → Parts k z a rest
parts k z a rest room ends makes =
    let at : length (take k.place z) ≡ k.place = length-take-le k.place z (omega (arith, room)) in
    let both = length-append (take k.place z) k.inserted in
    let long : length (take k.place z ++ k.inserted) ≡ length a = omega (arith, at, both, ends) in
    let whole : (take k.place z ++ k.inserted) ++ drop (k.place + k.removed) z ≡ a ++ rest =
    append_assoc (take k.place z) k.inserted (drop (k.place + k.removed) z) ∙ makes in
    record {
      front = front_same (take k.place z ++ k.inserted) (drop (k.place + k.removed) z) a rest long whole;
      behind = rest_same (take k.place z ++ k.inserted) (drop (k.place + k.removed) z) a rest long whole;
    }

length_spliced : {A : Type 0} (a : List A) (c : Change) → end_of c ≡ length a
    → c.place + length (take c.inserted (drop c.place a)) ≡ length a
length_spliced a c ends =
    let left = length-drop c.place a in
    let same = ap (λ zs. length zs) (whole_inserted a c ends) in
    omega (arith, left, same, ends)

-- one element more comes in by the last change
comes_in : {A : Type 0} (x : A) (k : ChangeOf A) (z a rest came gone : List A) → k.place + length k.inserted ≡ length a
    → Leads (k ∷ []) z (a ++ rest) came gone
    → Leads (record { place = k.place; removed = k.removed; inserted = k.inserted ++ x ∷ [] } ∷ []) z ((a ++ x ∷ []) ++ rest)
    (came ++ x ∷ []) gone
comes_in x k z a rest came gone ends leads =
    let p = parts k z a rest leads.fits.0 ends leads.makes in
    let behind = drop (k.place + k.removed) z in
    record {
      fits = leads.fits;
      makes = ap (λ ys. take k.place z ++ ys) (append_one k.inserted x behind)
          ∙ sym (append_assoc (take k.place z) k.inserted (x ∷ behind))
          ∙ (λ i. p.front i ++ (x ∷ p.behind i))
          ∙ sym (append_one a x rest);
      lets = append-nil (k.inserted ++ x ∷ []) ∙ ap (λ ys. ys ++ x ∷ []) (sym (append-nil k.inserted) ∙ leads.lets);
      takes = leads.takes;
    }

-- one element more is taken away by the last change
is_taken : {A : Type 0} (x : A) (k : ChangeOf A) (z a rest came gone : List A) → k.place + length k.inserted ≡ length a
    → Leads (k ∷ []) z (a ++ (x ∷ rest)) came gone
    → Leads (record { place = k.place; removed = k.removed + 1; inserted = k.inserted } ∷ []) z (a ++ rest) came (gone ++ x ∷ [])
is_taken x k z a rest came gone ends leads =
    let p = parts k z a (x ∷ rest) leads.fits.0 ends leads.makes in
    let further : k.place + (k.removed + 1) ≡ k.place + k.removed + 1 = omega arith in
    let left = one_left (k.place + k.removed) z x rest p.behind in
    let behind : drop (k.place + (k.removed + 1)) z ≡ rest =
    ap (λ n. drop n z) further ∙ drop_one (k.place + k.removed) z x rest p.behind in
    let next : drop k.removed (drop k.place z) ≡ x ∷ rest = drop-drop k.removed k.place z ∙ p.behind in
    record {
      fits = (omega (arith, left), tt);
      makes = sym (append_assoc (take k.place z) k.inserted (drop (k.place + (k.removed + 1)) z)) ∙ (λ i. p.front i ++ behind i);
      lets = leads.lets;
      takes = append-nil (take (k.removed + 1) (drop k.place z))
          ∙ take_one k.removed (drop k.place z) x rest next
          ∙ ap (λ ys. ys ++ x ∷ []) (sym (append-nil (take k.removed (drop k.place z))) ∙ leads.takes);
    }

-- the last change ends where the list ends: it has the element as well
last_grows : {A : Type 0} (s : Bool) (x : A) (c : Change) (z a rest came gone : List A) → end_of c ≡ length a
    → Leads (spliced a c ∷ []) z (a ++ (going s x ++ rest)) came gone
    → Leads (spliced (a ++ coming s x) (grown s c) ∷ []) z ((a ++ coming s x) ++ rest) (came ++ coming s x) (gone ++ going s x)
last_grows true x c z a rest came gone ends leads =
    let more = comes_in x (spliced a c) z a rest came gone (length_spliced a c ends) leads in
    subst (λ ys. Leads (record { place = c.place; removed = c.removed; inserted = ys } ∷ []) z ((a ++ x ∷ []) ++ rest) (came ++ x ∷ [])
    (gone ++ []))
    (sym (spliced_grown a x c ends))
    (subst (λ ys. Leads (record { place = c.place; removed = c.removed; inserted = take c.inserted (drop c.place a) ++ x ∷ [] } ∷ []) z
    ((a ++ x ∷ []) ++ rest) (came ++ x ∷ []) ys) (sym (append-nil gone)) more)
last_grows false x c z a rest came gone ends leads =
    let fewer = is_taken x (spliced a c) z a rest came gone (length_spliced a c ends) leads in
    subst (λ ys. Leads (spliced ys (grown false c) ∷ []) z (ys ++ rest) (came ++ []) (gone ++ x ∷ [])) (sym (append-nil a))
    (subst (λ ys. Leads (spliced a (grown false c) ∷ []) z (a ++ rest) ys (gone ++ x ∷ [])) (sym (append-nil came)) fewer)

-- a change that changes nothing yet leaves all as it is
opened : {A : Type 0} (z a more came gone : List A) → Leads [] z (a ++ more) came gone
    → Leads (spliced a (nothing_at (length a)) ∷ []) z (a ++ more) came gone
opened z a more came gone leads =
    let whole = ap (λ zs. length zs) leads.makes in
    let both = length-append a more in
    let none : length a + 0 ≡ length a = omega arith in
    record {
      fits = (omega (arith, whole, both), tt);
      makes = ap (λ n. take (length a) z ++ drop n z) none ∙ take-append-drop (length a) z ∙ leads.makes;
      lets = leads.lets;
      takes = leads.takes;
    }

-- a change in front stays
under : {A : Type 0} (j k : ChangeOf A) (ks ls : List (ChangeOf A)) (z to new came gone u w : List A) → j ≡ k
    → Leads (k ∷ ks) z to came gone
    → Leads ls (changed k z) new (inserted_of ks ++ u) (removed_of ks (changed k z) ++ w) → Leads (j ∷ ls) z new (came ++ u) (gone ++ w)
under j k ks ls z to new came gone u w same whole rest =
    subst (λ h. Leads (h ∷ ls) z new (came ++ u) (gone ++ w)) (sym same) record {
      fits = (whole.fits.0, rest.fits);
      makes = rest.makes;
      lets = ap (λ ys. k.inserted ++ ys) rest.lets ∙ sym (append_assoc k.inserted (inserted_of ks) u) ∙ ap (λ ys. ys ++ u) whole.lets;
      takes = ap (λ ys. take k.removed (drop k.place z) ++ ys) rest.takes
          ∙ sym (append_assoc (take k.removed (drop k.place z)) (removed_of ks (changed k z)) w)
          ∙ ap (λ ys. ys ++ w) whole.takes;
    }

-- what is behind a change, where nothing is told of yet
tail : {A : Type 0} (k : ChangeOf A) (ks : List (ChangeOf A)) (z to came gone : List A) → Leads (k ∷ ks) z to came gone
    → Leads ks (changed k z) to (inserted_of ks) (removed_of ks (changed k z))
tail k ks z to came gone leads = record { fits = leads.fits.1; makes = leads.makes; lets = refl; takes = refl }

-- the changes with one element told of behind them
pub all_told : {A : Type 0} (s : Bool) (x : A) (cs : List Change) (z a rest came gone : List A) → EndBy (length a) cs
    → Leads (map (spliced a) cs) z (a ++ (going s x ++ rest)) came gone
    → Leads (map (spliced (a ++ coming s x)) (told_at (length a) s cs)) z ((a ++ coming s x) ++ rest) (came ++ coming s x)
    (gone ++ going s x)
all_told s x [] z a rest came gone w leads =
    let none : end_of (nothing_at (length a)) ≡ length a = omega arith in
    last_grows s x (nothing_at (length a)) z a rest came gone none (opened z a (going s x ++ rest) came gone leads)
all_told s x (c ∷ []) z a rest came gone w leads =
    by (end_of c == length a) refl
    (all_told s x [] (changed (spliced a c) z) a rest [] [] tt (tail (spliced a c) [] z (a ++ (going s x ++ rest)) came gone leads))
  where
    by : (b : Bool) → (end_of c == length a) ≡ b
        → Leads (map (spliced (a ++ coming s x)) (grown s (nothing_at (length a)) ∷ [])) (changed (spliced a c) z)
        ((a ++ coming s x) ++ rest) ([] ++ coming s x) ([] ++ going s x)
        → Leads (map (spliced (a ++ coming s x)) (if b then grown s c ∷ [] else c ∷ (grown s (nothing_at (length a)) ∷ []))) z
        ((a ++ coming s x) ++ rest) (came ++ coming s x) (gone ++ going s x)
    by true e new =
        let ends : end_of c ≡ length a = grind (arith, nat_tests, e) in
        last_grows s x c z a rest came gone ends leads
    by false e new =
        under (spliced (a ++ coming s x) c) (spliced a c) [] (map (spliced (a ++ coming s x)) (grown s (nothing_at (length a)) ∷ [])) z
        (a ++ (going s x ++ rest)) ((a ++ coming s x) ++ rest) came gone (coming s x) (going s x) (spliced_more a (coming s x) c w.0) leads
        new
all_told s x (c ∷ (d ∷ cs)) z a rest came gone w leads =
    let ks = map (spliced a) (d ∷ cs) in
    let k = spliced a c in
    under (spliced (a ++ coming s x) c) k ks (map (spliced (a ++ coming s x)) (told_at (length a) s (d ∷ cs))) z
    (a ++ (going s x ++ rest)) ((a ++ coming s x) ++ rest) came gone (coming s x) (going s x) (spliced_more a (coming s x) c w.0) leads
    (all_told s x (d ∷ cs) (changed k z) a rest (inserted_of ks) (removed_of ks (changed k z)) w.1
    (tail k ks z (a ++ (going s x ++ rest)) came gone leads))
