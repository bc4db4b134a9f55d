-- The parts of a text: single characters, or pieces as long as an insert may be.
use Rattle.std.proofs.Common.{◌≡◌, ℕ, zero, suc, ◌<◌, ◌≤◌, true, List, [], ◌∷◌, refl, ap, subst, length, take, drop, min, length-drop, arith}
use Rattle.std.specs.Str.{all_scalars}
use Rattle.std.proofs.lemmas.List.{length-take}
use Rattle.op_name.specs.declared.limits.TheConstants.{LETTERS}
use Rattle.context_diff.specs.Operations.{IsLetters}
use Rattle.participant.specs.Runs.{letters, cut, pieces}
use Rattle.session_replay.specs.Code.Typing.{parts_of, parts}
use Rattle.session_replay.proofs.Characters.{scalars_take, scalars_drop}

-- two bounds that both are large enough give the same parts
parts_enough : (size n m : ℕ) (text : List ℕ) → 1 ≤ size → length text ≤ n → length text ≤ m → parts_of size n text ≡ parts_of size m text
unfolding parts_of
parts_enough size zero zero text some few less = refl
parts_enough size zero (suc m) [] some few less = refl
parts_enough size zero (suc m) (ch ∷ cs) some few less = absurd (omega arith)
parts_enough size (suc n) zero [] some few less = refl
parts_enough size (suc n) zero (ch ∷ cs) some few less = absurd (omega arith)
parts_enough size (suc n) (suc m) [] some few less = refl
parts_enough size (suc n) (suc m) (ch ∷ cs) some few less =
    let shorter = length-drop size (ch ∷ cs) in
    ap (λ (ps : List (List ℕ)). take size (ch ∷ cs) ∷ ps)
    (parts_enough size n m (drop size (ch ∷ cs)) some (omega (arith, shorter, some, few)) (omega (arith, shorter, some, less)))

-- the first part of a text, and those of what is behind it
pub parts_next : (size : ℕ) (text : List ℕ) → 1 ≤ size → 0 < length text → parts size text ≡ take size text ∷ parts size (drop size text)
unfolding parts_of
parts_next size [] some more = absurd (omega arith)
parts_next size (ch ∷ cs) some more =
    let rest = drop size (ch ∷ cs) in
    let shorter = length-drop size (ch ∷ cs) in
    ap (λ (ps : List (List ℕ)). take size (ch ∷ cs) ∷ ps)
    (parts_enough size (length cs) (length rest) rest some (omega (arith, shorter, some)) (omega arith))

pub parts_none : (size : ℕ) (text : List ℕ) → length text ≡ 0 → parts size text ≡ []
unfolding parts_of
parts_none size [] none = refl
parts_none size (ch ∷ cs) none = absurd (omega arith)

pub parts_some : (size : ℕ) (text : List ℕ) → 0 < length text → 0 < length (parts size text)
unfolding parts_of
parts_some size [] some = absurd (omega arith)
parts_some size (ch ∷ cs) some = omega arith

-- ---- the parts that lines type

-- parts of one character are the characters by themselves
pub parts_letters : (text : List ℕ) → parts 1 text ≡ letters text
unfolding parts_of
parts_letters [] = refl
parts_letters (ch ∷ cs) = ap (λ (ps : List (List ℕ)). (ch ∷ []) ∷ ps) (parts_letters cs)

parts_cut : (most : ℕ) (text : List ℕ) → parts_of LETTERS most text ≡ cut most text
unfolding parts_of cut
parts_cut zero [] = refl
parts_cut zero (ch ∷ cs) = refl
parts_cut (suc most) [] = refl
parts_cut (suc most) (ch ∷ cs) = ap (λ (ps : List (List ℕ)). take LETTERS (ch ∷ cs) ∷ ps) (parts_cut most (drop LETTERS (ch ∷ cs)))

-- parts that are as long as an insert may be are the pieces
pub parts_pieces : (text : List ℕ) → parts LETTERS text ≡ pieces text
unfolding pieces
parts_pieces text = parts_cut (length text) text

-- ---- each part is the text of an insert

abbrev pub AreLetters : List (List ℕ) → Type 0
AreLetters [] = Unit {0}
AreLetters (p ∷ ps) = IsLetters p × AreLetters ps

parts_are : (size n : ℕ) (text : List ℕ) → 1 ≤ size → size ≤ LETTERS → all_scalars text ≡ true → AreLetters (parts_of size n text)
unfolding parts_of
parts_are size zero [] some most scalars = tt
parts_are size zero (ch ∷ cs) some most scalars = tt
parts_are size (suc n) [] some most scalars = tt
parts_are size (suc n) (ch ∷ cs) some most scalars =
    let long : length (take size (ch ∷ cs)) ≡ min size (length (ch ∷ cs)) = length-take size (ch ∷ cs) in (
      record { some = omega (arith, long, some); most = omega (arith, long, most); scalars = scalars_take size (ch ∷ cs) scalars },
      parts_are size n (drop size (ch ∷ cs)) some most (scalars_drop size (ch ∷ cs) scalars),
    )

pub letters_are : (text : List ℕ) → all_scalars text ≡ true → AreLetters (letters text)
letters_are text scalars = subst AreLetters (parts_letters text) (parts_are 1 (length text) text (omega arith) (omega arith) scalars)

pub pieces_are : (text : List ℕ) → all_scalars text ≡ true → AreLetters (pieces text)
pieces_are text scalars = subst AreLetters (parts_pieces text) (parts_are LETTERS (length text) text (omega arith) (omega arith) scalars)

-- a text that isn't empty has characters, and pieces
pub letters_some : (text : List ℕ) → 0 < length text → 0 < length (letters text)
letters_some text some = subst (λ (ps : List (List ℕ)). 0 < length ps) (parts_letters text) (parts_some 1 text some)

pub pieces_some : (text : List ℕ) → 0 < length text → 0 < length (pieces text)
pieces_some text some = subst (λ (ps : List (List ℕ)). 0 < length ps) (parts_pieces text) (parts_some LETTERS text some)
