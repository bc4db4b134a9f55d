-- What reads take, one after the other.
use Rattle.std.proofs.Common.{◌≡◌, ℕ, ◌+◌, ◌-◌, ◌<◌, ◌≤◌, List, ◌++◌, Option, None, Some, IfSome, length, take, drop, refl, sym, ap, ◌∙◌, arith, length-append, length-drop}
use Rattle.std.proofs.lemmas.List.{take-append-le, drop_all}
use Rattle.std.specs.Prelude.{Result, Ok, Err, OnOk}
use Rattle.std.specs.Io.KnownBytes.{IsAtEnd}
use Rattle.std.proofs.Math.Seq.{take-append-add, drop-append_seam}
use Rattle.std.proofs.KnownBytes.{Consumes-trans}
use Rattle.outside_io.specs.Code.Gathering.{Gathers}
use Rattle.outside_io.specs.Reading.{LosesFront}
use Rattle.outside_io.specs.declared.reading.Taken.{Taken}
use Rattle.outside_io.specs.declared.reading.Taken.TheVariants.{End, Past}
use Rattle.outside_io.specs.declared.reading.ReadBad.{ReadBad}

-- where more than `most` bytes were gathered, by one, the first `most` of them are the first that were left
pub Gathers-first : (a b : Option (List ℕ)) (before now kept : List ℕ) (most start : ℕ) → Gathers a b before now
    → length now ≡ length before + most + 1
    → start ≡ length before → kept ≡ take (start + most) now
    → IfSome a (λ bytes. (most < length bytes) × (kept ≡ before ++ take most bytes))
Gathers-first None b before now kept most start gathers long from cut = tt
Gathers-first (Some xs) None before now kept most start gathers long from cut = absurd gathers.consumed
Gathers-first (Some xs) (Some ys) before now kept most start gathers long from cut =
    let gained : List ℕ = drop (length before) now in
    let parts : now ≡ before ++ gained = gathers.front in
    let read : xs ≡ gained ++ ys = gathers.consumed in
    let size : length gained ≡ most + 1 = omega (arith, long, ap length parts, length-append before gained) in (
      omega (arith, ap length read, length-append gained ys, size),
      cut ∙ ap (λ n. take (n + most) now) from ∙ ap (take (length before + most)) parts ∙ take-append-add before gained most
          ∙ ap (λ l. before ++ l) (sym (ap (take most) read ∙ take-append-le most gained ys (omega (arith, size)))),
    )

-- and the rest of those is left
Gathers-rest : (a b : Option (List ℕ)) (before now : List ℕ) (most : ℕ) → Gathers a b before now → length now ≡ length before + most + 1
    → IfSome a (λ bytes. b ≡ Some (drop (most + 1) bytes))
Gathers-rest None b before now most gathers long = tt
Gathers-rest (Some xs) None before now most gathers long = absurd gathers.consumed
Gathers-rest (Some xs) (Some ys) before now most gathers long =
    let gained : List ℕ = drop (length before) now in
    let read : xs ≡ gained ++ ys = gathers.consumed in
    let size : length gained ≡ most + 1 = omega (arith, long, ap length gathers.front, length-append before gained) in
    ap Some (sym (ap (drop (most + 1)) read ∙ ap (λ n. drop n (gained ++ ys)) (sym size) ∙ drop-append_seam gained ys))

-- none is left where no more than `most` bytes were gathered, to the end
Gathers-end : (a b : Option (List ℕ)) (before now : List ℕ) (most : ℕ) → Gathers a b before now → IsAtEnd b
    → length now ≤ length before + most → IfSome a (λ bytes. b ≡ Some (drop (most + 1) bytes))
Gathers-end None b before now most gathers end few = tt
Gathers-end (Some xs) None before now most gathers end few = absurd gathers.consumed
Gathers-end (Some xs) (Some ys) before now most gathers end few =
    let gained : List ℕ = drop (length before) now in
    let read : xs ≡ gained ++ ys = gathers.consumed in
    let short : length xs ≤ most + 1 =
    omega (arith, few, ap length gathers.front, length-append before gained, ap length read, length-append gained ys, ap length end) in
    ap Some (end ∙ sym (drop_all (most + 1) xs short))

-- what is left once a source was read to its end, or to one byte past the most
pub Gathers-left : (r : Result Taken ReadBad) (a b : Option (List ℕ)) (before now : List ℕ) (most : ℕ) → OnOk r (Gathers a b before now)
    → (r ≡ Ok End → IsAtEnd b) → (r ≡ Ok End → length now ≤ length before + most)
    → (r ≡ Ok Past → length now ≡ length before + most + 1) → OnOk r (IfSome a (λ bytes. b ≡ Some (drop (most + 1) bytes)))
Gathers-left (Ok End) a b before now most gathers end few long = Gathers-end a b before now most gathers (end refl) (few refl)
Gathers-left (Ok Past) a b before now most gathers end few long = Gathers-rest a b before now most gathers (long refl)
Gathers-left (Err why) a b before now most gathers end few long = gathers

-- what was gathered and what was lost then are lost
pub LosesFront-more : (a b c : Option (List ℕ)) (before now : List ℕ) (few most : ℕ) → Gathers a b before now → LosesFront few b c
    → few + length now ≤ most + length before
    → LosesFront most a c
LosesFront-more a b c before now few most gathers loses within = record {
  front = drop (length before) now ++ loses.front;
  few =
      let gained : length (drop (length before) now) ≡ length now - length before = length-drop (length before) now in
      omega (
        arith,
        within,
        gained,
        loses.few,
        ap length gathers.front,
        length-append before (drop (length before) now),
        length-append (drop (length before) now) loses.front,
      );
  lost = Consumes-trans a b c (drop (length before) now) loses.front gathers.consumed loses.lost;
}
