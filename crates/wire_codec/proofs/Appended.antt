-- What stood before bytes that were appended stays, and so it does where an append went wrong.
use Rattle.std.proofs.Common.{◌≡◌, ◌≤◌, List, ◌++◌, ℕ, Result, OnErr, Ok, Err, sym, ap, ◌∙◌, length, take, arith}
use Rattle.std.proofs.lemmas.List.{take-take, length-append}
use Rattle.std.proofs.Math.Seq.{take-append_seam}

pub on_err : {A B P : Type 0} (r : Result A B) → P → OnErr r P
on_err (Ok x) p = tt
on_err (Err e) p = p

pub front_stays : (old more now : List ℕ) → now ≡ old ++ more → take (length old) now ≡ old
front_stays old more now is = ap (take (length old)) is ∙ take-append_seam old more

pub front_of_front : (old x z more : List ℕ) → x ≡ old ++ more → take (length x) z ≡ x → take (length old) z ≡ old
front_of_front old x z more is stays =
    let shorter : length old ≤ length x = omega (arith, ap length is, length-append old more) in
    sym (take-take (length old) (length x) z shorter) ∙ ap (take (length old)) stays ∙ front_stays old more x is

pub front_on : {A B : Type 0} (r : Result A B) (old x z more : List ℕ) → x ≡ old ++ more → OnErr r (take (length x) z ≡ x)
    → OnErr r (take (length old) z ≡ old)
front_on (Ok v) old x z more is stays = tt
front_on (Err e) old x z more is stays = front_of_front old x z more is stays
