-- Frames and texts that are appended one after the other.
use Rattle.std.proofs.Common.{◌≡◌, ℕ, ◌+◌, ◌≤◌, List, ◌++◌, Result, OnOk, Ok, Err, ap, sym, ◌∙◌, length, take, append_assoc}
use Rattle.std.specs.Prelude.{Some, slice_get}
use Rattle.std.proofs.lemmas.List.{take_all}
use Rattle.context_diff.specs.Operations.{OpData}
use Rattle.wire_codec.specs.declared.version.Version.TheVariants.{Two}
use Rattle.wire_codec.specs.Spelling.{frame}
use Rattle.session_log.specs.Logs.{frames}
use Rattle.wire_codec.proofs.CallerLemmas.{pieces_more}

pub appended_more : (old now new : List ℕ) (os : List OpData) (i : ℕ) (o : OpData) → now ≡ old ++ frames Two (take i os)
    → slice_get os i ≡ Some o → new ≡ now ++ frame Two o → new ≡ old ++ frames Two (take (i + 1) os)
appended_more old now new os i o is at more =
    more
    ∙ ap (λ (t : List ℕ). t ++ frame Two o) is
    ∙ append_assoc old (frames Two (take i os)) (frame Two o)
    ∙ ap (λ (t : List ℕ). old ++ t) (sym (pieces_more (frame Two) os i o at))

pub appended_all : (old now : List ℕ) (os : List OpData) (i : ℕ) → now ≡ old ++ frames Two (take i os) → length os ≤ i
    → now ≡ old ++ frames Two os
appended_all old now os i is past = is ∙ ap (λ (xs : List OpData). old ++ frames Two xs) (take_all i os past)

-- three pieces after what was there
pub in_three : {A B : Type 0} (r : Result A B) (old a b c x y z : List ℕ) → OnOk r (z ≡ y ++ c) → y ≡ x ++ b → x ≡ old ++ a
    → OnOk r (z ≡ old ++ (a ++ (b ++ c)))
in_three (Err e) old a b c x y z last middle first = tt
in_three (Ok v) old a b c x y z last middle first =
    last
    ∙ ap (λ (t : List ℕ). t ++ c) (middle ∙ ap (λ (t : List ℕ). t ++ b) first)
    ∙ append_assoc (old ++ a) b c
    ∙ append_assoc old a (b ++ c)
