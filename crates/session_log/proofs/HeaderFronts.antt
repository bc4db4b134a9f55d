-- The headers of the two versions: of one length, the same up to the byte that tells the version, and apart with it.
use Rattle.std.proofs.Common.{◌≡◌, ℕ, ◌+◌, ◌<◌, ◌≤◌, List, ◌++◌, refl, ap, sym, ◌∙◌, length, take, arith}
use Rattle.std.specs.Prelude.{slice_index_or}
use Rattle.std.proofs.lemmas.List.{length-take-le, take-take, take-append-le, take_all}
use Rattle.wire_codec.specs.declared.version.Version.{Version}
use Rattle.wire_codec.specs.declared.version.Version.TheVariants.{One, Two}
use Rattle.session_log.specs.declared.headers.TheConstants.{HEADER_LEN, VERSION_AT}
use Rattle.session_log.specs.Logs.{header}

pub header_long : (v : Version) → length (header v) ≡ HEADER_LEN
header_long One = refl
header_long Two = refl

-- what comes before the byte that tells the version
first_same : (v w : Version) → take VERSION_AT (header v) ≡ take VERSION_AT (header w)
first_same One One = refl
first_same One Two = refl
first_same Two One = refl
first_same Two Two = refl

pub fronts_same : (v w : Version) (n : ℕ) → n ≤ VERSION_AT → take n (header v) ≡ take n (header w)
fronts_same v w n few =
    sym (take-take n VERSION_AT (header v) few) ∙ ap (take n) (first_same v w) ∙ take-take n VERSION_AT (header w) few

-- with that byte
told_apart : (v w : Version) → take (VERSION_AT + 1) (header v) ≡ take (VERSION_AT + 1) (header w) → v ≡ w
told_apart One One e = refl
told_apart One Two e = let no : 49 ≡ 50 = ap (λ (t : List ℕ). slice_index_or t 6 0) e in absurd (omega (arith, no))
told_apart Two One e = let no : 50 ≡ 49 = ap (λ (t : List ℕ). slice_index_or t 6 0) e in absurd (omega (arith, no))
told_apart Two Two e = refl

-- bytes that begin with a front of a header, in which that byte is, begin with no other header
pub one_front : (v w : Version) (n : ℕ) (a b : List ℕ) → VERSION_AT < n → n ≤ HEADER_LEN → take n (header v) ++ a ≡ header w ++ b → v ≡ w
one_front v w n a b told within e =
    let k = VERSION_AT + 1 in
    let long : length (take n (header v)) ≡ n = length-take-le n (header v) (omega (arith, within, header_long v)) in
    let here : take k (take n (header v) ++ a) ≡ take k (header v) =
    take-append-le k (take n (header v)) a (omega (arith, told, long)) ∙ take-take k n (header v) (omega (arith, told)) in
    let there : take k (header w ++ b) ≡ take k (header w) = take-append-le k (header w) b (omega (arith, header_long w)) in
    told_apart v w (sym here ∙ ap (take k) e ∙ there)

-- bytes begin with one header at most
pub one_header : (v w : Version) (a b : List ℕ) → header v ++ a ≡ header w ++ b → v ≡ w
one_header v w a b e =
    one_front v w HEADER_LEN a b (omega arith) (omega arith)
    (ap (λ (t : List ℕ). t ++ a) (take_all HEADER_LEN (header v) (omega (arith, header_long v))) ∙ e)

-- fronts in which that byte is are those of one header
pub one_whole_front : (v w : Version) (n : ℕ) → VERSION_AT < n → n ≤ HEADER_LEN → take n (header v) ≡ take n (header w) → v ≡ w
one_whole_front v w n told within e =
    let k = VERSION_AT + 1 in
    told_apart v w (sym (take-take k n (header v) (omega (arith, told))) ∙ ap (take k) e ∙ take-take k n (header w) (omega (arith, told)))
