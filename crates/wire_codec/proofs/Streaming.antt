-- However a stream was cut, the bytes fed are the frames taken and the bytes left.
use Rattle.std.proofs.Common.{◌≡◌, ℕ, ◌+◌, List, [], ◌∷◌, ◌++◌, length, sym, ap, ◌∙◌, append_assoc, arith}
use Rattle.std.specs.List.{flat_map}
use Rattle.std.proofs.lemmas.List.{append-nil, length-append}
use Rattle.std.proofs.lemmas.List.Concat.{flat_map-cons}
use Rattle.context_diff.specs.Operations.{OpData}
use Rattle.wire_codec.specs.Spelling.{frame}
use Rattle.wire_codec.specs.declared.version.Version.{Version}
use Rattle.wire_codec.specs.StreamData.{StreamData}
use Rattle.wire_codec.specs.Streams.{Call, feed, take, stay, Runs, bytes_fed, ops_taken}

pub stream_version : (calls : List Call) (old new : StreamData) → Runs calls old new → new.version ≡ old.version
stream_version [] old new runs = ap (λ (s : StreamData). s.version) runs
stream_version (feed piece ∷ calls) old new runs = stream_version calls runs.0 new runs.2 ∙ runs.1.version
stream_version (take op ∷ calls) old new runs = stream_version calls runs.0 new runs.2 ∙ runs.1.version
stream_version (stay ∷ calls) old new runs = stream_version calls runs.0 new runs.2 ∙ ap (λ (s : StreamData). s.version) runs.1

-- the same in frames of the version that the stream had before
frames_in : (v w : Version) (ops : List OpData) → v ≡ w → flat_map (frame v) ops ≡ flat_map (frame w) ops
frames_in v w ops e = ap (λ (u : Version). flat_map (frame u) ops) e

pub stream_bytes : (calls : List Call) (old new : StreamData) → Runs calls old new
    → old.left ++ flat_map bytes_fed calls ≡ flat_map (frame old.version) (flat_map ops_taken calls) ++ new.left
stream_bytes [] old new runs = append-nil old.left ∙ ap (λ (s : StreamData). s.left) (sym runs)
stream_bytes (feed piece ∷ calls) old new runs =
    let fed = flat_map bytes_fed calls in
    let spell = frame old.version in
    ap (λ (t : List ℕ). old.left ++ t) (flat_map-cons bytes_fed (feed piece) calls)
    ∙ (sym (append_assoc old.left piece fed)
    ∙ (ap (λ (t : List ℕ). t ++ fed) (sym runs.1.left) ∙ (stream_bytes calls runs.0 new runs.2
    ∙ (ap (λ (t : List ℕ). t ++ new.left) (frames_in runs.0.version old.version (flat_map ops_taken calls) runs.1.version)
    ∙ ap (λ (ops : List OpData). flat_map spell ops ++ new.left) (sym (flat_map-cons ops_taken (feed piece) calls))))))
stream_bytes (take op ∷ calls) old new runs =
    let fed = flat_map bytes_fed calls in
    let ops = flat_map ops_taken calls in
    let spell = frame old.version in
    let taken : flat_map spell (flat_map ops_taken (take op ∷ calls)) ≡ spell op ++ flat_map spell ops =
    ap (flat_map spell) (flat_map-cons ops_taken (take op) calls) ∙ flat_map-cons spell op ops in
    ap (λ (t : List ℕ). old.left ++ t) (flat_map-cons bytes_fed (take op) calls)
    ∙ (ap (λ (t : List ℕ). t ++ fed) runs.1.left
    ∙ (append_assoc (spell op) runs.0.left fed
    ∙ (ap (λ (t : List ℕ). spell op ++ t) (stream_bytes calls runs.0 new runs.2
    ∙ ap (λ (t : List ℕ). t ++ new.left) (frames_in runs.0.version old.version ops runs.1.version))
    ∙ (sym (append_assoc (spell op) (flat_map spell ops) new.left)
    ∙ ap (λ (t : List ℕ). t ++ new.left) (sym taken)))))
stream_bytes (stay ∷ calls) old new runs =
    let spell = frame old.version in
    ap (λ (t : List ℕ). old.left ++ t) (flat_map-cons bytes_fed stay calls)
    ∙ (ap (λ (s : StreamData). s.left ++ flat_map bytes_fed calls) (sym runs.1)
    ∙ (stream_bytes calls runs.0 new runs.2
    ∙ (ap (λ (s : StreamData). flat_map (frame s.version) (flat_map ops_taken calls) ++ new.left) runs.1
    ∙ ap (λ (ops : List OpData). flat_map spell ops ++ new.left) (sym (flat_map-cons ops_taken stay calls)))))

pub stream_taken : (calls : List Call) (old new : StreamData) → Runs calls old new
    → new.taken ≡ old.taken + length (flat_map (frame old.version) (flat_map ops_taken calls))
stream_taken [] old new runs = let same = ap (λ (s : StreamData). s.taken) runs in omega (arith, same)
stream_taken (feed piece ∷ calls) old new runs =
    let rest = stream_taken calls runs.0 new runs.2 in
    let here = runs.1.taken in
    let kept = ap (λ (t : List ℕ). length t) (frames_in runs.0.version old.version (flat_map ops_taken calls) runs.1.version) in
    let ops = ap (λ (xs : List OpData). length (flat_map (frame old.version) xs)) (flat_map-cons ops_taken (feed piece) calls) in
    omega (arith, rest, here, kept, ops)
stream_taken (take op ∷ calls) old new runs =
    let rest = stream_taken calls runs.0 new runs.2 in
    let here = runs.1.taken in
    let ops = flat_map ops_taken calls in
    let spell = frame old.version in
    let kept = ap (λ (t : List ℕ). length t) (frames_in runs.0.version old.version ops runs.1.version) in
    let taken : flat_map spell (flat_map ops_taken (take op ∷ calls)) ≡ spell op ++ flat_map spell ops =
    ap (flat_map spell) (flat_map-cons ops_taken (take op) calls) ∙ flat_map-cons spell op ops in
    let long : length (flat_map spell (flat_map ops_taken (take op ∷ calls))) ≡ length (spell op) + length (flat_map spell ops) =
    ap length taken ∙ length-append (spell op) (flat_map spell ops) in
    omega (arith, rest, here, kept, long)
stream_taken (stay ∷ calls) old new runs =
    let rest = stream_taken calls runs.0 new runs.2 in
    let here = ap (λ (s : StreamData). s.taken) runs.1 in
    let kept = ap (λ (s : StreamData). length (flat_map (frame s.version) (flat_map ops_taken calls))) runs.1 in
    let ops = ap (λ (xs : List OpData). length (flat_map (frame old.version) xs)) (flat_map-cons ops_taken stay calls) in
    omega (arith, rest, here, kept, ops)
