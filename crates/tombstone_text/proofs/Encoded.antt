-- A text weighs as many bytes as its UTF-8 has.
use Rattle.std.specs.Prelude.{encode_utf8_all}
use Rattle.std.proofs.Common.{◌≡◌, ℕ, List, [], ◌∷◌, length, refl, arith}
use lib.Utf8.{encode}
use Rattle.std.proofs.lemmas.Str.{length-encode}
use Rattle.std.proofs.lemmas.List.{length-append}
use Rattle.tombstone_text.specs.Measures.{weight_of}
use Rattle.tombstone_text.specs.declared.measure.Measure.TheVariants.{Bytes}

pub bytes-encoded : (cs : List ℕ) → weight_of Bytes cs ≡ length (encode_utf8_all cs)
bytes-encoded [] = refl
bytes-encoded (c ∷ cs) = omega (arith, length-encode c, length-append (encode c) (encode_utf8_all cs), bytes-encoded cs)
