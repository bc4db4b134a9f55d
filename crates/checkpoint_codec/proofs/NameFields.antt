-- Names and places, both ways.
use Rattle.std.proofs.Common.{◌≡◌, ℕ, ◌<◌, ◌≤◌, ◌^◌, Ok, refl, sym, ap, arith}
use Rattle.std.specs.Int.{w16, w32, to_be_bytes}
use Rattle.op_name.specs.NameData.{NameData, IsName}
use Rattle.op_name.specs.declared.name.TheConstants.{SITES, NUMBERS}
use Rattle.context_diff.specs.declared.op.TheConstants.{PLACES}
use Rattle.wire_codec.specs.declared.cause.Cause.TheVariants.{Range}
use Rattle.wire_codec.specs.declared.version.Version.TheVariants.{Two}
use Rattle.wire_codec.specs.Spelling.{site_bytes, name_bytes}
use Rattle.wire_codec.specs.Reading.{LeftData, ◌>>=◌, last_site, site_at, number_at, name_at, place_at}
use Rattle.wire_codec.proofs.CallerLemmas.{Reads, bind, mapped, in_words, wide16, wide32, number_reads, bounded_reads}

abbrev pub IsNamed : NameData → Type 0
IsNamed n = IsName n.site n.number

abbrev pub IsPlace : ℕ → Type 0
IsPlace p = p ≤ PLACES

abbrev IsSite : ℕ → Type 0
IsSite s = s < SITES

abbrev IsNumber : ℕ → Type 0
IsNumber n = (1 ≤ n) × (n ≤ NUMBERS)

site_reads : Reads (site_at Two) (site_bytes Two) IsSite
site_reads =
    in_words (site_at Two) (site_bytes Two) (site_bytes Two) (λ s. (0 ≤ s) × (s ≤ last_site Two)) IsSite
    (bounded_reads w16 (2 ^ 16) wide16 0 (last_site Two) Range (omega arith))
    (λ s h. omega (arith, h.1)) (λ s h. (omega arith, omega (arith, h))) (λ s h. refl)

pub place_reads : Reads place_at (to_be_bytes w32) IsPlace
place_reads =
    in_words place_at (to_be_bytes w32) (to_be_bytes w32) (λ p. p < 2 ^ 32) IsPlace (number_reads w32 (2 ^ 32) wide32)
    (λ p h. omega (arith, h)) (λ p h. omega (arith, h)) (λ p h. refl)

pub name_reads : Reads (name_at Two) (name_bytes Two) IsNamed
unfolding name_at
name_reads =
    in_words (name_at Two) (name_bytes Two) (name_bytes Two) (λ n. IsSite n.site × (IsNumber n.number × (n ≡ n))) IsNamed
    (bind (site_at Two) (λ s m. ◌>>=◌ {B = NameData × LeftData} (number_at m) (λ k. Ok (record { site = s; number = k.0 }, k.1)))
    (site_bytes Two) (λ n. to_be_bytes w32 n.number) IsSite
    (λ s n. IsNumber n.number × (record { site = s; number = n.number } ≡ n)) (λ n. n.site)
    site_reads
    (λ s h. mapped number_at (to_be_bytes w32) IsNumber (λ k. record { site = s; number = k }) (λ n. n.number)
    (bounded_reads w32 (2 ^ 32) wide32 1 NUMBERS Range (omega arith)) (λ k. refl))
    (λ s n h. ap (λ (y : NameData). y.site) (sym h.1)))
    (λ n h. (h.0, h.1.0.0, h.1.0.1))
    (λ n h. (h.0, ((h.1, h.2), refl)))
    (λ n h. refl)
