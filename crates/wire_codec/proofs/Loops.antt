-- The characters of a text and the sites of a context with their counts, read one element after the other.
use Rattle.std.proofs.Common.{◌≡◌, ℕ, suc, true, ◌+◌, ◌<◌, ◌≤◌, take, drop, Ok, Err, refl, ap, subst, ◌∙◌, arith}
use Rattle.std.specs.Int.{w32, to_be_bytes, from_be_bytes}
use Rattle.std.specs.Str.{all_scalars}
use Rattle.std.proofs.Math.Utf8.{scalar_fits}
use Rattle.std.proofs.lemmas.List.{take_at, drop_at}
use Rattle.wire_codec.specs.declared.fault.Fault.{Fault}
use Rattle.wire_codec.specs.declared.version.Version.{Version}
use Rattle.wire_codec.specs.Versions.{site_width, site_len}
use Rattle.wire_codec.specs.Spelling.{site_bytes, character_bytes, count_bytes}
use Rattle.wire_codec.specs.Reading.{LeftData, many, character_at, any_after, characters_at, count_at, site_after}
use Rattle.wire_codec.specs.Code.Elements.{elements, character_len, raw_character}
use Rattle.wire_codec.specs.Code.Sections.{raw_count}
use Rattle.wire_codec.specs.Judging.{count_len}
use Rattle.wire_codec.proofs.Steps.{IsBytes}
use Rattle.wire_codec.proofs.Numbers.{wide32}
use Rattle.wire_codec.proofs.Sites.{wide_site, sites_fit}
use Rattle.wire_codec.proofs.InsertTexts.{IsCharacter, character_reads, characters_reads}
use Rattle.wire_codec.proofs.Contexts.{IsCount, count_reads}
use Rattle.wire_codec.proofs.Sizes.{length-count}
use Rattle.wire_codec.proofs.Elements.{IsUnderWay, begins, goes_on, ends, is_done}

character_back : (before : Unit {0}) (ch : ℕ) → IsCharacter before ch → raw_character (character_bytes ch) ≡ ch
character_back before ch h = wide32.again ch (scalar_fits ch h)

count_back : (v : Version) (low : ℕ) (p : ℕ × ℕ) → IsCount v low p → raw_count v (count_bytes v p) ≡ p
count_back v low p h =
    let wide = wide_site v in
    let fit = sites_fit v in
    let named = h.site in
    let site : take (site_len v) (count_bytes v p) ≡ site_bytes v p.0 =
    take_at (site_bytes v p.0) (to_be_bytes w32 p.1) (site_len v) (wide.len p.0) in
    let count : drop (site_len v) (count_bytes v p) ≡ to_be_bytes w32 p.1 =
    drop_at (site_bytes v p.0) (to_be_bytes w32 p.1) (site_len v) (wide.len p.0) in
    let first : from_be_bytes (site_width v) (take (site_len v) (count_bytes v p)) ≡ p.0 =
    ap (from_be_bytes (site_width v)) site ∙ wide.again p.0 (omega (arith, named, fit)) in
    let second : from_be_bytes w32 (drop (site_len v) (count_bytes v p)) ≡ p.1 =
    ap (from_be_bytes w32) count ∙ wide32.again p.1 (omega (arith, h.most)) in
    ap (λ (s : ℕ). (s, from_be_bytes w32 (drop (site_len v) (count_bytes v p)))) first ∙ ap (λ (n : ℕ). (p.0, n)) second

module _ (count : ℕ) (start : LeftData) where
  pub characters_begin : IsUnderWay character_at any_after raw_character character_len count tt start 0 tt start
  characters_begin =
      begins character_at any_after raw_character character_len character_bytes IsCharacter character_reads (λ c. refl) character_back count
      tt start

  pub characters_go_on : (i : ℕ) (now m : LeftData) (ch : ℕ) → IsBytes start.bytes → i < count → character_at tt now ≡ Ok (ch, m)
      → IsUnderWay character_at any_after raw_character character_len count tt start i tt now
      → IsUnderWay character_at any_after raw_character character_len count tt start (i + 1) tt m
  characters_go_on i now m ch fits lt h way =
      let more : suc i ≡ i + 1 = omega arith in
      subst (λ (k : ℕ). IsUnderWay character_at any_after raw_character character_len count tt start k tt m) more
      (goes_on character_at any_after raw_character character_len character_bytes IsCharacter character_reads (λ c. refl) character_back
      count tt start i tt now m ch fits lt h way)

  pub characters_end : (i : ℕ) (now : LeftData) (f : Fault) → i < count → character_at tt now ≡ Err f
      → IsUnderWay character_at any_after raw_character character_len count tt start i tt now → characters_at count start ≡ Err f
  characters_end i =
      ends character_at any_after raw_character character_len character_bytes IsCharacter character_reads (λ c. refl) character_back count
      tt start i tt

  pub characters_done : (i : ℕ) (now : LeftData) → count ≤ i
      → IsUnderWay character_at any_after raw_character character_len count tt start i tt now
      → characters_at count start ≡ Ok (elements raw_character character_len i start.bytes, now)
  characters_done i =
      is_done character_at any_after raw_character character_len character_bytes IsCharacter character_reads (λ c. refl) character_back
      count tt start i tt

  -- what was read are characters
  pub characters_are : (i : ℕ) (now : LeftData) → IsBytes start.bytes → count ≤ i
      → IsUnderWay character_at any_after raw_character character_len count tt start i tt now
      → all_scalars (elements raw_character character_len i start.bytes) ≡ true
  characters_are i now fits le way =
      let read = elements raw_character character_len i start.bytes in
      ((characters_reads count).takes start now read fits (characters_done i now le way)).1.scalars

module _ (v : Version) (count : ℕ) (start : LeftData) where
  pub counts_begin : IsUnderWay (count_at v) site_after (raw_count v) (count_len v) count 0 start 0 0 start
  counts_begin =
      begins (count_at v) site_after (raw_count v) (count_len v) (count_bytes v) (IsCount v) (count_reads v) (length-count v) (count_back v)
      count 0 start

  pub counts_go_on : (i low : ℕ) (now m : LeftData) (p : ℕ × ℕ) → IsBytes start.bytes → i < count → count_at v low now ≡ Ok (p, m)
      → IsUnderWay (count_at v) site_after (raw_count v) (count_len v) count 0 start i low now
      → IsUnderWay (count_at v) site_after (raw_count v) (count_len v) count 0 start (i + 1) (site_after low p) m
  counts_go_on i low now m p fits lt h way =
      let more : suc i ≡ i + 1 = omega arith in
      subst (λ (k : ℕ). IsUnderWay (count_at v) site_after (raw_count v) (count_len v) count 0 start k (site_after low p) m) more
      (goes_on (count_at v) site_after (raw_count v) (count_len v) (count_bytes v) (IsCount v) (count_reads v) (length-count v)
      (count_back v) count 0 start i low now m p fits lt h way)

  pub counts_end : (i low : ℕ) (now : LeftData) (f : Fault) → i < count → count_at v low now ≡ Err f
      → IsUnderWay (count_at v) site_after (raw_count v) (count_len v) count 0 start i low now
      → many (count_at v) site_after count 0 start ≡ Err f
  counts_end =
      ends (count_at v) site_after (raw_count v) (count_len v) (count_bytes v) (IsCount v) (count_reads v) (length-count v) (count_back v)
      count 0 start

  pub counts_done : (i low : ℕ) (now : LeftData) → count ≤ i
      → IsUnderWay (count_at v) site_after (raw_count v) (count_len v) count 0 start i low now
      → many (count_at v) site_after count 0 start ≡ Ok (elements (raw_count v) (count_len v) i start.bytes, now)
  counts_done =
      is_done (count_at v) site_after (raw_count v) (count_len v) (count_bytes v) (IsCount v) (count_reads v) (length-count v)
      (count_back v)
      count 0 start
