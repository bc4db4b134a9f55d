-- The entries of a cache, of which the last is the next to be dropped, and what the calls do to them.
use Rattle.std.specs.Prelude.{ℕ, Bool, List, Option, option_map, if◌then◌else◌}
use Rattle.std.specs.Option.{option_map_or}
use Rattle.std.specs.Map.{lookup}
use Rattle.lru.specs.LruCache.{lru_cache, promoted, demoted, put_entries}
use Rattle.form_cache.specs.declared.cache.Kept.{Kept}
use Rattle.form_cache.specs.Keys.{KeyData, key_eq}

-- entries, each a key with its form and whether the form is kept for one use
abbrev pub Entries : Type 0 → Type 0
Entries F = List (KeyData × Kept F)

-- the entries, and how many there may be
pub record CacheData (F : Type 0) : Type 0 where
  pub entries : Entries F
  pub capacity : ℕ

-- the form that the entries have for the key, if they have one
abbrev pub form_at : {F : Type 0} → Entries F → KeyData → Option F
form_at es k = option_map (λ kept. kept.form) (lookup (key_eq k) es)

-- the entries after the one of the key, if it is there, was used: it is put first
abbrev pub used : {F : Type 0} → Entries F → KeyData → Entries F
used es k = promoted (key_eq k) es

-- the entries after the one of the key, if it is there, was made the next to be dropped: it is put last
abbrev pub spent : {F : Type 0} → Entries F → KeyData → Entries F
spent es k = demoted (key_eq k) es

-- the entries after the form of the key was asked for: an entry for one use is put last, another one first
abbrev pub asked : {F : Type 0} → Entries F → KeyData → Entries F
asked es k = option_map_or (λ kept. if kept.once then spent es k else used es k) (lookup (key_eq k) es) es

-- the entries after a form was put first under its key, for one use alone if `once`; where the key is new, the last entry of a full
-- cache is dropped
abbrev pub with_form : {F : Type 0} → CacheData F → KeyData → F → Bool → Entries F
with_form c k f once = put_entries key_eq (lru_cache c.entries c.capacity) k (record { form = f; once = once })
