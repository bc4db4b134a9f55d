-- What the two versions of frames differ in, but for their undone names.
use Rattle.std.specs.Prelude.{ℕ, ◌+◌, ◌<◌, List, [], ◌∷◌, ◌++◌, map, Contains}
use Rattle.std.specs.Int.{Width, w8, w16, byte_len}
use Rattle.context_vector.specs.Contexts.{ContextData}
use Rattle.context_diff.specs.Operations.{OpData, inserting, deleting, undoing, context_of}
use Rattle.wire_codec.specs.declared.limits.TheConstants.{SITES_OF_ONE, SITES_OF_TWO}
use Rattle.wire_codec.specs.declared.rules.TheConstants.{LONGEST_BODY, LONGEST_BODY_TWO}
use Rattle.wire_codec.specs.declared.version.Version.{Version}
use Rattle.wire_codec.specs.declared.version.Version.TheVariants.{One, Two}

-- a site, and the number of sites with counts, has one byte, or two
abbrev pub site_width : Version → Width
site_width One = w8
site_width Two = w16

abbrev pub site_len : Version → ℕ
site_len v = byte_len (site_width v)

-- the number of sites that can be named
abbrev pub sites : Version → ℕ
sites One = SITES_OF_ONE
sites Two = SITES_OF_TWO

-- the bytes of the longest body: an insert of as many characters as one may have, with a count for each site and as many runs of undone
-- names as there may be
abbrev pub longest : Version → ℕ
longest One = LONGEST_BODY
longest Two = LONGEST_BODY_TWO

-- the offset of an operation's number, or of its target's site: after the four bytes of the length, the kind, and a site
abbrev pub own_at : Version → ℕ
own_at v = 5 + site_len v

-- the sites that an operation names: its own, or its author's and its target's, and those of its context
abbrev pub own_sites : OpData → List ℕ
own_sites (inserting n p text c) = n.site ∷ []
own_sites (deleting n p c) = n.site ∷ []
own_sites (undoing a t g c) = a ∷ (t.site ∷ [])

abbrev pub context_sites : ContextData → List ℕ
context_sites c = map (λ p. p.0) c.counts ++ map (λ e. e.0.site) c.entries

-- a frame of this version can name all its sites
abbrev pub Fits : Version → OpData → Type 0
Fits v o = (s : ℕ) → Contains (own_sites o ++ context_sites (context_of o)) s → s < sites v
