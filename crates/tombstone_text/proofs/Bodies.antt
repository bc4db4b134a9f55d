-- The cells of chunks, their texts, and the room that these have, where a chunk changes or comes in.
use Rattle.std.proofs.Common.{◌≡◌, ℕ, ◌<◌, List, [], ◌∷◌, length, insert, refl, set, get_or, sym, ap, ◌∙◌, arith}
use Rattle.std.proofs.lemmas.List.{length-map, map-set, get_or-map, get_or-set_same, set-get_or}
use Rattle.tombstone_text.specs.Code.Chunks.{ChunkData, bodies, gaps_of, rooms_of, texts_of}
use Rattle.tombstone_text.specs.Code.Cells.{cut}
use Rattle.tombstone_text.proofs.Flags.{map-insert}

pub bodies_long : (cs : List ChunkData) → length (bodies cs) ≡ length cs
bodies_long cs = length-map cs (λ (c : ChunkData). c.cells)

pub bodies_within : (cs : List ChunkData) (i : ℕ) → i < length (bodies cs) → i < length cs
bodies_within cs i lt = omega (arith, bodies_long cs)

pub bodies_none : (cs : List ChunkData) → bodies cs ≡ [] → cs ≡ []
bodies_none [] none = refl
bodies_none (c ∷ cs) none = cc

-- a chunk that was read
pub body_read : (cs : List ChunkData) (i : ℕ) (x : ChunkData) → i < length (bodies cs) → x ≡ get_or cs i x
    → x.cells ≡ get_or (bodies cs) i []
body_read cs i x lt read =
    ap (λ (c : ChunkData). c.cells) read ∙ sym (get_or-map (λ (c : ChunkData). c.cells) cs i x [] (bodies_within cs i lt))

pub body_there : (cs : List ChunkData) (i : ℕ) (x : ChunkData) → i < length (bodies cs) → x ≡ get_or cs i x
    → x.cells ≡ get_or (bodies cs) i x.cells
body_there cs i x lt read =
    ap (λ (c : ChunkData). c.cells) read ∙ sym (get_or-map (λ (c : ChunkData). c.cells) cs i x x.cells (bodies_within cs i lt))

pub text_read : (cs : List ChunkData) (i : ℕ) (x : ChunkData) → i < length (bodies cs) → x ≡ get_or cs i x
    → x.text ≡ get_or (texts_of cs) i []
text_read cs i x lt read =
    ap (λ (c : ChunkData). c.text) read ∙ sym (get_or-map (λ (c : ChunkData). c.text) cs i x [] (bodies_within cs i lt))

pub room_read : (cs : List ChunkData) (i : ℕ) (x : ChunkData) → i < length (bodies cs) → x ≡ get_or cs i x
    → x.room ≡ get_or (rooms_of cs) i 0
room_read cs i x lt read =
    ap (λ (c : ChunkData). c.room) read ∙ sym (get_or-map (λ (c : ChunkData). c.room) cs i x 0 (bodies_within cs i lt))

pub gap_read : (cs : List ChunkData) (i : ℕ) (x : ChunkData) → i < length (bodies cs) → x ≡ get_or cs i x
    → x.gaps ≡ get_or (gaps_of cs) i 0
gap_read cs i x lt read =
    ap (λ (c : ChunkData). c.gaps) read ∙ sym (get_or-map (λ (c : ChunkData). c.gaps) cs i x 0 (bodies_within cs i lt))

-- a chunk that changed
pub bodies_set : (cs : List ChunkData) (i : ℕ) (x : ChunkData) → bodies (set cs i x) ≡ set (bodies cs) i x.cells
bodies_set cs i x = map-set (λ (c : ChunkData). c.cells) cs i x

pub texts_set : (cs : List ChunkData) (i : ℕ) (x : ChunkData) → texts_of (set cs i x) ≡ set (texts_of cs) i x.text
texts_set cs i x = map-set (λ (c : ChunkData). c.text) cs i x

pub rooms_set : (cs : List ChunkData) (i : ℕ) (x : ChunkData) → rooms_of (set cs i x) ≡ set (rooms_of cs) i x.room
rooms_set cs i x = map-set (λ (c : ChunkData). c.room) cs i x

-- a chunk whose cells stayed
pub bodies_kept : (cs : List ChunkData) (i : ℕ) (x y : ChunkData) → i < length (bodies cs) → x ≡ get_or cs i x → y.cells ≡ x.cells
    → bodies (set cs i y) ≡ bodies cs
bodies_kept cs i x y lt read same =
    bodies_set cs i y ∙ ap (λ c. set (bodies cs) i c) (same ∙ body_read cs i x lt read) ∙ set-get_or (bodies cs) i []

-- a chunk whose characters stayed
pub texts_kept : (cs : List ChunkData) (i : ℕ) (x y : ChunkData) → i < length (bodies cs) → x ≡ get_or cs i x → y.text ≡ x.text
    → texts_of (set cs i y) ≡ texts_of cs
texts_kept cs i x y lt read same =
    texts_set cs i y ∙ ap (λ c. set (texts_of cs) i c) (same ∙ text_read cs i x lt read) ∙ set-get_or (texts_of cs) i []

-- the room of a chunk that changed
pub room_set : (cs : List ChunkData) (i : ℕ) (y : ChunkData) → i < length (bodies cs) → get_or (rooms_of (set cs i y)) i 0 ≡ y.room
room_set cs i y lt =
    let within : i < length (rooms_of cs) = omega (arith, lt, bodies_long cs, length-map cs (λ (c : ChunkData). c.room)) in
    ap (λ ns. get_or ns i 0) (rooms_set cs i y) ∙ get_or-set_same (rooms_of cs) i y.room 0 within

pub gap_set : (cs : List ChunkData) (i : ℕ) (y : ChunkData) → i < length (bodies cs) → get_or (gaps_of (set cs i y)) i 0 ≡ y.gaps
gap_set cs i y lt =
    let within : i < length (gaps_of cs) = omega (arith, lt, bodies_long cs, length-map cs (λ (c : ChunkData). c.gaps)) in
    ap (λ ns. get_or ns i 0) (map-set (λ (c : ChunkData). c.gaps) cs i y) ∙ get_or-set_same (gaps_of cs) i y.gaps 0 within

-- a chunk that came in
pub bodies_insert : (cs : List ChunkData) (i : ℕ) (x : ChunkData) → bodies (insert cs i x) ≡ insert (bodies cs) i x.cells
bodies_insert cs i x = map-insert (λ (c : ChunkData). c.cells) cs i x

pub texts_insert : (cs : List ChunkData) (i : ℕ) (x : ChunkData) → texts_of (insert cs i x) ≡ insert (texts_of cs) i x.text
texts_insert cs i x = map-insert (λ (c : ChunkData). c.text) cs i x

-- a chunk that changed, and one that came in
pub texts_two : (cs : List ChunkData) (i n : ℕ) (x y : ChunkData)
    → texts_of (insert (set cs i x) n y) ≡ insert (set (texts_of cs) i x.text) n y.text
texts_two cs i n x y = texts_insert (set cs i x) n y ∙ ap (λ ts. insert ts n y.text) (texts_set cs i x)

-- a chunk that was cut in two
pub bodies_cut : (cs : List ChunkData) (i n k : ℕ) (x y : ChunkData) → insert (set (bodies cs) i x.cells) n y.cells ≡ cut (bodies cs) i k
    → bodies (insert (set cs i x) n y) ≡ cut (bodies cs) i k
bodies_cut cs i n k x y e = bodies_insert (set cs i x) n y ∙ ap (λ ds. insert ds n y.cells) (bodies_set cs i x) ∙ e
