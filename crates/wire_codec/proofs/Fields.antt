-- The fields of operations, both ways.
use Rattle.std.proofs.Common.{◌≡◌, ℕ, ◌<◌, ◌≤◌, ◌^◌, ltb, true, List, [], ◌++◌, length, Ok, refl, sym, ap, subst, arith, inl, inr}
use Rattle.std.specs.Int.{w8, w16, w32, to_be_bytes}
use Rattle.std.specs.List.{flat_map}
use Rattle.std.proofs.lemmas.Bool.{ltb-true, lt-ltb, cases_eq}
use Rattle.op_name.specs.NameData.{NameData}
use Rattle.op_name.specs.declared.name.TheConstants.{NUMBERS}
use Rattle.op_name.specs.declared.member.TheConstants.{GENERATIONS}
use Rattle.context_diff.specs.Operations.{IsLetters}
use Rattle.context_diff.specs.declared.op.TheConstants.{PLACES}
use Rattle.wire_codec.specs.declared.cause.Cause.TheVariants.{Range, Kind}
use Rattle.wire_codec.specs.declared.head.Head.{Head}
use Rattle.wire_codec.specs.declared.head.Head.TheVariants.{Insert, Delete, Undo}
use Rattle.wire_codec.specs.declared.version.Version.{Version}
use Rattle.wire_codec.specs.Versions.{site_width}
use Rattle.wire_codec.specs.Spelling.{site_bytes, name_bytes, insert_kind, kind_of, length_bytes, character_bytes, text_bytes, field_bytes, head_bytes}
use Rattle.wire_codec.specs.Reading.{LeftData, ◌>>=◌, number, last_site, kind_at, site_at, number_at, place_at, generation_at, name_at, length_at, characters_at, insert_at, delete_at, undo_at, fields_at, head_at}
use Rattle.wire_codec.proofs.TwoWays.{Reads, bind, mapped, in_words, tested_reads}
use Rattle.wire_codec.proofs.Numbers.{wide8, wide16, wide32, number_reads, bounded_reads}
use Rattle.wire_codec.proofs.Sites.{IsSite, site_limit, wide_site, sites_some, sites_fit}
use Rattle.wire_codec.proofs.InsertTexts.{insert_kinds, IsLengthOf, one_reads, more_reads, AreCharacters, characters_reads}

abbrev pub IsPlace : ℕ → Type 0
IsPlace p = p ≤ PLACES

abbrev pub IsGeneration : ℕ → Type 0
IsGeneration g = (1 ≤ g) × (g ≤ GENERATIONS)

-- a name that the version can spell
abbrev pub IsNamed : Version → NameData → Type 0
IsNamed v n = IsSite v n.site × ((1 ≤ n.number) × (n.number ≤ NUMBERS))

-- the ranges of the fields before a context
abbrev pub IsHead : Version → Head → Type 0
IsHead v (Insert n p text) = IsNamed v n × (IsPlace p × IsLetters text)
IsHead v (Delete n p) = IsNamed v n × IsPlace p
IsHead v (Undo a t g) = IsSite v a × (IsNamed v t × IsGeneration g)

pub site_reads : (v : Version) → Reads (site_at v) (site_bytes v) (IsSite v)
site_reads v =
    let some = sites_some v in
    in_words (site_at v) (site_bytes v) (site_bytes v) (λ s. (0 ≤ s) × (s ≤ last_site v)) (IsSite v)
    (bounded_reads (site_width v) (site_limit v) (wide_site v) 0 (last_site v) Range (let fit = sites_fit v in omega (arith, fit)))
    (λ s h. omega (arith, h.1, some)) (λ s h. (omega arith, omega (arith, h, some))) (λ s h. refl)

pub place_reads : Reads place_at (to_be_bytes w32) IsPlace
place_reads =
    in_words place_at (to_be_bytes w32) (to_be_bytes w32) (λ p. p < 2 ^ 32) IsPlace (number_reads w32 (2 ^ 32) wide32)
    (λ p h. omega (arith, h)) (λ p h. omega (arith, h)) (λ p h. refl)

generation_reads : Reads generation_at (to_be_bytes w16) IsGeneration
generation_reads =
    in_words generation_at (to_be_bytes w16) (to_be_bytes w16) (λ g. (g < 2 ^ 16) × (ltb 0 g ≡ true)) IsGeneration
    (tested_reads (λ g. ltb 0 g) Range (number w16) (to_be_bytes w16) (λ g. g < 2 ^ 16) (number_reads w16 (2 ^ 16) wide16))
    (λ g h. let above = ltb-true 0 g h.1 in (omega arith, omega arith))
    (λ g h. (omega arith, lt-ltb 0 g (omega arith)))
    (λ g h. refl)

pub name_reads : (v : Version) → Reads (name_at v) (name_bytes v) (IsNamed v)
unfolding name_at
name_reads v =
    in_words (name_at v) (name_bytes v) (name_bytes v) (λ n. IsSite v n.site × (((1 ≤ n.number) × (n.number ≤ NUMBERS)) × (n ≡ n)))
    (IsNamed v)
    (bind (site_at v) (λ s m. ◌>>=◌ {B = NameData × LeftData} (number_at m) (λ k. Ok (record { site = s; number = k.0 }, k.1)))
    (site_bytes v) (λ n. to_be_bytes w32 n.number) (IsSite v)
    (λ s n. ((1 ≤ n.number) × (n.number ≤ NUMBERS)) × (record { site = s; number = n.number } ≡ n)) (λ n. n.site)
    (site_reads v)
    (λ s h. mapped number_at (to_be_bytes w32) (λ k. (1 ≤ k) × (k ≤ NUMBERS)) (λ k. record { site = s; number = k }) (λ n. n.number)
    (bounded_reads w32 (2 ^ 32) wide32 1 NUMBERS Range (omega arith)) (λ k. refl))
    (λ s n h. ap (λ (y : NameData). y.site) (sym h.1)))
    (λ n h. (h.0, h.1.0))
    (λ n h. (h.0, (h.1, refl)))
    (λ n h. refl)

-- ---- heads

abbrev name_in : Head → NameData
name_in (Insert n p text) = n
name_in (Delete n p) = n
name_in (Undo a t g) = t

abbrev place_in : Head → ℕ
place_in (Insert n p text) = p
place_in (Delete n p) = p
place_in (Undo a t g) = 0

abbrev text_in : Head → List ℕ
text_in (Insert n p text) = text
text_in (Delete n p) = []
text_in (Undo a t g) = []

abbrev author_in : Head → ℕ
author_in (Insert n p text) = 0
author_in (Delete n p) = 0
author_in (Undo a t g) = a

abbrev generation_in : Head → ℕ
generation_in (Insert n p text) = 0
generation_in (Delete n p) = 0
generation_in (Undo a t g) = g

-- a head of a kind
abbrev OfKind : Version → ℕ → Head → Type 0
OfKind v kind h = IsHead v h × (kind_of h ≡ kind)

-- a text, and that it is the head's
abbrev TextParts : NameData → ℕ → ℕ → Head → Type 0
TextParts n p len h = AreCharacters len (text_in h) × (Insert n p (text_in h) ≡ h)

abbrev InsertParts : Version → ℕ → Head → Type 0
InsertParts v kind h =
    IsNamed v (name_in h)
    × (IsPlace (place_in h)
    × (IsLengthOf kind (length (text_in h)) × TextParts (name_in h) (place_in h) (length (text_in h)) h))

module _ (v : Version) (kind : ℕ) (no_delete : kind ≡ 2 → ⊥) (no_undo : kind ≡ 3 → ⊥)
    (lens : Reads (length_at kind) length_bytes (IsLengthOf kind)) where
  insert_of : (h : Head) → OfKind v kind h → InsertParts v kind h
  insert_of (Insert n p text) f =
      let letters = f.0.1.1 in
      let long : IsLengthOf kind (length text) = record { some = letters.some; most = letters.most; is = f.1 } in
      (f.0.0, (f.0.1.0, (long, (record { len = refl; scalars = letters.scalars }, refl))))
  insert_of (Delete n p) f = absurd (no_delete (sym f.1))
  insert_of (Undo a t g) f = absurd (no_undo (sym f.1))

  of_insert : (h : Head) → InsertParts v kind h → OfKind v kind h
  of_insert h f =
      let long = f.1.1.0 in
      let letters : IsLetters (text_in h) = record { some = long.some; most = long.most; scalars = f.1.1.1.0.scalars } in
      subst (OfKind v kind) f.1.1.1.1 ((f.0, (f.1.0, letters)), long.is)

  insert_reads : Reads (insert_at v kind) (field_bytes v) (OfKind v kind)
  unfolding insert_at
  insert_reads =
      in_words (insert_at v kind) (λ h. name_bytes v (name_in h) ++ (to_be_bytes w32 (place_in h) ++ text_bytes (text_in h)))
      (field_bytes v)
      (InsertParts v kind) (OfKind v kind)
      (bind {X = Head} (name_at v)
      (λ n m. place_at m >>= λ p. length_at kind p.1 >>= λ k. ◌>>=◌ {B = Head × LeftData} (characters_at k.0 k.1)
      (λ t. Ok (Insert n p.0 t.0, t.1)))
      (name_bytes v) (λ h. to_be_bytes w32 (place_in h) ++ text_bytes (text_in h)) (IsNamed v)
      (λ n h. IsPlace (place_in h) × (IsLengthOf kind (length (text_in h)) × TextParts n (place_in h) (length (text_in h)) h)) name_in
      (name_reads v)
      (λ n _. bind {X = Head} place_at
      (λ p m. length_at kind m >>= λ k. ◌>>=◌ {B = Head × LeftData} (characters_at k.0 k.1) (λ t. Ok (Insert n p t.0, t.1)))
      (to_be_bytes w32) (λ h. text_bytes (text_in h)) IsPlace
      (λ p h. IsLengthOf kind (length (text_in h)) × TextParts n p (length (text_in h)) h) place_in
      place_reads
      (λ p _. bind {X = Head} (length_at kind)
      (λ k m. ◌>>=◌ {B = Head × LeftData} (characters_at k m) (λ t. Ok (Insert n p t.0, t.1)))
      length_bytes (λ h. flat_map character_bytes (text_in h)) (IsLengthOf kind) (TextParts n p) (λ h. length (text_in h))
      lens
      (λ k _. mapped (characters_at k) (flat_map character_bytes) (AreCharacters k) (λ t. Insert n p t) text_in (characters_reads k)
      (λ t. refl))
      (λ k h e. e.0.len))
      (λ p h e. ap place_in (sym e.1.1)))
      (λ n h e. ap name_in (sym e.1.1.1)))
      of_insert
      insert_of
      (λ h f. ap (field_bytes v) f.1.1.1.1)

-- a kind between 1 and 4 is none of an insert
no_insert_kind : (kind len : ℕ) → insert_kind len ≡ kind → 1 < kind → kind < 4 → ⊥
no_insert_kind kind len e low high = elim (insert_kinds len) [
  | inl one ↦ omega (arith, e, one.0, low)
  | inr more ↦ omega (arith, e, more.0, high)
]

abbrev DeleteParts : Version → Head → Type 0
DeleteParts v h = IsNamed v (name_in h) × (IsPlace (place_in h) × (Delete (name_in h) (place_in h) ≡ h))

delete_of : (v : Version) (h : Head) → OfKind v 2 h → DeleteParts v h
delete_of v (Insert n p text) f = absurd (no_insert_kind 2 (length text) f.1 (omega arith) (omega arith))
delete_of v (Delete n p) f = (f.0.0, (f.0.1, refl))
delete_of v (Undo a t g) f = absurd (let no = f.1 in omega arith)

delete_reads : (v : Version) → Reads (delete_at v) (field_bytes v) (OfKind v 2)
unfolding delete_at
delete_reads v =
    in_words (delete_at v) (λ h. name_bytes v (name_in h) ++ to_be_bytes w32 (place_in h)) (field_bytes v) (DeleteParts v) (OfKind v 2)
    (bind {X = Head} (name_at v) (λ n m. ◌>>=◌ {B = Head × LeftData} (place_at m) (λ p. Ok (Delete n p.0, p.1)))
    (name_bytes v) (λ h. to_be_bytes w32 (place_in h)) (IsNamed v)
    (λ n h. IsPlace (place_in h) × (Delete n (place_in h) ≡ h)) name_in
    (name_reads v)
    (λ n _. mapped place_at (to_be_bytes w32) IsPlace (λ p. Delete n p) place_in place_reads (λ p. refl))
    (λ n h e. ap name_in (sym e.1)))
    (λ h f. subst (OfKind v 2) f.1.1 ((f.0, f.1.0), refl))
    (delete_of v)
    (λ h f. ap (field_bytes v) f.1.1)

abbrev UndoParts : Version → Head → Type 0
UndoParts v h =
    IsSite v (author_in h) × (IsNamed v (name_in h)
    × (IsGeneration (generation_in h) × (Undo (author_in h) (name_in h) (generation_in h) ≡ h)))

undo_of : (v : Version) (h : Head) → OfKind v 3 h → UndoParts v h
undo_of v (Insert n p text) f = absurd (no_insert_kind 3 (length text) f.1 (omega arith) (omega arith))
undo_of v (Delete n p) f = absurd (let no = f.1 in omega arith)
undo_of v (Undo a t g) f = (f.0.0, (f.0.1.0, (f.0.1.1, refl)))

undo_reads : (v : Version) → Reads (undo_at v) (field_bytes v) (OfKind v 3)
unfolding undo_at
undo_reads v =
    in_words (undo_at v) (λ h. site_bytes v (author_in h) ++ (name_bytes v (name_in h) ++ to_be_bytes w16 (generation_in h)))
    (field_bytes v) (UndoParts v)
    (OfKind v 3)
    (bind {X = Head} (site_at v) (λ a m. name_at v m >>= λ t.
    ◌>>=◌ {B = Head × LeftData} (generation_at t.1) (λ g. Ok (Undo a t.0 g.0, g.1)))
    (site_bytes v) (λ h. name_bytes v (name_in h) ++ to_be_bytes w16 (generation_in h)) (IsSite v)
    (λ a h. IsNamed v (name_in h) × (IsGeneration (generation_in h) × (Undo a (name_in h) (generation_in h) ≡ h))) author_in
    (site_reads v)
    (λ a _. bind {X = Head} (name_at v) (λ t m. ◌>>=◌ {B = Head × LeftData} (generation_at m) (λ g. Ok (Undo a t g.0, g.1)))
    (name_bytes v) (λ h. to_be_bytes w16 (generation_in h)) (IsNamed v)
    (λ t h. IsGeneration (generation_in h) × (Undo a t (generation_in h) ≡ h)) name_in
    (name_reads v)
    (λ t _. mapped generation_at (to_be_bytes w16) IsGeneration (λ g. Undo a t g) generation_in generation_reads (λ g. refl))
    (λ t h e. ap name_in (sym e.1)))
    (λ a h e. ap author_in (sym e.1.1)))
    (λ h f. subst (OfKind v 3) f.1.1.1 ((f.0, (f.1.0, f.1.1.0)), refl))
    (undo_of v)
    (λ h f. ap (field_bytes v) f.1.1.1)

fields_reads : (v : Version) (kind : ℕ) → (1 ≤ kind) × (kind ≤ 4) → Reads (fields_at v kind) (field_bytes v) (OfKind v kind)
fields_reads v kind h =
    let Law : ℕ → Type 0 = λ k. Reads (fields_at v k) (field_bytes v) (OfKind v k) in
    elim (cases_eq kind 2) [
      | inl two ↦ subst Law (sym two) (delete_reads v)
      | inr not_two ↦ elim (cases_eq kind 3) [
        | inl three ↦ subst Law (sym three) (undo_reads v)
        | inr not_three ↦ elim (cases_eq kind 1) [
          | inl one ↦ subst Law (sym one) (insert_reads v 1 (λ e. omega (arith, e)) (λ e. omega (arith, e)) one_reads)
          | inr not_one ↦
              let four : kind ≡ 4 = omega (arith, h.0, h.1, not_one, not_two, not_three) in
              subst Law (sym four) (insert_reads v 4 (λ e. omega (arith, e)) (λ e. omega (arith, e)) more_reads)
        ]
      ]
    ]

kind_is : (h : Head) → (1 ≤ kind_of h) × (kind_of h ≤ 4)
kind_is (Insert n p text) = elim (insert_kinds (length text)) [
  | inl one ↦ (omega (arith, one.0), omega (arith, one.0))
  | inr more ↦ (omega (arith, more.0), omega (arith, more.0))
]
kind_is (Delete n p) = (omega arith, omega arith)
kind_is (Undo a t g) = (omega arith, omega arith)

pub head_reads : (v : Version) → Reads (head_at v) (head_bytes v) (IsHead v)
unfolding head_at head_bytes
head_reads v =
    in_words (head_at v) (head_bytes v) (head_bytes v) (λ h. ((1 ≤ kind_of h) × (kind_of h ≤ 4)) × OfKind v (kind_of h) h) (IsHead v)
    (bind kind_at (λ k m. fields_at v k m) (to_be_bytes w8) (field_bytes v) (λ k. (1 ≤ k) × (k ≤ 4)) (OfKind v) kind_of
    (bounded_reads w8 (2 ^ 8) wide8 1 4 Kind (omega arith)) (fields_reads v) (λ k h f. f.1))
    (λ h f. f.1.0) (λ h f. (kind_is h, (f, refl))) (λ h f. refl)
