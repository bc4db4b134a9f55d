-- Originals without their contexts, both ways.
use Rattle.std.proofs.Common.{◌≡◌, ℕ, ◌+◌, ◌<◌, ◌^◌, eqb, true, false, List, [], ◌∷◌, ◌++◌, length, Ok, refl, sym, ap, subst, ◌∙◌, arith, inl, inr, ◌⊎◌}
use Rattle.std.specs.Int.{w8, w32, to_be_bytes}
use Rattle.std.specs.List.{flat_map}
use Rattle.std.proofs.lemmas.Bool.{true≢false, eq-eqb, eqb-true}
use Rattle.std.proofs.lemmas.Bool.Decides.{eqb_tells}
use Rattle.op_name.specs.NameData.{NameData}
use Rattle.context_vector.specs.Contexts.{ContextData, count_of, empty}
use Rattle.context_diff.specs.Operations.{IsLetters}
use Rattle.wire_codec.specs.declared.cause.Cause.TheVariants.{Kind, Own}
use Rattle.wire_codec.specs.declared.version.Version.TheVariants.{Two}
use Rattle.wire_codec.specs.Spelling.{insert_kind, name_bytes, length_bytes, character_bytes, text_bytes}
use Rattle.wire_codec.specs.Reading.{LeftData, ◌>>=◌, number, tested, many, name_at, place_at, length_at, characters_at}
use Rattle.flat_history.specs.Checkpoints.{Placed, inserted, deleted, name_of, with_placed, with_all_placed}
use Rattle.checkpoint_codec.specs.Spelling.{kind_of, rest_bytes, placed_bytes, originals_bytes}
use Rattle.checkpoint_codec.specs.Spelled.{IsNextOriginal, AreOriginals}
use Rattle.checkpoint_codec.specs.Reading.{is_kind, kind_at, start_at, is_next, insert_at, delete_at, rest_at, placed_at, originals_at}
use Rattle.checkpoint_codec.specs.Code.Views.{place_of}
use Rattle.wire_codec.proofs.CallerLemmas.{Reads, bind, mapped, in_words, tested_reads, wide8, wide32, number_reads, many_reads, insert_kinds, IsLengthOf, one_reads, more_reads, AreCharacters, characters_reads}
use Rattle.checkpoint_codec.proofs.NameFields.{IsNamed, IsPlace, place_reads, name_reads}

-- ---- kinds and names

abbrev IsKind : ℕ → Type 0
IsKind k = is_kind k ≡ true

no_kind : (k : ℕ) → eqb k 1 ≡ false → eqb k 2 ≡ false → eqb k 4 ≡ false → is_kind k ≡ false
no_kind k a b c = rw (a, b, c) refl

-- the three kinds
kinds : (k : ℕ) → IsKind k → (k ≡ 1) ⊎ ((k ≡ 2) ⊎ (k ≡ 4))
kinds k h =
    elim (eqb_tells k 1) [
      | inl one ↦ inl one.1
      | inr a ↦ elim (eqb_tells k 2) [
        | inl two ↦ inr (inl two.1)
        | inr b ↦ elim (eqb_tells k 4) [
          | inl four ↦ inr (inr four.1)
          | inr c ↦ absurd (true≢false (sym h ∙ no_kind k a.0 b.0 c.0))
        ]
      ]
    ]

kind_small : (k : ℕ) → IsKind k → k < 2 ^ 8
kind_small k h =
    elim (kinds k h) [
      | inl one ↦ omega (arith, one)
      | inr more ↦ elim more [
        | inl two ↦ omega (arith, two)
        | inr four ↦ omega (arith, four)
      ]
    ]

kind_is : (e : Placed) → IsKind (kind_of e)
kind_is (inserted n p text) =
    elim (insert_kinds (length text)) [
      | inl one ↦ ap is_kind one.0
      | inr more ↦ ap is_kind more.0
    ]
kind_is (deleted n p) = refl

kind_reads : Reads kind_at (to_be_bytes w8) IsKind
kind_reads =
    in_words kind_at (to_be_bytes w8) (to_be_bytes w8) (λ k. (k < 2 ^ 8) × IsKind k) IsKind
    (tested_reads is_kind Kind (number w8) (to_be_bytes w8) (λ k. k < 2 ^ 8) (number_reads w8 (2 ^ 8) wide8))
    (λ k h. h.1) (λ k h. (kind_small k h, h)) (λ k h. refl)

-- a kind and a name
abbrev Start : Type 0
Start = ℕ × NameData

abbrev start_bytes : Start → List ℕ
start_bytes s = to_be_bytes w8 s.0 ++ name_bytes Two s.1

abbrev IsStart : Start → Type 0
IsStart s = IsKind s.0 × IsNamed s.1

start_reads : Reads start_at start_bytes IsStart
unfolding start_at
start_reads =
    in_words start_at start_bytes start_bytes (λ s. IsKind s.0 × (IsNamed s.1 × (s ≡ s))) IsStart
    (bind {X = Start} kind_at (λ k m. ◌>>=◌ {B = Start × LeftData} (name_at Two m) (λ n. Ok ((k, n.0), n.1)))
    (to_be_bytes w8) (λ s. name_bytes Two s.1) IsKind (λ k s. IsNamed s.1 × ((k, s.1) ≡ s)) (λ s. s.0)
    kind_reads
    (λ k h. mapped {X = Start} (name_at Two) (name_bytes Two) IsNamed (λ n. (k, n)) (λ s. s.1) name_reads (λ n. refl))
    (λ k s h. ap (λ (y : Start). y.0) (sym h.1)))
    (λ s h. (h.0, h.1.0))
    (λ s h. (h.0, (h.1, refl)))
    (λ s h. refl)

-- ---- what comes after them

abbrev start_of : Placed → Start
start_of e = (kind_of e, name_of e)

abbrev IsRest : Placed → Type 0
IsRest (inserted n p text) = IsPlace p × IsLetters text
IsRest (deleted n p) = IsPlace p

-- an original of this kind and name
abbrev OfStart : Start → Placed → Type 0
OfStart s e = IsRest e × (start_of e ≡ s)

abbrev text_in : Placed → List ℕ
text_in (inserted n p text) = text
text_in (deleted n p) = []

-- a text, and that it is the original's
abbrev TextParts : NameData → ℕ → ℕ → Placed → Type 0
TextParts n p len e = AreCharacters len (text_in e) × (inserted n p (text_in e) ≡ e)

abbrev InsertParts : ℕ → NameData → Placed → Type 0
InsertParts kind n e =
    IsPlace (place_of e) × (IsLengthOf kind (length (text_in e)) × TextParts n (place_of e) (length (text_in e)) e)

module _ (kind : ℕ) (n : NameData) (no_delete : kind ≡ 2 → ⊥) (lens : Reads (length_at kind) length_bytes (IsLengthOf kind)) where
  insert_of : (e : Placed) → OfStart (kind, n) e → InsertParts kind n e
  insert_of (inserted m p text) f =
      let k : insert_kind (length text) ≡ kind = ap (λ (s : Start). s.0) f.1 in
      let name : m ≡ n = ap (λ (s : Start). s.1) f.1 in
      let letters = f.0.1 in
      let long : IsLengthOf kind (length text) = record { some = letters.some; most = letters.most; is = k } in
      let chars : AreCharacters (length text) text = record { len = refl; scalars = letters.scalars } in
      (f.0.0, (long, (chars, ap (λ (y : NameData). inserted y p text) (sym name))))
  insert_of (deleted m p) f = absurd (no_delete (sym (ap (λ (s : Start). s.0) f.1)))

  of_insert : (e : Placed) → InsertParts kind n e → OfStart (kind, n) e
  of_insert e f =
      let long = f.1.0 in
      let letters : IsLetters (text_in e) = record { some = long.some; most = long.most; scalars = f.1.1.0.scalars } in
      subst (OfStart (kind, n)) f.1.1.1 ((f.0, letters), ap (λ (k : ℕ). (k, n)) long.is)

  insert_reads : Reads (insert_at kind n) rest_bytes (OfStart (kind, n))
  unfolding insert_at
  insert_reads =
      in_words (insert_at kind n) (λ e. to_be_bytes w32 (place_of e) ++ text_bytes (text_in e)) rest_bytes
      (InsertParts kind n) (OfStart (kind, n))
      (bind {X = Placed} place_at
      (λ p m. length_at kind m >>= λ k. ◌>>=◌ {B = Placed × LeftData} (characters_at k.0 k.1) (λ t. Ok (inserted n p t.0, t.1)))
      (to_be_bytes w32) (λ e. text_bytes (text_in e)) IsPlace
      (λ p e. IsLengthOf kind (length (text_in e)) × TextParts n p (length (text_in e)) e) place_of
      place_reads
      (λ p _. bind {X = Placed} (length_at kind)
      (λ k m. ◌>>=◌ {B = Placed × LeftData} (characters_at k m) (λ t. Ok (inserted n p t.0, t.1)))
      length_bytes (λ e. flat_map character_bytes (text_in e)) (IsLengthOf kind) (TextParts n p) (λ e. length (text_in e))
      lens
      (λ k _. mapped (characters_at k) (flat_map character_bytes) (AreCharacters k) (λ t. inserted n p t) text_in (characters_reads k)
      (λ t. refl))
      (λ k e h. h.0.len))
      (λ p e h. ap place_of (sym h.1.1)))
      of_insert
      insert_of
      (λ e f. ap rest_bytes f.1.1.1)

-- an insert is of no kind 2
no_insert : (len : ℕ) → insert_kind len ≡ 2 → ⊥
no_insert len e =
    elim (insert_kinds len) [
      | inl one ↦ omega (arith, e, one.0)
      | inr more ↦ omega (arith, e, more.0)
    ]

delete_of : (n : NameData) (e : Placed) → OfStart (2, n) e → IsPlace (place_of e) × (deleted n (place_of e) ≡ e)
delete_of n (inserted m p text) f = absurd (no_insert (length text) (ap (λ (s : Start). s.0) f.1))
delete_of n (deleted m p) f = (f.0, ap (λ (s : Start). deleted s.1 p) (sym f.1))

delete_reads : (n : NameData) → Reads (delete_at n) rest_bytes (OfStart (2, n))
unfolding delete_at
delete_reads n =
    in_words (delete_at n) (λ e. to_be_bytes w32 (place_of e)) rest_bytes
    (λ e. IsPlace (place_of e) × (deleted n (place_of e) ≡ e)) (OfStart (2, n))
    (mapped {X = Placed} place_at (to_be_bytes w32) IsPlace (λ p. deleted n p) place_of place_reads (λ p. refl))
    (λ e h. subst (OfStart (2, n)) h.1 (h.0, refl))
    (delete_of n)
    (λ e h. ap rest_bytes h.1)

rest_reads : (k : ℕ) (n : NameData) → IsKind k → Reads (rest_at (k, n)) rest_bytes (OfStart (k, n))
rest_reads k n h =
    let Law : ℕ → Type 0 = λ k. Reads (rest_at (k, n)) rest_bytes (OfStart (k, n)) in
    elim (kinds k h) [
      | inl one ↦ subst Law (sym one) (insert_reads 1 n (λ e. omega (arith, e)) one_reads)
      | inr more ↦ elim more [
        | inl two ↦ subst Law (sym two) (delete_reads n)
        | inr four ↦ subst Law (sym four) (insert_reads 4 n (λ e. omega (arith, e)) more_reads)
      ]
    ]

-- ---- whole originals

abbrev Starts : ContextData → Start → Type 0
Starts c s = IsStart s × (is_next c s ≡ true)

next_to : (c : ContextData) (e : Placed) → Starts c (start_of e) × OfStart (start_of e) e → IsNextOriginal c e
next_to c (inserted n p text) h = (h.0.0.1, eqb-true (count_of c n.site + 1) n.number h.0.1, h.1.0.0, h.1.0.1)
next_to c (deleted n p) h = (h.0.0.1, eqb-true (count_of c n.site + 1) n.number h.0.1, h.1.0)

next_from : (c : ContextData) (e : Placed) → IsNextOriginal c e → Starts c (start_of e) × OfStart (start_of e) e
next_from c (inserted n p text) h =
    (((kind_is (inserted n p text), h.0), eq-eqb (count_of c n.site + 1) n.number h.1), ((h.2, h.3), refl))
next_from c (deleted n p) h = (((refl, h.0), eq-eqb (count_of c n.site + 1) n.number h.1), (h.2, refl))

pub placed_reads : (c : ContextData) → Reads (placed_at c) placed_bytes (IsNextOriginal c)
unfolding placed_at
placed_reads c =
    in_words (placed_at c) (λ e. start_bytes (start_of e) ++ rest_bytes e) placed_bytes
    (λ e. Starts c (start_of e) × OfStart (start_of e) e) (IsNextOriginal c)
    (bind {X = Placed} (tested (is_next c) Own start_at) (λ s m. rest_at s m) start_bytes rest_bytes (Starts c) OfStart start_of
    (tested_reads (is_next c) Own start_at start_bytes IsStart start_reads)
    (λ s f. rest_reads s.0 s.1 f.0.0)
    (λ s e h. h.1))
    (next_to c)
    (next_from c)
    (λ e h. refl)

-- originals, each the next of its site, and few
abbrev pub AreFewOriginals : List Placed → Type 0
AreFewOriginals es = (length es < 2 ^ 32) × AreOriginals empty es

pub originals_reads : Reads originals_at originals_bytes AreFewOriginals
unfolding originals_at
originals_reads =
    in_words originals_at originals_bytes originals_bytes
    (λ es. (length es < 2 ^ 32) × ((length es ≡ length es) × AreOriginals empty es)) AreFewOriginals
    (bind {X = List Placed} (number w32) (λ n m. many placed_at with_placed n empty m) (to_be_bytes w32) (flat_map placed_bytes)
    (λ n. n < 2 ^ 32) (λ n es. (length es ≡ n) × AreOriginals empty es) (λ es. length es)
    (number_reads w32 (2 ^ 32) wide32)
    (λ n _. many_reads placed_at with_placed placed_bytes IsNextOriginal placed_reads n empty)
    (λ n es h. h.0))
    (λ es h. (h.0, h.1.1))
    (λ es h. (h.0, (refl, h.1)))
    (λ es h. refl)

-- one original more
pub with_all_placed-push : (c : ContextData) (es : List Placed) (e : Placed)
    → with_all_placed c (es ++ e ∷ []) ≡ with_placed (with_all_placed c es) e
with_all_placed-push c [] e = refl
with_all_placed-push c (x ∷ xs) e = with_all_placed-push (with_placed c x) xs e
