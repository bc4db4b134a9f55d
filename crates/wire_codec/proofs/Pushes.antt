-- Lists that are taken over one element after the other.
use Rattle.std.proofs.Common.{◌≡◌, ℕ, zero, suc, ◌+◌, ◌-◌, ◌*◌, ◌<◌, ◌≤◌, List, [], ◌∷◌, ◌++◌, length, take, Some, None, sym, ap, subst}
use Rattle.std.proofs.Common.{◌∙◌, append_assoc, arith}
use Rattle.std.specs.Global.{Vec}
use Rattle.std.specs.List.{slice_get, flat_map}
use Rattle.std.proofs.Math.Nat.{mul-suc}
use Rattle.std.proofs.lemmas.List.{append-nil, length-append, take_more}
use Rattle.std.proofs.lemmas.List.Concat.{flat_map-append}
use Rattle.std.proofs.lemmas.Option.{slice_get_within, get_or_from_slice_get}
use Rattle.op_name.specs.NameData.{NameData}
use Rattle.op_name.specs.declared.name.TheConstants.{SITES, NUMBERS}
use Rattle.context_vector.specs.Contexts.{AreCounts, AreEntries}
use Rattle.op_name.proofs.CallerLemmas.{name_transitive}
use Rattle.context_vector.specs.Vectors.{SitesBelow, NamesBelow}
use Rattle.wire_codec.specs.declared.version.Version.{Version}
use Rattle.wire_codec.specs.Versions.{sites}
use Rattle.wire_codec.specs.Code.Puts.{HasRoom, Puts, CountsIn, EntriesIn}

-- a site with its count in the middle of a list
pub record FollowsCounts (before : List (ℕ × ℕ)) (p : ℕ × ℕ) : Type 0 where
  pub last : SitesBelow before p.0
  pub site : p.0 < SITES
  pub least : 1 ≤ p.1
  pub greatest : p.1 ≤ NUMBERS

counts_from_low : (low : ℕ) (xs : List (ℕ × ℕ)) (p : ℕ × ℕ) (ys : List (ℕ × ℕ)) → AreCounts low (xs ++ p ∷ ys)
    → (low ≤ p.0) × FollowsCounts xs p
counts_from_low low [] p ys h = (h.0, record { last = tt; site = h.1; least = h.2; greatest = h.3 })
counts_from_low low (x ∷ xs) p ys h =
    let rest = counts_from_low (x.0 + 1) xs p ys h.4 in
    let below : x.0 < p.0 = omega (arith, rest.0) in
    let from : low ≤ p.0 = omega (arith, below, h.0) in
    (from, record { last = (below, rest.1.last); site = rest.1.site; least = rest.1.least; greatest = rest.1.greatest })

pub follows_counts : (all before after : List (ℕ × ℕ)) (p : ℕ × ℕ) → AreCounts 0 all → before ++ p ∷ after ≡ all → FollowsCounts before p
follows_counts all before after p h e = (counts_from_low 0 before p after (subst (AreCounts 0) (sym e) h)).1

names_below : (xs : List (NameData × ℕ)) (e : NameData × ℕ) (ys : List (NameData × ℕ)) → AreEntries (xs ++ e ∷ ys)
    → NamesBelow xs e.0 × (1 ≤ e.1)
names_below [] e ys h = (tt, h.1)
names_below (x ∷ []) e ys h = let rest = names_below [] e ys h.4 in ((h.3, tt), rest.1)
names_below (x ∷ (y ∷ xs)) e ys h =
    let rest = names_below (y ∷ xs) e ys h.4 in
    ((name_transitive x.0 y.0 e.0 h.3 rest.0.0, rest.0), rest.1)

pub follows_entries : (all before after : List (NameData × ℕ)) (e : NameData × ℕ) → AreEntries all → before ++ e ∷ after ≡ all
    → NamesBelow before e.0 × (1 ≤ e.1)
follows_entries all before after e h is = names_below before e after (subst AreEntries (sym is) h)

-- one more is taken over
pub taken_over : {A : Type 0} (all before now after : List A) (x : A) → before ++ now ≡ all → now ≡ x ∷ after
    → (before ++ x ∷ []) ++ after ≡ all
taken_over {A = A} all before now after x e is = append_assoc before (x ∷ []) after ∙ (ap (λ (t : List A). before ++ t) (sym is) ∙ e)

pub all_taken : {A : Type 0} (all before now : List A) → before ++ now ≡ all → now ≡ [] → before ≡ all
all_taken {A = A} all before now e is = sym (append-nil before) ∙ (ap (λ (t : List A). before ++ t) (sym is) ∙ e)

-- the version can name each site of a context
pub site_in : (v : Version) (ps : List (ℕ × ℕ)) (i : ℕ) (p : ℕ × ℕ) → CountsIn v ps → slice_get ps i ≡ Some p → p.0 < sites v
site_in v [] i p are at = let none : None ≡ Some p = at in cc
site_in v (q ∷ ps) zero p are at = let is : q ≡ p = cc in subst (λ (x : ℕ × ℕ). x.0 < sites v) is are.0
site_in v (q ∷ ps) (suc i) p are at = site_in v ps i p are.1 at

pub entry_in_version : (v : Version) (es : List (NameData × ℕ)) (i : ℕ) (e : NameData × ℕ) → EntriesIn v es → slice_get es i ≡ Some e
    → e.0.site < sites v
entry_in_version v [] i e are at = let none : None ≡ Some e = at in cc
entry_in_version v (d ∷ es) zero e are at = let is : d ≡ e = cc in subst (λ (x : NameData × ℕ). x.0.site < sites v) is are.0
entry_in_version v (d ∷ es) (suc i) e are at = entry_in_version v es i e are.1 at

-- ---- pieces put one after the other

take_more_at : {A : Type 0} (xs : List A) (i : ℕ) (x : A) → slice_get xs i ≡ Some x → take (i + 1) xs ≡ take i xs ++ x ∷ []
take_more_at {A = A} xs i x e =
    take_more xs i x (slice_get_within xs i x e) ∙ ap (λ (y : A). take i xs ++ y ∷ []) (get_or_from_slice_get xs i x x e)

pub pieces_more : {A : Type 0} (piece : A → List ℕ) (xs : List A) (i : ℕ) (x : A) → slice_get xs i ≡ Some x
    → flat_map piece (take (i + 1) xs) ≡ flat_map piece (take i xs) ++ piece x
pieces_more piece xs i x e =
    ap (flat_map piece) (take_more_at xs i x e)
    ∙ (flat_map-append piece (take i xs) (x ∷ []) ∙ ap (λ (t : List ℕ). flat_map piece (take i xs) ++ t) (append-nil (piece x)))

-- the pieces of the first i elements stand there, and there is room for the others
pub record IsPutUpTo {A : Type 0} (piece : A → List ℕ) (size : ℕ) (xs : List A) (old : Vec ℕ) (i : ℕ) (new : Vec ℕ) : Type 0 where
  pub puts : Puts old new (flat_map piece (take i xs))
  pub room : HasRoom new (size * (length xs - i))

module _ {A : Type 0} (piece : A → List ℕ) (size : ℕ) (sized : (x : A) → length (piece x) ≡ size) (xs : List A) (old : Vec ℕ) where
  pub put_room : (i : ℕ) (x : A) (now : Vec ℕ) → slice_get xs i ≡ Some x → IsPutUpTo piece size xs old i now → HasRoom now size
  put_room i x now e up =
      let within = slice_get_within xs i x e in
      let k : length xs - i ≡ suc (length xs - (i + 1)) = omega (arith, within) in
      let split : size * (length xs - i) ≡ size * (length xs - (i + 1)) + size =
      ap (λ (n : ℕ). size * n) k ∙ mul-suc size (length xs - (i + 1)) in
      let before = up.room in
      omega (arith, before, split)

  pub put_more : (i : ℕ) (x : A) (now new : Vec ℕ) → slice_get xs i ≡ Some x → IsPutUpTo piece size xs old i now → Puts now new (piece x)
      → IsPutUpTo piece size xs old (i + 1) new
  put_more i x now new e up put =
      let within = slice_get_within xs i x e in
      let k : length xs - i ≡ suc (length xs - (i + 1)) = omega (arith, within) in
      let split : size * (length xs - i) ≡ size * (length xs - (i + 1)) + size =
      ap (λ (n : ℕ). size * n) k ∙ mul-suc size (length xs - (i + 1)) in
      let text = pieces_more piece xs i x e in
      let items : new.items ≡ old.items ++ (flat_map piece (take i xs) ++ piece x) =
      put.items ∙ (ap (λ (t : List ℕ). t ++ piece x) up.puts.items ∙ append_assoc old.items (flat_map piece (take i xs)) (piece x)) in
      let long = length-append (flat_map piece (take i xs)) (piece x) in
      let text_len = ap length text in
      let len_1 = up.puts.len in
      let len_2 = put.len in
      let cap_1 = up.puts.capacity in
      let cap_2 = put.capacity in
      let wide = sized x in
      let before = up.room in
      record {
        puts = record {
          items = items ∙ ap (λ (t : List ℕ). old.items ++ t) (sym text);
          len =
              omega (arith, len_1, len_2, long, text_len);
          capacity = omega (arith, cap_1, cap_2);
        };
        room = omega (arith, before, split, len_2, cap_2, wide);
      }

-- four pieces, one after the other
pub four_pieces : (a b c d e w x y z : List ℕ) → b ≡ a ++ w → c ≡ b ++ x → d ≡ c ++ y → e ≡ d ++ z → e ≡ a ++ (w ++ (x ++ (y ++ z)))
four_pieces a b c d e w x y z p q r s =
    s ∙ (ap (λ (t : List ℕ). t ++ z) (r ∙ ap (λ (t : List ℕ). t ++ y) (q ∙ ap (λ (t : List ℕ). t ++ x) p)) ∙ simp append_assoc)
