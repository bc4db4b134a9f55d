-- Histories of the same operations have the same bytes.
use Rattle.std.proofs.Common.{◌≡◌, ℕ, true, false, List, [], ◌++◌, Option, refl, ap, sym, ◌∙◌, inl, inr}
use Rattle.std.specs.Prelude.{◌&&◌, nat_le}
use Rattle.std.specs.List.{flat_map}
use Rattle.std.specs.Option.{option_map_or}
use Rattle.std.specs.Cmp.{both_ways as same_bool}
use Rattle.std.proofs.lemmas.Bool.{cases_Bool, false≢true, false_from_ne_true}
use Rattle.std.proofs.lemmas.Grind.{flat_map-append}
use Rattle.op_name.specs.declared.member.Member.{Member}
use Rattle.op_name.specs.declared.member.Member.TheVariants.{Original, Group}
use Rattle.op_name.specs.NameData.{NameData}
use Rattle.context_vector.specs.Contexts.{ContextData, has, entry_of}
use Rattle.context_vector.proofs.CallerLemmas.{same_context}
use Rattle.context_diff.specs.Operations.{OpData, inserting, deleting, undoing, member_of, is_original}
use Rattle.context_diff.specs.Histories.{IsValid, Same, is_known, context_of_all}
use Rattle.context_diff.proofs.CallerLemmas.{complete, all_is_context, generation_is, group_facts, holder, known_member}
use Rattle.wire_codec.specs.declared.version.Version.TheVariants.{Two}
use Rattle.wire_codec.specs.Spelling.{frame}
use Rattle.log_listings.specs.Digests.{content_of, originals_of, groups_of, members_of, history_bytes}
use Rattle.log_listings.specs.Laws.{SameOperationsSameBytes}
use Rattle.log_listings.proofs.Originals.{original_found, original_missing}

-- an operation of a name is an insert or a delete
pub is_named : (o : OpData) (n : NameData) → member_of o ≡ Original n → is_original o ≡ true
is_named (inserting m p text c) n e = refl
is_named (deleting m p c) n e = refl
is_named (undoing a t g c) n e = absurd (cc)

module _ (h k : List OpData) (v : IsValid h) (w : IsValid k) (same : Same h k) where
  name_known : (n : NameData) → is_known h (Original n) ≡ is_known k (Original n)
  name_known n = same_bool (is_known h (Original n)) (is_known k (Original n)) there back
    where
      there : is_known h (Original n) ≡ true → is_known k (Original n) ≡ true
      there e =
          let o = holder h (Original n) e in
          ap (is_known k) (sym o.is) ∙ known_member k o.op ((same.originals o.op (is_named o.op n o.is)).0 o.there)

      back : is_known k (Original n) ≡ true → is_known h (Original n) ≡ true
      back e =
          let o = holder k (Original n) e in
          ap (is_known h) (sym o.is) ∙ known_member h o.op ((same.originals o.op (is_named o.op n o.is)).1 o.there)

  -- of a name that isn't there no group is
  no_group : (j : List OpData) → IsValid j → (t : NameData) (g : ℕ) → is_known j (Original t) ≡ false
      → has (context_of_all j) (Group t g) ≡ false
  no_group j u t g none =
      (complete j u).holds (Group t g)
      ∙ false_from_ne_true (is_known j (Group t g)) (λ e. false≢true (sym none ∙ (group_facts j (complete j u) t g e).target))

  same_members : (m : Member) → has (context_of_all h) m ≡ has (context_of_all k) m
  same_members (Original n) = (complete h v).holds (Original n) ∙ (name_known n ∙ sym ((complete k w).holds (Original n)))
  same_members (Group t g) = elim (cases_Bool (is_known h (Original t))) [
    | inl known ↦
        let entry : entry_of (context_of_all h) t ≡ entry_of (context_of_all k) t =
        sym (generation_is h v t) ∙ (same.generations t known ∙ generation_is k w t) in
        reaches entry
    | inr none ↦ no_group h v t g none ∙ sym (no_group k w t g (sym (name_known t) ∙ none))
  ]
    where
      reaches : entry_of (context_of_all h) t ≡ entry_of (context_of_all k) t
          → has (context_of_all h) (Group t g) ≡ has (context_of_all k) (Group t g)
      reaches e = ap (λ (x : ℕ). nat_le 1 g && nat_le g x) e

  same_content : (m : Member) → content_of h m ≡ content_of k m
  same_content (Original n) = elim (cases_Bool (is_known h (Original n))) [
    | inl known ↦
        let o = holder h (Original n) known in
        ap (λ (x : Option OpData). option_map_or (frame Two) x [])
        (original_found h n o.op v o.there o.is
        ∙ sym (original_found k n o.op w ((same.originals o.op (is_named o.op n o.is)).0 o.there) o.is))
    | inr none ↦
        ap (λ (x : Option OpData). option_map_or (frame Two) x [])
        (original_missing h n none ∙ sym (original_missing k n (sym (name_known n) ∙ none)))
  ]
  same_content (Group t g) = refl

  same_contexts : context_of_all h ≡ context_of_all k
  same_contexts = same_context (context_of_all h) (context_of_all k) (all_is_context h v) (all_is_context k w) same_members

  pub bytes_same : history_bytes h ≡ history_bytes k
  unfolding history_bytes
  bytes_same =
      ap (λ (f : Member → List ℕ). flat_map f (members_of (context_of_all h))) (λ i. λ (m : Member). same_content m i)
      ∙ ap (λ (c : ContextData). flat_map (content_of k) (members_of c)) same_contexts

pub same_operations_same_bytes : SameOperationsSameBytes
same_operations_same_bytes h k v w same = bytes_same h k v w same

-- the bytes of a history: those of its originals, and then those of its groups
pub history_parts : (h : List OpData) (c : ContextData) → c ≡ context_of_all h
    → flat_map (content_of h) (flat_map originals_of c.counts) ++ flat_map (content_of h) (flat_map groups_of c.entries) ≡ history_bytes h
unfolding history_bytes
history_parts h c is =
    sym (flat_map-append (content_of h) (flat_map originals_of c.counts) (flat_map groups_of c.entries))
    ∙ ap (λ (x : ContextData). flat_map (content_of h) (members_of x)) is
