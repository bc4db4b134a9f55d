-- In a valid history a cause has a smaller rank than its effect, and each two originals can be told apart.
use Rattle.std.proofs.Common.{◌≡◌, ◌≢◌, ℕ, ◌<◌, true, false, List, [], ◌∷◌, inl, inr, refl, ap, sym, ◌∙◌, arith}
use Rattle.std.proofs.lemmas.Bool.{false_from_ne_true}
use Rattle.op_name.specs.declared.member.Member.{Member}
use Rattle.op_name.specs.declared.member.Member.TheVariants.{Original}
use Rattle.op_name.specs.NameData.{NameData}
use Rattle.op_name.specs.Members.{target_of}
use Rattle.context_vector.specs.Contexts.{has, rank_of}
use Rattle.context_diff.specs.Operations.{OpData, member_of, context_of}
use Rattle.context_diff.specs.Histories.{members_in, is_known, IsValid}
use Rattle.context_diff.specs.Bases.{original_context}
use Rattle.context_diff.proofs.CallerLemmas.{IsComplete, complete, original_facts, context_is, own_alone, related, holds_original, original_name}
use Rattle.context_diff.specs.ClosedContexts.{IsClosedContext}
use Rattle.ttf_form.specs.Families.{IsIn}
use Rattle.transform_rec.specs.Lists.{AreApart}
use Rattle.transform_rec.proofs.CallerLemmas.{history_causal}
use Rattle.fixed_replay.specs.Originals.{AreTold, AreToldFrom, AreToldApart, site_of}
use Rattle.fixed_replay.proofs.Elements.{in_contains}
use Rattle.fixed_replay.proofs.Operations.{member_listed, known_as}
use Rattle.context_vector.proofs.CallerLemmas.{rank_less}

module _ (h : List OpData) (v : IsValid h) where
  complete_h : IsComplete h
  complete_h = complete h v

  -- the rank of an original
  abbrev pub rank_in : NameData → ℕ
  rank_in n = rank_of (original_context h n)

  pub rank_is : (o : OpData) (n : NameData) → IsIn o h → member_of o ≡ Original n → rank_in n ≡ rank_of (context_of o)
  rank_is o n i e = ap rank_of (context_is h complete_h o n (in_contains o h i) e (known_as o (Original n) h i e))

  not_itself : (n : NameData) → is_known h (Original n) ≡ true → has (original_context h n) (Original n) ≡ false
  not_itself n known =
      false_from_ne_true (has (original_context h n) (Original n)) (λ e. let less = own_alone h complete_h n known n refl e in omega arith)

  closed_original : (n : NameData) → is_known h (Original n) ≡ true → IsClosedContext h (original_context h n)
  closed_original n known = let f = original_facts h complete_h n known in record { ready = f.ready; stray = f.stray; closed = f.closed }

  -- what an original sees has a smaller rank
  pub rank_grows : (n m : NameData) → is_known h (Original n) ≡ true → is_known h (Original m) ≡ true
      → has (original_context h m) (Original n) ≡ true → rank_in n < rank_in m
  rank_grows n m known_n known_m sees =
      rank_less (original_context h n) (original_context h m) (original_facts h complete_h n known_n).form
      (original_facts h complete_h m known_m).form
      (holds_original h complete_h (original_context h m) (closed_original m known_m) n sees) n sees (not_itself n known_n)

  -- two originals of one rank have different sites
  pub ranks_apart : (n m : NameData) → is_known h (Original n) ≡ true → is_known h (Original m) ≡ true → n ≢ m → rank_in n ≡ rank_in m
      → n.site ≢ m.site
  ranks_apart n m known_n known_m ne ranks sites = elim (related h complete_h n m known_n known_m ne sites) [
    | inl seen ↦ let less = rank_grows m n known_m known_n seen in omega arith
    | inr seen ↦ let less = rank_grows n m known_n known_m seen in omega arith
  ]

  told : (o p : OpData) → IsIn o h → IsIn p h → member_of o ≢ member_of p → AreTold o p
  told o p i j ne = record { names = λ a b. ne; keys = λ a b ranks sites. differ (original_name o a) (original_name p b) ranks sites }
    where
      site_is : (q : OpData) (n : NameData) → member_of q ≡ Original n → site_of q ≡ n.site
      site_is q n e = ap (λ (m : Member). (target_of m).site) e

      differ : (n : NameData) × (member_of o ≡ Original n) → (m : NameData) × (member_of p ≡ Original m)
          → rank_of (context_of o) ≡ rank_of (context_of p) → site_of o ≡ site_of p → ⊥
      differ n m ranks sites =
          ranks_apart n.0 m.0 (known_as o (Original n.0) h i n.1) (known_as p (Original m.0) h j m.1)
          (λ (e : n.0 ≡ m.0). ne (n.1 ∙ (ap Original e ∙ sym m.1)))
          (rank_is o n.0 i n.1 ∙ (ranks ∙ sym (rank_is p m.0 j m.1)))
          (sym (site_is o n.0 n.1) ∙ (sites ∙ site_is p m.0 m.1))

  told_behind : (o : OpData) (os : List OpData) → IsIn o h → ((p : OpData) → IsIn p os → IsIn p h × (member_of o ≢ member_of p))
      → AreToldFrom o os
  told_behind o [] i f = tt
  told_behind o (p ∷ ps) i f = let r = f p (inl refl) in (told o p i r.0 r.1, told_behind o ps i (λ q j. f q (inr j)))

  told_part : (os : List OpData) → ((p : OpData) → IsIn p os → IsIn p h) → AreApart (members_in os) → AreToldApart os
  told_part [] f a = tt
  told_part (o ∷ os) f a = (
    told_behind o os (f o (inl refl)) (λ p j. (f p (inr j), a.0 (member_of p) (member_listed p os j))),
    told_part os (λ p j. f p (inr j)) a.1,
  )

  -- each two originals can be told apart
  pub told_apart : AreToldApart h
  told_apart = told_part h (λ p j. j) (history_causal {F = Member} h (λ m. m) v).distinct
