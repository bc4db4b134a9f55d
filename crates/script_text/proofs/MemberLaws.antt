-- Members that stand alone: each is read where it is spelled, and nothing else is.
use Rattle.std.proofs.Common.{◌≡◌, ℕ, zero, suc, ◌<◌, ◌≢◌, List, [], ◌∷◌, ◌++◌, length, get_or, Option, Some, None, refl, sym, ap, ◌∙◌, arith, decimal, option_map, subst, append_assoc}
use Rattle.std.specs.Prelude.{IfSome}
use Rattle.std.specs.Int.{IsInRange}
use Rattle.op_name.specs.NameData.{NameData}
use Rattle.op_name.specs.declared.member.TheConstants.{GENERATIONS}
use Rattle.op_name.specs.declared.member.Member.{Member}
use Rattle.op_name.specs.declared.member.Member.TheVariants.{Original, Group}
use Rattle.site_answers.specs.Names.{name_text, group_text}
use Rattle.script_text.specs.Fields.{cut, name_of, generation_of, member_of, member_by, IsNameText, IsGeneration, IsMemberText}
use Rattle.script_text.proofs.FieldLaws.{Lacks, Reads, cut-append, cut-lacks, cut_some, some_is, and_then_some, number_lacks, from_one_reads, name_reads}
use Rattle.script_text.proofs.WordLaws.{found, only}

slash_no_digit : ¬ (IsInRange 48 57 47)
slash_no_digit h = omega (arith, h)

pub lacks_first : (c x : ℕ) (bs : List ℕ) → x ≢ c → Lacks c bs → Lacks c (x ∷ bs)
lacks_first c x bs other lacks = λ i h. by i h
  where
    by : (i : ℕ) → i < length (x ∷ bs) → get_or (x ∷ bs) i 0 ≢ c
    by zero h = other
    by (suc i) h = lacks i (omega (arith, h))

pub lacks_both : (c : ℕ) (a bs : List ℕ) → Lacks c a → Lacks c bs → Lacks c (a ++ bs)
lacks_both c [] bs first second = second
lacks_both c (x ∷ a) bs first second =
    lacks_first c x (a ++ bs) (first 0 (omega arith)) (lacks_both c a bs (λ i h. first (suc i) (omega (arith, h))) second)

-- a name has no slash
pub name_lacks : (n : NameData) → IsNameText (name_text n) n → Lacks 47 (name_text n)
name_lacks n is =
    lacks_both 47 (decimal n.site) (46 ∷ decimal n.number)
    (number_lacks 47 slash_no_digit (decimal n.site) n.site (refl, omega (arith, is.1.0)))
    (lacks_first 47 46 (decimal n.number) (λ e. cc)
    (number_lacks 47 slash_no_digit (decimal n.number) n.number (refl, omega (arith, is.1.2))))

pub generation_reads : Reads generation_of IsGeneration
unfolding generation_of
generation_reads = let r = from_one_reads GENERATIONS (omega arith) in record { from = λ bs g e. r.from bs g e; to = λ bs g h. r.to bs g h }

-- the name, the slash and the generation
pub spelled : (n : NameData) (g : ℕ) → name_text n ++ 47 ∷ decimal g ≡ group_text n g
spelled n g = append_assoc (decimal n.site) (46 ∷ decimal n.number) (47 ∷ decimal g)

member_from : (bs : List ℕ) (o : Option (List ℕ × List ℕ)) → ((p : List ℕ × List ℕ) → o ≡ Some p → bs ≡ p.0 ++ 47 ∷ p.1) → (m : Member)
    → member_by o bs ≡ Some m → IsMemberText bs m
member_from bs None parts m e = by (name_of bs) refl e
  where
    by : (r : Option NameData) → name_of bs ≡ r → option_map (λ n. Original n) r ≡ Some m → IsMemberText bs m
    by None is e = cc
    by (Some n) is e = subst (IsMemberText bs) (some_is (Original n) m e) (name_reads.from bs n is)
member_from bs (Some p) parts m e =
    let n = and_then_some (name_of p.0) _ m e in
    let g = and_then_some (generation_of p.1) _ m n.2 in
    let name = name_reads.from p.0 n.0 n.1 in
    let generation = generation_reads.from p.1 g.0 g.1 in
    let whole : bs ≡ group_text n.0 g.0 =
    parts p refl ∙ ap (λ x. x ++ 47 ∷ p.1) name.0 ∙ ap (λ y. name_text n.0 ++ 47 ∷ y) generation.0 ∙ spelled n.0 g.0 in
    subst (IsMemberText bs) (some_is (Group n.0 g.0) m g.2) (whole, (name.1, generation.1, generation.2))

member_to : (m : Member) (bs : List ℕ) → IsMemberText bs m → member_of bs ≡ Some m
unfolding member_of
member_to (Original n) bs is =
    let none : cut 47 (name_text n) ≡ None = cut-lacks 47 (name_text n) (name_lacks n (refl, is.1)) in
    ap member_of is.0 ∙ rw (none, name_reads.to (name_text n) n (refl, is.1)) refl
member_to (Group n g) bs is =
    let found : cut 47 (name_text n ++ 47 ∷ decimal g) ≡ Some (name_text n, decimal g) =
    cut-append 47 (name_text n) (decimal g) (name_lacks n (refl, is.1.0)) in
    ap member_of (is.0 ∙ sym (spelled n g))
    ∙ rw (found, name_reads.to (name_text n) n (refl, is.1.0), generation_reads.to (decimal g) g (refl, is.1.1, is.1.2)) refl

pub member_reads : Reads member_of IsMemberText
unfolding member_of
member_reads = record {
  from = λ bs m e. member_from bs (cut 47 bs) (λ p is. cut_some 47 bs p is) m e;
  to = λ bs m is. member_to m bs is;
}

pub member_found : (bs : List ℕ) (r : Option Member) → r ≡ member_of bs → IfSome r (λ m. IsMemberText bs m)
member_found bs r e = found member_of IsMemberText member_reads bs r e

pub member_only : (bs : List ℕ) (r : Option Member) → r ≡ member_of bs → (m : Member) → IsMemberText bs m → r ≡ Some m
member_only bs r e m is = only member_of IsMemberText member_reads bs r e m is
