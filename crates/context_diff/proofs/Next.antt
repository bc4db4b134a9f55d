-- Which operation is next after a book, as its calls decide it.
use Rattle.std.proofs.Common.{◌≡◌, true, false, List, ap, sym, ◌∙◌}
use Rattle.op_name.specs.declared.member.Member.{Member}
use Rattle.context_vector.specs.Contexts.{ContextData, Within, has}
use Rattle.context_vector.specs.Vectors.{IsFirstMissing}
use Rattle.context_diff.specs.Operations.{OpData, member_of, context_of, is_original, IsWellFormed}
use Rattle.context_diff.specs.Histories.{is_known, context_of_all, LacksFirst, LacksNothing, IsClosed, HasPlace, IsNext, IsValid}
use Rattle.context_diff.proofs.Complete.{complete}
use Rattle.context_diff.proofs.Books.{covered_ready}

-- an operation that is well formed and new, made after members that are there, closed and at a place is next
pub next_from : (h : List OpData) (have : ContextData) (o : OpData) → IsValid h → have ≡ context_of_all h → IsWellFormed o
    → has have (member_of o) ≡ false → Within (context_of o) have
    → (is_original o ≡ true → IsClosed h (context_of o)) → HasPlace h o → IsNext h o
next_from h have o valid members formed new ready closed placed = record {
  formed = formed;
  new = sym ((complete h valid).holds (member_of o)) ∙ (ap (λ c. has c (member_of o)) (sym members) ∙ new);
  ready = covered_ready h have (context_of o) valid members ready;
  closed = closed;
  placed = placed;
}

-- the members of a book are those that its history has
pub have_known : (h : List OpData) (have : ContextData) → IsValid h → have ≡ context_of_all h → (m : Member) → has have m ≡ is_known h m
have_known h have valid members m = ap (λ c. has c m) members ∙ (complete h valid).holds m

-- members that the history has are in the book's
pub ready_covered : (h : List OpData) (have v : ContextData) → IsValid h → have ≡ context_of_all h → LacksNothing h v → Within v have
ready_covered h have v valid members ready m e = have_known h have valid members m ∙ ready m e

-- the first member that the book's members lack is the first that its history lacks
pub lacks_first : (h : List OpData) (have v : ContextData) → IsValid h → have ≡ context_of_all h → (m : Member)
    → IsFirstMissing have v m → LacksFirst h v m
lacks_first h have v valid members m f = record {
  named = f.there;
  missing = sym (have_known h have valid members m) ∙ f.lacking;
  first = λ x there missing. f.first x there (have_known h have valid members x ∙ missing);
}
