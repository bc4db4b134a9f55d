-- What a member feeds a hasher.
use Rattle.std.specs.Prelude.{◌≡◌, ℕ, ◌+◌, ◌*◌, ◌^◌, Bool, true, false, ◌&&◌, ◌==◌}
use Rattle.std.proofs.Common.{ap, arith}
use Rattle.std.proofs.lemmas.Bool.Decides.{nat_tests}
use Rattle.std.specs.Hash as fed
use Rattle.std.specs.Hash.{HashWrites}
use Rattle.op_name.specs.NameData.{NameData, name_eq}
use Rattle.op_name.specs.declared.member.Member.{Member}
use Rattle.op_name.specs.declared.member.Member.TheVariants.{Original, Group}
use Rattle.op_name.specs.Members.{member_eq, code_of}

-- the member's one number
abbrev pub member_input : Member → HashWrites
member_input m = fed.u64 (code_of m)

-- members of one value have one code
one_code : (m n : Member) → member_eq m n ≡ true → code_of m ≡ code_of n
one_code (Original n) (Original m) e =
    let sites : n.site ≡ m.site = grind (arith, nat_tests) in
    let numbers : n.number ≡ m.number = grind (arith, nat_tests) in
    λ i. sites i * 2 ^ 32 + numbers i
one_code (Original n) (Group m h) e = cc
one_code (Group n g) (Original m) e = cc
one_code (Group n g) (Group m h) e =
    let sites : n.site ≡ m.site = grind (arith, nat_tests) in
    let numbers : n.number ≡ m.number = grind (arith, nat_tests) in
    let generations : g ≡ h = grind (arith, nat_tests) in
    λ i. (generations i * 2 ^ 16 + sites i) * 2 ^ 32 + numbers i

-- a test that says of members what `member_eq` says finds only members of one code
pub member_alike : (eq : Member → Member → Bool) → ((n m : NameData) → eq (Original n) (Original m) ≡ true → name_eq n m ≡ true)
    → ((n m : NameData) (h : ℕ) → eq (Original n) (Group m h) ≡ true → false ≡ true)
    → ((n m : NameData) (g : ℕ) → eq (Group n g) (Original m) ≡ true → false ≡ true)
    → ((n m : NameData) (g h : ℕ) → eq (Group n g) (Group m h) ≡ true → (name_eq n m && (g == h)) ≡ true) → (m n : Member) → eq m n ≡ true
    → member_input m ≡ member_input n
member_alike eq originals mixed others groups m n e = ap fed.u64 (one_code m n (found m n e))
  where
    found : (m n : Member) → eq m n ≡ true → member_eq m n ≡ true
    found (Original n) (Original m) e = originals n m e
    found (Original n) (Group m h) e = mixed n m h e
    found (Group n g) (Original m) e = others n m g e
    found (Group n g) (Group m h) e = groups n m g h e
