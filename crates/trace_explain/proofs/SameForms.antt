-- Equality of inserts.
use Rattle.std.proofs.Common.{◌≡◌, ◌≤◌}
use Rattle.std.proofs.Math.Bridge.{le_prop}
use mathlib.Core.HLevel.{is_prop→PathP}
use native.Mathlib.Nat.{ℕ_set}
use Rattle.op_name.specs.declared.limits.TheConstants.{LETTERS}
use Rattle.ttf_form.specs.declared.ins.Ins.{Ins}

-- equal parts make equal inserts
pub ins_same : (a b : Ins) → a.place ≡ b.place → a.site ≡ b.site → a.len ≡ b.len → a.name ≡ b.name → a ≡ b
ins_same a b p s l n =
    λ i. record {
      place = p i;
      site = s i;
      len = l i;
      name = n i;
      own =
          is_prop→PathP (λ j. s j ≡ (n j).site) (λ j. ℕ_set (s j) ((n j).site)) a.own b.own i;
      some =
          is_prop→PathP (λ j. 1 ≤ l j) (λ j. le_prop) a.some b.some i;
      most =
          is_prop→PathP (λ j. l j ≤ LETTERS) (λ j. le_prop) a.most b.most i;
    }
