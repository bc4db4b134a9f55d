-- What makes two tests an order in which any two values have one place each.
use Rattle.std.specs.Prelude.{◌≡◌, Bool, true, false}

-- `eq` decides equality, and `lt` puts all values in one line
pub record IsOrder {K : Type 0} (eq lt : K → K → Bool) : Type 0 where
  pub same : (a b : K) → eq a b ≡ true → a ≡ b
  pub itself : (a : K) → eq a a ≡ true
  pub irreflexive : (a : K) → lt a a ≡ false
  pub transitive : (a b c : K) → lt a b ≡ true → lt b c ≡ true → lt a c ≡ true
  pub total : (a b : K) → eq a b ≡ false → lt a b ≡ false → lt b a ≡ true
