-- What is received and sent in an exchange, one message after the other.
use Rattle.std.proofs.Common.{◌≡◌, ℕ, List, [], ◌++◌, sym, ap, subst, ◌∙◌, append-nil}
use Rattle.std.specs.Prelude.{Option, Some, None, IfSome}
use Rattle.std.proofs.KnownBytes.{Appends-nil, Appends-trans, Consumes-nil, Consumes-trans}
use Rattle.std.specs.Io.KnownBytes.{Appends, Consumes, IsAtEnd}
use Rattle.outside_io.specs.Ends.{End}
use Rattle.site_node.specs.Exchanges.{Talks, Exchanges}
use Rattle.site_node.specs.Moves.{Receives}

-- these bytes were to come and are received, and these were sent
pub record Moves (old new : End) (came gone : List ℕ) : Type 0 where
  pub received : Appends old.received new.received came
  pub consumed : Consumes old.to_come new.to_come came
  pub sent : Appends old.sent new.sent gone

pub moves_none : (a : End) → Moves a a [] []
moves_none a = record { received = Appends-nil a.received; consumed = Consumes-nil a.to_come; sent = Appends-nil a.sent }

pub receives_then : (a b c : End) (came gone bytes : List ℕ) → Moves a b came gone → Receives b c bytes → Moves a c (came ++ bytes) gone
receives_then a b c came gone bytes first second = record {
  received = Appends-trans a.received b.received c.received came bytes first.received second.received;
  consumed = Consumes-trans a.to_come b.to_come c.to_come came bytes first.consumed second.consumed;
  sent = subst (λ (s : Option (List ℕ)). Appends a.sent s gone) (sym second.sent) first.sent;
}

pub sends_then : (a b c : End) (came gone bytes : List ℕ) → Moves a b came gone → Appends b.sent c.sent bytes → c.received ≡ b.received
    → c.to_come ≡ b.to_come → Moves a c came (gone ++ bytes)
sends_then a b c came gone bytes first written received to_come = record {
  received = subst (λ (s : Option (List ℕ)). Appends a.received s came) (sym received) first.received;
  consumed = subst (λ (s : Option (List ℕ)). Consumes a.to_come s came) (sym to_come) first.consumed;
  sent = Appends-trans a.sent b.sent c.sent gone bytes first.sent written;
}

pub talks_of : (a b : End) (came gone : List ℕ) → Moves a b came gone → Talks a b a.to_come came gone
talks_of a b came gone m = record { received = m.received; sent = m.sent; left = b.to_come; front = m.consumed }

-- nothing was received and sent
pub nothing_said : (a b : End) (peer : Option (List ℕ)) (says : List ℕ → List ℕ → Type 0) → b ≡ a → says [] [] → Exchanges a b peer says
nothing_said a b peer says same said = subst (λ (x : End). Exchanges a x peer says) (sym same) (record {
  came = [];
  gone = [];
  talks = record { received = Appends-nil a.received; sent = Appends-nil a.sent; left = peer; front = Consumes-nil peer };
  said = said;
})

-- all that was to come was received
pub all_received : (a b : End) (came gone : List ℕ) → Moves a b came gone → IsAtEnd b.to_come
    → IfSome a.to_come (Appends a.received b.received)
all_received a b came gone m ended = go a.to_come b.to_come m.consumed ended
  where
    go : (before after : Option (List ℕ)) → Consumes before after came → IsAtEnd after → IfSome before (Appends a.received b.received)
    go None after consumed at_end = tt
    go (Some xs) None consumed at_end = absurd consumed
    go (Some xs) (Some ys) consumed at_end =
        let all : xs ≡ came = consumed ∙ (ap (λ (t : List ℕ). came ++ t) at_end ∙ append-nil came) in
        subst (Appends a.received b.received) (sym all) m.received
