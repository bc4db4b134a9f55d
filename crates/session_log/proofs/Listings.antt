-- The list of a log's operations, on the way.
use Rattle.std.proofs.Common.{◌≡◌, ℕ, ◌+◌, List, [], ◌∷◌, ◌++◌, refl, ap, sym, subst, ◌∙◌, length, map, IfSome, append_assoc, append-nil, arith}
use Rattle.std.specs.Prelude.{Option, None, Some, option_map}
use Rattle.std.proofs.lemmas.List.{map-append, length-append}
use Rattle.context_diff.specs.Operations.{OpData}
use Rattle.context_diff.specs.Ops.{data_of}
use Rattle.wire_codec.specs.declared.version.Version.{Version}
use Rattle.wire_codec.specs.Spelling.{frame}
use Rattle.session_log.specs.declared.headers.TheConstants.{HEADER_LEN}
use Rattle.session_log.specs.declared.placed.Placed.{Placed}
use Rattle.session_log.specs.Logs.{header, frames}
use Rattle.session_log.specs.Readings.{PlacedData, placed_data, placed_from, IsListed}
use Rattle.session_log.specs.Code.Passing.{LeftData, PassesOver, Steps}
use Rattle.session_log.proofs.Frames.{IsPassed, passed_first, passed_more, passed_begins}

placed_push : (v : Version) (at : ℕ) (os : List OpData) (o : OpData)
    → placed_from v at (os ++ o ∷ []) ≡ placed_from v at os ++ record { offset = at + length (frames v os); op = o } ∷ []
placed_push v at [] o = ap (λ (n : ℕ). record { offset = n; op = o } ∷ []) (omega arith)
placed_push v at (p ∷ ps) o =
    let sum : at + length (frame v p) + length (frames v ps) ≡ at + length (frames v (p ∷ ps)) =
    omega (arith, length-append (frame v p) (frames v ps)) in
    ap (λ (xs : List PlacedData). record { offset = at; op = p } ∷ xs)
    (placed_push v (at + length (frame v p)) ps o
    ∙ ap (λ (n : ℕ). placed_from v (at + length (frame v p)) ps ++ record { offset = n; op = o } ∷ []) sum)

-- the operations that were passed over stand at the end of the list
pub record IsListing (bytes : List ℕ) (old now : List Placed) (left : LeftData) : Type 0 where
  pub ops : List OpData
  pub passed : IsPassed bytes ops left
  pub more : List Placed
  pub listed : now ≡ old ++ more
  pub placed : map placed_data more ≡ placed_from left.version HEADER_LEN ops

pub listing_first : (bytes : List ℕ) (old : List Placed) (left : LeftData) → bytes ≡ header left.version ++ left.bytes
    → left.offset ≡ HEADER_LEN → IsListing bytes old old left
listing_first bytes old left parts place = record {
  ops = [];
  passed = passed_first bytes left parts place;
  more = [];
  listed = sym (append-nil old);
  placed = refl;
}

pub listing_more : (bytes : List ℕ) (old now : List Placed) (left next : LeftData) (p : Placed) → IsListing bytes old now left
    → PassesOver left (data_of p.op) next → p.offset ≡ left.offset → IsListing bytes old (now ++ p ∷ []) next
listing_more bytes old now left next p w step place =
    let v = left.version in
    let o = data_of p.op in
    let at : p.offset ≡ HEADER_LEN + length (frames v w.ops) = place ∙ w.passed.place in
    let placed : map placed_data (w.more ++ p ∷ []) ≡ placed_from v HEADER_LEN (w.ops ++ o ∷ []) =
    map-append placed_data w.more (p ∷ [])
    ∙ ap (λ (xs : List PlacedData). xs ++ placed_data p ∷ []) w.placed
    ∙ ap (λ (n : ℕ). placed_from v HEADER_LEN w.ops ++ record { offset = n; op = o } ∷ []) at
    ∙ sym (placed_push v HEADER_LEN w.ops o) in
    record {
      ops = w.ops ++ o ∷ [];
      passed = passed_more bytes w.ops o left next w.passed step;
      more = w.more ++ p ∷ [];
      listed = ap (λ (xs : List Placed). xs ++ p ∷ []) w.listed ∙ append_assoc old w.more (p ∷ []);
      placed = placed ∙ ap (λ (x : Version). placed_from x HEADER_LEN (w.ops ++ o ∷ [])) (sym step.version);
    }

pub listing_end : (bytes : List ℕ) (old now : List Placed) (left : LeftData) → IsListing bytes old now left → left.bytes ≡ []
    → IsListed bytes old now
listing_end bytes old now left w none = record {
  ops = w.ops;
  log = record { version = left.version; begins = passed_begins bytes w.ops left w.passed none };
  more = w.more;
  listed = w.listed;
  placed = w.placed;
}

-- without an answer nothing is left
pub ends_placed : (old new : LeftData) (r : Option Placed) → r ≡ None → Steps old (option_map (λ (q : Placed). data_of q.op) r) new
    → old.bytes ≡ []
ends_placed old new r is step = (subst (λ (x : Option Placed). Steps old (option_map (λ (q : Placed). data_of q.op) x) new) is step).0

-- the step over an operation that was answered
pub passes_placed : (old new : LeftData) (r : Option Placed) (p : Placed) → r ≡ Some p
    → Steps old (option_map (λ (q : Placed). data_of q.op) r) new → PassesOver old (data_of p.op) new
passes_placed old new r p is step = subst (λ (x : Option Placed). Steps old (option_map (λ (q : Placed). data_of q.op) x) new) is step

pub at_placed : (old : LeftData) (r : Option Placed) (p : Placed) → r ≡ Some p → IfSome r (λ (q : Placed). q.offset ≡ old.offset)
    → p.offset ≡ old.offset
at_placed old r p is place = subst (λ (x : Option Placed). IfSome x (λ (q : Placed). q.offset ≡ old.offset)) is place
