-- What is read where a part stopped: at its fault, or nothing is said out of memory.
use Rattle.std.proofs.Common.{ℕ, ◌<◌, List, Err}
use Rattle.wire_codec.specs.Reading.{LeftData, Found, many}
use Rattle.checkpoint_codec.specs.declared.flaw.Stop.{Stop}
use Rattle.checkpoint_codec.specs.declared.flaw.Stop.TheVariants.{At, Memory}
use Rattle.checkpoint_codec.specs.Code.Reads.{fault_of, IsRead}
use Rattle.checkpoint_codec.proofs.Loops.{IsUnderWay, ends}

-- a list stopped at an element
pub stops_list : {S A X Y : Type 0} (step : S → LeftData → Found A) (next : S → A → S) (n : ℕ) (begin : S) (start : LeftData) (i : ℕ)
    (xs : List A) (state : S) (l m k : LeftData) (view : X → A) (listed : Y → List A) (s : Stop) → i < n
    → IsRead view (Err s) m (step state l) → IsUnderWay step next n begin start i xs state l
    → IsRead listed (Err s) k (many step next n begin start)
stops_list step next n begin start i xs state l m k view listed (At f) lt e way =
    ends step next n begin start i xs state l (fault_of f) lt e way
stops_list step next n begin start i xs state l m k view listed Memory lt e way = tt
