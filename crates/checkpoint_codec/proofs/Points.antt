-- All fields of a checkpoint, both ways.
use Rattle.std.proofs.Common.{◌≡◌, ℕ, List, Ok, refl, sym, ap}
use Rattle.op_name.specs.NameData.{NameData}
use Rattle.context_vector.specs.Contexts.{empty}
use Rattle.wire_codec.specs.Reading.{LeftData, ◌>>=◌}
use Rattle.flat_history.specs.Checkpoints.{Placed, Checkpoint, with_all_placed}
use Rattle.checkpoint_codec.specs.Spelling.{originals_bytes, names_bytes, fields_bytes}
use Rattle.checkpoint_codec.specs.Spelled.{IsSpelled}
use Rattle.checkpoint_codec.specs.Reading.{originals_at, names_at, fields_at}
use Rattle.wire_codec.proofs.CallerLemmas.{Reads, bind, mapped, in_words}
use Rattle.checkpoint_codec.proofs.OriginalFields.{AreFewOriginals, originals_reads}
use Rattle.checkpoint_codec.proofs.UndoneFields.{AreNames, names_reads}

abbrev Undone : Type 0
Undone = List (NameData × ℕ)

abbrev point : List Placed → Undone → Checkpoint
point os es = record { originals = os; undone = es }

-- the names that may follow these originals, and that they are the checkpoint's
abbrev NamesOf : List Placed → Checkpoint → Type 0
NamesOf os p = AreNames (with_all_placed empty os) p.undone × (point os p.undone ≡ p)

pub fields_reads : Reads fields_at fields_bytes IsSpelled
unfolding fields_at
fields_reads =
    in_words fields_at fields_bytes fields_bytes (λ p. AreFewOriginals p.originals × NamesOf p.originals p) IsSpelled
    (bind {X = Checkpoint} originals_at
    (λ os m. ◌>>=◌ {B = Checkpoint × LeftData} (names_at (with_all_placed empty os) m) (λ es. Ok (point os es.0, es.1)))
    originals_bytes (λ p. names_bytes p.undone) AreFewOriginals NamesOf (λ p. p.originals)
    originals_reads
    (λ os _. mapped {X = Checkpoint} (names_at (with_all_placed empty os)) names_bytes (AreNames (with_all_placed empty os)) (point os)
    (λ p. p.undone) (names_reads (with_all_placed empty os)) (λ es. refl))
    (λ os p h. ap (λ (y : Checkpoint). y.originals) (sym h.1)))
    (λ p h. record {
      few = h.0.0;
      originals = h.0.1;
      names = h.1.0.names;
      undone = h.1.0.undone;
      known = h.1.0.known;
      groups = h.1.0.groups;
    })
    (λ p h. ((h.few, h.originals), (record { names = h.names; undone = h.undone; known = h.known; groups = h.groups }, refl)))
    (λ p h. refl)
