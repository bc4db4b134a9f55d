-- Vectors by how their lists are kept: a few counts in the value itself, lists that are the vector's own, or lists that several have.
use Rattle.std.specs.Prelude.{◌-◌, true, false, [], vec_len, vec_capacity}
use Rattle.std.specs.Rc.{rc_value}
use Rattle.context_vector.specs.Vectors.{VectorData}
use Rattle.context_vector.specs.Code.Undone.{kept_of}
use Rattle.context_vector.specs.declared.vector.lists.Lists.{Lists}
use Rattle.context_vector.specs.declared.vector.lists.Lists.TheVariants.{Few, Own, Shared}

-- only lists of its own have room
abbrev pub data_of : Lists → VectorData
data_of (Few counts) = record {
  set = record { counts = counts; entries = [] };
  room = record { own = false; counts = 0; entries = 0 };
}
data_of (Own lists) = record {
  set = record { counts = lists.value.counts.items; entries = lists.value.undone.items };
  room = record {
    own = true;
    counts = vec_capacity lists.value.counts - vec_len lists.value.counts;
    entries = lists.value.undone.spare;
  };
}
data_of (Shared lists) = record {
  set = record { counts = lists.value.counts; entries = kept_of rc_value lists.value.undone };
  room = record { own = false; counts = 0; entries = 0 };
}
