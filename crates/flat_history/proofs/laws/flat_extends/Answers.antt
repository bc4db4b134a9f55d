use Rattle.flat_history.proofs.Extending.{both_valid, alike_on, judged_on}
use Rattle.flat_history.proofs.Flat.{flat_valid, flat_alike}
use Rattle.flat_history.specs.Flat.{flat_of}
use Rattle.flat_history.proofs.laws.flat_extends.Goals as goal

pub returns : goal.returns
returns c = λ h fs l v df room after.
    let k = flat_of h fs in
    let w = flat_valid h fs v df room in
    let alike = flat_alike h fs v df room in
    (both_valid h k v w alike l after, alike_on h k v w alike l after, judged_on h k v w alike l)
