-- The bases of a book are a causal family, whose base forms add cells of their own names alone.
use Rattle.std.proofs.Common.{List}
use Rattle.context_diff.specs.Operations.{OpData}
use Rattle.undo_group.specs.BaseForms.{base_form}
use Rattle.undo_group.specs.Bounds.{IsShortHistory}
use Rattle.undo_group.specs.Laws.Forms.{base_forms_hold}
use Rattle.transform_rec.specs.Family.{IsCausalFamily}
use Rattle.transform_rec.specs.Executing.{HasOwnNames}
use Rattle.transform_rec.specs.Histories.{family_in}
use Rattle.transform_rec.proofs.CallerLemmas.{history_causal}
use Rattle.fixed_replay.proofs.Editor.{form_table}
use Rattle.fixed_replay.proofs.ValidFamilies.{valid_own_names}

pub text_causal : (h : List OpData) → IsShortHistory h → IsCausalFamily (family_in h (base_form h))
text_causal h s = history_causal h (base_form h) s.valid

pub text_own_names : (h : List OpData) → IsShortHistory h → HasOwnNames form_table (family_in h (base_form h))
text_own_names h s = valid_own_names h s.valid (base_form h) (base_forms_hold h s.valid)
