-- Entries of the cache stay the forms of their keys: over one more operation, and where nothing but their order changes.
use Rattle.std.proofs.Common.{◌≡◌, sym, subst, List, [], ◌∷◌, ◌++◌, IfSome}
use Rattle.std.specs.Prelude.{Option, Some, None}
use Rattle.context_diff.specs.Operations.{OpData}
use Rattle.context_diff.specs.Histories.{IsNext, IsValid}
use Rattle.context_diff.proofs.CallerLemmas.{valid_push}
use Rattle.ttf_form.specs.declared.form.Form.{Form}
use Rattle.ttf_form.specs.Forms.{form_over}
use Rattle.form_cache.specs.Keys.{KeyData}
use Rattle.form_cache.specs.Entries.{Entries, form_at, used}
use Rattle.transform_rec.specs.Histories.{family_in}
use Rattle.transform_rec.proofs.CallerLemmas.{next_keeps, found_form, forms_used}
use Rattle.undo_group.specs.BaseForms.{base_form}
use Rattle.fixed_replay.proofs.CallerLemmas.{base_form_on}
use Rattle.cot_site.specs.Sites.{AreCached, IsFormOf}

pub cached_more : (h : List OpData) (o : OpData) (k : List OpData) (es : Entries Form) → IsValid h → IsNext h o → k ≡ h ++ o ∷ []
    → AreCached h es → AreCached k es
cached_more h o k es valid next grown are =
    let long = valid_push h o valid next in
    subst (λ (l : List OpData). AreCached l es) (sym grown)
    (next_keeps form_over h o (base_form h) (base_form (h ++ o ∷ [])) es long (base_form_on h (o ∷ []) long) are)

pub cached_used : (h : List OpData) (es new : Entries Form) (k : KeyData) → AreCached h es → new ≡ used es k → AreCached h new
cached_used h es new k are e = forms_used form_over (family_in h (base_form h)) es new k are e

-- what is found under a key is the form of the key
pub cached_found : (h : List OpData) (es : Entries Form) (k : KeyData) (r : Option Form) → AreCached h es → r ≡ form_at es k
    → IfSome r (IsFormOf h k)
cached_found h es k None are e = tt
cached_found h es k (Some f) are e = found_form form_over (family_in h (base_form h)) es k f are (sym e)
