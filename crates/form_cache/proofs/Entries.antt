-- What is in the entries after each call.
use Rattle.std.proofs.Common.{◌≡◌, ◌⊎◌, Bool, true, false, List, [], ◌∷◌, ◌++◌, Contains, Option, Some, None, refl, inl, inr, sym, ap, subst, ◌∙◌}
use Rattle.std.specs.Prelude.{option_map, if◌then◌else◌}
use Rattle.std.specs.Option.{option_map_or, is_some}
use Rattle.std.specs.Map.{keys_of, lookup, lookup_entry, remove_entry}
use Rattle.std.specs.List.{IsDistinct}
use Rattle.std.proofs.lemmas.Map.{lookup-remove_entry}
use Rattle.lru.specs.LruCache.{lru_cache, promoted, demoted, last_entry}
use Rattle.lru.proofs.CallerLemmas.{Contains-lookup_entry, Contains-lookup, Contains-promoted, Contains-demoted, Contains-put_entries}
use Rattle.lru.proofs.Pairs.{lookup-lookup_entry, last_of_push}
use Rattle.form_cache.specs.declared.cache.Kept.{Kept}
use Rattle.form_cache.specs.Keys.{KeyData, key_eq, key_eq_decides, key_equiv}
use Rattle.form_cache.specs.Entries.{Entries, CacheData, form_at, used, spent, asked, with_form}

module _ {F : Type 0} where
  found_under : (es : Entries F) (k : KeyData) (f : F) (o : Option (Kept F)) → lookup (key_eq k) es ≡ o
      → option_map (λ h. h.form) o ≡ Some f → (h : Kept F) × Contains es (k, h) × (h.form ≡ f)
  found_under es k f None e is = cc
  found_under es k f (Some h) e is =
      let r = Contains-lookup (key_eq k) es h e in
      let same : k ≡ r.0 = (key_eq_decides k r.0).0 r.2 in
      let form : h.form ≡ f = cc in
      (h, subst (λ (j : KeyData). Contains es (j, h)) (sym same) r.1, form)

  -- the form that is found for a key is in an entry of that key
  pub found_entry : (es : Entries F) (k : KeyData) (f : F) → form_at es k ≡ Some f → (h : Kept F) × Contains es (k, h) × (h.form ≡ f)
  found_entry es k f = found_under es k f (lookup (key_eq k) es) refl

  -- using an entry adds none
  pub used_entry : (es : Entries F) (k : KeyData) (e : KeyData × Kept F) → Contains (used es k) e → Contains es e
  used_entry es k e h = Contains-promoted (key_eq k) es e h

  -- nor does making one the next to go
  spent_entry : (es : Entries F) (k : KeyData) (e : KeyData × Kept F) → Contains (spent es k) e → Contains es e
  spent_entry es k e h = Contains-demoted (key_eq k) es e h

  moved_entry : (es : Entries F) (k : KeyData) (e : KeyData × Kept F) (once : Bool) → Contains (if once then spent es k else used es k) e
      → Contains es e
  moved_entry es k e true h = spent_entry es k e h
  moved_entry es k e false h = used_entry es k e h

  asked_under : (es : Entries F) (k : KeyData) (e : KeyData × Kept F) (o : Option (Kept F))
      → Contains (option_map_or (λ h. if h.once then spent es k else used es k) o es) e → Contains es e
  asked_under es k e None h = h
  asked_under es k e (Some g) h = moved_entry es k e g.once h

  -- nor does asking for a form
  pub asked_entry : (es : Entries F) (k : KeyData) (e : KeyData × Kept F) → Contains (asked es k) e → Contains es e
  asked_entry es k e = asked_under es k e (lookup (key_eq k) es)

  -- after a form was put each entry was there before, or is the one that was put
  pub put_entry : (c : CacheData F) (k : KeyData) (f : F) (once : Bool) (e : KeyData × Kept F) → Contains (with_form c k f once) e
      → Contains c.entries e ⊎ (e ≡ (k, record { form = f; once = once }))
  put_entry c k f once e h =
      elim (Contains-put_entries key_eq (lru_cache c.entries c.capacity) k (record { form = f; once = once }) e h) [
        | inl old ↦ inl old
        | inr new ↦ inr (elim new.1 [
          | inl same ↦ λ i. (same i, new.0 i)
          | inr there ↦ let key : k ≡ e.0 = (key_eq_decides k e.0).0 there.2 in λ i. (sym key i, new.0 i)
        ])
      ]

-- ---- the entry that is put last

module _ {K V : Type 0} (test : K → Bool) where
  -- an entry after others of which none passes is the one that is found and taken out
  found_behind : (es : List (K × V)) (e : K × V) → lookup test es ≡ None → test e.0 ≡ true
      → (lookup_entry test (es ++ e ∷ []) ≡ Some e) × (remove_entry test (es ++ e ∷ []) ≡ es)
  found_behind [] e lacks passes = rw passes (refl, refl)
  found_behind (f ∷ es) e lacks passes =
      (elim (test f.0) as (λ y. test f.0 ≡ y
      → (lookup_entry test (f ∷ es ++ e ∷ []) ≡ Some e) × (remove_entry test (f ∷ es ++ e ∷ []) ≡ f ∷ es)) [
        | true ↦ λ t. let gone = rw t at lacks in cc
        | false ↦ λ t. let on = found_behind es e (rw t at lacks) passes in rw t (on.0, ap (λ (l : List (K × V)). f ∷ l) on.1)
      ]) refl

  first_under : (es : List (K × V)) (o : Option (K × V)) → lookup_entry test es ≡ o → lookup test (remove_entry test es) ≡ None
      → promoted test (option_map_or (λ e. remove_entry test es ++ e ∷ []) o es) ≡ option_map_or (λ e. e ∷ remove_entry test es) o es
  first_under es None h lacks = rw h refl
  first_under es (Some e) h lacks =
      let there = found_behind (remove_entry test es) e lacks (Contains-lookup_entry test es e h).1 in
      rw there.0 (rw there.1 refl)

  -- an entry that is put last and then first is put first
  pub promoted_demoted : (es : List (K × V)) → lookup test (remove_entry test es) ≡ None
      → promoted test (demoted test es) ≡ promoted test es
  promoted_demoted es = first_under es (lookup_entry test es) refl

  last_under : (es : List (K × V)) (o : Option (K × V)) → lookup_entry test es ≡ o → is_some (lookup test es) ≡ true
      → option_map (λ (e : K × V). e.1) (last_entry (option_map_or (λ e. remove_entry test es ++ e ∷ []) o es)) ≡ lookup test es
  last_under es None h there =
      let lacks : lookup test es ≡ None = sym (lookup-lookup_entry test es) ∙ ap (option_map (λ (e : K × V). e.1)) h in
      let gone : false ≡ true = sym (ap is_some lacks) ∙ there in
      cc
  last_under es (Some e) h there =
      ap (option_map (λ (d : K × V). d.1)) (last_of_push (remove_entry test es) e).0
      ∙ (sym (ap (option_map (λ (d : K × V). d.1)) h) ∙ lookup-lookup_entry test es)

  -- an entry that was put last is found there
  pub last_demoted : (es : List (K × V)) → is_some (lookup test es) ≡ true
      → option_map (λ (e : K × V). e.1) (last_entry (demoted test es)) ≡ lookup test es
  last_demoted es = last_under es (lookup_entry test es) refl

  none_under : (es : List (K × V)) (o : Option (K × V)) → lookup_entry test es ≡ o → lookup test es ≡ None
      → option_map_or (λ e. remove_entry test es ++ e ∷ []) o es ≡ es
  none_under es None h lacks = refl
  none_under es (Some e) h lacks =
      let there : Some e.1 ≡ lookup test es = sym (ap (option_map (λ (d : K × V). d.1)) h) ∙ lookup-lookup_entry test es in
      let gone : Some e.1 ≡ None = there ∙ lacks in
      cc

  -- where no key passes, nothing is put last
  pub demoted_none : (es : List (K × V)) → lookup test es ≡ None → demoted test es ≡ es
  demoted_none es = none_under es (lookup_entry test es) refl

-- without the entry of a key there is none of it
without_key : {F : Type 0} (es : Entries F) (k : KeyData) → IsDistinct key_eq (keys_of es)
    → lookup (key_eq k) (remove_entry (key_eq k) es) ≡ None
without_key es k apart =
    let itself : key_eq k k ≡ true = (key_eq_decides k k).1 refl in
    let one : (x y : KeyData) → key_eq k x ≡ true → key_eq k y ≡ key_eq x y =
    λ x y h. ap (λ (z : KeyData). key_eq z y) ((key_eq_decides k x).0 h) in
    lookup-remove_entry key_equiv (key_eq k) one k es apart ∙ rw itself refl

module _ {F : Type 0} (es : Entries F) (k : KeyData) where
  asked_found : (o : Option (Kept F)) → lookup (key_eq k) es ≡ o
      → asked es k ≡ option_map_or (λ h. if h.once then spent es k else used es k) o es
  asked_found o = ap (λ (o : Option (Kept F)). option_map_or (λ h. if h.once then spent es k else used es k) o es)

  -- where no entry has the key, asking for it leaves the entries
  pub asked_none : lookup (key_eq k) es ≡ None → spent es k ≡ asked es k
  asked_none lacks = demoted_none (key_eq k) es lacks ∙ sym (asked_found None lacks)

  -- another one is put first, also when it was put last before
  pub asked_often : (h : Kept F) → IsDistinct key_eq (keys_of es) → lookup (key_eq k) es ≡ Some h → h.once ≡ false
      → used (spent es k) k ≡ asked es k
  asked_often h apart found often =
      let rest : lookup (key_eq k) (remove_entry (key_eq k) es) ≡ None = without_key es k apart in
      promoted_demoted (key_eq k) es rest ∙ sym (asked_found (Some h) found ∙ ap (λ (b : Bool). if b then spent es k else used es k) often)
