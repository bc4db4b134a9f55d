-- What loading gives when bytes follow what a reader keeps.
use Rattle.std.proofs.Common.{◌≡◌, ℕ, List, [], ◌++◌, refl, sym, subst, ◌∙◌, append_assoc, append-nil, arith, inl}
use Rattle.std.specs.Prelude.{Option, None, false}
use Rattle.std.proofs.lemmas.List.{nil_from_length}
use Rattle.wire_codec.specs.declared.version.Version.{Version}
use Rattle.cot_site.specs.States.{State}
use Rattle.session_log.specs.declared.log_bad.LogBad.{LogBad}
use Rattle.session_log.specs.Loadings.{new_state, IsLoaded, IsUnloaded}
use Rattle.session_log.specs.ReaderData.{ReaderData, reader_of}
use Rattle.session_log.specs.Readers.{Keeps, KeepsSome, GoesOn, Begins, IsLoadedOn, IsUnloadedOn, OneLoadOn}

-- of a new reader no byte was fed
nothing : (r : ReaderData) (all : List ℕ) → Keeps r [] → Keeps r all → all ≡ []
nothing r all none k = nil_from_length all (sym k.fed ∙ none.fed)

pub begins : (site : ℕ) (r : ReaderData) → r.site ≡ site → Keeps r [] → Begins site r
begins site r is k = record {
  loaded = λ bytes s. (
    (λ on. subst (λ (n : ℕ). IsLoaded n bytes s) is
        (subst (λ (t : List ℕ). IsLoaded r.site (t ++ bytes) s) (nothing r on.all k on.keeps) on.loaded)),
    (λ l. record { all = []; keeps = k; loaded = subst (λ (n : ℕ). IsLoaded n bytes s) (sym is) l }),
  );
  refused = λ bytes why. (
    (λ on. subst (λ (n : ℕ). IsUnloaded n bytes why) is
        (subst (λ (t : List ℕ). IsUnloaded r.site (t ++ bytes) why) (nothing r on.all k on.keeps) on.unloaded)),
    (λ u. record { all = []; keeps = k; unloaded = subst (λ (n : ℕ). IsUnloaded n bytes why) (sym is) u }),
  );
}

pub new_begins : (site : ℕ) (v : Version) (left : List ℕ) (s : State) (refused : Option LogBad) → left ≡ [] → s ≡ new_state site
    → refused ≡ None
    → Begins site (reader_of site v 0 left s refused None false)
new_begins site v left s refused none new accepted = begins site (reader_of site v 0 left s refused None false) refl (record {
  live = refl;
  fed = refl;
  kept = inl (record { unread = refl; few = omega arith; front = refl; left = none; state = new; accepted = accepted });
})

-- what is said of a site of this number and of all bytes, with the piece before or after the cut
cut_later : (Says : ℕ → List ℕ → Type 0) (n m : ℕ) (a piece more : List ℕ) → n ≡ m → Says n ((a ++ piece) ++ more)
    → Says m (a ++ (piece ++ more))
cut_later Says n m a piece more same is =
    subst (Says m) (append_assoc a piece more) (subst (λ (k : ℕ). Says k ((a ++ piece) ++ more)) same is)

cut_earlier : (Says : ℕ → List ℕ → Type 0) (n m : ℕ) (a piece more : List ℕ) → n ≡ m → Says m (a ++ (piece ++ more))
    → Says n ((a ++ piece) ++ more)
cut_earlier Says n m a piece more same is =
    subst (λ (k : ℕ). Says k ((a ++ piece) ++ more)) (sym same) (subst (Says m) (sym (append_assoc a piece more)) is)

-- a piece was fed, and what is kept of all bytes is kept
pub goes_on_by : OneLoadOn → (old new : ReaderData) (piece : List ℕ) → new.site ≡ old.site
    → ((all : List ℕ) → Keeps old all → Keeps new (all ++ piece)) → KeepsSome old → GoesOn old piece new
goes_on_by one old new piece same keeps (a, k) = record {
  loaded = λ more s.
      let Says : ℕ → List ℕ → Type 0 = λ n bytes. IsLoaded n bytes s in (
        (λ on. record {
          all = a;
          keeps = k;
          loaded =
              cut_later Says new.site old.site a piece more same ((one new on.all (a ++ piece) more on.keeps (keeps a k)).0 s on.loaded);
        }),
        (λ on. record {
          all = on.all ++ piece;
          keeps = keeps on.all on.keeps;
          loaded =
              cut_earlier Says new.site old.site on.all piece more same on.loaded;
        }),
      );
  refused = λ more why.
      let Says : ℕ → List ℕ → Type 0 = λ n bytes. IsUnloaded n bytes why in (
        (λ on. record {
          all = a;
          keeps = k;
          unloaded =
              cut_later Says new.site old.site a piece more same
              ((one new on.all (a ++ piece) more on.keeps (keeps a k)).1 why on.unloaded);
        }),
        (λ on. record {
          all = on.all ++ piece;
          keeps = keeps on.all on.keeps;
          unloaded =
              cut_earlier Says new.site old.site on.all piece more same on.unloaded;
        }),
      );
}

-- at the end nothing follows
pub loaded_here : (r : ReaderData) (s : State) → ((all : List ℕ) → Keeps r all → IsLoaded r.site all s) → KeepsSome r → IsLoadedOn r [] s
loaded_here r s loaded (a, k) =
    record { all = a; keeps = k; loaded = subst (λ (t : List ℕ). IsLoaded r.site t s) (sym (append-nil a)) (loaded a k) }

pub refused_here : (r : ReaderData) (why : LogBad) → ((all : List ℕ) → Keeps r all → IsUnloaded r.site all why) → KeepsSome r
    → IsUnloadedOn r [] why
refused_here r why refused (a, k) =
    record { all = a; keeps = k; unloaded = subst (λ (t : List ℕ). IsUnloaded r.site t why) (sym (append-nil a)) (refused a k) }
