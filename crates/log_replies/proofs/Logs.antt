-- A log that is loaded while it is read: what was fed, and what is answered then.
use Rattle.std.proofs.Common.{◌≡◌, ◌≢◌, ℕ, ◌+◌, ◌-◌, ◌≤◌, List, [], ◌++◌, refl, ap, sym, subst, ◌∙◌, inl, inr, arith, min, length, take, drop, length-append, length-take, append-nil}
use Rattle.std.specs.Prelude.{Option, Some, None, IfSome, IfNone}
use Rattle.std.specs.Io.KnownBytes.{Consumes, IsAtEnd}
use Rattle.std.proofs.KnownBytes.{Consumes-trans}
use Rattle.std.proofs.lemmas.Bool.{cases_lt}
use Rattle.std.proofs.lemmas.List.{take-take, take_all, take-append-le, take-append-drop, drop_all}
use Rattle.std.proofs.Math.Seq.{take-append-add, drop-append_seam}
use Rattle.outside_io.specs.Reading.{LosesFront}
use Rattle.outside_io.specs.declared.reading.TheConstants.{MAX_INPUT}
use Rattle.cot_site.specs.Sites.{SiteData, state_of}
use Rattle.cot_site.specs.States.{State}
use Rattle.session_log.specs.declared.log_bad.LogBad.{LogBad}
use Rattle.session_log.specs.declared.log_bad.LogBad.TheVariants as bad
use Rattle.session_log.specs.Loadings.{IsLoaded, IsUnloaded}
use Rattle.session_log.specs.Words.{refused_log_text}
use Rattle.session_log.specs.ReaderData.{ReaderData}
use Rattle.session_log.specs.Readers.{Keeps}
use Rattle.log_replies.specs.Replies.{IsLoadedAs, IsRefusedInto}
use Rattle.log_replies.specs.Code.Loading.{Feeds, IsFed}

-- ---- piece by piece

-- the first k of the first n
cut_twice : (k n : ℕ) (xs : List ℕ) → n ≤ length xs → take k (take n xs) ≡ take (min n k) xs
cut_twice k n xs within = elim (cases_lt k n) [
  | inl less ↦
      let least : min n k ≡ k = omega (arith, less) in
      take-take k n xs (omega (arith, less)) ∙ ap (λ i. take i xs) (sym least)
  | inr more ↦
      let least : min n k ≡ n = omega (arith, more) in
      take_all k (take n xs) (omega (arith, more, length-take n xs)) ∙ ap (λ i. take i xs) (sym least)
]

-- what stands before the limit, after more was read
cut_more : (most : ℕ) (all xs : List ℕ) → length all ≤ most → take most (all ++ xs) ≡ take most all ++ take (most - length all) xs
cut_more most all xs few =
    let sum : length all + (most - length all) ≡ most = omega (arith, few) in
    ap (λ n. take n (all ++ xs)) (sym sum) ∙ take-append-add all xs (most - length all)
    ∙ ap (λ ys. ys ++ take (most - length all) xs) (sym (take_all most all few))

-- n bytes more were read, and of these as many fed as may be
pub feeds_more : (site : ℕ) (left a b : Option (List ℕ)) (read n : ℕ) (buf piece : List ℕ) (old new : ReaderData)
    → read ≤ MAX_INPUT → n ≤ length buf → Consumes a b (take n buf) → piece ≡ take (min n (MAX_INPUT - read)) buf
    → ((all : List ℕ) → Keeps old all → Keeps new (all ++ piece)) → new.site ≡ old.site
    → Feeds site left a read old → Feeds site left b (read + n) new
feeds_more site left a b read n buf piece old new few within took is keeps same f = record {
  all = f.all ++ take n buf;
  size = omega (arith, length-append f.all (take n buf), f.size, length-take n buf, within);
  consumed = Consumes-trans left a b f.all (take n buf) f.consumed took;
  kept =
      let short : length f.all ≤ MAX_INPUT = omega (arith, f.size, few) in
      let cut : take (MAX_INPUT - length f.all) (take n buf) ≡ piece =
      ap (λ k. take (MAX_INPUT - k) (take n buf)) f.size ∙ cut_twice (MAX_INPUT - read) n buf within ∙ sym is in
      subst (Keeps new) (sym (cut_more MAX_INPUT f.all (take n buf) short ∙ ap (λ ys. take MAX_INPUT f.all ++ ys) cut))
      (keeps (take MAX_INPUT f.all) f.kept);
  number = same ∙ f.number;
}

-- before the limit all that was read was fed
pub feeds_count : (site : ℕ) (left now : Option (List ℕ)) (read : ℕ) (r : ReaderData) → read ≤ MAX_INPUT → Feeds site left now read r
    → r.fed ≡ read
feeds_count site left now read r few f =
    f.kept.fed ∙ ap length (take_all MAX_INPUT f.all (omega (arith, f.size, few))) ∙ f.size

-- nothing was read yet
pub feeds_none : (left : Option (List ℕ)) (r : ReaderData) → Keeps r [] → Feeds r.site left left 0 r
feeds_none left r kept = record {
  all = [];
  size = refl;
  consumed = same left;
  kept = kept;
  number = refl;
}
  where
    same : (left : Option (List ℕ)) → Consumes left left []
    same None = tt
    same (Some xs) = refl

-- what was read, and what was lost then, are lost
pub loses_more : (site : ℕ) (left a b : Option (List ℕ)) (read : ℕ) (r : ReaderData) → read ≤ MAX_INPUT + 1 → Feeds site left a read r
    → LosesFront (MAX_INPUT + 1 - read) a b → LosesFront (MAX_INPUT + 1) left b
loses_more site left a b read r few f lost = record {
  front = f.all ++ lost.front;
  few = omega (arith, few, lost.few, f.size, length-append f.all lost.front);
  lost = Consumes-trans left a b f.all lost.front f.consumed lost.lost;
}

-- ---- at the end

-- what was read of the bytes is all of them, or one past the limit
pub fed_whole : (site : ℕ) (left now : Option (List ℕ)) (read : ℕ) (r : ReaderData) → read ≤ MAX_INPUT + 1
    → (read ≤ MAX_INPUT → IsAtEnd now) → Feeds site left now read r
    → IfSome left (λ bytes. IsFed site bytes read r)
fed_whole site None now read r few end f = tt
fed_whole site (Some bytes) None read r few end f = absurd f.consumed
fed_whole site (Some bytes) (Some rest) read r few end f =
    let parts : bytes ≡ f.all ++ rest = f.consumed in
    let size : length bytes ≡ read + length rest = omega (arith, ap length parts, length-append f.all rest, f.size) in
    let none : read ≤ MAX_INPUT → length rest ≡ 0 = λ short. ap length (end short) in
    elim (cases_lt MAX_INPUT read) [
      | inl long ↦ record {
        size = omega (arith, size, few, long);
        kept = subst (Keeps r) (sym (ap (take MAX_INPUT) parts ∙ take-append-le MAX_INPUT f.all rest (omega (arith, f.size, long)))) f.kept;
        number = f.number;
      }
      | inr short ↦ record {
        size = omega (arith, size, short, none short);
        kept = subst (λ xs. Keeps r (take MAX_INPUT xs)) (sym (parts ∙ ap (λ xs. f.all ++ xs) (end short) ∙ append-nil f.all)) f.kept;
        number = f.number;
      }
    ]

-- and the rest of them is left
pub fed_rest : (site : ℕ) (left now : Option (List ℕ)) (read : ℕ) (r : ReaderData) → read ≤ MAX_INPUT + 1 → (read ≤ MAX_INPUT → IsAtEnd now)
    → Feeds site left now read r
    → IfSome left (λ bytes. now ≡ Some (drop (MAX_INPUT + 1) bytes))
fed_rest site None now read r few end f = tt
fed_rest site (Some bytes) None read r few end f = absurd f.consumed
fed_rest site (Some bytes) (Some rest) read r few end f =
    let parts : bytes ≡ f.all ++ rest = f.consumed in
    elim (cases_lt MAX_INPUT read) [
      | inl long ↦
          let size : length f.all ≡ MAX_INPUT + 1 = omega (arith, f.size, few, long) in
          ap Some (sym (ap (drop (MAX_INPUT + 1)) parts ∙ ap (λ n. drop n (f.all ++ rest)) (sym size) ∙ drop-append_seam f.all rest))
      | inr short ↦
          let all : bytes ≡ f.all = parts ∙ ap (λ xs. f.all ++ xs) (end short) ∙ append-nil f.all in
          ap Some (end short ∙ sym (drop_all (MAX_INPUT + 1) bytes (omega (arith, ap length all, f.size, few))))
    ]

-- an input that was read is a front of what was left
pub loses_input : (n : ℕ) (old new : Option (List ℕ)) → IfSome old (λ bytes. new ≡ Some (drop n bytes)) → LosesFront n old new
loses_input n None new read = record { front = []; few = omega arith; lost = tt }
loses_input n (Some bytes) new read = subst (LosesFront n (Some bytes)) (sym read) (record {
  front = take n bytes;
  few = let size = length-take n bytes in omega (arith, size);
  lost = sym (take-append-drop n bytes);
})

-- ---- what is answered

short_fed : (bytes : List ℕ) (read : ℕ) → read ≤ MAX_INPUT → read ≡ min (length bytes) (MAX_INPUT + 1) → length bytes ≤ MAX_INPUT
short_fed bytes read short is = omega (arith, short, is)

-- a log was loaded
pub loaded : (site read : ℕ) (bytes : List ℕ) (r : ReaderData) (s : State) → read ≤ MAX_INPUT
    → ((all : List ℕ) → Keeps r all → IsLoaded r.site all s) → IsFed site bytes read r → IsLoadedAs site bytes s
loaded site read bytes r s short at f =
    let few = short_fed bytes read short f.size in (
      few,
      subst (λ n. IsLoaded n bytes s) f.number
          (subst (λ xs. IsLoaded r.site xs s) (take_all MAX_INPUT bytes few) (at (take MAX_INPUT bytes) f.kept)),
    )

-- it was refused
pub refused : (site read : ℕ) (bytes old new : List ℕ) (r : ReaderData) (why : LogBad) → read ≤ MAX_INPUT → why ≢ bad.Memory
    → ((all : List ℕ) → Keeps r all → IsUnloaded r.site all why) → new ≡ old ++ refused_log_text why
    → IsFed site bytes read r → IsRefusedInto site bytes old new
refused site read bytes old new r why short some at added f =
    let few = short_fed bytes read short f.size in (
      refused_log_text why,
      inr (
        few,
        (
          why,
          some,
          subst (λ n. IsUnloaded n bytes why) f.number
              (subst (λ xs. IsUnloaded r.site xs why) (take_all MAX_INPUT bytes few) (at (take MAX_INPUT bytes) f.kept)),
          refl,
        ),
      ),
      added,
    )

-- a log that the source had left was loaded
pub loaded_of : (site read : ℕ) (left : Option (List ℕ)) (r : ReaderData) (o : Option SiteData)
    → IfSome left (λ bytes. IsFed site bytes read r)
    → ((bytes : List ℕ) → IsFed site bytes read r → IfSome o (λ s. IsLoadedAs site bytes (state_of s)))
    → IfSome o (λ s. IfSome left (λ bytes. IsLoadedAs site bytes (state_of s)))
loaded_of site read None r None fed loads = tt
loaded_of site read None r (Some s) fed loads = tt
loaded_of site read (Some bytes) r o fed loads = loads bytes fed

-- ---- what an answer holds

-- what holds of the value in an answer
pub if_some : {X : Type 0} (o : Option X) (x : X) (P : X → Type 0) → o ≡ Some x → IfSome o P → P x
if_some o x P is holds = subst (λ q. IfSome q P) is holds

-- what holds where there is none
pub if_none : {X : Type 0} (o : Option X) (P : Type 0) → o ≡ None → IfNone o P → P
if_none o P is holds = subst (λ q. IfNone q P) is holds
