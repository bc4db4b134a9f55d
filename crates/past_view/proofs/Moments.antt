-- What is played of a history that goes on, and what of it was written.
use Rattle.std.proofs.Common.{◌≡◌, ℕ, ◌+◌, ◌<◌, List, [], ◌∷◌, ◌++◌, Option, length, take, drop, get_or, sym, ap, ◌∙◌, subst, append_assoc, take-append-drop}
use Rattle.std.proofs.lemmas.List.{take_more, append-nil}
use Rattle.std.proofs.KnownBytes.{Appends-trans}
use Rattle.std.specs.Io.KnownBytes.{Appends}
use Rattle.outside_io.specs.Writing.{WritesFront}
use Rattle.context_diff.specs.Operations.{OpData}
use Rattle.past_view.specs.Playing.{moment_text, played_after, played}
use Rattle.past_view.specs.Code.Playing.{HasWritten}

played_after-append : (h xs ys : List OpData) → played_after h (xs ++ ys) ≡ played_after h xs ++ played_after (h ++ xs) ys
played_after-append h [] ys = ap (λ (g : List OpData). played_after g ys) (sym (append-nil h))
played_after-append h (x ∷ xs) ys =
    let moment = moment_text (h ++ x ∷ []) x in
    let rest = played_after-append (h ++ x ∷ []) xs ys in
    let same = append_assoc h (x ∷ []) xs in
    ap (λ (bs : List ℕ). moment ++ bs)
    (rest ∙ ap (λ (g : List OpData). played_after (h ++ x ∷ []) xs ++ played_after g ys) same)
    ∙ sym (append_assoc moment (played_after (h ++ x ∷ []) xs) (played_after (h ++ x ∷ xs) ys))

-- one operation more
pub played_more : (h : List OpData) (i : ℕ) (o : OpData) → i < length h → get_or h i o ≡ o
    → played (take (i + 1) h) ≡ played (take i h) ++ moment_text (take (i + 1) h) o
played_more h i o lt is =
    let longer = take_more h i o lt ∙ ap (λ (x : OpData). take i h ++ x ∷ []) is in
    ap played longer
    ∙ played_after-append [] (take i h) (o ∷ [])
    ∙ ap (λ (bs : List ℕ). played (take i h) ++ bs) (append-nil (moment_text (take i h ++ o ∷ []) o))
    ∙ ap (λ (g : List OpData). played (take i h) ++ moment_text g o) (sym longer)

-- what is played of the first operations is a front of it all
pub played_front : (h : List OpData) (i : ℕ) → played h ≡ played (take i h) ++ played_after (take i h) (drop i h)
played_front h i = ap played (sym (take-append-drop i h)) ∙ played_after-append [] (take i h) (drop i h)

-- ---- what was written

-- as much is written, and more is to be
pub written_more : (old now : Option (List ℕ)) (all out more next : List ℕ) → HasWritten old now all out
    → ((front : List ℕ) → all ≡ front ++ out → more ≡ front ++ next) → HasWritten old now more next
written_more old now all out more next w on = record { front = w.front; parts = on w.front w.parts; written = w.written }

-- a part of what was to be written is
pub written_on : (old mid now : Option (List ℕ)) (all out rest : List ℕ) → HasWritten old mid all out → HasWritten mid now out rest
    → HasWritten old now all rest
written_on old mid now all out rest w v = record {
  front = w.front ++ v.front;
  parts = w.parts ∙ ap (λ (bs : List ℕ). w.front ++ bs) v.parts ∙ sym (append_assoc w.front v.front rest);
  written = Appends-trans old mid now w.front v.front w.written v.written;
}

pub written_all : (old now : Option (List ℕ)) (all rest : List ℕ) → HasWritten old now all rest → rest ≡ [] → Appends old now all
written_all old now all rest w none =
    subst (Appends old now) (sym (w.parts ∙ ap (λ (bs : List ℕ). w.front ++ bs) none ∙ append-nil w.front)) w.written

-- where writing stopped, a front of it all was written
pub front_written : (old now : Option (List ℕ)) (whole all after rest : List ℕ) → whole ≡ all ++ after → HasWritten old now all rest
    → WritesFront old now whole
front_written old now whole all after rest is w = record {
  front = w.front;
  rest = rest ++ after;
  parts = is ∙ ap (λ (bs : List ℕ). bs ++ after) w.parts ∙ append_assoc w.front rest after;
  written = w.written;
}

pub front_on : (old mid now : Option (List ℕ)) (whole all after out : List ℕ) → whole ≡ all ++ after → HasWritten old mid all out
    → WritesFront mid now out → WritesFront old now whole
front_on old mid now whole all after out is w v =
    front_written old now whole all after v.rest is
    (written_on old mid now all out v.rest w (record { front = v.front; parts = v.parts; written = v.written }))
