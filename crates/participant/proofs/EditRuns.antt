-- Runs: what is left of one after an edit, and what edits of a text leave.
use Rattle.std.proofs.Common.{◌≡◌, ℕ, zero, suc, ◌+◌, ◌-◌, ◌<◌, ◌≤◌, min, Bool, false, inl, inr, if◌then◌else◌, List, [], ◌∷◌, ◌++◌, length, map, reverse, take, drop, get_or, length-drop, refl, sym, ap, subst, ◌∙◌, arith}
use Rattle.std.specs.Prelude.{⊤, Some, None, Result, Ok, Err}
use Rattle.std.proofs.Math.Seq.{drop-cons}
use Rattle.std.proofs.lemmas.Bool.{cases_lt}
use Rattle.std.proofs.lemmas.List.{take_more, take_min, reverse-append, drop_all}
use Rattle.op_name.specs.NameData.{NameData}
use Rattle.op_name.specs.declared.limits.TheConstants.{LETTERS}
use Rattle.context_diff.specs.Operations.{OpData}
use Rattle.site_answers.specs.declared.local.Local.{Local}
use Rattle.participant.specs.declared.edits.Edit.{Edit}
use Rattle.participant.specs.declared.edits.Edit.TheVariants.{Insert, Delete}
use Rattle.participant.specs.declared.edits.Stopped.{Stopped}
use Rattle.participant.specs.declared.edits.Stopped.TheVariants as stopped
use Rattle.participant.specs.Reached.{Reached, with_one, all_settled}
use Rattle.participant.specs.Edits.{made_by}
use Rattle.participant.specs.Runs.{cut, pieces, puts, inserts, runs, deletes, Progress, is_passed, after_answer, after_edit, StopsAt, Runs, IsRun}
use Rattle.participant.specs.declared.runs.Run.{Run}

-- ---- one edit after the other

-- however the run ends from here, it ends so from there
pub record LeadsTo (es : List Edit) (p : Progress) (left : List Edit) (now : Progress) : Type 0 where
  pub so : (end : Result ⊤ Stopped) (q : Progress) → Runs left now end q → Runs es p end q

pub leads_first : (es : List Edit) (p : Progress) → LeadsTo es p es p
leads_first es p = record { so = λ end q run. run }

-- an edit that was gone through
pub leads_more : (es : List Edit) (p : Progress) (e : Edit) (left rest : List Edit) (now next : Progress)
    → LeadsTo es p left now → left ≡ e ∷ rest → after_edit e now ≡ Some next → LeadsTo es p rest next
unfolding Runs
leads_more es p e left rest now next leads is step =
    record { so = λ end q run. leads.so end q (subst (λ (x : List Edit). Runs x now end q) (sym is) (inl (next, step, run))) }

-- an edit at which it stops
pub leads_stop : (es : List Edit) (p : Progress) (e : Edit) (left rest : List Edit) (now : Progress) (end : Result ⊤ Stopped) (q : Progress)
    → LeadsTo es p left now → left ≡ e ∷ rest → StopsAt e now end q → Runs es p end q
unfolding Runs
leads_stop es p e left rest now end q leads is stop = leads.so end q (subst (λ (x : List Edit). Runs x now end q) (sym is) (inr stop))

-- no edit is left
pub leads_end : (es : List Edit) (p : Progress) (left : List Edit) (now : Progress)
    → LeadsTo es p left now → left ≡ [] → Runs es p (Ok tt) now
unfolding Runs
leads_end es p left now leads none = leads.so (Ok tt) now (subst (λ (x : List Edit). Runs x now (Ok tt) now) (sym none) (refl, refl))

-- ---- what is left of a run

-- the next character of a text is this one
pub inserts_next : (v k : ℕ) (text : List ℕ) (ch : ℕ) (piece : List ℕ) → k < length text → ch ≡ get_or text k ch → piece ≡ ch ∷ []
    → inserts v (drop k text) ≡ Insert v piece ∷ inserts (v + 1) (drop (k + 1) text)
unfolding puts
inserts_next v k text ch piece within is alone =
    let cut : drop k text ≡ ch ∷ drop (k + 1) text =
    drop-cons text k ch within ∙ ap (λ c. c ∷ drop (suc k) text) (sym is) ∙ ap (λ n. ch ∷ drop n text) (next_is k) in
    ap (inserts v) cut ∙ ap (λ p. Insert v p ∷ inserts (v + 1) (drop (k + 1) text)) (sym alone)
  where
    next_is : (n : ℕ) → suc n ≡ n + 1
    next_is n = omega arith

pub inserts_end : (v k : ℕ) (text : List ℕ) → length text ≤ k → inserts v (drop k text) ≡ []
unfolding puts
inserts_end v k text past = ap (inserts v) (drop_all k text past)

-- two bounds on the number of pieces that both are large enough give the same
cut_enough : (n m : ℕ) (text : List ℕ) → length text ≤ n → length text ≤ m → cut n text ≡ cut m text
unfolding cut
cut_enough zero zero text few less = refl
cut_enough zero (suc m) [] few less = refl
cut_enough zero (suc m) (ch ∷ cs) few less = absurd (omega arith)
cut_enough (suc n) zero [] few less = refl
cut_enough (suc n) zero (ch ∷ cs) few less = absurd (omega arith)
cut_enough (suc n) (suc m) [] few less = refl
cut_enough (suc n) (suc m) (ch ∷ cs) few less =
    let rest = drop LETTERS (ch ∷ cs) in
    let shorter = length-drop LETTERS (ch ∷ cs) in
    ap (λ (ps : List (List ℕ)). take LETTERS (ch ∷ cs) ∷ ps)
    (cut_enough n m rest (omega (arith, shorter, few)) (omega (arith, shorter, less)))

-- the first piece of a text, and those of what is behind it
pub pieces_next : (text : List ℕ) → 0 < length text → pieces text ≡ take LETTERS text ∷ pieces (drop LETTERS text)
unfolding pieces cut
pieces_next [] some = absurd (omega arith)
pieces_next (ch ∷ cs) some =
    let rest = drop LETTERS (ch ∷ cs) in
    let shorter = length-drop LETTERS (ch ∷ cs) in
    ap (λ (ps : List (List ℕ)). take LETTERS (ch ∷ cs) ∷ ps)
    (cut_enough (length cs) (length rest) rest (omega (arith, shorter)) (omega arith))

pub pieces_none : (text : List ℕ) → length text ≡ 0 → pieces text ≡ []
unfolding pieces cut
pieces_none [] none = refl
pieces_none (ch ∷ cs) none = absurd (omega arith)

cut_few : (n : ℕ) (text : List ℕ) → length (cut n text) ≤ length text
unfolding cut
cut_few zero [] = omega arith
cut_few zero (ch ∷ cs) = omega arith
cut_few (suc n) [] = omega arith
cut_few (suc n) (ch ∷ cs) = omega (arith, cut_few n (drop LETTERS (ch ∷ cs)), length-drop LETTERS (ch ∷ cs))

-- a text has no more pieces than characters
pub pieces_few : (text : List ℕ) → length (pieces text) ≤ length text
unfolding pieces
pieces_few text = cut_few (length text) text

drop_min : (n : ℕ) (xs : List ℕ) → drop (min n (length xs)) xs ≡ drop n xs
drop_min n xs = elim (cases_lt n (length xs)) [
  | inl more ↦ ap (λ k. drop k xs) (omega (arith, more))
  | inr all ↦
      let short : length xs ≤ min n (length xs) = omega (arith, all) in
      drop_all (min n (length xs)) xs short ∙ sym (drop_all n xs all)
]

-- the first piece, as it is cut off: LETTERS characters, or all if there are fewer
pub cut_off : (text piece behind : List ℕ) (n : ℕ) → 0 < length text → n ≡ min LETTERS (length text) → piece ≡ take n text
    → behind ≡ drop n text → pieces text ≡ piece ∷ pieces behind
cut_off text piece behind n some size front back =
    pieces_next text some
    ∙ ap (λ p. p ∷ pieces (drop LETTERS text)) (sym (front ∙ ap (λ k. take k text) size ∙ take_min LETTERS text))
    ∙ ap (λ xs. piece ∷ pieces xs) (sym (back ∙ ap (λ k. drop k text) size ∙ drop_min LETTERS text))

-- a piece goes in, and what is behind it is left
pub runs_next : (v : ℕ) (text piece behind : List ℕ) → pieces text ≡ piece ∷ pieces behind
    → runs v text ≡ Insert v piece ∷ runs (v + length piece) behind
unfolding puts
runs_next v text piece behind cut = ap (puts v) cut

pub runs_end : (v : ℕ) (text : List ℕ) → length text ≡ 0 → runs v text ≡ []
unfolding puts
runs_end v text none = ap (puts v) (pieces_none text none)

pub deletes_next : (v n k : ℕ) → k < n → deletes v (n - k) ≡ Delete v ∷ deletes v (n - (k + 1))
unfolding deletes
deletes_next v n k within = ap (deletes v) more
  where
    more : n - k ≡ suc (n - (k + 1))
    more = omega (arith, within)

pub deletes_end : (v n : ℕ) → deletes v (n - n) ≡ []
unfolding deletes
deletes_end v n = ap (deletes v) none
  where
    none : n - n ≡ 0
    none = omega arith

-- the last of the first so many names
pub turns_next : (f : NameData → Edit) (names : List NameData) (left : ℕ) (n : NameData) (e : Edit)
    → 0 < left → left ≤ length names → n ≡ get_or names (left - 1) n → e ≡ f n
    → map f (reverse (take left names)) ≡ e ∷ map f (reverse (take (left - 1) names))
turns_next f names left n e some within is of =
    let k = left - 1 in
    let on : left ≡ k + 1 = omega (arith, some) in
    let inside : k < length names = omega (arith, some, within) in
    let cut : take (k + 1) names ≡ take k names ++ n ∷ [] =
    take_more names k n inside ∙ ap (λ (x : NameData). take k names ++ x ∷ []) (sym is) in
    ap (λ (i : ℕ). map f (reverse (take i names))) on
    ∙ ap (λ (xs : List NameData). map f (reverse xs)) cut
    ∙ ap (map f) (reverse-append (take k names) (n ∷ []))
    ∙ ap (λ (x : Edit). x ∷ map f (reverse (take k names))) (sym of)

-- ---- edits of a text

-- one that is gone through makes an operation
record IsMade (r : Result OpData Local) (p q : Progress) : Type 0 where
  op : OpData
  is : r ≡ Ok op
  after : q ≡ record { reached = all_settled (with_one p.reached op); made = p.made + 1 }

made_once : (e : Edit) (r : Result OpData Local) (p q : Progress)
    → ((why : Local) → is_passed e why ≡ false) → after_answer e r p ≡ Some q → IsMade r p q
made_once e (Ok o) p q never is =
    let made : Progress = record { reached = all_settled (with_one p.reached o); made = p.made + 1 } in
    record { op = o; is = refl; after = inside made is }
  where
    inside : (x : Progress) → Some x ≡ Some q → q ≡ x
    inside x same = cc
made_once e (Err why) p q never is = absurd (none (subst (λ (b : Bool). (if b then Some p else None) ≡ Some q) (never why) is))
  where
    none : None ≡ Some q → ⊥
    none same = cc

insert_made : (v : ℕ) (text : List ℕ) (p q : Progress) → after_edit (Insert v text) p ≡ Some q
    → IsMade (made_by (Insert v text) p.reached.state) p q
insert_made v text p q is = made_once (Insert v text) (made_by (Insert v text) p.reached.state) p q (λ why. refl) is

pub insert_counts : (v : ℕ) (text : List ℕ) (p q : Progress) → after_edit (Insert v text) p ≡ Some q → q.made ≡ p.made + 1
insert_counts v text p q is = ap (λ (x : Progress). x.made) (insert_made v text p q is).after

pub delete_counts : (v : ℕ) (p q : Progress) → after_edit (Delete v) p ≡ Some q → q.made ≡ p.made + 1
delete_counts v p q is =
    ap (λ (x : Progress). x.made) (made_once (Delete v) (made_by (Delete v) p.reached.state) p q (λ why. refl) is).after

-- where it stops, at most one more operation was made
pub stop_counts : (e : Edit) (p q : Progress) (end : Result ⊤ Stopped) → StopsAt e p end q → q.made ≤ p.made + 1
stop_counts e p q (Ok u) stop = absurd stop
stop_counts e p q (Err (stopped.Refused why)) stop = omega (arith, ap (λ (x : Progress). x.made) stop.2)
stop_counts e p q (Err stopped.Unsettled) stop = omega (arith, stop.1)

-- what holds of how each run of inserts ends: of that of no pieces; of one whose first piece was inserted, if it holds of the run of the
-- others; and of one that stops at its first piece
pub by_pieces : (P : List Edit → Progress → Result ⊤ Stopped → Progress → Type 0)
    → ((p : Progress) → P [] p (Ok tt) p)
    → ((v : ℕ) (text : List ℕ) (es : List Edit) (p : Progress) (o : OpData) (end : Result ⊤ Stopped) (q : Progress)
    → made_by (Insert v text) p.reached.state ≡ Ok o
    → P es (record { reached = all_settled (with_one p.reached o); made = p.made + 1 }) end q → P (Insert v text ∷ es) p end q)
    → ((v : ℕ) (text : List ℕ) (es : List Edit) (p : Progress) (end : Result ⊤ Stopped) (q : Progress)
    → StopsAt (Insert v text) p end q → P (Insert v text ∷ es) p end q)
    → (v : ℕ) (ps : List (List ℕ)) (p : Progress) (end : Result ⊤ Stopped) (q : Progress)
    → Runs (puts v ps) p end q → P (puts v ps) p end q
unfolding Runs puts
by_pieces P none more stop v [] p end q (ends, at) =
    subst (λ (x : Result ⊤ Stopped). P [] p x q) (sym ends) (subst (λ (x : Progress). P [] p (Ok tt) x) (sym at) (none p))
by_pieces P none more stop v (text ∷ ps) p end q (inl (next, step, run)) =
    let made = insert_made v text p next step in
    let es = puts (v + length text) ps in
    let rest : P es next end q = by_pieces P none more stop (v + length text) ps next end q run in
    more v text es p made.op end q made.is (subst (λ (x : Progress). P es x end q) made.after rest)
by_pieces P none more stop v (text ∷ ps) p end q (inr stops) = stop v text (puts (v + length text) ps) p end q stops

-- ---- runs of nothing

none_run : (a b : Reached) (r : Run) → IsRun [] a r b → r.end ≡ Ok tt
unfolding Runs
none_run a b r run = run.0

-- a text without characters, and a range of none, end well
pub nothing_typed : (v : ℕ) (text : List ℕ) (a b : Reached) (r : Run) → text ≡ [] → IsRun (inserts v text) a r b → r.end ≡ Ok tt
unfolding puts
nothing_typed v text a b r none run = none_run a b r (subst (λ (cs : List ℕ). IsRun (inserts v cs) a r b) none run)

pub nothing_cut : (v count : ℕ) (a b : Reached) (r : Run) → count ≡ 0 → IsRun (deletes v count) a r b → r.end ≡ Ok tt
unfolding deletes
nothing_cut v count a b r none run = none_run a b r (subst (λ (n : ℕ). IsRun (deletes v n) a r b) none run)
