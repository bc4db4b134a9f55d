-- A line says what is spelled so, and nothing else.
use Rattle.std.proofs.Common.{◌≡◌, ℕ, ◌<◌, ◌≤◌, ◌^◌, Bool, true, ◌&&◌, nat_lt, ltb-true, List, [], ◌∷◌, ◌++◌, length, codes, bytes_eq, decimal, encode_utf8_all, Option, Some, None, Result, Ok, Err, IfOk, refl, sym, ap, ◌∙◌, subst, arith, inl, inr, IsUtf8, option_map, IsTrue, eqb-true, ◌==◌}
use Rattle.std.proofs.lemmas.Bool.{cond_both, and_parts}
use Rattle.std.proofs.lemmas.Slice.Eq.{bytes_eq-Decides}
use Rattle.std.proofs.lemmas.Str.{IsUtf8-from_ascii, IsUtf8-append, IsUtf8-nil}
use Rattle.std.proofs.lemmas.Str.Ascii.{IsAscii-cons, IsAscii-nil}
use Rattle.std.proofs.lemmas.Fmt.{IsAscii-decimal}
use Rattle.std.specs.Str.{IsAscii, all_scalars}
use Rattle.std.specs.Prelude.{IsSomeAnd}
use Rattle.hex.specs.Hex.{decode_of, encode_lower, lower_digits, IsBytes}
use Rattle.hex.proofs.HexLemmas.{decode_of-encode_lower, decode_of-ok, IsAscii-encode_with}
use Rattle.script_text.specs.declared.reading.line.Line.{Line}
use Rattle.script_text.specs.declared.reading.line.Line.TheVariants.{Blank, Sites, Ins, Run, Nl, Del, Undo, Redo, Give, All, Sync, Raw, Raw2, Show, State}
use Rattle.script_text.specs.declared.reading.line.LineBad.{LineBad}
use Rattle.script_text.specs.declared.reading.line.LineBad.TheVariants.{Limit, Long, Utf8, Form, Memory}
use Rattle.op_name.specs.NameData.{NameData, IsName}
use Rattle.op_name.specs.declared.name.TheConstants.{SITES}
use Rattle.site_answers.specs.Names.{name_text}
use Rattle.script_text.specs.Fields.{IsText, cut, pair_by, number_of, site_of, count_of, name_of, text_of, octets_of, IsNumber, IsSite, IsNameText, IsCharacters, IsHex, IsPair}
use Rattle.script_text.specs.Rows.{Row, table, row_in, sites_row, ins_row, run_row, nl_row, del_row, undo_row, redo_row, give_row, all_row, raw_row, raw2_row, show_row, state_row}
use Rattle.script_text.specs.declared.reading.parse.TheConstants.{LONGEST}
use Rattle.script_text.specs.Lines.{command, two, spelling, IsInRange, IsLine, HasContent}
use Rattle.script_text.specs.Answers.{line_in, LineAnswers, Answers, IsReadAs}
use Rattle.script_text.proofs.FieldLaws.{Reads, number_reads, site_reads, count_reads, name_reads, text_reads, octets_reads, pair_reads, number_lacks, site_lacks, blank_no_digit, some_is, and_then_some, cut_some}

site_and_number : Reads (pair_by 32 site_of number_of) (IsPair 32 IsSite IsNumber)
site_and_number = pair_reads 32 site_of IsSite number_of IsNumber site_reads number_reads (site_lacks 32 blank_no_digit)

site_and_name : Reads (pair_by 32 site_of name_of) (IsPair 32 IsSite IsNameText)
site_and_name = pair_reads 32 site_of IsSite name_of IsNameText site_reads name_reads (site_lacks 32 blank_no_digit)

site_and_octets : Reads (pair_by 32 site_of octets_of) (IsPair 32 IsSite IsHex)
site_and_octets = pair_reads 32 site_of IsSite octets_of IsHex site_reads octets_reads (site_lacks 32 blank_no_digit)

site_place_and_text : Reads (pair_by 32 site_of (pair_by 32 number_of text_of)) (IsPair 32 IsSite (IsPair 32 IsNumber IsCharacters))
site_place_and_text =
    pair_reads 32 site_of IsSite (pair_by 32 number_of text_of) (IsPair 32 IsNumber IsCharacters) site_reads
    (pair_reads 32 number_of IsNumber text_of IsCharacters number_reads text_reads (number_lacks 32 blank_no_digit))
    (site_lacks 32 blank_no_digit)

mapped_some : {A B : Type 0} (f : A → B) (o : Option A) (y : B) → option_map f o ≡ Some y → (x : A) × (o ≡ Some x) × (f x ≡ y)
mapped_some f None y e = cc
mapped_some f (Some x) y e = (x, refl, some_is (f x) y e)

two_is : (bs a b s t : List ℕ) → bs ≡ a ++ 32 ∷ b → a ≡ s → b ≡ t → bs ≡ two s t
two_is bs a b s t e x y = e ∙ ap (λ z. z ++ 32 ∷ b) x ∙ ap (λ z. s ++ 32 ∷ z) y

-- what a row reads is spelled by its word and the fields
Found : Row → Type 0
Found r = (bs : List ℕ) (l : Line) → r.1 bs ≡ Some l → IsLine (command r.0 bs) l

sites_found : (bs : List ℕ) (l : Line) → sites_row bs ≡ Some l → IsLine (command (codes "sites") bs) l
unfolding sites_row
sites_found bs l e =
    let m = mapped_some _ (count_of bs) l e in
    let h = count_reads.from bs m.0 m.1 in
    subst (IsLine (command (codes "sites") bs)) m.2 (ap (command (codes "sites")) h.0, (h.1, h.2))

-- a row of a site and a second field, which has one spelling
pair_found : {A : Type 0} (second : List ℕ → Option A) (Second : List ℕ → A → Type 0) (spell : A → List ℕ)
    → Reads (pair_by 32 site_of second) (IsPair 32 IsSite Second) → ((bs : List ℕ) (x : A) → Second bs x → bs ≡ spell x)
    → (word : List ℕ) (make : ℕ → A → Line)
    → ((site : ℕ) (x : A) → site < SITES → Second (spell x) x → IsLine (command word (two (decimal site) (spell x))) (make site x))
    → (bs : List ℕ) (l : Line) → option_map (λ (x : ℕ × A). make x.0 x.1) (pair_by 32 site_of second bs) ≡ Some l
    → IsLine (command word bs) l
pair_found second Second spell reads back word make is bs l e =
    let m = mapped_some _ (pair_by 32 site_of second bs) l e in
    let h = reads.from bs m.0 m.1 in
    let same = back h.1 m.0.1 h.4 in
    let spelled = two_is bs h.0 h.1 (decimal m.0.0) (spell m.0.1) h.2 h.3.0 same in
    subst (IsLine (command word bs)) m.2
    (subst (λ (t : List ℕ). IsLine (command word t) (make m.0.0 m.0.1)) (sym spelled)
    (is m.0.0 m.0.1 h.3.1 (subst (λ (t : List ℕ). Second t m.0.1) same h.4)))

-- a row of a site alone
site_found : (word : List ℕ) (make : ℕ → Line) → ((site : ℕ) → site < SITES → IsLine (command word (decimal site)) (make site))
    → (bs : List ℕ) (l : Line) → option_map (λ s. make s) (site_of bs) ≡ Some l → IsLine (command word bs) l
site_found word make is bs l e =
    let m = mapped_some _ (site_of bs) l e in
    let h = site_reads.from bs m.0 m.1 in
    subst (IsLine (command word bs)) m.2 (subst (λ (t : List ℕ). IsLine (command word t) (make m.0)) (sym h.0) (is m.0 h.1))

nl_found : (bs : List ℕ) (l : Line) → nl_row bs ≡ Some l → IsLine (command (codes "nl") bs) l
unfolding nl_row
nl_found =
    pair_found number_of IsNumber decimal site_and_number (λ bs n h. h.0) (codes "nl") (λ s n. Nl s n) (λ s n few h. (refl, (few, h.1)))

del_found : (bs : List ℕ) (l : Line) → del_row bs ≡ Some l → IsLine (command (codes "del") bs) l
unfolding del_row
del_found =
    pair_found number_of IsNumber decimal site_and_number (λ bs n h. h.0) (codes "del") (λ s n. Del s n) (λ s n few h. (refl, (few, h.1)))

give_found : (bs : List ℕ) (l : Line) → give_row bs ≡ Some l → IsLine (command (codes "give") bs) l
unfolding give_row
give_found =
    pair_found number_of IsNumber decimal site_and_number (λ bs n h. h.0) (codes "give") (λ s n. Give s n) (λ s n few h. (refl, (few, h.1)))

undo_found : (bs : List ℕ) (l : Line) → undo_row bs ≡ Some l → IsLine (command (codes "undo") bs) l
unfolding undo_row
undo_found =
    pair_found name_of IsNameText name_text site_and_name (λ bs n h. h.0) (codes "undo") (λ s n. Undo s n) (λ s n few h. (refl, (few, h.1)))

redo_found : (bs : List ℕ) (l : Line) → redo_row bs ≡ Some l → IsLine (command (codes "redo") bs) l
unfolding redo_row
redo_found =
    pair_found name_of IsNameText name_text site_and_name (λ bs n h. h.0) (codes "redo") (λ s n. Redo s n) (λ s n few h. (refl, (few, h.1)))

all_found : (bs : List ℕ) (l : Line) → all_row bs ≡ Some l → IsLine (command (codes "all") bs) l
unfolding all_row
all_found = site_found (codes "all") (λ s. All s) (λ s few. (refl, few))

show_found : (bs : List ℕ) (l : Line) → show_row bs ≡ Some l → IsLine (command (codes "show") bs) l
unfolding show_row
show_found = site_found (codes "show") (λ s. Show s) (λ s few. (refl, few))

state_found : (bs : List ℕ) (l : Line) → state_row bs ≡ Some l → IsLine (command (codes "state") bs) l
unfolding state_row
state_found = site_found (codes "state") (λ s. State s) (λ s few. (refl, few))

-- a row of a site, a place and a text
text_found : (word : List ℕ) (make : ℕ → ℕ → List ℕ → Line)
    → ((site place : ℕ) (text : List ℕ) → site < SITES → place < 2 ^ 32 → 0 < length text → IsTrue (all_scalars text)
    → IsLine (command word (two (decimal site) (two (decimal place) (encode_utf8_all text)))) (make site place text))
    → (bs : List ℕ) (l : Line)
    → option_map (λ (x : ℕ × (ℕ × List ℕ)). make x.0 x.1.0 x.1.1) (pair_by 32 site_of (pair_by 32 number_of text_of) bs) ≡ Some l
    → IsLine (command word bs) l
text_found word make is bs l e =
    let m = mapped_some _ (pair_by 32 site_of (pair_by 32 number_of text_of) bs) l e in
    let h = site_place_and_text.from bs m.0 m.1 in
    let rest = h.4 in
    let fields = two_is h.1 rest.0 rest.1 (decimal m.0.1.0) (encode_utf8_all m.0.1.1) rest.2 rest.3.0 rest.4.0 in
    let spelled = two_is bs h.0 h.1 (decimal m.0.0) (two (decimal m.0.1.0) (encode_utf8_all m.0.1.1)) h.2 h.3.0 fields in
    subst (IsLine (command word bs)) m.2
    (subst (λ (t : List ℕ). IsLine (command word t) (make m.0.0 m.0.1.0 m.0.1.1)) (sym spelled)
    (is m.0.0 m.0.1.0 m.0.1.1 h.3.1 rest.3.1 rest.4.1 rest.4.2))

ins_found : (bs : List ℕ) (l : Line) → ins_row bs ≡ Some l → IsLine (command (codes "ins") bs) l
unfolding ins_row
ins_found = text_found (codes "ins") (λ s v t. Ins s v t) (λ s v t few low some ok. (refl, (few, low, some, ok)))

run_found : (bs : List ℕ) (l : Line) → run_row bs ≡ Some l → IsLine (command (codes "run") bs) l
unfolding run_row
run_found = text_found (codes "run") (λ s v t. Run s v t) (λ s v t few low some ok. (refl, (few, low, some, ok)))

-- a row of a site and bytes
octets_found : (word : List ℕ) (make : ℕ → List ℕ → Line)
    → ((site : ℕ) (bytes hex bs : List ℕ) → bs ≡ two (decimal site) hex → decode_of hex ≡ Ok bytes → site < SITES → 0 < length bytes
    → IsBytes bytes → IsLine (command word bs) (make site bytes))
    → (bs : List ℕ) (l : Line) → option_map (λ (x : ℕ × List ℕ). make x.0 x.1) (pair_by 32 site_of octets_of bs) ≡ Some l
    → IsLine (command word bs) l
octets_found word make is bs l e =
    let m = mapped_some _ (pair_by 32 site_of octets_of bs) l e in
    let h = site_and_octets.from bs m.0 m.1 in
    let spelled = two_is bs h.0 h.1 (decimal m.0.0) h.1 h.2 h.3.0 refl in
    let ok = decode_of-ok h.1 m.0.1 h.4.0 in
    subst (IsLine (command word bs)) m.2 (is m.0.0 m.0.1 h.1 bs spelled h.4.0 h.3.1 h.4.1 ok.3)

raw_found : (bs : List ℕ) (l : Line) → raw_row bs ≡ Some l → IsLine (command (codes "raw") bs) l
unfolding raw_row
raw_found =
    octets_found (codes "raw") (λ s b. Raw s b)
    (λ s b hex bs spelled ok few some are. ((hex, ap (command (codes "raw")) spelled, ok), (few, some, are)))

raw2_found : (bs : List ℕ) (l : Line) → raw2_row bs ≡ Some l → IsLine (command (codes "raw2") bs) l
unfolding raw2_row
raw2_found =
    octets_found (codes "raw2") (λ s b. Raw2 s b)
    (λ s b hex bs spelled ok few some are. ((hex, ap (command (codes "raw2")) spelled, ok), (few, some, are)))

-- every row of the list reads what is spelled by its word and the fields
AllFound : List Row → Type 0
AllFound [] = Unit {0}
AllFound (r ∷ rs) = Found r × AllFound rs

table_found : AllFound table
unfolding AllFound Found
table_found = (
  ins_found,
  (
    run_found,
    (
      raw_found,
      (
        raw2_found,
        (
          sites_found,
          (nl_found, (del_found, (undo_found, (redo_found, (give_found, (all_found, (show_found, (state_found, tt)))))))),
        ),
      ),
    ),
  ),
)

row_found : (rs : List Row) → AllFound rs → (word fields : List ℕ) (l : Line) → row_in rs word fields ≡ Some l
    → IsLine (command word fields) l
unfolding AllFound Found
row_found [] all word fields l e = cc
row_found (r ∷ rs) all word fields l e =
    cond_both (bytes_eq word r.0) (r.1 fields) (row_in rs word fields) (λ o. o ≡ Some l → IsLine (command word fields) l)
    (λ t read. subst (λ w. IsLine (command w fields) l) (sym ((bytes_eq-Decides word r.0).0 t)) (all.0 fields l read))
    (λ t read. row_found rs all.1 word fields l read)
    e

pub line_found : (bs : List ℕ) (l : Line) → line_in bs ≡ Some l → IsLine bs l
unfolding line_in
line_found [] l e = subst (IsLine []) (some_is Blank l e) (inl refl, tt)
line_found (b ∷ bs) l e =
    cond_both (b == 35) _ _ (λ o. o ≡ Some l → IsLine (b ∷ bs) l)
    (λ t read. subst (IsLine (b ∷ bs)) (some_is Blank l read) (inr (bs, ap (λ y. y ∷ bs) (eqb-true b 35 t)), tt))
    (λ t. cond_both (bytes_eq (b ∷ bs) (codes "sync")) _ _ (λ o. o ≡ Some l → IsLine (b ∷ bs) l)
    (λ t read. subst (IsLine (b ∷ bs)) (some_is Sync l read) ((bytes_eq-Decides (b ∷ bs) (codes "sync")).0 t, tt))
    (λ t read.
    let p = and_then_some (cut 32 (b ∷ bs)) _ l read in
    subst (λ xs. IsLine xs l) (sym (cut_some 32 (b ∷ bs) p.0 p.1)) (row_found table table_found p.0.0 p.0.1 l p.2)))
    e

pub line_only : (bs : List ℕ) (l : Line) → IsLine bs l → line_in bs ≡ Some l
unfolding line_in cut sites_row ins_row run_row nl_row del_row undo_row redo_row give_row all_row raw_row raw2_row show_row state_row
line_only bs Blank (inl e, r) = rw e refl
line_only bs Blank (inr h, r) = rw h.1 refl
line_only bs (Sites count) (e, r) = ap line_in e ∙ ap (option_map (λ n. Sites n)) (count_reads.to (decimal count) count (refl, r.0, r.1))
line_only bs (Nl site place) (e, r) =
    ap line_in e ∙ ap (option_map (λ (x : ℕ × ℕ). Nl x.0 x.1))
    (site_and_number.to _ (site, place) (decimal site, decimal place, refl, (refl, r.0), (refl, r.1)))
line_only bs (Del site place) (e, r) =
    ap line_in e ∙ ap (option_map (λ (x : ℕ × ℕ). Del x.0 x.1))
    (site_and_number.to _ (site, place) (decimal site, decimal place, refl, (refl, r.0), (refl, r.1)))
line_only bs (Give site message) (e, r) =
    ap line_in e ∙ ap (option_map (λ (x : ℕ × ℕ). Give x.0 x.1))
    (site_and_number.to _ (site, message) (decimal site, decimal message, refl, (refl, r.0), (refl, r.1)))
line_only bs (Undo site name) (e, r) =
    ap line_in e ∙ ap (option_map (λ (x : ℕ × NameData). Undo x.0 x.1))
    (site_and_name.to _ (site, name) (decimal site, name_text name, refl, (refl, r.0), (refl, r.1)))
line_only bs (Redo site name) (e, r) =
    ap line_in e ∙ ap (option_map (λ (x : ℕ × NameData). Redo x.0 x.1))
    (site_and_name.to _ (site, name) (decimal site, name_text name, refl, (refl, r.0), (refl, r.1)))
line_only bs (All site) (e, r) = ap line_in e ∙ ap (option_map (λ n. All n)) (site_reads.to (decimal site) site (refl, r))
line_only bs (Show site) (e, r) = ap line_in e ∙ ap (option_map (λ n. Show n)) (site_reads.to (decimal site) site (refl, r))
line_only bs (State site) (e, r) = ap line_in e ∙ ap (option_map (λ n. State n)) (site_reads.to (decimal site) site (refl, r))
line_only bs (Ins site place text) (e, r) =
    let fields : List ℕ = two (decimal place) (encode_utf8_all text) in
    ap line_in e ∙ ap (option_map (λ (x : ℕ × (ℕ × List ℕ)). Ins x.0 x.1.0 x.1.1))
    (site_place_and_text.to _ (site, (place, text))
    (decimal site, fields, refl, (refl, r.0), (decimal place, encode_utf8_all text, refl, (refl, r.1), (refl, r.2, r.3))))
line_only bs (Run site place text) (e, r) =
    let fields : List ℕ = two (decimal place) (encode_utf8_all text) in
    ap line_in e ∙ ap (option_map (λ (x : ℕ × (ℕ × List ℕ)). Run x.0 x.1.0 x.1.1))
    (site_place_and_text.to _ (site, (place, text))
    (decimal site, fields, refl, (refl, r.0), (decimal place, encode_utf8_all text, refl, (refl, r.1), (refl, r.2, r.3))))
line_only bs Sync (e, r) = rw e refl
line_only bs (Raw site bytes) (h, r) =
    ap line_in h.1 ∙ ap (option_map (λ (x : ℕ × List ℕ). Raw x.0 x.1))
    (site_and_octets.to _ (site, bytes) (decimal site, h.0, refl, (refl, r.0), (h.2, r.1)))
line_only bs (Raw2 site bytes) (h, r) =
    ap line_in h.1 ∙ ap (option_map (λ (x : ℕ × List ℕ). Raw2 x.0 x.1))
    (site_and_octets.to _ (site, bytes) (decimal site, h.0, refl, (refl, r.0), (h.2, r.1)))

-- the clauses of the call, from its answer
pub answers_line : (bs text : List ℕ) (r : Result Line LineBad) → length bs ≤ LONGEST → (text ≡ bs) × IsUtf8 bs
    → LineAnswers r (line_in text) → Answers bs r
answers_line bs text (Ok l) short t h = ((short, t.1), ap line_in (sym t.0) ∙ h)
answers_line bs text (Err Form) short t h = ((short, t.1), ap line_in (sym t.0) ∙ h)
answers_line bs text (Err Memory) short t h = ((short, t.1), subst (λ (o : Option Line). IsSomeAnd o HasContent) (ap line_in t.0) h)
answers_line bs text (Err Limit) short t h = absurd h
answers_line bs text (Err Long) short t h = absurd h
answers_line bs text (Err Utf8) short t h = absurd h

pub answers_found : (bs : List ℕ) (r : Result Line LineBad) → Answers bs r → IfOk r (λ l. IsText bs × IsLine bs l)
answers_found bs (Ok l) h = (h.0, line_found bs l h.1)
answers_found bs (Err e) h = tt

pub answers_only : (bs : List ℕ) (r : Result Line LineBad) → Answers bs r → (l : Line) → IsText bs → IsLine bs l → IsReadAs r l
answers_only bs (Ok k) h l text is = some_is k l (sym h.1 ∙ line_only bs l is)
answers_only bs (Err Form) h l text is = let e : None ≡ Some l = sym h.1 ∙ line_only bs l is in cc
answers_only bs (Err Memory) h l text is = tt
answers_only bs (Err Limit) h l text is = absurd h
answers_only bs (Err Long) h l text is = absurd (omega arith)
answers_only bs (Err Utf8) h l text is = absurd (h.1 text.1)

pub answers_form : (bs : List ℕ) (r : Result Line LineBad) → Answers bs r → r ≡ Err Form → IsText bs × ((l : Line) → IsLine bs l → ⊥)
answers_form bs (Ok k) h e = cc
answers_form bs (Err Form) h e = (h.0, λ l is. let f : None ≡ Some l = sym h.1 ∙ line_only bs l is in cc)
answers_form bs (Err Memory) h e = cc
answers_form bs (Err Limit) h e = absurd h
answers_form bs (Err Long) h e = cc
answers_form bs (Err Utf8) h e = cc

content_of : (bs : List ℕ) (o : Option Line) → line_in bs ≡ o → IsSomeAnd o HasContent → (l : Line) × IsLine bs l × HasContent l
content_of bs None e h = absurd h
content_of bs (Some l) e h = (l, line_found bs l e, h)

pub answers_memory : (bs : List ℕ) (r : Result Line LineBad) → Answers bs r → r ≡ Err Memory
    → (l : Line) × IsText bs × IsLine bs l × HasContent l
answers_memory bs (Ok k) h e = cc
answers_memory bs (Err Form) h e = cc
answers_memory bs (Err Memory) h e = let c = content_of bs (line_in bs) refl h.1 in (c.0, h.0, c.1, c.2)
answers_memory bs (Err Limit) h e = absurd h
answers_memory bs (Err Long) h e = cc
answers_memory bs (Err Utf8) h e = cc

-- each line in range has a spelling, and no bytes are two lines
pub spelling_is : (l : Line) → IsInRange l → IsLine (spelling l) l
spelling_is Blank r = (inl refl, r)
spelling_is (Raw site bytes) r = ((encode_lower bytes, refl, decode_of-encode_lower bytes r.2), r)
spelling_is (Raw2 site bytes) r = ((encode_lower bytes, refl, decode_of-encode_lower bytes r.2), r)
spelling_is (Sites count) r = (refl, r)
spelling_is (Ins site place text) r = (refl, r)
spelling_is (Run site place text) r = (refl, r)
spelling_is (Nl site place) r = (refl, r)
spelling_is (Del site place) r = (refl, r)
spelling_is (Undo site name) r = (refl, r)
spelling_is (Redo site name) r = (refl, r)
spelling_is (Give site message) r = (refl, r)
spelling_is (All site) r = (refl, r)
spelling_is Sync r = (refl, r)
spelling_is (Show site) r = (refl, r)
spelling_is (State site) r = (refl, r)

pub one_line : (bs : List ℕ) (k l : Line) → IsLine bs k → IsLine bs l → k ≡ l
one_line bs k l x y = some_is k l (sym (line_only bs k x) ∙ line_only bs l y)

-- each spelling is UTF-8
abbrev all_low : List ℕ → Bool
all_low [] = true
all_low (b ∷ bs) = nat_lt b 128 && all_low bs

low_ascii : (bs : List ℕ) → all_low bs ≡ true → IsAscii bs
low_ascii [] t = IsAscii-nil
low_ascii (b ∷ bs) t = let p = and_parts (nat_lt b 128) (all_low bs) t in IsAscii-cons b bs (ltb-true b 128 p.0) (low_ascii bs p.1)

word_utf8 : (word : List ℕ) → all_low word ≡ true → IsUtf8 word
word_utf8 word t = IsUtf8-from_ascii word (low_ascii word t)

number_utf8 : (n : ℕ) → n < 2 ^ 64 → IsUtf8 (decimal n)
number_utf8 n h = IsUtf8-from_ascii (decimal n) (IsAscii-decimal n h)

then_utf8 : (c : ℕ) (first second : List ℕ) → c < 128 → IsUtf8 first → IsUtf8 second → IsUtf8 (first ++ c ∷ second)
then_utf8 c first second h x y =
    IsUtf8-append first (c ∷ second) x (IsUtf8-append (c ∷ []) second (IsUtf8-from_ascii (c ∷ []) (IsAscii-cons c [] h IsAscii-nil)) y)

blank_utf8 : (first second : List ℕ) → IsUtf8 first → IsUtf8 second → IsUtf8 (first ++ 32 ∷ second)
blank_utf8 first second x y = then_utf8 32 first second (omega arith) x y

name_utf8 : (n : NameData) → IsName n.site n.number → IsUtf8 (name_text n)
name_utf8 n h =
    then_utf8 46 (decimal n.site) (decimal n.number) (omega arith) (number_utf8 n.site (omega (arith, h.0)))
    (number_utf8 n.number (omega (arith, h.2)))

lower_ascii : IsAscii lower_digits
lower_ascii = low_ascii lower_digits refl

octets_utf8 : (word : List ℕ) → all_low word ≡ true → (site : ℕ) (bytes : List ℕ) → site < SITES
    → IsUtf8 (command word (two (decimal site) (encode_lower bytes)))
octets_utf8 word low site bytes few =
    blank_utf8 _ _ (word_utf8 word low) (blank_utf8 _ _ (number_utf8 site (omega (arith, few)))
    (IsUtf8-from_ascii (encode_lower bytes) (IsAscii-encode_with lower_digits bytes lower_ascii)))

pub spelling_utf8 : (l : Line) → IsInRange l → IsUtf8 (spelling l)
spelling_utf8 Blank r = IsUtf8-nil
spelling_utf8 (Sites count) r = blank_utf8 _ _ (word_utf8 (codes "sites") refl) (number_utf8 count (omega arith))
spelling_utf8 (Ins site place text) r =
    blank_utf8 _ _ (word_utf8 (codes "ins") refl) (blank_utf8 _ _ (number_utf8 site (omega arith))
    (blank_utf8 _ _ (number_utf8 place (omega arith)) (text, (r.3, refl))))
spelling_utf8 (Run site place text) r =
    blank_utf8 _ _ (word_utf8 (codes "run") refl) (blank_utf8 _ _ (number_utf8 site (omega arith))
    (blank_utf8 _ _ (number_utf8 place (omega arith)) (text, (r.3, refl))))
spelling_utf8 (Nl site place) r =
    blank_utf8 _ _ (word_utf8 (codes "nl") refl) (blank_utf8 _ _ (number_utf8 site (omega arith)) (number_utf8 place (omega arith)))
spelling_utf8 (Del site place) r =
    blank_utf8 _ _ (word_utf8 (codes "del") refl) (blank_utf8 _ _ (number_utf8 site (omega arith)) (number_utf8 place (omega arith)))
spelling_utf8 (Give site message) r =
    blank_utf8 _ _ (word_utf8 (codes "give") refl) (blank_utf8 _ _ (number_utf8 site (omega arith)) (number_utf8 message (omega arith)))
spelling_utf8 (Undo site name) r =
    blank_utf8 _ _ (word_utf8 (codes "undo") refl) (blank_utf8 _ _ (number_utf8 site (omega arith)) (name_utf8 name r.1))
spelling_utf8 (Redo site name) r =
    blank_utf8 _ _ (word_utf8 (codes "redo") refl) (blank_utf8 _ _ (number_utf8 site (omega arith)) (name_utf8 name r.1))
spelling_utf8 (All site) r = blank_utf8 _ _ (word_utf8 (codes "all") refl) (number_utf8 site (omega arith))
spelling_utf8 (Show site) r = blank_utf8 _ _ (word_utf8 (codes "show") refl) (number_utf8 site (omega arith))
spelling_utf8 (State site) r = blank_utf8 _ _ (word_utf8 (codes "state") refl) (number_utf8 site (omega arith))
spelling_utf8 Sync r = word_utf8 (codes "sync") refl
spelling_utf8 (Raw site bytes) r = octets_utf8 (codes "raw") refl site bytes r.0
spelling_utf8 (Raw2 site bytes) r = octets_utf8 (codes "raw2") refl site bytes r.0
