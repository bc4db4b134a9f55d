-- Words are read as a command exactly where they spell it.
use Rattle.std.proofs.Common.{◌≡◌, ℕ, Bool, true, false, List, [], ◌∷◌, length, codes, bytes_eq, decimal, map, string_bytes, String, Option, Some, None, refl, sym, ap, ◌∙◌, subst, option_map, ◌==◌, ◌<◌, ◌≤◌, ◌^◌, ◌&&◌, nat_le, leb-true, le-leb, eq-eqb, ne_eqb, arith}
use Rattle.std.specs.Prelude.{IfSome, is_some, if◌then◌else◌}
use Rattle.std.proofs.lemmas.Bool.{cond_both, and_parts, true≢false}
use Rattle.std.proofs.lemmas.Slice.Eq.{bytes_eq-Decides}
use Rattle.context_vector.specs.Contexts.{ContextData}
use Rattle.site_answers.specs.Names.{name_text, member_text, group_text}
use Rattle.script_text.specs.Fields.{number_of, long_of, site_of, name_of, member_of}
use Rattle.script_text.specs.Report.{listed, count_text}
use Rattle.script_text.specs.Sets.{set_of, set_or_empty}
use Rattle.script_text.proofs.CallerLemmas.{set_from, set_some, set_to, long_reads, number_reads, site_reads, name_reads, member_reads, and_then_some, some_is}
use Rattle.session_replay.specs.declared.generator.TheConstants.{MAX_EVENTS, MAX_WINDOW}
use Rattle.log_replies.specs.Editing.{EditData, Ins, Run, Nl, Del, Undo, Redo}
use Rattle.cotpad_run.specs.declared.command.Command.{Command}
use Rattle.cotpad_run.specs.declared.command.TheConstants.{MAX_PORT}
use Rattle.cotpad_run.specs.Commands.{CommandData, Replay, Show, Edit, Upgrade, History, Digest, Gen, Explain, Where, Find, At, Playback, Serve, Join, Loop, Help, DashedHelp, Version, DashedVersion, command_data}
use Rattle.cotpad_run.specs.Words.{edit_words, command_words, IsEditInRange, IsPort, IsInRange, Spells}
use Rattle.cotpad_run.specs.Code.Reading.{first_in, one_in, alone_in, text_in, placed_in, nl_in, del_in, undo_in, redo_in, edit_row, edit_in, gen_in, gen_of, explain_in, where_in, find_in, at_in, port_of, port_in, loop_in, command_row, command_in}

first_some : (ws : List (List ℕ)) (p : List ℕ × List (List ℕ)) → first_in ws ≡ Some p → ws ≡ p.0 ∷ p.1
first_some [] p e = cc
first_some (w ∷ ws) p e = ap (λ (q : List ℕ × List (List ℕ)). q.0 ∷ q.1) (some_is (w, ws) p e)

one_some : (ws : List (List ℕ)) (w : List ℕ) → one_in ws ≡ Some w → ws ≡ w ∷ []
one_some [] w e = cc
one_some (v ∷ []) w e = ap (λ x. x ∷ []) (some_is v w e)
one_some (v ∷ (u ∷ us)) w e = cc

alone_some : (c d : CommandData) (ws : List (List ℕ)) → alone_in c ws ≡ Some d → (ws ≡ []) × (c ≡ d)
alone_some c d [] e = (refl, some_is c d e)
alone_some c d (w ∷ ws) e = cc

text_some : (w t : List ℕ) → text_in w ≡ Some t → (w ≡ t) × (t ≡ [] → ⊥)
text_some w t e =
    cond_both (length w == 0) None (Some w) (λ o. o ≡ Some t → (w ≡ t) × (t ≡ [] → ⊥)) (λ z h. cc)
    (λ z h. (some_is w t h, λ n. true≢false (sym (eq-eqb (length w) 0 (ap length (some_is w t h ∙ n))) ∙ z)))
    e

text_to : (t : List ℕ) → (t ≡ [] → ⊥) → text_in t ≡ Some t
text_to [] some = absurd (some refl)
text_to (c ∷ cs) some = rw (ne_eqb (length (c ∷ cs)) 0 (λ e. absurd (omega arith))) refl

-- the words are those of the edit, whose parts are in range
IsEdit : List (List ℕ) → EditData → Type 0
IsEdit ws e = (ws ≡ edit_words e) × IsEditInRange e

mapped_from : {X Y : Type 0} (make : X → Y) (o : Option X) (y : Y) → option_map make o ≡ Some y → (x : X) × (o ≡ Some x) × (make x ≡ y)
mapped_from make None y h = cc
mapped_from make (Some x) y h = (x, refl, some_is (make x) y h)

-- a place and a text that isn't empty
placed_from : (parts : List (List ℕ)) (at : ℕ × List ℕ) → placed_in parts ≡ Some at
    → (parts ≡ decimal at.0 ∷ at.1 ∷ []) × ((at.0 < 2 ^ 32) × (at.1 ≡ [] → ⊥))
unfolding placed_in
placed_from parts at h =
    let p = and_then_some (first_in parts) _ at h in
    let v = and_then_some (number_of p.0.0) _ at p.2 in
    let w = and_then_some (one_in p.0.1) _ at v.2 in
    let t = and_then_some (text_in w.0) _ at w.2 in
    let number = number_reads.from p.0.0 v.0 v.1 in
    let text = text_some w.0 t.0 t.1 in
    let spelled : parts ≡ decimal v.0 ∷ t.0 ∷ [] =
    first_some parts p.0 p.1 ∙ ap (λ x. x ∷ p.0.1) number.0
    ∙ ap (λ xs. decimal v.0 ∷ xs) (one_some p.0.1 w.0 w.1 ∙ ap (λ x. x ∷ []) text.0) in
    subst (λ (x : ℕ × List ℕ). (parts ≡ decimal x.0 ∷ x.1 ∷ []) × ((x.0 < 2 ^ 32) × (x.1 ≡ [] → ⊥))) (some_is (v.0, t.0) at t.2)
    (spelled, (number.1, text.1))

ins_from : (parts : List (List ℕ)) (e : EditData) → option_map (λ p. Ins p.0 p.1) (placed_in parts) ≡ Some e
    → IsEdit (codes "ins" ∷ parts) e
unfolding IsEdit
ins_from parts e h =
    let p = mapped_from (λ (p : ℕ × List ℕ). Ins p.0 p.1) (placed_in parts) e h in
    let at = placed_from parts p.0 p.1 in
    subst (λ x. (codes "ins" ∷ parts ≡ edit_words x) × IsEditInRange x) p.2 (ap (λ xs. codes "ins" ∷ xs) at.0, at.1)

run_from : (parts : List (List ℕ)) (e : EditData) → option_map (λ p. Run p.0 p.1) (placed_in parts) ≡ Some e
    → IsEdit (codes "run" ∷ parts) e
unfolding IsEdit
run_from parts e h =
    let p = mapped_from (λ (p : ℕ × List ℕ). Run p.0 p.1) (placed_in parts) e h in
    let at = placed_from parts p.0 p.1 in
    subst (λ x. (codes "run" ∷ parts ≡ edit_words x) × IsEditInRange x) p.2 (ap (λ xs. codes "run" ∷ xs) at.0, at.1)

nl_from : (parts : List (List ℕ)) (e : EditData) → nl_in parts ≡ Some e → IsEdit (codes "nl" ∷ parts) e
unfolding nl_in IsEdit
nl_from parts e h =
    let w = and_then_some (one_in parts) _ e h in
    let v = and_then_some (number_of w.0) _ e w.2 in
    let number = number_reads.from w.0 v.0 v.1 in
    let spelled : parts ≡ decimal v.0 ∷ [] = one_some parts w.0 w.1 ∙ ap (λ x. x ∷ []) number.0 in
    subst (λ x. (codes "nl" ∷ parts ≡ edit_words x) × IsEditInRange x) (some_is (Nl v.0) e v.2)
    (ap (λ xs. codes "nl" ∷ xs) spelled, number.1)

del_from : (parts : List (List ℕ)) (e : EditData) → del_in parts ≡ Some e → IsEdit (codes "del" ∷ parts) e
unfolding del_in IsEdit
del_from parts e h =
    let w = and_then_some (one_in parts) _ e h in
    let v = and_then_some (number_of w.0) _ e w.2 in
    let number = number_reads.from w.0 v.0 v.1 in
    let spelled : parts ≡ decimal v.0 ∷ [] = one_some parts w.0 w.1 ∙ ap (λ x. x ∷ []) number.0 in
    subst (λ x. (codes "del" ∷ parts ≡ edit_words x) × IsEditInRange x) (some_is (Del v.0) e v.2)
    (ap (λ xs. codes "del" ∷ xs) spelled, number.1)

undo_from : (parts : List (List ℕ)) (e : EditData) → undo_in parts ≡ Some e → IsEdit (codes "undo" ∷ parts) e
unfolding undo_in IsEdit
undo_from parts e h =
    let w = and_then_some (one_in parts) _ e h in
    let v = and_then_some (name_of w.0) _ e w.2 in
    let name = name_reads.from w.0 v.0 v.1 in
    let spelled : parts ≡ name_text v.0 ∷ [] = one_some parts w.0 w.1 ∙ ap (λ x. x ∷ []) name.0 in
    subst (λ x. (codes "undo" ∷ parts ≡ edit_words x) × IsEditInRange x) (some_is (Undo v.0) e v.2)
    (ap (λ xs. codes "undo" ∷ xs) spelled, name.1)

redo_from : (parts : List (List ℕ)) (e : EditData) → redo_in parts ≡ Some e → IsEdit (codes "redo" ∷ parts) e
unfolding redo_in IsEdit
redo_from parts e h =
    let w = and_then_some (one_in parts) _ e h in
    let v = and_then_some (name_of w.0) _ e w.2 in
    let name = name_reads.from w.0 v.0 v.1 in
    let spelled : parts ≡ name_text v.0 ∷ [] = one_some parts w.0 w.1 ∙ ap (λ x. x ∷ []) name.0 in
    subst (λ x. (codes "redo" ∷ parts ≡ edit_words x) × IsEditInRange x) (some_is (Redo v.0) e v.2)
    (ap (λ xs. codes "redo" ∷ xs) spelled, name.1)

-- a row of this word, or those after it
row_or : {X : Type 0} (P : List (List ℕ) → X → Type 0) (word own : List ℕ) (parts : List (List ℕ)) (x : X) (row others : Option X)
    → (row ≡ Some x → P (own ∷ parts) x) → (others ≡ Some x → P (word ∷ parts) x)
    → (if bytes_eq word own then row else others) ≡ Some x → P (word ∷ parts) x
row_or P word own parts x row others here there e =
    cond_both (bytes_eq word own) row others (λ o. o ≡ Some x → P (word ∷ parts) x)
    (λ t read. subst (λ w. P (w ∷ parts) x) (sym ((bytes_eq-Decides word own).0 t)) (here read))
    (λ t read. there read)
    e

edit_from : (word : List ℕ) (parts : List (List ℕ)) (e : EditData) → edit_row word parts ≡ Some e → IsEdit (word ∷ parts) e
unfolding edit_row
edit_from word parts e h =
    row_or IsEdit word (codes "ins") parts e _ _ (ins_from parts e)
    (row_or IsEdit word (codes "run") parts e _ _ (run_from parts e)
    (row_or IsEdit word (codes "nl") parts e (nl_in parts) _ (nl_from parts e)
    (row_or IsEdit word (codes "del") parts e (del_in parts) _ (del_from parts e)
    (row_or IsEdit word (codes "undo") parts e (undo_in parts) _ (undo_from parts e)
    (row_or IsEdit word (codes "redo") parts e (redo_in parts) None (redo_from parts e) (λ never. cc))))))
    h

-- the words are those of the command, whose parts are in range
IsCommand : List (List ℕ) → CommandData → Type 0
IsCommand ws c = (ws ≡ command_words c) × IsInRange c

editing_from : (parts : List (List ℕ)) (c : CommandData) → edit_in parts ≡ Some c → IsCommand (codes "edit" ∷ parts) c
unfolding edit_in IsCommand IsEdit
editing_from parts c h =
    let p = and_then_some (first_in parts) _ c h in
    let s = and_then_some (site_of p.0.0) _ c p.2 in
    let q = and_then_some (first_in p.0.1) _ c s.2 in
    let e = and_then_some (edit_row q.0.0 q.0.1) _ c q.2 in
    let site = site_reads.from p.0.0 s.0 s.1 in
    let edit = edit_from q.0.0 q.0.1 e.0 e.1 in
    let spelled : parts ≡ decimal s.0 ∷ edit_words e.0 =
    first_some parts p.0 p.1 ∙ ap (λ x. x ∷ p.0.1) site.0 ∙ ap (λ xs. decimal s.0 ∷ xs) (first_some p.0.1 q.0 q.1 ∙ edit.0) in
    subst (λ x. (codes "edit" ∷ parts ≡ command_words x) × IsInRange x) (some_is (Edit s.0 e.0) c e.2)
    (ap (λ xs. codes "edit" ∷ xs) spelled, (site.1, edit.1))

upgrade_from : (parts : List (List ℕ)) (c : CommandData) → alone_in Upgrade parts ≡ Some c → IsCommand (codes "upgrade" ∷ parts) c
unfolding IsCommand
upgrade_from parts c h =
    let a = alone_some Upgrade c parts h in
    subst (λ x. (codes "upgrade" ∷ parts ≡ command_words x) × IsInRange x) a.1 (ap (λ xs. codes "upgrade" ∷ xs) a.0, tt)

history_from : (parts : List (List ℕ)) (c : CommandData) → alone_in History parts ≡ Some c → IsCommand (codes "history" ∷ parts) c
unfolding IsCommand
history_from parts c h =
    let a = alone_some History c parts h in
    subst (λ x. (codes "history" ∷ parts ≡ command_words x) × IsInRange x) a.1 (ap (λ xs. codes "history" ∷ xs) a.0, tt)

digest_from : (parts : List (List ℕ)) (c : CommandData) → alone_in Digest parts ≡ Some c → IsCommand (codes "digest" ∷ parts) c
unfolding IsCommand
digest_from parts c h =
    let a = alone_some Digest c parts h in
    subst (λ x. (codes "digest" ∷ parts ≡ command_words x) × IsInRange x) a.1 (ap (λ xs. codes "digest" ∷ xs) a.0, tt)

gen_of_some : (start events window : ℕ) (c : CommandData) → gen_of start events window ≡ Some c
    → (events ≤ MAX_EVENTS) × (1 ≤ window) × (window ≤ MAX_WINDOW) × (Gen start events window ≡ c)
gen_of_some start events window c h =
    cond_both (nat_le events MAX_EVENTS && (nat_le 1 window && nat_le window MAX_WINDOW)) (Some (Gen start events window)) None
    (λ o. o ≡ Some c → (events ≤ MAX_EVENTS) × (1 ≤ window) × (window ≤ MAX_WINDOW) × (Gen start events window ≡ c))
    (λ t e.
    let p = and_parts (nat_le events MAX_EVENTS) (nat_le 1 window && nat_le window MAX_WINDOW) t in
    let q = and_parts (nat_le 1 window) (nat_le window MAX_WINDOW) p.1 in
    (leb-true _ _ p.0, leb-true _ _ q.0, leb-true _ _ q.1, some_is (Gen start events window) c e))
    (λ t e. cc)
    h

gen_from : (parts : List (List ℕ)) (c : CommandData) → gen_in parts ≡ Some c → IsCommand (codes "gen" ∷ parts) c
unfolding gen_in IsCommand
gen_from parts c h =
    let p = and_then_some (first_in parts) _ c h in
    let s = and_then_some (long_of p.0.0) _ c p.2 in
    let q = and_then_some (first_in p.0.1) _ c s.2 in
    let e = and_then_some (number_of q.0.0) _ c q.2 in
    let w = and_then_some (one_in q.0.1) _ c e.2 in
    let v = and_then_some (number_of w.0) _ c w.2 in
    let start = long_reads.from p.0.0 s.0 s.1 in
    let events = number_reads.from q.0.0 e.0 e.1 in
    let window = number_reads.from w.0 v.0 v.1 in
    let parts_in = gen_of_some s.0 e.0 v.0 c v.2 in
    let spelled : parts ≡ decimal s.0 ∷ decimal e.0 ∷ decimal v.0 ∷ [] =
    first_some parts p.0 p.1 ∙ ap (λ x. x ∷ p.0.1) start.0
    ∙ ap (λ xs. decimal s.0 ∷ xs) (first_some p.0.1 q.0 q.1 ∙ ap (λ x. x ∷ q.0.1) events.0
    ∙ ap (λ xs. decimal e.0 ∷ xs) (one_some q.0.1 w.0 w.1 ∙ ap (λ x. x ∷ []) window.0)) in
    subst (λ x. (codes "gen" ∷ parts ≡ command_words x) × IsInRange x) parts_in.3
    (ap (λ xs. codes "gen" ∷ xs) spelled, (start.1, parts_in.0, parts_in.1, parts_in.2))

explain_from : (parts : List (List ℕ)) (c : CommandData) → explain_in parts ≡ Some c → IsCommand (codes "explain" ∷ parts) c
unfolding explain_in IsCommand
explain_from parts c h =
    let w = and_then_some (one_in parts) _ c h in
    let m = and_then_some (member_of w.0) _ c w.2 in
    let member = member_reads.from w.0 m.0 m.1 in
    let spelled : parts ≡ member_text m.0 ∷ [] = one_some parts w.0 w.1 ∙ ap (λ x. x ∷ []) member.0 in
    subst (λ x. (codes "explain" ∷ parts ≡ command_words x) × IsInRange x) (some_is (Explain m.0) c m.2)
    (ap (λ xs. codes "explain" ∷ xs) spelled, member.1)

where_from : (parts : List (List ℕ)) (c : CommandData) → where_in parts ≡ Some c → IsCommand (codes "where" ∷ parts) c
unfolding where_in IsCommand
where_from parts c h =
    let w = and_then_some (one_in parts) _ c h in
    let v = and_then_some (number_of w.0) _ c w.2 in
    let place = number_reads.from w.0 v.0 v.1 in
    let spelled : parts ≡ decimal v.0 ∷ [] = one_some parts w.0 w.1 ∙ ap (λ x. x ∷ []) place.0 in
    subst (λ x. (codes "where" ∷ parts ≡ command_words x) × IsInRange x) (some_is (Where v.0) c v.2)
    (ap (λ xs. codes "where" ∷ xs) spelled, place.1)

find_from : (parts : List (List ℕ)) (c : CommandData) → find_in parts ≡ Some c → IsCommand (codes "find" ∷ parts) c
unfolding find_in IsCommand
find_from parts c h =
    let p = and_then_some (first_in parts) _ c h in
    let l = and_then_some (number_of p.0.0) _ c p.2 in
    let w = and_then_some (one_in p.0.1) _ c l.2 in
    let v = and_then_some (number_of w.0) _ c w.2 in
    let line = number_reads.from p.0.0 l.0 l.1 in
    let column = number_reads.from w.0 v.0 v.1 in
    let spelled : parts ≡ decimal l.0 ∷ decimal v.0 ∷ [] =
    first_some parts p.0 p.1 ∙ ap (λ x. x ∷ p.0.1) line.0
    ∙ ap (λ xs. decimal l.0 ∷ xs) (one_some p.0.1 w.0 w.1 ∙ ap (λ x. x ∷ []) column.0) in
    subst (λ x. (codes "find" ∷ parts ≡ command_words x) × IsInRange x) (some_is (Find l.0 v.0) c v.2)
    (ap (λ xs. codes "find" ∷ xs) spelled, (line.1, column.1))

-- two lists that spell a set are read as it, and others aren't read
pub set_read : (counts groups : List ℕ) (r : Bool) → r ≡ is_some (set_of counts groups) → r ≡ true
    → set_of counts groups ≡ Some (set_or_empty counts groups)
set_read counts groups r told t = set_some counts groups (sym t ∙ told)

pub set_unread : (counts groups : List ℕ) (r : Bool) → r ≡ is_some (set_of counts groups) → r ≡ false → set_of counts groups ≡ None
set_unread counts groups r told f = by (set_of counts groups) (sym f ∙ told)
  where
    by : (o : Option ContextData) → false ≡ is_some o → o ≡ None
    by None e = refl
    by (Some c) e = cc

at_from : (parts : List (List ℕ)) (c : CommandData) → at_in parts ≡ Some c → IsCommand (codes "at" ∷ parts) c
unfolding at_in IsCommand
at_from parts c h =
    let p = and_then_some (first_in parts) _ c h in
    let w = and_then_some (one_in p.0.1) _ c p.2 in
    let s = and_then_some (set_of p.0.0 w.0) _ c w.2 in
    let is = set_from p.0.0 w.0 s.0 s.1 in
    let spelled : parts ≡ listed (map count_text s.0.counts) ∷ listed (map (λ e. group_text e.0 e.1) s.0.entries) ∷ [] =
    first_some parts p.0 p.1 ∙ ap (λ x. x ∷ p.0.1) is.counts
    ∙ ap (λ xs. listed (map count_text s.0.counts) ∷ xs) (one_some p.0.1 w.0 w.1 ∙ ap (λ x. x ∷ []) is.groups) in
    subst (λ x. (codes "at" ∷ parts ≡ command_words x) × IsInRange x) (some_is (At s.0) c s.2)
    (ap (λ xs. codes "at" ∷ xs) spelled, is.in_range)

port_of_some : (n p : ℕ) → port_of n ≡ Some p → IsPort p × (n ≡ p)
port_of_some n p h =
    cond_both (nat_le 1 n && nat_le n MAX_PORT) (Some n) None (λ o. o ≡ Some p → IsPort p × (n ≡ p))
    (λ t e.
    let is = some_is n p e in
    let both = and_parts (nat_le 1 n) (nat_le n MAX_PORT) t in
    (subst IsPort is (leb-true _ _ both.0, leb-true _ _ both.1), is))
    (λ t e. cc)
    h

-- the one word is a port
port_from : (parts : List (List ℕ)) (port : ℕ) → port_in parts ≡ Some port → (parts ≡ decimal port ∷ []) × IsPort port
unfolding port_in
port_from parts port h =
    let w = and_then_some (one_in parts) _ port h in
    let n = and_then_some (number_of w.0) _ port w.2 in
    let number = number_reads.from w.0 n.0 n.1 in
    let is = port_of_some n.0 port n.2 in
    (one_some parts w.0 w.1 ∙ ap (λ x. x ∷ []) (number.0 ∙ ap decimal is.1), is.0)

serve_from : (parts : List (List ℕ)) (c : CommandData) → option_map Serve (port_in parts) ≡ Some c → IsCommand (codes "serve" ∷ parts) c
unfolding IsCommand
serve_from parts c h =
    let p = mapped_from Serve (port_in parts) c h in
    let port = port_from parts p.0 p.1 in
    subst (λ x. (codes "serve" ∷ parts ≡ command_words x) × IsInRange x) p.2 (ap (λ xs. codes "serve" ∷ xs) port.0, port.1)

join_from : (parts : List (List ℕ)) (c : CommandData) → option_map Join (port_in parts) ≡ Some c → IsCommand (codes "join" ∷ parts) c
unfolding IsCommand
join_from parts c h =
    let p = mapped_from Join (port_in parts) c h in
    let port = port_from parts p.0 p.1 in
    subst (λ x. (codes "join" ∷ parts ≡ command_words x) × IsInRange x) p.2 (ap (λ xs. codes "join" ∷ xs) port.0, port.1)

loop_from : (parts : List (List ℕ)) (c : CommandData) → loop_in parts ≡ Some c → IsCommand (codes "loop" ∷ parts) c
unfolding loop_in IsCommand
loop_from parts c h =
    let w = and_then_some (one_in parts) _ c h in
    let s = and_then_some (long_of w.0) _ c w.2 in
    let start = long_reads.from w.0 s.0 s.1 in
    let spelled : parts ≡ decimal s.0 ∷ [] = one_some parts w.0 w.1 ∙ ap (λ x. x ∷ []) start.0 in
    subst (λ x. (codes "loop" ∷ parts ≡ command_words x) × IsInRange x) (some_is (Loop s.0) c s.2)
    (ap (λ xs. codes "loop" ∷ xs) spelled, start.1)

port_of_to : (port : ℕ) → IsPort port → port_of port ≡ Some port
port_of_to port in_range = rw (le-leb _ _ in_range.0, le-leb _ _ in_range.1) refl

port_to : (port : ℕ) → IsPort port → port_in (decimal port ∷ []) ≡ Some port
unfolding port_in
port_to port in_range = rw (number_reads.to (decimal port) port (refl, omega (arith, in_range.1))) (port_of_to port in_range)

gen_of_to : (start events window : ℕ) → events ≤ MAX_EVENTS → 1 ≤ window → window ≤ MAX_WINDOW
    → gen_of start events window ≡ Some (Gen start events window)
gen_of_to start events window few some small = rw (le-leb _ _ few, le-leb _ _ some, le-leb _ _ small) refl

replay_from : (parts : List (List ℕ)) (c : CommandData) → alone_in Replay parts ≡ Some c → IsCommand (codes "replay" ∷ parts) c
unfolding IsCommand
replay_from parts c h =
    let a = alone_some Replay c parts h in
    subst (λ x. (codes "replay" ∷ parts ≡ command_words x) × IsInRange x) a.1 (ap (λ xs. codes "replay" ∷ xs) a.0, tt)

show_from : (parts : List (List ℕ)) (c : CommandData) → alone_in Show parts ≡ Some c → IsCommand (codes "show" ∷ parts) c
unfolding IsCommand
show_from parts c h =
    let a = alone_some Show c parts h in
    subst (λ x. (codes "show" ∷ parts ≡ command_words x) × IsInRange x) a.1 (ap (λ xs. codes "show" ∷ xs) a.0, tt)

playback_from : (parts : List (List ℕ)) (c : CommandData) → alone_in Playback parts ≡ Some c → IsCommand (codes "playback" ∷ parts) c
unfolding IsCommand
playback_from parts c h =
    let a = alone_some Playback c parts h in
    subst (λ x. (codes "playback" ∷ parts ≡ command_words x) × IsInRange x) a.1 (ap (λ xs. codes "playback" ∷ xs) a.0, tt)

help_from : (parts : List (List ℕ)) (c : CommandData) → alone_in Help parts ≡ Some c → IsCommand (codes "help" ∷ parts) c
unfolding IsCommand
help_from parts c h =
    let a = alone_some Help c parts h in
    subst (λ x. (codes "help" ∷ parts ≡ command_words x) × IsInRange x) a.1 (ap (λ xs. codes "help" ∷ xs) a.0, tt)

dashed_help_from : (parts : List (List ℕ)) (c : CommandData) → alone_in DashedHelp parts ≡ Some c → IsCommand (codes "--help" ∷ parts) c
unfolding IsCommand
dashed_help_from parts c h =
    let a = alone_some DashedHelp c parts h in
    subst (λ x. (codes "--help" ∷ parts ≡ command_words x) × IsInRange x) a.1 (ap (λ xs. codes "--help" ∷ xs) a.0, tt)

version_from : (parts : List (List ℕ)) (c : CommandData) → alone_in Version parts ≡ Some c → IsCommand (codes "version" ∷ parts) c
unfolding IsCommand
version_from parts c h =
    let a = alone_some Version c parts h in
    subst (λ x. (codes "version" ∷ parts ≡ command_words x) × IsInRange x) a.1 (ap (λ xs. codes "version" ∷ xs) a.0, tt)

dashed_version_from : (parts : List (List ℕ)) (c : CommandData) → alone_in DashedVersion parts ≡ Some c
    → IsCommand (codes "--version" ∷ parts) c
unfolding IsCommand
dashed_version_from parts c h =
    let a = alone_some DashedVersion c parts h in
    subst (λ x. (codes "--version" ∷ parts ≡ command_words x) × IsInRange x) a.1 (ap (λ xs. codes "--version" ∷ xs) a.0, tt)

command_from : (ws : List (List ℕ)) (c : CommandData) → command_in ws ≡ Some c → IsCommand ws c
unfolding command_in command_row
command_from ws c h =
    let p = and_then_some (first_in ws) _ c h in
    let parts : List (List ℕ) = p.0.1 in
    subst (λ xs. IsCommand xs c) (sym (first_some ws p.0 p.1))
    (row_or IsCommand p.0.0 (codes "replay") parts c (alone_in Replay parts) _ (replay_from parts c)
    (row_or IsCommand p.0.0 (codes "show") parts c (alone_in Show parts) _ (show_from parts c)
    (row_or IsCommand p.0.0 (codes "edit") parts c (edit_in parts) _ (editing_from parts c)
    (row_or IsCommand p.0.0 (codes "upgrade") parts c (alone_in Upgrade parts) _ (upgrade_from parts c)
    (row_or IsCommand p.0.0 (codes "history") parts c (alone_in History parts) _ (history_from parts c)
    (row_or IsCommand p.0.0 (codes "digest") parts c (alone_in Digest parts) _ (digest_from parts c)
    (row_or IsCommand p.0.0 (codes "gen") parts c (gen_in parts) _ (gen_from parts c)
    (row_or IsCommand p.0.0 (codes "explain") parts c (explain_in parts) _ (explain_from parts c)
    (row_or IsCommand p.0.0 (codes "where") parts c (where_in parts) _ (where_from parts c)
    (row_or IsCommand p.0.0 (codes "find") parts c (find_in parts) _ (find_from parts c)
    (row_or IsCommand p.0.0 (codes "at") parts c (at_in parts) _ (at_from parts c)
    (row_or IsCommand p.0.0 (codes "playback") parts c (alone_in Playback parts) _ (playback_from parts c)
    (row_or IsCommand p.0.0 (codes "serve") parts c (option_map Serve (port_in parts)) _ (serve_from parts c)
    (row_or IsCommand p.0.0 (codes "join") parts c (option_map Join (port_in parts)) _ (join_from parts c)
    (row_or IsCommand p.0.0 (codes "loop") parts c (loop_in parts) _ (loop_from parts c)
    (row_or IsCommand p.0.0 (codes "help") parts c (alone_in Help parts) _ (help_from parts c)
    (row_or IsCommand p.0.0 (codes "--help") parts c (alone_in DashedHelp parts) _ (dashed_help_from parts c)
    (row_or IsCommand p.0.0 (codes "version") parts c (alone_in Version parts) _ (version_from parts c)
    (row_or IsCommand p.0.0 (codes "--version") parts c (alone_in DashedVersion parts) None (dashed_version_from parts c)
    (λ never. cc)))))))))))))))))))
    p.2)

command_to : (c : CommandData) → IsInRange c → command_in (command_words c) ≡ Some c
unfolding command_in command_row edit_in edit_row placed_in nl_in del_in undo_in redo_in gen_in explain_in where_in find_in at_in loop_in
command_to Replay r = refl
command_to Show r = refl
command_to Upgrade r = refl
command_to Help r = refl
command_to DashedHelp r = refl
command_to History r = refl
command_to Digest r = refl
command_to Version r = refl
command_to DashedVersion r = refl
command_to (Gen start events window) r =
    rw (
      long_reads.to (decimal start) start (refl, r.0),
      number_reads.to (decimal events) events (refl, omega (arith, r.1)),
      number_reads.to (decimal window) window (refl, omega (arith, r.3)),
    ) (gen_of_to start events window r.1 r.2 r.3)
command_to (Explain m) r = rw (member_reads.to (member_text m) m (refl, r)) refl
command_to (Where place) r = rw (number_reads.to (decimal place) place (refl, r)) refl
command_to (Find line column) r =
    rw (number_reads.to (decimal line) line (refl, r.0), number_reads.to (decimal column) column (refl, r.1)) refl
command_to (At c) r =
    rw (set_to (listed (map count_text c.counts)) (listed (map (λ e. group_text e.0 e.1) c.entries)) c
    (record { counts = refl; groups = refl; in_range = r })) refl
command_to Playback r = refl
command_to (Serve port) r = rw (port_to port r) refl
command_to (Join port) r = rw (port_to port r) refl
command_to (Loop start) r = rw (long_reads.to (decimal start) start (refl, r)) refl
command_to (Edit site (Ins place text)) r =
    rw (site_reads.to (decimal site) site (refl, r.0), number_reads.to (decimal place) place (refl, r.1.0), text_to text r.1.1) refl
command_to (Edit site (Run place text)) r =
    rw (site_reads.to (decimal site) site (refl, r.0), number_reads.to (decimal place) place (refl, r.1.0), text_to text r.1.1) refl
command_to (Edit site (Nl place)) r =
    rw (site_reads.to (decimal site) site (refl, r.0), number_reads.to (decimal place) place (refl, r.1)) refl
command_to (Edit site (Del place)) r =
    rw (site_reads.to (decimal site) site (refl, r.0), number_reads.to (decimal place) place (refl, r.1)) refl
command_to (Edit site (Undo name)) r =
    rw (site_reads.to (decimal site) site (refl, r.0), name_reads.to (name_text name) name (refl, r.1)) refl
command_to (Edit site (Redo name)) r =
    rw (site_reads.to (decimal site) site (refl, r.0), name_reads.to (name_text name) name (refl, r.1)) refl

-- the clauses of the call, from its answer
pub found : {A : Type 0} (words : List (String A)) (r : Option Command) → option_map command_data r ≡ command_in (map string_bytes words)
    → IfSome r (λ c. Spells words (command_data c))
unfolding IsCommand
found words None e = tt
found words (Some c) e = command_from (map string_bytes words) (command_data c) (sym e)

pub only : {A : Type 0} (words : List (String A)) (r : Option Command) → option_map command_data r ≡ command_in (map string_bytes words)
    → (c : CommandData) → Spells words c → option_map command_data r ≡ Some c
only words r e c spelled = e ∙ ap command_in spelled.0 ∙ command_to c spelled.1
