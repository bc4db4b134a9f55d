-- `empty` owns nothing.
use Rattle.std.proofs.Common.{List, [], ◌∷◌, ◌++◌, refl, sym, subst, w64, lit<}
use Rattle.std.specs.Prelude.{None}
use mir.Val.{Val, vint, vstruct, vcons, vnil}
use base.Logic.{SProp, ent, id⊢}
use base.Fml.{ftrue}
use prog.Wp.{WpFn}
use types.Kit.{‵, raw, ◌⊛◌, ◌$◌, ◌∵◌, !, qed, move, drop, split, fsplit, fjoin, suffices, feq_i, fpack, join, done}
use types.Run.{lit, no_more, and_then, returns, enter}
use types.ByLocal.{alloc_all, pass_all, free_all, look_at, get, sets}
use types.Part.{agg}
use contract.Running.{tables}
use denote.Exit.{yes}
use denote.RattleType.{Valss, owns}
use denote.Signature.{types_at, plain}
use denote.Builtin.{RawPtr}
use denote.RawPtr.{null_ptr, ptr_val}
use denote.Steps.{nothing}
use denote.Struct.Struct.{within}
use denote.Struct.Owning.{shape, to}
use denote.Triple.Walked.{says, ends_at, Stays, stay_dropped, walk_of}
use Rattle.core.proofs.alloc.Calls.{Goes-blank, handle_tells}
use Rattle.std_alloc.proofs.ResultValues.{and_tt}
use Rattle.std.proofs.raw_atomic.Walks.{proved_at}
use Rattle.std_heap.specs.contracts.Global as Heap
use Rattle.cotpad_c.proofs.AsBox.{E}
use Rattle.cotpad_c.specs.contracts.handle.CotpadSite as Handle
use Rattle.cotpad_c.specs.contracts.handle.CotpadSite.empty as F
use Rattle.cotpad_c.specs.contracts.handle.CotpadSite.empty.Key.{name as #self}
use Rattle.cotpad_c.proofs.handle.CotpadSite.empty.Statement.{statement}
use Rattle.cotpad_c.proofs.handle.CotpadSite.empty.Code as code

abbrev stayed : Stays (F.ended).signature.params (F.ended).kept
stayed = (stay_dropped (plain (λ _. Heap.the_row)) yes, tt)

abbrev word : Val → Val
word h = vstruct (vcons (vint w64 0) (vcons h vnil))

pub empty_spec : {M : Type 1} → statement M
empty_spec 𝓤 𝓛 𝓜 𝓡 wired =
    let 𝓣 = tables 𝓤 𝓛.H 𝓜 𝓡 𝓡.env in let c = F.clauses 𝓛 𝓜.mem 𝓡.returns in
    proved_at 𝓛 F.ended stayed c 𝓜 𝓡 (Goes-blank 𝓛 0 (plain (λ _. Heap.the_row)) yes (λ κs x f. tt), tt)
    #self code.function (code.unfolded 𝓤 𝓛.H 𝓜 𝓡 wired) (λ z are.
    let a = z.0.3.0 in let Post : Val → SProp 𝓤 = (walk_of 𝓛 F.ended stayed c).post z in
    let Run : List Val → SProp 𝓤 = λ ws. WpFn 𝓤 𝓛.H 𝓣.C 𝓣.Λ code.function ws Post in
    let made : (Handle.the_row).Denot = record { at = null_ptr; alloc = a; site = None } in
    qed 𝓛 ((‵ ftrue ⊛ ‵ (owns (types_at F.signature.params z.0.0) z.0.3 z.0.4)) ∷ raw ((c z.0.0 z.0.3).requires z.1) ∷ []) ∵ move ! (1 ∷ [])
    $ drop ! $ split ! $ drop ! $ fsplit ! $
    handle_tells E.al ! a z.0.4.0 (λ h eh fits. move ! (1 ∷ []) $ drop ! $
    suffices ! (Run (h ∷ [])) (subst (λ (us : List Val). ent 𝓤 (Run (h ∷ [])) (Run us)) (sym (λ i. eh i ++ [])) (id⊢ 𝓤 (Run (h ∷ [])))) $
    enter ! 𝓣.C 𝓣.Λ code.function (h ∷ []) Post $ alloc_all ! (λ l. pass_all ! refl (fits, tt) $
    sets ! (agg ! (and_then ! (lit ! tt) (and_then ! (get ! refl) (no_more !)))) refl
    (and_tt _ fits.0, (record { fits = lit< tt }, (fits.1, tt))) $
    returns ! (look_at ! 0 refl) $ free_all ! refl $
    -- [the allocator]
    nothing ! $ move ! (1 ∷ 0 ∷ []) $ nothing ! $ move ! (1 ∷ 0 ∷ []) $ fjoin ! $ feq_i ! (List Val) (vint w64 0 ∷ [])
    (ptr_val null_ptr ∷ []) refl $ fjoin ! $
    feq_i ! (List Val) (word h ∷ []) (word h ∷ []) refl $ fjoin ! $
    fpack ! (Valss (RawPtr ∷ (Heap.the_field).row ∷ [])) (within (shape Handle.the_type) (to Handle.the_type made) (word h ∷ []))
    (vint w64 0 ∷ [], (h ∷ [], tt)) $ fjoin ! $
    suffices ! _ (ends_at 𝓛 F.ended stayed c z (word h) made (tt, tt) (tt, tt)) $ says ! refl $
    nothing ! $ nothing ! $ fjoin ! $ join ! $ nothing ! $ join ! $ done !)))
