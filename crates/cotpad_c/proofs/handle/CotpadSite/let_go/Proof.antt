-- `let_go` lets an empty handle go, which owns nothing.
use Rattle.std.proofs.Common.{List, [], ◌∷◌, ◌++◌, refl, sym, subst}
use mir.Syntax.{impl, tnil, dnil}
use mir.Val.{Val, vunit}
use base.Logic.{SProp, ent, id⊢}
use base.Fml.{ftrue}
use prog.Wp.{WpFn}
use types.Kit.{‵, raw, ◌⊛◌, ◌$◌, ◌∵◌, !, qed, by, move, drop, split, fsplit, fjoin, suffices, feq_i}
use types.Run.{of_opd, unit_lit, returns, enter}
use types.ByLocal.{alloc_all, pass_all, free_all, look_at, sets}
use contract.Running.{tables}
use denote.Exit.{yes}
use denote.RattleType.{owns}
use denote.Signature.{types_at, plain}
use denote.Steps.{nothing}
use denote.Triple.Walked.{Stays, stay_dropped, walk_of, Goes-dropped}
use Rattle.core.proofs.alloc.Calls.{Al, handle_tells}
use Rattle.std.proofs.raw_atomic.Walks.{proved_at, leaves}
use Rattle.cotpad_c.specs.contracts.handle.CotpadSite as Handle
use Rattle.cotpad_c.proofs.handle.CotpadSite.TheLaws as handle
use Rattle.cotpad_c.specs.contracts.handle.CotpadSite.let_go as F
use Rattle.cotpad_c.specs.contracts.handle.CotpadSite.let_go.Key.{name as #self}
use Rattle.cotpad_c.proofs.handle.CotpadSite.let_go.Statement.{statement}
use Rattle.cotpad_c.proofs.handle.CotpadSite.let_go.Code as code

-- the handle's row, for its machine value
abbrev A : Al
A = record {
  row = Handle.the_row;
  laws = handle.the_row_laws;
  g = record { dealloc_token = λ _ _ _. ftrue };
  d = impl [] tnil dnil;
  drops =
      impl [] tnil dnil;
}

abbrev stayed : Stays (F.ended).signature.params (F.ended).kept
stayed = (stay_dropped (plain (λ _. Handle.the_row)) yes, tt)

pub let_go_spec : {M : Type 1} → statement M
let_go_spec 𝓤 𝓛 𝓜 𝓡 wired =
    let 𝓣 = tables 𝓤 𝓛.H 𝓜 𝓡 𝓡.env in let c = F.clauses 𝓛 𝓜.mem 𝓡.returns in
    proved_at 𝓛 F.ended stayed c 𝓜 𝓡 (Goes-dropped 𝓛 0 (plain (λ _. Handle.the_row)) yes (λ κs x f. refl), tt)
    #self code.function (code.unfolded 𝓤 𝓛.H 𝓜 𝓡 wired) (λ z are.
    let Post : Val → SProp 𝓤 = (walk_of 𝓛 F.ended stayed c).post z in
    let Run : List Val → SProp 𝓤 = λ ws. WpFn 𝓤 𝓛.H 𝓣.C 𝓣.Λ code.function ws Post in
    qed 𝓛 ((‵ ftrue ⊛ ‵ (owns (types_at F.signature.params z.0.0) z.0.3 z.0.4)) ∷ raw ((c z.0.0 z.0.3).requires z.1) ∷ []) ∵ move ! (1 ∷ [])
    $ drop ! $ split ! $ drop ! $ fsplit ! $
    handle_tells A ! z.0.3.0 z.0.4.0 (λ v ev fits. drop ! $ drop ! $
    suffices ! (Run (v ∷ [])) (subst (λ (us : List Val). ent 𝓤 (Run (v ∷ [])) (Run us)) (sym (λ i. ev i ++ [])) (id⊢ 𝓤 (Run (v ∷ [])))) $
    enter ! 𝓣.C 𝓣.Λ code.function (v ∷ []) Post $ alloc_all ! (λ l. pass_all ! refl (fits, tt) $
    sets ! (of_opd ! (unit_lit !)) refl (tt, tt) $ returns ! (look_at ! 0 refl) $ free_all ! refl $
    nothing ! $ feq_i ! (List Val) (vunit ∷ []) (vunit ∷ []) refl $ nothing ! $ nothing ! $ fjoin ! $ nothing ! $
    by ! (leaves 𝓛 F.ended stayed c z vunit tt (tt, tt) (tt, tt)))))
