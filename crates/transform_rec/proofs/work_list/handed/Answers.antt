use Rattle.std.proofs.Common.{◌≡◌, false, sym, ap, subst, ◌∙◌}
use Rattle.op_name.specs.declared.member.Member.{Member}
use Rattle.form_cache.specs.Keys.{KeyData}
use Rattle.transform_rec.specs.Histories.{family_in}
use Rattle.transform_rec.specs.Code.Pending.{IsWaiting}
use Rattle.transform_rec.proofs.Keeping.{forms_kept, key_form}
use Rattle.transform_rec.proofs.work_list.handed.Goals as goal

pub take_in-requires-clause-known : goal.take_in-requires-clause-known
take_in-requires-clause-known g c =
    forms_kept g.F.Include.over (family_in c.args.book.now.ops (g.B.Bases.base_form c.args.bases.now)) c.args.cache.now
    c.keep.new.self.entries c.in_ok-copy.copy c.args.form false c.requires.known
    (key_form g.F.Include.over (family_in c.args.book.now.ops (g.B.Bases.base_form c.args.bases.now)) c.in_ok-copy.copy c.args.at.member
    c.member_in-x.result c.args.outer.at.context c.args.form c.in_ok-copy.ensures c.member_in-x.ensures c.requires.form)
    c.keep.ensures.entries

pub take_in-requires-clause-waits : goal.take_in-requires-clause-waits
take_in-requires-clause-waits g c =
    let same : c.in_ok-key.key.member ≡ c.args.at.member = ap (λ (k : KeyData). k.member) c.in_ok-key.ensures ∙ c.member_in-x.ensures in (
      c.requires.waits.0,
      subst (λ (y : Member).
          IsWaiting g.F.Include.over (family_in c.args.book.now.ops (g.B.Bases.base_form c.args.bases.now)) c.requires.waits.0 y
          c.args.outer)
          (sym same) c.requires.waits.1,
    )

pub take_in-requires-clause-form : goal.take_in-requires-clause-form
take_in-requires-clause-form g c =
    (key_form g.F.Include.over (family_in c.args.book.now.ops (g.B.Bases.base_form c.args.bases.now)) c.in_ok-key.key c.args.at.member
    c.member_in-x.result c.args.outer.at.context c.args.form c.in_ok-key.ensures c.member_in-x.ensures c.requires.form).0
