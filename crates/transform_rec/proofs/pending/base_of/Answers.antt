use Rattle.std.proofs.Common.{◌≡◌, true, List, sym, subst}
use Rattle.op_name.specs.declared.member.Member.{Member}
use Rattle.context_diff.specs.Histories.{is_known}
use Rattle.form_cache.specs.Keys.{KeyData}
use Rattle.ttf_form.specs.Families.{IsIn}
use Rattle.context_diff.proofs.CallerLemmas.{known_in}
use Rattle.transform_rec.proofs.pending.base_of.Goals as goal

pub base-requires : goal.base-requires
base-requires g c =
    let known : is_known c.args.book.now.ops c.at.inside.member ≡ true =
    subst (λ (k : KeyData). is_known c.args.book.now.ops k.member ≡ true) (sym c.at.view_is) c.requires.added.known in
    subst (λ (ms : List Member). IsIn c.at.inside.member ms) (sym c.requires.bases.members)
    (known_in c.args.book.now.ops c.at.inside.member known)
