use Rattle.std.proofs.Common.{◌≡◌, ℕ, List, ◌++◌, ap, ◌∙◌}
use Rattle.std.proofs.lemmas.Result.{IfErr-weaker, on_ok_weaker}
use Rattle.context_diff.specs.Ops.{data_of}
use Rattle.cot_site.specs.Sites.{state_of}
use Rattle.wire_codec.specs.declared.version.Version.TheVariants.{Two}
use Rattle.wire_codec.specs.Spelling.{frame}
use Rattle.uses.specs.Mail.{IsUnreceived, IsUnsent}
use Rattle.uses.proofs.Sending.{received_is, unsent_is}
use Rattle.uses.proofs.mail.send.Goals as goal

pub returns-clause-state : goal.returns-clause-state
returns-clause-state c =
    let o = data_of c.args.op.now in
    let bytes = c.deref.result.now in
    let is : bytes ≡ frame Two o =
    c.deref.ensures.value ∙ c.in_ok-encode2.ensures.ok ∙ ap (λ (b : List ℕ). b ++ frame Two o) c.new-frame.ensures.items in
    on_ok_weaker c.receive.result (λ received.
    (received_is o c.requires bytes is (state_of c.args.to.now) (state_of c.receive.new.site) received).0) c.receive.ensures.taken

pub returns-clause-taken : goal.returns-clause-taken
returns-clause-taken c =
    let o = data_of c.args.op.now in
    let bytes = c.deref.result.now in
    let is : bytes ≡ frame Two o =
    c.deref.ensures.value ∙ c.in_ok-encode2.ensures.ok ∙ ap (λ (b : List ℕ). b ++ frame Two o) c.new-frame.ensures.items in
    on_ok_weaker c.receive.result (λ received.
    (received_is o c.requires bytes is (state_of c.args.to.now) (state_of c.receive.new.site) received).1) c.receive.ensures.taken

pub returns-clause-refused : goal.returns-clause-refused
returns-clause-refused c =
    let o = data_of c.args.op.now in
    let s = state_of c.args.to.now in
    let t = state_of c.receive.new.site in
    let bytes = c.deref.result.now in
    let is : bytes ≡ frame Two o =
    c.deref.ensures.value ∙ c.in_ok-encode2.ensures.ok ∙ ap (λ (b : List ℕ). b ++ frame Two o) c.new-frame.ensures.items in
    IfErr-weaker c.receive.result (IsUnreceived bytes s t) (IsUnsent o s t) (λ why. unsent_is o c.requires bytes is s t why)
    c.receive.ensures.refused
