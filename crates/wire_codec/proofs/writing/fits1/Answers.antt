use Rattle.std.proofs.Common.{sym, subst, ◌∙◌}
use Rattle.context_vector.specs.Contexts.{ContextData}
use Rattle.context_diff.specs.Ops.{data_of}
use Rattle.wire_codec.specs.declared.version.Version.TheVariants.{One}
use Rattle.wire_codec.specs.Code.Puts.{CountsIn, EntriesIn}
use Rattle.wire_codec.proofs.Sites.{fits_from, fits_to}
use Rattle.wire_codec.proofs.writing.fits1.Goals as goal

pub returns-then-not-head_fits1 : goal.returns-then-not-head_fits1
returns-then-not-head_fits1 c = (
  λ no. absurd (let never = no in cc),
  λ fits. sym c.if-not-head_fits1.true ∙ c.head_fits1.ensures.1 (fits_to One (data_of c.args.op.now) fits).own,
)

pub returns-then-not-counts_fit1 : goal.returns-then-not-counts_fit1
returns-then-not-counts_fit1 c = (
  λ no. absurd (let never = no in cc),
  λ fits. sym c.if-not-counts_fit1.true ∙ c.counts_fit1.ensures.1
      (subst (λ (x : ContextData). CountsIn One x.counts) (sym c.context.ensures) (fits_to One (data_of c.args.op.now) fits).counts),
)

pub returns : goal.returns
returns c = (
  λ entries. fits_from One (data_of c.args.op.now) (record {
    own = c.head_fits1.ensures.0 c.if-not-head_fits1.false;
    counts = subst (λ (x : ContextData). CountsIn One x.counts) c.context.ensures (c.counts_fit1.ensures.0 c.if-not-counts_fit1.false);
    entries = subst (λ (x : ContextData). EntriesIn One x.entries) c.context-2.ensures (c.entries_fit1.ensures.0 entries);
  }),
  λ fits. c.entries_fit1.ensures.1
      (subst (λ (x : ContextData). EntriesIn One x.entries) (sym c.context-2.ensures) (fits_to One (data_of c.args.op.now) fits).entries),
)
