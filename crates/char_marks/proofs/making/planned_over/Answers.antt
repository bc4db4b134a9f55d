use Rattle.std.proofs.Common.{◌≡◌, ℕ, ◌+◌, length, refl, ap, sym, ◌∙◌, subst, arith}
use Rattle.context_vector.specs.Contexts.{ContextData, HasNoStray}
use Rattle.context_diff.specs.Histories.{context_of_all}
use Rattle.char_marks.specs.Making.{greatest_number}
use Rattle.context_diff.proofs.CallerLemmas.{complete}
use Rattle.cot_site.proofs.CallerLemmas.{all_stray}
use Rattle.char_marks.proofs.making.planned_over.Goals as goal

pub returns-in-Ok-clause-made : goal.returns-in-Ok-clause-made
returns-in-Ok-clause-made c =
    let h = c.args.site.now.history in
    let ks = c.args.kept.now in
    let context : c.in-Ok.context.set ≡ context_of_all h = c.in-Ok.ensures ∙ c.vector-2.ensures in
    let number : c.greatest_number-number.result ≡ greatest_number c.args.site.now.number ks =
    c.greatest_number-number.ensures ∙ ap (λ (s : ℕ). greatest_number s ks) c.number.ensures in
    let long : length c.in-Ok.context.set.entries ≡ length (context_of_all h).entries =
    ap (λ (x : ContextData). length x.entries) context in
    let told : length c.vector.result.now.set.entries ≡ length (context_of_all h).entries =
    ap (λ (x : ContextData). length x.entries) c.vector.ensures in
    λ v count s. record {
      within = s.within;
      first = s.first;
      last = s.last;
      name = λ i. record { site = c.number-in-Ok.ensures i; number = number i + 1 };
      rank = ap (λ (r : ℕ). r + 1) c.greatest_rank-rank.ensures;
      set = refl;
      context = context;
      formed = record {
        rank = omega arith;
        len = s.some;
        value = c.requires.range;
        stray = subst HasNoStray (sym context) (all_stray h (complete h c.known.ensures.history));
        entries = omega (arith, long, told, c.entries-entries.ensures.entries, c.if-entries-gt-UNDO_ENTRIES.false);
      };
    }
