use Rattle.std.proofs.Common.{◌≡◌, ℕ, List, refl, ap, sym, subst}
use Rattle.std.specs.Prelude.{Some, None}
use Rattle.op_name.specs.NameData.{NameData}
use Rattle.context_vector.specs.Vectors.{NamesBelow}
use Rattle.script_text.specs.Sets.{entries_of, undone_of, comes_after, rising_entries}
use Rattle.script_text.proofs.SetLaws.{IsTaken, taken_first, entry_next}
use Rattle.script_text.proofs.reading.sets.push_entries.Goals as goal

pub loop-item-init : goal.loop-item-init
unfolding entries_of
loop-item-init c =
    let text = c.args.text.now in
    let items = c.of-items.result in
    let all : entries_of text ≡ rising_entries None items = ap (rising_entries None) (sym c.of-items.ensures) in (
      subst (λ (es : List (NameData × ℕ)). IsTaken comes_after (λ e. Some e.0) undone_of (entries_of text) es None items) (sym c.requires)
          (taken_first comes_after (λ e. Some e.0) undone_of (entries_of text) None items all),
      (λ e t. subst (λ (es : List (NameData × ℕ)). NamesBelow es e.0) (sym c.requires) tt),
      refl,
    )

pub loop-item-preserved : goal.loop-item-preserved
loop-item-preserved c =
    let l = c.loop-item in
    entry_next _ (entries_of c.args.text.now) c.args.set.now.set l.set.set c.push_entry.new.self.set l.last c.in-Some.item.now l.items
    c.next.new.self l.invariant c.in_ok-push_entry.ensures.pushed c.in-Some.ensures c.in-Some-entry_after.ensures.read
