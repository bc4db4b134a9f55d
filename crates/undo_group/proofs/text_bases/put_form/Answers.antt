use Rattle.std.proofs.Common.{◌≡◌, ℕ, ◌≤◌, List, refl, sym, subst, arith}
use Rattle.std.proofs.Math.Bridge.{le_prop}
use Rattle.std.proofs.Math.Nat.{ℕ_set}
use Rattle.op_name.specs.NameData.{NameData}
use Rattle.op_name.specs.declared.limits.TheConstants.{LETTERS}
use Rattle.ttf_form.specs.declared.form.Form.TheVariants.{Ins as Insert}
use Rattle.undo_group.specs.Counts.{cell_count, some_cells, few_cells}
use Rattle.undo_group.proofs.text_bases.put_form.Goals as goal

-- an insert of the site of its name, of as many cells as the text has characters, is the one that the operation says
named_form : (p : ℕ) (n : NameData) (text : List ℕ) (k : ℕ) → k ≡ cell_count text → (own : n.site ≡ n.site) (some : 1 ≤ k)
    (most : k ≤ LETTERS) → Insert (record { place = p; site = n.site; len = k; name = n; own = own; some = some; most = most })
    ≡ Insert (record {
      place = p;
      site = n.site;
      len = cell_count text;
      name = n;
      own = refl;
      some = some_cells text;
      most =
          few_cells text;
    })
named_form p n text k is own =
    subst (λ (j : ℕ). (some : 1 ≤ j) (most : j ≤ LETTERS)
    → Insert (record { place = p; site = n.site; len = j; name = n; own = own; some = some; most = most })
    ≡ Insert (record {
      place = p;
      site = n.site;
      len = cell_count text;
      name = n;
      own = refl;
      some = some_cells text;
      most =
          few_cells text;
    }))
    (sym is) (λ some most i. Insert (record {
      place = p;
      site = n.site;
      len = cell_count text;
      name = n;
      own = ℕ_set n.site n.site own refl i;
      some = le_prop some (some_cells text) i;
      most = le_prop most (few_cells text) i;
    }))

-- the same where the site was read of the name
named_at : (p : ℕ) (m n : NameData) → m ≡ n → (text : List ℕ) (k : ℕ) → k ≡ cell_count text → (own : m.site ≡ n.site) (some : 1 ≤ k)
    (most : k ≤ LETTERS) → Insert (record { place = p; site = m.site; len = k; name = n; own = own; some = some; most = most })
    ≡ Insert (record {
      place = p;
      site = n.site;
      len = cell_count text;
      name = n;
      own = refl;
      some = some_cells text;
      most =
          few_cells text;
    })
named_at p m n read text k is =
    subst (λ (x : NameData). (own : m.site ≡ x.site) (some : 1 ≤ k) (most : k ≤ LETTERS)
    → Insert (record { place = p; site = m.site; len = k; name = x; own = own; some = some; most = most })
    ≡ Insert (record {
      place = p;
      site = x.site;
      len = cell_count text;
      name = x;
      own = refl;
      some = some_cells text;
      most =
          few_cells text;
    }))
    read (named_form p m text k is)

pub returns : goal.returns
returns c =
    let counted : c.len.result ≡ cell_count c.args.text.now = omega (arith, c.len.ensures, c.known.ensures.some, c.known.ensures.most) in
    named_at c.args.place (record { site = c.name.inside.site; number = c.name.inside.number }) c.args.name c.name.view_is c.args.text.now
    c.len.result counted _ _ _
