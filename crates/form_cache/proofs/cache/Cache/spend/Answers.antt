use Rattle.std.proofs.Common.{sym, ap, ◌∙◌}
use Rattle.std.specs.Prelude.{option_map}
use Rattle.std.specs.Map.{lookup}
use Rattle.lru.specs.LruCache.{last_entry}
use Rattle.form_cache.specs.Keys.{key_eq}
use Rattle.form_cache.proofs.Entries.{last_demoted}
use Rattle.form_cache.proofs.cache.Cache.spend.Goals as goal

pub returns-then-demote-clause-found : goal.returns-then-demote-clause-found
returns-then-demote-clause-found g c =
    c.last.ensures
    ∙ (ap (λ l. option_map (λ e. e.1) (last_entry l.entries)) c.demote.ensures.entries
    ∙ (last_demoted (key_eq c.args.key.now) c.self.inside.forms.entries (sym c.demote.ensures.value ∙ c.if-demote.true)
    ∙ ap (λ d. lookup (key_eq c.args.key.now) d.entries) c.self.view_is))
