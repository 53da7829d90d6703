use Rattle.std.proofs.Common.{subst}
use Rattle.myi_keycache.specs.Caching.{Caching, lists_of}
use Rattle.myi_keycache.specs.Midpoint.{AreLists}
use Rattle.myi_keycache.proofs.OnceLemmas.{ordered_lists}
use Rattle.myi_keycache.proofs.cache.KeyCache.counters.Goals as goal

pub returns-clause-lists : goal.returns-clause-lists
returns-clause-lists c = subst (λ (k : Caching). AreLists k.setup (lists_of k)) c.self.view_is (ordered_lists c.self.inside.blocks c.are_ordered.ensures)
