use Rattle.std.proofs.Common.{◌≡◌, ◌<◌, ◌≤◌, ◌^◌}
use Rattle.myi_keycache.specs.Order.{PagesStay, WritesOnly, cache_of, contents_of}
use Rattle.myi_keycache.specs.Kept.{AllWritten}
use Rattle.myi_keycache.proofs.FlushLemmas.{Writing}
use Rattle.myi_keycache.proofs.TurnLemmas.{Turning}
use Rattle.myi_keycache.proofs.NameLemmas.{indexed}
use Rattle.myi_keycache.proofs.cache.write_all.Given as goal

abbrev pub invariant-loop-i : goal.invariant-loop-i
invariant-loop-i g l = record {
  stay : PagesStay l.fn.blocks l.blocks;
  writes : WritesOnly (g.F.Files.holds l.fn.files) (g.F.Files.holds l.files) (cache_of l.name l.fn.blocks l.fn.counters) (cache_of l.name l.blocks l.counters);
  writing : Writing l.fn.blocks l.blocks (indexed l.fn.blocks.pages l.found.items) l.i;
  turning : Turning (g.F.Files.holds l.fn.files) (g.F.Files.holds l.files) l.name l.fn.blocks l.blocks l.fn.counters l.counters (indexed l.fn.blocks.pages l.found.items) l.i;
  quiet : AllWritten (contents_of l.fn.blocks.pages) → l.files ≡ l.fn.files;
  small : l.counters.writes < 2 ^ 64;
  faults : g.F.Files.faults l.fn.files ≤ g.F.Files.faults l.files;
  reads : g.F.Files.reads l.files ≡ g.F.Files.reads l.fn.files;
}
