-- The settings of a key cache (MySQL Reference Manual, "The MyISAM Key Cache": its number of blocks,
-- key_cache_division_limit and key_cache_age_threshold). The limits are this project's own.
use Rattle.std.specs.Prelude.{◌≤◌}
use Rattle.myi_keycache.specs.declared.setup.CacheSetup.{CacheSetup}

pub record IsSetup (s : CacheSetup) : Type 0 where
  pub some_block : 1 ≤ s.blocks
  pub most_blocks : s.blocks ≤ 65536
  pub least_division : 1 ≤ s.division
  pub most_division : s.division ≤ 100
  pub least_age : 100 ≤ s.age
  pub most_age : s.age ≤ 1000000
