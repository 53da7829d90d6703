use Rattle.myi_keycache.proofs.TakeLemmas.{last_replaces}
use Rattle.myi_keycache.proofs.blocks.replace_by_last.Goals as goal

pub returns : goal.returns
returns c front old back last long is =
    last_replaces c.args.pages.now.entries c.swap_remove_index.new.self.entries c.args.index front old back last c.swap_remove_index.result long is c.swap_remove_index.ensures.entry c.swap_remove_index.ensures.entries
