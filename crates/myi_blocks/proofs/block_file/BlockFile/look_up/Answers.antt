use Rattle.std.proofs.Common.{◌≡◌, length, subst, sym}
use Rattle.myi_base.specs.Holding.{bytes_of}
use Rattle.myi_defs.specs.Sound.{IsSound}
use Rattle.myi_blocks.specs.Places.{NotedFile, AreRead}
use Rattle.myi_blocks.proofs.NoteLemmas.{read-noted}
use Rattle.myi_blocks.proofs.block_file.BlockFile.look_up.Goals as goal

pub places-requires-clause-long : goal.places-requires-clause-long
places-requires-clause-long g c κs within = λ m held. subst (λ (f : NotedFile). length (bytes_of f.file.name m) ≡ f.file.counts.length) (sym c.self.view_is) (c.requires.long m held)

pub returns-clause-kept : goal.returns-clause-kept
returns-clause-kept g c m held s k =
    let f = c.args.self.now.file in
    let sound : IsSound c.args.self.now.file.defs = subst (λ (f : NotedFile). IsSound f.file.defs) c.self.view_is c.self.invariant.0 in
    read-noted f s m c.in_ok-places.places.keys (c.standing_files_are_read.ensures.rows f.defs s (bytes_of f.name m) sound k.0.stands)
    (subst (λ (f : NotedFile). AreRead f.file c.in_ok-places.places.keys m) c.self.view_is (c.in_ok-places.ensures.told m held))
