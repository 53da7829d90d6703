use Rattle.std.proofs.Common.{ap, ◌∙◌}
use Rattle.myi_btree.specs.Nodes.{node_in}
use Rattle.myi_insertion.specs.Written.{chunk_node}
use Rattle.myi_insertion.proofs.WriteLaws.{wrote}
use Rattle.myi_insertion.proofs.settle.put_chunk.Goals as goal

pub returns-clause-wrote : goal.returns-clause-wrote
returns-clause-wrote g c = λ m held pages room can here.
    wrote c.args.place c.args.cache.now m pages room (g.F.Files.holds c.args.files.now) (g.F.Files.holds c.put.new.files) c.put.new.self c.args.at c.write_chunk.new.page (chunk_node c.args.chunk.now)
    c.requires.placed held c.requires.whole c.write_chunk.ensures.long
    (ap (node_in c.args.place.rec_ref) c.write_chunk.ensures.bytes ∙ c.laid_pages_are_written.ensures.read c.args.place (chunk_node c.args.chunk.now) c.requires.page)
    c.in_ok-put.ensures.ok c.put.ensures.others c.put.ensures.added c.put.ensures.name can here
