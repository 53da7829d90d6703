use Rattle.std.proofs.Common.{◌≤◌, ◌^◌, ◌<◌, ℕ, List, take, drop, sym, ap, subst, ◌∙◌}
use Rattle.std.specs.List.{AllByRecursion}
use Rattle.myi_keypage.specs.declared.entry.Entry.{Entry}
use Rattle.myi_keypage.specs.Page.{page_with, page_bytes, is_node}
use Rattle.myi_keypage.specs.Fitting.{used_length}
use Rattle.myi_keypage.specs.Writing.{filled_up}
use Rattle.myi_btree.specs.Nodes.{entries_of}
use Rattle.myi_insertion.specs.Written.{chunk_node}
use Rattle.myi_insertion.proofs.WriteLaws.{part_is, page_is}
use Rattle.myi_insertion.proofs.settle.write_chunk.Goals as goal

pub write_page_of-requires-clause-rows : goal.write_page_of-requires-clause-rows
write_page_of-requires-clause-rows c =
    subst (λ (t : List Entry). AllByRecursion (λ (e : Entry). e.row < 256 ^ c.args.place.rec_ref) t) (sym (part_is c.args.chunk.now.count c.args.chunk.now.start c.args.chunk.now.pairs.now)) c.requires.page.page.rows

pub write_page_of-requires-clause-fits : goal.write_page_of-requires-clause-fits
write_page_of-requires-clause-fits c =
    let es : List Entry = take c.args.chunk.now.count (drop c.args.chunk.now.start (entries_of c.args.chunk.now.pairs.now)) in
    subst (λ (n : ℕ). used_length c.args.place.rec_ref (is_node (page_with es c.args.chunk.now.children.now)) es ≤ n) (sym c.requires.buffer)
    (subst (λ (t : List Entry). used_length c.args.place.rec_ref (is_node (page_with t c.args.chunk.now.children.now)) t ≤ c.args.place.block_length) (sym (part_is c.args.chunk.now.count c.args.chunk.now.start c.args.chunk.now.pairs.now)) c.requires.page.fits)

pub returns-clause-bytes : goal.returns-clause-bytes
returns-clause-bytes c =
    let es : List Entry = take c.args.chunk.now.count (drop c.args.chunk.now.start (entries_of c.args.chunk.now.pairs.now)) in
    c.write_page_of.ensures.written
    ∙ ap (λ (n : ℕ). filled_up (page_bytes c.args.place.rec_ref (page_with es c.args.chunk.now.children.now)) n) c.requires.buffer
    ∙ ap (λ (t : List Entry). filled_up (page_bytes c.args.place.rec_ref (page_with t c.args.chunk.now.children.now)) c.args.place.block_length) (part_is c.args.chunk.now.count c.args.chunk.now.start c.args.chunk.now.pairs.now)
    ∙ page_is c.args.place (chunk_node c.args.chunk.now)
