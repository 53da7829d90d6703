use Rattle.std.proofs.Common.{◌++◌, ap, ◌∙◌}
use Rattle.myi_btree.specs.Building.{laid_at, pages_bytes}
use Rattle.myi_btree.proofs.LaidRoot.{root_behind}
use Rattle.myi_btree.proofs.laid.lay.Goals as goal

pub returns-clause-place : goal.returns-clause-place
returns-clause-place c = root_behind c.args.place.now c.in-Ok.end c.args.pairs.now c.checked_sub-root.result c.requires.placed c.in-Ok.ensures.end c.checked_sub-root.ensures

pub returns-clause-pages : goal.returns-clause-pages
returns-clause-pages c = c.in-Ok.ensures.pages ∙ ap (λ t. t ++ pages_bytes c.args.place.now (laid_at c.args.place.now 0 c.args.pairs.now)) c.new-pages.ensures.items
