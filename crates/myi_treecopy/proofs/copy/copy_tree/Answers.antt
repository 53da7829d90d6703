use Rattle.std.proofs.Common.{◌≡◌, Some, arith}
use Rattle.myi_treecopy.specs.Copying.{CutsOrLacks, NoTree, NoTreeWithin}
use Rattle.myi_treecopy.proofs.StepLaws.{no_tree_of_any, never_more}
use Rattle.myi_treecopy.proofs.LevelLaws.{ok_whole}
use Rattle.myi_treecopy.proofs.copy.copy_tree.Goals as goal

pub returns-clause-bytes : goal.returns-clause-bytes
returns-clause-bytes g c =
    ok_whole c.pages_read_back.ensures.page c.index_pages_are_nodes.ensures.nodes c.lay.result c.args.tree.now c.args.root c.args.start _ _ c.requires.made.placed (omega (arith, c.type_inv.tree)) (λ m held. g.met.F.Files.told_bytes c.args.files.now m held) c.lay.ensures.inside c.lay.ensures.copies

pub returns-clause-never : goal.returns-clause-never
returns-clause-never g c =
    let tree = c.args.tree.now in
    never_more c.lay.result (λ m. g.F.Files.holds c.args.files.now ≡ Some m → NoTreeWithin tree 64 c.args.root c.args.start m) (λ m. g.F.Files.holds c.args.files.now ≡ Some m → NoTree tree c.args.root c.args.start m)
    (λ m never held. no_tree_of_any tree c.args.root c.args.start m c.index_pages_are_nodes.ensures.nodes c.requires.made.placed (omega (arith, c.type_inv.tree)) (never held)) c.lay.ensures.never
