use Rattle.std.proofs.Common.{◌≡◌, ◌∙◌, ◌+◌, ◌++◌, ◌∷◌, [], ◌^◌, ◌<◌, length, ap, subst, arith}
use Rattle.myi_base.specs.Holding.{Told, Writes}
use Rattle.myi_repair.proofs.MovedLaws.{placed_same, movable, root_movable, moved_pages, root_is, end_is}
use Rattle.myi_repair.proofs.laid.put_tree.Goals as goal

pub shift-requires-clause-placed : goal.shift-requires-clause-placed
shift-requires-clause-placed g c =
    let tree = c.requires.tree in
    let room : c.args.trees.now.end + length c.args.tree.pages.items < 2 ^ 64 = omega (arith, c.in-Some.ensures, c.len.ensures, c.args.tree.pages.ok.0) in
    placed_same tree.0 c.args.trees.now.end tree.1 c.args.tree tree.2 c.requires.end room

pub shift-requires-clause-pages : goal.shift-requires-clause-pages
shift-requires-clause-pages g c =
    let tree = c.requires.tree in
    let room : c.args.trees.now.end + length c.args.tree.pages.items < 2 ^ 64 = omega (arith, c.in-Some.ensures, c.len.ensures, c.args.tree.pages.ok.0) in
    movable tree.0 c.args.trees.now.end tree.1 c.args.tree tree.2 c.requires.end room

pub shift-requires-clause-root : goal.shift-requires-clause-root
shift-requires-clause-root g c =
    let tree = c.requires.tree in
    let room : c.args.trees.now.end + length c.args.tree.pages.items < 2 ^ 64 = omega (arith, c.in-Some.ensures, c.len.ensures, c.args.tree.pages.ok.0) in
    root_movable tree.0 c.args.trees.now.end tree.1 c.args.tree tree.2 c.requires.end room

pub returns-clause-written : goal.returns-clause-written
returns-clause-written g c place pairs is =
    let room : c.args.trees.now.end + length c.args.tree.pages.items < 2 ^ 64 = omega (arith, c.in-Some.ensures, c.len.ensures, c.args.tree.pages.ok.0) in
    let pages = c.deref.ensures.value ∙ moved_pages place c.args.trees.now.end pairs c.args.tree is c.requires.end room c.shift.new.self.pages.items c.shift.ensures.pages in
    subst (λ b. Told (g.F.Files.holds c.args.files.now) (g.F.Files.holds c.write_at.new.self) (Writes c.args.file.now c.args.trees.now.end b)) pages c.in_ok-write_at.ensures.ok

pub returns-clause-root : goal.returns-clause-root
returns-clause-root g c place pairs is =
    let room : c.args.trees.now.end + length c.args.tree.pages.items < 2 ^ 64 = omega (arith, c.in-Some.ensures, c.len.ensures, c.args.tree.pages.ok.0) in
    c.in_ok-push.ensures.roots ∙ ap (λ r. c.args.trees.now.roots.items ++ r ∷ []) (c.shift.ensures.root ∙ root_is place c.args.trees.now.end pairs c.args.tree is c.requires.end room)

pub returns-clause-end : goal.returns-clause-end
returns-clause-end g c place pairs is =
    let room : c.args.trees.now.end + length c.args.tree.pages.items < 2 ^ 64 = omega (arith, c.in-Some.ensures, c.len.ensures, c.args.tree.pages.ok.0) in
    let end : c.in-Some.end ≡ c.args.trees.now.end + length c.args.tree.pages.items = omega (arith, c.in-Some.ensures, c.len.ensures, c.args.tree.pages.ok.0) in
    c.in_ok-push.ensures.end ∙ end ∙ end_is place c.args.trees.now.end pairs c.args.tree is c.requires.end room
