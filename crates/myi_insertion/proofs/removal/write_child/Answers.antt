use Rattle.std.proofs.Common.{ℕ, ◌+◌, List, ◌++◌, take, drop, subst, ap, ◌∙◌, arith}
use Rattle.myi_keylist.specs.declared.pair.Pair.{Pair}
use Rattle.myi_insertion.proofs.SplitLaws.{strip_written}
use Rattle.myi_insertion.proofs.PuttingLaws.{Fills, child_is}
use Rattle.myi_insertion.proofs.RemovalLaws.{child_written, can_hold}
use Rattle.myi_insertion.proofs.removal.write_child.Goals as goal

pub returns-clause-written : goal.returns-clause-written
returns-clause-written g c =
    let place = c.args.setup.place in
    let p = c.args.pending.now in
    let cs : List ℕ = p.page.now.children.items in
    let ps : List Pair = p.page.now.pairs in
    let can = c.requires.pending in
    child_written place c.args.cache.now (g.F.Files.holds c.args.files.now) (g.F.Files.holds c.settle.new.files) c.settle.new.cache p.i ps c.in_ok-made.made.pairs cs c.in_ok-made.made.children.items p.inner.now.pairs p.inner.now.children.items c.in_ok-strip.strip.places.items c.in_ok-strip.strip.separators c.args.room.now c.settle.new.room
    (let l = c.requires.placed.least in omega arith)
    (subst (λ (n : ℕ). Fills place c.args.cache.now (g.F.Files.holds c.args.files.now) c.args.room.now n p.inner.now.pairs p.inner.now.children.items (g.F.Files.holds c.settle.new.files) c.settle.new.cache c.settle.new.room c.in_ok-strip.strip.places.items c.in_ok-strip.strip.separators)
    (child_is ps cs p.i c.index-child.result.now can.page.branches can.some can.inside c.index-child.ensures) c.in_ok-strip.ensures.settles)
    c.in_ok-made.ensures.pairs (c.in_ok-made.ensures.children ∙ ap (λ (t : List ℕ). (take p.i cs ++ t) ++ drop (p.i + 1) cs) c.deref.ensures.value)

pub returns-clause-shape : goal.returns-clause-shape
returns-clause-shape g c =
    let p = c.args.pending.now in
    let cs : List ℕ = p.page.now.children.items in
    let can = c.requires.pending in
    can_hold c.args.setup.place.rec_ref c.in_ok-made.made.pairs c.in_ok-made.made.children.items
    (strip_written c.args.setup.place.rec_ref p.i c.index-child.result.now p.page.now.pairs c.in_ok-made.made.pairs cs c.in_ok-made.made.children.items c.in_ok-strip.strip.places.items c.in_ok-strip.strip.separators can.page can.inside can.some c.in_ok-strip.ensures.shape
    c.in_ok-made.ensures.pairs (c.in_ok-made.ensures.children ∙ ap (λ (t : List ℕ). (take p.i cs ++ t) ++ drop (p.i + 1) cs) c.deref.ensures.value))
