use Rattle.std.proofs.Common.{◌+◌, ◌-◌, ◌/◌, refl, sym, subst, arith}
use Rattle.myi_base.specs.Holding.{Told}
use Rattle.myi_base.proofs.CallerLemmas.{told_same, told_more}
use Rattle.myi_repair.proofs.CallerLemmas.{told_and}
use Rattle.myi_sortindex.specs.declared.laying.LaidTrees.{LaidTrees}
use Rattle.myi_sortindex.specs.Laying.{LaysNext}
use Rattle.myi_sortindex.proofs.LayLaws.{next_laid, next_none}
use Rattle.myi_sortindex.proofs.laying.lay_tree.Goals as goal

pub returns-in_default-clause-tree : goal.returns-in_default-clause-tree
returns-in_default-clause-tree g c =
    let old = g.F.Files.holds c.args.files.now in
    let laid : LaidTrees = record { roots = c.push.new.self; end = c.args.laid.now.end; pages = c.args.laid.now.pages } in
    told_same old old _ refl (λ m held. subst (λ r. LaysNext c.args.copy.now c.args.place r c.args.laid.now laid m m) (sym c.in_default.is) (next_none c.args.copy.now c.args.place c.args.laid.now laid m (omega (arith, c.requires.placed.least)) (c.requires.long m held) refl refl))

pub returns-clause-tree : goal.returns-clause-tree
returns-clause-tree g c =
    let old = g.F.Files.holds c.args.files.now in
    let new = g.F.Files.holds c.copy_tree.new.files in
    let laid : LaidTrees = record { roots = c.push.new.self; end = c.in-Ok.end; pages = c.args.laid.now.pages + (c.in-Ok.end - c.args.laid.now.end) / c.args.place.block_length } in
    subst (λ r. Told old new (LaysNext c.args.copy.now c.args.place r c.args.laid.now laid)) (sym c.in-Some.is)
    (told_more old new _ _ (told_and old new _ _ c.in-Ok.ensures.copies c.in-Ok.ensures.bytes)
    (λ m n held s. next_laid c.args.copy.now c.args.place c.in-Some.root c.args.laid.now laid m n (omega (arith, c.requires.placed.least)) s.0 s.1 refl))
