use Rattle.std.proofs.Common.{◌≡◌, ◌<◌, false, length, slice_set, sym, subst, ◌∙◌}
use Rattle.std.proofs.lemmas.Result.{err_from_is_err_and}
use Rattle.myi_insertion.specs.Removal.{has_pair}
use Rattle.myi_keytrees.specs.Trees.{Trees, SameKinds}
use Rattle.myi_keytrees.specs.Standing.{list_of, put_in, StandThen, IfStand}
use Rattle.myi_keytrees.proofs.StandLaws.{object, kinds_here, put_stands, never_stands}
use Rattle.myi_keytrees.proofs.ToldLaws.{if_err}
use Rattle.myi_keytrees.proofs.key_trees.KeyTrees.insert.Goals as goal

pub returns-in_err-insert-clause-never : goal.returns-in_err-insert-clause-never
returns-in_err-insert-clause-never g c =
    let t : Trees = object c.self.inside.places.items c.self.inside.room c.self.inside.cache in
    let e = err_from_is_err_and c.from_residual.result c.from_residual.ensures.1 in
    if_err c.from_residual.result e.0 _ e.1
    (λ p d. subst (λ (u : Trees). IfStand (g.F.Files.holds c.args.files.now) u (λ m own lists. ⊥)) c.self.view_is
    (never_stands t (g.F.Files.holds c.args.files.now) c.args.key c.index.result.now c.index.ensures (subst (λ (u : Trees). c.args.key < length u.places) (sym c.self.view_is) c.requires.key) (c.in_err-insert.ensures.never p (sym e.2 ∙ d))))

pub returns-clause-inserted : goal.returns-clause-inserted
returns-clause-inserted g c =
    let t : Trees = object c.self.inside.places.items c.self.inside.room c.self.inside.cache in
    let new : Trees = object (slice_set c.self.inside.places.items c.args.key c.insert.new.place) c.insert.new.room c.insert.new.cache in
    subst (λ (u : Trees). IfStand (g.F.Files.holds c.args.files.now) u (λ m own lists. has_pair c.args.pair.now (list_of lists c.args.key) ≡ false → StandThen u m own (g.F.Files.holds c.insert.new.files) new (put_in c.args.key c.args.pair.now lists))) c.self.view_is
    (put_stands t (g.F.Files.holds c.args.files.now) (g.F.Files.holds c.insert.new.files) c.args.key c.index.result.now c.insert.new.place c.args.pair.now c.insert.new.cache c.insert.new.room c.index.ensures
    (subst (λ (u : Trees). c.args.key < length u.places) (sym c.self.view_is) c.requires.key) c.in_ok-insert.ensures.inserted c.insert.ensures.length c.insert.ensures.pointers)

pub returns-clause-kinds : goal.returns-clause-kinds
returns-clause-kinds g c =
    let t : Trees = object c.self.inside.places.items c.self.inside.room c.self.inside.cache in
    subst (λ (u : Trees). SameKinds u.places (slice_set c.self.inside.places.items c.args.key c.insert.new.place)) c.self.view_is
    (kinds_here t c.args.key c.index.result.now c.insert.new.place c.index.ensures (subst (λ (u : Trees). c.args.key < length u.places) (sym c.self.view_is) c.requires.key) c.insert.ensures.length c.insert.ensures.pointers)
