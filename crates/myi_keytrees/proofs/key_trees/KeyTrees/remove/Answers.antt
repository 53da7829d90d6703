use Rattle.std.proofs.Common.{◌≡◌, ◌<◌, ℕ, List, length, slice_set, sym, subst, ◌∙◌}
use Rattle.myi_base.specs.Holding.{Told}
use Rattle.myi_keycache.specs.Caching.{Stays}
use Rattle.myi_keylist.specs.declared.pair.Pair.{Pair}
use Rattle.myi_btree.specs.CachedTrees.{ReadsOnly}
use Rattle.std.proofs.lemmas.Result.{err_from_is_err_and}
use Rattle.myi_insertion.specs.Removal.{has_pair}
use Rattle.myi_keytrees.specs.Trees.{Trees, SameKinds}
use Rattle.myi_keytrees.specs.Standing.{list_of, taken_out, Stand, StandThen, IfStand}
use Rattle.myi_keytrees.proofs.StandLaws.{object, kinds_here, taken_stands, there_stands, never_stands, place_kept, same_stands}
use Rattle.myi_keytrees.proofs.ToldLaws.{if_err}
use Rattle.myi_keytrees.proofs.key_trees.KeyTrees.remove.Goals as goal

pub returns-in_err-there-clause-never : goal.returns-in_err-there-clause-never
returns-in_err-there-clause-never g c =
    let t : Trees = object c.self.inside.places.items c.self.inside.room c.self.inside.cache in
    let e = err_from_is_err_and c.from_residual.result c.from_residual.ensures.1 in
    if_err c.from_residual.result e.0 _ e.1
    (λ p d. subst (λ (u : Trees). IfStand (g.F.Files.holds c.args.files.now) u (λ m own lists. ⊥)) c.self.view_is
    (never_stands t (g.F.Files.holds c.args.files.now) c.args.key c.index.result.now c.index.ensures (subst (λ (u : Trees). c.args.key < length u.places) (sym c.self.view_is) c.requires.key) (c.in_err-there.ensures.never p (sym e.2 ∙ d))))

pub returns-clause-there : goal.returns-clause-there
returns-clause-there g c =
    let t : Trees = object c.self.inside.places.items c.self.inside.room c.self.inside.cache in
    subst (λ (u : Trees). IfStand (g.F.Files.holds c.args.files.now) u (λ m own lists. c.in_ok-there.there ≡ has_pair c.args.pair.now (list_of lists c.args.key))) c.self.view_is
    (there_stands t (g.F.Files.holds c.args.files.now) c.args.key c.index.result.now c.args.pair.now c.in_ok-there.there c.index.ensures (subst (λ (u : Trees). c.args.key < length u.places) (sym c.self.view_is) c.requires.key) c.in_ok-there.ensures.there)

pub returns-clause-removed : goal.returns-clause-removed
returns-clause-removed g c =
    let t : Trees = object c.self.inside.places.items c.self.inside.room c.self.inside.cache in
    let new : Trees = object (slice_set c.self.inside.places.items c.args.key c.remove.new.place) c.remove.new.room c.remove.new.cache in
    subst (λ (u : Trees). IfStand (g.F.Files.holds c.args.files.now) u (λ m own lists. StandThen u m own (g.F.Files.holds c.remove.new.files) new (taken_out c.args.key c.args.pair.now lists))) c.self.view_is
    (taken_stands t (g.F.Files.holds c.args.files.now) (g.F.Files.holds c.remove.new.files) c.args.key c.index.result.now c.remove.new.place c.args.pair.now c.remove.new.cache c.remove.new.room c.index.ensures
    (subst (λ (u : Trees). c.args.key < length u.places) (sym c.self.view_is) c.requires.key) c.in_ok-there.ensures.removed c.remove.ensures.length c.remove.ensures.pointers)

pub returns-clause-kinds : goal.returns-clause-kinds
returns-clause-kinds g c =
    let t : Trees = object c.self.inside.places.items c.self.inside.room c.self.inside.cache in
    subst (λ (u : Trees). SameKinds u.places (slice_set c.self.inside.places.items c.args.key c.remove.new.place)) c.self.view_is
    (kinds_here t c.args.key c.index.result.now c.remove.new.place c.index.ensures (subst (λ (u : Trees). c.args.key < length u.places) (sym c.self.view_is) c.requires.key) c.remove.ensures.length c.remove.ensures.pointers)

pub returns-clause-kept : goal.returns-clause-kept
returns-clause-kept g c = λ e.
    let t : Trees = object c.self.inside.places.items c.self.inside.room c.self.inside.cache in
    let k = c.in_ok-there.ensures.kept e in
    subst (λ (u : Trees). (slice_set c.self.inside.places.items c.args.key c.remove.new.place ≡ u.places) × (c.remove.new.room ≡ u.room)) c.self.view_is
    (place_kept t c.args.key c.index.result.now c.remove.new.place c.index.ensures (subst (λ (u : Trees). c.args.key < length u.places) (sym c.self.view_is) c.requires.key) k.0, k.1)

pub returns-clause-quiet : goal.returns-clause-quiet
returns-clause-quiet g c = λ e.
    subst (λ (u : Trees). ReadsOnly (g.F.Files.holds c.args.files.now) (g.F.Files.holds c.remove.new.files) u.cache c.remove.new.cache) c.self.view_is (c.in_ok-there.ensures.quiet e)

pub returns-clause-same : goal.returns-clause-same
returns-clause-same g c = λ e.
    let t : Trees = object c.self.inside.places.items c.self.inside.room c.self.inside.cache in
    subst (λ (u : Trees). Told (g.F.Files.holds c.args.files.now) (g.F.Files.holds c.remove.new.files) (λ m n. (own : ℕ → ℕ) (lists : List (List Pair)) → Stand u m own lists → Stays u.cache c.remove.new.cache m n)) c.self.view_is
    (same_stands t (g.F.Files.holds c.args.files.now) (g.F.Files.holds c.remove.new.files) c.args.key c.index.result.now c.remove.new.cache c.index.ensures (subst (λ (u : Trees). c.args.key < length u.places) (sym c.self.view_is) c.requires.key) (c.in_ok-there.ensures.same e))
