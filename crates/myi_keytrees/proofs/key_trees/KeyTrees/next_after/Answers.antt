use Rattle.std.proofs.Common.{◌<◌, length, sym, subst, ◌∙◌}
use Rattle.std.specs.Option.{option_copied}
use Rattle.std.proofs.lemmas.Result.{err_from_is_err_and}
use Rattle.myi_search.specs.Least.{IsLeastAbove}
use Rattle.myi_keytrees.specs.Trees.{Trees}
use Rattle.myi_keytrees.specs.Standing.{list_of, IfStand, StillStand, CanSearch, RoseByLevels}
use Rattle.myi_keytrees.proofs.StandLaws.{object}
use Rattle.myi_keytrees.proofs.SearchLaws.{can_walk, sought, never_sought, searched, short}
use Rattle.myi_keytrees.proofs.ToldLaws.{if_err}
use Rattle.myi_keytrees.proofs.key_trees.KeyTrees.next_after.Goals as goal

pub next_after-requires-clause-kept : goal.next_after-requires-clause-kept
next_after-requires-clause-kept g c = λ κs lives.
    let t : Trees = object c.self.inside.places.items c.self.inside.room c.self.inside.cache in
    can_walk g.F.Files.writable (g.F.Files.holds c.args.files.now) t c.args.key c.index.result.now c.index.ensures (subst (λ (u : Trees). c.args.key < length u.places) (sym c.self.view_is) c.requires.key)
    (subst (λ (u : Trees). CanSearch g.F.Files.writable (g.F.Files.holds c.args.files.now) u) (sym c.self.view_is) c.requires.kept)

pub returns-in_err-pair-clause-stand : goal.returns-in_err-pair-clause-stand
returns-in_err-pair-clause-stand g c =
    let t : Trees = object c.self.inside.places.items c.self.inside.room c.self.inside.cache in
    let new : Trees = object c.self.inside.places.items c.self.inside.room c.next_after.new.cache in
    subst (λ (u : Trees). StillStand (g.F.Files.holds c.args.files.now) (g.F.Files.holds c.next_after.new.files) u new) c.self.view_is
    (searched t (g.F.Files.holds c.args.files.now) (g.F.Files.holds c.next_after.new.files) c.next_after.new.cache c.args.key c.index.result.now c.index.ensures (subst (λ (u : Trees). c.args.key < length u.places) (sym c.self.view_is) c.requires.key)
    c.walks_add_their_own.ensures.kept c.next_after.ensures.stays c.next_after.ensures.added c.next_after.ensures.cache)

pub returns-in_err-pair-clause-never : goal.returns-in_err-pair-clause-never
returns-in_err-pair-clause-never g c =
    let t : Trees = object c.self.inside.places.items c.self.inside.room c.self.inside.cache in
    let e = err_from_is_err_and c.from_residual.result c.from_residual.ensures.1 in
    if_err c.from_residual.result e.0 _ e.1
    (λ p d. subst (λ (u : Trees). IfStand (g.F.Files.holds c.args.files.now) u (λ m own lists. ⊥)) c.self.view_is
    (never_sought t (g.F.Files.holds c.args.files.now) c.args.key c.index.result.now c.index.ensures (subst (λ (u : Trees). c.args.key < length u.places) (sym c.self.view_is) c.requires.key) (c.in_err-pair.ensures.never p (sym e.2 ∙ d))))

pub returns-clause-least : goal.returns-clause-least
returns-clause-least g c =
    let t : Trees = object c.self.inside.places.items c.self.inside.room c.self.inside.cache in
    subst (λ (u : Trees). IfStand (g.F.Files.holds c.args.files.now) u (λ m own lists. IsLeastAbove (option_copied c.args.after) (list_of lists c.args.key) c.in_ok-pair.pair)) c.self.view_is
    (sought t (g.F.Files.holds c.args.files.now) c.args.key c.index.result.now (λ xs. IsLeastAbove (option_copied c.args.after) xs c.in_ok-pair.pair) c.index.ensures (subst (λ (u : Trees). c.args.key < length u.places) (sym c.self.view_is) c.requires.key) c.in_ok-pair.ensures.least)

pub returns-clause-stand : goal.returns-clause-stand
returns-clause-stand g c =
    let t : Trees = object c.self.inside.places.items c.self.inside.room c.self.inside.cache in
    let new : Trees = object c.self.inside.places.items c.self.inside.room c.next_after.new.cache in
    subst (λ (u : Trees). StillStand (g.F.Files.holds c.args.files.now) (g.F.Files.holds c.next_after.new.files) u new) c.self.view_is
    (searched t (g.F.Files.holds c.args.files.now) (g.F.Files.holds c.next_after.new.files) c.next_after.new.cache c.args.key c.index.result.now c.index.ensures (subst (λ (u : Trees). c.args.key < length u.places) (sym c.self.view_is) c.requires.key)
    c.walks_add_their_own.ensures.kept c.next_after.ensures.stays c.next_after.ensures.added c.next_after.ensures.cache)

pub returns-in_err-pair-clause-few : goal.returns-in_err-pair-clause-few
returns-in_err-pair-clause-few g c =
    let t : Trees = object c.self.inside.places.items c.self.inside.room c.self.inside.cache in
    subst (λ (u : Trees). IfStand (g.F.Files.holds c.args.files.now) u (λ m own lists. RoseByLevels (length (list_of lists c.args.key)) (g.F.Files.reads c.args.files.now) (g.F.Files.reads c.next_after.new.files))) c.self.view_is
    (short t (g.F.Files.holds c.args.files.now) c.args.key c.index.result.now (g.F.Files.reads c.args.files.now) (g.F.Files.reads c.next_after.new.files) c.searches_are_short.ensures c.index.ensures (subst (λ (u : Trees). c.args.key < length u.places) (sym c.self.view_is) c.requires.key) c.in_err-pair.ensures.few)

pub returns-in_err-pair-clause-asked : goal.returns-in_err-pair-clause-asked
returns-in_err-pair-clause-asked g c =
    let t : Trees = object c.self.inside.places.items c.self.inside.room c.self.inside.cache in
    subst (λ (u : Trees). IfStand (g.F.Files.holds c.args.files.now) u (λ m own lists. RoseByLevels (length (list_of lists c.args.key)) u.cache.counters.read_requests c.next_after.new.cache.counters.read_requests)) c.self.view_is
    (short t (g.F.Files.holds c.args.files.now) c.args.key c.index.result.now t.cache.counters.read_requests c.next_after.new.cache.counters.read_requests c.searches_are_short.ensures c.index.ensures (subst (λ (u : Trees). c.args.key < length u.places) (sym c.self.view_is) c.requires.key) c.in_err-pair.ensures.asked)

pub returns-clause-few : goal.returns-clause-few
returns-clause-few g c =
    let t : Trees = object c.self.inside.places.items c.self.inside.room c.self.inside.cache in
    subst (λ (u : Trees). IfStand (g.F.Files.holds c.args.files.now) u (λ m own lists. RoseByLevels (length (list_of lists c.args.key)) (g.F.Files.reads c.args.files.now) (g.F.Files.reads c.next_after.new.files))) c.self.view_is
    (short t (g.F.Files.holds c.args.files.now) c.args.key c.index.result.now (g.F.Files.reads c.args.files.now) (g.F.Files.reads c.next_after.new.files) c.searches_are_short.ensures c.index.ensures (subst (λ (u : Trees). c.args.key < length u.places) (sym c.self.view_is) c.requires.key) c.in_ok-pair.ensures.few)

pub returns-clause-asked : goal.returns-clause-asked
returns-clause-asked g c =
    let t : Trees = object c.self.inside.places.items c.self.inside.room c.self.inside.cache in
    subst (λ (u : Trees). IfStand (g.F.Files.holds c.args.files.now) u (λ m own lists. RoseByLevels (length (list_of lists c.args.key)) u.cache.counters.read_requests c.next_after.new.cache.counters.read_requests)) c.self.view_is
    (short t (g.F.Files.holds c.args.files.now) c.args.key c.index.result.now t.cache.counters.read_requests c.next_after.new.cache.counters.read_requests c.searches_are_short.ensures c.index.ensures (subst (λ (u : Trees). c.args.key < length u.places) (sym c.self.view_is) c.requires.key) c.in_ok-pair.ensures.asked)
