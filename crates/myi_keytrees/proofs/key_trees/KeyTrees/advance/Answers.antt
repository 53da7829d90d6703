use Rattle.std.proofs.Common.{◌<◌, List, length, refl, sym, ap, subst, ◌∙◌}
use Rattle.std.proofs.lemmas.Result.{err_from_is_err_and}
use Rattle.myi_search.specs.Cursor.{StandsIn, Advances}
use Rattle.myi_keycache.specs.Caching.{Caching}
use Rattle.myi_keylist.specs.declared.pair.Pair.{Pair}
use Rattle.myi_keytrees.specs.Trees.{Trees}
use Rattle.myi_keytrees.specs.Standing.{list_of, IfStand, StillStand, CanSearch, RoseByLevels}
use Rattle.myi_keytrees.proofs.StandLaws.{object}
use Rattle.myi_keytrees.proofs.SearchLaws.{can_walk, sought_once, never_sought, searched, short}
use Rattle.myi_keytrees.proofs.ToldLaws.{if_err}
use Rattle.myi_keytrees.proofs.key_trees.KeyTrees.advance.Goals as goal

pub advance-requires-clause-kept : goal.advance-requires-clause-kept
advance-requires-clause-kept g c = λ κs lives.
    let t : Trees = object c.self.inside.places.items c.self.inside.room c.self.inside.cache in
    can_walk g.F.Files.writable (g.F.Files.holds c.args.files.now) t c.args.key c.index.result.now c.index.ensures (subst (λ (u : Trees). c.args.key < length u.places) (sym c.self.view_is) c.requires.key)
    (subst (λ (u : Trees). CanSearch g.F.Files.writable (g.F.Files.holds c.args.files.now) u) (sym c.self.view_is) c.requires.kept)

pub returns-in_err-more-clause-stand : goal.returns-in_err-more-clause-stand
returns-in_err-more-clause-stand g c =
    let t : Trees = object c.self.inside.places.items c.self.inside.room c.self.inside.cache in
    let new : Trees = object c.self.inside.places.items c.self.inside.room c.advance.new.cache in
    subst (λ (u : Trees). StillStand (g.F.Files.holds c.args.files.now) (g.F.Files.holds c.advance.new.files) u new) c.self.view_is
    (searched t (g.F.Files.holds c.args.files.now) (g.F.Files.holds c.advance.new.files) c.advance.new.cache c.args.key c.index.result.now c.index.ensures (subst (λ (u : Trees). c.args.key < length u.places) (sym c.self.view_is) c.requires.key)
    c.walks_add_their_own.ensures.kept c.advance.ensures.stays c.advance.ensures.added c.advance.ensures.cache)

pub returns-in_err-more-clause-never : goal.returns-in_err-more-clause-never
returns-in_err-more-clause-never g c =
    let t : Trees = object c.self.inside.places.items c.self.inside.room c.self.inside.cache in
    let e = err_from_is_err_and c.from_residual.result c.from_residual.ensures.1 in
    if_err c.from_residual.result e.0 _ e.1
    (λ p d. subst (λ (u : Trees). IfStand (g.F.Files.holds c.args.files.now) u (λ m own lists. ⊥)) c.self.view_is
    (never_sought t (g.F.Files.holds c.args.files.now) c.args.key c.index.result.now c.index.ensures (subst (λ (u : Trees). c.args.key < length u.places) (sym c.self.view_is) c.requires.key) (c.in_err-more.ensures.never p (sym e.2 ∙ d))))

pub returns-clause-next : goal.returns-clause-next
returns-clause-next g c =
    let t : Trees = object c.self.inside.places.items c.self.inside.room c.self.inside.cache in
    let Goes : List Pair → Type 0 = λ xs. StandsIn xs c.args.cursor.now → Advances xs c.args.cursor.now c.advance.new.self c.in_ok-more.more in
    subst (λ (u : Trees). IfStand (g.F.Files.holds c.args.files.now) u (λ m own lists. Goes (list_of lists c.args.key))) c.self.view_is
    (sought_once t (g.F.Files.holds c.args.files.now) c.args.key c.index.result.now Goes c.index.ensures (subst (λ (u : Trees). c.args.key < length u.places) (sym c.self.view_is) c.requires.key) c.in_ok-more.ensures.next)

pub returns-clause-quiet : goal.returns-clause-quiet
returns-clause-quiet g c = λ some.
    let q = c.advance.ensures.quiet some in
    (refl, q.1, ap (λ (h : Caching). object c.self.inside.places.items c.self.inside.room h) q.2 ∙ c.self.view_is)

pub returns-in_err-more-clause-quiet : goal.returns-in_err-more-clause-quiet
returns-in_err-more-clause-quiet g c = λ some. let k = (c.in_err-more.ensures.quiet some).0 in absurd cc

pub returns-clause-stand : goal.returns-clause-stand
returns-clause-stand g c =
    let t : Trees = object c.self.inside.places.items c.self.inside.room c.self.inside.cache in
    let new : Trees = object c.self.inside.places.items c.self.inside.room c.advance.new.cache in
    subst (λ (u : Trees). StillStand (g.F.Files.holds c.args.files.now) (g.F.Files.holds c.advance.new.files) u new) c.self.view_is
    (searched t (g.F.Files.holds c.args.files.now) (g.F.Files.holds c.advance.new.files) c.advance.new.cache c.args.key c.index.result.now c.index.ensures (subst (λ (u : Trees). c.args.key < length u.places) (sym c.self.view_is) c.requires.key)
    c.walks_add_their_own.ensures.kept c.advance.ensures.stays c.advance.ensures.added c.advance.ensures.cache)

pub returns-in_err-more-clause-few : goal.returns-in_err-more-clause-few
returns-in_err-more-clause-few g c =
    let t : Trees = object c.self.inside.places.items c.self.inside.room c.self.inside.cache in
    subst (λ (u : Trees). IfStand (g.F.Files.holds c.args.files.now) u (λ m own lists. RoseByLevels (length (list_of lists c.args.key)) (g.F.Files.reads c.args.files.now) (g.F.Files.reads c.advance.new.files))) c.self.view_is
    (short t (g.F.Files.holds c.args.files.now) c.args.key c.index.result.now (g.F.Files.reads c.args.files.now) (g.F.Files.reads c.advance.new.files) c.searches_are_short.ensures c.index.ensures (subst (λ (u : Trees). c.args.key < length u.places) (sym c.self.view_is) c.requires.key) c.in_err-more.ensures.few)

pub returns-in_err-more-clause-asked : goal.returns-in_err-more-clause-asked
returns-in_err-more-clause-asked g c =
    let t : Trees = object c.self.inside.places.items c.self.inside.room c.self.inside.cache in
    subst (λ (u : Trees). IfStand (g.F.Files.holds c.args.files.now) u (λ m own lists. RoseByLevels (length (list_of lists c.args.key)) u.cache.counters.read_requests c.advance.new.cache.counters.read_requests)) c.self.view_is
    (short t (g.F.Files.holds c.args.files.now) c.args.key c.index.result.now t.cache.counters.read_requests c.advance.new.cache.counters.read_requests c.searches_are_short.ensures c.index.ensures (subst (λ (u : Trees). c.args.key < length u.places) (sym c.self.view_is) c.requires.key) c.in_err-more.ensures.asked)

pub returns-clause-few : goal.returns-clause-few
returns-clause-few g c =
    let t : Trees = object c.self.inside.places.items c.self.inside.room c.self.inside.cache in
    subst (λ (u : Trees). IfStand (g.F.Files.holds c.args.files.now) u (λ m own lists. RoseByLevels (length (list_of lists c.args.key)) (g.F.Files.reads c.args.files.now) (g.F.Files.reads c.advance.new.files))) c.self.view_is
    (short t (g.F.Files.holds c.args.files.now) c.args.key c.index.result.now (g.F.Files.reads c.args.files.now) (g.F.Files.reads c.advance.new.files) c.searches_are_short.ensures c.index.ensures (subst (λ (u : Trees). c.args.key < length u.places) (sym c.self.view_is) c.requires.key) c.in_ok-more.ensures.few)

pub returns-clause-asked : goal.returns-clause-asked
returns-clause-asked g c =
    let t : Trees = object c.self.inside.places.items c.self.inside.room c.self.inside.cache in
    subst (λ (u : Trees). IfStand (g.F.Files.holds c.args.files.now) u (λ m own lists. RoseByLevels (length (list_of lists c.args.key)) u.cache.counters.read_requests c.advance.new.cache.counters.read_requests)) c.self.view_is
    (short t (g.F.Files.holds c.args.files.now) c.args.key c.index.result.now t.cache.counters.read_requests c.advance.new.cache.counters.read_requests c.searches_are_short.ensures c.index.ensures (subst (λ (u : Trees). c.args.key < length u.places) (sym c.self.view_is) c.requires.key) c.in_ok-more.ensures.asked)
