use Rattle.std.proofs.Common.{◌≡◌, ℕ, Option, [], sym, subst}
use Rattle.myi_base.specs.Holding.{Holding, IfTold}
use Rattle.myi_keycache.specs.Caching.{Caching, IsCurrent}
use Rattle.myi_btree.specs.declared.place.Place.{Place}
use Rattle.myi_btree.specs.declared.place.TreeSetup.{TreeSetup}
use Rattle.myi_btree.specs.Events.{FindsPairs, FindsBad, pairs_in}
use Rattle.myi_btree.specs.CachedTrees.{node_lent, CanWalk, AddsNamed, ReadsOnce, CountsPages}
use Rattle.myi_btree.specs.Serving.{View, view, nodes_at, GoesOn, ReadsAsked}
use Rattle.myi_btree.specs.Cursors.{CanGo, Runs, RunsInto}
use Rattle.myi_btree.proofs.NodeShape.{lent_shape}
use Rattle.myi_btree.proofs.FewMet.{reads_told, counts_told}
use Rattle.myi_btree.proofs.StartLaws.{Begins, begins, stays_told, added_told}
use Rattle.myi_btree.proofs.TreeWalks.{IsFirst, first_can, run_pairs, run_bad, run_count, if_ok_so, if_err_so, both_ok}
use Rattle.myi_btree.proofs.tree.Tree.walk.Goals as goal

pub returns-clause-pairs : goal.returns-clause-pairs
returns-clause-pairs g c =
    let place : Place = c.self.inside.place in
    let told : Option Holding = g.F.Files.holds c.args.files.now in
    let cache : Caching = c.args.cache.now in
    let root : ℕ = c.in-Some.root in
    let first : IsFirst c.new-2.result root = record { height = c.new-2.ensures.height; down = c.new-2.ensures.down; path = c.new-2.ensures.path; none = c.new-2.ensures.visited } in
    let may : CanWalk g.F.Files.writable told place cache = subst (λ (p : Place). CanWalk g.F.Files.writable told p cache) (sym c.self.view_is) c.requires.kept in
    if_ok_so c.run.result _ _ c.run.ensures.ran (λ pairs ran m held current.
    let b : Begins place told cache m root = begins g.F.Files.writable place told cache m root may held current c.in-Some.is in
    let v : View = view cache m b.asked in
    let r : Runs place.block_length (nodes_at place v) c.new-2.result c.run.new.self (λ es. pairs_in es ≡ pairs.items) = (subst (λ (s : TreeSetup). (v : View) → CanGo s.place v (g.F.Files.holds c.args.files.now) c.args.cache.now [] c.new-2.result → Runs s.place.block_length (nodes_at s.place v) c.new-2.result c.run.new.self (λ es. pairs_in es ≡ pairs.items)) c.new-2.ensures.setup ran) v (first_can place (view cache m b.asked) told cache root c.new-2.result b.serves b.at first) in
    subst (λ (p : Place). FindsPairs p.block_length (node_lent p cache m) p.root pairs.items) c.self.view_is
    (run_pairs place.block_length root (node_lent place cache m) place.root c.new-2.result c.run.new.self pairs.items c.in-Some.is first r))

pub returns-clause-damaged : goal.returns-clause-damaged
returns-clause-damaged g c =
    let place : Place = c.self.inside.place in
    let told : Option Holding = g.F.Files.holds c.args.files.now in
    let cache : Caching = c.args.cache.now in
    let root : ℕ = c.in-Some.root in
    let first : IsFirst c.new-2.result root = record { height = c.new-2.ensures.height; down = c.new-2.ensures.down; path = c.new-2.ensures.path; none = c.new-2.ensures.visited } in
    let may : CanWalk g.F.Files.writable told place cache = subst (λ (p : Place). CanWalk g.F.Files.writable told p cache) (sym c.self.view_is) c.requires.kept in
    if_err_so c.run.result _ _ c.run.ensures.damaged (λ fault f at d m held current.
    let b : Begins place told cache m root = begins g.F.Files.writable place told cache m root may held current c.in-Some.is in
    let v : View = view cache m b.asked in
    let r : RunsInto place.block_length (nodes_at place v) c.new-2.result at = (subst (λ (s : TreeSetup). (v : View) → CanGo s.place v (g.F.Files.holds c.args.files.now) c.args.cache.now [] c.new-2.result → RunsInto s.place.block_length (nodes_at s.place v) c.new-2.result at) c.new-2.ensures.setup (f at d)) v (first_can place (view cache m b.asked) told cache root c.new-2.result b.serves b.at first) in
    subst (λ (p : Place). FindsBad p.block_length (node_lent p cache m) p.root at) c.self.view_is
    (run_bad place.block_length root (node_lent place cache m) place.root c.new-2.result at c.in-Some.is first r))

pub returns-clause-stays : goal.returns-clause-stays
returns-clause-stays g c =
    let place : Place = c.self.inside.place in
    let told : Option Holding = g.F.Files.holds c.args.files.now in
    let cache : Caching = c.args.cache.now in
    let root : ℕ = c.in-Some.root in
    let first : IsFirst c.new-2.result root = record { height = c.new-2.ensures.height; down = c.new-2.ensures.down; path = c.new-2.ensures.path; none = c.new-2.ensures.visited } in
    let may : CanWalk g.F.Files.writable told place cache = subst (λ (p : Place). CanWalk g.F.Files.writable told p cache) (sym c.self.view_is) c.requires.kept in
    stays_told g.F.Files.writable place told (g.F.Files.holds c.run.new.files) cache c.run.new.cache root may c.in-Some.is c.run.ensures.cache
    (λ m b. ((subst (λ (s : TreeSetup). (v : View) → CanGo s.place v (g.F.Files.holds c.args.files.now) c.args.cache.now [] c.new-2.result → GoesOn s.place v (g.F.Files.holds c.run.new.files) c.run.new.cache c.run.new.self.visited) c.new-2.ensures.setup c.run.ensures.served) (view cache m b.asked) (first_can place (view cache m b.asked) told cache root c.new-2.result b.serves b.at first)).serves)

pub returns-clause-added : goal.returns-clause-added
returns-clause-added g c =
    let place : Place = c.self.inside.place in
    let told : Option Holding = g.F.Files.holds c.args.files.now in
    let cache : Caching = c.args.cache.now in
    let root : ℕ = c.in-Some.root in
    let first : IsFirst c.new-2.result root = record { height = c.new-2.ensures.height; down = c.new-2.ensures.down; path = c.new-2.ensures.path; none = c.new-2.ensures.visited } in
    let may : CanWalk g.F.Files.writable told place cache = subst (λ (p : Place). CanWalk g.F.Files.writable told p cache) (sym c.self.view_is) c.requires.kept in
    subst (λ (p : Place). IfTold told (λ m. IsCurrent cache m → AddsNamed p cache m c.run.new.cache)) c.self.view_is
    (added_told g.F.Files.writable place told (g.F.Files.holds c.run.new.files) cache c.run.new.cache root may c.in-Some.is
    (λ m b. ((subst (λ (s : TreeSetup). (v : View) → CanGo s.place v (g.F.Files.holds c.args.files.now) c.args.cache.now [] c.new-2.result → GoesOn s.place v (g.F.Files.holds c.run.new.files) c.run.new.cache c.run.new.self.visited) c.new-2.ensures.setup c.run.ensures.served) (view cache m b.asked) (first_can place (view cache m b.asked) told cache root c.new-2.result b.serves b.at first)).serves))

pub returns-clause-once : goal.returns-clause-once
returns-clause-once g c =
    let place : Place = c.self.inside.place in
    let told : Option Holding = g.F.Files.holds c.args.files.now in
    let cache : Caching = c.args.cache.now in
    let root : ℕ = c.in-Some.root in
    let first : IsFirst c.new-2.result root = record { height = c.new-2.ensures.height; down = c.new-2.ensures.down; path = c.new-2.ensures.path; none = c.new-2.ensures.visited } in
    let may : CanWalk g.F.Files.writable told place cache = subst (λ (p : Place). CanWalk g.F.Files.writable told p cache) (sym c.self.view_is) c.requires.kept in
    subst (λ (p : Place). IfTold told (λ m. IsCurrent cache m → ReadsOnce p cache m (g.F.Files.reads c.args.files.now) (g.F.Files.reads c.run.new.files))) c.self.view_is
    (reads_told g.F.Files.writable place told (g.F.Files.holds c.run.new.files) cache c.run.new.cache c.new-2.result.visited.places.keys root (g.F.Files.reads c.args.files.now) (g.F.Files.reads c.run.new.files) may c.in-Some.is c.new-2.ensures.visited
    (λ m b. (subst (λ (s : TreeSetup). (v : View) → CanGo s.place v (g.F.Files.holds c.args.files.now) c.args.cache.now [] c.new-2.result → ReadsAsked s.place v (g.F.Files.holds c.run.new.files) c.run.new.cache (g.F.Files.reads c.args.files.now) (g.F.Files.reads c.run.new.files) c.new-2.result.visited.places.keys) c.new-2.ensures.setup c.run.ensures.asked) (view cache m b.asked) (first_can place (view cache m b.asked) told cache root c.new-2.result b.serves b.at first)))

pub returns-clause-counted : goal.returns-clause-counted
returns-clause-counted g c =
    let place : Place = c.self.inside.place in
    let told : Option Holding = g.F.Files.holds c.args.files.now in
    let cache : Caching = c.args.cache.now in
    let root : ℕ = c.in-Some.root in
    let first : IsFirst c.new-2.result root = record { height = c.new-2.ensures.height; down = c.new-2.ensures.down; path = c.new-2.ensures.path; none = c.new-2.ensures.visited } in
    let may : CanWalk g.F.Files.writable told place cache = subst (λ (p : Place). CanWalk g.F.Files.writable told p cache) (sym c.self.view_is) c.requires.kept in
    both_ok c.run.result _ _ _ c.run.ensures.ran c.run.ensures.counted (λ pairs ran counted m held current.
    let b : Begins place told cache m root = begins g.F.Files.writable place told cache m root may held current c.in-Some.is in
    let v : View = view cache m b.asked in
    let r : Runs place.block_length (nodes_at place v) c.new-2.result c.run.new.self (λ es. pairs_in es ≡ pairs.items) = (subst (λ (s : TreeSetup). (v : View) → CanGo s.place v (g.F.Files.holds c.args.files.now) c.args.cache.now [] c.new-2.result → Runs s.place.block_length (nodes_at s.place v) c.new-2.result c.run.new.self (λ es. pairs_in es ≡ pairs.items)) c.new-2.ensures.setup ran) v (first_can place (view cache m b.asked) told cache root c.new-2.result b.serves b.at first) in
    subst (λ (p : Place). CountsPages p cache m c.run.new.cache) c.self.view_is
    (counts_told place cache c.run.new.cache m root c.new-2.result.visited.places.keys c.run.new.self.visited.places.keys c.new-2.ensures.visited counted c.in-Some.is
    (run_count place.block_length root (node_lent place cache m) c.new-2.result c.run.new.self (λ es. pairs_in es ≡ pairs.items) (lent_shape place cache m) first r)))
