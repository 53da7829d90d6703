use Rattle.std.proofs.Common.{◌∙◌, ◌∷◌, ◌++◌, ℕ, List, [], ◌≡◌, suc, length, ap, sym, subst, refl, arith}
use Rattle.std.proofs.lemmas.List.{length-append}
use Rattle.myi_btree.specs.Walk.{Places}
use Rattle.myi_btree.specs.Visit.{entered}
use Rattle.myi_btree.specs.Visited.{HasPlaces, node_left}
use Rattle.myi_btree.specs.Serving.{View, nodes_at}
use Rattle.myi_btree.specs.Cursors.{event_of, walking_of, CanGo, Moves}
use Rattle.myi_btree.proofs.Named.{children_asked}
use Rattle.myi_btree.proofs.ServeLaws.{goes_same}
use Rattle.myi_btree.proofs.Inserted.{asks_none}
use Rattle.myi_btree.specs.Walking.{at_hand}
use Rattle.myi_btree.proofs.StepLaws.{done_hand, some_hand, same_hand, steps_page, steps_same}
use Rattle.myi_btree.proofs.CursorLaws.{can_enter, moves_into, moves_none, moves_same, on_err}
use Rattle.myi_btree.proofs.cursor.Cursor.go_down.Goals as goal

pub returns-in_err-reserve-clause-same : goal.returns-in_err-reserve-clause-same
returns-in_err-reserve-clause-same g c =
    let same : (v : View) (seen : List ℕ) → CanGo c.args.self.now.setup.place v (g.F.Files.holds c.args.files.now) c.args.cache.now seen c.args.self.now → Moves c.args.self.now.setup.place.block_length (nodes_at c.args.self.now.setup.place v) v.asked seen c.args.self.now (record c.args.self.now { path = c.reserve.new.self }) [] =
    λ v seen k. moves_same c.args.self.now.setup.place.block_length (nodes_at c.args.self.now.setup.place v) v.asked seen c.args.self.now (record c.args.self.now { path = c.reserve.new.self }) refl refl c.reserve.ensures.items refl k.has k.fits k.asks in
    on_err _ _ same

pub returns-in_err-reserve-clause-served : goal.returns-in_err-reserve-clause-served
returns-in_err-reserve-clause-served g c = λ v seen k. k.goes

pub returns-in_err-reserve-clause-asked : goal.returns-in_err-reserve-clause-asked
returns-in_err-reserve-clause-asked g c = λ v seen k. asks_none c.args.self.now.setup.place v _ c.args.cache.now c.args.self.now.visited.places.keys _ _ k.goes (omega arith)

pub returns-in-Ok-clause-served : goal.returns-in-Ok-clause-served
returns-in-Ok-clause-served g c = λ v seen k.
    goes_same c.args.self.now.setup.place v _ c.enter.new.cache c.enter.new.visited c.open_page.new.self.visited (ap (λ t. t.places.keys) c.open_page.ensures.visited) (c.enter.ensures.served v seen (can_enter _ v _ _ seen c.args.self.now c.args.at k c.requires.down))

pub returns-in-Ok-clause-asked : goal.returns-in-Ok-clause-asked
returns-in-Ok-clause-asked g c = λ v seen k. c.enter.ensures.asked v seen (can_enter _ v _ _ seen c.args.self.now c.args.at k c.requires.down)

pub returns-in-Ok-clause-moves : goal.returns-in-Ok-clause-moves
returns-in-Ok-clause-moves g c = λ v seen k.
    let block : ℕ = c.args.self.now.setup.place.block_length in
    let read : Places = nodes_at c.args.self.now.setup.place v in
    let can = can_enter _ v _ _ seen c.args.self.now c.args.at k c.requires.down in
    let e = c.in-Ok.ensures.node v seen can in
    let at = c.in-Ok.ensures.at in
    let e2 = ap (λ (p : ℕ). entered block read p seen) at ∙ e in
    let all = children_asked block read c.args.at seen (node_left c.in-Ok.page) v.asked k.goes.serves.closed e can.asked in
    let met : HasPlaces c.enter.new.visited.places.keys (seen ++ c.in-Ok.page.at ∷ []) = subst (λ (p : ℕ). HasPlaces c.enter.new.visited.places.keys (seen ++ p ∷ [])) (sym at) (c.in-Ok.ensures.met seen k.has) in
    moves_into block read v.asked seen c.args.self.now (record c.args.self.now { path = c.reserve.new.self; visited = c.enter.new.visited }) c.open_page.new.self c.in-Ok.page (event_of c.open_page.result) refl refl c.reserve.ensures.items k.fits k.asks all e2
    (subst (λ t. HasPlaces t.places.keys (seen ++ c.in-Ok.page.at ∷ [])) (sym c.open_page.ensures.visited) met) c.open_page.ensures.opens

pub returns-in-Err-Damaged-clause-moves : goal.returns-in-Err-Damaged-clause-moves
returns-in-Err-Damaged-clause-moves g c = λ v seen k.
    let can = can_enter _ v _ _ seen c.args.self.now c.args.at k c.requires.down in
    let e = c.in-Err-Damaged.ensures.damaged c.in-Err-Damaged.field-0-0 c.in-Err-Damaged.field-0-is v seen can in
    moves_none c.args.self.now.setup.place.block_length (nodes_at c.args.self.now.setup.place v) v.asked seen c.args.self.now c.stop.new.self c.args.at (event_of c.stop.result) k.fits c.requires.down e c.stop.ensures.done (ap event_of c.stop.ensures.event)

pub returns-in-Err-Damaged-clause-served : goal.returns-in-Err-Damaged-clause-served
returns-in-Err-Damaged-clause-served g c = λ v seen k.
    goes_same c.args.self.now.setup.place v _ c.enter.new.cache c.enter.new.visited c.stop.new.self.visited (ap (λ t. t.places.keys) c.stop.ensures.visited) (c.enter.ensures.served v seen (can_enter _ v _ _ seen c.args.self.now c.args.at k c.requires.down))

pub returns-in-Err-Damaged-clause-asked : goal.returns-in-Err-Damaged-clause-asked
returns-in-Err-Damaged-clause-asked g c = λ v seen k. c.enter.ensures.asked v seen (can_enter _ v _ _ seen c.args.self.now c.args.at k c.requires.down)

pub returns-in-Err-File-clause-served : goal.returns-in-Err-File-clause-served
returns-in-Err-File-clause-served g c = λ v seen k. c.enter.ensures.served v seen (can_enter _ v _ _ seen c.args.self.now c.args.at k c.requires.down)

pub returns-in-Err-File-clause-asked : goal.returns-in-Err-File-clause-asked
returns-in-Err-File-clause-asked g c = λ v seen k. c.enter.ensures.asked v seen (can_enter _ v _ _ seen c.args.self.now c.args.at k c.requires.down)

pub returns-in-Err-File-clause-same : goal.returns-in-Err-File-clause-same
returns-in-Err-File-clause-same g c = λ v seen k. moves_same c.args.self.now.setup.place.block_length (nodes_at c.args.self.now.setup.place v) v.asked seen c.args.self.now (record c.args.self.now { path = c.reserve.new.self; visited = c.enter.new.visited }) refl refl c.reserve.ensures.items c.in-Err-File.ensures.same k.has k.fits k.asks

pub returns-in-Err-Memory-clause-served : goal.returns-in-Err-Memory-clause-served
returns-in-Err-Memory-clause-served g c = λ v seen k. c.enter.ensures.served v seen (can_enter _ v _ _ seen c.args.self.now c.args.at k c.requires.down)

pub returns-in-Err-Memory-clause-asked : goal.returns-in-Err-Memory-clause-asked
returns-in-Err-Memory-clause-asked g c = λ v seen k. c.enter.ensures.asked v seen (can_enter _ v _ _ seen c.args.self.now c.args.at k c.requires.down)

pub returns-in-Err-Memory-clause-same : goal.returns-in-Err-Memory-clause-same
returns-in-Err-Memory-clause-same g c = λ v seen k. moves_same c.args.self.now.setup.place.block_length (nodes_at c.args.self.now.setup.place v) v.asked seen c.args.self.now (record c.args.self.now { path = c.reserve.new.self; visited = c.enter.new.visited }) refl refl c.reserve.ensures.items c.in-Err-Memory.ensures.same k.has k.fits k.asks

pub returns-in-Ok-clause-fewer : goal.returns-in-Ok-clause-fewer
returns-in-Ok-clause-fewer g c =
    let met : HasPlaces c.enter.new.visited.places.keys (c.args.self.now.visited.places.keys ++ c.args.at ∷ []) = c.in-Ok.ensures.met c.args.self.now.visited.places.keys (λ test. refl, refl) in
    let long : length c.open_page.new.self.visited.places.keys ≡ suc (length c.args.self.now.visited.places.keys) = omega (arith, met.1, length-append c.args.self.now.visited.places.keys (c.args.at ∷ []), ap (λ t. length t.places.keys) c.open_page.ensures.visited) in
    let hand : at_hand (walking_of (record c.args.self.now { path = c.reserve.new.self; visited = c.enter.new.visited })) ≡ at_hand (walking_of c.args.self.now) = same_hand c.args.self.now (record c.args.self.now { path = c.reserve.new.self; visited = c.enter.new.visited }) refl c.reserve.ensures.items in
    steps_page c.args.self.now c.open_page.new.self (node_left c.in-Ok.page) _ long c.enter.ensures.small c.in-Ok.ensures.few hand c.open_page.ensures.hand

pub returns-in-Err-Damaged-clause-fewer : goal.returns-in-Err-Damaged-clause-fewer
returns-in-Err-Damaged-clause-fewer g c = steps_same c.args.self.now c.stop.new.self 1 (ap (λ t. t.places.keys) c.stop.ensures.visited ∙ c.in-Err-Damaged.ensures.same) (omega (arith, done_hand c.stop.new.self c.stop.ensures.done, some_hand c.args.self.now c.args.at c.requires.down))
