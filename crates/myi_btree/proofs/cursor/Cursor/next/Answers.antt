use Rattle.std.proofs.Common.{◌∷◌, ℕ, Option, List, [], length, ap, subst, refl, arith}
use Rattle.myi_btree.specs.declared.event.Event as declared
use Rattle.myi_btree.specs.declared.place.TreeSetup.{TreeSetup}
use Rattle.myi_btree.specs.Serving.{View, nodes_at, GoesOn, ReadsAsked}
use Rattle.myi_btree.specs.Cursors.{event_of, events_of, CanGo, Moves, Rises, HasNoPage}
use Rattle.myi_btree.proofs.Inserted.{asks_none}
use Rattle.myi_btree.proofs.StepLaws.{steps_same}
use Rattle.myi_btree.proofs.CursorLaws.{moves_up, moves_on, risen_can, none_of, on_err}
use Rattle.myi_btree.proofs.cursor.Cursor.next.Goals as goal

pub returns-in-Some-clause-moves : goal.returns-in-Some-clause-moves
returns-in-Some-clause-moves g c = λ v seen k.
    let r : Rises c.args.self.now c.rise.new.self (event_of c.in-Some.event ∷ []) = subst (λ (o : Option declared.Event). Rises c.args.self.now c.rise.new.self (events_of o)) c.in-Some.is c.rise.ensures.rises in
    let p : HasNoPage (event_of c.in-Some.event ∷ []) = subst (λ (o : Option declared.Event). HasNoPage (events_of o)) c.in-Some.is c.rise.ensures.pair in
    moves_up c.args.self.now.setup.place.block_length (nodes_at c.args.self.now.setup.place v) v.asked seen c.args.self.now c.rise.new.self (event_of c.in-Some.event ∷ []) (ap (λ t. t.places.keys) c.rise.ensures.visited) k.has k.fits k.asks p r

pub returns-in-Some-clause-asked : goal.returns-in-Some-clause-asked
returns-in-Some-clause-asked g c = λ v seen k. asks_none c.args.self.now.setup.place v _ c.args.cache.now c.args.self.now.visited.places.keys _ _ k.goes (omega arith)

pub returns-in_err-go_down-in-Some-down-clause-served : goal.returns-in_err-go_down-in-Some-down-clause-served
returns-in_err-go_down-in-Some-down-clause-served g c = λ v seen k.
    let none = none_of c.rise.result c.in_default.not-Some in
    let r : Rises c.args.self.now c.rise.new.self [] = subst (λ (o : Option declared.Event). Rises c.args.self.now c.rise.new.self (events_of o)) none c.rise.ensures.rises in
    let can = risen_can c.args.self.now.setup.place v _ c.args.cache.now seen c.args.self.now c.rise.new.self c.rise.ensures.visited k r in
    (subst (λ (s : TreeSetup). (v : View) (seen : List ℕ) → CanGo s.place v (g.F.Files.holds c.args.files.now) c.args.cache.now seen c.rise.new.self → GoesOn s.place v (g.F.Files.holds c.go_down.new.files) c.go_down.new.cache c.go_down.new.self.visited) c.rise.ensures.setup c.go_down.ensures.served) v seen can

pub returns-in_err-go_down-in-Some-down-clause-asked : goal.returns-in_err-go_down-in-Some-down-clause-asked
returns-in_err-go_down-in-Some-down-clause-asked g c = λ v seen k.
    let none = none_of c.rise.result c.in_default.not-Some in
    let r : Rises c.args.self.now c.rise.new.self [] = subst (λ (o : Option declared.Event). Rises c.args.self.now c.rise.new.self (events_of o)) none c.rise.ensures.rises in
    let can = risen_can c.args.self.now.setup.place v _ c.args.cache.now seen c.args.self.now c.rise.new.self c.rise.ensures.visited k r in
    subst (λ (t : List ℕ). ReadsAsked c.args.self.now.setup.place v (g.F.Files.holds c.go_down.new.files) c.go_down.new.cache (g.F.Files.reads c.args.files.now) (g.F.Files.reads c.go_down.new.files) t) (ap (λ t. t.places.keys) c.rise.ensures.visited)
    ((subst (λ (s : TreeSetup). (v : View) (seen : List ℕ) → CanGo s.place v (g.F.Files.holds c.args.files.now) c.args.cache.now seen c.rise.new.self → ReadsAsked s.place v (g.F.Files.holds c.go_down.new.files) c.go_down.new.cache (g.F.Files.reads c.args.files.now) (g.F.Files.reads c.go_down.new.files) c.rise.new.self.visited.places.keys) c.rise.ensures.setup c.go_down.ensures.asked) v seen can)

pub returns-in_err-go_down-in-Some-down-clause-same : goal.returns-in_err-go_down-in-Some-down-clause-same
returns-in_err-go_down-in-Some-down-clause-same g c =
    let same : (v : View) (seen : List ℕ) → CanGo c.args.self.now.setup.place v (g.F.Files.holds c.args.files.now) c.args.cache.now seen c.args.self.now → Moves c.args.self.now.setup.place.block_length (nodes_at c.args.self.now.setup.place v) v.asked seen c.args.self.now c.go_down.new.self [] =
    λ v seen k.
    let none = none_of c.rise.result c.in_default.not-Some in
    let r : Rises c.args.self.now c.rise.new.self [] = subst (λ (o : Option declared.Event). Rises c.args.self.now c.rise.new.self (events_of o)) none c.rise.ensures.rises in
    let can = risen_can c.args.self.now.setup.place v _ c.args.cache.now seen c.args.self.now c.rise.new.self c.rise.ensures.visited k r in
    let m : Moves c.args.self.now.setup.place.block_length (nodes_at c.args.self.now.setup.place v) v.asked seen c.rise.new.self c.go_down.new.self [] =
    (subst (λ (s : TreeSetup). (v : View) (seen : List ℕ) → CanGo s.place v (g.F.Files.holds c.args.files.now) c.args.cache.now seen c.rise.new.self → Moves s.place.block_length (nodes_at s.place v) v.asked seen c.rise.new.self c.go_down.new.self []) c.rise.ensures.setup c.in_err-go_down-in-Some-down.ensures.same) v seen can in
    moves_on c.args.self.now.setup.place.block_length (nodes_at c.args.self.now.setup.place v) v.asked seen c.args.self.now c.rise.new.self c.go_down.new.self [] can.has k.fits k.asks r (λ a f. m) in
    on_err _ _ same

pub returns-in_ok-go_down-in-Some-down-clause-served : goal.returns-in_ok-go_down-in-Some-down-clause-served
returns-in_ok-go_down-in-Some-down-clause-served g c = λ v seen k.
    let none = none_of c.rise.result c.in_default.not-Some in
    let r : Rises c.args.self.now c.rise.new.self [] = subst (λ (o : Option declared.Event). Rises c.args.self.now c.rise.new.self (events_of o)) none c.rise.ensures.rises in
    let can = risen_can c.args.self.now.setup.place v _ c.args.cache.now seen c.args.self.now c.rise.new.self c.rise.ensures.visited k r in
    (subst (λ (s : TreeSetup). (v : View) (seen : List ℕ) → CanGo s.place v (g.F.Files.holds c.args.files.now) c.args.cache.now seen c.rise.new.self → GoesOn s.place v (g.F.Files.holds c.go_down.new.files) c.go_down.new.cache c.go_down.new.self.visited) c.rise.ensures.setup c.go_down.ensures.served) v seen can

pub returns-in_ok-go_down-in-Some-down-clause-asked : goal.returns-in_ok-go_down-in-Some-down-clause-asked
returns-in_ok-go_down-in-Some-down-clause-asked g c = λ v seen k.
    let none = none_of c.rise.result c.in_default.not-Some in
    let r : Rises c.args.self.now c.rise.new.self [] = subst (λ (o : Option declared.Event). Rises c.args.self.now c.rise.new.self (events_of o)) none c.rise.ensures.rises in
    let can = risen_can c.args.self.now.setup.place v _ c.args.cache.now seen c.args.self.now c.rise.new.self c.rise.ensures.visited k r in
    subst (λ (t : List ℕ). ReadsAsked c.args.self.now.setup.place v (g.F.Files.holds c.go_down.new.files) c.go_down.new.cache (g.F.Files.reads c.args.files.now) (g.F.Files.reads c.go_down.new.files) t) (ap (λ t. t.places.keys) c.rise.ensures.visited)
    ((subst (λ (s : TreeSetup). (v : View) (seen : List ℕ) → CanGo s.place v (g.F.Files.holds c.args.files.now) c.args.cache.now seen c.rise.new.self → ReadsAsked s.place v (g.F.Files.holds c.go_down.new.files) c.go_down.new.cache (g.F.Files.reads c.args.files.now) (g.F.Files.reads c.go_down.new.files) c.rise.new.self.visited.places.keys) c.rise.ensures.setup c.go_down.ensures.asked) v seen can)

pub returns-in_ok-go_down-in-Some-down-clause-moves : goal.returns-in_ok-go_down-in-Some-down-clause-moves
returns-in_ok-go_down-in-Some-down-clause-moves g c = λ v seen k.
    let none = none_of c.rise.result c.in_default.not-Some in
    let r : Rises c.args.self.now c.rise.new.self [] = subst (λ (o : Option declared.Event). Rises c.args.self.now c.rise.new.self (events_of o)) none c.rise.ensures.rises in
    let can = risen_can c.args.self.now.setup.place v _ c.args.cache.now seen c.args.self.now c.rise.new.self c.rise.ensures.visited k r in
    let given = event_of c.in_ok-go_down-in-Some-down.field-0 ∷ [] in
    let m : Moves c.args.self.now.setup.place.block_length (nodes_at c.args.self.now.setup.place v) v.asked seen c.rise.new.self c.go_down.new.self given =
    (subst (λ (s : TreeSetup). (v : View) (seen : List ℕ) → CanGo s.place v (g.F.Files.holds c.args.files.now) c.args.cache.now seen c.rise.new.self → Moves s.place.block_length (nodes_at s.place v) v.asked seen c.rise.new.self c.go_down.new.self (event_of c.in_ok-go_down-in-Some-down.field-0 ∷ [])) c.rise.ensures.setup c.in_ok-go_down-in-Some-down.ensures.moves) v seen can in
    moves_on c.args.self.now.setup.place.block_length (nodes_at c.args.self.now.setup.place v) v.asked seen c.args.self.now c.rise.new.self c.go_down.new.self given can.has k.fits k.asks r (λ a f. m)

pub returns-in-None-clause-moves : goal.returns-in-None-clause-moves
returns-in-None-clause-moves g c = λ v seen k.
    let none = none_of c.rise.result c.in_default.not-Some in
    let r : Rises c.args.self.now c.rise.new.self [] = subst (λ (o : Option declared.Event). Rises c.args.self.now c.rise.new.self (events_of o)) none c.rise.ensures.rises in
    moves_up c.args.self.now.setup.place.block_length (nodes_at c.args.self.now.setup.place v) v.asked seen c.args.self.now c.rise.new.self [] (ap (λ t. t.places.keys) c.rise.ensures.visited) k.has k.fits k.asks (refl, refl) r

pub returns-in-None-clause-asked : goal.returns-in-None-clause-asked
returns-in-None-clause-asked g c = λ v seen k. asks_none c.args.self.now.setup.place v _ c.args.cache.now c.args.self.now.visited.places.keys _ _ k.goes (omega arith)

pub returns-in-Some-clause-fewer : goal.returns-in-Some-clause-fewer
returns-in-Some-clause-fewer g c = steps_same c.args.self.now c.rise.new.self 1 (ap (λ t. t.places.keys) c.rise.ensures.visited) (omega (arith, c.rise.ensures.hand, ap (λ (o : Option declared.Event). length (events_of o)) c.in-Some.is))

pub returns-in_ok-go_down-in-Some-down-clause-fewer : goal.returns-in_ok-go_down-in-Some-down-clause-fewer
returns-in_ok-go_down-in-Some-down-clause-fewer g c = omega (arith, c.in_ok-go_down-in-Some-down.ensures.fewer, steps_same c.args.self.now c.rise.new.self 0 (ap (λ t. t.places.keys) c.rise.ensures.visited) (omega (arith, c.rise.ensures.hand)))

pub returns-in-None-clause-fewer : goal.returns-in-None-clause-fewer
returns-in-None-clause-fewer g c = steps_same c.args.self.now c.rise.new.self 0 (ap (λ t. t.places.keys) c.rise.ensures.visited) (omega (arith, c.rise.ensures.hand))
