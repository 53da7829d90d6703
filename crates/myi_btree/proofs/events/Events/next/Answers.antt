use Rattle.std.proofs.Common.{ℕ, ◌+◌, ◌≤◌, length, List, [], OnErr, subst}
use Rattle.std.specs.Prelude.{IfOk}
use Rattle.myi_btree.specs.Serving.{View, nodes_at, IsServed}
use Rattle.myi_btree.specs.Walking.{Walking, steps_left, MayGo, Goes}
use Rattle.myi_btree.specs.Cursors.{events_of, walking_of}
use Rattle.myi_btree.proofs.events.Events.next.Goals as goal

pub returns-clause-goes : goal.returns-clause-goes
returns-clause-goes g c = subst (λ (w : Walking). IfOk c.next.result (λ event. (v : View) (seen : List ℕ) → MayGo w.place v (g.F.Files.holds c.args.files.now) c.args.cache.now seen w
    → Goes w.place.block_length (nodes_at w.place v) v.asked seen w (walking_of c.next.new.self) (events_of event))) c.self.view_is c.next.ensures.moves

pub returns-clause-served : goal.returns-clause-served
returns-clause-served g c = subst (λ (w : Walking). (v : View) (seen : List ℕ) → MayGo w.place v (g.F.Files.holds c.args.files.now) c.args.cache.now seen w
    → IsServed w.place v (g.F.Files.holds c.next.new.files) c.next.new.cache c.next.new.self.visited.places.keys) c.self.view_is c.next.ensures.served

pub returns-clause-same : goal.returns-clause-same
returns-clause-same g c = subst (λ (w : Walking). OnErr c.next.result ((v : View) (seen : List ℕ) → MayGo w.place v (g.F.Files.holds c.args.files.now) c.args.cache.now seen w
    → Goes w.place.block_length (nodes_at w.place v) v.asked seen w (walking_of c.next.new.self) [])) c.self.view_is c.next.ensures.same

pub returns-clause-fewer : goal.returns-clause-fewer
returns-clause-fewer g c = subst (λ (w : Walking). IfOk c.next.result (λ event. steps_left (walking_of c.next.new.self) + length (events_of event) ≤ steps_left w)) c.self.view_is c.next.ensures.fewer
