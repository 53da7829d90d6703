use Rattle.std.proofs.Common.{◌≡◌, ◌∙◌, ◌∷◌, ◌++◌, ℕ, Option, List, [], append-nil, ap, sym, subst, refl, arith}
use Rattle.myi_keylist.specs.declared.pair.Pair.{Pair}
use Rattle.myi_btree.specs.declared.event.Event as declared
use Rattle.myi_btree.specs.declared.place.TreeSetup.{TreeSetup}
use Rattle.myi_btree.specs.Events.{Event, page, pair, first_bad, pairs_in, pages_in}
use Rattle.myi_btree.specs.Serving.{View, nodes_at, GoesOn, ReadsAsked}
use Rattle.myi_btree.specs.Cursors.{event_of, events_of, CanGo, Moves, RunsInto}
use Rattle.myi_btree.proofs.WalkLaws.{same_place}
use Rattle.myi_btree.proofs.EventLaws.{pairs-append}
use Rattle.myi_btree.proofs.ServeLaws.{reads_on, reads_more, counts_on, kept_on}
use Rattle.myi_btree.proofs.Inserted.{asked_on}
use Rattle.myi_btree.proofs.CursorLaws.{none_of, goes_on, runs, runs_into}
use Rattle.myi_btree.proofs.cursor.Cursor.run.Goals as goal

pub returns-in_err-event-clause-served : goal.returns-in_err-event-clause-served
returns-in_err-event-clause-served g c = λ v k.
    let q = c.loop-pairs.invariant.goes v k in
    (subst (λ (s : TreeSetup). (v : View) (seen : List ℕ) → CanGo s.place v (g.F.Files.holds c.loop-pairs.files) c.loop-pairs.cache seen c.loop-pairs.self → GoesOn s.place v (g.F.Files.holds c.next.new.files) c.next.new.cache c.next.new.self.visited) c.loop-pairs.invariant.setup c.next.ensures.served) v (pages_in q.events) q.can

pub returns-in_err-event-clause-cache : goal.returns-in_err-event-clause-cache
returns-in_err-event-clause-cache g c = reads_on _ _ _ c.args.cache.now c.loop-pairs.cache c.next.new.cache c.loop-pairs.invariant.cache c.next.ensures.cache

pub returns-clause-served : goal.returns-clause-served
returns-clause-served g c = λ v k.
    let q = c.loop-pairs.invariant.goes v k in
    (subst (λ (s : TreeSetup). (v : View) (seen : List ℕ) → CanGo s.place v (g.F.Files.holds c.loop-pairs.files) c.loop-pairs.cache seen c.loop-pairs.self → GoesOn s.place v (g.F.Files.holds c.next.new.files) c.next.new.cache c.next.new.self.visited) c.loop-pairs.invariant.setup c.next.ensures.served) v (pages_in q.events) q.can

pub returns-clause-cache : goal.returns-clause-cache
returns-clause-cache g c = reads_on _ _ _ c.args.cache.now c.loop-pairs.cache c.next.new.cache c.loop-pairs.invariant.cache c.next.ensures.cache

pub returns-in_err-push-in-Pair-clause-served : goal.returns-in_err-push-in-Pair-clause-served
returns-in_err-push-in-Pair-clause-served g c = λ v k.
    let q = c.loop-pairs.invariant.goes v k in
    (subst (λ (s : TreeSetup). (v : View) (seen : List ℕ) → CanGo s.place v (g.F.Files.holds c.loop-pairs.files) c.loop-pairs.cache seen c.loop-pairs.self → GoesOn s.place v (g.F.Files.holds c.next.new.files) c.next.new.cache c.next.new.self.visited) c.loop-pairs.invariant.setup c.next.ensures.served) v (pages_in q.events) q.can

pub returns-in_err-push-in-Pair-clause-cache : goal.returns-in_err-push-in-Pair-clause-cache
returns-in_err-push-in-Pair-clause-cache g c = reads_on _ _ _ c.args.cache.now c.loop-pairs.cache c.next.new.cache c.loop-pairs.invariant.cache c.next.ensures.cache

pub returns-in-Bad-clause-served : goal.returns-in-Bad-clause-served
returns-in-Bad-clause-served g c = λ v k.
    let q = c.loop-pairs.invariant.goes v k in
    (subst (λ (s : TreeSetup). (v : View) (seen : List ℕ) → CanGo s.place v (g.F.Files.holds c.loop-pairs.files) c.loop-pairs.cache seen c.loop-pairs.self → GoesOn s.place v (g.F.Files.holds c.next.new.files) c.next.new.cache c.next.new.self.visited) c.loop-pairs.invariant.setup c.next.ensures.served) v (pages_in q.events) q.can

pub returns-in-Bad-clause-cache : goal.returns-in-Bad-clause-cache
returns-in-Bad-clause-cache g c = reads_on _ _ _ c.args.cache.now c.loop-pairs.cache c.next.new.cache c.loop-pairs.invariant.cache c.next.ensures.cache

pub returns-clause-ran : goal.returns-clause-ran
returns-clause-ran g c = λ v k.
    let q = c.loop-pairs.invariant.goes v k in
    let none = none_of c.in_ok-event.field-0 c.in_default.not-Some in
    let m = subst (λ (t : List Event). Moves c.args.self.now.setup.place.block_length (nodes_at c.args.self.now.setup.place v) v.asked (pages_in q.events) c.loop-pairs.self c.next.new.self t) (ap events_of none) ((subst (λ (s : TreeSetup). (v : View) (seen : List ℕ) → CanGo s.place v (g.F.Files.holds c.loop-pairs.files) c.loop-pairs.cache seen c.loop-pairs.self → Moves s.place.block_length (nodes_at s.place v) v.asked seen c.loop-pairs.self c.next.new.self (events_of c.in_ok-event.field-0)) c.loop-pairs.invariant.setup c.in_ok-event.ensures.moves) v (pages_in q.events) q.can) in
    runs c.args.self.now.setup.place v _ c.loop-pairs.cache c.args.self.now c.loop-pairs.self c.next.new.self (λ es. pairs_in es ≡ c.loop-pairs.pairs.items) q m (c.in_ok-event.ensures.done none)

pub returns-clause-counted : goal.returns-clause-counted
returns-clause-counted g c =
    let none = none_of c.in_ok-event.field-0 c.in_default.not-Some in
    counts_on c.args.cache.now c.loop-pairs.cache c.next.new.cache c.args.self.now.visited.places.keys c.loop-pairs.self.visited.places.keys c.next.new.self.visited.places.keys c.loop-pairs.invariant.counted
    (c.in_ok-event.ensures.counted (ap (λ (o : Option declared.Event). first_bad (events_of o)) none))

pub returns-in-Bad-clause-damaged : goal.returns-in-Bad-clause-damaged
returns-in-Bad-clause-damaged g c = λ p e v k.
    let q = c.loop-pairs.invariant.goes v k in
    let is = ap events_of c.in-Some.is ∙ ap (λ (t : declared.Event). event_of t ∷ []) c.in-Bad.is in
    let m = subst (λ (t : List Event). Moves c.args.self.now.setup.place.block_length (nodes_at c.args.self.now.setup.place v) v.asked (pages_in q.events) c.loop-pairs.self c.next.new.self t) is ((subst (λ (s : TreeSetup). (v : View) (seen : List ℕ) → CanGo s.place v (g.F.Files.holds c.loop-pairs.files) c.loop-pairs.cache seen c.loop-pairs.self → Moves s.place.block_length (nodes_at s.place v) v.asked seen c.loop-pairs.self c.next.new.self (events_of c.in_ok-event.field-0)) c.loop-pairs.invariant.setup c.in_ok-event.ensures.moves) v (pages_in q.events) q.can) in
    subst (λ (n : ℕ). RunsInto c.args.self.now.setup.place.block_length (nodes_at c.args.self.now.setup.place v) c.args.self.now n) (sym (same_place c.in-Bad.at p e))
    (runs_into c.args.self.now.setup.place v _ c.loop-pairs.cache c.args.self.now c.loop-pairs.self c.next.new.self (λ es. pairs_in es ≡ c.loop-pairs.pairs.items) c.in-Bad.at q m)

pub loop-pairs-preserved-in-Page : goal.loop-pairs-preserved-in-Page
loop-pairs-preserved-in-Page g c =
    let i = c.loop-pairs.invariant in
    let x = c.next.ensures in
    let is = ap events_of c.in-Some.is ∙ ap (λ (t : declared.Event). event_of t ∷ []) c.in-Page.is in
    record {
      setup = x.setup ∙ i.setup;
      cache = reads_on _ _ _ c.args.cache.now c.loop-pairs.cache c.next.new.cache i.cache x.cache;
      kept = kept_on c.loop-pairs.cache c.next.new.cache x.cache.unwritten i.kept;
      faults = omega (arith, i.faults, x.cause.later);
      reads = omega (arith, i.reads, x.reads);
      once = reads_more _ _ _ c.args.self.now.visited.places.keys c.loop-pairs.self.visited.places.keys c.next.new.self.visited.places.keys i.once (c.in_ok-event.ensures.once (ap first_bad is));
      counted = counts_on c.args.cache.now c.loop-pairs.cache c.next.new.cache c.args.self.now.visited.places.keys c.loop-pairs.self.visited.places.keys c.next.new.self.visited.places.keys i.counted (c.in_ok-event.ensures.counted (ap first_bad is));
      goes = λ v k.
          let q = i.goes v k in
          let m = subst (λ (t : List Event). Moves c.args.self.now.setup.place.block_length (nodes_at c.args.self.now.setup.place v) v.asked (pages_in q.events) c.loop-pairs.self c.next.new.self t) is ((subst (λ (s : TreeSetup). (v : View) (seen : List ℕ) → CanGo s.place v (g.F.Files.holds c.loop-pairs.files) c.loop-pairs.cache seen c.loop-pairs.self → Moves s.place.block_length (nodes_at s.place v) v.asked seen c.loop-pairs.self c.next.new.self (events_of c.in_ok-event.field-0)) c.loop-pairs.invariant.setup c.in_ok-event.ensures.moves) v (pages_in q.events) q.can) in
          goes_on c.args.self.now.setup.place v _ _ c.loop-pairs.cache c.next.new.cache c.args.self.now c.loop-pairs.self c.next.new.self (λ es. pairs_in es ≡ c.loop-pairs.pairs.items) (λ es. pairs_in es ≡ c.loop-pairs.pairs.items) (page c.in-Page.at ∷ []) q m
          ((subst (λ (s : TreeSetup). (v : View) (seen : List ℕ) → CanGo s.place v (g.F.Files.holds c.loop-pairs.files) c.loop-pairs.cache seen c.loop-pairs.self → GoesOn s.place v (g.F.Files.holds c.next.new.files) c.next.new.cache c.next.new.self.visited) c.loop-pairs.invariant.setup c.next.ensures.served) v (pages_in q.events) q.can) refl
          (λ h. pairs-append q.events (page c.in-Page.at ∷ []) ∙ append-nil (pairs_in q.events) ∙ h);
    }

pub loop-pairs-preserved : goal.loop-pairs-preserved
loop-pairs-preserved g c =
    let i = c.loop-pairs.invariant in
    let x = c.next.ensures in
    let is = ap events_of c.in-Some.is ∙ ap (λ (t : declared.Event). event_of t ∷ []) c.in-Pair.is in
    record {
      setup = x.setup ∙ i.setup;
      cache = reads_on _ _ _ c.args.cache.now c.loop-pairs.cache c.next.new.cache i.cache x.cache;
      kept = kept_on c.loop-pairs.cache c.next.new.cache x.cache.unwritten i.kept;
      faults = omega (arith, i.faults, x.cause.later);
      reads = omega (arith, i.reads, x.reads);
      once = reads_more _ _ _ c.args.self.now.visited.places.keys c.loop-pairs.self.visited.places.keys c.next.new.self.visited.places.keys i.once (c.in_ok-event.ensures.once (ap first_bad is));
      counted = counts_on c.args.cache.now c.loop-pairs.cache c.next.new.cache c.args.self.now.visited.places.keys c.loop-pairs.self.visited.places.keys c.next.new.self.visited.places.keys i.counted (c.in_ok-event.ensures.counted (ap first_bad is));
      goes = λ v k.
          let q = i.goes v k in
          let m = subst (λ (t : List Event). Moves c.args.self.now.setup.place.block_length (nodes_at c.args.self.now.setup.place v) v.asked (pages_in q.events) c.loop-pairs.self c.next.new.self t) is ((subst (λ (s : TreeSetup). (v : View) (seen : List ℕ) → CanGo s.place v (g.F.Files.holds c.loop-pairs.files) c.loop-pairs.cache seen c.loop-pairs.self → Moves s.place.block_length (nodes_at s.place v) v.asked seen c.loop-pairs.self c.next.new.self (events_of c.in_ok-event.field-0)) c.loop-pairs.invariant.setup c.in_ok-event.ensures.moves) v (pages_in q.events) q.can) in
          goes_on c.args.self.now.setup.place v _ _ c.loop-pairs.cache c.next.new.cache c.args.self.now c.loop-pairs.self c.next.new.self (λ es. pairs_in es ≡ c.loop-pairs.pairs.items) (λ es. pairs_in es ≡ c.push.new.self.items) (pair c.in-Pair.pair c.in-Pair.at ∷ []) q m
          ((subst (λ (s : TreeSetup). (v : View) (seen : List ℕ) → CanGo s.place v (g.F.Files.holds c.loop-pairs.files) c.loop-pairs.cache seen c.loop-pairs.self → GoesOn s.place v (g.F.Files.holds c.next.new.files) c.next.new.cache c.next.new.self.visited) c.loop-pairs.invariant.setup c.next.ensures.served) v (pages_in q.events) q.can) refl
          (λ h. pairs-append q.events (pair c.in-Pair.pair c.in-Pair.at ∷ []) ∙ ap (λ (t : List (Pair × ℕ)). t ++ (c.in-Pair.pair, c.in-Pair.at) ∷ []) h ∙ sym c.in_ok-push-in-Pair.ensures.items);
    }

pub returns-in_err-event-clause-asked : goal.returns-in_err-event-clause-asked
returns-in_err-event-clause-asked g c = λ v k.
    let q = c.loop-pairs.invariant.goes v k in
    asked_on c.args.self.now.setup.place v _ c.next.new.cache (g.F.Files.reads c.args.files.now) (g.F.Files.reads c.loop-pairs.files) (g.F.Files.reads c.next.new.files) c.args.self.now.visited.places.keys c.loop-pairs.self.visited.places.keys c.loop-pairs.invariant.once
    ((subst (λ (s : TreeSetup). (v : View) (seen : List ℕ) → CanGo s.place v (g.F.Files.holds c.loop-pairs.files) c.loop-pairs.cache seen c.loop-pairs.self → ReadsAsked s.place v (g.F.Files.holds c.next.new.files) c.next.new.cache (g.F.Files.reads c.loop-pairs.files) (g.F.Files.reads c.next.new.files) c.loop-pairs.self.visited.places.keys) c.loop-pairs.invariant.setup c.next.ensures.asked) v (pages_in q.events) q.can)

pub returns-clause-asked : goal.returns-clause-asked
returns-clause-asked g c = λ v k.
    let q = c.loop-pairs.invariant.goes v k in
    asked_on c.args.self.now.setup.place v _ c.next.new.cache (g.F.Files.reads c.args.files.now) (g.F.Files.reads c.loop-pairs.files) (g.F.Files.reads c.next.new.files) c.args.self.now.visited.places.keys c.loop-pairs.self.visited.places.keys c.loop-pairs.invariant.once
    ((subst (λ (s : TreeSetup). (v : View) (seen : List ℕ) → CanGo s.place v (g.F.Files.holds c.loop-pairs.files) c.loop-pairs.cache seen c.loop-pairs.self → ReadsAsked s.place v (g.F.Files.holds c.next.new.files) c.next.new.cache (g.F.Files.reads c.loop-pairs.files) (g.F.Files.reads c.next.new.files) c.loop-pairs.self.visited.places.keys) c.loop-pairs.invariant.setup c.next.ensures.asked) v (pages_in q.events) q.can)

pub returns-in_err-push-in-Pair-clause-asked : goal.returns-in_err-push-in-Pair-clause-asked
returns-in_err-push-in-Pair-clause-asked g c = λ v k.
    let q = c.loop-pairs.invariant.goes v k in
    asked_on c.args.self.now.setup.place v _ c.next.new.cache (g.F.Files.reads c.args.files.now) (g.F.Files.reads c.loop-pairs.files) (g.F.Files.reads c.next.new.files) c.args.self.now.visited.places.keys c.loop-pairs.self.visited.places.keys c.loop-pairs.invariant.once
    ((subst (λ (s : TreeSetup). (v : View) (seen : List ℕ) → CanGo s.place v (g.F.Files.holds c.loop-pairs.files) c.loop-pairs.cache seen c.loop-pairs.self → ReadsAsked s.place v (g.F.Files.holds c.next.new.files) c.next.new.cache (g.F.Files.reads c.loop-pairs.files) (g.F.Files.reads c.next.new.files) c.loop-pairs.self.visited.places.keys) c.loop-pairs.invariant.setup c.next.ensures.asked) v (pages_in q.events) q.can)

pub returns-in-Bad-clause-asked : goal.returns-in-Bad-clause-asked
returns-in-Bad-clause-asked g c = λ v k.
    let q = c.loop-pairs.invariant.goes v k in
    asked_on c.args.self.now.setup.place v _ c.next.new.cache (g.F.Files.reads c.args.files.now) (g.F.Files.reads c.loop-pairs.files) (g.F.Files.reads c.next.new.files) c.args.self.now.visited.places.keys c.loop-pairs.self.visited.places.keys c.loop-pairs.invariant.once
    ((subst (λ (s : TreeSetup). (v : View) (seen : List ℕ) → CanGo s.place v (g.F.Files.holds c.loop-pairs.files) c.loop-pairs.cache seen c.loop-pairs.self → ReadsAsked s.place v (g.F.Files.holds c.next.new.files) c.next.new.cache (g.F.Files.reads c.loop-pairs.files) (g.F.Files.reads c.next.new.files) c.loop-pairs.self.visited.places.keys) c.loop-pairs.invariant.setup c.next.ensures.asked) v (pages_in q.events) q.can)
