use Rattle.std.proofs.Common.{◌∙◌, ◌∷◌, ℕ, List, Option, refl, sym, ap, subst, arith}
use Rattle.myi_base.specs.Holding.{Holding}
use Rattle.myi_btree.specs.declared.place.Place.{Place}
use Rattle.myi_btree.specs.Events.{Event}
use Rattle.myi_btree.specs.Serving.{View, nodes_at, IsServed}
use Rattle.myi_btree.specs.Walking.{Walking, MayGo, Goes}
use Rattle.myi_btree.specs.Cursors.{event_of, events_of}
use Rattle.myi_check.specs.Walks.{GoesOn}
use Rattle.myi_check.specs.Asked.{AsksApart, OfKey}
use Rattle.myi_check.proofs.WalkLaws.{root_there, any_place, may_begin, goes_first, goes_on, goes_over}
use Rattle.myi_check.proofs.AskedWalks.{first_asked, is_good}
use Rattle.myi_check.proofs.asking.follow_asking.Goals as goal

pub loop-events-init : goal.loop-events-init
loop-events-init g c = record {
  place = ap (λ (w : Walking). w.place) c.new-events.ensures;
  holds = refl;
  written = c.requires.written;
  faults = omega arith;
  goes = λ good v may.
      let tree = c.args.key.now.tree in
      let held = g.F.Files.holds c.args.files.now in
      let Of = OfKey held c.args.key.now in
      let walk = c.new-walk.result in
      subst (λ (w : Walking). GoesOn (AsksApart Of tree c.args.busy.now walk) tree.place v held c.args.cache.now w) (sym c.new-events.ensures)
      (goes_first (AsksApart Of tree c.args.busy.now walk) tree.place v held c.args.cache.now may (λ all. first_asked Of tree c.args.busy.now walk all c.new-walk.ensures.none (λ pairs. c.new-walk.ensures.shows tree pairs c.args.busy.now all)));
}

pub loop-events-preserved : goal.loop-events-preserved
loop-events-preserved g c =
    let was = c.loop-events.invariant in
    let x = c.next.ensures in
    let tree = c.args.key.now.tree in
    let held = g.F.Files.holds c.loop-events.files in
    let next = g.F.Files.holds c.next.new.files in
    let old = c.loop-events.events in
    let new = c.next.new.self in
    let same = x.cache.clean was.written ∙ was.holds in
    record {
      place = x.place ∙ was.place;
      holds = c.note.ensures.holds ∙ same;
      written = λ p n u. was.written p n (x.cache.unwritten p n u);
      faults = omega (arith, was.faults, x.cause.later, c.note.ensures.cause.later);
      goes = λ good v may.
          let q = was.goes (is_good c.loop-events.walk.met.bad c.is_none.result c.is_none.ensures c.loop-events-test.true) v may in
          let all = (subst (λ (p : Place). (v : View) (seen : List ℕ) → MayGo p v held c.loop-events.cache seen old → Goes p.block_length (nodes_at p v) v.asked seen old new (events_of c.in-Ok-Some.field-0)) was.place c.in-Ok-Some.ensures.goes) v q.seen q.may in
          let m = subst (λ (t : List Event). Goes tree.place.block_length (nodes_at tree.place v) v.asked q.seen old new t) (ap events_of c.in-Ok-Some.field-0-is) all in
          let served = (subst (λ (p : Place). (v : View) (seen : List ℕ) → MayGo p v held c.loop-events.cache seen old → IsServed p v next c.next.new.cache new.met) was.place x.served) v q.seen q.may in
          let now = λ (h : Option Holding). AsksApart (OfKey h c.args.key.now) tree c.args.busy.now in
          let asks = subst (λ (h : Option Holding). (all left : List Event) → now h c.loop-events.walk all (event_of c.in-Ok-Some.event ∷ left) → now h c.note.new.walk all left) same (c.in_ok-note-in-Ok-Some.ensures.asks good) in
          subst (λ (h : Option Holding). GoesOn (now (g.F.Files.holds c.args.files.now) c.note.new.walk) tree.place v h c.next.new.cache new) (sym c.note.ensures.holds)
          (goes_on (now (g.F.Files.holds c.args.files.now) c.loop-events.walk) (now (g.F.Files.holds c.args.files.now) c.note.new.walk) tree.place v held next c.loop-events.cache c.next.new.cache old new (event_of c.in-Ok-Some.event) q m served asks);
    }

pub returns-in-Ok-None-clause-asks : goal.returns-in-Ok-None-clause-asks
returns-in-Ok-None-clause-asks g c = λ good m told current all met.
    let was = c.loop-events.invariant in
    let tree = c.args.key.now.tree in
    let held = g.F.Files.holds c.loop-events.files in
    let old = c.loop-events.events in
    let new = c.next.new.self in
    let root = root_there tree.place.root c.requires.rooted in
    let v = any_place c.args.cache.now m in
    let q = was.goes good v (may_begin tree.place (g.F.Files.holds c.args.files.now) c.args.cache.now m root.0 told current c.requires.written root.1) in
    let last = (subst (λ (p : Place). (v : View) (seen : List ℕ) → MayGo p v held c.loop-events.cache seen old → Goes p.block_length (nodes_at p v) v.asked seen old new (events_of c.in-Ok-None.field-0)) was.place c.in-Ok-None.ensures.goes) v q.seen q.may in
    let n = subst (λ (t : List Event). Goes tree.place.block_length (nodes_at tree.place v) v.asked q.seen old new t) (ap events_of c.in-Ok-None.field-0-is) last in
    goes_over (AsksApart (OfKey (g.F.Files.holds c.args.files.now) c.args.key.now) tree c.args.busy.now c.loop-events.walk) tree.place v held c.loop-events.cache old new root.0 all root.1 q n (c.in-Ok-None.ensures.over c.in-Ok-None.field-0-is) met
