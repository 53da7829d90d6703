use Rattle.std.proofs.Common.{◌∙◌, ℕ, List, refl, sym, ap, subst, arith}
use Rattle.myi_btree.specs.declared.place.Place.{Place}
use Rattle.myi_btree.specs.Events.{Event}
use Rattle.myi_btree.specs.Serving.{View, nodes_at, IsServed}
use Rattle.myi_btree.specs.Walking.{Walking, MayGo, Goes}
use Rattle.myi_btree.specs.Cursors.{event_of, events_of}
use Rattle.myi_check.specs.Walks.{GoesOn}
use Rattle.myi_check.proofs.CallerLemmas.{root_there, any_place, may_begin, goes_first, goes_on, goes_over}
use Rattle.myi_order.specs.PrefixCounts.{CountsTo}
use Rattle.myi_order.proofs.PrefixCountLaws.{counts_first}
use Rattle.myi_order.proofs.tree_counts.count_pairs.Goals as goal

pub loop-event-init : goal.loop-event-init
loop-event-init g c = record {
  place = ap (λ (w : Walking). w.place) c.new-events.ensures;
  holds = refl;
  written = c.requires.written;
  faults = omega arith;
  room = c.requires.room;
  segments = refl;
  goes = λ none v may.
      subst (λ (w : Walking). GoesOn (CountsTo c.args.count.now) c.args.place v (g.F.Files.holds c.args.files.now) c.args.cache.now w) (sym c.new-events.ensures)
      (goes_first (CountsTo c.args.count.now) c.args.place v (g.F.Files.holds c.args.files.now) c.args.cache.now may (counts_first c.args.count.now none));
}

pub loop-event-preserved : goal.loop-event-preserved
loop-event-preserved g c =
    let was = c.loop-event.invariant in
    let x = c.next.ensures in
    let held = g.F.Files.holds c.loop-event.files in
    let old = c.loop-event.events in
    let new = c.next.new.self in
    record {
      place = x.place ∙ was.place;
      holds = x.cache.clean was.written ∙ was.holds;
      written = λ p n u. was.written p n (x.cache.unwritten p n u);
      faults = omega (arith, was.faults, x.cause.later);
      room = c.in_ok-note-in-Ok-Some.ensures.room;
      segments = c.note.ensures.segments ∙ was.segments;
      goes = λ none v may.
          let q = was.goes none v may in
          let all = (subst (λ (p : Place). (v : View) (seen : List ℕ) → MayGo p v held c.loop-event.cache seen old → Goes p.block_length (nodes_at p v) v.asked seen old new (events_of c.in-Ok-Some.field-0)) was.place c.in-Ok-Some.ensures.goes) v q.seen q.may in
          let m = subst (λ (t : List Event). Goes c.args.place.block_length (nodes_at c.args.place v) v.asked q.seen old new t) (ap events_of c.in-Ok-Some.field-0-is) all in
          let served = (subst (λ (p : Place). (v : View) (seen : List ℕ) → MayGo p v held c.loop-event.cache seen old → IsServed p v (g.F.Files.holds c.next.new.files) c.next.new.cache new.met) was.place x.served) v q.seen q.may in
          goes_on (CountsTo c.loop-event.count) (CountsTo c.note.new.count) c.args.place v held (g.F.Files.holds c.next.new.files) c.loop-event.cache c.next.new.cache old new (event_of c.in-Ok-Some.event) q m served c.in_ok-note-in-Ok-Some.ensures.counts;
    }

pub returns-in-Ok-None-clause-counts : goal.returns-in-Ok-None-clause-counts
returns-in-Ok-None-clause-counts g c = λ m told current none all met.
    let was = c.loop-event.invariant in
    let held = g.F.Files.holds c.loop-event.files in
    let old = c.loop-event.events in
    let new = c.next.new.self in
    let root = root_there c.args.place.root c.requires.rooted in
    let v = any_place c.args.cache.now m in
    let q = was.goes none v (may_begin c.args.place (g.F.Files.holds c.args.files.now) c.args.cache.now m root.0 told current c.requires.written root.1) in
    let last = (subst (λ (p : Place). (v : View) (seen : List ℕ) → MayGo p v held c.loop-event.cache seen old → Goes p.block_length (nodes_at p v) v.asked seen old new (events_of c.in-Ok-None.field-0)) was.place c.in-Ok-None.ensures.goes) v q.seen q.may in
    let n = subst (λ (t : List Event). Goes c.args.place.block_length (nodes_at c.args.place v) v.asked q.seen old new t) (ap events_of c.in-Ok-None.field-0-is) last in
    goes_over (CountsTo c.loop-event.count) c.args.place v held c.loop-event.cache old new root.0 all root.1 q n (c.in-Ok-None.ensures.over c.in-Ok-None.field-0-is) met
