use Rattle.std.proofs.Common.{◌≡◌, ◌<◌, ◌≤◌, true, ◌++◌, ◌∷◌, ℕ, suc, List, [], Option, None, length, refl, sym, ap, subst, ◌∙◌, arith}
use Rattle.std.specs.Prelude.{IfErr, IfSome}
use Rattle.std.specs.List.{AllByRecursion}
use Rattle.std.proofs.lemmas.Result.{err_from_is_err_and}
use Rattle.std.proofs.lemmas.List.{map-append}
use Rattle.myi_base.specs.Holding.{Holding, IfTold}
use Rattle.myi_defs.specs.declared.types.Defs.{Defs}
use Rattle.myi_pack.specs.Packed.{Values}
use Rattle.myi_pack.specs.Spelling.{fits}
use Rattle.myi_state.specs.Sound.{IsRow}
use Rattle.myi_slots.specs.SlotFile.{SlotFile}
use Rattle.myi_btree.specs.declared.place.Place.{Place}
use Rattle.myi_tablestate.specs.Keyed.{IsTable}
use Rattle.myi_ranges.specs.declared.ranges.RangeRows.{RangeRows}
use Rattle.myi_ranges.specs.Ranges.{Answers, ReadInFew, searches}
use Rattle.myi_table.specs.Reading.{begun}
use Rattle.myi_readers.specs.declared.keyed_row.KeyedRow.{KeyedRow}
use Rattle.myi_readers.specs.KeyedRows.{keyed_of}
use Rattle.myi_readers.specs.Ranges.{HoldRange, NeverDamaged}
use Rattle.myi_readers.proofs.RangeLemmas.{Came, came_none, came_more, came_all, same_begun, begun_ahead, same_reading_then, row_fits, unfit_untold, reads_none, reads_so_far, reads_failed}
use Rattle.myi_readers.proofs.ranges.base_matches.Goals as goal

pub loop-found-init : goal.loop-found-init
loop-found-init g c =
    let is = sym c.in_ok-reading.ensures in
    let d = c.args.defs.now in
    let at = g.F.Files.reads c.args.files.now in
    record {
      reading = same_begun c.args.range.now c.in_ok-reading.reading c.in_ok-reading.ensures;
      written = c.requires.written;
      left = record { file = refl; places = refl; room = refl };
      name = refl;
      holds = refl;
      later = omega arith;
      still = λ m held own s h. subst (λ (r : RangeRows). HoldRange d r c.args.rows.now own s m) is (record { table = h; ahead = begun_ahead c.args.range.now d s });
      so_far = λ m held own s h. ([], subst (λ (r : RangeRows). Came d s (begun c.args.range.now) r at at []) is (came_none d s c.args.range.now at), c.new-found.ensures.items);
    }

pub next_match-requires-clause-defs : goal.next_match-requires-clause-defs
next_match-requires-clause-defs g c κs within = ap (λ (f : SlotFile). f.defs) c.loop-found.invariant.left.file ∙ c.requires.defs

pub next_match-requires-clause-apart : goal.next_match-requires-clause-apart
next_match-requires-clause-apart g c κs within = λ same. c.requires.apart (sym (ap (λ (f : SlotFile). f.name) c.loop-found.invariant.left.file) ∙ same ∙ c.loop-found.invariant.name)

pub next_match-requires-clause-each : goal.next_match-requires-clause-each
next_match-requires-clause-each g c κs within = ap (λ (ps : List Place). length ps) c.loop-found.invariant.left.places ∙ c.requires.each

pub next_match-requires-clause-key : goal.next_match-requires-clause-key
next_match-requires-clause-key g c κs within =
    let was = c.loop-found.invariant in
    subst (λ (n : ℕ). n < length c.loop-found.rows.trees.places) (sym (ap (λ (r : RangeRows). r.key) was.reading)) (subst (λ (n : ℕ). c.args.range.now.key < n) (sym (ap (λ (ps : List Place). length ps) was.left.places)) c.requires.key)

pub next_match-requires-clause-kept : goal.next_match-requires-clause-kept
next_match-requires-clause-kept g c κs within = λ m held.
    let was = c.loop-found.invariant in
    let first = sym was.holds ∙ held in
    let k = c.requires.kept m first in
    (k.0, k.1, was.still m first k.0 k.1 k.2)

pub loop-found-preserved : goal.loop-found-preserved
loop-found-preserved g c =
    let was = c.loop-found.invariant in
    let call = c.next_match in
    let d = c.args.defs.now in
    let range = c.args.range.now in
    let k : ℕ = suc range.key in
    let now = c.loop-found.reading in
    let next = call.new.reading in
    let row : ℕ × Values = c.in-Some.row in
    record {
      reading = same_reading_then (begun range) now next was.reading call.ensures.reading;
      written = call.ensures.written;
      left = record { file = call.ensures.left.file ∙ was.left.file; places = call.ensures.left.places ∙ was.left.places; room = call.ensures.left.room ∙ was.left.room };
      name = call.ensures.name ∙ was.name;
      holds = call.ensures.holds ∙ was.holds;
      later = let one = was.later in let two = call.ensures.cause.later in omega (arith, one, two);
      still = λ m held own s h. call.ensures.again m (was.holds ∙ held) own s (was.still m held own s h);
      so_far = λ m held own s h.
          let so = was.so_far m held own s h in
          let stood = was.still m held own s h in
          let answered = subst (λ (o : Option (ℕ × Values)). Answers d s now next o) c.in-Some.is (c.in_ok-row.ensures.row m (was.holds ∙ held) own s stood) in
          let cheap = subst (λ (o : Option (ℕ × Values)). ReadInFew d s now o (g.F.Files.reads c.loop-found.files) (g.F.Files.reads call.new.files)) c.in-Some.is (c.in_ok-row.ensures.few m (was.holds ∙ held) own s stood) in
          let one = subst (λ (o : Option (ℕ × Values)). IfSome o (λ found. searches next.reached ≤ 1)) c.in-Some.is c.in_ok-row.ensures.onward in
          let rows = subst (λ (e : Defs). AllByRecursion (IsRow e) s.rows) c.requires.defs h.table.state.rows in (
            so.0 ++ row ∷ [],
            came_more d s (begun range) now next (g.F.Files.reads c.args.files.now) (g.F.Files.reads c.loop-found.files) (g.F.Files.reads call.new.files) so.0 row.0 row.1 rows (ap (λ (r : RangeRows). r.key) was.reading) one so.1 answered cheap,
            c.in_ok-push_keyed.ensures.found ∙ ap (λ (l : List KeyedRow). l ++ keyed_of d k row ∷ []) so.2 ∙ sym (map-append (keyed_of d k) so.0 (row ∷ [])),
          );
    }

pub returns-clause-found : goal.returns-clause-found
returns-clause-found g c = λ m held own base h.
    let was = c.loop-found.invariant in
    let call = c.next_match in
    let d = c.args.defs.now in
    let range = c.args.range.now in
    let now = c.loop-found.reading in
    let next = call.new.reading in
    let so = was.so_far m held own base h in
    let stood = was.still m held own base h in
    let none = subst (λ (o : Option (ℕ × Values)). Answers d base now next o) c.in_default.is (c.in_ok-row.ensures.row m (was.holds ∙ held) own base stood) in
    let cheap = subst (λ (o : Option (ℕ × Values)). ReadInFew d base now o (g.F.Files.reads c.loop-found.files) (g.F.Files.reads call.new.files)) c.in_default.is (c.in_ok-row.ensures.few m (was.holds ∙ held) own base stood) in
    record {
      answer = so.0;
      answers = came_all d base range now next (g.F.Files.reads c.args.files.now) (g.F.Files.reads c.loop-found.files) (g.F.Files.reads call.new.files) so.0 c.rows_that_come_match.ensures c.requires.sound (subst (λ (e : Defs). IsTable e base) c.requires.defs h.table) (ap (λ (r : RangeRows). r.key) was.reading) so.1 none cheap;
      keyed = so.2;
    }

pub returns-clause-still : goal.returns-clause-still
returns-clause-still g c = λ m held own base h. (c.next_match.ensures.again m (c.loop-found.invariant.holds ∙ held) own base (c.loop-found.invariant.still m held own base h)).table

pub returns-in_err-row-clause-still : goal.returns-in_err-row-clause-still
returns-in_err-row-clause-still g c = λ m held own base h. (c.next_match.ensures.again m (c.loop-found.invariant.holds ∙ held) own base (c.loop-found.invariant.still m held own base h)).table

pub returns-in_err-push_keyed-clause-still : goal.returns-in_err-push_keyed-clause-still
returns-in_err-push_keyed-clause-still g c = λ m held own base h. (c.next_match.ensures.again m (c.loop-found.invariant.holds ∙ held) own base (c.loop-found.invariant.still m held own base h)).table

pub returns-in_err-row-clause-never : goal.returns-in_err-row-clause-never
returns-in_err-row-clause-never g c =
    let e = err_from_is_err_and c.from_residual-in_err-row.result c.from_residual-in_err-row.ensures.1 in
    let told = g.F.Files.holds c.args.files.now in
    subst (λ r. IfErr r (NeverDamaged told)) (sym e.1) (subst (NeverDamaged told) (sym e.2) (subst (λ (h : Option Holding). NeverDamaged h c.in_err-row.field-0.0) c.loop-found.invariant.holds c.in_err-row.ensures.never))

pub returns-in_err-push_keyed-clause-never : goal.returns-in_err-push_keyed-clause-never
returns-in_err-push_keyed-clause-never g c =
    let e = err_from_is_err_and c.from_residual-in_err-push_keyed.result c.from_residual-in_err-push_keyed.ensures.1 in
    let told = g.F.Files.holds c.args.files.now in
    let was = c.loop-found.invariant in
    let d = c.args.defs.now in
    let fit : IfTold told (λ m. fits d c.in-Some.row.1 ≡ true) = λ m held.
    let k = c.requires.kept m held in
    let answered = subst (λ (o : Option (ℕ × Values)). Answers d k.1 c.loop-found.reading c.next_match.new.reading o) c.in-Some.is (c.in_ok-row.ensures.row m (was.holds ∙ held) k.0 k.1 (was.still m held k.0 k.1 k.2)) in
    row_fits d k.1 c.loop-found.reading c.next_match.new.reading c.in-Some.row.0 c.in-Some.row.1 (subst (λ (e : Defs). IsTable e k.1) c.requires.defs k.2.table) answered in
    subst (λ r. IfErr r (NeverDamaged told)) (sym e.1) (subst (NeverDamaged told) (sym e.2) (unfit_untold told d c.in-Some.row c.in_err-push_keyed.field-0.0 fit c.in_err-push_keyed.ensures.unfit))

pub returns-in_err-reading-clause-read : goal.returns-in_err-reading-clause-read
returns-in_err-reading-clause-read g c = λ m held own base h. reads_none c.args.defs.now base c.args.range.now (g.F.Files.reads c.args.files.now)

pub returns-in_err-row-clause-read : goal.returns-in_err-row-clause-read
returns-in_err-row-clause-read g c = λ m held own base h.
    let was = c.loop-found.invariant in
    let so = was.so_far m held own base h in
    reads_failed c.args.defs.now base c.args.range.now c.loop-found.reading (g.F.Files.reads c.args.files.now) (g.F.Files.reads c.loop-found.files) (g.F.Files.reads c.next_match.new.files) so.0 (ap (λ (r : RangeRows). r.key) was.reading) so.1
    (c.in_err-row.ensures.failed m (was.holds ∙ held) own base (was.still m held own base h))

pub returns-in_err-push_keyed-clause-read : goal.returns-in_err-push_keyed-clause-read
returns-in_err-push_keyed-clause-read g c = λ m held own base h.
    let was = c.loop-found.invariant in
    let call = c.next_match in
    let d = c.args.defs.now in
    let range = c.args.range.now in
    let now = c.loop-found.reading in
    let next = call.new.reading in
    let row : ℕ × Values = c.in-Some.row in
    let so = was.so_far m held own base h in
    let stood = was.still m held own base h in
    let answered = subst (λ (o : Option (ℕ × Values)). Answers d base now next o) c.in-Some.is (c.in_ok-row.ensures.row m (was.holds ∙ held) own base stood) in
    let cheap = subst (λ (o : Option (ℕ × Values)). ReadInFew d base now o (g.F.Files.reads c.loop-found.files) (g.F.Files.reads call.new.files)) c.in-Some.is (c.in_ok-row.ensures.few m (was.holds ∙ held) own base stood) in
    let one = subst (λ (o : Option (ℕ × Values)). IfSome o (λ found. searches next.reached ≤ 1)) c.in-Some.is c.in_ok-row.ensures.onward in
    let rows = subst (λ (e : Defs). AllByRecursion (IsRow e) base.rows) c.requires.defs h.table.state.rows in
    reads_so_far d base range next (g.F.Files.reads c.args.files.now) (g.F.Files.reads call.new.files) (so.0 ++ row ∷ [])
    (came_more d base (begun range) now next (g.F.Files.reads c.args.files.now) (g.F.Files.reads c.loop-found.files) (g.F.Files.reads call.new.files) so.0 row.0 row.1 rows (ap (λ (r : RangeRows). r.key) was.reading) one so.1 answered cheap)

pub returns-clause-read : goal.returns-clause-read
returns-clause-read g c = λ m held own base h.
    let was = c.loop-found.invariant in
    let d = c.args.defs.now in
    let now = c.loop-found.reading in
    let so = was.so_far m held own base h in
    let cheap = subst (λ (o : Option (ℕ × Values)). ReadInFew d base now o (g.F.Files.reads c.loop-found.files) (g.F.Files.reads c.next_match.new.files)) c.in_default.is (c.in_ok-row.ensures.few m (was.holds ∙ held) own base (was.still m held own base h)) in
    reads_failed d base c.args.range.now now (g.F.Files.reads c.args.files.now) (g.F.Files.reads c.loop-found.files) (g.F.Files.reads c.next_match.new.files) so.0 (ap (λ (r : RangeRows). r.key) was.reading) so.1
    (record { next = None; comes = tt; few = cheap })
