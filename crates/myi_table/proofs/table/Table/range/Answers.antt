use Rattle.std.proofs.Common.{◌≡◌, ◌<◌, ◌∷◌, ◌++◌, [], ℕ, List, refl, sym, ap, subst, ◌∙◌, arith}
use Rattle.std.specs.Prelude.{IfErr, length}
use Rattle.std.proofs.lemmas.Result.{err_from_is_err_and}
use Rattle.myi_base.specs.Holding.{OthersStay}
use Rattle.myi_base.proofs.CallerLemmas.{told_same}
use Rattle.myi_defs.specs.Sound.{IsSound}
use Rattle.myi_pack.specs.Packed.{Values}
use Rattle.myi_search.proofs.CallerLemmas.{counts_none, counts_on}
use Rattle.myi_opening.specs.Names.{index_file}
use Rattle.myi_ranges.specs.declared.ranges.RangeRows.{RangeRows}
use Rattle.myi_table.specs.Faults.{NeverDamaged, IsBrokenFor}
use Rattle.myi_table.specs.Table.{OpenTable, defs_in, IfHolds}
use Rattle.myi_table.specs.Reading.{IsAhead, IfBroken, begun}
use Rattle.myi_table.proofs.FoldLemmas.{same_then}
use Rattle.myi_table.proofs.AllLemmas.{Came, came_none, came_next, came_end, same_begun, begun_ahead, same_reading_then, still_then, left_then, others_stay_then, never_before, broken_before, not_for_broken, reads_none, reads_now, reads_fail, reads_end}
use Rattle.myi_table.proofs.table.Table.range.Goals as goal

pub loop-rows-init : goal.loop-rows-init
loop-rows-init g c =
    let is = sym c.in_ok-reading.ensures in
    let told = g.F.Files.holds c.args.files.now in
    let at = g.F.Files.reads c.args.files.now in
    let t : OpenTable = c.args.self.now in
    record {
      key = subst (λ (r : RangeRows). r.key < length t.rows.trees.places) is c.requires.key;
      kept = c.requires.kept;
      ahead = λ m held s h. subst (λ (r : RangeRows). IsAhead t r s) is (begun_ahead c.args.range.now t s);
      reading = same_begun c.args.range.now c.in_ok-reading.reading c.in_ok-reading.ensures;
      still = λ m held s h. (m, held, h);
      same = record { name = refl; setup = refl; header = refl; lost = refl; defs = refl; added = refl };
      broken = refl;
      changed = refl;
      left = record { file = refl; places = refl; room = refl };
      others = told_same told told (OthersStay (index_file t.name)) refl (λ m held q other. refl);
      counted = counts_none t.rows.trees.cache;
      later = omega arith;
      so_far = λ m held s h. subst (λ (r : RangeRows). Came (defs_in t) s (begun c.args.range.now) r at at c.new-rows.result.items) is (subst (λ (rows : List (ℕ × Values)). Came (defs_in t) s (begun c.args.range.now) (begun c.args.range.now) at at rows) (sym c.new-rows.ensures.items) (came_none (defs_in t) s c.args.range.now at));
    }

pub loop-rows-preserved : goal.loop-rows-preserved
loop-rows-preserved g c =
    let was = c.loop-rows.invariant in
    let call = c.next_in_range in
    let old = c.args.self.now in
    let half = c.loop-rows.self in
    let new = call.new.self in
    let told = g.F.Files.holds c.args.files.now in
    let mid = g.F.Files.holds c.loop-rows.files in
    let next = g.F.Files.holds call.new.files in
    record {
      key = subst (λ (r : RangeRows). r.key < length new.rows.trees.places) (sym call.ensures.reading) (subst (λ (n : ℕ). c.loop-rows.reading.key < n) (ap length (sym call.ensures.left.places)) was.key);
      kept = call.ensures.kept;
      ahead = call.ensures.ahead;
      reading = same_reading_then (begun c.args.range.now) c.loop-rows.reading call.new.rows was.reading call.ensures.reading;
      still = still_then told mid next old half new was.still call.ensures.still;
      same = same_then old half new was.same call.ensures.same;
      broken = call.ensures.broken ∙ was.broken;
      changed = call.ensures.changed ∙ was.changed;
      left = left_then old.rows half.rows new.rows was.left call.ensures.left;
      others = others_stay_then told mid next old.name half.name was.same.name was.others call.ensures.others;
      counted = counts_on old.rows.trees.cache half.rows.trees.cache new.rows.trees.cache was.counted call.ensures.counted;
      later = let one = was.later in let two = call.ensures.cause.later in omega (arith, one, two);
      so_far = subst (λ (rows : List (ℕ × Values)). IfHolds told old (λ m s. Came (defs_in old) s (begun c.args.range.now) call.new.rows (g.F.Files.reads c.args.files.now) (g.F.Files.reads call.new.files) rows)) (sym c.in_ok-push.ensures.items)
          (came_next told mid old half c.args.range.now c.loop-rows.reading call.new.rows (g.F.Files.reads c.args.files.now) (g.F.Files.reads c.loop-rows.files) (g.F.Files.reads call.new.files) c.loop-rows.rows.items c.in_ok-row.field-0 c.in-Some.row
          c.in-Some.is was.same was.reading c.in_ok-row.ensures.onward was.still was.so_far c.in_ok-row.ensures.row c.in_ok-row.ensures.few);
    }

pub returns-clause-rows : goal.returns-clause-rows
returns-clause-rows g c =
    let was = c.loop-rows.invariant in
    let call = c.next_in_range in
    let old = c.args.self.now in
    let told = g.F.Files.holds c.args.files.now in
    let mid = g.F.Files.holds c.loop-rows.files in
    let sound : IsSound (defs_in old) = subst (λ (t : OpenTable). IsSound (defs_in t)) c.self.view_is c.self.invariant.fit.sound in
    came_end told mid old c.loop-rows.self c.args.range.now c.loop-rows.reading call.new.rows (g.F.Files.reads c.args.files.now) (g.F.Files.reads c.loop-rows.files) (g.F.Files.reads call.new.files) c.loop-rows.rows.items c.in_ok-row.field-0
    c.in_default.is c.rows_that_come_match.ensures sound was.same was.reading was.still was.so_far c.in_ok-row.ensures.row c.in_ok-row.ensures.few

pub returns-in_err-row-clause-still : goal.returns-in_err-row-clause-still
returns-in_err-row-clause-still g c = still_then (g.F.Files.holds c.args.files.now) (g.F.Files.holds c.loop-rows.files) (g.F.Files.holds c.next_in_range.new.files) c.args.self.now c.loop-rows.self c.next_in_range.new.self c.loop-rows.invariant.still c.next_in_range.ensures.still

pub returns-in_err-row-clause-same : goal.returns-in_err-row-clause-same
returns-in_err-row-clause-same g c = same_then c.args.self.now c.loop-rows.self c.next_in_range.new.self c.loop-rows.invariant.same c.next_in_range.ensures.same

pub returns-in_err-row-clause-left : goal.returns-in_err-row-clause-left
returns-in_err-row-clause-left g c = left_then c.args.self.now.rows c.loop-rows.self.rows c.next_in_range.new.self.rows c.loop-rows.invariant.left c.next_in_range.ensures.left

pub returns-in_err-row-clause-others : goal.returns-in_err-row-clause-others
returns-in_err-row-clause-others g c = others_stay_then (g.F.Files.holds c.args.files.now) (g.F.Files.holds c.loop-rows.files) (g.F.Files.holds c.next_in_range.new.files) c.args.self.now.name c.loop-rows.self.name c.loop-rows.invariant.same.name c.loop-rows.invariant.others c.next_in_range.ensures.others

pub returns-in_err-row-clause-counted : goal.returns-in_err-row-clause-counted
returns-in_err-row-clause-counted g c = counts_on c.args.self.now.rows.trees.cache c.loop-rows.self.rows.trees.cache c.next_in_range.new.self.rows.trees.cache c.loop-rows.invariant.counted c.next_in_range.ensures.counted

pub returns-in_err-push-clause-still : goal.returns-in_err-push-clause-still
returns-in_err-push-clause-still g c = still_then (g.F.Files.holds c.args.files.now) (g.F.Files.holds c.loop-rows.files) (g.F.Files.holds c.next_in_range.new.files) c.args.self.now c.loop-rows.self c.next_in_range.new.self c.loop-rows.invariant.still c.next_in_range.ensures.still

pub returns-in_err-push-clause-same : goal.returns-in_err-push-clause-same
returns-in_err-push-clause-same g c = same_then c.args.self.now c.loop-rows.self c.next_in_range.new.self c.loop-rows.invariant.same c.next_in_range.ensures.same

pub returns-in_err-push-clause-left : goal.returns-in_err-push-clause-left
returns-in_err-push-clause-left g c = left_then c.args.self.now.rows c.loop-rows.self.rows c.next_in_range.new.self.rows c.loop-rows.invariant.left c.next_in_range.ensures.left

pub returns-in_err-push-clause-others : goal.returns-in_err-push-clause-others
returns-in_err-push-clause-others g c = others_stay_then (g.F.Files.holds c.args.files.now) (g.F.Files.holds c.loop-rows.files) (g.F.Files.holds c.next_in_range.new.files) c.args.self.now.name c.loop-rows.self.name c.loop-rows.invariant.same.name c.loop-rows.invariant.others c.next_in_range.ensures.others

pub returns-in_err-push-clause-counted : goal.returns-in_err-push-clause-counted
returns-in_err-push-clause-counted g c = counts_on c.args.self.now.rows.trees.cache c.loop-rows.self.rows.trees.cache c.next_in_range.new.self.rows.trees.cache c.loop-rows.invariant.counted c.next_in_range.ensures.counted

pub returns-clause-still : goal.returns-clause-still
returns-clause-still g c = still_then (g.F.Files.holds c.args.files.now) (g.F.Files.holds c.loop-rows.files) (g.F.Files.holds c.next_in_range.new.files) c.args.self.now c.loop-rows.self c.next_in_range.new.self c.loop-rows.invariant.still c.next_in_range.ensures.still

pub returns-clause-same : goal.returns-clause-same
returns-clause-same g c = same_then c.args.self.now c.loop-rows.self c.next_in_range.new.self c.loop-rows.invariant.same c.next_in_range.ensures.same

pub returns-clause-left : goal.returns-clause-left
returns-clause-left g c = left_then c.args.self.now.rows c.loop-rows.self.rows c.next_in_range.new.self.rows c.loop-rows.invariant.left c.next_in_range.ensures.left

pub returns-clause-others : goal.returns-clause-others
returns-clause-others g c = others_stay_then (g.F.Files.holds c.args.files.now) (g.F.Files.holds c.loop-rows.files) (g.F.Files.holds c.next_in_range.new.files) c.args.self.now.name c.loop-rows.self.name c.loop-rows.invariant.same.name c.loop-rows.invariant.others c.next_in_range.ensures.others

pub returns-clause-counted : goal.returns-clause-counted
returns-clause-counted g c = counts_on c.args.self.now.rows.trees.cache c.loop-rows.self.rows.trees.cache c.next_in_range.new.self.rows.trees.cache c.loop-rows.invariant.counted c.next_in_range.ensures.counted

pub returns-in_err-row-clause-never : goal.returns-in_err-row-clause-never
returns-in_err-row-clause-never g c =
    let e = err_from_is_err_and c.from_residual-in_err-row.result c.from_residual-in_err-row.ensures.1 in
    let told = g.F.Files.holds c.args.files.now in
    subst (λ r. IfErr r (NeverDamaged told)) (sym e.1) (subst (NeverDamaged told) (sym e.2) (never_before told (g.F.Files.holds c.loop-rows.files) (OthersStay (index_file c.args.self.now.name)) c.in_err-row.field-0.0 c.loop-rows.invariant.others c.in_err-row.ensures.never))

pub returns-in_err-row-clause-first : goal.returns-in_err-row-clause-first
returns-in_err-row-clause-first g c =
    let e = err_from_is_err_and c.from_residual-in_err-row.result c.from_residual-in_err-row.ensures.1 in
    subst (λ r. IfErr r (IsBrokenFor c.args.self.now.broken)) (sym e.1) (subst (IsBrokenFor c.args.self.now.broken) (sym e.2) (broken_before c.args.self.now.broken c.loop-rows.self.broken c.in_err-row.field-0.0 c.loop-rows.invariant.broken c.in_err-row.ensures.first))

pub returns-in_err-refuse_reading-clause-few : goal.returns-in_err-refuse_reading-clause-few
returns-in_err-refuse_reading-clause-few g c = λ m held s h. reads_none (defs_in c.args.self.now) s c.args.range.now (g.F.Files.reads c.args.files.now)

pub returns-in_err-reading-clause-few : goal.returns-in_err-reading-clause-few
returns-in_err-reading-clause-few g c = λ m held s h. reads_none (defs_in c.args.self.now) s c.args.range.now (g.F.Files.reads c.args.files.now)

pub returns-in_err-row-clause-few : goal.returns-in_err-row-clause-few
returns-in_err-row-clause-few g c =
    let was = c.loop-rows.invariant in
    reads_fail (g.F.Files.holds c.args.files.now) (g.F.Files.holds c.loop-rows.files) c.args.self.now c.loop-rows.self c.args.range.now c.loop-rows.reading (g.F.Files.reads c.args.files.now) (g.F.Files.reads c.loop-rows.files) (g.F.Files.reads c.next_in_range.new.files) c.loop-rows.rows.items
    was.same was.reading was.still was.so_far c.in_err-row.ensures.failed

pub returns-in_err-push-clause-few : goal.returns-in_err-push-clause-few
returns-in_err-push-clause-few g c =
    let was = c.loop-rows.invariant in
    reads_now (g.F.Files.holds c.args.files.now) c.args.self.now c.args.range.now c.next_in_range.new.rows (g.F.Files.reads c.args.files.now) (g.F.Files.reads c.next_in_range.new.files) (c.loop-rows.rows.items ++ c.in-Some.row ∷ [])
    (came_next (g.F.Files.holds c.args.files.now) (g.F.Files.holds c.loop-rows.files) c.args.self.now c.loop-rows.self c.args.range.now c.loop-rows.reading c.next_in_range.new.rows (g.F.Files.reads c.args.files.now) (g.F.Files.reads c.loop-rows.files) (g.F.Files.reads c.next_in_range.new.files) c.loop-rows.rows.items c.in_ok-row.field-0 c.in-Some.row
    c.in-Some.is was.same was.reading c.in_ok-row.ensures.onward was.still was.so_far c.in_ok-row.ensures.row c.in_ok-row.ensures.few)

pub returns-clause-few : goal.returns-clause-few
returns-clause-few g c =
    let was = c.loop-rows.invariant in
    reads_end (g.F.Files.holds c.args.files.now) (g.F.Files.holds c.loop-rows.files) c.args.self.now c.loop-rows.self c.args.range.now c.loop-rows.reading (g.F.Files.reads c.args.files.now) (g.F.Files.reads c.loop-rows.files) (g.F.Files.reads c.next_in_range.new.files) c.loop-rows.rows.items c.in_ok-row.field-0
    c.in_default.is was.same was.reading was.still was.so_far c.in_ok-row.ensures.few

pub returns-in_err-row-clause-unread : goal.returns-in_err-row-clause-unread
returns-in_err-row-clause-unread g c =
    let e = err_from_is_err_and c.from_residual-in_err-row.result c.from_residual-in_err-row.ensures.1 in
    let P = (c.next_in_range.new.self ≡ c.args.self.now) × (g.F.Files.holds c.next_in_range.new.files ≡ g.F.Files.holds c.args.files.now) in
    subst (λ r. IfErr r (λ f. IfBroken f P)) (sym e.1) (subst (λ f. IfBroken f P) (sym e.2) (not_for_broken c.loop-rows.self.broken P c.in_err-row.field-0.0 (c.loop-rows.invariant.broken ∙ c.in_ok-refuse_reading.ensures.whole) c.in_err-row.ensures.first))
