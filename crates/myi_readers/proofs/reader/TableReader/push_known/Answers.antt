use Rattle.std.proofs.Common.{◌<◌, ◌≤◌, ℕ, List, length, ap, subst, arith}
use Rattle.myi_pack.specs.Packed.{Values}
use Rattle.myi_state.specs.declared.counts.Counts.{Counts}
use Rattle.myi_readers.specs.declared.reader.TableReader.{TableReader}
use Rattle.myi_readers.specs.Reader.{rows_known}
use Rattle.myi_readers.proofs.SeenLemmas.{packed_known, size_is, as_they_are, came_none, came_more, came_all}
use Rattle.myi_readers.proofs.reader.TableReader.push_known.Goals as goal

pub loop-i-init : goal.loop-i-init
loop-i-init c =
    let r : TableReader = c.args.self.now in
    came_none (λ (rows : List (ℕ × Values)). rows) r.defs r.rows.rows.file.counts.length c.args.below c.counts-at.result.length (rows_known r) c.args.rows.now.items as_they_are (omega arith) (ap (λ (k : Counts). k.length) c.counts-at.ensures)

pub push_known_row-requires-clause-there : goal.push_known_row-requires-clause-there
push_known_row-requires-clause-there c =
    let r : TableReader = c.args.self.now in
    subst (λ (l : List (List ℕ)). c.loop-i.i < length l) (packed_known r c.requires.ready) (subst (λ n. c.loop-i.i < n) c.count-i-end.ensures c.loop-i-test.true)

pub size-requires : goal.size-requires
size-requires c = subst (λ n. c.loop-i.i < n) c.count-i-end.ensures c.loop-i-test.true

pub loop-i-preserved : goal.loop-i-preserved
loop-i-preserved c =
    let r : TableReader = c.args.self.now in
    let lt : c.loop-i.i < length (rows_known r) = subst (λ (l : List (List ℕ)). c.loop-i.i < length l) (packed_known r c.requires.ready) (subst (λ n. c.loop-i.i < n) c.count-i-end.ensures c.loop-i-test.true) in
    came_more (λ (rows : List (ℕ × Values)). rows) r.defs r.rows.rows.file.counts.length c.args.below c.loop-i.i c.loop-i.at c.saturating_add-at.result c.size.result (rows_known r) c.args.rows.now.items c.loop-i.rows.items c.push_known_row.new.rows.items as_they_are lt (omega (arith, c.ranges.below.fits))
    (size_is r c.loop-i.i c.size.result c.requires.ready c.size.ensures) c.saturating_add-at.ensures c.in_ok-push_known_row.ensures c.loop-i.invariant

pub returns : goal.returns
returns c =
    let r : TableReader = c.args.self.now in
    let whole : length (rows_known r) ≤ c.loop-i.i = subst (λ (l : List (List ℕ)). length l ≤ c.loop-i.i) (packed_known r c.requires.ready) (subst (λ n. n ≤ c.loop-i.i) c.count-i-end.ensures c.loop-i-test.false) in
    came_all (λ (rows : List (ℕ × Values)). rows) r.defs r.rows.rows.file.counts.length c.args.below c.loop-i.i c.loop-i.at (rows_known r) c.args.rows.now.items c.loop-i.rows.items whole c.loop-i.invariant
