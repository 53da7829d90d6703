use Rattle.std.proofs.Common.{◌≡◌, ℕ, ◌+◌, ◌<◌, List, [], ◌∷◌, ◌++◌, length, take, drop, get_or, refl, sym, ap, subst, ◌∙◌, arith}
use Rattle.std.specs.Prelude.{IfErr}
use Rattle.std.proofs.lemmas.List.{length_push}
use Rattle.std.proofs.lemmas.Result.{err_from_is_err_and}
use Rattle.std.proofs.lemmas.Iterator.Adapters.{YieldsList-from_vec}
use Rattle.std.proofs.lemmas.Iterator.Consumers.{YieldsList-turn, YieldsList-end}
use Rattle.myi_table.specs.Table.{OpenTable, IsKept}
use Rattle.myi_table.specs.Faults.{CutsOff}
use Rattle.myi_table.specs.declared.fault.ChangeFault.{ChangeFault}
use Rattle.myi_merge.specs.Merged.{IsMerge, AreKept, AreWhole, IfHoldEach}
use Rattle.myi_merge.specs.Changing.{StopsAtTable}
use Rattle.myi_merge.proofs.ScanLemmas.{whole_more}
use Rattle.myi_merge.proofs.CarryLemmas.{others_same}
use Rattle.myi_merge.proofs.CloseLemmas.{ClosingSoFar, StopsAt, closing_none, closing_more, closing_all, closing_next, kept_at, kept_more, others_more, stops_none, stops_more, stops_at, stops_all}
use Rattle.myi_merge.proofs.merge.Merge.close.Goals as goal

pub close-requires-clause-kept : goal.close-requires-clause-kept
close-requires-clause-kept g c κs within =
    let ts : List OpenTable = c.args.self.tables in
    let i : ℕ = length c.loop-table.yielded in
    let t : OpenTable = c.in-Some.table in
    let given = c.into_iter-table-iterator.ensures.into_iter_gives in
    let turn = YieldsList-turn (YieldsList-from_vec {s = c.into_iter-table-iterator.result} c.into_tables-table-items.result.items given.0 (omega (arith, given.1, c.into_tables-table-items.result.ok.0))) c.loop-table.yielded c.loop-table.table-iterator c.loop-table.yielded_by c.next.result c.next.new.self t c.in-Some.is c.next.ensures.steps in
    let same = c.into_tables-table-items.ensures in
    let lt : i < length ts = subst (λ (us : List OpenTable). i < length us) same turn.0 in
    let at : get_or ts i t ≡ t = sym (subst (λ (us : List OpenTable). t ≡ get_or us i t) same turn.1) in
    subst (IsKept (g.F.Files.holds c.loop-table.files)) at (kept_at (g.F.Files.holds c.loop-table.files) i ts t lt c.loop-table.invariant.kept)

pub loop-table-init : goal.loop-table-init
loop-table-init g c =
    let told = g.F.Files.holds c.args.files.now in
    let ts : List OpenTable = c.args.self.tables in
    record {
      so_far = closing_none told told ts refl;
      stops = stops_none told told ts refl;
      kept = c.requires.kept;
      whole = tt;
      others = others_same told told ts refl;
      later = omega arith;
    }

pub loop-table-preserved : goal.loop-table-preserved
loop-table-preserved g c =
    let told = g.F.Files.holds c.args.files.now in
    let now = g.F.Files.holds c.loop-table.files in
    let next = g.F.Files.holds c.close.new.files in
    let was = c.loop-table.invariant in
    let ts : List OpenTable = c.args.self.tables in
    let i : ℕ = length c.loop-table.yielded in
    let t : OpenTable = c.in-Some.table in
    let given = c.into_iter-table-iterator.ensures.into_iter_gives in
    let turn = YieldsList-turn (YieldsList-from_vec {s = c.into_iter-table-iterator.result} c.into_tables-table-items.result.items given.0 (omega (arith, given.1, c.into_tables-table-items.result.ok.0))) c.loop-table.yielded c.loop-table.table-iterator c.loop-table.yielded_by c.next.result c.next.new.self t c.in-Some.is c.next.ensures.steps in
    let same = c.into_tables-table-items.ensures in
    let lt : i < length ts = subst (λ (us : List OpenTable). i < length us) same turn.0 in
    let at : get_or ts i t ≡ t = sym (subst (λ (us : List OpenTable). t ≡ get_or us i t) same turn.1) in
    let inv : IsMerge c.args.self = subst IsMerge c.self.view_is c.self.invariant in
    let more : length (c.loop-table.yielded ++ t ∷ []) ≡ i + 1 = length_push c.loop-table.yielded t in
    let rests = c.tables_rest_on_their_files.ensures in
    record {
      so_far = subst (λ (n : ℕ). ClosingSoFar told next n ts) (sym more) (closing_more rests told now next i ts t inv.named inv.sound lt at c.close.ensures.others c.in_ok-close.ensures.closed was.so_far);
      stops = subst (λ (n : ℕ). StopsAt told next n ts) (sym more) (stops_more rests told now next i ts t inv.named inv.sound lt at c.close.ensures.others c.in_ok-close.ensures.closed c.in_ok-close.ensures.rows was.stops);
      kept = subst (λ (n : ℕ). AreKept next (drop n ts)) (sym more) (kept_more rests now next i ts t inv.named inv.sound lt at c.close.ensures.others was.kept);
      whole = subst (λ (n : ℕ). AreWhole (take n ts)) (sym more) (whole_more ts i t lt was.whole (ap (λ (u : OpenTable). u.broken) at ∙ c.in_ok-close.ensures.whole));
      others = others_more told now next i ts t lt at c.close.ensures.others was.others;
      later = omega (arith, was.later, c.close.ensures.cause.later);
    }

pub returns-in_err-close-clause-refused : goal.returns-in_err-close-clause-refused
returns-in_err-close-clause-refused g c =
    let told = g.F.Files.holds c.args.files.now in
    let ts : List OpenTable = c.args.self.tables in
    let i : ℕ = length c.loop-table.yielded in
    let t : OpenTable = c.in-Some.table in
    let given = c.into_iter-table-iterator.ensures.into_iter_gives in
    let turn = YieldsList-turn (YieldsList-from_vec {s = c.into_iter-table-iterator.result} c.into_tables-table-items.result.items given.0 (omega (arith, given.1, c.into_tables-table-items.result.ok.0))) c.loop-table.yielded c.loop-table.table-iterator c.loop-table.yielded_by c.next.result c.next.new.self t c.in-Some.is c.next.ensures.steps in
    let same = c.into_tables-table-items.ensures in
    let lt : i < length ts = subst (λ (us : List OpenTable). i < length us) same turn.0 in
    let at : get_or ts i t ≡ t = sym (subst (λ (us : List OpenTable). t ≡ get_or us i t) same turn.1) in
    let e = err_from_is_err_and c.from_residual.result c.from_residual.ensures.1 in
    subst (λ r. IfErr r (λ f. IfHoldEach told ts (λ m ss. CutsOff f))) (sym e.1)
    (subst (λ (f : ChangeFault). IfHoldEach told ts (λ m ss. CutsOff f)) (sym e.2)
    (closing_next told (g.F.Files.holds c.loop-table.files) i ts t (CutsOff c.in_err-close.field-0.0) lt at (λ m held s h. c.in_err-close.ensures.refused h.whole) c.loop-table.invariant.so_far))

pub returns-in_err-close-clause-others : goal.returns-in_err-close-clause-others
returns-in_err-close-clause-others g c =
    let ts : List OpenTable = c.args.self.tables in
    let i : ℕ = length c.loop-table.yielded in
    let t : OpenTable = c.in-Some.table in
    let given = c.into_iter-table-iterator.ensures.into_iter_gives in
    let turn = YieldsList-turn (YieldsList-from_vec {s = c.into_iter-table-iterator.result} c.into_tables-table-items.result.items given.0 (omega (arith, given.1, c.into_tables-table-items.result.ok.0))) c.loop-table.yielded c.loop-table.table-iterator c.loop-table.yielded_by c.next.result c.next.new.self t c.in-Some.is c.next.ensures.steps in
    let same = c.into_tables-table-items.ensures in
    let lt : i < length ts = subst (λ (us : List OpenTable). i < length us) same turn.0 in
    let at : get_or ts i t ≡ t = sym (subst (λ (us : List OpenTable). t ≡ get_or us i t) same turn.1) in
    others_more (g.F.Files.holds c.args.files.now) (g.F.Files.holds c.loop-table.files) (g.F.Files.holds c.close.new.files) i ts t lt at c.close.ensures.others c.loop-table.invariant.others

pub returns-clause-closed : goal.returns-clause-closed
returns-clause-closed g c =
    let given = c.into_iter-table-iterator.ensures.into_iter_gives in
    let all = YieldsList-end (YieldsList-from_vec {s = c.into_iter-table-iterator.result} c.into_tables-table-items.result.items given.0 (omega (arith, given.1, c.into_tables-table-items.result.ok.0))) c.loop-table.yielded c.loop-table.table-iterator c.loop-table.yielded_by c.next.result c.next.new.self c.in-None.is c.next.ensures.steps in
    closing_all (g.F.Files.holds c.args.files.now) (g.F.Files.holds c.loop-table.files) (length c.loop-table.yielded) c.args.self.tables (all.1 ∙ ap length c.into_tables-table-items.ensures) c.loop-table.invariant.so_far

pub returns-in_err-close-clause-stops : goal.returns-in_err-close-clause-stops
returns-in_err-close-clause-stops g c =
    let told = g.F.Files.holds c.args.files.now in
    let now = g.F.Files.holds c.loop-table.files in
    let next = g.F.Files.holds c.close.new.files in
    let was = c.loop-table.invariant in
    let ts : List OpenTable = c.args.self.tables in
    let i : ℕ = length c.loop-table.yielded in
    let t : OpenTable = c.in-Some.table in
    let given = c.into_iter-table-iterator.ensures.into_iter_gives in
    let turn = YieldsList-turn (YieldsList-from_vec {s = c.into_iter-table-iterator.result} c.into_tables-table-items.result.items given.0 (omega (arith, given.1, c.into_tables-table-items.result.ok.0))) c.loop-table.yielded c.loop-table.table-iterator c.loop-table.yielded_by c.next.result c.next.new.self t c.in-Some.is c.next.ensures.steps in
    let same = c.into_tables-table-items.ensures in
    let lt : i < length ts = subst (λ (us : List OpenTable). i < length us) same turn.0 in
    let at : get_or ts i t ≡ t = sym (subst (λ (us : List OpenTable). t ≡ get_or us i t) same turn.1) in
    let inv : IsMerge c.args.self = subst IsMerge c.self.view_is c.self.invariant in
    let e = err_from_is_err_and c.from_residual.result c.from_residual.ensures.1 in
    subst (λ r. IfErr r (StopsAtTable told next ts)) (sym e.1)
    (subst (StopsAtTable told next ts) (sym e.2)
    (stops_at told now next i ts t c.in_err-close.field-0.0 inv.named lt at c.close.ensures.others was.whole c.in_err-close.ensures.first c.in_err-close.ensures.refused c.close.ensures.rows was.stops))

pub returns-clause-each : goal.returns-clause-each
returns-clause-each g c =
    let given = c.into_iter-table-iterator.ensures.into_iter_gives in
    let all = YieldsList-end (YieldsList-from_vec {s = c.into_iter-table-iterator.result} c.into_tables-table-items.result.items given.0 (omega (arith, given.1, c.into_tables-table-items.result.ok.0))) c.loop-table.yielded c.loop-table.table-iterator c.loop-table.yielded_by c.next.result c.next.new.self c.in-None.is c.next.ensures.steps in
    (stops_all (g.F.Files.holds c.args.files.now) (g.F.Files.holds c.loop-table.files) (length c.loop-table.yielded) c.args.self.tables (all.1 ∙ ap length c.into_tables-table-items.ensures) c.loop-table.invariant.stops).0

pub returns-clause-rows : goal.returns-clause-rows
returns-clause-rows g c =
    let given = c.into_iter-table-iterator.ensures.into_iter_gives in
    let all = YieldsList-end (YieldsList-from_vec {s = c.into_iter-table-iterator.result} c.into_tables-table-items.result.items given.0 (omega (arith, given.1, c.into_tables-table-items.result.ok.0))) c.loop-table.yielded c.loop-table.table-iterator c.loop-table.yielded_by c.next.result c.next.new.self c.in-None.is c.next.ensures.steps in
    (stops_all (g.F.Files.holds c.args.files.now) (g.F.Files.holds c.loop-table.files) (length c.loop-table.yielded) c.args.self.tables (all.1 ∙ ap length c.into_tables-table-items.ensures) c.loop-table.invariant.stops).1
