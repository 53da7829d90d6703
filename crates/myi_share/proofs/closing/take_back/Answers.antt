use Rattle.std.proofs.Common.{◌≡◌, List, [], length, slice_index_or, refl, sym, ap, subst, ◌∙◌, arith}
use Rattle.std.proofs.lemmas.Result.{err_from_is_err_and}
use Rattle.myi_base.proofs.CallerLemmas.{told_same}
use Rattle.myi_pack.specs.Packed.{Values}
use Rattle.myi_table.specs.declared.fault.ChangeFault.TheVariants.{Memory}
use Rattle.myi_table.specs.Faults.{CutsOff}
use Rattle.myi_table.specs.Folding.{CanFold}
use Rattle.myi_table.specs.Table.{OpenTable, defs_in, KeepsRows, IfHolds}
use Rattle.myi_tail.specs.Prefix.{BeginsWith}
use Rattle.myi_tail.specs.Seats.{Appending}
use Rattle.myi_inserter.specs.Inserter.{IsInserter}
use Rattle.myi_search.specs.Counting.{CountsOn}
use Rattle.myi_share.specs.Taking.{counting, all_counted}
use Rattle.myi_share.proofs.TakeLemmas.{below_then, one_counted}
use Rattle.myi_share.proofs.CloseLemmas.{counted_all, half_then, same_after, counting_same, counting_on, counts_up, kept_counting, got_rows, fits_got, can_fold, folds_got, refused_by, no_cause, same_cause, cut_rest, Repeats, repeats_put, same_rows}
use Rattle.myi_share.proofs.closing.take_back.Goals as goal

pub published-requires-clause-tail : goal.published-requires-clause-tail
published-requires-clause-tail g c κs lives k d lt = (c.requires.parts.1.readers k d lt).tail ∙ ap (λ (a : Appending). a.tail) (sym c.into_appender-appender.ensures)

-- ---- memory is wanting

pub returns-in_err-words-clause-cause : goal.returns-in_err-words-clause-cause
returns-in_err-words-clause-cause g c =
    let e = err_from_is_err_and c.from_residual.result c.from_residual.ensures.1 in
    no_cause c.from_residual.result e.0 _ _ e.1 e.2 (omega arith)

pub returns-in_err-rows-clause-cut : goal.returns-in_err-rows-clause-cut
returns-in_err-rows-clause-cut g c =
    let e = err_from_is_err_and c.from_residual-in_err-rows.result c.from_residual-in_err-rows.ensures.1 in
    refused_by c.from_residual-in_err-rows.result e.0 Memory (λ f. IfHolds (g.F.Files.holds c.args.files.now) c.args.table.now (λ m s. CutsOff f)) e.1 e.2 (λ m held s hold. tt)

pub returns-in_err-rows-clause-causes : goal.returns-in_err-rows-clause-causes
returns-in_err-rows-clause-causes g c =
    let e = err_from_is_err_and c.from_residual-in_err-rows.result c.from_residual-in_err-rows.ensures.1 in
    refused_by c.from_residual-in_err-rows.result e.0 Memory (λ f. (rows : List Values) → IsInserter c.args.inserter.table rows → Repeats (defs_in c.args.table.now) rows f) e.1 e.2 (λ rows put. tt)

pub returns-in_err-rows-clause-cause : goal.returns-in_err-rows-clause-cause
returns-in_err-rows-clause-cause g c =
    let e = err_from_is_err_and c.from_residual-in_err-rows.result c.from_residual-in_err-rows.ensures.1 in
    no_cause c.from_residual-in_err-rows.result e.0 _ _ e.1 e.2 (omega arith)

pub returns-in_err-words-clause-kept : goal.returns-in_err-words-clause-kept
returns-in_err-words-clause-kept g c =
    let i = c.args.inserter.table in
    let rest = c.args.table.now in
    let t = c.published.new.table in
    let is : t ≡ counting rest t.added = half_then rest c.add_counters.new.self t _ c.add_counters.ensures c.published.ensures.rest in
    kept_counting (g.F.Files.holds c.args.files.now) rest t _ is c.requires.parts.1.kept

pub returns-in_err-words-clause-same : goal.returns-in_err-words-clause-same
returns-in_err-words-clause-same g c =
    let i = c.args.inserter.table in
    let rest = c.args.table.now in
    let t = c.published.new.table in
    let is : t ≡ counting rest t.added = half_then rest c.add_counters.new.self t _ c.add_counters.ensures c.published.ensures.rest in
    counting_same rest t is

pub returns-in_err-words-clause-marked : goal.returns-in_err-words-clause-marked
returns-in_err-words-clause-marked g c was =
    let i = c.args.inserter.table in
    let rest = c.args.table.now in
    let t = c.published.new.table in
    let is : t ≡ counting rest t.added = half_then rest c.add_counters.new.self t _ c.add_counters.ensures c.published.ensures.rest in
    ap (λ (x : OpenTable). x.changed) is ∙ was

pub returns-in_err-words-clause-cache : goal.returns-in_err-words-clause-cache
returns-in_err-words-clause-cache g c =
    let i = c.args.inserter.table in
    let rest = c.args.table.now in
    let t = c.published.new.table in
    let is : t ≡ counting rest t.added = half_then rest c.add_counters.new.self t _ c.add_counters.ensures c.published.ensures.rest in
    counting_on rest t _ is

pub returns-in_err-words-clause-counts : goal.returns-in_err-words-clause-counts
returns-in_err-words-clause-counts g c =
    let i = c.args.inserter.table in
    let rest = c.args.table.now in
    let t = c.published.new.table in
    let is : t ≡ counting rest t.added = half_then rest c.add_counters.new.self t _ c.add_counters.ensures c.published.ensures.rest in
    let counts = below_then (all_counted rest) (all_counted c.add_counters.new.self) (all_counted t) (one_counted rest c.add_counters.new.self c.counters.result c.add_counters.ensures) c.published.ensures.counts in
    counts

pub returns-in_err-words-clause-unchanged : goal.returns-in_err-words-clause-unchanged
returns-in_err-words-clause-unchanged g c put =
    let i = c.args.inserter.table in
    let rest = c.args.table.now in
    let t = c.published.new.table in
    let is : t ≡ counting rest t.added = half_then rest c.add_counters.new.self t _ c.add_counters.ensures c.published.ensures.rest in
    ap (λ (x : OpenTable). x.changed) is

pub returns-in_err-words-clause-rows : goal.returns-in_err-words-clause-rows
returns-in_err-words-clause-rows g c put =
    let i = c.args.inserter.table in
    let rest = c.args.table.now in
    let t = c.published.new.table in
    let is : t ≡ counting rest t.added = half_then rest c.add_counters.new.self t _ c.add_counters.ensures c.published.ensures.rest in
    told_same (g.F.Files.holds c.args.files.now) (g.F.Files.holds c.args.files.now) (KeepsRows rest.name) refl (λ m held. refl)

pub returns-in_err-rows-clause-kept : goal.returns-in_err-rows-clause-kept
returns-in_err-rows-clause-kept g c =
    let i = c.args.inserter.table in
    let rest = c.args.table.now in
    let t = c.published.new.table in
    let is : t ≡ counting rest t.added = half_then rest c.add_counters.new.self t _ c.add_counters.ensures c.published.ensures.rest in
    kept_counting (g.F.Files.holds c.args.files.now) rest t _ is c.requires.parts.1.kept

pub returns-in_err-rows-clause-same : goal.returns-in_err-rows-clause-same
returns-in_err-rows-clause-same g c =
    let i = c.args.inserter.table in
    let rest = c.args.table.now in
    let t = c.published.new.table in
    let is : t ≡ counting rest t.added = half_then rest c.add_counters.new.self t _ c.add_counters.ensures c.published.ensures.rest in
    counting_same rest t is

pub returns-in_err-rows-clause-marked : goal.returns-in_err-rows-clause-marked
returns-in_err-rows-clause-marked g c was =
    let i = c.args.inserter.table in
    let rest = c.args.table.now in
    let t = c.published.new.table in
    let is : t ≡ counting rest t.added = half_then rest c.add_counters.new.self t _ c.add_counters.ensures c.published.ensures.rest in
    ap (λ (x : OpenTable). x.changed) is ∙ was

pub returns-in_err-rows-clause-cache : goal.returns-in_err-rows-clause-cache
returns-in_err-rows-clause-cache g c =
    let i = c.args.inserter.table in
    let rest = c.args.table.now in
    let t = c.published.new.table in
    let is : t ≡ counting rest t.added = half_then rest c.add_counters.new.self t _ c.add_counters.ensures c.published.ensures.rest in
    counting_on rest t _ is

pub returns-in_err-rows-clause-counts : goal.returns-in_err-rows-clause-counts
returns-in_err-rows-clause-counts g c =
    let i = c.args.inserter.table in
    let rest = c.args.table.now in
    let t = c.published.new.table in
    let is : t ≡ counting rest t.added = half_then rest c.add_counters.new.self t _ c.add_counters.ensures c.published.ensures.rest in
    let counts = below_then (all_counted rest) (all_counted c.add_counters.new.self) (all_counted t) (one_counted rest c.add_counters.new.self c.counters.result c.add_counters.ensures) c.published.ensures.counts in
    counts

pub returns-in_err-rows-clause-unchanged : goal.returns-in_err-rows-clause-unchanged
returns-in_err-rows-clause-unchanged g c put =
    let i = c.args.inserter.table in
    let rest = c.args.table.now in
    let t = c.published.new.table in
    let is : t ≡ counting rest t.added = half_then rest c.add_counters.new.self t _ c.add_counters.ensures c.published.ensures.rest in
    ap (λ (x : OpenTable). x.changed) is

pub returns-in_err-rows-clause-rows : goal.returns-in_err-rows-clause-rows
returns-in_err-rows-clause-rows g c put =
    let i = c.args.inserter.table in
    let rest = c.args.table.now in
    let t = c.published.new.table in
    let is : t ≡ counting rest t.added = half_then rest c.add_counters.new.self t _ c.add_counters.ensures c.published.ensures.rest in
    told_same (g.F.Files.holds c.args.files.now) (g.F.Files.holds c.args.files.now) (KeepsRows rest.name) refl (λ m held. refl)

-- ---- what is put

pub put_behind-requires-clause-whole : goal.put_behind-requires-clause-whole
put_behind-requires-clause-whole g c κs lives =
    let i = c.args.inserter.table in
    let rest = c.args.table.now in
    let t = c.published.new.table in
    let is : t ≡ counting rest t.added = half_then rest c.add_counters.new.self t _ c.add_counters.ensures c.published.ensures.rest in
    ap (λ (x : OpenTable). x.broken) is ∙ c.requires.parts.1.whole

pub put_behind-requires-clause-fits : goal.put_behind-requires-clause-fits
put_behind-requires-clause-fits g c κs lives =
    let i = c.args.inserter.table in
    let rest = c.args.table.now in
    let t = c.published.new.table in
    let is = counted_all rest c.add_counters.new.self t c.counters.result i c.args.readers.items c.add_counters.ensures c.counters.ensures.counters c.in_ok-words.ensures.table in
    let defs = ap (λ (x : OpenTable). defs_in x) is ∙ sym c.requires.parts.1.inserter.defs in
    let words = c.deref.ensures.value ∙ c.in_ok-words.ensures.words ∙ ap (λ (a : Appending). a.words) c.into_appender-appender.ensures in
    let got = λ (rows : List Values) (put : IsInserter i rows). c.deref-2.ensures.value ∙ got_rows c.put_rows_are_known.ensures.values i c.defs-2.result.now c.deref.result.now c.in_ok-rows.rows.items rows (c.defs-2.ensures.defs ∙ defs) words c.in_ok-rows.ensures put in
    let put = c.requires.parts.1.inserter.ready in
    fits_got i.defs (defs_in t) c.requires.parts.0 c.deref-2.result.now put.fit defs (got c.requires.parts.0 put)

pub put_behind-requires-clause-kept : goal.put_behind-requires-clause-kept
put_behind-requires-clause-kept g c κs lives =
    let i = c.args.inserter.table in
    let rest = c.args.table.now in
    let t = c.published.new.table in
    let is = counted_all rest c.add_counters.new.self t c.counters.result i c.args.readers.items c.add_counters.ensures c.counters.ensures.counters c.in_ok-words.ensures.table in
    kept_counting (g.F.Files.holds c.args.files.now) rest t _ is c.requires.parts.1.kept

pub put_behind-requires-clause-can : goal.put_behind-requires-clause-can
put_behind-requires-clause-can g c κs lives =
    let i = c.args.inserter.table in
    let rest = c.args.table.now in
    let t = c.published.new.table in
    let is = counted_all rest c.add_counters.new.self t c.counters.result i c.args.readers.items c.add_counters.ensures c.counters.ensures.counters c.in_ok-words.ensures.table in
    let defs = ap (λ (x : OpenTable). defs_in x) is ∙ sym c.requires.parts.1.inserter.defs in
    let words = c.deref.ensures.value ∙ c.in_ok-words.ensures.words ∙ ap (λ (a : Appending). a.words) c.into_appender-appender.ensures in
    let got = λ (rows : List Values) (put : IsInserter i rows). c.deref-2.ensures.value ∙ got_rows c.put_rows_are_known.ensures.values i c.defs-2.result.now c.deref.result.now c.in_ok-rows.rows.items rows (c.defs-2.ensures.defs ∙ defs) words c.in_ok-rows.ensures put in
    let put = c.requires.parts.1.inserter in
    can_fold (g.F.Files.holds c.args.files.now) rest t _ c.requires.parts.0 c.deref-2.result.now is (got c.requires.parts.0 put.ready) put.can

-- ---- it is refused

pub returns-in_err-put_behind-clause-cut : goal.returns-in_err-put_behind-clause-cut
returns-in_err-put_behind-clause-cut g c =
    let i = c.args.inserter.table in
    let rest = c.args.table.now in
    let t = c.published.new.table in
    let is = counted_all rest c.add_counters.new.self t c.counters.result i c.args.readers.items c.add_counters.ensures c.counters.ensures.counters c.in_ok-words.ensures.table in
    let told = g.F.Files.holds c.args.files.now in
    let r = c.from_residual-in_err-put_behind.result in
    let e = err_from_is_err_and r c.from_residual-in_err-put_behind.ensures.1 in
    let f = c.in_err-put_behind.field-0.0 in
    refused_by r e.0 f (λ x. IfHolds told rest (λ m s. CutsOff x)) e.1 e.2 (cut_rest told rest t _ f is c.in_err-put_behind.ensures.cut)

pub returns-in_err-put_behind-clause-causes : goal.returns-in_err-put_behind-clause-causes
returns-in_err-put_behind-clause-causes g c =
    let i = c.args.inserter.table in
    let rest = c.args.table.now in
    let t = c.published.new.table in
    let is = counted_all rest c.add_counters.new.self t c.counters.result i c.args.readers.items c.add_counters.ensures c.counters.ensures.counters c.in_ok-words.ensures.table in
    let defs = ap (λ (x : OpenTable). defs_in x) is ∙ sym c.requires.parts.1.inserter.defs in
    let words = c.deref.ensures.value ∙ c.in_ok-words.ensures.words ∙ ap (λ (a : Appending). a.words) c.into_appender-appender.ensures in
    let got = λ (rows : List Values) (put : IsInserter i rows). c.deref-2.ensures.value ∙ got_rows c.put_rows_are_known.ensures.values i c.defs-2.result.now c.deref.result.now c.in_ok-rows.rows.items rows (c.defs-2.ensures.defs ∙ defs) words c.in_ok-rows.ensures put in
    let r = c.from_residual-in_err-put_behind.result in
    let e = err_from_is_err_and r c.from_residual-in_err-put_behind.ensures.1 in
    let f = c.in_err-put_behind.field-0.0 in
    refused_by r e.0 f (λ x. (rows : List Values) → IsInserter i rows → Repeats (defs_in rest) rows x) e.1 e.2
    (λ rows put. repeats_put (defs_in rest) (defs_in t) rows c.deref-2.result.now f (ap (λ (x : OpenTable). defs_in x) is) (got rows put) c.in_err-put_behind.ensures.causes)

pub returns-in_err-put_behind-clause-cause : goal.returns-in_err-put_behind-clause-cause
returns-in_err-put_behind-clause-cause g c =
    let r = c.from_residual-in_err-put_behind.result in
    let e = err_from_is_err_and r c.from_residual-in_err-put_behind.ensures.1 in
    same_cause r e.0 c.in_err-put_behind.field-0.0 _ _ e.1 e.2 c.in_err-put_behind.ensures.cause

pub returns-in_err-put_behind-clause-same : goal.returns-in_err-put_behind-clause-same
returns-in_err-put_behind-clause-same g c =
    let i = c.args.inserter.table in
    let rest = c.args.table.now in
    let t = c.published.new.table in
    let is : t ≡ counting rest t.added = half_then rest c.add_counters.new.self t _ c.add_counters.ensures c.published.ensures.rest in
    same_after rest t c.put_behind.new.table is c.put_behind.ensures.same

pub returns-in_err-put_behind-clause-marked : goal.returns-in_err-put_behind-clause-marked
returns-in_err-put_behind-clause-marked g c was =
    let i = c.args.inserter.table in
    let rest = c.args.table.now in
    let t = c.published.new.table in
    let is : t ≡ counting rest t.added = half_then rest c.add_counters.new.self t _ c.add_counters.ensures c.published.ensures.rest in
    c.put_behind.ensures.marked (ap (λ (x : OpenTable). x.changed) is ∙ was)

pub returns-in_err-put_behind-clause-cache : goal.returns-in_err-put_behind-clause-cache
returns-in_err-put_behind-clause-cache g c =
    let i = c.args.inserter.table in
    let rest = c.args.table.now in
    let t = c.published.new.table in
    let is : t ≡ counting rest t.added = half_then rest c.add_counters.new.self t _ c.add_counters.ensures c.published.ensures.rest in
    subst (λ (x : OpenTable). CountsOn x.rows.trees.cache c.put_behind.new.table.rows.trees.cache) is c.put_behind.ensures.counted

pub returns-in_err-put_behind-clause-counts : goal.returns-in_err-put_behind-clause-counts
returns-in_err-put_behind-clause-counts g c =
    let i = c.args.inserter.table in
    let rest = c.args.table.now in
    let t = c.published.new.table in
    let counts = below_then (all_counted rest) (all_counted c.add_counters.new.self) (all_counted t) (one_counted rest c.add_counters.new.self c.counters.result c.add_counters.ensures) c.published.ensures.counts in
    below_then (all_counted rest) (all_counted t) (all_counted c.put_behind.new.table) counts (counts_up t c.put_behind.new.table c.put_behind.ensures.counted c.put_behind.ensures.same.added)

pub returns-in_err-put_behind-clause-unchanged : goal.returns-in_err-put_behind-clause-unchanged
returns-in_err-put_behind-clause-unchanged g c put =
    let i = c.args.inserter.table in
    let rest = c.args.table.now in
    let t = c.published.new.table in
    let is = counted_all rest c.add_counters.new.self t c.counters.result i c.args.readers.items c.add_counters.ensures c.counters.ensures.counters c.in_ok-words.ensures.table in
    let defs = ap (λ (x : OpenTable). defs_in x) is ∙ sym c.requires.parts.1.inserter.defs in
    let words = c.deref.ensures.value ∙ c.in_ok-words.ensures.words ∙ ap (λ (a : Appending). a.words) c.into_appender-appender.ensures in
    let got = λ (rows : List Values) (put : IsInserter i rows). c.deref-2.ensures.value ∙ got_rows c.put_rows_are_known.ensures.values i c.defs-2.result.now c.deref.result.now c.in_ok-rows.rows.items rows (c.defs-2.ensures.defs ∙ defs) words c.in_ok-rows.ensures put in
    let none = c.put_behind.ensures.none (ap (λ (l : List Values). length l) (got [] put)) in
    ap (λ (x : OpenTable). x.changed) none.0 ∙ ap (λ (x : OpenTable). x.changed) is

pub returns-in_err-put_behind-clause-rows : goal.returns-in_err-put_behind-clause-rows
returns-in_err-put_behind-clause-rows g c put =
    let i = c.args.inserter.table in
    let rest = c.args.table.now in
    let t = c.published.new.table in
    let is = counted_all rest c.add_counters.new.self t c.counters.result i c.args.readers.items c.add_counters.ensures c.counters.ensures.counters c.in_ok-words.ensures.table in
    let defs = ap (λ (x : OpenTable). defs_in x) is ∙ sym c.requires.parts.1.inserter.defs in
    let words = c.deref.ensures.value ∙ c.in_ok-words.ensures.words ∙ ap (λ (a : Appending). a.words) c.into_appender-appender.ensures in
    let got = λ (rows : List Values) (put : IsInserter i rows). c.deref-2.ensures.value ∙ got_rows c.put_rows_are_known.ensures.values i c.defs-2.result.now c.deref.result.now c.in_ok-rows.rows.items rows (c.defs-2.ensures.defs ∙ defs) words c.in_ok-rows.ensures put in
    let none = c.put_behind.ensures.none (ap (λ (l : List Values). length l) (got [] put)) in
    told_same (g.F.Files.holds c.args.files.now) (g.F.Files.holds c.put_behind.new.files) (KeepsRows rest.name) none.1 (λ m held. refl)

pub returns-clause-same : goal.returns-clause-same
returns-clause-same g c =
    let i = c.args.inserter.table in
    let rest = c.args.table.now in
    let t = c.published.new.table in
    let is : t ≡ counting rest t.added = half_then rest c.add_counters.new.self t _ c.add_counters.ensures c.published.ensures.rest in
    same_after rest t c.put_behind.new.table is c.put_behind.ensures.same

pub returns-clause-marked : goal.returns-clause-marked
returns-clause-marked g c was =
    let i = c.args.inserter.table in
    let rest = c.args.table.now in
    let t = c.published.new.table in
    let is : t ≡ counting rest t.added = half_then rest c.add_counters.new.self t _ c.add_counters.ensures c.published.ensures.rest in
    c.put_behind.ensures.marked (ap (λ (x : OpenTable). x.changed) is ∙ was)

pub returns-clause-cache : goal.returns-clause-cache
returns-clause-cache g c =
    let i = c.args.inserter.table in
    let rest = c.args.table.now in
    let t = c.published.new.table in
    let is : t ≡ counting rest t.added = half_then rest c.add_counters.new.self t _ c.add_counters.ensures c.published.ensures.rest in
    subst (λ (x : OpenTable). CountsOn x.rows.trees.cache c.put_behind.new.table.rows.trees.cache) is c.put_behind.ensures.counted

pub returns-clause-counts : goal.returns-clause-counts
returns-clause-counts g c =
    let i = c.args.inserter.table in
    let rest = c.args.table.now in
    let t = c.published.new.table in
    let counts = below_then (all_counted rest) (all_counted c.add_counters.new.self) (all_counted t) (one_counted rest c.add_counters.new.self c.counters.result c.add_counters.ensures) c.published.ensures.counts in
    below_then (all_counted rest) (all_counted t) (all_counted c.put_behind.new.table) counts (counts_up t c.put_behind.new.table c.put_behind.ensures.counted c.put_behind.ensures.same.added)

pub returns-clause-unchanged : goal.returns-clause-unchanged
returns-clause-unchanged g c put =
    let i = c.args.inserter.table in
    let rest = c.args.table.now in
    let t = c.published.new.table in
    let is = counted_all rest c.add_counters.new.self t c.counters.result i c.args.readers.items c.add_counters.ensures c.counters.ensures.counters c.in_ok-words.ensures.table in
    let defs = ap (λ (x : OpenTable). defs_in x) is ∙ sym c.requires.parts.1.inserter.defs in
    let words = c.deref.ensures.value ∙ c.in_ok-words.ensures.words ∙ ap (λ (a : Appending). a.words) c.into_appender-appender.ensures in
    let got = λ (rows : List Values) (put : IsInserter i rows). c.deref-2.ensures.value ∙ got_rows c.put_rows_are_known.ensures.values i c.defs-2.result.now c.deref.result.now c.in_ok-rows.rows.items rows (c.defs-2.ensures.defs ∙ defs) words c.in_ok-rows.ensures put in
    let none = c.put_behind.ensures.none (ap (λ (l : List Values). length l) (got [] put)) in
    ap (λ (x : OpenTable). x.changed) none.0 ∙ ap (λ (x : OpenTable). x.changed) is

pub returns-clause-rows : goal.returns-clause-rows
returns-clause-rows g c put =
    let i = c.args.inserter.table in
    let rest = c.args.table.now in
    let t = c.published.new.table in
    let is = counted_all rest c.add_counters.new.self t c.counters.result i c.args.readers.items c.add_counters.ensures c.counters.ensures.counters c.in_ok-words.ensures.table in
    let defs = ap (λ (x : OpenTable). defs_in x) is ∙ sym c.requires.parts.1.inserter.defs in
    let words = c.deref.ensures.value ∙ c.in_ok-words.ensures.words ∙ ap (λ (a : Appending). a.words) c.into_appender-appender.ensures in
    let got = λ (rows : List Values) (put : IsInserter i rows). c.deref-2.ensures.value ∙ got_rows c.put_rows_are_known.ensures.values i c.defs-2.result.now c.deref.result.now c.in_ok-rows.rows.items rows (c.defs-2.ensures.defs ∙ defs) words c.in_ok-rows.ensures put in
    let none = c.put_behind.ensures.none (ap (λ (l : List Values). length l) (got [] put)) in
    told_same (g.F.Files.holds c.args.files.now) (g.F.Files.holds c.put_behind.new.files) (KeepsRows rest.name) none.1 (λ m held. refl)

-- ---- it is taken back

pub returns-clause-folded : goal.returns-clause-folded
returns-clause-folded g c m held s hold rows put =
    let i = c.args.inserter.table in
    let rest = c.args.table.now in
    let t = c.published.new.table in
    let is = counted_all rest c.add_counters.new.self t c.counters.result i c.args.readers.items c.add_counters.ensures c.counters.ensures.counters c.in_ok-words.ensures.table in
    let defs = ap (λ (x : OpenTable). defs_in x) is ∙ sym c.requires.parts.1.inserter.defs in
    let words = c.deref.ensures.value ∙ c.in_ok-words.ensures.words ∙ ap (λ (a : Appending). a.words) c.into_appender-appender.ensures in
    let got = λ (rows : List Values) (put : IsInserter i rows). c.deref-2.ensures.value ∙ got_rows c.put_rows_are_known.ensures.values i c.defs-2.result.now c.deref.result.now c.in_ok-rows.rows.items rows (c.defs-2.ensures.defs ∙ defs) words c.in_ok-rows.ensures put in
    let told = g.F.Files.holds c.args.files.now in
    let part = c.requires.parts.1.inserter in
    let can = subst (λ (l : List Values). IfHolds told rest (λ m s. CanFold (defs_in rest) s l)) (same_rows c.put_rows_are_known.ensures.values i c.requires.parts.0 rows part.ready put) part.can in
    folds_got c.put_rows_can_be_folded.ensures.folded told (g.F.Files.holds c.put_behind.new.files) rest t c.put_behind.new.table _ rows c.deref-2.result.now is (got rows put) can c.in_ok-put_behind.ensures.folded m held s hold

pub returns-clause-known : goal.returns-clause-known
returns-clause-known g c k d lt = subst (λ (a : Appending). BeginsWith a.words (slice_index_or c.args.readers.items k d).table.seat.known) c.into_appender-appender.ensures (c.in_ok-words.ensures.known k d lt)

pub returns-clause-changed : goal.returns-clause-changed
returns-clause-changed g c rows put some =
    let i = c.args.inserter.table in
    let rest = c.args.table.now in
    let t = c.published.new.table in
    let is = counted_all rest c.add_counters.new.self t c.counters.result i c.args.readers.items c.add_counters.ensures c.counters.ensures.counters c.in_ok-words.ensures.table in
    let defs = ap (λ (x : OpenTable). defs_in x) is ∙ sym c.requires.parts.1.inserter.defs in
    let words = c.deref.ensures.value ∙ c.in_ok-words.ensures.words ∙ ap (λ (a : Appending). a.words) c.into_appender-appender.ensures in
    let got = λ (rows : List Values) (put : IsInserter i rows). c.deref-2.ensures.value ∙ got_rows c.put_rows_are_known.ensures.values i c.defs-2.result.now c.deref.result.now c.in_ok-rows.rows.items rows (c.defs-2.ensures.defs ∙ defs) words c.in_ok-rows.ensures put in
    let long = ap (λ (l : List Values). length l) (got rows put) in
    c.in_ok-put_behind.ensures.changed (omega (arith, long, some))

pub returns-clause-none : goal.returns-clause-none
returns-clause-none g c put =
    let i = c.args.inserter.table in
    let rest = c.args.table.now in
    let t = c.published.new.table in
    let is = counted_all rest c.add_counters.new.self t c.counters.result i c.args.readers.items c.add_counters.ensures c.counters.ensures.counters c.in_ok-words.ensures.table in
    let defs = ap (λ (x : OpenTable). defs_in x) is ∙ sym c.requires.parts.1.inserter.defs in
    let words = c.deref.ensures.value ∙ c.in_ok-words.ensures.words ∙ ap (λ (a : Appending). a.words) c.into_appender-appender.ensures in
    let got = λ (rows : List Values) (put : IsInserter i rows). c.deref-2.ensures.value ∙ got_rows c.put_rows_are_known.ensures.values i c.defs-2.result.now c.deref.result.now c.in_ok-rows.rows.items rows (c.defs-2.ensures.defs ∙ defs) words c.in_ok-rows.ensures put in
    (c.put_behind.ensures.none (ap (λ (l : List Values). length l) (got [] put))).0 ∙ is

pub returns-clause-cause : goal.returns-clause-cause
returns-clause-cause g c = record { later = c.in_ok-put_behind.ensures.cause.later; cause = λ e. absurd cc }
