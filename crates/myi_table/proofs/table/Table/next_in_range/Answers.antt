use Rattle.std.proofs.Common.{◌≡◌, None, sym, subst}
use Rattle.std.specs.Prelude.{string_bytes, IfErr}
use Rattle.std.proofs.lemmas.Result.{err_from_is_err_and}
use Rattle.myi_blocks.specs.Places.{NotedFile}
use Rattle.myi_ranges.specs.Ranges.{Answers, ReadInFew, FailsInFew}
use Rattle.myi_table.specs.Table.{OpenTable, defs_in, IsKept, IfHolds, StillHolds}
use Rattle.myi_table.specs.Reading.{HasKey, IsAhead}
use Rattle.myi_table.specs.Tied.{IsTied}
use Rattle.myi_table.proofs.ChangeLemmas.{with_rows, kept_then}
use Rattle.myi_table.proofs.CloseLemmas.{with_trees, written_holds, written_tied}
use Rattle.myi_table.proofs.RangeLemmas.{table_there, row_answered, row_in_few, row_failed, unread_failed, ahead_then}
use Rattle.myi_table.proofs.table.Table.next_in_range.Goals as goal

pub next_row-requires-clause-table : goal.next_row-requires-clause-table
next_row-requires-clause-table g c κs within =
    let told = g.F.Files.holds c.args.files.now in
    let i = c.self.inside in
    let t : OpenTable = record { name = string_bytes i.name; setup = i.setup; header = i.header; lost = i.lost; rows = i.rows; changed = i.changed; broken = i.broken; added = i.added } in
    let tied = c.self.invariant in
    let r = c.args.rows.now in
    let key = subst (λ (u : OpenTable). HasKey u r) (sym c.self.view_is) c.requires.key in
    let whole = subst (λ (u : OpenTable). u.broken ≡ None) (sym c.self.view_is) c.in_ok-refuse_reading.ensures.whole in
    let kept = subst (λ (u : OpenTable). IsKept told u) (sym c.self.view_is) c.requires.kept in
    let ahead = subst (λ (u : OpenTable). IfHolds told u (λ m s. IsAhead u r s)) (sym c.self.view_is) c.requires.ahead in
    table_there told t r i.defs tied.defs tied.fit key whole kept ahead

pub invariant_of-self : goal.invariant_of-self
invariant_of-self g c =
    let told = g.F.Files.holds c.args.files.now in
    let i = c.self.inside in
    let t : OpenTable = record { name = string_bytes i.name; setup = i.setup; header = i.header; lost = i.lost; rows = i.rows; changed = i.changed; broken = i.broken; added = i.added } in
    let tied = c.self.invariant in
    let trees = c.next_row.new.trees in
    subst (λ (rows : NotedFile). IsTied (with_rows t (record { rows = rows; trees = trees }) t.changed t.broken) i.defs (string_bytes i.index)) (sym c.next_row.ensures.rows)
    (written_tied t trees i.defs (string_bytes i.index) tied c.next_row.ensures.searched.places c.next_row.ensures.searched.room c.next_row.ensures.searched.name c.next_row.ensures.counted)

pub invariant_of-self-2 : goal.invariant_of-self-2
invariant_of-self-2 g c =
    let told = g.F.Files.holds c.args.files.now in
    let i = c.self.inside in
    let t : OpenTable = record { name = string_bytes i.name; setup = i.setup; header = i.header; lost = i.lost; rows = i.rows; changed = i.changed; broken = i.broken; added = i.added } in
    let tied = c.self.invariant in
    let trees = c.next_row.new.trees in
    subst (λ (rows : NotedFile). IsTied (with_rows t (record { rows = rows; trees = trees }) t.changed t.broken) i.defs (string_bytes i.index)) (sym c.next_row.ensures.rows)
    (written_tied t trees i.defs (string_bytes i.index) tied c.next_row.ensures.searched.places c.next_row.ensures.searched.room c.next_row.ensures.searched.name c.next_row.ensures.counted)

pub returns-in_err-row-clause-still : goal.returns-in_err-row-clause-still
returns-in_err-row-clause-still g c =
    let told = g.F.Files.holds c.args.files.now in
    let i = c.self.inside in
    let t : OpenTable = record { name = string_bytes i.name; setup = i.setup; header = i.header; lost = i.lost; rows = i.rows; changed = i.changed; broken = i.broken; added = i.added } in
    let tied = c.self.invariant in
    let next = g.F.Files.holds c.next_row.new.files in
    let trees = c.next_row.new.trees in
    let still : StillHolds told next t (with_trees t trees) = written_holds told next t trees tied.fit c.next_row.ensures.searched.stand c.next_row.ensures.searched.others c.next_row.ensures.searched.name in
    subst (λ (rows : NotedFile). StillHolds told next c.args.self.now (with_rows t (record { rows = rows; trees = trees }) t.changed t.broken)) (sym c.next_row.ensures.rows) (subst (λ (u : OpenTable). StillHolds told next u (with_trees t trees)) c.self.view_is still)

pub returns-in_err-row-clause-kept : goal.returns-in_err-row-clause-kept
returns-in_err-row-clause-kept g c =
    let told = g.F.Files.holds c.args.files.now in
    let i = c.self.inside in
    let t : OpenTable = record { name = string_bytes i.name; setup = i.setup; header = i.header; lost = i.lost; rows = i.rows; changed = i.changed; broken = i.broken; added = i.added } in
    let tied = c.self.invariant in
    let next = g.F.Files.holds c.next_row.new.files in
    let trees = c.next_row.new.trees in
    let r = c.args.rows.now in
    let key = subst (λ (u : OpenTable). HasKey u r) (sym c.self.view_is) c.requires.key in
    let whole = subst (λ (u : OpenTable). u.broken ≡ None) (sym c.self.view_is) c.in_ok-refuse_reading.ensures.whole in
    let kept = subst (λ (u : OpenTable). IsKept told u) (sym c.self.view_is) c.requires.kept in
    let ahead = subst (λ (u : OpenTable). IfHolds told u (λ m s. IsAhead u r s)) (sym c.self.view_is) c.requires.ahead in
    let still : StillHolds told next t (with_trees t trees) = written_holds told next t trees tied.fit c.next_row.ensures.searched.stand c.next_row.ensures.searched.others c.next_row.ensures.searched.name in
    subst (λ (rows : NotedFile). IsKept next (with_rows t (record { rows = rows; trees = trees }) t.changed t.broken)) (sym c.next_row.ensures.rows) (kept_then told next t (with_trees t trees) c.next_row.ensures.again.untold kept whole (λ m held s h. (s, still m held s h)))

pub returns-clause-still : goal.returns-clause-still
returns-clause-still g c =
    let told = g.F.Files.holds c.args.files.now in
    let i = c.self.inside in
    let t : OpenTable = record { name = string_bytes i.name; setup = i.setup; header = i.header; lost = i.lost; rows = i.rows; changed = i.changed; broken = i.broken; added = i.added } in
    let tied = c.self.invariant in
    let next = g.F.Files.holds c.next_row.new.files in
    let trees = c.next_row.new.trees in
    let still : StillHolds told next t (with_trees t trees) = written_holds told next t trees tied.fit c.next_row.ensures.searched.stand c.next_row.ensures.searched.others c.next_row.ensures.searched.name in
    subst (λ (rows : NotedFile). StillHolds told next c.args.self.now (with_rows t (record { rows = rows; trees = trees }) t.changed t.broken)) (sym c.next_row.ensures.rows) (subst (λ (u : OpenTable). StillHolds told next u (with_trees t trees)) c.self.view_is still)

pub returns-clause-kept : goal.returns-clause-kept
returns-clause-kept g c =
    let told = g.F.Files.holds c.args.files.now in
    let i = c.self.inside in
    let t : OpenTable = record { name = string_bytes i.name; setup = i.setup; header = i.header; lost = i.lost; rows = i.rows; changed = i.changed; broken = i.broken; added = i.added } in
    let tied = c.self.invariant in
    let next = g.F.Files.holds c.next_row.new.files in
    let trees = c.next_row.new.trees in
    let r = c.args.rows.now in
    let key = subst (λ (u : OpenTable). HasKey u r) (sym c.self.view_is) c.requires.key in
    let whole = subst (λ (u : OpenTable). u.broken ≡ None) (sym c.self.view_is) c.in_ok-refuse_reading.ensures.whole in
    let kept = subst (λ (u : OpenTable). IsKept told u) (sym c.self.view_is) c.requires.kept in
    let ahead = subst (λ (u : OpenTable). IfHolds told u (λ m s. IsAhead u r s)) (sym c.self.view_is) c.requires.ahead in
    let still : StillHolds told next t (with_trees t trees) = written_holds told next t trees tied.fit c.next_row.ensures.searched.stand c.next_row.ensures.searched.others c.next_row.ensures.searched.name in
    subst (λ (rows : NotedFile). IsKept next (with_rows t (record { rows = rows; trees = trees }) t.changed t.broken)) (sym c.next_row.ensures.rows) (kept_then told next t (with_trees t trees) c.next_row.ensures.again.untold kept whole (λ m held s h. (s, still m held s h)))

pub returns-clause-row : goal.returns-clause-row
returns-clause-row g c =
    let told = g.F.Files.holds c.args.files.now in
    let i = c.self.inside in
    let t : OpenTable = record { name = string_bytes i.name; setup = i.setup; header = i.header; lost = i.lost; rows = i.rows; changed = i.changed; broken = i.broken; added = i.added } in
    let tied = c.self.invariant in
    let r = c.args.rows.now in
    let key = subst (λ (u : OpenTable). HasKey u r) (sym c.self.view_is) c.requires.key in
    let whole = subst (λ (u : OpenTable). u.broken ≡ None) (sym c.self.view_is) c.in_ok-refuse_reading.ensures.whole in
    let kept = subst (λ (u : OpenTable). IsKept told u) (sym c.self.view_is) c.requires.kept in
    let ahead = subst (λ (u : OpenTable). IfHolds told u (λ m s. IsAhead u r s)) (sym c.self.view_is) c.requires.ahead in
    let now = c.next_row.new.self in
    subst (λ (u : OpenTable). IfHolds told u (λ m s. Answers (defs_in u) s r now c.in_ok-row.row)) c.self.view_is (row_answered told t r now i.defs c.in_ok-row.row tied.defs tied.fit key ahead c.in_ok-row.ensures.row)

pub returns-clause-few : goal.returns-clause-few
returns-clause-few g c =
    let told = g.F.Files.holds c.args.files.now in
    let i = c.self.inside in
    let t : OpenTable = record { name = string_bytes i.name; setup = i.setup; header = i.header; lost = i.lost; rows = i.rows; changed = i.changed; broken = i.broken; added = i.added } in
    let tied = c.self.invariant in
    let r = c.args.rows.now in
    let key = subst (λ (u : OpenTable). HasKey u r) (sym c.self.view_is) c.requires.key in
    let whole = subst (λ (u : OpenTable). u.broken ≡ None) (sym c.self.view_is) c.in_ok-refuse_reading.ensures.whole in
    let kept = subst (λ (u : OpenTable). IsKept told u) (sym c.self.view_is) c.requires.kept in
    let ahead = subst (λ (u : OpenTable). IfHolds told u (λ m s. IsAhead u r s)) (sym c.self.view_is) c.requires.ahead in
    let before = g.F.Files.reads c.args.files.now in
    let after = g.F.Files.reads c.next_row.new.files in
    subst (λ (u : OpenTable). IfHolds told u (λ m s. ReadInFew (defs_in u) s r c.in_ok-row.row before after)) c.self.view_is (row_in_few told t r i.defs c.in_ok-row.row before after tied.defs tied.fit key ahead c.in_ok-row.ensures.few)

pub returns-clause-ahead : goal.returns-clause-ahead
returns-clause-ahead g c =
    let told = g.F.Files.holds c.args.files.now in
    let i = c.self.inside in
    let t : OpenTable = record { name = string_bytes i.name; setup = i.setup; header = i.header; lost = i.lost; rows = i.rows; changed = i.changed; broken = i.broken; added = i.added } in
    let tied = c.self.invariant in
    let next = g.F.Files.holds c.next_row.new.files in
    let trees = c.next_row.new.trees in
    let r = c.args.rows.now in
    let key = subst (λ (u : OpenTable). HasKey u r) (sym c.self.view_is) c.requires.key in
    let whole = subst (λ (u : OpenTable). u.broken ≡ None) (sym c.self.view_is) c.in_ok-refuse_reading.ensures.whole in
    let kept = subst (λ (u : OpenTable). IsKept told u) (sym c.self.view_is) c.requires.kept in
    let ahead = subst (λ (u : OpenTable). IfHolds told u (λ m s. IsAhead u r s)) (sym c.self.view_is) c.requires.ahead in
    let still : StillHolds told next t (with_trees t trees) = written_holds told next t trees tied.fit c.next_row.ensures.searched.stand c.next_row.ensures.searched.others c.next_row.ensures.searched.name in
    let now = c.next_row.new.self in
    subst (λ (rows : NotedFile). IfHolds next (with_rows t (record { rows = rows; trees = trees }) t.changed t.broken) (λ m s. IsAhead (with_rows t (record { rows = rows; trees = trees }) t.changed t.broken) now s)) (sym c.next_row.ensures.rows) (ahead_then told next t trees r now i.defs c.standing_files_are_read.ensures.rows tied.defs tied.fit key whole kept ahead still c.next_row.ensures.again)

pub returns-in_err-refuse_reading-clause-failed : goal.returns-in_err-refuse_reading-clause-failed
returns-in_err-refuse_reading-clause-failed g c =
    let e = err_from_is_err_and c.from_residual.result c.from_residual.ensures.1 in
    subst (λ r. IfErr r (λ f. IfHolds (g.F.Files.holds c.args.files.now) c.args.self.now (λ m s. FailsInFew (defs_in c.args.self.now) s c.args.rows.now (g.F.Files.reads c.args.files.now) (g.F.Files.reads c.args.files.now)))) (sym e.1)
    (unread_failed (g.F.Files.holds c.args.files.now) c.args.self.now c.args.rows.now (g.F.Files.reads c.args.files.now))

pub returns-in_err-row-clause-failed : goal.returns-in_err-row-clause-failed
returns-in_err-row-clause-failed g c =
    let told = g.F.Files.holds c.args.files.now in
    let i = c.self.inside in
    let t : OpenTable = record { name = string_bytes i.name; setup = i.setup; header = i.header; lost = i.lost; rows = i.rows; changed = i.changed; broken = i.broken; added = i.added } in
    let tied = c.self.invariant in
    let r = c.args.rows.now in
    let key = subst (λ (u : OpenTable). HasKey u r) (sym c.self.view_is) c.requires.key in
    let ahead = subst (λ (u : OpenTable). IfHolds told u (λ m s. IsAhead u r s)) (sym c.self.view_is) c.requires.ahead in
    let before = g.F.Files.reads c.args.files.now in
    let after = g.F.Files.reads c.next_row.new.files in
    let e = err_from_is_err_and c.from_residual-in_err-row.result c.from_residual-in_err-row.ensures.1 in
    subst (λ r. IfErr r (λ f. IfHolds told c.args.self.now (λ m s. FailsInFew (defs_in c.args.self.now) s c.args.rows.now before after))) (sym e.1)
    (subst (λ (u : OpenTable). IfHolds told u (λ m s. FailsInFew (defs_in u) s r before after)) c.self.view_is (row_failed told t r i.defs before after tied.defs tied.fit key ahead c.in_err-row.ensures.failed))
