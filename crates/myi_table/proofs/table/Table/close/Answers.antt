use Rattle.std.proofs.Common.{◌≡◌, ℕ, List, sym, subst}
use Rattle.std.specs.Prelude.{string_bytes}
use Rattle.myi_base.specs.Holding.{Told, Cuts, Writes, OthersStay}
use Rattle.myi_base.proofs.CallerLemmas.{told_more}
use Rattle.myi_keycache.specs.Kept.{AllWritten}
use Rattle.myi_keycache.specs.Caching.{pages_of}
use Rattle.myi_keyedrows.specs.KeyedRows.{IsLeft}
use Rattle.myi_table.specs.Table.{OpenTable, IsSame, StillHolds}
use Rattle.myi_table.specs.Closing.{HasState}
use Rattle.myi_table.proofs.CloseLemmas.{closed_here, rows_closed, rows_stay, cut_stays, write_stays}
use Rattle.myi_table.proofs.table.Table.close.Goals as goal

pub returns-clause-closed : goal.returns-clause-closed
returns-clause-closed g c =
    let told = g.F.Files.holds c.args.files.now in
    let mid = g.F.Files.holds c.flush.new.files in
    let low = g.F.Files.holds c.cut.new.self in
    let end = g.F.Files.holds c.write_at.new.self in
    let i = c.table.inside in
    let now : OpenTable = record { name = string_bytes i.name; setup = i.setup; header = i.header; lost = i.lost; rows = i.rows; changed = i.changed; broken = i.broken; added = i.added } in
    closed_here c.closed_files_stand.ensures.stand told mid low end c.args.self now i.defs (string_bytes i.index) c.in_ok-header.header.items c.end-end.result c.table.invariant
    (subst (λ (u : OpenTable). IsSame c.args.self u) (sym c.table.view_is) c.flush.ensures.same)
    (subst (λ (u : OpenTable). u.changed ≡ c.args.self.changed) (sym c.table.view_is) c.flush.ensures.changed)
    (subst (λ (u : OpenTable). IsLeft c.args.self.rows u.rows) (sym c.table.view_is) c.flush.ensures.left)
    (subst (λ (u : OpenTable). StillHolds told mid c.args.self u) (sym c.table.view_is) c.flush.ensures.still)
    (subst (λ (u : OpenTable). AllWritten (pages_of u.rows.trees.cache)) (sym c.table.view_is) c.in_ok-flush.ensures.written)
    (subst (λ (u : OpenTable). HasState u c.in_ok-header.header.items) (sym c.table.view_is) c.in_ok-header.ensures.header)
    c.end-end.ensures c.end-end.type_inv
    (subst (λ (q : List ℕ). Told mid low (Cuts q c.end-end.result)) c.as_str-index.ensures.value c.in_ok-cut.ensures.ok)
    (subst (λ (x : List ℕ). Told low end (Writes (string_bytes i.index) 0 x)) c.deref.ensures.value (subst (λ (q : List ℕ). Told low end (Writes q 0 c.deref.result.now)) c.as_str-index.ensures.value c.in_ok-write_at.ensures.ok))

pub returns-clause-rows : goal.returns-clause-rows
returns-clause-rows g c =
    let told = g.F.Files.holds c.args.files.now in
    let mid = g.F.Files.holds c.flush.new.files in
    let low = g.F.Files.holds c.cut.new.self in
    let end = g.F.Files.holds c.write_at.new.self in
    let i = c.table.inside in
    let now : OpenTable = record { name = string_bytes i.name; setup = i.setup; header = i.header; lost = i.lost; rows = i.rows; changed = i.changed; broken = i.broken; added = i.added } in
    let same : IsSame c.args.self now = subst (λ (u : OpenTable). IsSame c.args.self u) (sym c.table.view_is) c.flush.ensures.same in
    rows_closed told mid low end c.args.self now i.defs (string_bytes i.index) _ c.end-end.result c.table.invariant same.name c.flush.ensures.rows
    (subst (λ (q : List ℕ). Told mid low (Cuts q c.end-end.result)) c.as_str-index.ensures.value c.in_ok-cut.ensures.ok)
    (subst (λ (q : List ℕ). Told low end (Writes q 0 c.deref.result.now)) c.as_str-index.ensures.value c.in_ok-write_at.ensures.ok)

pub returns-in_err-cut-clause-rows : goal.returns-in_err-cut-clause-rows
returns-in_err-cut-clause-rows g c =
    let told = g.F.Files.holds c.args.files.now in
    let mid = g.F.Files.holds c.flush.new.files in
    let low = g.F.Files.holds c.cut.new.self in
    let i = c.table.inside in
    let now : OpenTable = record { name = string_bytes i.name; setup = i.setup; header = i.header; lost = i.lost; rows = i.rows; changed = i.changed; broken = i.broken; added = i.added } in
    let same : IsSame c.args.self now = subst (λ (u : OpenTable). IsSame c.args.self u) (sym c.table.view_is) c.flush.ensures.same in
    rows_stay told mid low c.args.self now i.defs (string_bytes i.index) _ c.table.invariant same.name c.as_str-index.ensures.value c.flush.ensures.rows
    (told_more mid low _ (OthersStay c.as_str-index.result.now) c.in_err-cut.ensures.err (λ m k held cuts. cut_stays c.as_str-index.result.now c.end-end.result m k cuts))

pub returns-in_err-write_at-clause-rows : goal.returns-in_err-write_at-clause-rows
returns-in_err-write_at-clause-rows g c =
    let told = g.F.Files.holds c.args.files.now in
    let mid = g.F.Files.holds c.flush.new.files in
    let low = g.F.Files.holds c.cut.new.self in
    let end = g.F.Files.holds c.write_at.new.self in
    let i = c.table.inside in
    let now : OpenTable = record { name = string_bytes i.name; setup = i.setup; header = i.header; lost = i.lost; rows = i.rows; changed = i.changed; broken = i.broken; added = i.added } in
    let same : IsSame c.args.self now = subst (λ (u : OpenTable). IsSame c.args.self u) (sym c.table.view_is) c.flush.ensures.same in
    rows_stay told low end c.args.self now i.defs (string_bytes i.index) _ c.table.invariant same.name c.as_str-index.ensures.value (rows_stay told mid low c.args.self now i.defs (string_bytes i.index) _ c.table.invariant same.name c.as_str-index.ensures.value c.flush.ensures.rows
    (told_more mid low _ (OthersStay c.as_str-index.result.now) c.in_ok-cut.ensures.ok (λ m k held cuts. cuts.others)))
    (told_more low end _ (OthersStay c.as_str-index.result.now) c.in_err-write_at.ensures.err (λ m k held writes. write_stays c.as_str-index.result.now 0 c.deref.result.now m k writes))
