use Rattle.std.proofs.Common.{◌≡◌, None, sym, subst}
use Rattle.myi_table.specs.declared.fault.ChangeFault.{ChangeFault}
use Rattle.std.specs.Prelude.{string_bytes}
use Rattle.myi_base.specs.Holding.{Told}
use Rattle.myi_state.specs.Changes.{delete}
use Rattle.myi_table.specs.Table.{OpenTable, IsKept, Makes, Refuses, IfReply, StillHolds, KeepsRows}
use Rattle.myi_table.specs.Faults.{broken_by_fault}
use Rattle.myi_rows.specs.Refusals.{LacksReach}
use Rattle.myi_keyedrows.specs.KeyedRows.{IsLeft}
use Rattle.myi_slots.specs.SlotFile.{Never}
use Rattle.myi_keyedrows.specs.Refusals.{FindsNoneAt}
use Rattle.myi_table.specs.Refusals.{ByCause}
use Rattle.myi_table.proofs.ChangeLemmas.{by_rows, left_rows, with_rows, makes_rows, refuses_rows, unchanged_rows, kept_made, kept_refused, untouched_rows}
use Rattle.myi_table.proofs.table.Table.delete.Goals as goal

pub returns-in-Ok-clause-made : goal.returns-in-Ok-clause-made
returns-in-Ok-clause-made g c =
    let told = g.F.Files.holds c.args.files.now in
    let next = g.F.Files.holds c.delete-made.new.files in
    let i = c.self.inside in
    let t : OpenTable = record { name = string_bytes i.name; setup = i.setup; header = i.header; lost = i.lost; rows = i.rows; changed = i.changed; broken = i.broken; added = i.added } in
    subst (λ (u : OpenTable). Makes (delete c.args.at) told next u (with_rows t c.delete-made.new.self Rattle.std.proofs.Common.true t.broken) c.args.at) c.self.view_is (makes_rows (delete c.args.at) told next t c.delete-made.new.self c.args.at c.delete-made.ensures.same c.in-Ok.ensures.made)

pub returns-in-Ok-clause-kept : goal.returns-in-Ok-clause-kept
returns-in-Ok-clause-kept g c =
    let told = g.F.Files.holds c.args.files.now in
    let next = g.F.Files.holds c.delete-made.new.files in
    let i = c.self.inside in
    let t : OpenTable = record { name = string_bytes i.name; setup = i.setup; header = i.header; lost = i.lost; rows = i.rows; changed = i.changed; broken = i.broken; added = i.added } in
    kept_made (delete c.args.at) told next t (with_rows t c.delete-made.new.self Rattle.std.proofs.Common.true t.broken) c.args.at c.delete-made.ensures.others.untold (subst (λ (u : OpenTable). IsKept told u) (sym c.self.view_is) c.requires.kept) (subst (λ (u : OpenTable). u.broken ≡ None) (sym c.self.view_is) c.in_ok-refuse_broken.ensures.whole)
    (makes_rows (delete c.args.at) told next t c.delete-made.new.self c.args.at c.delete-made.ensures.same c.in-Ok.ensures.made)

pub returns-in-Err-clause-refused : goal.returns-in-Err-clause-refused
returns-in-Err-clause-refused g c =
    let told = g.F.Files.holds c.args.files.now in
    let i = c.self.inside in
    let t : OpenTable = record { name = string_bytes i.name; setup = i.setup; header = i.header; lost = i.lost; rows = i.rows; changed = i.changed; broken = i.broken; added = i.added } in
    subst (λ (u : OpenTable). Refuses (delete c.args.at) told u c.broken_by.result) c.self.view_is (subst (λ (r : ChangeFault). Refuses (delete c.args.at) told t r) (sym c.broken_by.ensures.told) (refuses_rows (delete c.args.at) told t c.in-Err.fault c.in-Err.ensures.refused))

pub returns-in-Err-clause-unchanged : goal.returns-in-Err-clause-unchanged
returns-in-Err-clause-unchanged g c =
    let told = g.F.Files.holds c.args.files.now in
    let next = g.F.Files.holds c.delete-made.new.files in
    let i = c.self.inside in
    let t : OpenTable = record { name = string_bytes i.name; setup = i.setup; header = i.header; lost = i.lost; rows = i.rows; changed = i.changed; broken = i.broken; added = i.added } in
    let x = unchanged_rows told next t c.delete-made.new.self c.in-Err.fault c.fault_count.result c.delete-made.ensures.same c.in-Err.ensures.unchanged in
    let y = subst (λ (r : ChangeFault). IfReply r (StillHolds told next t (with_rows t c.delete-made.new.self t.changed (broken_by_fault r c.fault_count.result t.broken)))) (sym c.broken_by.ensures.told) x in
    let z = subst (λ (n : OpenTable). IfReply c.broken_by.result (StillHolds told next t n)) (sym c.broken_by.ensures.left) y in
    subst (λ (u : OpenTable). IfReply c.broken_by.result (StillHolds told next u c.broken_by.new.self)) c.self.view_is z

pub returns-in-Err-clause-kept : goal.returns-in-Err-clause-kept
returns-in-Err-clause-kept g c =
    let told = g.F.Files.holds c.args.files.now in
    let next = g.F.Files.holds c.delete-made.new.files in
    let i = c.self.inside in
    let t : OpenTable = record { name = string_bytes i.name; setup = i.setup; header = i.header; lost = i.lost; rows = i.rows; changed = i.changed; broken = i.broken; added = i.added } in
    let x = kept_refused (delete c.args.at) told next t c.delete-made.new.self c.in-Err.fault c.fault_count.result c.delete-made.ensures.same c.delete-made.ensures.others.untold (subst (λ (u : OpenTable). IsKept told u) (sym c.self.view_is) c.requires.kept) (subst (λ (u : OpenTable). u.broken ≡ None) (sym c.self.view_is) c.in_ok-refuse_broken.ensures.whole)
    c.in-Err.ensures.refused c.in-Err.ensures.unchanged in
    let y = subst (λ (r : ChangeFault). IsKept next (with_rows t c.delete-made.new.self t.changed (broken_by_fault r c.fault_count.result t.broken))) (sym c.broken_by.ensures.told) x in
    subst (λ (n : OpenTable). IsKept next n) (sym c.broken_by.ensures.left) y

pub returns-in-Err-clause-rows : goal.returns-in-Err-clause-rows
returns-in-Err-clause-rows g c =
    let told = g.F.Files.holds c.args.files.now in
    let next = g.F.Files.holds c.delete-made.new.files in
    let i = c.self.inside in
    let t : OpenTable = record { name = string_bytes i.name; setup = i.setup; header = i.header; lost = i.lost; rows = i.rows; changed = i.changed; broken = i.broken; added = i.added } in
    let kept = subst (λ (r : ChangeFault). IfReply r (Told told next (KeepsRows t.name))) (sym c.broken_by.ensures.told) (untouched_rows told next t c.in-Err.fault c.in-Err.ensures.apart) in
    subst (λ (u : OpenTable). IfReply c.broken_by.result (Told told next (KeepsRows u.name))) c.self.view_is kept

pub returns-in-Err-clause-causes : goal.returns-in-Err-clause-causes
returns-in-Err-clause-causes g c =
    let told = g.F.Files.holds c.args.files.now in
    let i = c.self.inside in
    let t : OpenTable = record { name = string_bytes i.name; setup = i.setup; header = i.header; lost = i.lost; rows = i.rows; changed = i.changed; broken = i.broken; added = i.added } in
    let x = by_rows (FindsNoneAt t.rows.rows.file c.delete-made.new.self.rows.places c.args.at told) Never (LacksReach t.rows.rows.file c.delete-made.new.self.rows.places c.args.at) c.in-Err.fault c.in-Err.ensures.causes in
    let y = subst (λ (r : ChangeFault). ByCause (FindsNoneAt t.rows.rows.file c.delete-made.new.self.rows.places c.args.at told) Never (LacksReach t.rows.rows.file c.delete-made.new.self.rows.places c.args.at) r) (sym c.broken_by.ensures.told) x in
    let z = subst (λ (n : OpenTable). ByCause (FindsNoneAt t.rows.rows.file n.rows.rows.places c.args.at told) Never (LacksReach t.rows.rows.file n.rows.rows.places c.args.at) c.broken_by.result) (sym c.broken_by.ensures.left) y in
    subst (λ (u : OpenTable). ByCause (FindsNoneAt u.rows.rows.file c.broken_by.new.self.rows.rows.places c.args.at told) Never (LacksReach u.rows.rows.file c.broken_by.new.self.rows.rows.places c.args.at) c.broken_by.result) c.self.view_is z

pub returns-in-Err-clause-left : goal.returns-in-Err-clause-left
returns-in-Err-clause-left g c =
    let i = c.self.inside in
    let t : OpenTable = record { name = string_bytes i.name; setup = i.setup; header = i.header; lost = i.lost; rows = i.rows; changed = i.changed; broken = i.broken; added = i.added } in
    let x = left_rows t c.delete-made.new.self (broken_by_fault c.broken_by.result c.fault_count.result t.broken) c.in-Err.fault c.in-Err.ensures.left in
    let y = subst (λ (r : ChangeFault). IfReply r (IsLeft t.rows c.delete-made.new.self)) (sym c.broken_by.ensures.told) x in
    let z = subst (λ (n : OpenTable). IfReply c.broken_by.result (IsLeft t.rows n.rows)) (sym c.broken_by.ensures.left) y in
    subst (λ (u : OpenTable). IfReply c.broken_by.result (IsLeft u.rows c.broken_by.new.self.rows)) c.self.view_is z
