use Rattle.std.proofs.Common.{subst}
use Rattle.std.specs.Prelude.{string_bytes}
use Rattle.myi_base.specs.Holding.{IfTold, Told}
use Rattle.myi_table.specs.Closing.{TreesStand}
use Rattle.myi_table.specs.Table.{OpenTable, IfHolds, StillHolds, KeepsRows}
use Rattle.myi_table.proofs.ChangeLemmas.{rows_kept}
use Rattle.myi_table.proofs.CloseLemmas.{with_trees, written_holds, written_tied, written_stand}
use Rattle.myi_table.proofs.table.Table.flush.Goals as goal

pub invariant_of-self : goal.invariant_of-self
invariant_of-self g c =
    let i = c.self.inside in
    let t : OpenTable = record { name = string_bytes i.name; setup = i.setup; header = i.header; lost = i.lost; rows = i.rows; changed = i.changed; broken = i.broken; added = i.added } in
    written_tied t c.flush.new.self i.defs (string_bytes i.index) c.self.invariant c.flush.ensures.places c.flush.ensures.room c.flush.ensures.name c.flush.ensures.counted

pub invariant_of-self-2 : goal.invariant_of-self-2
invariant_of-self-2 g c =
    let i = c.self.inside in
    let t : OpenTable = record { name = string_bytes i.name; setup = i.setup; header = i.header; lost = i.lost; rows = i.rows; changed = i.changed; broken = i.broken; added = i.added } in
    written_tied t c.flush.new.self i.defs (string_bytes i.index) c.self.invariant c.flush.ensures.places c.flush.ensures.room c.flush.ensures.name c.flush.ensures.counted

pub returns-in_err-flush-clause-still : goal.returns-in_err-flush-clause-still
returns-in_err-flush-clause-still g c =
    let told = g.F.Files.holds c.args.files.now in
    let next = g.F.Files.holds c.flush.new.files in
    let i = c.self.inside in
    let t : OpenTable = record { name = string_bytes i.name; setup = i.setup; header = i.header; lost = i.lost; rows = i.rows; changed = i.changed; broken = i.broken; added = i.added } in
    subst (λ (u : OpenTable). StillHolds told next u (with_trees t c.flush.new.self)) c.self.view_is (written_holds told next t c.flush.new.self c.self.invariant.fit c.flush.ensures.stand c.flush.ensures.others c.flush.ensures.name)

pub returns-clause-still : goal.returns-clause-still
returns-clause-still g c =
    let told = g.F.Files.holds c.args.files.now in
    let next = g.F.Files.holds c.flush.new.files in
    let i = c.self.inside in
    let t : OpenTable = record { name = string_bytes i.name; setup = i.setup; header = i.header; lost = i.lost; rows = i.rows; changed = i.changed; broken = i.broken; added = i.added } in
    subst (λ (u : OpenTable). StillHolds told next u (with_trees t c.flush.new.self)) c.self.view_is (written_holds told next t c.flush.new.self c.self.invariant.fit c.flush.ensures.stand c.flush.ensures.others c.flush.ensures.name)

pub returns-in_err-flush-clause-rows : goal.returns-in_err-flush-clause-rows
returns-in_err-flush-clause-rows g c =
    let told = g.F.Files.holds c.args.files.now in
    let next = g.F.Files.holds c.flush.new.files in
    let i = c.self.inside in
    let t : OpenTable = record { name = string_bytes i.name; setup = i.setup; header = i.header; lost = i.lost; rows = i.rows; changed = i.changed; broken = i.broken; added = i.added } in
    subst (λ (u : OpenTable). Told told next (KeepsRows u.name)) c.self.view_is (rows_kept told next t i.defs (string_bytes i.index) c.self.invariant c.flush.ensures.others)

pub returns-clause-rows : goal.returns-clause-rows
returns-clause-rows g c =
    let told = g.F.Files.holds c.args.files.now in
    let next = g.F.Files.holds c.flush.new.files in
    let i = c.self.inside in
    let t : OpenTable = record { name = string_bytes i.name; setup = i.setup; header = i.header; lost = i.lost; rows = i.rows; changed = i.changed; broken = i.broken; added = i.added } in
    subst (λ (u : OpenTable). Told told next (KeepsRows u.name)) c.self.view_is (rows_kept told next t i.defs (string_bytes i.index) c.self.invariant c.flush.ensures.others)

pub returns-clause-stand : goal.returns-clause-stand
returns-clause-stand g c =
    let told = g.F.Files.holds c.args.files.now in
    let next = g.F.Files.holds c.flush.new.files in
    let i = c.self.inside in
    let t : OpenTable = record { name = string_bytes i.name; setup = i.setup; header = i.header; lost = i.lost; rows = i.rows; changed = i.changed; broken = i.broken; added = i.added } in
    let new = with_trees t c.flush.new.self in
    let tied = written_tied t c.flush.new.self i.defs (string_bytes i.index) c.self.invariant c.flush.ensures.places c.flush.ensures.room c.flush.ensures.name c.flush.ensures.counted in
    let still = written_holds told next t c.flush.new.self c.self.invariant.fit c.flush.ensures.stand c.flush.ensures.others c.flush.ensures.name in
    subst (λ (u : OpenTable). IfHolds told u (λ m s. IfTold next (TreesStand new s))) c.self.view_is
    (written_stand told next t new i.defs (string_bytes i.index) c.written_trees_stand_in_the_file.ensures.trees tied c.in_ok-flush.ensures.written still)
