use Rattle.std.proofs.Common.{◌≢◌, [], rules, string_bytes}
use Rattle.myi_base.specs.Holding.{Told, Writes, WritesPart}
use Rattle.myi_adapters.proofs.PendingLaws.{done_write, part_write}
use Rattle.myi_adapters.proofs.gathering.Writable.write_out.Goals as goal

pub returns-in_err-write_at-clause-shows : goal.returns-in_err-write_at-clause-shows
returns-in_err-write_at-clause-shows g c =
    let p = c.args.pending.now in
    let some : p.bytes.items ≢ [] = search rules in
    let told : Told (g.Self.Files.holds c.args.self.now) (g.Self.Files.holds c.write_at.new.self) (WritesPart (string_bytes p.name) p.at p.bytes.items) = search rules in
    part_write (g.Self.Files.holds c.args.self.now) (g.Self.Files.holds c.write_at.new.self) (string_bytes p.name) p.at p.bytes.items some told

pub returns-clause-shows : goal.returns-clause-shows
returns-clause-shows g c =
    let p = c.args.pending.now in
    let some : p.bytes.items ≢ [] = search rules in
    let told : Told (g.Self.Files.holds c.args.self.now) (g.Self.Files.holds c.write_at.new.self) (Writes (string_bytes p.name) p.at p.bytes.items) = search rules in
    let q = c.clear.new.self in
    done_write (g.Self.Files.holds c.args.self.now) (g.Self.Files.holds c.write_at.new.self) (string_bytes p.name) p.at p.bytes.items (string_bytes q.name) q.at q.bytes.items some c.clear.ensures told
