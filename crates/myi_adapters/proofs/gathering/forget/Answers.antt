use Rattle.std.proofs.Common.{◌≡◌, ◌≢◌, rules, string_bytes}
use Rattle.myi_adapters.proofs.PendingLaws.{forget_own, forget_none}
use Rattle.myi_adapters.proofs.gathering.forget.Goals as goal

pub returns-then-eq : goal.returns-then-eq
returns-then-eq c =
    let same : string_bytes c.args.pending.now.name ≡ c.args.name.now = search rules in
    λ m n r. forget_own (string_bytes c.args.pending.now.name) c.args.name.now c.args.pending.now.at c.clear.new.self.at c.args.pending.now.bytes.items c.clear.new.self.bytes.items m n same c.clear.ensures (string_bytes c.clear.new.self.name) r

pub returns-else-eq : goal.returns-else-eq
returns-else-eq c =
    let differs : string_bytes c.args.pending.now.name ≢ c.args.name.now = search rules in
    λ m n r. forget_none (string_bytes c.args.pending.now.name) c.args.name.now c.args.pending.now.at c.args.pending.now.bytes.items m n differs r
