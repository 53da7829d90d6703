use Rattle.myi_keycache.proofs.AgeLemmas.{Aged}
use Rattle.myi_keycache.proofs.TakeLemmas.{Inserted, taken}
use Rattle.myi_keycache.proofs.blocks.Blocks.take_in.Goals as goal

pub returns : goal.returns
returns c =
    let i = c.in_ok-insert.ensures in
    let a = c.age.ensures in
    let inserted : Inserted c.args.self.now c.insert.new.self c.args.at c.args.buffer.now.items c.args.unwritten = record { lists = i.lists; setup = i.setup; alike = i.alike } in
    let aged : Aged c.insert.new.self c.age.new.self = record { lists = a.lists; setup = a.setup; alike = a.alike } in
    let t = taken c.args.self.now c.insert.new.self c.age.new.self c.args.at c.args.buffer.now.items c.args.unwritten c.requires inserted aged in
    record { lists = t.lists; setup = t.setup; alike = t.alike; err = tt; fault = tt }
