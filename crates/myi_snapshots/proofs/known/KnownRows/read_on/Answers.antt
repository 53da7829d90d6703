use Rattle.std.proofs.Common.{◌∙◌, arith}
use Rattle.myi_snapshots.specs.Known.{is_row}
use Rattle.myi_snapshots.proofs.CountLemmas.{front_counted, told_all}
use Rattle.myi_snapshots.proofs.known.KnownRows.read_on.Goals as goal

pub count_on-count-requires-clause-counted : goal.count_on-count-requires-clause-counted
count_on-count-requires-clause-counted c =
    let p = is_row c.self.inside.defs in
    let more = front_counted p c.read_on.new.self.rows c.self.inside.whole.rows c.read_on.ensures.more in
    omega (arith, c.self.invariant.counted)

pub invariant_of-self : goal.invariant_of-self
invariant_of-self c =
    let d = c.self.inside.defs in
    let told = told_all d (is_row d) c.self.inside.whole.rows c.read_on.new.self.rows c.self.inside.begin c.self.inside.end c.self.inside.count c.read_on.ensures.more c.self.invariant.counted c.self.invariant.ends in record {
      sound = c.self.invariant.sound;
      counted = c.count_on-count.ensures.count;
      ends = c.count_on-count.ensures.end ∙ told;
    }
