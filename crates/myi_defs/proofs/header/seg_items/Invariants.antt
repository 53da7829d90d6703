use Rattle.std.proofs.Common.{◌≡◌, ◌+◌, ◌*◌, ◌-◌, ◌++◌}
use Rattle.myi_defs.specs.Header.{seg_items}
use Rattle.myi_defs.proofs.header.seg_items.Given as goal

-- what is read and what is left give all of them
abbrev pub invariant-loop : goal.invariant-loop
invariant-loop l = record {
  place : l.place ≡ l.at + 18 * l.counter;
  rest : l.segments.items ++ seg_items (l.count - l.counter) l.place l.header ≡ seg_items l.count l.at l.header;
}
