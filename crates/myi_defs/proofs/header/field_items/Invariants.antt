use Rattle.std.proofs.Common.{◌≡◌, ◌≤◌, ◌+◌, ◌*◌, ◌-◌, ◌++◌}
use Rattle.myi_defs.specs.Header.{field_items}
use Rattle.myi_defs.proofs.header.field_items.Given as goal

-- what is read and what is left give all of them
abbrev pub invariant-loop : goal.invariant-loop
invariant-loop l = record {
  place : l.place ≡ l.at + 7 * l.counter;
  few : l.start ≤ 65535 * l.counter;
  rest : l.fields.items ++ field_items (l.count - l.counter) l.start l.place l.header ≡ field_items l.count 0 l.at l.header;
}
