use Rattle.std.proofs.Common.{◌≡◌, ◌≤◌, ◌+◌, ◌-◌, ◌++◌, length}
use Rattle.myi_defs.specs.Header.{key_items, keys_length}
use Rattle.myi_defs.proofs.header.key_items.Given as goal

-- what is read and what is left give all of them
abbrev pub invariant-loop : goal.invariant-loop
invariant-loop l = record {
  place : l.place ≡ l.at + keys_length l.keys.items;
  inside : l.place ≤ length l.header;
  rest : l.keys.items ++ key_items (l.count - l.counter) l.place l.header ≡ key_items l.count l.at l.header;
}
