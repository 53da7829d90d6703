-- Pairs as they stand on a page, each with its key's code.
use Rattle.std.specs.Prelude.{List, map}
use Rattle.myi_keypage.specs.declared.entry.Entry.{Entry}
use Rattle.myi_keys.specs.Codes.{key_code}
use Rattle.myi_keylist.specs.declared.pair.Pair.{Pair}

-- a pair as it stands on a page
abbrev pub entry_of : Pair → Entry
entry_of p = record { key = key_code p.key; row = p.row }

abbrev pub entries_of : List Pair → List Entry
entries_of pairs = map entry_of pairs
