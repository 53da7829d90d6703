-- The rows per prefix of each key of a table.
use Rattle.std.specs.Prelude.{ℕ, List, length, map}
use Rattle.myi_defs.specs.declared.types.Defs.{Defs}
use Rattle.myi_keys.specs.declared.values.KeySeg.{KeySeg}
use Rattle.myi_pack.specs.Packed.{Values}
use Rattle.myi_data.specs.Keys.{segments_of, key_of}
use Rattle.myi_rowkeys.specs.TableKeys.{key_numbers}
use Rattle.myi_order.specs.Prefixes.{per_each}
use Rattle.myi_order.specs.declared.key_parts.KeyParts.{KeyParts}

-- the keys of rows, for the key of that number
abbrev pub keys_in : Defs → List Values → ℕ → List (List KeySeg)
keys_in d rows k = map (key_of d k) rows

-- the rows per prefix of the key of that number
abbrev pub parts_of : Defs → List Values → ℕ → KeyParts
parts_of d rows k = record { key = k; per = per_each (length (segments_of d.keys k)) (keys_in d rows k) }

-- those of all keys
abbrev pub key_parts : Defs → List Values → List KeyParts
key_parts d rows = map (parts_of d rows) (key_numbers d)
