-- What a map from names to bytes holds.
use Rattle.std.specs.Prelude.{ℕ, List, [], ◌∷◌, Some, None, String, Vec, string_bytes, if◌then◌else◌}
use Rattle.std.specs.Option.{option_map, option_or}
use Rattle.std.specs.Str.{bytes_eq}
use Rattle.std.specs.BTreeMap.{BTreeMap, get_by_text}
use Rattle.std.specs.declared.alloc.Global.{Global}
use Rattle.myi_base.specs.Holding.{Holding}

-- the bytes under each name
abbrev pub held : BTreeMap (String Global) (Vec ℕ Global) → Holding
held m name = option_map (λ v. v.items) (get_by_text m name)

-- one file under its name
abbrev pub named : String Global × Vec ℕ Global → Holding
named file q = if bytes_eq q (string_bytes file.0) then Some file.1.items else None

-- the files of a list, of which the last of a name counts
abbrev pub given : List (String Global × Vec ℕ Global) → Holding
given [] q = None
given (file ∷ files) q = option_or (given files q) (named file q)
