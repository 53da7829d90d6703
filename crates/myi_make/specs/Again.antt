-- An index file whose header has the definitions of a table, with another state.
use Rattle.std.specs.Prelude.{◌≡◌, ◌+◌, ℕ, List, length, take, drop, Some, Ok}
use Rattle.myi_base.specs.Holding.{Holding}
use Rattle.myi_defs.specs.declared.types.Defs.{Defs}
use Rattle.myi_defs.specs.ReadDefs.{read_defs}
use Rattle.myi_header.specs.Parts.{part}
use Rattle.myi_header.specs.Layout.{layout_of}
use Rattle.myi_header.specs.StateOf.{state_of}
use Rattle.myi_keyedrows.specs.Files.{defs_with}

-- Two headers are one but for the state and the mark, and of the state what a repair leaves as it is is the same.
pub record IsAgain (d : Defs) (r : List ℕ) : Type 0 where
  pub front : take 24 r ≡ take 24 d.raw
  pub long : length r ≡ length d.raw
  pub base : part (layout_of d).base 94 r ≡ part (layout_of d).base 94 d.raw
  pub back : drop ((layout_of d).base + 100) r ≡ drop ((layout_of d).base + 100) d.raw
  pub sortkey : (state_of d r).sortkey ≡ (state_of d d.raw).sortkey
  pub auto_increment : (state_of d r).auto_increment ≡ (state_of d d.raw).auto_increment
  pub rest : (state_of d r).rest ≡ (state_of d d.raw).rest

-- the file of this name begins with such a header, of which the same definitions are read
pub record HasIndex (d : Defs) (name : List ℕ) (n : Holding) : Type 0 where
  pub index : List ℕ
  pub there : n name ≡ Some index
  pub read : read_defs index ≡ Ok (defs_with d index)
  pub again : IsAgain d (defs_with d index).raw
