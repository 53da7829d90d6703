-- The header that a state is written into, and what it shares with the header that was read.
use Rattle.std.specs.Prelude.{◌≡◌, ◌<◌, ◌-◌, ◌^◌, ℕ, ◌+◌, List, [], ◌∷◌, ◌++◌, length, take, drop, map, replicate, Option, All}
use Rattle.myi_base.specs.Numbers.{num_bytes, pointer_number}
use Rattle.myi_base.specs.Items.{spelling, Fit}
use Rattle.myi_defs.specs.declared.types.Defs.{Defs}
use Rattle.myi_defs.specs.declared.layout.Layout.{Layout}
use Rattle.myi_header.specs.declared.state.State.{State}
use Rattle.myi_header.specs.Layout.{layout_of, first_page_of}
use Rattle.myi_header.specs.Parts.{part}
use Rattle.myi_defs.specs.Layout.{mark}
use Rattle.myi_header.specs.StateOf.{IsPlace, rest_length}

-- the numbers from byte 24 on, and their widths
abbrev pub count_widths : List ℕ
count_widths = 2 ∷ 1 ∷ 1 ∷ 8 ∷ 8 ∷ 8 ∷ 8 ∷ 8 ∷ 8 ∷ 8 ∷ 8 ∷ 8 ∷ []

abbrev pub counts : State → List ℕ
counts s = s.open_count ∷ s.changed ∷ s.sortkey ∷ s.records ∷ s.del ∷ s.split ∷ pointer_number s.dellink ∷ s.key_file_length ∷ s.data_file_length ∷ s.empty ∷ s.key_empty ∷ s.auto_increment ∷ []

abbrev pub root_bytes : List (Option ℕ) → List ℕ
root_bytes roots = spelling (map (λ r. 8) roots) (map pointer_number roots)

-- the numbers of a state fit their widths
pub record FitsWidths (s : State) : Type 0 where
  pub counts : Fit count_widths (counts s)
  pub roots : Fit (map (λ r. 8) s.roots) (map pointer_number s.roots)
  pub key_map : s.key_map < 256 ^ 8
  pub recover_time : s.recover_time < 256 ^ 8

-- a state that a header of these definitions can hold
pub record IsStored (d : Defs) (s : State) : Type 0 where
  pub roots : length s.roots ≡ length d.keys
  pub rest : length s.rest ≡ rest_length d
  pub dellink : IsPlace s.dellink
  pub places : All IsPlace s.roots
  pub fits : FitsWidths s

-- how many kept bytes stand between the roots and the map of keys
abbrev pub middle_length : Layout → ℕ
middle_length l = l.key_map - l.key_del

-- the bytes of a state, from byte 24 to the base section
unfoldable pub state_bytes : Layout → State → List ℕ
state_bytes l s =
    spelling count_widths (counts s)
    ++ (take 24 s.rest
    ++ (root_bytes s.roots
    ++ (part 24 (middle_length l) s.rest
    ++ (num_bytes 8 s.key_map
    ++ (part (24 + middle_length l) 8 s.rest
    ++ (num_bytes 8 s.recover_time
    ++ drop (32 + middle_length l) s.rest))))))

-- the header with a state and the mark, filled up with zeros to the first page
unfoldable pub header_of : Defs → State → List ℕ
header_of d s =
    let base = (layout_of d).base in
    take 24 d.raw
    ++ (state_bytes (layout_of d) s
    ++ (part base 94 d.raw
    ++ (mark
    ++ (drop (base + 100) d.raw
    ++ replicate (first_page_of d - length d.raw) 0))))
