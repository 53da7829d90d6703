-- A table whose data file has no byte has no row, and nothing is deleted in it.
use Rattle.std.proofs.Common.{◌≡◌, ℕ, zero, suc, ◌+◌, ◌-◌, ◌≤◌, ◌<◌, List, [], ◌∷◌, ◌++◌, Option, Some, None, Ok, refl, sym, ap, subst, ◌∙◌, arith}
use Rattle.std.specs.Prelude.{min, Result}
use Rattle.std.specs.List.{AllByRecursion}
use Rattle.myi_base.specs.Numbers.{AreBytes}
use Rattle.myi_base.proofs.CallerLemmas.{bytes-none}
use Rattle.myi_defs.specs.declared.types.DefFault.{DefFault}
use Rattle.myi_defs.specs.ReadDefs.{read_defs}
use Rattle.myi_defs.specs.declared.types.RowFormat.{RowFormat}
use Rattle.myi_defs.specs.declared.types.RowFormat.TheVariants.{Static, Dynamic}
use Rattle.myi_defs.specs.declared.types.Defs.{Defs}
use Rattle.myi_defs.specs.Sound.{IsSound}
use Rattle.myi_dellist.specs.Areas.{Area, below, bytes_below, Tile}
use Rattle.myi_dellist.specs.Releasing.{IsHole, IsFreeable}
use Rattle.myi_dellist.specs.Standing.{first_or}
use Rattle.myi_pair.specs.Clean.{IsClean}
use Rattle.myi_tablestate.specs.Standing.{StandForTable}
use Rattle.myi_state.specs.State.{StoredRow, TableState, empty_table, row_areas}
use Rattle.myi_state.specs.Sound.{IsState, IsRow, IsSlot, AreOneSlot, AreBlocks, AreHoles}

-- there is a first area, and it has a byte
abbrev HaveByte : List Area → Type 0
HaveByte [] = ⊥
HaveByte (a ∷ areas) = 0 < a.size

-- below the end of an area stands a byte of it
some_below : (a : Area) (n : ℕ) → 0 < a.size → 0 < below (a.at + a.size) a + n
some_below a n some = omega arith

-- areas with a byte tile no file without bytes
tile_none : (areas : List Area) → HaveByte areas → Tile 0 areas → ⊥
tile_none [] some tile = elim some [ ]
tile_none (a ∷ areas) some tile = none_less (a.at + a.size) (subst (λ n. 0 < n) (tile (a.at + a.size)) (some_below a (bytes_below (a.at + a.size) areas) some))
  where
    none_less : (n : ℕ) → 0 < min 0 n → ⊥
    none_less n h = omega arith

-- a row's blocks have a byte
static_byte : (size : ℕ) (areas : List Area) → 0 < size → AreOneSlot size areas → HaveByte areas
static_byte size [] some slot = elim slot [ ]
static_byte size (a ∷ (b ∷ areas)) some slot = elim slot [ ]
static_byte size (a ∷ []) some slot = subst (λ n. 0 < n) (sym slot) some

first_byte : (format : RowFormat) (size at : ℕ) (areas : List Area) → (format ≡ Static → 0 < size) → first_or areas None ≡ Some at → AreBlocks format size areas → HaveByte areas
first_byte Static size at areas some first blocks = static_byte size areas (some refl) blocks
first_byte Dynamic size at [] some first blocks = none_some first
  where
    none_some : ◌≡◌ {A = Option ℕ} None (Some at) → ⊥
    none_some e = cc
first_byte Dynamic size at (a ∷ areas) some first blocks = let least : 20 ≤ a.size = blocks.0.least in omega arith

more_byte : (xs ys : List Area) → HaveByte xs → HaveByte (xs ++ ys)
more_byte [] ys some = elim some [ ]
more_byte (a ∷ xs) ys some = some

hole_byte : (format : RowFormat) (size : ℕ) (a : Area) (areas : List Area) → (format ≡ Static → 0 < size) → AreHoles format size (a ∷ areas) → HaveByte (a ∷ areas)
hole_byte Static size a areas some holes = subst (λ n. 0 < n) (sym holes.0) (some refl)
hole_byte Dynamic size a areas some holes = let least : 20 ≤ a.size = holes.0.least in omega arith

slot_byte : (d : Defs) → IsSound d → d.format ≡ Static → 0 < d.slot_length
slot_byte d sound static = let long : d.rec_ref + 1 ≤ d.slot_length = sound.slot_pointer static in omega arith

pub is_empty : (d : Defs) (s : TableState) → IsSound d → IsState d s → s.space.end ≡ 0 → s ≡ empty_table
is_empty d s sound state end = by s.rows s.space.holes s.space.end end state.rows state.holes state.tile
  where
    slot : d.format ≡ Static → 0 < d.slot_length
    slot = slot_byte d sound

    by : (rows : List StoredRow) (holes : List Area) (n : ℕ) → n ≡ 0 → AllByRecursion (IsRow d) rows → AreHoles d.format d.slot_length holes → Tile n (row_areas rows ++ holes) → ◌≡◌ {A = TableState} (record { rows = rows; space = record { holes = holes; end = n } }) empty_table
    by [] [] n none rows holes tile = ap (λ (e : ℕ). record { rows = []; space = record { holes = []; end = e } }) none
    by [] (a ∷ areas) n none rows holes tile = absurd (tile_none (a ∷ areas) (hole_byte d.format d.slot_length a areas slot holes) (subst (λ e. Tile e (a ∷ areas)) none tile))
    by (r ∷ rs) areas n none rows holes tile = absurd (tile_none (row_areas (r ∷ rs) ++ areas) (more_byte (row_areas (r ∷ rs)) areas (more_byte r.blocks (row_areas rs) (first_byte d.format d.slot_length r.at r.blocks slot rows.0.place rows.0.blocks))) (subst (λ e. Tile e (row_areas (r ∷ rs) ++ areas)) none tile))

same_defs : (a b : Defs) → ◌≡◌ {A = Result Defs DefFault} (Ok a) (Ok b) → a ≡ b
same_defs a b same = cc

-- a clean pair of a data file without bytes stands for a table without rows
pub stands_empty : (d : Defs) (x : List ℕ) (k : IsClean [] x) → read_defs x ≡ Ok d → IsSound d → ((b y : List ℕ) → AreBytes b → (c : IsClean b y) → (s : TableState) × StandForTable c.defs s b y) → StandForTable d empty_table [] x
stands_empty d x k read sound stands =
    let same : k.defs ≡ d = same_defs k.defs d (sym k.read ∙ read) in
    let found : (s : TableState) × StandForTable k.defs s [] x = stands [] x bytes-none k in
    let st : StandForTable d found.0 [] x = subst (λ (e : Defs). StandForTable e found.0 [] x) same found.1 in
    subst (λ (s : TableState). StandForTable d s [] x) (is_empty d found.0 sound st.rows.state (sym st.rows.long)) st
