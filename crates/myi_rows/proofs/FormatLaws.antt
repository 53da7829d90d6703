-- Rows at positions of a data file, by its format.
use Rattle.std.proofs.Common.{◌≡◌, ◌≤◌, ◌+◌, ℕ, true, Some, None, ap, subst, sym, ◌∙◌}
use Rattle.std.specs.Prelude.{is_some}
use Rattle.myi_base.specs.Holding.{Holding, bytes_of, blocks}
use Rattle.myi_defs.specs.declared.types.RowFormat.{RowFormat}
use Rattle.myi_defs.specs.declared.types.RowFormat.TheVariants.{Static, Dynamic}
use Rattle.myi_pack.specs.Packed.{Values}
use Rattle.myi_slots.specs.SlotBytes.{is_row, row_there}
use Rattle.myi_slots.specs.SlotFile.{SlotFile}
use Rattle.myi_blocks.specs.Places.{NotedFile}
use Rattle.myi_blocks.specs.RowReading as dynamic
use Rattle.myi_rows.specs.declared.row_file.Rows.{Rows}
use Rattle.myi_rows.specs.declared.row_file.Rows.TheVariants as rows
use Rattle.myi_rows.specs.RowFile.{noted_of, AreInFormat, HasRow, HasRowBy, IsRowAt, IsRowBy, KnowsRows, KnowsRowsBy, ReadsFew, ReadsFewBy}

static_is : (r : Rows) (v : NotedFile) (f : SlotFile) → r ≡ rows.Static f → noted_of r ≡ v → f ≡ v.file
static_is r v f is view = sym (ap (λ (q : Rows). (noted_of q).file) is) ∙ ap (λ (n : NotedFile). n.file) view

dynamic_is : (r : Rows) (v d : NotedFile) → r ≡ rows.Dynamic d → noted_of r ≡ v → d.file ≡ v.file
dynamic_is r v d is view = sym (ap (λ (q : Rows). (noted_of q).file) is) ∙ ap (λ (n : NotedFile). n.file) view

pub static_there : (r : Rows) (v : NotedFile) (f : SlotFile) (at : ℕ) (m : Holding) → r ≡ rows.Static f → noted_of r ≡ v → AreInFormat r → HasRow v.file at m → is_row f.defs (bytes_of f.name m) at ≡ true
static_there r v f at m is view form there = subst (λ k. HasRowBy k f at m) (subst AreInFormat is form) (subst (λ (g : SlotFile). HasRow g at m) (sym (static_is r v f is view)) there)

pub dynamic_there : (r : Rows) (v d : NotedFile) (at : ℕ) (m : Holding) → r ≡ rows.Dynamic d → noted_of r ≡ v → AreInFormat r → HasRow v.file at m → dynamic.HasRow d.file at m
dynamic_there r v d at m is view form there = subst (λ k. HasRowBy k d.file at m) (subst AreInFormat is form) (subst (λ (g : SlotFile). HasRow g at m) (sym (dynamic_is r v d is view)) there)

pub static_row : (r : Rows) (v : NotedFile) (f : SlotFile) (at : ℕ) (values : Values) (m : Holding) → r ≡ rows.Static f → noted_of r ≡ v → AreInFormat r → Some values ≡ row_there f.defs (bytes_of f.name m) at → IsRowAt v.file at values m
static_row r v f at values m is view form row = subst (λ (g : SlotFile). IsRowAt g at values m) (static_is r v f is view) (subst (λ k. IsRowBy k f at values m) (sym (subst AreInFormat is form)) row)

pub dynamic_row : (r : Rows) (v d : NotedFile) (at : ℕ) (values : Values) (m : Holding) → r ≡ rows.Dynamic d → noted_of r ≡ v → AreInFormat r → dynamic.IsRowAt d.file at values m → IsRowAt v.file at values m
dynamic_row r v d at values m is view form row = subst (λ (g : SlotFile). IsRowAt g at values m) (dynamic_is r v d is view) (subst (λ k. IsRowBy k d.file at values m) (sym (subst AreInFormat is form)) row)

pub static_few : (r : Rows) (v : NotedFile) (f : SlotFile) (at reads now : ℕ) (m : Holding) → r ≡ rows.Static f → noted_of r ≡ v → AreInFormat r → now ≤ reads + blocks f.defs.slot_length → ReadsFew v.file at reads now m
static_few r v f at reads now m is view form few = subst (λ (g : SlotFile). ReadsFew g at reads now m) (static_is r v f is view) (subst (λ k. ReadsFewBy k f at reads now m) (sym (subst AreInFormat is form)) few)

pub dynamic_few : (r : Rows) (v d : NotedFile) (at reads now : ℕ) (m : Holding) → r ≡ rows.Dynamic d → noted_of r ≡ v → AreInFormat r → dynamic.ReadsFew d.file at reads now m → ReadsFew v.file at reads now m
dynamic_few r v d at reads now m is view form few = subst (λ (g : SlotFile). ReadsFew g at reads now m) (dynamic_is r v d is view) (subst (λ k. ReadsFewBy k d.file at reads now m) (sym (subst AreInFormat is form)) few)

-- ---- what is said of slots or of blocks, said of the file by its format

static_all : (r : Rows) (v : NotedFile) (f : SlotFile) → r ≡ rows.Static f → noted_of r ≡ v → record { file = f; places = None } ≡ v
static_all r v f is view = sym (ap (λ (q : Rows). noted_of q) is) ∙ view

dynamic_all : (r : Rows) (v d : NotedFile) → r ≡ rows.Dynamic d → noted_of r ≡ v → d ≡ v
dynamic_all r v d is view = sym (ap (λ (q : Rows). noted_of q) is) ∙ view

pub static_by : (W : RowFormat → NotedFile → Type 0) (r : Rows) (v : NotedFile) (f : SlotFile) → r ≡ rows.Static f → noted_of r ≡ v → AreInFormat r → W Static (record { file = f; places = None }) → W v.file.defs.format v
static_by W r v f is view form here = subst (λ (n : NotedFile). W n.file.defs.format n) (static_all r v f is view) (subst (λ k. W k (record { file = f; places = None })) (sym (subst AreInFormat is form)) here)

pub dynamic_by : (W : RowFormat → NotedFile → Type 0) (r : Rows) (v d : NotedFile) → r ≡ rows.Dynamic d → noted_of r ≡ v → AreInFormat r → W Dynamic d → W v.file.defs.format v
dynamic_by W r v d is view form here = subst (λ (n : NotedFile). W n.file.defs.format n) (dynamic_all r v d is view) (subst (λ k. W k d) (sym (subst AreInFormat is form)) here)

-- where it is known of the file where rows stand, it is of its blocks
pub dynamic_known : (r : Rows) (v d : NotedFile) → r ≡ rows.Dynamic d → noted_of r ≡ v → AreInFormat r → KnowsRows v → is_some d.places ≡ true
dynamic_known r v d is view form known = subst (λ k. KnowsRowsBy k d.places) (subst AreInFormat is form) (subst (λ (n : NotedFile). KnowsRows n) (sym (dynamic_all r v d is view)) known)
