-- The table without rows, as it is loaded, and the files once the rows were put and the table was closed.
use Rattle.std.proofs.Common.{◌≡◌, ◌⊎◌, ◌∙◌, ℕ, Bool, List, [], Option, Some, None, Ok, Err, take, refl, sym, ap, subst, inl, inr}
use Rattle.std.specs.Prelude.{Result, unwrap_or}
use Rattle.std.proofs.lemmas.Option.{same_Some}
use Rattle.myi_base.specs.Holding.{Holding, IfTold, Told, bytes_of}
use Rattle.myi_base.proofs.CallerLemmas.{told_then}
use Rattle.myi_defs.specs.declared.types.Defs.{Defs}
use Rattle.myi_defs.specs.declared.types.DefFault.{DefFault}
use Rattle.myi_defs.specs.ReadDefs.{read_defs, AreDefs}
use Rattle.myi_defs.specs.Elsewhere.{AgreeOutsideState}
use Rattle.myi_defs.specs.EmptyTable.{empty_header}
use Rattle.myi_header.specs.declared.state.State.{State}
use Rattle.myi_header.specs.Layout.{first_page_of}
use Rattle.myi_header.specs.StateOf.{state_of}
use Rattle.myi_opening.specs.Names.{rows_file, index_file}
use Rattle.myi_opening.specs.Opening.{Table, table}
use Rattle.myi_opening.proofs.CallerLemmas.{table_opened}
use Rattle.myi_create.specs.Names as creating
use Rattle.myi_pack.specs.Packed.{Values}
use Rattle.myi_state.specs.State.{TableState, empty_table}
use Rattle.myi_state.specs.Changes.{insert}
use Rattle.myi_tablestate.specs.Standing.{StandForTable}
use Rattle.myi_keyedrows.specs.Files.{defs_with}
use Rattle.myi_table.specs.declared.fault.LoadFault.{LoadFault}
use Rattle.myi_table.specs.declared.fault.ChangeFault.{ChangeFault}
use Rattle.myi_table.specs.declared.fault.ChangeFault.TheVariants as change
use Rattle.myi_table.specs.Faults as faults
use Rattle.myi_table.specs.Table.{OpenTable, defs_in, HoldState, IfHolds, Refuses, IsSame, KeepsOthers, KeepsRows}
use Rattle.myi_table.specs.Creating.{empty_defs, MakesEmpty}
use Rattle.myi_table.specs.Loading.{marked_by, loaded_by, table_in, IsCutOff, IsRefused, IsLoaded}
use Rattle.myi_table.specs.Closing.{closing_state, IsClosed}
use Rattle.myi_repair.specs.Names.{names_for, KeepsBut}
use Rattle.myi_make.specs.declared.fault.MakeFault.{MakeFault}
use Rattle.myi_make.specs.MadeTable.{defs, header}
use Rattle.myi_make.specs.Again.{HasIndex}
use Rattle.myi_make.specs.Faults.{CutsOff, of_load, of_change}
use Rattle.myi_make.specs.Filling.{Block, rows_behind, IsEmpty, HasPut, RefusesRow, HasFilled}
use Rattle.myi_make.proofs.TextLaws.{header_read, printed, defs_are, defs_sound, empty_read}
use Rattle.myi_make.proofs.AgainLaws.{again_of}

-- ---- faults

change_cut : (f : ChangeFault) → faults.CutsOff f → CutsOff (of_change f)
change_cut (change.Broken cause) cut = absurd cut
change_cut (change.NoRow at) cut = absurd cut
change_cut (change.Duplicate key at) cut = absurd cut
change_cut change.Full cut = absurd cut
change_cut (change.Damaged at) cut = absurd cut
change_cut change.File cut = inl refl
change_cut change.Memory cut = inr refl

-- a refusal of a row is the reply of its step, or the call was cut off
pub row_reply : (row : Values) (told : Option Holding) (t : OpenTable) (f : ChangeFault) → Refuses (insert row) told t f → CutsOff (of_change f) ⊎ RefusesRow row told t
row_reply row told t (change.Broken cause) refused = inl (inr refl)
row_reply row told t (change.NoRow at) refused = inr (λ m held s holds. (_, refused m held s holds))
row_reply row told t (change.Duplicate key at) refused = inr (λ m held s holds. (_, refused m held s holds))
row_reply row told t change.Full refused = inr (λ m held s holds. (_, refused m held s holds))
row_reply row told t (change.Damaged at) refused = inr (λ m held s holds. absurd (refused m held s holds))
row_reply row told t change.File refused = inl (inl refl)
row_reply row told t change.Memory refused = inl (inr refl)

-- ---- the table without rows

ok_same : {A E : Type 0} (x y : A) → ◌≡◌ {A = Result A E} (Ok x) (Ok y) → x ≡ y
ok_same x y same = cc

pub same_defs : (d : Defs) → AreDefs d → d.raw ≡ defs.raw → d ≡ defs
same_defs d are same = ok_same {E = DefFault} d defs (sym are ∙ ap read_defs same ∙ defs_are)

stands : (name : List ℕ) (d : Defs) (m n : Holding) → d ≡ defs → MakesEmpty name d m n → StandForTable defs empty_table [] header
stands name d m n is makes =
    let one : StandForTable (empty_defs defs) empty_table [] (empty_header defs.raw) = subst (λ (e : Defs). StandForTable (empty_defs e) empty_table [] (empty_header e.raw)) is makes.stand in
    let two : StandForTable (empty_defs defs) empty_table [] header = subst (λ (h : List ℕ). StandForTable (empty_defs defs) empty_table [] h) printed one in
    subst (λ (e : Defs). StandForTable e empty_table [] header) (ok_same {E = DefFault} (empty_defs defs) defs (sym two.read ∙ header_read)) two

opens : (name : List ℕ) (d : Defs) (m n : Holding) → d ≡ defs → MakesEmpty name d m n → table_in name n ≡ Ok (table defs [] header)
unfolding table_in
opens name d m n is makes =
    let there : n (index_file name) ≡ Some header = makes.made.index ∙ ap Some (ap (λ (e : Defs). empty_header e.raw) is ∙ printed) in
    ap loaded_by (table_opened (index_file name) (rows_file name) header [] defs n there makes.made.rows header_read)
    ∙ ap (λ (b : Bool). marked_by b (table defs [] header)) (stands name d m n is makes).mark

loaded_files : (name : List ℕ) (d : Defs) (t : OpenTable) (m n : Holding) → d ≡ defs → MakesEmpty name d m n → (loaded : IsLoaded name t n) → loaded.files ≡ table defs [] header
loaded_files name d t m n is makes loaded = ok_same {E = LoadFault} loaded.files (table defs [] header) (sym loaded.is ∙ opens name d m n is makes)

loaded_defs : (name : List ℕ) (d : Defs) (t : OpenTable) (m n : Holding) → d ≡ defs → MakesEmpty name d m n → IsLoaded name t n → defs_in t ≡ defs
loaded_defs name d t m n is makes loaded = loaded.defs ∙ ap (λ (f : Table). f.defs) (loaded_files name d t m n is makes loaded)

loaded_empty : (name : List ℕ) (d : Defs) (t : OpenTable) (m n : Holding) → d ≡ defs → t.name ≡ name → MakesEmpty name d m n → IsLoaded name t n → IsEmpty t n
loaded_empty name d t m n is named makes loaded =
    let same = loaded_files name d t m n is makes loaded in
    record {
      header = loaded.header ∙ ap (λ (f : Table). state_of f.defs f.index) same;
      holds = loaded.stands empty_table (subst (λ (f : Table). StandForTable f.defs empty_table f.rows f.index) (sym same) (stands name d m n is makes));
      bytes = ap (λ (q : List ℕ). bytes_of (rows_file q) n) named ∙ ap (λ (o : Option (List ℕ)). unwrap_or o []) makes.made.rows;
    }

pub empty_told : (name : List ℕ) (d : Defs) (t : OpenTable) (old mid new : Option Holding) → d ≡ defs → t.name ≡ name → new ≡ mid → Told old mid (MakesEmpty name d) → IfTold mid (IsLoaded name t) → Told old new (λ m n. IsEmpty t n)
empty_told name d t old mid new is named same makes loaded = record {
  told = λ m held. let one = makes.told m held in (one.0, same ∙ one.1, loaded_empty name d t m one.0 is named one.2 (loaded one.0 one.1));
  untold = λ none. same ∙ makes.untold none;
}

-- where files tell it is loaded
pub load_refused : (name : List ℕ) (d : Defs) (f : LoadFault) (old mid : Option Holding) → d ≡ defs → Told old mid (MakesEmpty name d) → IsCutOff f ⊎ IfTold mid (IsRefused name f) → CutsOff (of_load f) ⊎ (old ≡ None)
load_refused name d f old mid is makes (inl (inl file)) = inl (inl (ap of_load file))
load_refused name d f old mid is makes (inl (inr memory)) = inl (inr (ap of_load memory))
load_refused name d f old mid is makes (inr refused) = inr (by old refl)
  where
    by : (o : Option Holding) → old ≡ o → o ≡ None
    by None e = refl
    by (Some m) e =
        let one = makes.told m e in
        let clash : ◌≡◌ {A = Result Table LoadFault} (Ok (table defs [] header)) (Err f) = sym (opens name d m one.0 is one.2) ∙ refused one.0 one.1 in
        cc

-- and its definitions are those that were given
pub never_unlike : (name : List ℕ) (d : Defs) (t : OpenTable) (f : MakeFault) (old mid : Option Holding) → d ≡ defs → Told old mid (MakesEmpty name d) → IfTold mid (IsLoaded name t) → ((defs_in t).raw ≡ d.raw → ⊥) → CutsOff f ⊎ (old ≡ None)
never_unlike name d t f old mid is makes loaded other = inr (by old refl)
  where
    by : (o : Option Holding) → old ≡ o → o ≡ None
    by None e = refl
    by (Some m) e =
        let one = makes.told m e in
        absurd (other (ap (λ (x : Defs). x.raw) (loaded_defs name d t m one.0 is one.2 (loaded one.0 one.1) ∙ sym is)))

-- ---- the files of other names

pub keeps_then : (name : List ℕ) (t : OpenTable) (old mid new : Option Holding) → t.name ≡ name → Told old mid (KeepsBut (names_for name)) → Told mid new (KeepsOthers t.name) → Told old new (KeepsBut (names_for name))
keeps_then name t old mid new named first second = told_then old mid new _ _ (KeepsBut (names_for name)) first second (λ m n k one two q rows index new_rows new_index. two q (λ e. rows (e ∙ ap rows_file named)) (λ e. index (e ∙ ap index_file named)) ∙ one q rows index new_rows new_index)

-- ---- the table closed

closed_index : (u : OpenTable) (s : TableState) (k : Holding) → defs_in u ≡ defs → u.header ≡ state_of defs header → IsClosed u s k → HasIndex defs (index_file u.name) k
closed_index u s k own read closed =
    let y = closed.index in
    let state : state_of defs (take (first_page_of defs) y) ≡ closing_state u = subst (λ (d : Defs). state_of d (take (first_page_of d) y) ≡ closing_state u) own closed.header.state in
    let first : u.header ≡ state_of defs defs.raw = read ∙ sym empty_read in
    record {
      index = y;
      there = closed.there;
      read = subst (λ (d : Defs). read_defs y ≡ Ok (defs_with d y)) own closed.stand.read;
      again =
          again_of defs y defs_sound (subst (λ (d : Defs). AgreeOutsideState d.raw (take (first_page_of d) y)) own closed.header.elsewhere)
          (ap (λ (x : State). x.sortkey) state ∙ ap (λ (x : State). x.sortkey) first)
          (ap (λ (x : State). x.auto_increment) state ∙ ap (λ (x : State). x.auto_increment) first)
          (ap (λ (x : State). x.rest) state ∙ ap (λ (x : State). x.rest) first);
    }

filled : (name : List ℕ) (count seed : ℕ) (blocks : List Block) (t u : OpenTable) (l m n k : Holding) → t.name ≡ name → defs_in t ≡ defs → IsSame t u → IsEmpty t m → HasPut count seed blocks u n → KeepsBut (names_for name) l k → KeepsRows u.name n k
    → ((s : TableState) → HoldState u s n → IsClosed u s k) → HasFilled name count seed blocks l k
filled name count seed blocks t u l m n k named own same empty put after rows closed =
    let own_name : u.name ≡ name = same.name ∙ named in
    let is = closed put.rows.state put.rows.holds in
    let kept : k (rows_file name) ≡ n (rows_file name) = subst (λ (q : List ℕ). KeepsRows q n k) own_name rows in
    record {
      rows = ap (λ (o : Option (List ℕ)). unwrap_or o []) kept ∙ subst (λ (q : List ℕ). bytes_of (rows_file q) n ≡ rows_behind count 0 seed) own_name put.rows.bytes;
      index = subst (λ (q : List ℕ). HasIndex defs (index_file q) k) own_name (closed_index u put.rows.state k (same.defs ∙ own) (same.header ∙ empty.header) is);
      tenths = put.tenths;
      others = after;
    }

pub filled_told : (name : List ℕ) (count seed : ℕ) (blocks : List Block) (t u : OpenTable) (old mid low end : Option Holding) → t.name ≡ name → defs_in t ≡ defs → IsSame t u → Told old mid (λ m n. IsEmpty t n) → Told mid low (λ m n. HasPut count seed blocks u n) → Told old end (KeepsBut (names_for name)) → Told low end (KeepsRows u.name)
    → IfHolds low u (λ m s. IfTold end (IsClosed u s)) → Told old end (HasFilled name count seed blocks)
filled_told name count seed blocks t u old mid low end named own same empty put after rows closed = record {
  told = λ l held.
      let one = empty.told l held in
      let two = put.told one.0 one.1 in
      let three = rows.told two.0 two.1 in
      let all = after.told l held in
      let keeps : KeepsBut (names_for name) l three.0 = subst (λ (p : Holding). KeepsBut (names_for name) l p) (same_Some all.0 three.0 (sym all.1 ∙ three.1)) all.2 in
      (three.0, three.1, filled name count seed blocks t u l one.0 two.0 three.0 named own same one.2 two.2 keeps three.2 (λ s holds. closed two.0 two.1 s holds three.0 three.1));
  untold = λ none. rows.untold (put.untold (empty.untold none));
}

-- where files tell it is closed
pub close_refused : (count seed : ℕ) (blocks : List Block) (t u : OpenTable) (f : ChangeFault) (old mid low : Option Holding) → Told old mid (λ m n. IsEmpty t n) → Told mid low (λ m n. HasPut count seed blocks u n) → IfHolds low u (λ m s. faults.CutsOff f) → CutsOff (of_change f) ⊎ (old ≡ None)
close_refused count seed blocks t u f old mid low empty put refused = by old refl
  where
    by : (o : Option Holding) → old ≡ o → CutsOff (of_change f) ⊎ (o ≡ None)
    by None e = inr refl
    by (Some m) e =
        let one = empty.told m e in
        let two = put.told one.0 one.1 in
        inl (change_cut f (refused two.0 two.1 two.2.rows.state two.2.rows.holds))
