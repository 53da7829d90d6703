-- Parts of a sharing after calls, and over files that tell the same of its table.
use Rattle.std.proofs.Common.{◌≡◌, ℕ, List, [], ◌∷◌, ◌++◌, Option, Some, None, refl, sym, subst, ◌∙◌}
use Rattle.myi_base.specs.Holding.{Holding}
use Rattle.myi_defs.specs.declared.types.Defs.{Defs}
use Rattle.myi_pack.specs.Packed.{Values}
use Rattle.myi_state.specs.State.{TableState}
use Rattle.myi_keyedrows.specs.declared.keyed_rows.KeyedRows.{KeyedRows}
use Rattle.myi_keyedrows.specs.KeyedRows.{HoldTable, IfHold}
use Rattle.myi_keyedrows.specs.KeyedRows as rows
use Rattle.myi_table.specs.Table.{OpenTable, defs_in, HoldState, IsKept, IfHolds}
use Rattle.myi_table.specs.Folding.{CanFold}
use Rattle.myi_readers.specs.declared.reader.TableReader.{TableReader}
use Rattle.myi_readers.specs.Reader.{IsReader, IsSameReader}
use Rattle.myi_inserter.specs.declared.inserter.TableInserter.{TableInserter}
use Rattle.myi_inserter.specs.Inserter.{IsInserter, IsSameInserter, IsPut}
use Rattle.myi_share.specs.Sharing.{Sharing, StandsBeside, IsInserterOf, IsReaderOf, TellsSame}

-- ---- after a call

stands_on : (told objects : Option Holding) (table : OpenTable) (k l : KeyedRows) → StandsBeside told table objects k → IfHold objects k (λ m own base. HoldTable l own base m) → StandsBeside told table objects l
stands_on told objects table k l stands still = λ m held s hold.
    let h = stands m held s hold in
    (h.0, h.1, h.2, still h.0 h.1 h.2 s h.3)

inserter_on : (of : Sharing) (told objects : Option Holding) (i j : TableInserter) (rows more : List Values) → IsInserterOf of told objects i rows → IsSameInserter i j → IsInserter j more → IfHold objects i.rows (λ m own base. HoldTable j.rows own base m) → IfHolds told of.table (λ m s. CanFold (defs_in of.table) s more)
    → IsInserterOf of told objects j more
inserter_on of told objects i j rows more is same ready still can = record {
  ready = ready;
  defs = same.defs ∙ is.defs;
  tail = same.tail ∙ is.tail;
  number = same.number ∙ is.number;
  stands = stands_on told objects of.table i.rows j.rows is.stands still;
  can = can;
  untold = is.untold;
}

abbrev pub FoldsMore : Type 0
FoldsMore = (d : Defs) (base : TableState) (rows : List Values) (row : Values) (at : ℕ) → CanFold d base rows → IsPut d base rows row at → CanFold d base (rows ++ row ∷ [])

pub inserted_on : FoldsMore → (of : Sharing) (told objects : Option Holding) (i j : TableInserter) (rows : List Values) (row : Values) (at : ℕ) → IsInserterOf of told objects i rows → IsSameInserter i j → IsInserter j (rows ++ row ∷ [])
    → IfHold objects i.rows (λ m own base. IsPut i.defs base rows row at) → IfHold objects i.rows (λ m own base. HoldTable j.rows own base m) → IsInserterOf of told objects j (rows ++ row ∷ [])
inserted_on law of told objects i j rows row at is same ready put still =
    inserter_on of told objects i j rows (rows ++ row ∷ []) is same ready still
    (λ m held s hold.
    let h = is.stands m held s hold in
    law (defs_in of.table) s rows row at (is.can m held s hold) (subst (λ (d : Defs). IsPut d s rows row at) is.defs (put h.0 h.1 h.2 s h.3)))

pub refused_on : (of : Sharing) (told objects : Option Holding) (i j : TableInserter) (rows : List Values) → IsInserterOf of told objects i rows → IsSameInserter i j → IsInserter j rows → IfHold objects i.rows (λ m own base. HoldTable j.rows own base m) → IsInserterOf of told objects j rows
refused_on of told objects i j rows is same ready still = inserter_on of told objects i j rows rows is same ready still is.can

pub read_on : (of : Sharing) (told objects : Option Holding) (r q : TableReader) → IsReaderOf of told objects r → IsSameReader r q → IsReader q → IfHold objects r.rows (λ m own base. HoldTable q.rows own base m) → IsReaderOf of told objects q
read_on of told objects r q is same ready still = record {
  ready = ready;
  defs = same.defs ∙ is.defs;
  tail = same.tail ∙ is.tail;
  number = same.number ∙ is.number;
  stands = stands_on told objects of.table r.rows q.rows is.stands still;
  untold = is.untold;
}

pub objects_kept : (of : Sharing) (told objects : Option Holding) (r : TableReader) → of.table.broken ≡ None → IsKept told of.table → IsReaderOf of told objects r → rows.IsKept objects r.rows
objects_kept of None objects r whole kept is = λ n shown. absurd (let bad : None ≡ Some n = sym (is.untold refl) ∙ shown in cc)
objects_kept of (Some m) objects r whole kept is = λ n shown.
    let s = kept whole m refl in
    let h = is.stands m refl s.0 s.1 in
    let same : h.0 ≡ n = (let e : Some h.0 ≡ Some n = sym h.1 ∙ shown in cc) in
    (h.2, s.0, subst (HoldTable r.rows h.2 s.0) same h.3)

-- ---- over files that tell the same

abbrev pub Rests : Type 0
Rests = (t : OpenTable) (s : TableState) (m n : Holding) → n t.rows.rows.file.name ≡ m t.rows.rows.file.name → n t.rows.trees.cache.name ≡ m t.rows.trees.cache.name → HoldState t s m → HoldState t s n

if_holds : Rests → (table : OpenTable) (told next : Option Holding) (P : TableState → Type 0) → TellsSame table told next → IfHolds told table (λ m s. P s) → IfHolds next table (λ m s. P s)
if_holds law table told next P same all = λ n held s hold.
    let t = same.tells n held in
    all t.0 t.1 s (law table s n t.0 (sym t.2) (sym t.3) hold)

pub inserter_there : Rests → (of : Sharing) (told next objects : Option Holding) (i : TableInserter) (rows : List Values) → TellsSame of.table told next → IsInserterOf of told objects i rows → IsInserterOf of next objects i rows
inserter_there law of told next objects i rows same is = record {
  ready = is.ready;
  defs = is.defs;
  tail = is.tail;
  number = is.number;
  stands = if_holds law of.table told next (λ (s : TableState). (n : Holding) × (objects ≡ Some n) × (own : ℕ → ℕ) × HoldTable i.rows own s n) same is.stands;
  can = if_holds law of.table told next (λ (s : TableState). CanFold (defs_in of.table) s rows) same is.can;
  untold = λ none. is.untold (same.nothing none);
}

pub reader_there : Rests → (of : Sharing) (told next objects : Option Holding) (r : TableReader) → TellsSame of.table told next → IsReaderOf of told objects r → IsReaderOf of next objects r
reader_there law of told next objects r same is = record {
  ready = is.ready;
  defs = is.defs;
  tail = is.tail;
  number = is.number;
  stands = if_holds law of.table told next (λ (s : TableState). (n : Holding) × (objects ≡ Some n) × (own : ℕ → ℕ) × HoldTable r.rows own s n) same is.stands;
  untold = λ none. is.untold (same.nothing none);
}

pub kept_there : Rests → (of : Sharing) (told next : Option Holding) → TellsSame of.table told next → IsKept told of.table → IsKept next of.table
kept_there law of told next same kept = λ whole n held.
    let t = same.tells n held in
    let h = kept whole t.0 t.1 in
    (h.0, law of.table h.0 t.0 n t.2 t.3 h.1)
