-- A row that is put into the table: it is accepted, and the table stands for one row more.
use Rattle.std.proofs.Common.{◌≡◌, ◌<◌, ◌≤◌, ◌+◌, ◌*◌, ◌++◌, ◌∙◌, ℕ, Bool, true, List, [], ◌∷◌, Option, Some, None, Ok, Err, length, refl, sym, ap, subst, arith}
use Rattle.std.specs.Prelude.{Result, option_map}
use Rattle.std.specs.List.{AllByRecursion}
use Rattle.std.proofs.lemmas.Option.{same_Some}
use Rattle.myi_base.specs.Holding.{Holding, bytes_of}
use Rattle.myi_defs.specs.declared.types.Defs.{Defs}
use Rattle.myi_defs.specs.Addressable.{is_addressable}
use Rattle.myi_frames.specs.Sizes.{least_size}
use Rattle.myi_opening.specs.Names.{rows_file}
use Rattle.myi_pack.specs.Packed.{Values}
use Rattle.myi_pack.specs.Spelling.{spelling}
use Rattle.myi_dellist.specs.Areas.{Area}
use Rattle.myi_dellist.specs.Placing.{Space, place}
use Rattle.myi_dellist.specs.Standing.{first_or}
use Rattle.myi_state.specs.declared.counts.Counts.{Counts}
use Rattle.myi_state.specs.State.{StoredRow, TableState}
use Rattle.myi_state.specs.Changes.{Change, insert, accepted, lacks_room, if_long}
use Rattle.myi_state.specs.Numbers.{counts_of}
use Rattle.myi_state.specs.Adding.{added_bytes}
use Rattle.myi_state.proofs.CallerLemmas.{put-all}
use Rattle.myi_slots.specs.SlotFile.{AddsNew}
use Rattle.myi_pair.specs.FirstRows.{key_numbers}
use Rattle.myi_tablestate.specs.Keyed.{KeyedRefusal, without_keys, by_holder, first_of_three, first_holder, keyed_refusal, keyed_step_by, keyed_step, Holder}
use Rattle.myi_table.specs.Table.{OpenTable, defs_in, HoldState}
use Rattle.myi_make.specs.MadeTable.{defs, row_of, row_block}
use Rattle.myi_make.specs.Filling.{IsMadeRow, HoldsRows, TakesRow}
use Rattle.myi_make.proofs.SizeLaws.{row_short, row_some}
use Rattle.myi_make.proofs.BlockLaws.{least_short}
use Rattle.myi_make.proofs.TextLaws.{reached}
use Rattle.myi_make.proofs.KeyLaws.{no_holder}
use Rattle.myi_make.proofs.SpaceLaws.{space_behind, added_is}

-- ---- the numbers of the table

pub length_is : (t : OpenTable) (s : TableState) (m : Holding) → HoldState t s m → t.rows.rows.file.name ≡ rows_file t.name → t.rows.rows.file.counts.length ≡ length (bytes_of (rows_file t.name) m)
unfolding counts_of
length_is t s m holds named =
    let is = holds.files.table.rows.0 in
    ap (λ (c : Counts). c.length) is.counts ∙ sym is.stands.long ∙ ap (λ (q : List ℕ). length (bytes_of q m)) named

none_deleted : (t : OpenTable) (s : TableState) (m : Holding) → HoldState t s m → s.space.holes ≡ [] → t.rows.rows.file.counts.dellink ≡ None
unfolding counts_of
none_deleted t s m holds none = ap (λ (c : Counts). c.dellink) holds.files.table.rows.0.counts ∙ ap (λ (holes : List Area). first_or holes None) none

pub end_is : (t : OpenTable) (s : TableState) (m : Holding) → HoldState t s m → t.rows.rows.file.counts.length ≡ s.space.end
unfolding counts_of
end_is t s m holds = ap (λ (c : Counts). c.length) holds.files.table.rows.0.counts

-- ---- the step

space_then : (s : TableState) (v : Values) → (accepted defs s (insert v)).state.space ≡ (place s.space [] (length (spelling defs v))).space
unfolding accepted defs
space_then s v = refl

end_then : (s : TableState) (i x : ℕ) → s.space.holes ≡ [] → (accepted defs s (insert (row_of i x))).state.space ≡ record { holes = []; end = s.space.end + least_size (length (spelling defs (row_of i x))) }
end_then s i x none = space_then s (row_of i x) ∙ space_behind s.space (length (spelling defs (row_of i x))) none (row_some i x) (omega (arith, row_short i x))

has_room : (s : TableState) (i x : ℕ) → s.space.holes ≡ [] → s.space.end ≤ i * 252 → i < 100000 → is_addressable defs (accepted defs s (insert (row_of (i + 1) x))).state.space.end ≡ true
has_room s i x none short few =
    let end = ap (λ (p : Space). p.end) (end_then s (i + 1) x none) in
    reached (accepted defs s (insert (row_of (i + 1) x))).state.space.end (omega (arith, end, short, few, least_short (length (spelling defs (row_of (i + 1) x))) (row_short (i + 1) x)))

numbers_are : key_numbers defs ≡ 1 ∷ 2 ∷ []
unfolding defs
numbers_are = refl

-- the row is accepted
pub accepts : (s : TableState) (i x : ℕ) → s.space.holes ≡ [] → AllByRecursion (IsMadeRow i) s.rows → s.space.end ≤ i * 252 → i < 100000 → keyed_refusal defs s (insert (row_of (i + 1) x)) ≡ None
unfolding keyed_refusal
accepts s i x none rows short few =
    let v = row_of (i + 1) x in
    let key : first_holder defs v s.rows (key_numbers defs) ≡ None = ap (first_holder defs v s.rows) numbers_are ∙ no_holder i x s.rows few rows in
    ap (λ (h : Option Holder). first_of_three None (option_map by_holder h) (option_map without_keys (lacks_room defs s (insert v)))) key
    ∙ ap (λ (b : Bool). first_of_three None None (option_map without_keys (if_long b))) (has_room s i x none short few)

step_state : (s : TableState) (c : Change) → keyed_refusal defs s c ≡ None → (keyed_step defs s c).state ≡ (accepted defs s c).state
unfolding keyed_step
step_state s c none = ap (λ (r : Option KeyedRefusal). (keyed_step_by s (accepted defs s c) r).state) none

step_reply : (s : TableState) (c : Change) → keyed_refusal defs s c ≡ None → (keyed_step defs s c).reply ≡ Ok (accepted defs s c).at
unfolding keyed_step
step_reply s c none = ap (λ (r : Option KeyedRefusal). (keyed_step_by s (accepted defs s c) r).reply) none

-- so no refusal is its reply
pub never_refused : (s : TableState) (c : Change) (r : KeyedRefusal) → keyed_refusal defs s c ≡ None → (keyed_step defs s c).reply ≡ Err r → ⊥
never_refused s c r none refused = let e : ◌≡◌ {A = Result ℕ KeyedRefusal} (Ok (accepted defs s c).at) (Err r) = sym (step_reply s c none) ∙ refused in cc

-- ---- one row more

one_later : (i : ℕ) (rows : List StoredRow) → AllByRecursion (IsMadeRow i) rows → AllByRecursion (IsMadeRow (i + 1)) rows
one_later i [] all = tt
one_later i (r ∷ rows) all = ((all.0.0, all.0.1, omega (arith, all.0.2), all.0.3), one_later i rows all.1)

rows_then : (s : TableState) (i x : ℕ) → AllByRecursion (IsMadeRow i) s.rows → AllByRecursion (IsMadeRow (i + 1)) (accepted defs s (insert (row_of (i + 1) x))).state.rows
unfolding accepted
rows_then s i x all = put-all (IsMadeRow (i + 1)) _ s.rows (i + 1, x, omega arith, refl) (one_later i s.rows all)

block_added : (i x end : ℕ) → added_bytes defs (row_of i x) end ≡ row_block (row_of i x)
unfolding added_bytes row_block defs
block_added i x end = added_is (spelling defs (row_of i x)) end (row_some i x) (omega (arith, row_short i x))

pub takes_row : (t u : OpenTable) (i x : ℕ) (row : Values) (file : List ℕ) (m n : Holding) → i < 100000 → length file ≤ i * 252 → defs_in t ≡ defs → row ≡ row_of (i + 1) x → t.rows.rows.file.name ≡ rows_file t.name → u.name ≡ t.name
    → TakesRow row (Some m) (Some n) t u → AddsNew t.rows.rows.file u.rows.rows.file row m n → HoldsRows t i file m → HoldsRows u (i + 1) (file ++ row_block (row_of (i + 1) x)) n
takes_row t u i x row file m n few short own is named same takes adds has =
    let s = has.state in
    let v = row_of (i + 1) x in
    let long : length file ≡ s.space.end = ap (λ (b : List ℕ). length b) (sym has.bytes) ∙ sym (length_is t s m has.holds named) ∙ end_is t s m has.holds in
    let none = accepts s i x has.none has.rows (omega (arith, long, short)) few in
    let then = takes m refl s has.holds in
    let held : HoldState u (keyed_step (defs_in t) s (insert row)).state n = subst (λ (p : Holding). HoldState u (keyed_step (defs_in t) s (insert row)).state p) (same_Some then.0 n (sym then.1)) then.2 in
    let step : (keyed_step (defs_in t) s (insert row)).state ≡ (accepted defs s (insert v)).state =
    ap (λ (d : Defs). (keyed_step d s (insert row)).state) own ∙ ap (λ (r : Values). (keyed_step defs s (insert r)).state) is ∙ step_state s (insert v) none in
    let added = adds (none_deleted t s m has.holds has.none) in
    record {
      state = (accepted defs s (insert v)).state;
      holds = subst (λ (p : TableState). HoldState u p n) step held;
      rows = rows_then s i x has.rows;
      none = ap (λ (p : Space). p.holes) (end_then s (i + 1) x has.none);
      bytes =
          ap (λ (q : List ℕ). bytes_of (rows_file q) n) same ∙ ap (λ (q : List ℕ). bytes_of q n) (sym named) ∙ added.bytes
          ∙ ap (λ (q : List ℕ). bytes_of q m ++ added_bytes (defs_in t) row t.rows.rows.file.counts.length) named
          ∙ ap (λ (b : List ℕ). b ++ added_bytes (defs_in t) row t.rows.rows.file.counts.length) has.bytes
          ∙ ap (λ (d : Defs). file ++ added_bytes d row t.rows.rows.file.counts.length) own
          ∙ ap (λ (r : Values). file ++ added_bytes defs r t.rows.rows.file.counts.length) is
          ∙ ap (λ (b : List ℕ). file ++ b) (block_added (i + 1) x t.rows.rows.file.counts.length);
    }
