-- What the calls on the two files give for a change of the table.
use Rattle.std.proofs.Common.{◌≡◌, ℕ, Bool, true, false, cond, List, [], ◌∷◌, Option, Some, None, Err, refl, sym, ap, subst, ◌∙◌}
use Rattle.std.specs.Prelude.{◌==◌, option_map}
use Rattle.std.specs.List.{AllByRecursion}
use Rattle.myi_base.specs.Holding.{Holding}
use Rattle.myi_defs.specs.declared.types.Defs.{Defs}
use Rattle.myi_defs.specs.Sound.{IsSound}
use Rattle.myi_pack.specs.Packed.{Values}
use Rattle.myi_pack.specs.Spelling.{fits}
use Rattle.myi_keylist.specs.declared.pair.Pair.{Pair}
use Rattle.myi_btree.specs.Faults.{DamagedAt}
use Rattle.myi_btree.specs.declared.fault.TreeFault.{TreeFault}
use Rattle.myi_slots.specs.SlotFile.{SlotFile}
use Rattle.myi_state.specs.State.{StoredRow, TableState, row_at, rows_without}
use Rattle.myi_state.specs.Changes.{Change, Refusal, no_row, insert, insert_at_end, delete, update, accepted, if_absent, lacks_row}
use Rattle.myi_state.specs.Sound.{IsState, MayCome}
use Rattle.myi_pair.specs.FirstRows.{key_numbers}
use Rattle.myi_pair.specs.KeyList.{pointer}
use Rattle.myi_keytrees.specs.Trees.{Trees}
use Rattle.myi_keytrees.specs.Standing.{StandThen, IfStand}
use Rattle.myi_tablestate.specs.Keyed.{IsTable, Holder, first_holder, lacks_key, lacks, without_keys, by_holder, keyed_step}
use Rattle.myi_tablestate.specs.Listed.{position}
use Rattle.myi_rowtrees.specs.declared.duplicates.Duplicate.{Duplicate}
use Rattle.myi_rowtrees.specs.RowLists.{lists_of, row_pairs, put_each, take_each, move_each, LackPointers}
use Rattle.myi_rowtrees.specs.Duplicates.{others, held_at, IsFirstHeld}
use Rattle.myi_ranges.specs.Ranges.{position_within}
use Rattle.myi_keyedrows.specs.declared.keyed_rows.KeyedRows.{KeyedRows}
use Rattle.myi_keyedrows.specs.declared.fault.KeyedFault.{KeyedFault}
use Rattle.myi_keyedrows.specs.declared.fault.KeyedFault.TheVariants as fault
use Rattle.myi_keyedrows.specs.KeyedRows.{defs_of, IfHold, StillHold, IsReplyOf, Refuses}
use Rattle.myi_keyedrows.specs.Faults.{tree_fault}
use Rattle.myi_keyedrows.specs.Checking.{come, IsHeldBy, HasPairsAt, IsAbsent}
use Rattle.myi_keyedrows.proofs.CheckLemmas.{Leads, held_is}
use Rattle.myi_keyedrows.proofs.FaultLemmas.{held_tree}
use Rattle.myi_keyedrows.proofs.RowLemmas.{found_at}
use Rattle.myi_keyedrows.proofs.StepLemmas.{LacksNone, OfHalf, TreesFollow}

-- ---- another row with the key

-- of each row with these pairs this holds of the first row that has one of its keys
abbrev pub OfHolder : Option Holding → KeyedRows → Defs → List Pair → Option ℕ → (Option Holder → Type 0) → Type 0
OfHolder told k d pairs own P = IfHold told k (λ m bytes s. (values : Values) (p : ℕ) → pairs ≡ row_pairs d values p → P (first_holder d values (others d own s.rows) (key_numbers d)))

abbrev pub Searches : Option Holding → KeyedRows → Defs → List Pair → Option ℕ → Option Duplicate → Type 0
Searches told k d pairs own found = IfStand told k.trees (λ m bytes lists. (s : TableState) (values : Values) (p : ℕ) → IsTable d s → lists ≡ lists_of d s.rows → pairs ≡ row_pairs d values p → IsFirstHeld d values (others d own s.rows) found)

first_found : (told : Option Holding) (k : KeyedRows) (d : Defs) (pairs : List Pair) (own : Option ℕ) (found : Option Duplicate) → defs_of k ≡ d → Searches told k d pairs own found → OfHolder told k d pairs own (λ h. option_map (held_at d) found ≡ h)
first_found told k d pairs own found same first = λ m there bytes s h values p is.
    first m there bytes (lists_of (defs_of k) s.rows) h.trees s values p (subst (λ (q : Defs). IsTable q s) same h.table) (ap (λ (q : Defs). lists_of q s.rows) same) is

pub none_found : (told : Option Holding) (k : KeyedRows) (d : Defs) (pairs : List Pair) (own : Option ℕ) → defs_of k ≡ d → Searches told k d pairs own None → OfHolder told k d pairs own (λ h. h ≡ None)
none_found told k d pairs own same first = λ m there bytes s h values p is. sym (first_found told k d pairs own None same first m there bytes s h values p is)

pub row_found : Leads → (told : Option Holding) (k : KeyedRows) (d : Defs) (pairs : List Pair) (own : Option ℕ) (found : Duplicate) (at : ℕ) → defs_of k ≡ d → IsSound d → at ≡ position_within d k.rows.file.counts.length found.row → Searches told k d pairs own (Some found)
    → OfHolder told k d pairs own (λ h. h ≡ Some (found.key, at))
row_found leads told k d pairs own found at same sound place first = λ m there bytes s h values p is.
    let f : SlotFile = k.rows.file in
    let here = first_found told k d pairs own (Some found) same first m there bytes s h values p is in
    let by_file = held_is leads f s m values own found (subst IsSound (sym same) sound) h.rows.0 (subst (λ (q : Defs). option_map (held_at q) (Some found) ≡ first_holder q values (others q own s.rows) (key_numbers q)) (sym same) here) in
    subst (λ (q : Defs). first_holder q values (others q own s.rows) (key_numbers q) ≡ Some (found.key, position_within q f.counts.length found.row)) same by_file
    ∙ ap (λ (n : ℕ). Some (found.key, n)) (sym place)

pub tree_refuses : (told : Option Holding) (k : KeyedRows) (d : Defs) (pairs : List Pair) (own : Option ℕ) (e : TreeFault) → DamagedAt (λ at. IfStand told k.trees (λ m bytes lists. ⊥)) e → OfHolder told k d pairs own (λ h. IsHeldBy h (tree_fault e))
tree_refuses told k d pairs own e never = λ m there bytes s h values p is. held_tree (first_holder d values (others d own s.rows) (key_numbers d)) e (λ at damaged. never at damaged m there bytes (lists_of (defs_of k) s.rows) h.trees)

-- ---- a new row

pub may_come : (b : Bool) (d : Defs) (row : Values) → fits d row ≡ true → MayCome d (come b row)
may_come true d row fit = fit
may_come false d row fit = fit

pub comes_free : (b : Bool) (told : Option Holding) (k : KeyedRows) (d : Defs) (row : Values) (pairs : List Pair) (p : ℕ) → defs_of k ≡ d → pairs ≡ row_pairs d row p → OfHolder told k d pairs None (λ h. h ≡ None) → LacksNone (come b row) told k
comes_free true told k d row pairs p same is none = λ m there bytes s h. subst (λ (q : Defs). first_holder q row s.rows (key_numbers q) ≡ None) (sym same) (none m there bytes s h row p is)
comes_free false told k d row pairs p same is none = λ m there bytes s h. subst (λ (q : Defs). first_holder q row s.rows (key_numbers q) ≡ None) (sym same) (none m there bytes s h row p is)

-- the reply where another row has a key
abbrev pub ByKey : Type 0
ByKey = (d : Defs) (s : TableState) (c : Change) (h : Holder) → lacks_row s c ≡ None → lacks_key d s c ≡ Some h → (keyed_step d s c).reply ≡ Err (by_holder h)

held_reply : ByKey → (d : Defs) (s : TableState) (c : Change) (f : KeyedFault) → lacks_row s c ≡ None → IsHeldBy (lacks_key d s c) f → IsReplyOf (keyed_step d s c).reply f
held_reply key d s c (fault.Duplicate k at) row is = key d s c (k, at) row is
held_reply key d s c (fault.NoRow at) row is = absurd is
held_reply key d s c fault.Full row is = absurd is
held_reply key d s c (fault.Damaged at) row is = absurd is
held_reply key d s c fault.File row is = tt
held_reply key d s c fault.Memory row is = tt

pub comes_held : (b : Bool) (told : Option Holding) (k : KeyedRows) (d : Defs) (row : Values) (pairs : List Pair) (p : ℕ) (f : KeyedFault) → ByKey → defs_of k ≡ d → pairs ≡ row_pairs d row p → OfHolder told k d pairs None (λ h. IsHeldBy h f) → Refuses (come b row) told k f
comes_held true told k d row pairs p f key same is held = λ m there bytes s h. held_reply key (defs_of k) s (insert_at_end row) f refl (subst (λ (q : Defs). IsHeldBy (first_holder q row s.rows (key_numbers q)) f) (sym same) (held m there bytes s h row p is))
comes_held false told k d row pairs p f key same is held = λ m there bytes s h. held_reply key (defs_of k) s (insert row) f refl (subst (λ (q : Defs). IsHeldBy (first_holder q row s.rows (key_numbers q)) f) (sym same) (held m there bytes s h row p is))

-- what the laws say of the lists where a row comes
pub record Comes (d : Defs) (c : Change) (row : Values) : Type 0 where
  pub lists : (s : TableState) → IsState d s → lists_of d (accepted d s c).state.rows ≡ put_each (row_pairs d row (pointer d (accepted d s c).at)) (lists_of d s.rows)
  pub lack : (s : TableState) → IsState d s → LackPointers (row_pairs d row (pointer d (accepted d s c).at)) (lists_of d s.rows)

pub comes : (b : Bool) (d : Defs) (row : Values) → Comes d (insert_at_end row) row → Comes d (insert row) row → Comes d (come b row) row
comes true d row one two = one
comes false d row one two = two

lacks_at : (d : Defs) (c : Change) (row : Values) (s : TableState) (pairs : List Pair) (lists : List (List Pair)) (at : ℕ) → Comes d c row → pairs ≡ row_pairs d row (pointer d at) → IsTable d s → lists ≡ lists_of d s.rows → (accepted d s c).at ≡ at → LackPointers pairs lists
lacks_at d c row s pairs lists at laws is table are done =
    subst (λ (ls : List (List Pair)). LackPointers pairs ls) (sym are)
    (subst (λ (ps : List Pair). LackPointers ps (lists_of d s.rows)) (ap (λ (n : ℕ). row_pairs d row (pointer d n)) done ∙ sym is) (laws.lack s table.state))

pub comes_follow : (c : Change) (row : Values) (told next last : Option Holding) (old mid : KeyedRows) (trees : Trees) (pairs : List Pair) (at : ℕ) → Comes (defs_of mid) c row → pairs ≡ row_pairs (defs_of mid) row (pointer (defs_of mid) at)
    → IfStand next mid.trees (λ m bytes lists. LackPointers pairs lists → StandThen mid.trees m bytes last trees (put_each pairs lists)) → TreesFollow c told next last old mid trees at
comes_follow c row told next last old mid trees pairs at laws is put = λ m there own s h n bytes lists held st table are done.
    let d = defs_of mid in
    let now = put n held bytes lists st (lacks_at d c row s pairs lists at laws is table are done) in
    subst (λ (ls : List (List Pair)). StandThen mid.trees n bytes last trees ls)
    (ap (λ (ls : List (List Pair)). put_each pairs ls) are ∙ ap (λ (ps : List Pair). put_each ps (lists_of d s.rows)) (is ∙ ap (λ (q : ℕ). row_pairs d row (pointer d q)) (sym done)) ∙ sym (laws.lists s table.state)) now

pub comes_never : (c : Change) (row : Values) (told next : Option Holding) (old mid : KeyedRows) (pairs : List Pair) (at : ℕ) → Comes (defs_of mid) c row → pairs ≡ row_pairs (defs_of mid) row (pointer (defs_of mid) at)
    → IfStand next mid.trees (λ m bytes lists. LackPointers pairs lists → ⊥) → OfHalf c told next old mid at (λ n bytes lists s. ⊥)
comes_never c row told next old mid pairs at laws is never = λ m there own s h n bytes lists held st table are done.
    never n held bytes lists st (lacks_at (defs_of mid) c row s pairs lists at laws is table are done)

-- ---- a row that goes

abbrev pub HasPairs : Option Holding → KeyedRows → Defs → ℕ → List Pair → Type 0
HasPairs told k d at pairs = IfHold told k (λ m own s. HasPairsAt d at s.rows pairs)

-- the reply where no row stands at the position
abbrev pub ByRow : Type 0
ByRow = (d : Defs) (s : TableState) (c : Change) (r : Refusal) → lacks_row s c ≡ Some r → (keyed_step d s c).reply ≡ Err (without_keys r)

absent_reply : ByRow → (d : Defs) (s : TableState) (c : Change) (at : ℕ) (f : KeyedFault) → ((o : Option StoredRow) → o ≡ row_at at s.rows → o ≡ None → lacks_row s c ≡ Some (no_row at)) → IsAbsent at (row_at at s.rows) f → IsReplyOf (keyed_step d s c).reply f
absent_reply row d s c at (fault.Duplicate k p) lack is = absurd is
absent_reply row d s c at (fault.NoRow p) lack is = subst (λ (n : ℕ). (keyed_step d s c).reply ≡ Err (lacks n)) (sym is.0) (row d s c (no_row at) (lack (row_at at s.rows) refl is.1))
absent_reply row d s c at fault.Full lack is = absurd is
absent_reply row d s c at (fault.Damaged p) lack is = absurd is
absent_reply row d s c at fault.File lack is = tt
absent_reply row d s c at fault.Memory lack is = tt

pub goes_absent : (told : Option Holding) (k : KeyedRows) (at : ℕ) (f : KeyedFault) → ByRow → IfHold told k (λ m own s. IsAbsent at (row_at at s.rows) f) → Refuses (delete at) told k f
goes_absent told k at f row absent = λ m there own s h. absent_reply row (defs_of k) s (delete at) at f (λ o same none. ap (λ (q : Option StoredRow). if_absent at q) (sym same ∙ none)) (absent m there own s h)

pub stays_absent : (told : Option Holding) (k : KeyedRows) (at : ℕ) (values : Values) (f : KeyedFault) → ByRow → IfHold told k (λ m own s. IsAbsent at (row_at at s.rows) f) → Refuses (update at values) told k f
stays_absent told k at values f row absent = λ m there own s h. absent_reply row (defs_of k) s (update at values) at f (λ o same none. ap (λ (q : Option StoredRow). if_absent at q) (sym same ∙ none)) (absent m there own s h)

-- what the laws say of the lists where a row goes
abbrev pub Goes : Defs → Type 0
Goes d = (s : TableState) (at : ℕ) (r : StoredRow) → IsState d s → row_at at s.rows ≡ Some r → lists_of d (accepted d s (delete at)).state.rows ≡ take_each (row_pairs d r.values (pointer d r.at)) (lists_of d s.rows)

pub goes_follow : (told next last : Option Holding) (old mid : KeyedRows) (trees : Trees) (pairs : List Pair) (at : ℕ) → Goes (defs_of mid) → HasPairs told old (defs_of mid) at pairs
    → IfStand next mid.trees (λ m bytes lists. StandThen mid.trees m bytes last trees (take_each pairs lists)) → TreesFollow (delete at) told next last old mid trees at
goes_follow told next last old mid trees pairs at laws has took = λ m there own s h n bytes lists held st table are done.
    let d = defs_of mid in
    let r = has m there own s h in
    let place = found_at at s.rows r.0 r.1 in
    let now = took n held bytes lists st in
    subst (λ (ls : List (List Pair)). StandThen mid.trees n bytes last trees ls)
    (ap (λ (ls : List (List Pair)). take_each pairs ls) are ∙ ap (λ (ps : List Pair). take_each ps (lists_of d s.rows)) (r.2 ∙ ap (λ (q : ℕ). row_pairs d r.0.values (pointer d q)) (sym place)) ∙ sym (laws s at r.0 table.state r.1)) now

pub goes_never : (told next : Option Holding) (old mid : KeyedRows) (at : ℕ) → IfStand next mid.trees (λ m bytes lists. ⊥) → OfHalf (delete at) told next old mid at (λ n bytes lists s. ⊥)
goes_never told next old mid at never = λ m there own s h n bytes lists held st table are done. never n held bytes lists st

pub goes_free : (told : Option Holding) (k : KeyedRows) (at : ℕ) → LacksNone (delete at) told k
goes_free told k at = λ m there own s h. refl

-- ---- a row that gets other values

-- the position of a row is found again from its pointer
abbrev pub Back : Defs → Type 0
Back d = (s : TableState) → IsState d s → AllByRecursion (λ (r : StoredRow). position d (pointer d r.at) ≡ r.at) s.rows

all_found : (P : StoredRow → Type 0) (at : ℕ) (rows : List StoredRow) (r : StoredRow) → AllByRecursion P rows → row_at at rows ≡ Some r → P r
all_found P at [] r all e = absurd cc
all_found P at (q ∷ rows) r all e = by (q.at == at) e (λ f. all_found P at rows r all.1 f)
  where
    by : (b : Bool) → cond b (Some q) (row_at at rows) ≡ Some r → (row_at at rows ≡ Some r → P r) → P r
    by true e more = let same : q ≡ r = cc in subst P same all.0
    by false e more = more e

-- the other rows are those but the one with the pointer of the position
others_are : (d : Defs) (s : TableState) (at : ℕ) (r : StoredRow) → Back d → IsState d s → row_at at s.rows ≡ Some r → others d (Some (pointer d at)) s.rows ≡ rows_without at s.rows
others_are d s at r back state found =
    let place = found_at at s.rows r found in
    let here = all_found (λ (q : StoredRow). position d (pointer d q.at) ≡ q.at) at s.rows r (back s state) found in
    ap (λ (n : ℕ). rows_without n s.rows) (subst (λ (n : ℕ). position d (pointer d n) ≡ n) place here)

pub stays_free : (told : Option Holding) (k : KeyedRows) (d : Defs) (at : ℕ) (row : Values) (had pairs : List Pair) (p : ℕ) → defs_of k ≡ d → Back d → HasPairs told k d at had → pairs ≡ row_pairs d row p → OfHolder told k d pairs (Some (pointer d at)) (λ h. h ≡ None) → LacksNone (update at row) told k
stays_free told k d at row had pairs p same back has is none = λ m there bytes s h.
    let r = has m there bytes s h in
    let table = subst (λ (q : Defs). IsTable q s) same h.table in
    subst (λ (q : Defs). first_holder q row (rows_without at s.rows) (key_numbers q) ≡ None) (sym same)
    (subst (λ (rows : List StoredRow). first_holder d row rows (key_numbers d) ≡ None) (others_are d s at r.0 back table.state r.1) (none m there bytes s h row p is))

pub stays_held : (told : Option Holding) (k : KeyedRows) (d : Defs) (at : ℕ) (row : Values) (had pairs : List Pair) (p : ℕ) (f : KeyedFault) → ByKey → defs_of k ≡ d → Back d → HasPairs told k d at had → pairs ≡ row_pairs d row p → OfHolder told k d pairs (Some (pointer d at)) (λ h. IsHeldBy h f) → Refuses (update at row) told k f
stays_held told k d at row had pairs p f key same back has is held = λ m there bytes s h.
    let r = has m there bytes s h in
    let table = subst (λ (q : Defs). IsTable q s) same h.table in
    held_reply key (defs_of k) s (update at row) f (ap (λ (q : Option StoredRow). if_absent at q) r.1)
    (subst (λ (q : Defs). IsHeldBy (first_holder q row (rows_without at s.rows) (key_numbers q)) f) (sym same)
    (subst (λ (rows : List StoredRow). IsHeldBy (first_holder d row rows (key_numbers d)) f) (others_are d s at r.0 back table.state r.1) (held m there bytes s h row p is)))

-- what the laws say of the lists where a row gets other values
pub record Moves (d : Defs) : Type 0 where
  pub lists : (s : TableState) (at : ℕ) (values : Values) (r : StoredRow) → IsState d s → row_at at s.rows ≡ Some r → lists_of d (accepted d s (update at values)).state.rows ≡ move_each (row_pairs d r.values (pointer d r.at)) (row_pairs d values (pointer d at)) (lists_of d s.rows)
  pub lack : (s : TableState) (at : ℕ) (values : Values) (r : StoredRow) → IsState d s → row_at at s.rows ≡ Some r → LackPointers (row_pairs d values (pointer d at)) (take_each (row_pairs d r.values (pointer d r.at)) (lists_of d s.rows))

moves_lack : (d : Defs) (s : TableState) (at : ℕ) (row : Values) (had pairs : List Pair) (lists : List (List Pair)) → Moves d → HasPairsAt d at s.rows had → pairs ≡ row_pairs d row (pointer d at) → IsTable d s → lists ≡ lists_of d s.rows → LackPointers pairs (take_each had lists)
moves_lack d s at row had pairs lists laws r is table are =
    let place = found_at at s.rows r.0 r.1 in
    let old = r.2 ∙ ap (λ (q : ℕ). row_pairs d r.0.values (pointer d q)) (sym place) in
    subst (λ (ls : List (List Pair)). LackPointers pairs (take_each had ls)) (sym are)
    (subst (λ (ps : List Pair). LackPointers pairs (take_each ps (lists_of d s.rows))) (sym old)
    (subst (λ (ps : List Pair). LackPointers ps (take_each (row_pairs d r.0.values (pointer d r.0.at)) (lists_of d s.rows))) (sym is) (laws.lack s at row r.0 table.state r.1)))

pub moves_follow : (row : Values) (told next last : Option Holding) (old mid : KeyedRows) (trees : Trees) (had pairs : List Pair) (at : ℕ) → Moves (defs_of mid) → HasPairs told old (defs_of mid) at had → pairs ≡ row_pairs (defs_of mid) row (pointer (defs_of mid) at)
    → IfStand next mid.trees (λ m bytes lists. LackPointers pairs (take_each had lists) → StandThen mid.trees m bytes last trees (move_each had pairs lists)) → TreesFollow (update at row) told next last old mid trees at
moves_follow row told next last old mid trees had pairs at laws has is moved = λ m there own s h n bytes lists held st table are done.
    let d = defs_of mid in
    let r = has m there own s h in
    let place = found_at at s.rows r.0 r.1 in
    let before = r.2 ∙ ap (λ (q : ℕ). row_pairs d r.0.values (pointer d q)) (sym place) in
    let now = moved n held bytes lists st (moves_lack d s at row had pairs lists laws r is table are) in
    subst (λ (ls : List (List Pair)). StandThen mid.trees n bytes last trees ls)
    (ap (λ (ls : List (List Pair)). move_each had pairs ls) are ∙ ap (λ (ps : List Pair). move_each ps pairs (lists_of d s.rows)) before
    ∙ ap (λ (ps : List Pair). move_each (row_pairs d r.0.values (pointer d r.0.at)) ps (lists_of d s.rows)) is ∙ sym (laws.lists s at row r.0 table.state r.1)) now

pub moves_never : (row : Values) (told next : Option Holding) (old mid : KeyedRows) (had pairs : List Pair) (at : ℕ) → Moves (defs_of mid) → HasPairs told old (defs_of mid) at had → pairs ≡ row_pairs (defs_of mid) row (pointer (defs_of mid) at)
    → IfStand next mid.trees (λ m bytes lists. LackPointers pairs (take_each had lists) → ⊥) → OfHalf (update at row) told next old mid at (λ n bytes lists s. ⊥)
moves_never row told next old mid had pairs at laws has is never = λ m there own s h n bytes lists held st table are done.
    never n held bytes lists st (moves_lack (defs_of mid) s at row had pairs lists laws (has m there own s h) is table are)

-- ---- before and behind a read

pub held_before : (told next : Option Holding) (old new : KeyedRows) (d : Defs) (pairs : List Pair) (own : Option ℕ) (P : Option Holder → Type 0) → StillHold told next old new → OfHolder next new d pairs own P → OfHolder told old d pairs own P
held_before told next old new d pairs own P still holder = λ m there bytes s h. let f = still m there bytes s h in holder f.now f.held bytes s f.table

pub has_as : (told : Option Holding) (k : KeyedRows) (d e : Defs) (at : ℕ) (xs ys : List Pair) → e ≡ d → ys ≡ xs → HasPairs told k d at xs → HasPairs told k e at ys
has_as told k d e at xs ys same alike has = λ m there own s h. subst (λ (q : Defs). HasPairsAt q at s.rows ys) (sym same) (subst (λ (ps : List Pair). HasPairsAt d at s.rows ps) (sym alike) (has m there own s h))
