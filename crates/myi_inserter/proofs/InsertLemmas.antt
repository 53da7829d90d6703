-- What a call of an inserter leaves, and which step it is.
use Rattle.std.proofs.Common.{◌≡◌, ℕ, ◌+◌, ◌-◌, Bool, true, false, cond, List, [], ◌∷◌, ◌++◌, length, Option, Some, None, is_some, Ok, Err, Result, refl, sym, ap, subst, ◌∙◌, ◌^◌, ◌<◌, ◌≤◌, ◌&&◌, nat_lt, nat_le, leb-true, arith}
use Rattle.std.specs.Map.{lookup}
use Rattle.indexmap.specs.IndexMap.{IndexMap, IsUnchanged, IsEmpty, get}
use Rattle.myi_base.specs.Numbers.{AreBytes}
use Rattle.myi_base.specs.Holding.{Holding}
use Rattle.myi_defs.specs.declared.types.Defs.{Defs}
use Rattle.myi_defs.specs.Addressable.{is_addressable, pointers}
use Rattle.myi_pack.specs.Packed.{Values}
use Rattle.myi_pack.specs.Spelling.{spelling, fits}
use Rattle.myi_keycache.specs.Kept.{AllWritten}
use Rattle.myi_keycache.specs.Caching.{pages_of}
use Rattle.myi_slots.specs.SlotFile.{SlotFile}
use Rattle.myi_btree.specs.declared.place.Place.{Place}
use Rattle.myi_state.specs.State.{StoredRow, TableState}
use Rattle.myi_state.specs.Changes.{Change, Refusal, full, insert_at_end, accepted, if_long, lacks_row, lacks_room}
use Rattle.myi_state.specs.Sound.{IsState}
use Rattle.myi_state.specs.Numbers.{counts_of}
use Rattle.myi_state.specs.declared.counts.Counts.{Counts}
use Rattle.myi_pair.specs.FirstRows.{key_numbers}
use Rattle.myi_tablestate.specs.Keyed.{Holder, KeyedRefusal, too_long, without_keys, by_holder, holder, first_holder, lacks_key, keyed_refusal, keyed_step}
use Rattle.myi_keyedrows.specs.declared.keyed_rows.KeyedRows.{KeyedRows}
use Rattle.myi_keyedrows.specs.KeyedRows.{HoldTable, IsLeft}
use Rattle.myi_tail.specs.Rows.{row_words}
use Rattle.myi_tail.specs.Seats.{Appending}
use Rattle.myi_snapshots.specs.Appended.{with_rows}
use Rattle.myi_snapshots.specs.Known.{packed_rows, size_of, end_with}
use Rattle.myi_snapshots.proofs.CallerLemmas.{one_more, ends}
use Rattle.myi_inserter.specs.declared.inserter.TableInserter.{TableInserter}
use Rattle.myi_inserter.specs.declared.unique_key.UniqueKey.{UniqueKey}
use Rattle.myi_inserter.specs.declared.fault.InsertFault.{InsertFault}
use Rattle.myi_inserter.specs.declared.fault.InsertFault.TheVariants as fault
use Rattle.myi_inserter.specs.Faults.{IsHeldBy, IsOfSearching}
use Rattle.myi_inserter.specs.Put.{stored_behind, stored_at}
use Rattle.myi_inserter.specs.UniqueKeys.{key_in, unique_keys, is_same, Finds, FindsNone}
use Rattle.myi_inserter.specs.Inserter.{base_end, IsInserter, IsSameInserter, IsSearched, IsPut, IsReplyOf, IsCaused, step_behind, end_behind, with_words}
use Rattle.myi_inserter.specs.Putting.{has_key, FindsMore, LacksWords, IsOfBase, IsNotPut}
use Rattle.myi_inserter.proofs.PutLemmas.{or_else, holder_both, stored, end_more, stored_more, words_more, fit_more, bytes_more}
use Rattle.myi_inserter.proofs.FoundLemmas.{found_more}

-- ---- trees that were searched

ready_again : (i : TableInserter) (k : KeyedRows) (rows : List Values) → IsLeft i.rows k → AllWritten (pages_of k.trees.cache) → IsInserter i rows → IsInserter (record i { rows = k }) rows
ready_again i k rows left written is =
    let long : base_end i ≡ k.rows.file.counts.length = sym (ap (λ (f : SlotFile). f.counts.length) left.file) in record {
      sound = is.sound;
      defs = ap (λ (f : SlotFile). f.defs) left.file ∙ is.defs;
      keys = ap (λ (ps : List Place). length ps) left.places ∙ is.keys;
      written = written;
      fit = is.fit;
      bytes = is.bytes;
      words = is.words;
      published = is.published;
      end = is.end ∙ ap (λ (n : ℕ). end_with i.defs n (packed_rows i.defs rows)) long;
      found = subst (λ (n : ℕ). Finds i.defs i.put (stored_behind i.defs n rows)) long is.found;
    }

pub searched : (i : TableInserter) (k : KeyedRows) → IsLeft i.rows k → AllWritten (pages_of k.trees.cache) → IsSearched i (record i { rows = k })
searched i k left written = record {
  ready = λ rows is. ready_again i k rows left written is;
  same = record { defs = refl; number = refl; tail = refl; file = left.file; places = left.places };
  appender = refl;
  end = refl;
  put = refl;
}

pub searched_on : (i j l : TableInserter) → IsSearched i j → IsSearched j l → IsSearched i l
searched_on i j l one two = record {
  ready = λ rows is. two.ready rows (one.ready rows is);
  same = record {
    defs = two.same.defs ∙ one.same.defs;
    number = two.same.number ∙ one.same.number;
    tail = two.same.tail ∙ one.same.tail;
    file = two.same.file ∙ one.same.file;
    places = two.same.places ∙ one.same.places;
  };
  appender = two.appender ∙ one.appender;
  end = two.end ∙ one.end;
  put = two.put ∙ one.put;
}

-- ---- which row has a key

-- the base ends where its object says
pub ends_there : (i : TableInserter) (own : ℕ → ℕ) (base : TableState) (m : Holding) → HoldTable i.rows own base m → base.space.end ≡ base_end i
unfolding counts_of
ends_there i own base m h = sym (ap (λ (c : Counts). c.length) h.rows.0.counts)

-- the base is a state, by the definitions of the inserter
pub state_of : (i : TableInserter) (own : ℕ → ℕ) (base : TableState) (m : Holding) (rows : List Values) → IsInserter i rows → HoldTable i.rows own base m → IsState i.defs base
state_of i own base m rows is h = subst (λ (d : Defs). IsState d base) is.defs h.table.state

pub held_either : (i : TableInserter) (base : TableState) (rows : List Values) (values : Values) (n : ℕ) (one : Option ℕ) → IsInserter i rows → IsState i.defs base → base.space.end ≡ base_end i → holder i.defs values n base.rows ≡ one
    → holder i.defs values n (with_rows i.defs base rows).rows ≡ or_else one (holder i.defs values n (stored_behind i.defs (base_end i) rows))
held_either i base rows values n one is state there first =
    let d : Defs = i.defs in
    ap (holder d values n) (stored d base rows is.sound state is.fit ∙ ap (λ (e : ℕ). base.rows ++ stored_behind d e rows) there)
    ∙ holder_both d values n base.rows (stored_behind d (base_end i) rows) ∙ ap (λ (o : Option ℕ). or_else o (holder d values n (stored_behind d (base_end i) rows))) first

pub some_first : (o other : Option ℕ) → is_some o ≡ true → o ≡ or_else o other
some_first None other some = absurd cc
some_first (Some at) other some = refl

pub is_none : (o : Option ℕ) → is_some o ≡ false → o ≡ None
is_none None none = refl
is_none (Some at) none = absurd cc

-- ---- the same base

rebased : (i q : TableInserter) → IsOfBase i q → ◌≡◌ {A = TableInserter} (record q { defs = i.defs; rows = i.rows; number = i.number }) q
rebased i q base =
    ap (λ (d : Defs). record q { defs = d; rows = i.rows; number = i.number }) (sym base.defs)
    ∙ ap (λ (k : KeyedRows). record q { rows = k; number = i.number }) (sym base.rows)
    ∙ ap (λ (n : ℕ). record q { number = n }) (sym base.number)

-- ---- nothing was put

found_again : {S : Type 0} (d : Defs) (old new : IndexMap UniqueKey ℕ S) (rows : List StoredRow) → IsUnchanged old new → Finds d old rows → Finds d new rows
found_again d old new rows same found = λ k values number unique whole. ap (lookup (is_same (key_in d values k))) same ∙ found k values number unique whole

pub not_put : (i q : TableInserter) → IsOfBase i q → IsNotPut i q → (rows : List Values) → IsInserter i rows → IsInserter q rows
not_put i q base same rows is = subst (λ (t : TableInserter). IsInserter t rows) (rebased i q base) (record {
  sound = is.sound;
  defs = is.defs;
  keys = is.keys;
  written = is.written;
  fit = is.fit;
  bytes = is.bytes;
  words = ap (λ (a : Appending). a.words) same.appender ∙ is.words;
  published = subst (λ (a : Appending). a.published ≡ length a.words) (sym same.appender) is.published;
  end = same.end ∙ is.end;
  found = found_again i.defs i.put q.put (stored_behind i.defs (base_end i) rows) same.found is.found;
})

-- ---- a row that was put: what is new of it in q

pub inserted : (i q : TableInserter) (rows : List Values) (row : Values) (keys : List UniqueKey) → IsInserter i rows → fits i.defs row ≡ true → AreBytes (spelling i.defs row) → q.appender ≡ with_words i.appender (row_words (spelling i.defs row)) → q.end ≡ i.end + size_of i.defs (spelling i.defs row)
    → keys ≡ unique_keys i.defs row → FindsNone i.put keys → FindsMore i.put q.put keys i.end → IsOfBase i q → IsInserter q (rows ++ row ∷ [])
inserted i q rows row keys is fit bytes appended ends_at are none put base =
    let d : Defs = i.defs in
    let stored : ℕ = end_with d (base_end i) (packed_rows d rows) in
    let words : q.appender.words ≡ i.appender.words ++ row_words (spelling d row) = ap (λ (a : Appending). a.words) appended in
    subst (λ (t : TableInserter). IsInserter t (rows ++ row ∷ [])) (rebased i q base) (record {
      sound = is.sound;
      defs = is.defs;
      keys = is.keys;
      written = is.written;
      fit = fit_more d rows row is.fit fit;
      bytes = bytes_more d rows row is.bytes bytes;
      words = words ∙ ap (λ (w : List ℕ). w ++ row_words (spelling d row)) is.words ∙ sym (words_more d rows row);
      published = ap (λ (a : Appending). a.published) appended ∙ ap (λ (w : List ℕ). length w) (sym words);
      end = ends_at ∙ ap (λ (n : ℕ). n + size_of d (spelling d row)) is.end ∙ sym (end_more d (base_end i) rows row);
      found = subst (λ (l : List StoredRow). Finds d q.put l) (sym (stored_more d (base_end i) rows row))
          (found_more d i.put q.put (stored_behind d (base_end i) rows) (stored_at d stored row) keys is.found are none (λ u. put u ∙ ap (λ (n : ℕ). cond (has_key u keys) (Some n) (get is_same i.put u)) is.end));
    })

-- ---- the step

abbrev pub Accepts : Type 0
Accepts = (d : Defs) (s : TableState) (c : Change) → keyed_refusal d s c ≡ None → ((keyed_step d s c).reply ≡ Ok (accepted d s c).at) × ((keyed_step d s c).state ≡ (accepted d s c).state)

abbrev pub IsFree : Type 0
IsFree = (d : Defs) (s : TableState) (c : Change) → lacks_row s c ≡ None → lacks_key d s c ≡ None → lacks_room d s c ≡ None → keyed_refusal d s c ≡ None

abbrev pub ByKey : Type 0
ByKey = (d : Defs) (s : TableState) (c : Change) (h : Holder) → lacks_row s c ≡ None → lacks_key d s c ≡ Some h → (keyed_step d s c).reply ≡ Err (by_holder h)

abbrev pub ByRoom : Type 0
ByRoom = (d : Defs) (s : TableState) (c : Change) (r : Refusal) → lacks_row s c ≡ None → lacks_key d s c ≡ None → lacks_room d s c ≡ Some r → (keyed_step d s c).reply ≡ Err (without_keys r)

-- and the table with the rows that were put where the next one goes
end_of : (i : TableInserter) (base : TableState) (rows : List Values) → IsInserter i rows → base.space.end ≡ base_end i → (with_rows i.defs base rows).space.end ≡ i.end
end_of i base rows is there = ends i.defs base rows ∙ ap (λ (n : ℕ). end_with i.defs n (packed_rows i.defs rows)) there ∙ sym is.end

-- one more row: where the table ends then
next_end : (i : TableInserter) (base : TableState) (rows : List Values) (row : Values) → IsInserter i rows → base.space.end ≡ base_end i → (accepted i.defs (with_rows i.defs base rows) (insert_at_end row)).state.space.end ≡ i.end + size_of i.defs (spelling i.defs row)
next_end i base rows row is there =
    let d : Defs = i.defs in
    ap (λ (s : TableState). s.space.end) (sym (one_more d base rows row)) ∙ ends d base (rows ++ row ∷ []) ∙ ap (λ (n : ℕ). end_with d n (packed_rows d (rows ++ row ∷ []))) there
    ∙ end_more d (base_end i) rows row ∙ ap (λ (n : ℕ). n + size_of d (spelling d row)) (sym is.end)

placed_at : (d : Defs) (s : TableState) (row : Values) → (accepted d s (insert_at_end row)).at ≡ s.space.end
unfolding accepted
placed_at d s row = refl

pub is_put : Accepts → IsFree → (i : TableInserter) (base : TableState) (rows : List Values) (row : Values) → IsInserter i rows → base.space.end ≡ base_end i → first_holder i.defs row (with_rows i.defs base rows).rows (key_numbers i.defs) ≡ None
    → is_addressable i.defs (i.end + size_of i.defs (spelling i.defs row)) ≡ true → IsPut i.defs base rows row i.end
is_put accepts free i base rows row is there none reached =
    let d : Defs = i.defs in
    let s : TableState = with_rows d base rows in
    let c : Change = insert_at_end row in
    let room : lacks_room d s c ≡ None = ap (λ (n : ℕ). if_long (is_addressable d n)) (next_end i base rows row is there) ∙ ap if_long reached in
    let done = accepts d s c (free d s c refl none room) in record {
      reply = done.0 ∙ ap (λ (n : ℕ). Ok n) (placed_at d s row ∙ end_of i base rows is there);
      state = done.1 ∙ sym (one_more d base rows row);
    }

pub is_full : ByRoom → (i : TableInserter) (base : TableState) (rows : List Values) (row : Values) → IsInserter i rows → base.space.end ≡ base_end i → first_holder i.defs row (with_rows i.defs base rows).rows (key_numbers i.defs) ≡ None
    → is_addressable i.defs (i.end + size_of i.defs (spelling i.defs row)) ≡ false → (step_behind i.defs base rows row).reply ≡ Err too_long
is_full by_room i base rows row is there none long =
    let d : Defs = i.defs in
    let s : TableState = with_rows d base rows in
    let c : Change = insert_at_end row in
    by_room d s c full refl none (ap (λ (n : ℕ). if_long (is_addressable d n)) (next_end i base rows row is there) ∙ ap if_long long)

pub held_reply : ByKey → (d : Defs) (base : TableState) (rows : List Values) (row : Values) (end : ℕ) (f : InsertFault) → IsHeldBy (first_holder d row (with_rows d base rows).rows (key_numbers d)) f → IsReplyOf end (step_behind d base rows row).reply f
held_reply by_key d base rows row end (fault.Duplicate key at) held = by_key d (with_rows d base rows) (insert_at_end row) (key, at) refl held
held_reply by_key d base rows row end fault.Full held = absurd held
held_reply by_key d base rows row end (fault.NoRoom need free) held = absurd held
held_reply by_key d base rows row end (fault.Damaged at) held = absurd held
held_reply by_key d base rows row end fault.File held = tt
held_reply by_key d base rows row end fault.Memory held = tt

-- ---- a whole call: the base is searched, and then the row is put

pub put_more : (i j q : TableInserter) (rows : List Values) (row : Values) (keys : List UniqueKey) (packed : List ℕ) → IsSearched i j → IsOfBase j q → IsInserter i rows → fits i.defs row ≡ true → AreBytes (spelling i.defs row) → packed ≡ spelling i.defs row → q.appender ≡ with_words j.appender (row_words packed) → q.end ≡ end_behind i row
    → keys ≡ unique_keys i.defs row → FindsNone i.put keys → FindsMore j.put q.put keys j.end → IsInserter q (rows ++ row ∷ [])
put_more i j q rows row keys packed s base is fit bytes spelled appended ends_at are none put =
    let e : j.defs ≡ i.defs = s.same.defs in
    inserted j q rows row keys (s.ready rows is) (ap (λ (d : Defs). fits d row) e ∙ fit) (subst (λ (d : Defs). AreBytes (spelling d row)) (sym e) bytes)
    (appended ∙ ap (λ (p : List ℕ). with_words j.appender (row_words p)) (spelled ∙ ap (λ (d : Defs). spelling d row) (sym e)))
    (ends_at ∙ ap (λ (n : ℕ). n + size_of i.defs (spelling i.defs row)) (sym s.end) ∙ ap (λ (d : Defs). j.end + size_of d (spelling d row)) (sym e))
    (are ∙ ap (λ (d : Defs). unique_keys d row) (sym e)) (subst (λ p. FindsNone p keys) (sym s.put) none) put base

pub same_then : (i j q : TableInserter) → IsSearched i j → IsOfBase j q → q.appender.tail ≡ j.appender.tail → IsSameInserter i q
same_then i j q s base tail = record {
  defs = base.defs ∙ s.same.defs;
  number = base.number ∙ s.same.number;
  tail = tail ∙ s.same.tail;
  file = ap (λ (k : KeyedRows). k.rows.file) base.rows ∙ s.same.file;
  places = ap (λ (k : KeyedRows). k.trees.places) base.rows ∙ s.same.places;
}

pub lacks_reply : (a : Appending) (packed : List ℕ) (end : ℕ) (reply : Result ℕ KeyedRefusal) (f : InsertFault) → LacksWords a packed f → reply ≡ Ok end → IsReplyOf end reply f
lacks_reply a packed end reply (fault.Duplicate key at) lacks is = absurd lacks
lacks_reply a packed end reply fault.Full lacks is = absurd lacks
lacks_reply a packed end reply (fault.NoRoom need free) lacks is = is
lacks_reply a packed end reply (fault.Damaged at) lacks is = absurd lacks
lacks_reply a packed end reply fault.File lacks is = tt
lacks_reply a packed end reply fault.Memory lacks is = tt

pub lacks_cause : (i : TableInserter) (row : Values) (packed : List ℕ) (f : InsertFault) → packed ≡ spelling i.defs row → is_addressable i.defs (end_behind i row) ≡ true → LacksWords i.appender packed f → IsCaused i row f
lacks_cause i row packed (fault.Duplicate key at) spelled reached lacks = absurd lacks
lacks_cause i row packed fault.Full spelled reached lacks = absurd lacks
lacks_cause i row packed (fault.NoRoom need free) spelled reached lacks = (reached, lacks.0 ∙ ap (λ (p : List ℕ). length (row_words p)) spelled, lacks.1, lacks.2)
lacks_cause i row packed (fault.Damaged at) spelled reached lacks = absurd lacks
lacks_cause i row packed fault.File spelled reached lacks = absurd lacks
lacks_cause i row packed fault.Memory spelled reached lacks = tt

pub lacks_no_file : (a : Appending) (packed : List ℕ) (f : InsertFault) → LacksWords a packed f → f ≡ fault.File → ⊥
lacks_no_file a packed f lacks is = subst (LacksWords a packed) is lacks

-- ---- an inserter that has put nothing

pub none_found : {S : Type 0} (d : Defs) (put : IndexMap UniqueKey ℕ S) → IsEmpty put → Finds d put []
none_found d put empty = λ k values number unique whole. ap (lookup (is_same (key_in d values k))) empty

-- no table of more than 2^40 bytes is within reach
pub far_off : (d : Defs) (n : ℕ) → 2 ^ 40 < n → is_addressable d n ≡ false
unfolding is_addressable
far_off d n far = ap (λ (b : Bool). b && nat_lt (pointers d.format d.slot_length n) (256 ^ d.rec_ref - 1)) (beyond (nat_le n (2 ^ 40)) refl)
  where
    beyond : (b : Bool) → nat_le n (2 ^ 40) ≡ b → b ≡ false
    beyond true e = let le : n ≤ 2 ^ 40 = leb-true n (2 ^ 40) e in absurd (omega (arith, le, far))
    beyond false e = refl

-- ---- a row that is looked at

-- where the data file would end behind it
pub end_same : (i j : TableInserter) (row : Values) (packed : List ℕ) → IsSearched i j → packed ≡ spelling i.defs row → j.end + size_of j.defs packed ≡ end_behind i row
end_same i j row packed s spelled =
    ap (λ (d : Defs). j.end + size_of d packed) s.same.defs ∙ ap (λ (n : ℕ). n + size_of i.defs packed) s.end ∙ ap (λ (p : List ℕ). i.end + size_of i.defs p) spelled

pub reach_same : (i j : TableInserter) (row : Values) (packed : List ℕ) (b : Bool) → IsSearched i j → packed ≡ spelling i.defs row → is_addressable j.defs (j.end + size_of j.defs packed) ≡ b → is_addressable i.defs (end_behind i row) ≡ b
reach_same i j row packed b s spelled reach =
    ap (λ (n : ℕ). is_addressable i.defs n) (sym (end_same i j row packed s spelled)) ∙ ap (λ (d : Defs). is_addressable d (j.end + size_of j.defs packed)) (sym s.same.defs) ∙ reach

pub searching_cause : (i : TableInserter) (row : Values) (f : InsertFault) → IsOfSearching f → IsCaused i row f
searching_cause i row (fault.Duplicate key at) is = tt
searching_cause i row fault.Full is = absurd is
searching_cause i row (fault.NoRoom need free) is = absurd is
searching_cause i row (fault.Damaged at) is = tt
searching_cause i row fault.File is = tt
searching_cause i row fault.Memory is = tt
