-- What is noted of the rows of a file, and that changes keep it.
use Rattle.std.proofs.Common.{◌≡◌, ◌≢◌, ◌≤◌, ◌∙◌, ℕ, Bool, true, false, cond, nat_cmp, List, [], ◌∷◌, length, map, Option, Some, None, Result, Ok, Err, refl, sym, ap, subst, arith}
use Rattle.std.specs.Prelude.{◌==◌, ◌||◌, is_some, IfOk, IfErr}
use Rattle.std.specs.BTreeMap.{is_at}
use Rattle.std.proofs.lemmas.Bool.Decides.{nat_tests}
use Rattle.std.proofs.lemmas.List.{take_all}
use Rattle.myi_base.specs.Holding.{Holding, IfTold, bytes_of}
use Rattle.myi_defs.specs.declared.types.RowFormat.TheVariants.{Dynamic}
use Rattle.myi_defs.specs.declared.types.Defs.{Defs}
use Rattle.myi_defs.specs.Sound.{IsSound}
use Rattle.myi_pack.specs.Packed.{Values}
use Rattle.myi_chain.specs.Readable.{Row, rows_of}
use Rattle.myi_chain.specs.ScanModel.{fresh_scan}
use Rattle.myi_data.specs.Readable.{readable, items_in}
use Rattle.myi_data.specs.Scanning.{TableScan, rows_ahead, IsAsKnown}
use Rattle.myi_data.proofs.CallerLemmas.{fresh_ahead, fresh_known}
use Rattle.myi_state.specs.State.{StoredRow, TableState, row_at}
use Rattle.myi_state.specs.Changes.{Change, Changed, Refusal, insert, insert_at_end, accepted, refusal, step, step_by}
use Rattle.myi_state.specs.Sound.{HasValues}
use Rattle.myi_state.specs.Standing.{stored_row}
use Rattle.myi_state.proofs.CallerLemmas.{others-stay, inserted-there, appended-there}
use Rattle.myi_slots.specs.declared.fault.DataFault.{DataFault}
use Rattle.myi_slots.specs.declared.fault.DataFault.TheVariants as fault
use Rattle.myi_slots.specs.SlotFile.{SlotFile, IsFileOf, IsReply, ByCause, Never, CutsOff}
use Rattle.myi_blocks.specs.RowReading.{StandsAt, LacksRow, IsRowAt}
use Rattle.myi_blocks.specs.Places.{NotedFile, is_among, begins_at, AreRead, AreNoted, IsNotedFileOf, MayNote, HasNoted, NotesRead}
use Rattle.myi_blocks.specs.Noting.{NotesAll}
use Rattle.myi_blocks.proofs.RowAtLemmas.{row-stands}

-- ---- a row that was put

some_is : {A : Type 0} {a b : A} → Some a ≡ Some b → a ≡ b
some_is e = cc

ok_is : (a b : ℕ) → (r q : Result ℕ Refusal) → r ≡ Ok a → q ≡ Ok b → r ≡ q → a ≡ b
ok_is a b r q e f g = cc

taken_by : (s : TableState) (done : Changed) (o : Option Refusal) (at : ℕ) → (step_by s done o).reply ≡ Ok at → (done.at ≡ at) × ((step_by s done o).state ≡ done.state)
taken_by s done None at e = (ok_is done.at at (Ok done.at) (Ok at) refl refl e, refl)
taken_by s done (Some r) at e = absurd cc

-- a step that answers a position was taken there
pub step_taken : (d : Defs) (s : TableState) (c : Change) (at : ℕ) → (step d s c).reply ≡ Ok at → ((accepted d s c).at ≡ at) × ((step d s c).state ≡ (accepted d s c).state)
unfolding step
step_taken d s c at e = taken_by s (accepted d s c) (refusal d s c) at e

pub at_same : (a p : ℕ) → is_at (nat_cmp a) p ≡ true → a ≡ p
at_same a p e = grind (arith, nat_tests, e)

pub at_other : (a p : ℕ) → is_at (nat_cmp a) p ≡ false → p ≢ a
at_other a p e same = grind (arith, nat_tests, e, same)

kept_notes : (at : ℕ) (old new : Option (List ℕ)) (rows then : List StoredRow) → MayNote at old new → AreNoted old rows → ((p : ℕ) → p ≢ at → row_at p then ≡ row_at p rows) → is_some (row_at at then) ≡ true → AreNoted new then
kept_notes at old None rows then may noted others there = tt
kept_notes at None (Some qs) rows then may noted others there = absurd may
kept_notes at (Some ps) (Some qs) rows then may noted others there = λ p. by p (is_at (nat_cmp at) p) refl
  where
    by : (p : ℕ) (b : Bool) → is_at (nat_cmp at) p ≡ b → is_among p qs ≡ is_some (row_at p then)
    by p true e = may p ∙ ap (λ (t : Bool). cond t true (is_among p ps)) e ∙ sym there ∙ ap (λ (n : ℕ). is_some (row_at n then)) (at_same at p e)
    by p false e = may p ∙ ap (λ (t : Bool). cond t true (is_among p ps)) e ∙ noted p ∙ ap (λ (o : Option StoredRow). is_some o) (sym (others p (at_other at p e)))

pub has_some : (values : Values) (o : Option StoredRow) → HasValues values o → is_some o ≡ true
has_some values None h = absurd h
has_some values (Some r) h = refl

-- behind a change that puts a row
put_noted : (d : Defs) (s : TableState) (c : Change) (values : Values) (at : ℕ) (old new : Option (List ℕ)) → (step d s c).reply ≡ Ok at → HasValues values (row_at (accepted d s c).at (accepted d s c).state.rows) → MayNote at old new → AreNoted old s.rows → AreNoted new (step d s c).state.rows
put_noted d s c values at old new reply there may noted =
    let t = step_taken d s c at reply in
    let done = accepted d s c in
    subst (λ (q : TableState). AreNoted new q.rows) (sym t.1)
    (kept_notes at old new s.rows done.state.rows may noted
    (λ p ne. others-stay d s c p (λ e. ne (e ∙ t.0)))
    (has_some values (row_at at done.state.rows) (subst (λ (p : ℕ). HasValues values (row_at p done.state.rows)) t.0 there)))

pub insert-notes : (f g : NotedFile) (values : Values) (at : ℕ) (m : Holding) → IsSound f.file.defs → ((s : TableState) → IsFileOf f.file s m → (step f.file.defs s (insert values)).reply ≡ Ok at) → MayNote at f.places g.places → (s : TableState) → IsNotedFileOf f s m → AreNoted g.places (step f.file.defs s (insert values)).state.rows
insert-notes f g values at m sound steps may s k =
    put_noted f.file.defs s (insert values) values at f.places g.places (steps s k.0) (inserted-there f.file.defs s values sound k.0.stands.state) may k.1

pub append-notes : (f g : NotedFile) (values : Values) (at : ℕ) (m : Holding) → IsSound f.file.defs → ((s : TableState) → IsFileOf f.file s m → (step f.file.defs s (insert_at_end values)).reply ≡ Ok at) → MayNote at f.places g.places → (s : TableState) → IsNotedFileOf f s m → AreNoted g.places (step f.file.defs s (insert_at_end values)).state.rows
append-notes f g values at m sound steps may s k =
    put_noted f.file.defs s (insert_at_end values) values at f.places g.places (steps s k.0) (appended-there f.file.defs s values sound k.0.stands.state) may k.1

-- ---- positions that were looked up

same_test : (p at : ℕ) → is_at (nat_cmp p) at ≡ (at == p)
same_test p at = grind (arith, nat_tests)

rows_begin : (d : Defs) (p : ℕ) (rs : List Row) → begins_at p rs ≡ is_some (row_at p (map (stored_row d) rs))
rows_begin d p [] = refl
rows_begin d p (r ∷ rs) = by (r.at == p) (is_at (nat_cmp p) r.at) (same_test p r.at) (rows_begin d p rs)
  where
    by : (b a : Bool) → a ≡ b → begins_at p rs ≡ is_some (row_at p (map (stored_row d) rs)) → (a || begins_at p rs) ≡ is_some (cond b (Some (stored_row d r)) (row_at p (map (stored_row d) rs)))
    by true a e more = rw e refl
    by false a e more = rw e more

-- those of the readable rows are those of the state
pub read-noted : (f : SlotFile) (s : TableState) (m : Holding) (ps : List ℕ) → map (stored_row f.defs) (readable f.defs false (bytes_of f.name m)) ≡ s.rows → AreRead f ps m → AreNoted (Some ps) s.rows
read-noted f s m ps rows read p = read p ∙ rows_begin f.defs p (readable f.defs false (bytes_of f.name m)) ∙ ap (λ (rs : List StoredRow). is_some (row_at p rs)) rows

-- the rows that a new scan has ahead
pub fresh-rows : (name : List ℕ) (d : Defs) (end : ℕ) (m : Holding) → length (bytes_of name m) ≡ end → rows_ahead (fresh_scan name d false end) m ≡ readable d false (bytes_of name m)
unfolding readable
fresh-rows name d end m long =
    let x = bytes_of name m in
    ap rows_of (fresh_ahead name d false end m) ∙ ap (λ (b : List ℕ). rows_of (items_in d false b)) (take_all end x (omega (arith, long)))

pub all-read : (f : SlotFile) (name : List ℕ) (d : Defs) (end : ℕ) (scan : TableScan) (ps : List ℕ) (m : Holding) → name ≡ f.name → d ≡ f.defs → end ≡ f.counts.length → length (bytes_of f.name m) ≡ f.counts.length → scan ≡ fresh_scan name d false end → NotesAll scan ps m → AreRead f ps m
all-read f name d end scan ps m named defs ends long is all =
    let rows : rows_ahead scan m ≡ readable f.defs false (bytes_of f.name m) =
    ap (λ (s : TableScan). rows_ahead s m) is
    ∙ ap (λ (n : List ℕ). rows_ahead (fresh_scan n d false end) m) named ∙ ap (λ (e : Defs). rows_ahead (fresh_scan f.name e false end) m) defs
    ∙ fresh-rows f.name f.defs end m (long ∙ sym ends) in
    λ p. all p ∙ ap (begins_at p) rows

pub starts-known : (f : SlotFile) (name : List ℕ) (d : Defs) (end : ℕ) (scan : TableScan) (m : Holding) → name ≡ f.name → end ≡ f.counts.length → length (bytes_of f.name m) ≡ f.counts.length → scan ≡ fresh_scan name d false end → IsAsKnown scan m
starts-known f name d end scan m named ends long is =
    subst (λ (s : TableScan). IsAsKnown s m) (sym is) (fresh_known name d false end m (λ _. subst (λ (n : List ℕ). end ≤ length (bytes_of n m)) (sym named) (omega (arith, long, ends))))

-- ---- what is answered by what is noted

-- what was looked up, or was noted before, is of the state
pub looked-up : (f : SlotFile) (s : TableState) (m : Holding) (old new : Option (List ℕ)) → map (stored_row f.defs) (readable f.defs false (bytes_of f.name m)) ≡ s.rows → NotesRead f m old new → AreNoted old s.rows → AreNoted new s.rows
looked-up f s m None None rows read noted = tt
looked-up f s m None (Some ps) rows read noted = read-noted f s m ps rows read
looked-up f s m (Some ps) new rows read noted = subst (λ (o : Option (List ℕ)). AreNoted o s.rows) (sym read) noted

pub noted_is : (at : ℕ) (is : Bool) (o : Option (List ℕ)) (rows : List StoredRow) → HasNoted at is o → AreNoted o rows → is_some (row_at at rows) ≡ is
noted_is at is None rows has noted = absurd has
noted_is at is (Some ps) rows has noted = sym (noted at) ∙ has

pub reply-none : (at : ℕ) (places : Option (List ℕ)) (rows : List StoredRow) → HasNoted at false places → AreNoted places rows → IsReply at (row_at at rows) (Err (fault.NoRow at))
reply-none at places rows has noted = by (row_at at rows) (noted_is at false places rows has noted)
  where
    by : (o : Option StoredRow) → is_some o ≡ false → IsReply at o (Err (fault.NoRow at))
    by None e = refl
    by (Some r) e = absurd cc

reply_there : (f : SlotFile) (at : ℕ) (m : Holding) (h : Option Holding) (r : StoredRow) (result : Result Values DataFault) → h ≡ Some m → StandsAt f at m r → IfOk result (λ row. IfTold h (IsRowAt f at row)) → IfErr result (ByCause Never ⊥ (λ (p : ℕ). IfTold h (LacksRow f at))) → IsReply at (Some r) result
reply_there f at m h r (Ok values) held stands told err = told m held r stands
reply_there f at m h r (Err (fault.NoRow p)) held stands told err = absurd err
reply_there f at m h r (Err fault.Full) held stands told err = absurd err
reply_there f at m h r (Err (fault.Damaged p)) held stands told err = absurd (err m held (r, stands))
reply_there f at m h r (Err fault.File) held stands told err = tt
reply_there f at m h r (Err fault.Memory) held stands told err = tt

pub reply-row : (f : SlotFile) (s : TableState) (at : ℕ) (m : Holding) (h : Option Holding) (places : Option (List ℕ)) (result : Result Values DataFault) → f.defs.format ≡ Dynamic → IsFileOf f s m → h ≡ Some m → HasNoted at true places → AreNoted places s.rows → IfOk result (λ row. IfTold h (IsRowAt f at row)) → IfErr result (ByCause Never ⊥ (λ (p : ℕ). IfTold h (LacksRow f at))) → IsReply at (row_at at s.rows) result
reply-row f s at m h places result dynamic k held has noted told err = by (row_at at s.rows) refl (noted_is at true places s.rows has noted)
  where
    by : (o : Option StoredRow) → row_at at s.rows ≡ o → is_some o ≡ true → IsReply at o result
    by None e there = absurd cc
    by (Some r) e there = reply_there f at m h r result held (row-stands f s m at r dynamic k e) told err

pub reply-cut : (at : ℕ) (o : Option StoredRow) (e : DataFault) → CutsOff e → IsReply at o (Err e)
reply-cut at None (fault.NoRow p) cut = absurd cut
reply-cut at (Some r) (fault.NoRow p) cut = absurd cut
reply-cut at None fault.Full cut = absurd cut
reply-cut at (Some r) fault.Full cut = absurd cut
reply-cut at None (fault.Damaged p) cut = absurd cut
reply-cut at (Some r) (fault.Damaged p) cut = absurd cut
reply-cut at None fault.File cut = tt
reply-cut at (Some r) fault.File cut = tt
reply-cut at None fault.Memory cut = tt
reply-cut at (Some r) fault.Memory cut = tt
