-- A round whose runs go side by side: what holds of its parts when they are left, and of the table when it is taken back.
use Rattle.std.proofs.Common.{◌≡◌, ℕ, ◌^◌, ◌<◌, ◌≤◌, List, [], ◌∷◌, length, take, All, Option, None, Result, Err, IfErr, refl, sym, ap, subst, ◌∙◌, arith}
use Rattle.myi_base.specs.Holding.{Holding, Told}
use Rattle.myi_base.specs.Causes.{HasCause}
use Rattle.myi_base.proofs.CallerLemmas.{told_then}
use Rattle.myi_adapters.specs.TwoReaders.{told_by}
use Rattle.myi_defs.specs.declared.types.Defs.{Defs}
use Rattle.myi_keycache.specs.declared.setup.Counters.{Counters}
use Rattle.myi_keyedrows.specs.KeyedRows as rows
use Rattle.myi_pack.specs.Packed.{Values}
use Rattle.myi_table.specs.declared.fault.ChangeFault.{ChangeFault}
use Rattle.myi_table.specs.declared.fault.ChangeFault.TheVariants as change
use Rattle.myi_table.specs.Faults as table
use Rattle.myi_table.specs.Table.{OpenTable, defs_in, HoldsThen, IsKept, IfHolds, StillHolds, IsSame, KeepsOthers, KeepsRows, ChangesItsOwn}
use Rattle.myi_tail.specs.Prefix.{BeginsWith}
use Rattle.myi_tail.specs.Seats.{TailId}
use Rattle.myi_script.specs.declared.types.Line.{Line}
use Rattle.myi_history.specs.Lines.{MayRun}
use Rattle.myi_snapshots.specs.Appended.{with_rows}
use Rattle.myi_readers.specs.declared.file_reader.Reader.{Reader}
use Rattle.myi_readers.specs.declared.reader.TableReader.{TableReader}
use Rattle.myi_inserter.specs.Inserter.{IsInserter}
use Rattle.myi_inserter.specs.declared.inserter.TableInserter.{TableInserter}
use Rattle.myi_share.specs.declared.fault.ShareFault.{ShareFault}
use Rattle.myi_share.specs.declared.fault.ShareFault.TheVariants as share
use Rattle.myi_share.specs.declared.opening.Parts.{Parts}
use Rattle.myi_share.specs.Sharing.{Sharing, sharing_of, IsInserterOf, IsReaderOf, ArePartsBeside}
use Rattle.myi_share.specs.Taking.{counting, AreNotBelow}
use Rattle.myi_rounds.specs.declared.backs.Back.{Back}
use Rattle.myi_rounds.specs.declared.fault.RoundFault.{RoundFault}
use Rattle.myi_rounds.specs.declared.fault.RoundFault.TheVariants.{File, Memory}
use Rattle.myi_rounds.specs.declared.round.AskedReads.{AskedReads}
use Rattle.myi_rounds.specs.declared.round.AskedRound.{AskedRound}
use Rattle.myi_rounds.specs.declared.round.WentReads.{WentReads}
use Rattle.myi_rounds.specs.Faults.{of_share, of_change, CutsOff}
use Rattle.myi_rounds.specs.InsertJob.{rows_put}
use Rattle.myi_rounds.specs.Inserts.{HaveInserted}
use Rattle.myi_rounds.specs.Backs.{MayRead, readers_in, went_in, HaveRun}
use Rattle.myi_rounds.specs.Rounds.{EachOf, InsertsNone, HasRead, HasGone, IsWithin}
use Rattle.myi_rounds.proofs.BackLemmas.{IsJob, KeepsReader, KnowsFirst, all_on, readers_back, within_back, said_back}
use Rattle.myi_rounds.proofs.EachLemmas.{each_at, each_length}
use Rattle.myi_rounds.proofs.InsertJobLemmas.{AreValues}
use Rattle.myi_rounds.proofs.PutLemmas.{have_put, inserter_back, none_put}

-- ---- before the runs

-- the law that a reader of a sharing may be called
abbrev pub KeepsObjects : Type 0
KeepsObjects = (of : Sharing) (told objects : Option Holding) (r : TableReader) → of.table.broken ≡ None → IsKept told of.table → IsReaderOf of told objects r → rows.IsKept objects r.rows

pub may_read : KeepsObjects → {R : Type 0} (shows : R → Option (List ℕ)) (of : Sharing) (told : Option Holding) (d : Defs) (ls : List Line) (r : Reader R) → of.table.broken ≡ None → IsKept told of.table → defs_in of.table ≡ d → MayRun d ls → IsReaderOf of told (told_by shows r.files) r.table → MayRead shows ls r
may_read law shows of told d ls r whole kept same lines is = record {
  ready = is.ready;
  kept = law of told (told_by shows r.files) r.table whole kept is;
  lines = subst (λ (e : Defs). MayRun e ls) (sym (is.defs ∙ same)) lines;
}

-- ---- behind them

each_job : KeepsReader → {R : Type 0} (shows : R → Option (List ℕ)) (faults : R → ℕ) (t : OpenTable) (told : Option Holding) (asked : AskedRound) (p : Parts R) (b : Back R) → ArePartsBeside shows t told p.inserter p.readers.items [] → length p.readers.items ≡ length asked.reads.now → (ran : HaveRun shows faults asked p b)
    → EachOf (IsJob shows (sharing_of t p.inserter.table) told asked.lines.now) asked.reads.now ran.jobs
each_job law shows faults t told asked p b parts count ran = all_on law shows faults (sharing_of t p.inserter.table) told asked.lines.now asked.reads.now p.readers.items ran.jobs count parts.readers ran.ran

same_sharing : (t : OpenTable) (i j : TableInserter) → j.appender.tail ≡ i.appender.tail → j.number ≡ i.number → sharing_of t i ≡ sharing_of t j
same_sharing t i j tail number =
    ap (λ (x : TailId). record { table = t; tail = x; number = i.number }) (sym tail) ∙ ap (λ (n : ℕ). record { table = t; tail = j.appender.tail; number = n }) (sym number)

pub parts_back : KeepsReader → AreValues → {R : Type 0} (shows : R → Option (List ℕ)) (faults : R → ℕ) (t : OpenTable) (told : Option Holding) (asked : AskedRound) (p : Parts R) (b : Back R) → ArePartsBeside shows t told p.inserter p.readers.items [] → length p.readers.items ≡ length asked.reads.now → HaveRun shows faults asked p b
    → ArePartsBeside shows t told b.inserter b.readers.items (rows_put b.inserter.table)
parts_back law values shows faults t told asked p b parts count ran =
    let of = sharing_of t p.inserter.table in
    let same : sharing_of t p.inserter.table ≡ sharing_of t b.inserter.table = same_sharing t p.inserter.table b.inserter.table ran.inserts.tail ran.inserts.number in
    let put = inserter_back values shows of told p.inserter b.inserter asked.lines.now asked.inserts.now b.inserted b.replies.items parts.inserter ran.inserts ran.ready in
    let each = each_job law shows faults t told asked p b parts count ran in
    let all = readers_back shows of told asked.lines.now asked.reads.now ran.jobs each in
    record {
      whole = parts.whole;
      kept = parts.kept;
      inserter = subst (λ (o : Sharing). IsInserterOf o told (told_by shows b.inserter.files) b.inserter.table (rows_put b.inserter.table)) same put;
      readers = subst (λ (l : List (Reader _)). All (λ r. IsReaderOf (sharing_of t b.inserter.table) told (told_by shows r.files) r.table) l) (sym ran.readers)
          (subst (λ (o : Sharing). All (λ r. IsReaderOf o told (told_by shows r.files) r.table) (readers_in ran.jobs)) same all);
    }

-- ---- the table with the rows

pub all_gone : KeepsReader → KnowsFirst → AreValues → {R : Type 0} (shows : R → Option (List ℕ)) (faults : R → ℕ) (old t new : OpenTable) (told mid next : Option Holding) (asked : AskedRound) (p : Parts R) (b : Back R) (made : ℕ) → StillHolds told mid old t → defs_in t ≡ defs_in old
    → ArePartsBeside shows t mid p.inserter p.readers.items [] → length p.readers.items ≡ length asked.reads.now → p.inserter.table.number ≡ asked.number → HaveRun shows faults asked p b → b.inserter.table.end < 2 ^ 64
    → IfHolds mid t (λ m s. (rows : List Values) → IsInserter b.inserter.table rows → HoldsThen next new (with_rows (defs_in t) s rows)) → ((rows : List Values) → IsInserter b.inserter.table rows → made ≡ length rows)
    → All (λ (r : Reader R). BeginsWith b.inserter.table.appender.words r.table.seat.known) b.readers.items
    → IfHolds told old (λ m s. HasGone (defs_in old) s next new asked (record { inserted = b.inserted; replies = b.replies; made = made; reads = b.reads }))
all_gone law first values shows faults old t new told mid next asked p b made still same parts count number ran small folded counted known = λ m held s hold.
    let of = sharing_of t p.inserter.table in
    let i = b.inserter.table in
    let put = rows_put b.inserter.table in
    let ls = asked.lines.now in
    let h = still m held s hold in
    let back = inserter_back values shows of mid p.inserter b.inserter ls asked.inserts.now b.inserted b.replies.items parts.inserter ran.inserts ran.ready in
    let at = back.stands h.0 h.1 s h.2 in
    let have = have_put values shows of mid p.inserter b.inserter ls asked.inserts.now b.inserted b.replies.items parts.inserter ran.inserts h.0 h.1 s h.2 in
    let each = each_job law shows faults t mid asked p b parts count ran in
    let knows = subst (λ (l : List (Reader _)). All (λ r. BeginsWith i.appender.words r.table.seat.known) l) ran.readers known in
    let said = said_back first shows of mid ls i put h.0 s at.2 at.0 asked.reads.now ran.jobs h.1 h.2 ran.ready back.defs at.3 small each ran.within knows in
    record {
      rows = put;
      made = counted put ran.ready;
      within = ran.some;
      inserted = subst (λ (d : Defs). HaveInserted d ls s (take b.inserted asked.inserts.now) put b.replies.items) same have;
      reads = subst (λ (l : List WentReads). EachOf (HasRead (defs_in old) ls s asked.number put) asked.reads.now l) (sym ran.reads)
          (subst (λ (k : ℕ). EachOf (HasRead (defs_in old) ls s k put) asked.reads.now (went_in ran.jobs)) number
          (subst (λ (d : Defs). EachOf (HasRead d ls s of.number put) asked.reads.now (went_in ran.jobs)) same said));
      now = subst (λ (d : Defs). HoldsThen next new (with_rows d s put)) same (folded h.0 h.1 s h.2 put ran.ready);
    }

pub all_within : KeepsReader → {R : Type 0} (shows : R → Option (List ℕ)) (faults : R → ℕ) (t : OpenTable) (told : Option Holding) (asked : AskedRound) (p : Parts R) (b : Back R) (made : ℕ) → ArePartsBeside shows t told p.inserter p.readers.items [] → length p.readers.items ≡ length asked.reads.now → HaveRun shows faults asked p b
    → IsWithin asked (record { inserted = b.inserted; replies = b.replies; made = made; reads = b.reads })
all_within law shows faults t told asked p b made parts count ran =
    let P = λ (a : AskedReads) (w : WentReads). w.done ≤ length a.steps.now in
    let each = each_job law shows faults t told asked p b parts count ran in
    let all = subst (λ (l : List WentReads). EachOf P asked.reads.now l) (sym ran.reads) (within_back shows (sharing_of t p.inserter.table) told asked.lines.now asked.reads.now ran.jobs each ran.within) in
    record { inserts = ran.some; each = each_length P asked.reads.now b.reads.items all; reads = λ k a w lt. each_at P asked.reads.now b.reads.items k a w all lt }

-- ---- what is not touched

pub rows_then : (told mid next : Option Holding) (old t : OpenTable) → t.name ≡ old.name → Told told mid (KeepsRows old.name) → Told mid next (KeepsRows t.name) → Told told next (KeepsRows old.name)
rows_then told mid next old t same one two =
    told_then told mid next (KeepsRows old.name) (KeepsRows old.name) (KeepsRows old.name) one (subst (λ (n : List ℕ). Told mid next (KeepsRows n)) same two) (λ m n k p q. q ∙ p)

pub others_then : (told mid next : Option Holding) (old t : OpenTable) → t.name ≡ old.name → ChangesItsOwn told mid old → ChangesItsOwn mid next t → ChangesItsOwn told next old
others_then told mid next old t same one two =
    told_then told mid next (KeepsOthers old.name) (KeepsOthers old.name) (KeepsOthers old.name) one (subst (λ (n : List ℕ). Told mid next (KeepsOthers n)) same two) (λ m n k p q name here there. q name here there ∙ p name here there)

-- no row was put where no line inserts
pub idle_rows : AreValues → {R : Type 0} (shows : R → Option (List ℕ)) (faults : R → ℕ) (old t : OpenTable) (told mid next : Option Holding) (asked : AskedRound) (p : Parts R) (b : Back R) → old.broken ≡ None → IsKept told old → StillHolds told mid old t → t.name ≡ old.name
    → ArePartsBeside shows t mid p.inserter p.readers.items [] → HaveRun shows faults asked p b → Told told mid (KeepsRows old.name) → (IsInserter b.inserter.table [] → Told mid next (KeepsRows t.name)) → ChangesItsOwn told mid old → ChangesItsOwn mid next t
    → InsertsNone asked.lines.now → Told told next (KeepsRows old.name)
idle_rows values shows faults old t told mid next asked p b whole kept still name parts ran first then_rows others then_others none = record {
  told = λ m held.
      let s = kept whole m held in
      let h = still m held s.0 s.1 in
      let have = have_put values shows (sharing_of t p.inserter.table) mid p.inserter b.inserter asked.lines.now asked.inserts.now b.inserted b.replies.items parts.inserter ran.inserts h.0 h.1 s.0 h.2 in
      let empty : rows_put b.inserter.table ≡ [] = none_put (defs_in t) asked.lines.now s.0 (take b.inserted asked.inserts.now) (rows_put b.inserter.table) b.replies.items none have in
      let put = subst (λ (l : List Values). IsInserter b.inserter.table l) empty ran.ready in
      (rows_then told mid next old t name first (then_rows put)).told m held;
  untold = λ gone. then_others.untold (others.untold gone);
}

-- no row was put where none is counted
pub none_made : {R : Type 0} (b : Back R) (made : ℕ) → IsInserter b.inserter.table (rows_put b.inserter.table) → ((rows : List Values) → IsInserter b.inserter.table rows → made ≡ length rows) → made ≡ 0 → IsInserter b.inserter.table []
none_made b made ready counted none = empty (rows_put b.inserter.table) ready
  where
    empty : (l : List Values) → IsInserter b.inserter.table l → IsInserter b.inserter.table []
    empty [] put = put
    empty (x ∷ l) put = absurd (let e = counted (x ∷ l) put in omega (arith, e, none))

-- ---- what stays of a table

pub same_then : (old t new : OpenTable) → IsSame old t → IsSame (counting t new.added) new → IsSame (counting old new.added) new
same_then old t new one two = record { name = two.name ∙ one.name; setup = two.setup ∙ one.setup; header = two.header ∙ one.header; lost = two.lost ∙ one.lost; defs = two.defs ∙ one.defs; added = refl }

pub same_one : (old t : OpenTable) → IsSame old t → IsSame (counting old t.added) t
same_one old t one = record { name = one.name; setup = one.setup; header = one.header; lost = one.lost; defs = one.defs; added = refl }

pub below_then : (a b c : Counters) → AreNotBelow a b → AreNotBelow b c → AreNotBelow a c
below_then a b c h k =
    let r1 = h.read_requests in let r2 = k.read_requests in
    let s1 = h.reads in let s2 = k.reads in
    let t1 = h.write_requests in let t2 = k.write_requests in
    let u1 = h.writes in let u2 = k.writes in
    record { read_requests = omega (arith, r1, r2); reads = omega (arith, s1, s2); write_requests = omega (arith, t1, t2); writes = omega (arith, u1, u2) }

pub below_self : (a : Counters) → AreNotBelow a a
below_self a = record { read_requests = omega arith; reads = omega arith; write_requests = omega arith; writes = omega arith }

-- ---- why it is refused

pub refused_by : {T : Type 0} (r : Result T RoundFault) (f g : RoundFault) (P : RoundFault → Type 0) → r ≡ Err f → f ≡ g → P g → IfErr r P
refused_by r f g P e same h = rw e (subst P (sym same) h)

pub no_cause : {T : Type 0} (r : Result T RoundFault) (f : RoundFault) (before now : ℕ) → r ≡ Err f → f ≡ Memory → before ≤ now → HasCause File before now r
no_cause {T = T} r f before now e same later = record { later = later; cause = λ is. absurd (let bad : ◌≡◌ {A = Result T RoundFault} (Err Memory) (Err File) = ap Err (sym same) ∙ sym e ∙ is in cc) }

share_file : (x : ShareFault) → of_share x ≡ File → x ≡ share.File
share_file share.File e = refl
share_file share.Memory e = absurd cc

change_file : (x : ChangeFault) → of_change x ≡ File → x ≡ change.File
change_file (change.Broken by) e = absurd cc
change_file (change.NoRow at) e = absurd cc
change_file (change.Duplicate key at) e = absurd cc
change_file change.Full e = absurd cc
change_file (change.Damaged at) e = absurd cc
change_file change.File e = refl
change_file change.Memory e = absurd cc

pub share_cause : {T U : Type 0} (r : Result T RoundFault) (f : RoundFault) (x : ShareFault) (before now : ℕ) → r ≡ Err f → f ≡ of_share x → HasCause {T = U} share.File before now (Err x) → HasCause File before now r
share_cause {T = T} {U = U} r f x before now e same h = record {
  later = h.later;
  cause = λ is. h.cause (let failed : ◌≡◌ {A = Result T RoundFault} (Err (of_share x)) (Err File) = ap Err (sym same) ∙ sym e ∙ is in let it : of_share x ≡ File = cc in ap Err (share_file x it));
}

pub change_cause : {T U : Type 0} (r : Result T RoundFault) (f : RoundFault) (x : ChangeFault) (before mid now : ℕ) → before ≤ mid → r ≡ Err f → f ≡ of_change x → HasCause {T = U} change.File mid now (Err x) → HasCause File before now r
change_cause {T = T} {U = U} r f x before mid now le e same h = record {
  later = omega (arith, le, h.later);
  cause = λ is. let rose = h.cause (let failed : ◌≡◌ {A = Result T RoundFault} (Err (of_change x)) (Err File) = ap Err (sym same) ∙ sym e ∙ is in let it : of_change x ≡ File = cc in ap Err (change_file x it)) in omega (arith, le, rose);
}

pub share_cuts : (x : ShareFault) → CutsOff (of_share x)
share_cuts share.File = tt
share_cuts share.Memory = tt

change_cuts : (x : ChangeFault) → table.CutsOff x → CutsOff (of_change x)
change_cuts (change.Broken by) cut = tt
change_cuts (change.NoRow at) cut = absurd cut
change_cuts (change.Duplicate key at) cut = absurd cut
change_cuts change.Full cut = tt
change_cuts (change.Damaged at) cut = absurd cut
change_cuts change.File cut = tt
change_cuts change.Memory cut = tt

pub cut_then : (told mid : Option Holding) (old t : OpenTable) (x : ChangeFault) → StillHolds told mid old t → IfHolds mid t (λ m s. table.CutsOff x) → IfHolds told old (λ m s. CutsOff (of_change x))
cut_then told mid old t x still cut = λ m held s hold. let h = still m held s hold in change_cuts x (cut h.0 h.1 s h.2)
