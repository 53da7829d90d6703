-- The inserter of a round, as it is left.
use Rattle.std.proofs.Common.{◌≡◌, ℕ, ◌≤◌, length, List, [], ◌∷◌, ◌++◌, map, take, Option, Some, None, refl, sym, ap, subst, ◌∙◌}
use Rattle.std.specs.Prelude.{IfSome, option_map}
use Rattle.myi_base.specs.Holding.{Holding}
use Rattle.myi_adapters.specs.TwoReaders.{told_by}
use Rattle.myi_defs.specs.declared.types.Defs.{Defs}
use Rattle.myi_pack.specs.Packed.{Values}
use Rattle.myi_state.specs.State.{TableState}
use Rattle.myi_state.specs.Changes.{Change, insert_at_end}
use Rattle.myi_table.specs.Table.{defs_in, IfHolds}
use Rattle.myi_locks.specs.declared.steps.Step.{Step}
use Rattle.myi_script.specs.declared.types.Act.{Act}
use Rattle.myi_script.specs.declared.types.Line.{Line}
use Rattle.myi_history.specs.History.{accepted_of, stepped_by, changes}
use Rattle.myi_history.specs.Lines.{act_of}
use Rattle.myi_inserter.specs.declared.file_inserter.Inserter.{Inserter}
use Rattle.myi_inserter.specs.Inserter.{IsInserter}
use Rattle.myi_share.specs.Sharing.{Sharing, IsInserterOf}
use Rattle.myi_rounds.specs.declared.inserting.Replied.{Replied}
use Rattle.myi_rounds.specs.Inserts.{inserted_row, asked_by, HaveInserted}
use Rattle.myi_rounds.specs.InsertJob.{Inserts, job_of, rows_put, GoesOn}
use Rattle.myi_rounds.specs.Rounds.{InsertsNone}
use Rattle.myi_rounds.proofs.StatementLemmas.{act_meets}
use Rattle.myi_rounds.proofs.InsertLemmas.{none_inserted}
use Rattle.myi_rounds.proofs.InsertJobLemmas.{AreValues}

-- what the steps did that are done
pub have_put : AreValues → {R : Type 0} (shows : R → Option (List ℕ)) (of : Sharing) (told : Option Holding) (i j : Inserter R) (ls : List Line) (steps : List Step) (done : ℕ) (replies : List Replied) → IsInserterOf of told (told_by shows i.files) i.table [] → GoesOn shows (job_of i ls steps 0 []) (job_of j ls steps done replies)
    → IfHolds told of.table (λ m s. HaveInserted (defs_in of.table) ls s (take done steps) (rows_put j.table) replies)
have_put law shows of told i j ls steps done replies is on = λ m held s hold.
    let h = is.stands m held s hold in
    let begin : HaveInserted i.table.defs ls s [] (rows_put i.table) [] = subst (λ (l : List Values). HaveInserted i.table.defs ls s [] l []) (sym (law i.table [] is.ready)) (none_inserted i.table.defs ls s) in
    subst (λ (d : Defs). HaveInserted d ls s (take done steps) (rows_put j.table) replies) (on.defs ∙ is.defs) (on.inserted h.0 h.1 h.2 s h.3 begin)

-- it is an inserter of the sharing, with the rows that were put
pub inserter_back : AreValues → {R : Type 0} (shows : R → Option (List ℕ)) (of : Sharing) (told : Option Holding) (i j : Inserter R) (ls : List Line) (steps : List Step) (done : ℕ) (replies : List Replied) → IsInserterOf of told (told_by shows i.files) i.table []
    → GoesOn shows (job_of i ls steps 0 []) (job_of j ls steps done replies) → IsInserter j.table (rows_put j.table) → IsInserterOf of told (told_by shows j.files) j.table (rows_put j.table)
inserter_back law shows of told i j ls steps done replies is on ready = record {
  ready = ready;
  defs = on.defs ∙ is.defs;
  tail = on.tail ∙ is.tail;
  number = on.number ∙ is.number;
  stands = λ m held s hold.
      let h = is.stands m held s hold in
      (h.0, on.holds ∙ h.1, h.2, on.still h.0 h.1 h.2 s h.3);
  can = λ m held s hold. (have_put law shows of told i j ls steps done replies is on m held s hold).can;
  untold = λ none. on.holds ∙ is.untold none;
}

-- ---- where no line inserts

none_of : (o : Option Act) → IfSome o (λ a. inserted_row (Some a) ≡ None) → option_map insert_at_end (inserted_row o) ≡ None
none_of None none = refl
none_of (Some a) none = ap (option_map insert_at_end) none

asks_none : (ls : List Line) (x : Step) → InsertsNone ls → asked_by ls x ≡ None
asks_none ls x none = none_of (act_of ls x.line) (act_meets (λ a. inserted_row (Some a) ≡ None) ls x.line none)

no_changes : (d : Defs) (ls : List Line) (s : TableState) (steps : List Step) → InsertsNone ls → changes d (asked_by ls) s steps ≡ []
no_changes d ls s [] none = refl
no_changes d ls s (x ∷ xs) none =
    subst (λ (c : Option Change). accepted_of d s c ++ changes d (asked_by ls) (stepped_by d s c) xs ≡ []) (sym (asks_none ls x none)) (no_changes d ls s xs none)

no_rows : (rows : List Values) → map insert_at_end rows ≡ [] → rows ≡ []
no_rows [] none = refl
no_rows (row ∷ rows) none = absurd cc

pub none_put : (d : Defs) (ls : List Line) (s : TableState) (steps : List Step) (rows : List Values) (replies : List Replied) → InsertsNone ls → HaveInserted d ls s steps rows replies → rows ≡ []
none_put d ls s steps rows replies none have = no_rows rows (sym have.put ∙ no_changes d ls s steps none)

-- ---- its job, as it is made and as it is taken apart

pub inserts_back : {R : Type 0} (shows : R → Option (List ℕ)) (i j : Inserter R) (ls : List Line) (steps : List Step) (one two : Inserts R) (n : ℕ) (replies : List Replied) → one ≡ job_of i ls steps 0 [] → GoesOn shows one two → job_of j two.lines two.steps two.done replies ≡ two → n ≡ two.done
    → GoesOn shows (job_of i ls steps 0 []) (job_of j ls steps n replies)
inserts_back shows i j ls steps one two n replies first on last same =
    let lines : two.lines ≡ ls = on.lines ∙ ap (λ (k : Inserts _). k.lines) first in
    let asks : two.steps ≡ steps = on.steps ∙ ap (λ (k : Inserts _). k.steps) first in
    let there : two ≡ job_of j ls steps n replies =
    sym last ∙ ap (λ (l : List Line). job_of j l two.steps two.done replies) lines ∙ ap (λ (l : List Step). job_of j ls l two.done replies) asks ∙ ap (λ (k : ℕ). job_of j ls steps k replies) (sym same) in
    subst (λ (k : Inserts _). GoesOn shows k (job_of j ls steps n replies)) first (subst (λ (k : Inserts _). GoesOn shows one k) there on)

pub some_back : {R : Type 0} (shows : R → Option (List ℕ)) (i : Inserter R) (ls : List Line) (steps : List Step) (one two : Inserts R) (n : ℕ) → one ≡ job_of i ls steps 0 [] → GoesOn shows one two → n ≤ length two.steps → n ≤ length steps
some_back shows i ls steps one two n first on within = subst (λ (l : List Step). n ≤ length l) (on.steps ∙ ap (λ (k : Inserts _). k.steps) first) within

pub ready_back : {R : Type 0} (j : Inserter R) (two : Inserts R) (replies : List Replied) → job_of j two.lines two.steps two.done replies ≡ two → IsInserter j.table two.rows → IsInserter j.table (rows_put j.table)
ready_back j two replies last ready = subst (λ (l : List Values). IsInserter j.table l) (sym (ap (λ (k : Inserts _). k.rows) last)) ready
