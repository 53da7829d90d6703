-- Files that are none of the tables of a run.
use Rattle.std.proofs.Common.{◌≡◌, ◌≢◌, ℕ, Bool, true, false, List, [], ◌∷◌, Option, Some, None, Result, Ok, Err, refl, ap, ◌∙◌, inl, inr}
use Rattle.std.specs.Prelude.{◌||◌, if◌then◌else◌}
use Rattle.std.specs.Str.{bytes_eq}
use Rattle.std.proofs.lemmas.Bool.{false_from_ne_true}
use Rattle.std.proofs.lemmas.Slice.Eq.{bytes_eq-Decides}
use Rattle.myi_base.specs.Holding.{Holding, Told}
use Rattle.myi_pair.specs.RecoveredBytes.{new_data, new_index}
use Rattle.myi_defs.specs.declared.types.Defs.{Defs}
use Rattle.myi_defs.specs.EmptyTable.{empty_header}
use Rattle.myi_create.specs.declared.fault.CreateFault.{CreateFault}
use Rattle.myi_create.specs.Names as making
use Rattle.myi_create.specs.Creating.{definitions_in}
use Rattle.myi_repair.specs.declared.fault.RepairFault.{RepairFault}
use Rattle.myi_repair.specs.Names.{FourNames, names_for}
use Rattle.myi_repair.specs.Opening.{Table, table_in}
use Rattle.myisamkit.specs.declared.options.Mode.{Mode}
use Rattle.myisamkit.specs.declared.options.Mode.TheVariants.{Check, Recover, Describe, Analyze, Sort, SortIndex}
use Rattle.myisamkit.specs.declared.options.Options.{Options}
use Rattle.myisamkit.specs.declared.status.Status.{Status}
use Rattle.myisamkit.specs.declared.status.Status.TheVariants as status
use Rattle.myisamkit.specs.Words.{Request, usage, chk, create, dump, make, shell}
use Rattle.myi_opening.specs.Opening as opening
use Rattle.myi_opening.specs.Names.{index_file}
use Rattle.myi_repair.specs.Names.{new_index_file}
use Rattle.myi_order.specs.declared.fault.OrderFault.{OrderFault}
use Rattle.myi_order.specs.Analyzing as analyzing
use Rattle.myi_order.specs.Sorting as sorting
use Rattle.myi_sortindex.specs.declared.fault.SortFault.{SortFault}
use Rattle.myi_sortindex.specs.Refusals as index_sorting
use Rattle.myi_sortindex.specs.Sorting.{sorted_index}
use Rattle.myisamkit.specs.Turns.{replaced, with_index, analyzed_turn, sorted_turn, pages_turn, without_extend, goes_on, RepairDone, CheckDoneBy, CheckCutOff, CutsTurnOff, CutsTurnOffBy, TurnDone, TurnDoneBy, FailsInTurn, FailsInTurnBy, turn}
use Rattle.myisamkit.specs.Creates.{made, made_turn, CreateLeaves}
use Rattle.myi_make.specs.MadeTable.{defs, damaged_file}
use Rattle.myisamkit.specs.Makes.{MakeDone, MakeLeaves}
use Rattle.myi_merge.specs.Changing.{IsFileOfOne}
use Rattle.myisamkit.specs.Shells.{tables_in, ShellLeaves, ShellCutOff}
use Rattle.myisamkit.specs.Statuses.{worse}
use Rattle.myisamkit.specs.Runs.{TablesRun, CutsTablesOff, FailsInTables, TablesLeave, Leaves, IsApart, IsNoFileOf, KeepsOthers}

pub other_name : (q name : List ℕ) → q ≢ name → bytes_eq q name ≡ false
other_name q name apart = false_from_ne_true _ (λ same. apart ((bytes_eq-Decides q name).0 same))

replaced_keeps : (t : FourNames) (d x : List ℕ) (m : Holding) (q : List ℕ) → IsApart q t → replaced t d x m q ≡ m q
replaced_keeps t d x m q apart = by_names (bytes_eq q t.rows) (bytes_eq q t.index) (bytes_eq q t.new_rows) (bytes_eq q t.new_index) (other_name q t.rows apart.rows) (other_name q t.index apart.index) (other_name q t.new_rows apart.new_rows) (other_name q t.new_index apart.new_index)
  where
    by_names : (a b c e : Bool) → a ≡ false → b ≡ false → c ≡ false → e ≡ false → (if a then Some d else (if b then Some x else (if c || e then None else m q))) ≡ m q
    by_names true b c e rows index work trees = absurd cc
    by_names false true c e rows index work trees = absurd cc
    by_names false false true e rows index work trees = absurd cc
    by_names false false false true rows index work trees = absurd cc
    by_names false false false false rows index work trees = refl

repair_keeps : (o : Options) (now : ℕ) (name : List ℕ) (m n : Holding) (q : List ℕ) → IsApart q (names_for name) → RepairDone o now name m n → n q ≡ m q
repair_keeps o now name m n q apart done = by_table (table_in (names_for name) m) refl
  where
    by_table : (t : Result Table RepairFault) → table_in (names_for name) m ≡ t → n q ≡ m q
    by_table (Err f) is = ap (λ (h : Holding). h q) (done.refused f is)
    by_table (Ok t) is = let r = done.repaired t.0 t.1 is in ap (λ (h : Holding). h q) r.files ∙ replaced_keeps (names_for name) (new_data t.0 o.extend t.1) r.index m q apart

indexed_keeps : (name x : List ℕ) (m : Holding) (q : List ℕ) → IsApart q (names_for name) → with_index name x m q ≡ m q
indexed_keeps name x m q apart = by_names (bytes_eq q (index_file name)) (bytes_eq q (new_index_file name)) (other_name q (index_file name) apart.index) (other_name q (new_index_file name) apart.new_index)
  where
    by_names : (a b : Bool) → a ≡ false → b ≡ false → (if a then Some x else (if b then None else m q)) ≡ m q
    by_names true b index trees = absurd cc
    by_names false true index trees = absurd cc
    by_names false false index trees = refl

analyzed_keeps : (o : Options) (name : List ℕ) (t : Result opening.Table OrderFault) (m : Holding) (q : List ℕ) → IsApart q (names_for name) → (analyzed_turn o name t m).files q ≡ m q
analyzed_keeps o name (Err f) m q apart = refl
analyzed_keeps o name (Ok t) m q apart = indexed_keeps name (analyzing.analyzed_index t) m q apart

sorted_keeps : (o : Options) (now key : ℕ) (name : List ℕ) (t : Result opening.Table OrderFault) (m : Holding) (q : List ℕ) → IsApart q (names_for name) → (sorted_turn o now key name t m).files q ≡ m q
sorted_keeps o now key name (Err f) m q apart = refl
sorted_keeps o now key name (Ok t) m q apart = replaced_keeps (names_for name) (sorting.sorted_data t key) (sorting.sorted_index t key now) m q apart

pages_keep : (o : Options) (name : List ℕ) (t : Result opening.Table SortFault) (m : Holding) (q : List ℕ) → IsApart q (names_for name) → (pages_turn o name t m).files q ≡ m q
pages_keep o name (Err f) m q apart = refl
pages_keep o name (Ok t) m q apart = indexed_keeps name (sorted_index t.defs t.index) m q apart

turn_keeps : (o : Options) (now : ℕ) (name : List ℕ) (m n : Holding) (q : List ℕ) → IsApart q (names_for name) → TurnDone o now name m n → n q ≡ m q
unfolding TurnDone
turn_keeps o now name m n q apart done = by_mode o.mode done
  where
    by_check : (b : Bool) → CheckDoneBy b o now name m n → n q ≡ m q
    by_check false same = ap (λ (h : Holding). h q) same
    by_check true done = repair_keeps (without_extend o) now name m n q apart done

    by_mode : (mode : Mode) → TurnDoneBy mode o now name m n → n q ≡ m q
    by_mode (Recover trees) done = repair_keeps o now name m n q apart done
    by_mode Check done = by_check (goes_on o name m) done
    by_mode Describe same = ap (λ (h : Holding). h q) same
    by_mode Analyze done = ap (λ (h : Holding). h q) done.files ∙ analyzed_keeps o name (analyzing.table_in name m) m q apart
    by_mode (Sort key) done = ap (λ (h : Holding). h q) done.files ∙ sorted_keeps o now key name (sorting.table_in name key m) m q apart
    by_mode SortIndex done = ap (λ (h : Holding). h q) done.files ∙ pages_keep o name (index_sorting.table_in name m) m q apart

cut_keeps : (o : Options) (now told before after : ℕ) (name : List ℕ) (m n : Holding) (q : List ℕ) → IsApart q (names_for name) → CutsTurnOff o now told before after name m n → n q ≡ m q
unfolding CutsTurnOff
cut_keeps o now told before after name m n q apart cut = by_mode o.mode cut
  where
    by_check : (b : Bool) → CheckCutOff b o now told before after name m n → n q ≡ m q
    by_check false same = ap (λ (h : Holding). h q) same
    by_check true cut = cut.others q apart.rows apart.index apart.new_rows apart.new_index

    by_mode : (mode : Mode) → CutsTurnOffBy mode o now told before after name m n → n q ≡ m q
    by_mode (Recover trees) cut = cut.others q apart.rows apart.index apart.new_rows apart.new_index
    by_mode Check cut = by_check (goes_on o name m) cut
    by_mode Describe cut = ap (λ (h : Holding). h q) cut
    by_mode Analyze (inl none) = none.others q apart.index apart.new_index
    by_mode Analyze (inr done) = ap (λ (h : Holding). h q) done.1.files ∙ analyzed_keeps o name (analyzing.table_in name m) m q apart
    by_mode (Sort key) cut = cut.others q apart.rows apart.index apart.new_rows apart.new_index
    by_mode SortIndex (inl none) = none.others q apart.index apart.new_index
    by_mode SortIndex (inr done) = ap (λ (h : Holding). h q) done.1.files ∙ pages_keep o name (index_sorting.table_in name m) m q apart

fail_keeps : (o : Options) (now : ℕ) (name : List ℕ) (m n : Holding) (q : List ℕ) → IsApart q (names_for name) → FailsInTurn o now name m n → n q ≡ m q
unfolding FailsInTurn
fail_keeps o now name m n q apart fails = by_mode o.mode fails
  where
    by_done : TurnDone o now name m n → n q ≡ m q
    by_done done = turn_keeps o now name m n q apart done

    by_mode : (mode : Mode) → FailsInTurnBy mode o now name m n → n q ≡ m q
    by_mode (Recover trees) done = by_done done
    by_mode Check (inl same) = ap (λ (h : Holding). h q) same
    by_mode Check (inr done) = by_done done
    by_mode Describe same = ap (λ (h : Holding). h q) same
    by_mode Analyze done = by_done done
    by_mode (Sort key) done = by_done done
    by_mode SortIndex done = by_done done

done_keeps : (s : Status) (o : Options) (now : ℕ) (names : List (List ℕ)) (m : Holding) (text : List ℕ) (t : Status) (n : Holding) (q : List ℕ) → IsNoFileOf q names → TablesRun s o now names m text t n → n q ≡ m q
done_keeps s o now [] m text t n q apart done = ap (λ (h : Holding). h q) done.2
done_keeps s o now (name ∷ names) m text t n q apart done = done_keeps (worse s (turn o now name m).status) o now names done.0 done.1 t n q apart.1 done.4 ∙ turn_keeps o now name m done.0 q apart.0 done.2

off_keeps : (o : Options) (now told before after : ℕ) (names : List (List ℕ)) (m n : Holding) (q : List ℕ) → IsNoFileOf q names → CutsTablesOff o now told before after names m n → n q ≡ m q
off_keeps o now told before after [] m n q apart off = absurd off
off_keeps o now told before after (name ∷ names) m n q apart (inl cut) = cut_keeps o now told before after name m n q apart.0 cut
off_keeps o now told before after (name ∷ names) m n q apart (inr off) = off_keeps o now told before after names off.0 n q apart.1 off.2 ∙ turn_keeps o now name m off.0 q apart.0 off.1

fails_keeps : (o : Options) (now : ℕ) (names : List (List ℕ)) (m n : Holding) (q : List ℕ) → IsNoFileOf q names → FailsInTables o now names m n → n q ≡ m q
fails_keeps o now [] m n q apart fails = absurd fails
fails_keeps o now (name ∷ names) m n q apart (inl fails) = fail_keeps o now name m n q apart.0 fails
fails_keeps o now (name ∷ names) m n q apart (inr fails) = fails_keeps o now names fails.0 n q apart.1 fails.2 ∙ turn_keeps o now name m fails.0 q apart.0 fails.1

tables_keep : (o : Options) (now before after : ℕ) (names : List (List ℕ)) (s : Status) (m n : Holding) (q : List ℕ) → IsNoFileOf q names → TablesLeave o now before after names s m n → n q ≡ m q
tables_keep o now before after names status.FileFault m n q apart leaves = off_keeps o now 1 before after names m n q apart leaves
tables_keep o now before after names status.Memory m n q apart leaves = off_keeps o now 0 before after names m n q apart leaves
tables_keep o now before after names status.SinkFault m n q apart leaves = fails_keeps o now names m n q apart leaves
tables_keep o now before after names status.Ok m n q apart leaves = done_keeps status.Ok o now names m leaves.0 status.Ok n q apart leaves.1
tables_keep o now before after names status.Findings m n q apart leaves = done_keeps status.Ok o now names m leaves.0 status.Findings n q apart leaves.1
tables_keep o now before after names status.Usage m n q apart leaves = done_keeps status.Ok o now names m leaves.0 status.Usage n q apart leaves.1
tables_keep o now before after names status.Refused m n q apart leaves = done_keeps status.Ok o now names m leaves.0 status.Refused n q apart leaves.1
tables_keep o now before after names status.Absent m n q apart leaves = done_keeps status.Ok o now names m leaves.0 status.Absent n q apart leaves.1

made_keeps : (name header : List ℕ) (m : Holding) (q : List ℕ) → IsApart q (names_for name) → made (making.names_for name) header m q ≡ m q
made_keeps name header m q apart = by_names (bytes_eq q (names_for name).rows) (bytes_eq q (names_for name).index) (bytes_eq q (names_for name).new_index) (other_name q (names_for name).rows apart.rows) (other_name q (names_for name).index apart.index) (other_name q (names_for name).new_index apart.new_index)
  where
    by_names : (a b c : Bool) → a ≡ false → b ≡ false → c ≡ false → (if a then Some [] else (if b then Some header else (if c then None else m q))) ≡ m q
    by_names true b c rows index trees = absurd cc
    by_names false true c rows index trees = absurd cc
    by_names false false true rows index trees = absurd cc
    by_names false false false rows index trees = refl

turn_made_keeps : (name file : List ℕ) (r : Result Defs CreateFault) (m : Holding) (q : List ℕ) → IsApart q (names_for name) → (made_turn name file r m).files q ≡ m q
turn_made_keeps name file (Err f) m q apart = refl
turn_made_keeps name file (Ok d) m q apart = made_keeps name (empty_header d.raw) m q apart

create_keeps : (name file : List ℕ) (s : Status) (m n : Holding) (q : List ℕ) → IsApart q (names_for name) → CreateLeaves name file s m n → n q ≡ m q
create_keeps name file status.FileFault m n q apart left = left.others q apart.rows apart.index apart.new_index
create_keeps name file status.Memory m n q apart (inl part) = part.others q apart.rows apart.index apart.new_index
create_keeps name file status.Memory m n q apart (inr done) = ap (λ (h : Holding). h q) done.files ∙ turn_made_keeps name file (definitions_in file m) m q apart
create_keeps name file status.SinkFault m n q apart left = ap (λ (h : Holding). h q) left.files ∙ turn_made_keeps name file (definitions_in file m) m q apart
create_keeps name file status.Ok m n q apart left = ap (λ (h : Holding). h q) left.files ∙ turn_made_keeps name file (definitions_in file m) m q apart
create_keeps name file status.Findings m n q apart left = ap (λ (h : Holding). h q) left.files ∙ turn_made_keeps name file (definitions_in file m) m q apart
create_keeps name file status.Usage m n q apart left = ap (λ (h : Holding). h q) left.files ∙ turn_made_keeps name file (definitions_in file m) m q apart
create_keeps name file status.Refused m n q apart left = ap (λ (h : Holding). h q) left.files ∙ turn_made_keeps name file (definitions_in file m) m q apart
create_keeps name file status.Absent m n q apart left = ap (λ (h : Holding). h q) left.files ∙ turn_made_keeps name file (definitions_in file m) m q apart

done_making_keeps : (count seed : ℕ) (name : List ℕ) (now : ℕ) (m n : Holding) (q : List ℕ) → IsApart q (names_for name) → MakeDone count seed name now m n → n q ≡ m q
done_making_keeps count seed name now m n q apart done = ap (λ (h : Holding). h q) done.files ∙ replaced_keeps (names_for name) (new_data defs false (damaged_file count seed)) (new_index defs false (damaged_file count seed) now) m q apart

make_keeps : (count seed : ℕ) (name : List ℕ) (now : ℕ) (s : Status) (m n : Holding) (q : List ℕ) → IsApart q (names_for name) → MakeLeaves count seed name now s m n → n q ≡ m q
make_keeps count seed name now status.FileFault m n q apart left = left q apart.rows apart.index apart.new_rows apart.new_index
make_keeps count seed name now status.Memory m n q apart left = left q apart.rows apart.index apart.new_rows apart.new_index
make_keeps count seed name now status.SinkFault m n q apart left = done_making_keeps count seed name now m n q apart left
make_keeps count seed name now status.Ok m n q apart left = done_making_keeps count seed name now m n q apart left
make_keeps count seed name now status.Findings m n q apart left = done_making_keeps count seed name now m n q apart left
make_keeps count seed name now status.Usage m n q apart left = done_making_keeps count seed name now m n q apart left
make_keeps count seed name now status.Refused m n q apart left = done_making_keeps count seed name now m n q apart left
make_keeps count seed name now status.Absent m n q apart left = done_making_keeps count seed name now m n q apart left

-- a file of none of these tables is no file of one of them
no_file : (names : List (List ℕ)) (q : List ℕ) → IsNoFileOf q names → IsFileOfOne names q → ⊥
no_file [] q apart is = is
no_file (name ∷ names) q apart (inl (inl e)) = apart.0.rows e
no_file (name ∷ names) q apart (inl (inr e)) = apart.0.index e
no_file (name ∷ names) q apart (inr more) = no_file names q apart.1 more

cut_shell_keeps : (setting : ℕ) (name script : List ℕ) (m n : Holding) (q : List ℕ) → IsNoFileOf q (tables_in name m) → ShellCutOff setting name script m n → n q ≡ m q
cut_shell_keeps setting name script m n q apart (inl same) = ap (λ (h : Holding). h q) same
cut_shell_keeps setting name script m n q apart (inr cut) = cut.others q (no_file (tables_in name m) q apart)

shell_keeps : (setting : ℕ) (name script : List ℕ) (s : Status) (m n : Holding) (q : List ℕ) → IsNoFileOf q (tables_in name m) → ShellLeaves setting name script s m n → n q ≡ m q
shell_keeps setting name script status.FileFault m n q apart left = cut_shell_keeps setting name script m n q apart left
shell_keeps setting name script status.Memory m n q apart left = cut_shell_keeps setting name script m n q apart left
shell_keeps setting name script status.SinkFault m n q apart left = left q (no_file (tables_in name m) q apart)
shell_keeps setting name script status.Ok m n q apart left = left.others q (no_file (tables_in name m) q apart)
shell_keeps setting name script status.Findings m n q apart left = ap (λ (h : Holding). h q) left
shell_keeps setting name script status.Usage m n q apart left = ap (λ (h : Holding). h q) left
shell_keeps setting name script status.Refused m n q apart left = ap (λ (h : Holding). h q) left
shell_keeps setting name script status.Absent m n q apart left = ap (λ (h : Holding). h q) left

run_keeps : (request : Request) (now before after : ℕ) (s : Status) (m n : Holding) → Leaves request now before after s m n → KeepsOthers request m n
run_keeps usage now before after s m n leaves q apart = ap (λ (h : Holding). h q) leaves
run_keeps (chk o names) now before after s m n leaves q apart = tables_keep o now before after names s m n q apart leaves
run_keeps (create name file) now before after s m n leaves q apart = create_keeps name file s m n q apart.0 leaves
run_keeps (dump name) now before after s m n leaves q apart = ap (λ (h : Holding). h q) leaves
run_keeps (make count seed name) now before after s m n leaves q apart = make_keeps count seed name now s m n q apart.0 leaves
run_keeps (shell o name script) now before after s m n leaves q apart = shell_keeps o.concurrent name script s m n q apart leaves

-- whatever a run leaves, it leaves other files
pub others_told : (request : Request) (now before after : ℕ) (s : Status) (old new : Option Holding) → Told old new (Leaves request now before after s) → Told old new (KeepsOthers request)
others_told request now before after s old new leaves = record {
  told = λ m told. let n = leaves.told m told in (n.0, n.1, run_keeps request now before after s m n.0 n.2);
  untold = leaves.untold;
}
