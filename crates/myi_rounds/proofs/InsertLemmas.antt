-- What the inserts of a session did, and one more of them.
use Rattle.std.proofs.Common.{◌≡◌, ℕ, List, [], ◌∷◌, ◌++◌, map, option_map, Option, None, Some, Result, Ok, Err, refl, sym, ap, subst, ◌∙◌, append_assoc}
use Rattle.std.specs.Prelude.{Bool, IfOk, IfErr, OnOk, OnErr}
use Rattle.std.specs.List.{AllByRecursion}
use Rattle.myi_keycache.specs.declared.setup.Counters.{Counters}
use Rattle.std.proofs.lemmas.List.{append-nil, map-append}
use Rattle.myi_defs.specs.declared.types.Defs.{Defs}
use Rattle.myi_pack.specs.Packed.{Values}
use Rattle.myi_state.specs.State.{TableState}
use Rattle.myi_state.specs.Changes.{Change, insert_at_end}
use Rattle.myi_tablestate.specs.Keyed.{KeyedRefusal, if_made, duplicate, too_long}
use Rattle.myi_table.specs.Folding.{CanFold}
use Rattle.myi_locks.specs.declared.steps.Step.{Step}
use Rattle.myi_script.specs.declared.types.Line.{Line}
use Rattle.myi_script.specs.declared.types.Act.{Act}
use Rattle.myi_script.specs.declared.types.Act.TheVariants as act
use Rattle.myi_history.specs.declared.answers.StepAnswer.{StepAnswer}
use Rattle.myi_history.specs.declared.answers.StepAnswer.TheVariants as step
use Rattle.myi_history.specs.Answers.{LineAnswer, answer_on}
use Rattle.myi_history.specs.History.{Opening, ScriptRound, Taking, in_table, reads_only, asked_in, accepted_of, stepped_by, changes, state_after}
use Rattle.myi_history.specs.Lines.{act_of}
use Rattle.myi_history.specs.Text.{by_reply, reply_said, change_said, write_said, step_said, said_by, others_said}
use Rattle.myi_history.proofs.CallerLemmas.{not_made, stays}
use Rattle.myi_snapshots.specs.Appended.{with_rows}
use Rattle.myi_inserter.specs.declared.fault.InsertFault.{InsertFault}
use Rattle.myi_inserter.specs.declared.fault.InsertFault.TheVariants as fault
use Rattle.myi_inserter.specs.declared.inserter.TableInserter.{TableInserter}
use Rattle.myi_inserter.specs.Inserter.{IsInserter, IsPut, IsReplyOf, step_behind}
use Rattle.myi_rounds.specs.declared.inserting.Replied.{Replied}
use Rattle.myi_rounds.specs.Inserts.{inserted_row, asked_by, answer_to, lines_of, said_of, inserts_said, IsAnswered, HaveInserted, InsertsAtEnd}

-- ---- what is asked

pub asked_insert : (o : Option Act) (a : Act) (row : Values) → ◌≡◌ {A = Option Act} (Some a) o → a ≡ act.Insert row → option_map insert_at_end (inserted_row o) ≡ Some (insert_at_end row)
asked_insert o a row is insert = ap (λ (p : Option Act). option_map insert_at_end (inserted_row p)) (sym is) ∙ ap (λ (b : Act). option_map insert_at_end (inserted_row (Some b))) insert

pub inserts_none : (a : Act) → ((row : Values) → a ≡ act.Insert row → ⊥) → inserted_row (Some a) ≡ None
inserts_none (act.Insert row) other = absurd (other row refl)
inserts_none (act.Update at row) other = refl
inserts_none (act.Delete at) other = refl
inserts_none act.Scan other = refl
inserts_none (act.Over range) other = refl
inserts_none (act.Lock lock) other = refl
inserts_none act.Unlock other = refl
inserts_none act.Stats other = refl
inserts_none act.End other = refl

pub asked_none : (o : Option Act) (a : Act) → ◌≡◌ {A = Option Act} (Some a) o → ((row : Values) → a ≡ act.Insert row → ⊥) → option_map insert_at_end (inserted_row o) ≡ None
asked_none o a is other = ap (λ (p : Option Act). option_map insert_at_end (inserted_row p)) (sym is) ∙ ap (λ (v : Option Values). option_map insert_at_end v) (inserts_none a other)

-- ---- one insert

-- nothing was asked
pub none_asked : (d : Defs) (base : TableState) (rows : List Values) (i : TableInserter) → IsInserter i rows → IsAnswered d base rows None None i
none_asked d base rows i ready = record {
  more = rows;
  ready = ready;
  put = sym (append-nil (map insert_at_end rows));
  state = refl;
  said = λ n. refl;
  can = λ can. can;
}

-- the law on rows that can be folded
abbrev pub FoldsMore : Type 0
FoldsMore = (d : Defs) (base : TableState) (rows : List Values) (row : Values) (at : ℕ) → CanFold d base rows → IsPut d base rows row at → CanFold d base (rows ++ row ∷ [])

was_put : FoldsMore → (d : Defs) (base : TableState) (rows : List Values) (row : Values) (at : ℕ) (i : TableInserter) → IsPut d base rows row at → IsInserter i (rows ++ row ∷ []) → IsAnswered d base rows (Some (insert_at_end row)) (Some (step.Made at)) i
was_put law d base rows row at i put ready = record {
  more = rows ++ row ∷ [];
  ready = ready;
  put = map-append insert_at_end rows (row ∷ []) ∙ ap (λ (r : Result ℕ KeyedRefusal). map insert_at_end rows ++ if_made (insert_at_end row) [] r) (sym put.reply);
  state = put.state;
  said = λ n. ap (λ (r : Result ℕ KeyedRefusal). answer_on n (by_reply in_table r) ∷ []) (sym put.reply);
  can = λ can. law d base rows row at can put;
}

was_refused : (d : Defs) (base : TableState) (rows : List Values) (row : Values) (r : KeyedRefusal) (answer : StepAnswer) (i : TableInserter) → (step_behind d base rows row).reply ≡ Err r → ((n : ℕ) → lines_of n (Some answer) ≡ answer_on n (by_reply in_table (Err r)) ∷ []) → IsInserter i rows
    → IsAnswered d base rows (Some (insert_at_end row)) (Some answer) i
was_refused d base rows row r answer i reply told ready = record {
  more = rows;
  ready = ready;
  put = sym (ap (λ (cs : List Change). map insert_at_end rows ++ cs) (not_made d (with_rows d base rows) (insert_at_end row) r reply) ∙ append-nil (map insert_at_end rows));
  state = stays d (with_rows d base rows) (insert_at_end row) r reply;
  said = λ n. told n ∙ ap (λ (q : Result ℕ KeyedRefusal). answer_on n (by_reply in_table q) ∷ []) (sym reply);
  can = λ can. can;
}

ok_of : {T E : Type 0} (x y : T) → ◌≡◌ {A = Result T E} (Ok x) (Ok y) → x ≡ y
ok_of x y e = cc

pub was_asked : FoldsMore → (d : Defs) (base : TableState) (rows : List Values) (row : Values) (end : ℕ) (made : Result ℕ InsertFault) (answer : StepAnswer) (i : TableInserter) → answer_to made ≡ Ok answer → IfOk made (λ at. IsPut d base rows row at)
    → IfErr made (λ f. IsReplyOf end (step_behind d base rows row).reply f) → OnOk made (IsInserter i (rows ++ row ∷ [])) → OnErr made (IsInserter i rows) → IsAnswered d base rows (Some (insert_at_end row)) (Some answer) i
was_asked law d base rows row end (Ok at) answer i is put refused more again =
    subst (λ (a : StepAnswer). IsAnswered d base rows (Some (insert_at_end row)) (Some a) i) (ok_of (step.Made at) answer is) (was_put law d base rows row at i put more)
was_asked law d base rows row end (Err (fault.Duplicate key at)) answer i is put refused more again =
    subst (λ (a : StepAnswer). IsAnswered d base rows (Some (insert_at_end row)) (Some a) i) (ok_of (step.Duplicate key at) answer is) (was_refused d base rows row (duplicate key at) (step.Duplicate key at) i refused (λ n. refl) again)
was_asked law d base rows row end (Err fault.Full) answer i is put refused more again =
    subst (λ (a : StepAnswer). IsAnswered d base rows (Some (insert_at_end row)) (Some a) i) (ok_of step.Full answer is) (was_refused d base rows row too_long step.Full i refused (λ n. refl) again)
was_asked law d base rows row end (Err (fault.NoRoom need free)) answer i is put refused more again = absurd cc
was_asked law d base rows row end (Err (fault.Damaged at)) answer i is put refused more again = absurd cc
was_asked law d base rows row end (Err fault.File) answer i is put refused more again = absurd cc
was_asked law d base rows row end (Err fault.Memory) answer i is put refused more again = absurd cc

-- ---- one step more

changes_end : (d : Defs) (asked : Step → Option Change) (s : TableState) (xs : List Step) (x : Step) → changes d asked s (xs ++ x ∷ []) ≡ changes d asked s xs ++ accepted_of d (state_after d asked s xs) (asked x)
changes_end d asked s [] x = append-nil (accepted_of d s (asked x))
changes_end d asked s (y ∷ xs) x =
    let t : TableState = stepped_by d s (asked y) in
    ap (λ l. accepted_of d s (asked y) ++ l) (changes_end d asked t xs x) ∙ sym (append_assoc (accepted_of d s (asked y)) (changes d asked t xs) (accepted_of d (state_after d asked t xs) (asked x)))

state_end : (d : Defs) (asked : Step → Option Change) (s : TableState) (xs : List Step) (x : Step) → state_after d asked s (xs ++ x ∷ []) ≡ stepped_by d (state_after d asked s xs) (asked x)
state_end d asked s [] x = refl
state_end d asked s (y ∷ xs) x = state_end d asked (stepped_by d s (asked y)) xs x

said_end : (d : Defs) (asked : Step → Option Change) (s : TableState) (xs : List Step) (x : Step) → inserts_said d asked s (xs ++ x ∷ []) ≡ inserts_said d asked s xs ++ reply_said in_table d x.line (state_after d asked s xs) (asked x)
said_end d asked s [] x = append-nil (reply_said in_table d x.line s (asked x))
said_end d asked s (y ∷ xs) x =
    let t : TableState = stepped_by d s (asked y) in
    ap (λ l. reply_said in_table d y.line s (asked y) ++ l) (said_end d asked t xs x) ∙ sym (append_assoc (reply_said in_table d y.line s (asked y)) (inserts_said d asked t xs) (reply_said in_table d x.line (state_after d asked t xs) (asked x)))

pub inserted_more : (d : Defs) (ls : List Line) (base : TableState) (steps : List Step) (x : Step) (i : TableInserter) (rows more : List Values) (old new : List Replied) (answer : Option StepAnswer) → HaveInserted d ls base steps rows old
    → (a : IsAnswered d base rows (asked_by ls x) answer i) → more ≡ a.more → map said_of new ≡ map said_of old ++ lines_of x.line answer → HaveInserted d ls base (steps ++ x ∷ []) more new
inserted_more d ls base steps x i rows more old new answer have a are e =
    let asked : Step → Option Change = asked_by ls in
    record {
      put = changes_end d asked base steps x ∙ ap (λ (cs : List Change). cs ++ accepted_of d (state_after d asked base steps) (asked x)) have.put
          ∙ ap (λ (s : TableState). map insert_at_end rows ++ accepted_of d s (asked x)) have.state ∙ sym a.put ∙ ap (map insert_at_end) (sym are);
      state = state_end d asked base steps x ∙ ap (λ (s : TableState). stepped_by d s (asked x)) have.state ∙ a.state ∙ ap (with_rows d base) (sym are);
      said = e ∙ ap (λ (l : List LineAnswer). l ++ lines_of x.line answer) have.said ∙ ap (λ l. inserts_said d asked base steps ++ l) (a.said x.line ∙ ap (λ (s : TableState). reply_said in_table d x.line s (asked x)) (sym have.state))
          ∙ sym (said_end d asked base steps x);
      can = subst (CanFold d base) (sym are) (a.can have.can);
    }

-- before the first step
pub none_inserted : (d : Defs) (ls : List Line) (base : TableState) → HaveInserted d ls base [] [] []
none_inserted d ls base = record { put = refl; state = refl; said = refl; can = tt }

-- ---- as a run does

pub same_changes : (o : Opening) (p : ScriptRound) (s : TableState) (xs : List Step) → AllByRecursion (InsertsAtEnd o p) xs → changes o.defs (asked_in o.script p) s xs ≡ changes o.defs (asked_by o.script.lines) s xs
same_changes o p s [] all = refl
same_changes o p s (x ∷ xs) all =
    ap (λ (c : Option Change). accepted_of o.defs s c ++ changes o.defs (asked_in o.script p) (stepped_by o.defs s c) xs) all.0.asked
    ∙ ap (λ l. accepted_of o.defs s (asked_by o.script.lines x) ++ l) (same_changes o p (stepped_by o.defs s (asked_by o.script.lines x)) xs all.1)

one_said : (o : Opening) (p : ScriptRound) (s : TableState) (c : Counters) (x : Step) → o.script.takes ≡ in_table → InsertsAtEnd o p x → said_by o p s c x ≡ reply_said in_table o.defs x.line s (asked_by o.script.lines x)
one_said o p s c x table is =
    ap (λ k. step_said x.line c (write_said o.script o.defs (reads_only p.locks x.session) x.line s (asked_in o.script p x)) k) is.kind
    ∙ ap (λ (b : Bool). write_said o.script o.defs b x.line s (asked_in o.script p x)) is.free
    ∙ ap (λ (t : Taking). change_said t (act_of o.script.lines x.line) o.defs x.line s (asked_in o.script p x)) table
    ∙ ap (λ (a : Option Change). reply_said in_table o.defs x.line s a) is.asked

pub same_said : (o : Opening) (p : ScriptRound) (s : TableState) (c : Counters) (xs : List Step) → o.script.takes ≡ in_table → AllByRecursion (InsertsAtEnd o p) xs → others_said o p s c xs ≡ inserts_said o.defs (asked_by o.script.lines) s xs
same_said o p s c [] table all = refl
same_said o p s c (x ∷ xs) table all =
    ap (λ l. l ++ others_said o p (stepped_by o.defs s (asked_in o.script p x)) c xs) (one_said o p s c x table all.0)
    ∙ ap (λ (a : Option Change). reply_said in_table o.defs x.line s (asked_by o.script.lines x) ++ others_said o p (stepped_by o.defs s a) c xs) all.0.asked
    ∙ ap (λ l. reply_said in_table o.defs x.line s (asked_by o.script.lines x) ++ l) (same_said o p (stepped_by o.defs s (asked_by o.script.lines x)) c xs table all.1)
