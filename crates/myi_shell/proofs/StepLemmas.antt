-- A step that writes: what was made of it by the table is what the history says of it.
use Rattle.std.proofs.Common.{◌≡◌, ◌+◌, Bool, true, false, List, [], ◌∷◌, ◌++◌, length, Option, Some, None, Result, Ok, Err, OnOk, refl, sym, ap, subst, ◌∙◌, arith}
use Rattle.std.proofs.lemmas.List.{append-nil}
use Rattle.myi_base.specs.Holding.{Holding}
use Rattle.myi_defs.specs.declared.types.Defs.{Defs}
use Rattle.myi_state.specs.State.{TableState}
use Rattle.myi_state.specs.Changes.{Change}
use Rattle.myi_locks.specs.declared.steps.Step.{Step}
use Rattle.myi_locks.specs.Steps.{writes_rows}
use Rattle.myi_locks.specs.Rounds.{LockState}
use Rattle.myi_script.specs.declared.types.Act.{Act}
use Rattle.myi_history.specs.Lines.{act_of}
use Rattle.myi_history.specs.Answers.{answer_on, locked_for_read}
use Rattle.myi_history.specs.History.{Statements, asks, reads_only, changes, state_after, stepped_by, accepted_of, change_of}
use Rattle.myi_history.specs.Text.{write_said, change_said}
use Rattle.myi_history.specs.RoundTexts.{answer_of, text_of, texts_of}
use Rattle.myi_shell.specs.declared.target.Target.{Target}
use Rattle.myi_shell.specs.declared.changes.Changed.{Changed}
use Rattle.myi_shell.specs.Targets.{Standing, moved, defs_in, HoldsThen, IfHolds}
use Rattle.myi_shell.specs.Changing.{changed_lines, count_changed, count_by, IsChangedBy}
use Rattle.myi_shell.specs.Stepping.{RunState, writes_by, AreDone}

-- what is asked of the table by one step is known
asked_known : (d : Defs) (ls : Statements) (together : Bool) (p : RunState) (s : Standing) (x : Step) (locked : Bool) (asked : Option Change) (next : Option Holding) (table : Target) (new : RunState)
    → reads_only p.locks x.session ≡ locked → asks ls p.locks together x ≡ asked
    → HoldsThen next table (moved s (stepped_by d s.table asked)) → new.number ≡ p.number + length (accepted_of d s.table asked) → new.texts ≡ p.texts ++ texts_of (write_said ls d locked x.line s.table asked)
    → AreDone d ls together p s (x ∷ []) (writes_by d ls p.locks together s.table (x ∷ [])) next table new
asked_known d ls together p s x locked asked next table new is asks_is state number texts =
    let S : Option Change → Type 0 = λ a. HoldsThen next table (moved s (stepped_by d s.table a)) in
    record {
      state = subst S (sym asks_is) state;
      number = number ∙ ap (λ a. p.number + length (accepted_of d s.table a)) (sym asks_is) ∙ ap (λ cs. p.number + length cs) (sym (append-nil (accepted_of d s.table (asks ls p.locks together x))));
      texts = texts ∙ ap (λ b. p.texts ++ texts_of (write_said ls d b x.line s.table asked)) (sym is) ∙ ap (λ a. p.texts ++ texts_of (write_said ls d (reads_only p.locks x.session) x.line s.table a)) (sym asks_is)
          ∙ ap (λ said. p.texts ++ texts_of said) (sym (append-nil (write_said ls d (reads_only p.locks x.session) x.line s.table (asks ls p.locks together x))));
    }

asks_change : (ls : Statements) (r : LockState) (together : Bool) (x : Step) → writes_rows x.kind ≡ true → reads_only r x.session ≡ false → asks ls r together x ≡ change_of ls.takes together (act_of ls.lines x.line)
asks_change ls r together x kind free = rw kind (rw free refl)

asks_none : (ls : Statements) (r : LockState) (together : Bool) (x : Step) → reads_only r x.session ≡ true → asks ls r together x ≡ None
asks_none ls r together x locked = by_kind (writes_rows x.kind) refl where
  by_kind : (b : Bool) → writes_rows x.kind ≡ b → asks ls r together x ≡ None
  by_kind true is = rw is (rw locked refl)
  by_kind false is = rw is refl

-- of a session that holds READ or READ LOCAL nothing is asked
pub locked_step : (d : Defs) (ls : Statements) (together : Bool) (p : RunState) (s : Standing) (x : Step) (next : Option Holding) (table : Target) (new : RunState)
    → reads_only p.locks x.session ≡ true → HoldsThen next table s → new.number ≡ p.number → new.texts ≡ p.texts ++ text_of (answer_on x.line locked_for_read) ∷ []
    → AreDone d ls together p s (x ∷ []) (writes_by d ls p.locks together s.table (x ∷ [])) next table new
locked_step d ls together p s x next table new locked state number texts =
    asked_known d ls together p s x true None next table new locked (asks_none ls p.locks together x locked) state (number ∙ omega arith) texts

-- ---- steps one after the other

-- what is done, and what is left, gives the whole
pub record IsHalfDone (d : Defs) (ls : Statements) (together : Bool) (old : RunState) (s : Standing) (xs left : List Step) (next : Option Holding) (table : Target) (new : RunState) : Type 0 where
  pub state : TableState
  pub holds : HoldsThen next table (moved s state)
  pub whole : state_after d (asks ls old.locks together) state left ≡ state_after d (asks ls old.locks together) s.table xs
  pub number : new.number + length (changes d (asks ls old.locks together) state left) ≡ old.number + length (changes d (asks ls old.locks together) s.table xs)
  pub texts : new.texts ++ texts_of (writes_by d ls old.locks together state left) ≡ old.texts ++ texts_of (writes_by d ls old.locks together s.table xs)

-- the first step, and the others behind it
pub writes_first : (d : Defs) (ls : Statements) (r : LockState) (together : Bool) (s : TableState) (x : Step) (xs : List Step)
    → writes_by d ls r together s (x ∷ []) ++ writes_by d ls r together (stepped_by d s (asks ls r together x)) xs ≡ writes_by d ls r together s (x ∷ xs)
writes_first d ls r together s x xs = ap (λ said. said ++ writes_by d ls r together (stepped_by d s (asks ls r together x)) xs) (append-nil (write_said ls d (reads_only r x.session) x.line s (asks ls r together x)))

-- what was made of the change that a statement asks for
pub changed_step : (old : Target) (ls : Statements) (together : Bool) (p : RunState) (s : Standing) (x : Step) (a : Option Act) (r : Option Changed) (next : Option Holding) (table : Target) (new : RunState)
    → writes_rows x.kind ≡ true → reads_only p.locks x.session ≡ false → act_of ls.lines x.line ≡ a → IsChangedBy ls.takes old s together a next table r
    → new.number ≡ p.number + count_changed r → new.texts ≡ p.texts ++ texts_of (changed_lines x.line r)
    → AreDone (defs_in old) ls together p s (x ∷ []) (writes_by (defs_in old) ls p.locks together s.table (x ∷ [])) next table new
changed_step old ls together p s x a r next table new kind free act changed number texts =
    let asked = change_of ls.takes together a in
    asked_known (defs_in old) ls together p s x false asked next table new free (asks_change ls p.locks together x kind free ∙ ap (change_of ls.takes together) act) changed.state
    (number ∙ ap (λ n. p.number + n) changed.count)
    (texts ∙ ap (λ said. p.texts ++ texts_of said) (changed.said x.line) ∙ ap (λ b. p.texts ++ texts_of (change_said ls.takes b (defs_in old) x.line s.table asked)) (sym act))

pub unchanged_step : (old : Target) (ls : Statements) (together : Bool) (p : RunState) (s : Standing) (x : Step) (a : Option Act) (next : Option Holding) (table : Target) (new : RunState)
    → writes_rows x.kind ≡ true → reads_only p.locks x.session ≡ false → act_of ls.lines x.line ≡ a → IsChangedBy ls.takes old s together a next table None
    → new.number ≡ p.number → new.texts ≡ p.texts
    → AreDone (defs_in old) ls together p s (x ∷ []) (writes_by (defs_in old) ls p.locks together s.table (x ∷ [])) next table new
unchanged_step old ls together p s x a next table new kind free act changed number texts =
    changed_step old ls together p s x a None next table new kind free act changed (number ∙ omega arith) (texts ∙ sym (append-nil p.texts))

pub changed_steps : {E : Type 0} (told next : Option Holding) (old table : Target) (ls : Statements) (together : Bool) (p new : RunState) (x : Step) (a : Option Act) (r : Changed) (made : Option Changed) (result : Result (Unit {0}) E)
    → writes_rows x.kind ≡ true → reads_only p.locks x.session ≡ false → act_of ls.lines x.line ≡ a → made ≡ Some r
    → IfHolds told old (λ m s. IsChangedBy ls.takes old s together a next table made)
    → OnOk result (new.number ≡ p.number + count_by r.made) → new.texts ≡ p.texts ++ text_of (answer_on x.line (answer_of r.answer)) ∷ []
    → OnOk result (IfHolds told old (λ m s. AreDone (defs_in old) ls together p s (x ∷ []) (writes_by (defs_in old) ls p.locks together s.table (x ∷ [])) next table new))
changed_steps told next old table ls together p new x a r made (Ok done) kind free act is changed number texts = λ m held s h.
    let some = subst (λ (q : Option Changed). IsChangedBy ls.takes old s together a next table q) is (changed m held s h) in
    changed_step old ls together p s x a (Some r) next table new kind free act some number texts
changed_steps told next old table ls together p new x a r made (Err f) kind free act is changed number texts = tt
