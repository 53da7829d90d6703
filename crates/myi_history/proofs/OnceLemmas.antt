-- In a round no line is answered twice.
use Rattle.std.proofs.Common.{◌≡◌, ℕ, ◌+◌, ◌<◌, ◌≤◌, ◌==◌, not, List, [], ◌∷◌, ◌++◌, map, Option, Some, None, Bool, true, false, cond, refl, sym, arith, subst, inl, inr}
use Rattle.std.specs.Prelude.{drop, slice_index}
use Rattle.std.specs.List.{AllByRecursion}
use Rattle.std.proofs.lemmas.Bool.Decides.{eqb_tells}
use Rattle.std.proofs.lemmas.List.Sums.{sum_by-append}
use Rattle.myi_defs.specs.declared.types.Defs.{Defs}
use Rattle.myi_keycache.specs.declared.setup.Counters.{Counters}
use Rattle.myi_state.specs.State.{TableState}
use Rattle.myi_state.specs.Changes.{Change}
use Rattle.myi_tablestate.specs.Keyed.{keyed_step}
use Rattle.myi_locks.specs.declared.steps.StepKind.{StepKind}
use Rattle.myi_locks.specs.declared.steps.StepKind.TheVariants.{Release, Take, Rows, Insert, Change as Changes, Unlock, Stats, End}
use Rattle.myi_locks.specs.declared.steps.Step.{Step}
use Rattle.myi_locks.specs.Steps.{is_read}
use Rattle.myi_locks.specs.Rounds.{LockState}
use Rattle.myi_locks.specs.Done.{steps_of, advanced}
use Rattle.myi_script.specs.declared.types.Act.{Act}
use Rattle.myi_script.specs.declared.types.Act.TheVariants as act
use Rattle.myi_script.specs.declared.types.Line.{Line}
use Rattle.myi_history.specs.Lines.{act_of, kind_of, kinds, steps_with, steps_of_line, script_steps, LinesGrow, MayRun}
use Rattle.myi_history.specs.Answers.{Answer, LineAnswer, answer_on, done, counted, locked_for_read, no_method}
use Rattle.myi_history.specs.History.{Taking, Statements, in_table, in_member, in_none, is_list, Opening, ScriptRound, asked_in, reads_only, stepped_by, rounds_of, first_locks, locks_behind}
use Rattle.myi_history.specs.Text.{Numbers, reads_said, rows_at, by_reply, none_said, change_said, write_said, step_said, said_by, others_said}
use Rattle.myi_history.specs.RoundTexts.{HaveOwnKeys, HaveOwnLines, LineText, text_of, texts_of, said_of}
use Rattle.myi_history.proofs.LineLemmas.{steps_run}
use Rattle.myi_history.proofs.ReplayLemmas.{follows_history}
use Rattle.myi_history.proofs.LineOrderLemmas.{hits, hits_cons, one_if, hit, missed, none_met}
use Rattle.myi_history.proofs.SpokenLemmas.{says, spoken, spoken_cons, spoken_more, left_spoken, advanced_less, round_less, opening_less}

-- ---- answers of steps

-- how many of the answers are to line n
abbrev pub answered : ℕ → List LineAnswer → ℕ
answered n said = hits (λ (a : LineAnswer). a.line) n said

answered_cons : (n : ℕ) (a : LineAnswer) (said : List LineAnswer) → answered n (a ∷ said) ≡ one_if a.line n + answered n said
answered_cons n a said = hits_cons (λ (b : LineAnswer). b.line) n a said

answered_more : (n : ℕ) (said more : List LineAnswer) → answered n (said ++ more) ≡ answered n said + answered n more
answered_more n said more = sum_by-append (λ (a : LineAnswer). one_if a.line n) said more

one_said : (n m : ℕ) (q : Answer) → answered n (answer_on m q ∷ []) ≤ one_if m n
one_said n m q = let a = answered_cons n (answer_on m q) [] in omega arith

none_once : (n m : ℕ) (o : Option Act) → answered n (none_said m o) ≤ one_if m n
none_once n m (Some (act.Insert row)) = one_said n m no_method
none_once n m (Some (act.Update at row)) = omega arith
none_once n m (Some (act.Delete at)) = omega arith
none_once n m (Some act.Scan) = omega arith
none_once n m (Some (act.Over range)) = omega arith
none_once n m (Some (act.Lock lock)) = omega arith
none_once n m (Some act.Unlock) = omega arith
none_once n m (Some act.Stats) = omega arith
none_once n m (Some act.End) = omega arith
none_once n m None = omega arith

change_once : (n m : ℕ) (t : Taking) (o : Option Act) (d : Defs) (s : TableState) (asked : Option Change) → answered n (change_said t o d m s asked) ≤ one_if m n
change_once n m in_none o d s asked = none_once n m o
change_once n m in_table o d s None = omega arith
change_once n m in_table o d s (Some c) = one_said n m (by_reply in_table (keyed_step d s c).reply)
change_once n m (in_member k) o d s None = omega arith
change_once n m (in_member k) o d s (Some c) = one_said n m (by_reply (in_member k) (keyed_step d s c).reply)

write_once : (n m : ℕ) (ls : Statements) (d : Defs) (b : Bool) (s : TableState) (asked : Option Change) → answered n (write_said ls d b m s asked) ≤ one_if m n
write_once n m ls d true s asked = one_said n m locked_for_read
write_once n m ls d false s asked = change_once n m ls.takes (act_of ls.lines m) d s asked

-- a read answers once, and a step that is no read answers where it says something
step_once : (n m : ℕ) (c : Counters) (written : List LineAnswer) (k : StepKind) → answered n written ≤ one_if m n → cond (is_read k) (one_if m n) 0 + answered n (step_said m c written k) ≤ cond (says k m) (one_if m n) 0
step_once n m c written Release h = omega arith
step_once n m c written (Take lock) h = let a = one_said n m done in omega arith
step_once n m c written Rows h = omega arith
step_once n m c written Insert h = omega arith
step_once n m c written Changes h = omega arith
step_once n m c written Unlock h = let a = one_said n m done in omega arith
step_once n m c written Stats h = let a = one_said n m (counted c) in omega arith
step_once n m c written End h = go (m == 0)
  where
    go : (b : Bool) → 0 + answered n (cond b [] (answer_on m done ∷ [])) ≤ cond (not b) (one_if m n) 0
    go true = omega arith
    go false = let a = one_said n m done in omega arith

read_step : (n m : ℕ) (q : Answer) (rest : List ℕ → List LineAnswer) (ns : List ℕ) (b : Bool) → answered n (cond b (answer_on m q ∷ rest (drop 1 ns)) (rest ns)) ≡ cond b (one_if m n) 0 + answered n (rest (cond b (drop 1 ns) ns))
read_step n m q rest ns true = answered_cons n (answer_on m q) (rest (drop 1 ns))
read_step n m q rest ns false = omega arith

steps_once : (n : ℕ) (o : Opening) (h : List Change) (p : ScriptRound) (xs : List Step) (ns : List ℕ) (s : TableState) (c : Counters) → answered n (reads_said o h xs ns) + answered n (others_said o p s c xs) ≤ spoken n xs
steps_once n o h p [] ns s c = omega arith
steps_once n o h p (x ∷ xs) ns s c =
    let asked = asked_in o.script p x in
    let next = stepped_by o.defs s asked in
    let left = cond (is_read x.kind) (drop 1 ns) ns in
    let a = read_step n x.line (rows_at o h x.line (slice_index ns 0)) (λ ms. reads_said o h xs ms) ns (is_read x.kind) in
    let b = answered_more n (said_by o p s c x) (others_said o p next c xs) in
    let d = step_once n x.line c (write_said o.script o.defs (reads_only p.locks x.session) x.line s asked) x.kind (write_once n x.line o.script o.defs (reads_only p.locks x.session) s asked) in
    let e = steps_once n o h p xs left next c in
    let f = spoken_cons n x xs in
    omega arith

-- ---- the steps of a script

says_once : (n m : ℕ) (b : Bool) → cond b (one_if m n) 0 ≤ one_if m n
says_once n m true = omega arith
says_once n m false = omega arith

step_with : (n s m : ℕ) (k : StepKind) → spoken n (steps_with s m (k ∷ [])) ≤ one_if m n
step_with n s m k = let x : Step = record { session = s; line = m; kind = k } in let a = spoken_cons n x [] in let b = says_once n m (says k m) in omega arith

line_with : (n s m : ℕ) (list : Bool) (a : Act) → spoken n (steps_with s m (kinds list a)) ≤ one_if m n
line_with n s m list (act.Insert v) = step_with n s m (kind_of list (act.Insert v))
line_with n s m list (act.Update p v) = step_with n s m Changes
line_with n s m list (act.Delete p) = step_with n s m Changes
line_with n s m list act.Scan = step_with n s m Rows
line_with n s m list (act.Over r) = step_with n s m Rows
line_with n s m list (act.Lock k) =
    let a = spoken_cons n (record { session = s; line = m; kind = Release }) (steps_with s m (Take k ∷ [])) in
    let b = step_with n s m (Take k) in
    omega arith
line_with n s m list act.Unlock = step_with n s m Unlock
line_with n s m list act.Stats = step_with n s m Stats
line_with n s m list act.End = step_with n s m End

none_before : (n low : ℕ) (list : Bool) (ls : List Line) → LinesGrow low ls → n < low → spoken n (script_steps list ls) ≡ 0
none_before n low list [] h lt = refl
none_before n low list (l ∷ ls) h lt =
    let le : low ≤ l.line = h.0 in
    let a = spoken_more n (steps_of_line list l) (script_steps list ls) in
    let b = line_with n l.session l.line list l.act in
    let c = missed l.line n (λ e. absurd (omega arith)) in
    let d = none_before n (l.line + 1) list ls h.1 (omega arith) in
    omega arith

script_once : (n low : ℕ) (list : Bool) (ls : List Line) → LinesGrow low ls → spoken n (script_steps list ls) ≤ 1
script_once n low list [] h = omega arith
script_once n low list (l ∷ ls) h =
    let a = spoken_more n (steps_of_line list l) (script_steps list ls) in
    let b = line_with n l.session l.line list l.act in
    elim (eqb_tells l.line n) [
      | inl e ↦ (let c = hit l.line n e.1 in let k : l.line ≡ n = e.1 in let d = none_before n (l.line + 1) list ls h.1 (omega arith) in omega arith)
      | inr e ↦ (let c = missed l.line n e.1 in let d = script_once n (l.line + 1) list ls h.1 in omega arith)
    ]

-- ---- a round

behind_less : (n : ℕ) (r : LockState) (ps : List ScriptRound) → left_spoken n (locks_behind r ps).sessions ≤ left_spoken n r.sessions
behind_less n r [] = omega arith
behind_less n r (p ∷ ps) = let a = behind_less n (advanced r p.round) ps in let b = advanced_less n r p.round in omega arith

own_from : (said : List LineAnswer) → ((n : ℕ) → answered n said ≤ 1) → HaveOwnKeys (λ (a : LineAnswer). a.line) said
own_from [] few = tt
own_from (a ∷ said) few = (
  none_met (λ (b : LineAnswer). b.line) a.line said (let c = answered_cons a.line a said in let d = hit a.line a.line refl in let e = few a.line in omega arith),
  own_from said (λ n. let c = answered_cons n a said in let e = few n in omega arith),
)

own_texts : (said : List LineAnswer) → HaveOwnKeys (λ (a : LineAnswer). a.line) said → HaveOwnLines (texts_of said)
own_texts [] h = tt
own_texts (a ∷ said) h = (others said h.0, own_texts said h.1)
  where
    others : (bs : List LineAnswer) → AllByRecursion (λ (b : LineAnswer). b.line ≡ a.line → ⊥) bs → AllByRecursion (λ (t : LineText). t.0 ≡ a.line → ⊥) (map text_of bs)
    others [] k = tt
    others (b ∷ bs) k = (k.0, others bs k.1)

pub answered_once : (o : Opening) (h : List Change) (front back : List ScriptRound) (p : ScriptRound) (ns : Numbers) → MayRun o.defs o.script.lines → rounds_of o ≡ front ++ p ∷ back → HaveOwnLines (texts_of (said_of o h p ns))
answered_once o h front back p ns run e =
    let f = follows_history o front back p e in
    own_texts (said_of o h p ns) (own_from (said_of o h p ns) (λ n.
    let a = answered_more n (reads_said o h (steps_of p.round) ns.reads) (others_said o p p.state ns.counters (steps_of p.round)) in
    let b = steps_once n o h p (steps_of p.round) ns.reads p.state ns.counters in
    let c : spoken n (steps_of p.round) ≤ left_spoken n p.locks.sessions = subst (λ q. spoken n (steps_of q) ≤ left_spoken n p.locks.sessions) (sym f.round) (round_less n p.locks _) in
    let d : left_spoken n p.locks.sessions ≤ left_spoken n (first_locks o).sessions = subst (λ (q : LockState). left_spoken n q.sessions ≤ left_spoken n (first_locks o).sessions) (sym f.locks) (behind_less n (first_locks o) front) in
    let g = opening_less n o.setting (script_steps (is_list o.script.takes) o.script.lines) (steps_run o.defs o.script.lines run (is_list o.script.takes)) in
    let k = script_once n 1 (is_list o.script.takes) o.script.lines run.grow in
    omega arith))
