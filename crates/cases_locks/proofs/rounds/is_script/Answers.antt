use Rattle.std.proofs.Common.{◌≡◌, ℕ, List, [], ◌∷◌, false, refl, sym, ◌∙◌, subst, inl, inr}
use Rattle.std.specs.List.{AllByRecursion}
use Rattle.std.proofs.lemmas.Bool.Decides.{eqb_tells}
use Rattle.myi_locks.specs.declared.steps.Step.{Step}
use Rattle.myi_locks.specs.Script.{IsScript, LinesRise, LinesAreOwn, TakesFollow, EndIsLast, own}
use Rattle.cases_locks.proofs.rounds.is_script.Goals.{then-lines_rise, else-lines_rise}
use Rattle.cases_locks.proofs.rounds.is_script.Goals as goal

-- what holds of each session that has a step, and of a session without steps, holds of all
each_session : (P : ℕ → Type 0) (xs : List Step) → AllByRecursion (λ x. P x.session) xs → (n : ℕ) → (own n xs ≡ [] → P n) → P n
each_session P [] h n none = none refl
each_session P (x ∷ xs) h n none = elim (eqb_tells x.session n) [ inl p ↦ subst P p.1 h.0 | inr p ↦ each_session P xs h.1 n (λ e. none (rw p.0 e)) ]

script : (xs : List Step) → LinesRise 1 xs → LinesAreOwn xs → AllByRecursion (λ x. TakesFollow false (own x.session xs)) xs → AllByRecursion (λ x. EndIsLast (own x.session xs)) xs → IsScript xs
script xs rise lines takes ends = record {
  rise = rise;
  lines = lines;
  takes = λ n. each_session (λ m. TakesFollow false (own m xs)) xs takes n (λ e. rw e tt);
  ends = λ n. each_session (λ m. EndIsLast (own m xs)) xs ends n (λ e. rw e tt);
}

pub returns-then-lines_are_own : goal.returns-then-lines_are_own
returns-then-lines_are_own c = λ e. elim c.if-lines_rise.branch [
  | then-lines_rise w ↦ script c.args.steps.now (c.lines_rise.ensures w.if-lines_rise.true) (w.lines_are_own.ensures (sym w.value-is ∙ c.if-lines_are_own.true)) (c.are_sessions.ensures.takes e) (c.are_sessions.ensures.ends e)
  | else-lines_rise w ↦ absurd (let no = w.value-is in let yes = c.if-lines_are_own.true in cc)
]
