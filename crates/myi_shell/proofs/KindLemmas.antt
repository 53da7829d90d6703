-- The kinds of the steps of a round.
use Rattle.std.proofs.Common.{◌≡◌, ◌&&◌, not, List, [], ◌∷◌, ◌++◌, map, filter, Option, Some, None, Bool, true, false, cond, refl}
use Rattle.std.specs.Prelude.{option_map}
use Rattle.std.specs.List.{AllByRecursion, flat_map, take_while, list_any}
use Rattle.std.proofs.lemmas.List.Sums.{take_while-cons}
use Rattle.myi_locks.specs.declared.steps.StepKind.{StepKind}
use Rattle.myi_locks.specs.declared.steps.Step.{Step}
use Rattle.myi_locks.specs.declared.steps.Run.{Run}
use Rattle.myi_locks.specs.declared.steps.Round.{Round}
use Rattle.myi_locks.specs.declared.steps.Round.TheVariants.{Finished, Alone}
use Rattle.myi_locks.specs.Steps.{is_insert, is_read, takes_read}
use Rattle.myi_locks.specs.Sessions.{Session, first, is_next, holds_any, holds_write, others_hold}
use Rattle.myi_locks.specs.Rounds.{LockState, next_round, case_at_once, case_write_held, case_write, case_write_waits, case_takes_read, case_together, alone, or_else, has_steps, at_once, is_write, reads, inserter, session_at, run_of, together}
use Rattle.myi_locks.specs.Done.{run_steps}
use Rattle.myi_shell.specs.Stepping.{HasItsKinds}

abbrev AreOf : (StepKind → Bool) → List Step → Type 0
AreOf test xs = AllByRecursion (λ (x : Step). test x.kind ≡ true) xs

of_run : (test : StepKind → Bool) (xs : List Step) → AreOf test (take_while (λ (x : Step). test x.kind) xs)
of_run test [] = tt
of_run test (x ∷ xs) = go (test x.kind) refl (of_run test xs)
  where
    go : (b : Bool) → test x.kind ≡ b → AreOf test (take_while (λ (x : Step). test x.kind) xs) → AreOf test (take_while (λ (x : Step). test x.kind) (x ∷ xs))
    go true is more = rw (take_while-cons (λ (y : Step). test y.kind) x xs, is) (is, more)
    go false is more = rw (take_while-cons (λ (y : Step). test y.kind) x xs, is) tt

of_both : (test : StepKind → Bool) (xs ys : List Step) → AreOf test xs → AreOf test ys → AreOf test (xs ++ ys)
of_both test [] ys h k = k
of_both test (x ∷ xs) ys h k = (h.0, of_both test xs ys h.1 k)

of_reads : (test : Session → Bool) (ss : List Session) → AreOf is_read (flat_map (λ (run : Run). run.steps) (reads test ss))
of_reads test [] = tt
of_reads test (u ∷ ss) = go (test u && is_next is_read u) (of_reads test ss)
  where
    go : (b : Bool) → AreOf is_read (flat_map (λ (run : Run). run.steps) (reads test ss)) → AreOf is_read (flat_map (λ (run : Run). run.steps) (map (run_of is_read) (cond b (u ∷ filter (λ t. test t && is_next is_read t) ss) (filter (λ t. test t && is_next is_read t) ss))))
    go true more = of_both is_read (run_of is_read u).steps _ (of_run is_read u.left) more
    go false more = more

of_inserter : (o : Option Session) → AreOf is_insert (run_steps (option_map (run_of is_insert) o))
of_inserter None = tt
of_inserter (Some s) = of_run is_insert s.left

alone_case : (P : Round → Type 0) (o : Option Step) (more : Round) → ((x : Step) → P (Alone x)) → P more → P (alone o more)
alone_case P None more h k = k
alone_case P (Some x) more h k = h x

waits_case : (P : Round → Type 0) (b : Bool) (round more : Round) → P round → P more → P (or_else (cond b (Some round) None) more)
waits_case P true round more h k = h
waits_case P false round more h k = k

some_case : (P : Round → Type 0) (b : Bool) (more : Round) → P Finished → P more → P (cond (not b) Finished more)
some_case P true more h k = k
some_case P false more h k = h

round_cases : (P : Round → Type 0) (r : LockState) (holes : Bool) → P Finished → ((x : Step) → P (Alone x)) → P (together None (reads (λ s. holds_any s.held) r.sessions)) → P (together (inserter r.sessions) (reads (λ s. true) r.sessions)) → P (next_round r holes)
unfolding next_round case_at_once case_write_held case_write case_write_waits case_takes_read case_together
round_cases P r holes done one waits all = some_case P (has_steps r) _ done
    (alone_case P (first at_once r.sessions) _ one
    (alone_case P (first (λ s. holds_write s.held) r.sessions) _ one
    (alone_case P (first (λ s. is_write r holes s && not (others_hold holds_any s.number r.sessions)) r.sessions) _ one
    (waits_case P (list_any (is_write r holes) r.sessions) (together None (reads (λ s. holds_any s.held) r.sessions)) _ waits
    (alone_case P (first (is_next takes_read) r.sessions) (together (inserter r.sessions) (reads (λ s. true) r.sessions)) one all)))))

pub has_its_kinds : (r : LockState) (holes : Bool) → HasItsKinds (next_round r holes)
has_its_kinds r holes =
    round_cases HasItsKinds r holes tt (λ x. tt) (tt, of_reads (λ s. holds_any s.held) r.sessions)
    (of_inserter (session_at (first (is_next is_insert) r.sessions) r.sessions), of_reads (λ s. true) r.sessions)
