use Rattle.std.proofs.Common.{◌≡◌, ◌≤◌, ◌+◌, ◌++◌, ◌∷◌, drop, length, get_or, sym, ap, subst, ◌∙◌}
use Rattle.myi_locks.specs.declared.steps.Run.{Run}
use Rattle.myi_shell.specs.Beside.{run_behind, runs_left}
use Rattle.myi_shell.proofs.ThreadLemmas.{within_at, left_more, left_on}
use Rattle.myi_shell.proofs.beside.runs_left.Goals as goal

pub run_behind-requires : goal.run_behind-requires
run_behind-requires c =
    let went = c.args.went.now in
    let done = (get_or went c.loop-at.at c.index-went-at.result).done in
    record { within = subst (λ (r : Run). done ≤ length r.steps) (sym c.index-runs-at.is) (within_at c.args.runs.now went c.loop-at.at c.index-runs-at.result c.index-went-at.result c.loop-at-test.true c.requires.within) }

pub loop-at-preserved : goal.loop-at-preserved
loop-at-preserved c =
    let runs = c.args.runs.now in
    let went = c.args.went.now in
    let at = c.loop-at.at in
    let left = c.loop-at.left.items in
    let rest = runs_left (drop (at + 1) runs) (drop (at + 1) went) in
    let done = (get_or went at c.index-went-at.result).done in
    let next = run_behind c.index-runs-at.result done in
    let same : left ++ next ∷ rest ≡ left ++ runs_left (drop at runs) (drop at went) =
    ap (λ (r : Run). left ++ run_behind r done ∷ rest) c.index-runs-at.is ∙ ap (λ xs. left ++ xs) (sym (left_more runs went at c.index-runs-at.result c.index-went-at.result c.loop-at-test.true c.requires.within)) in
    record { so_far = left_on left c.push.new.self.items (runs_left runs went) rest next c.in_ok-run.run' c.in_ok-push.ensures.items c.in_ok-run.ensures (same ∙ c.loop-at.invariant.so_far) }
