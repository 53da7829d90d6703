use Rattle.std.proofs.Common.{List, map, ap, sym, subst, ◌∙◌}
use Rattle.myi_locks.specs.Sessions.{Session}
use Rattle.myi_locks.specs.Placing.{ended, all_placed}
use Rattle.myi_locks.specs.Laws.{IsLawful}
use Rattle.myi_locks.proofs.PlacingLemmas.{opened}
use Rattle.myi_locks.proofs.OpeningLemmas.{opens}
use Rattle.myi_locks.proofs.locks.Locks.new.Goals as goal

pub invariant_of-result : goal.invariant_of-result
invariant_of-result c =
    let P : List Session → Type 0 = λ ss. IsLawful ss in
    subst P (sym (c.in_ok-end_all.ensures
    ∙ ap (λ q. map ended q) (c.in_ok-sessions.ensures ∙ ap all_placed c.deref.ensures.value)
    ∙ opened c.args.setting c.args.steps.items)) (opens c.args.setting c.args.steps.items c.requires.script)

pub returns : goal.returns
returns c =
    ap (λ q. record { setting = c.args.setting; sessions = q })
    (c.in_ok-end_all.ensures
    ∙ ap (λ q. map ended q) (c.in_ok-sessions.ensures ∙ ap all_placed c.deref.ensures.value)
    ∙ opened c.args.setting c.args.steps.items)
