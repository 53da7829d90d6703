use Rattle.std.proofs.Common.{refl, subst, sym}
use Rattle.myi_data.specs.Scanning.{IsAsKnown, FindsInTable, AfterTable}
use Rattle.myi_data.proofs.BlockScans.{known_to, says_of, after_of}
use Rattle.myi_data.proofs.blocks.BlockScan.next_wanted.Goals as goal

pub next_wanted-requires-clause-current : goal.next_wanted-requires-clause-current
next_wanted-requires-clause-current g c κs lives m held = known_to (g.F.Files.holds c.args.files.now) c.self.inside.scan c.self.invariant m (subst (λ s. IsAsKnown s m) (sym c.self.view_is) (c.requires m held))

pub returns : goal.returns
returns g c =
    let h = g.F.Files.holds c.args.files.now in
    let scan = c.self.inside.scan in
    let call = c.next_wanted in (
      (refl, λ _. tt, subst (λ s. AfterTable c.args.wanted h s call.result call.follows.lender-at-none) c.self.view_is (after_of h scan c.self.invariant c.args.wanted call.result _ call.follows.holds-at-none)),
      record {
        says = subst (λ s. FindsInTable c.args.wanted h s call.result) c.self.view_is (says_of h scan c.self.invariant c.args.wanted call.result call.ensures.says);
        holds = call.ensures.holds;
        cause = call.ensures.cause;
        after = tt;
      },
    )
