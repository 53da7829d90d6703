use Rattle.std.proofs.Common.{◌∙◌, refl, sym, ap, subst}
use Rattle.myi_data.specs.Inner.{scan_in}
use Rattle.myi_data.specs.Scanning.{FindsInTable, AfterTable}
use Rattle.myi_data.proofs.scan.DataScan.next_wanted.Goals as goal

pub returns-in-Blocks : goal.returns-in-Blocks
returns-in-Blocks g c =
    let h = g.F.Files.holds c.args.files.now in
    let call = c.next_wanted-in-Blocks in
    let same = c.in-Blocks.scan-is ∙ ap scan_in (sym c.in-Blocks.is) ∙ c.self.view_is in
    rw c.in-Blocks.is (
      (refl, λ _. tt, subst (λ s. AfterTable c.args.wanted h s call.result call.follows.lender-at-none) same call.follows.holds-at-none),
      record {
        says = subst (λ s. FindsInTable c.args.wanted h s call.result) same call.ensures.says;
        holds = call.ensures.holds;
        cause = call.ensures.cause;
        after = tt;
      },
    )
