use Rattle.std.proofs.Common.{subst}
use Rattle.myi_history.specs.Lines.{IsRange, ReadsRange}
use Rattle.myi_rounds.proofs.FindLemmas.{if_ok_by, scan_finds, range_finds}
use Rattle.myi_rounds.proofs.finding.find.Goals as goal

pub returns-in-Scan-clause-rows : goal.returns-in-Scan-clause-rows
returns-in-Scan-clause-rows g c =
    if_ok_by c.scan.result (λ rows are m held own base h known is s seen. scan_finds c.args.reader.now.table.defs base known c.args.snap.now s c.args.act.now rows.items c.in-Scan.is seen (are m held own base h known is)) c.scan.ensures.rows

pub returns-in_ok-range-in-Over-clause-rows : goal.returns-in_ok-range-in-Over-clause-rows
returns-in_ok-range-in-Over-clause-rows g c =
    let d = c.args.reader.now.table.defs in
    let range : IsRange d c.in-Over.range = subst (ReadsRange d) c.in-Over.is c.requires.range in
    if_ok_by c.range.result
    (λ rows answers m held own base h known is s seen. range_finds d base known c.args.snap.now s c.args.act.now c.in-Over.range c.in_ok-range-in-Over.range rows.items c.in-Over.is c.in_ok-range-in-Over.ensures range seen (answers m held own base h known is))
    c.range.ensures.rows
