use Rattle.std.proofs.Common.{◌≡◌, ◌∙◌, Ok, true, ap, subst}
use Rattle.std.specs.Prelude.{ℕ}
use Rattle.myi_data.specs.Readable.{packs}
use Rattle.myi_data.specs.Scanning.{FindsInTable}
use Rattle.myi_chain.specs.declared.piece.Wanted.TheVariants.{Rows}
use Rattle.myi_chain.specs.declared.piece.Piece.{Piece}
use Rattle.myi_chain.specs.ScanModel.{as_items}
use Rattle.myi_readers.proofs.ScanLemmas.{answered_of, first_row}
use Rattle.myi_readers.proofs.scans.next_row.Goals as goal

pub view_packed-view-requires-clause-packed : goal.view_packed-view-requires-clause-packed
view_packed-view-requires-clause-packed g c =
    let says = subst (λ o. FindsInTable Rows (g.F.Files.holds c.args.files.now) c.args.scan.now (as_items (Ok o))) c.in-Some.is c.in_ok-at.ensures.says in
    subst (λ d. packs d c.bytes.result.now ≡ true) c.requires.test (ap (packs c.args.scan.now.test) c.bytes.ensures ∙ says.packs.0)

pub returns-clause-row : goal.returns-clause-row
returns-clause-row g c =
    let found : ℕ × Piece = (c.in-Some.at, c.in-Some.piece) in
    let h = g.F.Files.holds c.args.files.now in
    let new = c.next_row.follows.lender-at-none in
    let answer = answered_of h c.args.scan.now new _ _ found c.in_ok-at.was c.in-Some.is c.next_row.follows.holds-at-none in
    first_row c.args.defs.now h c.args.scan.now new found c.view_packed-view.result c.in_ok-row.row c.bytes.result.now c.requires.test answer c.bytes.ensures c.view_packed-view.ensures.found c.in_ok-row.ensures
