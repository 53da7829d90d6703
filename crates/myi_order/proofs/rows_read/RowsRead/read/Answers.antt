use Rattle.std.proofs.Common.{◌≡◌, ◌^◌, ◌<◌, ◌∙◌, ℕ, List, length, Ok, true, arith, ap, subst}
use Rattle.myi_defs.proofs.CallerLemmas.{sound}
use Rattle.myi_pack.proofs.CallerLemmas.{row-fits}
use Rattle.myi_data.specs.Readable.{packs}
use Rattle.myi_data.specs.Scanning.{FindsInTable}
use Rattle.myi_chain.specs.declared.piece.Wanted.TheVariants.{Rows}
use Rattle.myi_chain.specs.declared.piece.Piece.{Piece}
use Rattle.myi_chain.specs.Pieces.{piece_bytes}
use Rattle.myi_chain.specs.ScanModel.{as_items}
use Rattle.myi_order.proofs.ReadLaws.{answered_of, reads, lists_read}
use Rattle.myi_order.proofs.rows_read.RowsRead.read.Goals as goal

-- four bytes count the bytes of an answered row
counted : (p : Piece) (b : List ℕ) → b ≡ piece_bytes p → length (piece_bytes p) < 2 ^ 32 → length b < 2 ^ 32
counted p b is few = omega (arith, few, ap (λ (x : List ℕ). length x) is)

pub view_packed-row-requires-clause-sound : goal.view_packed-row-requires-clause-sound
view_packed-row-requires-clause-sound g c = sound c.args.defs.now c.requires.defs

pub view_packed-row-requires-clause-packed : goal.view_packed-row-requires-clause-packed
view_packed-row-requires-clause-packed g c =
    let says = subst (λ o. FindsInTable Rows (g.F.Files.holds c.args.files.now) c.args.scan.now (as_items (Ok o))) c.in-Some.is c.in_ok-at.ensures.says in
    subst (λ d. packs d c.bytes.result.now ≡ true) c.requires.test (ap (packs c.args.scan.now.test) c.bytes.ensures ∙ says.packs.0)

pub push-requires-clause-sound : goal.push-requires-clause-sound
push-requires-clause-sound g c = sound c.args.defs.now c.requires.defs

pub push-requires-clause-row : goal.push-requires-clause-row
push-requires-clause-row g c =
    let says = subst (λ o. FindsInTable Rows (g.F.Files.holds c.args.files.now) c.args.scan.now (as_items (Ok o))) c.in-Some.is c.in_ok-at.ensures.says in
    row-fits c.args.defs.now c.view_packed-row.result c.bytes.result.now (sound c.args.defs.now c.requires.defs) c.view_packed-row.ensures.packs (λ _. counted c.in-Some.piece c.bytes.result.now c.bytes.ensures says.counted)

pub push-requires-clause-all : goal.push-requires-clause-all
push-requires-clause-all g c = lists_read c.args.defs.now c.requires.read.0 c.args.self.now c.requires.read.1

pub returns-clause-read : goal.returns-clause-read
returns-clause-read g c =
    let found : ℕ × Piece = (c.in-Some.at, c.in-Some.piece) in
    let h = g.F.Files.holds c.args.files.now in
    let new = c.next_row.follows.lender-at-none in
    let answer = answered_of h c.args.scan.now new _ _ found c.in_ok-at.was c.in-Some.is c.next_row.follows.holds-at-none in
    reads c.args.defs.now h c.args.scan.now new found c.view_packed-row.result c.bytes.result.now c.args.self.now _ c.requires.test answer c.bytes.ensures c.view_packed-row.ensures.found c.in_ok-push.ensures c.in_ok-self.ensures
