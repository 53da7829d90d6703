use Rattle.std.proofs.Common.{◌≡◌, ◌∙◌, ℕ, List, length, [], ap, sym, subst, unwrap_or}
use Rattle.myi_pack.specs.Unpacking.{row_of}
use Rattle.myi_check.proofs.ReadLaws.{IsRowFrom, row_met}
use Rattle.myi_check.proofs.row_reads.has_row.Goals as goal

pub returns-clause-row : goal.returns-clause-row
returns-clause-row g c = λ is m held x file scanned.
    let d = c.args.key.now.defs.now in
    let at = c.args.pair.now.row in
    let has = c.in_ok-is.ensures is in
    let there : unwrap_or (m c.args.key.now.file.name.now) [] ≡ x = ap (λ o. unwrap_or o []) file in
    let bytes = c.read.new.self.row.items in
    let told : IsRowFrom x at bytes = subst (λ (t : List ℕ). IsRowFrom t at bytes) there (c.in_ok-read.ensures.row c.if-not-branch.false m held (ap (λ (t : List ℕ). length t) there ∙ sym scanned.long)) in
    row_met d c.args.key.now.number c.args.pair.now x bytes c.args.key.now.file.places.now has.0 c.requires.format scanned.places (c.is_among.ensures c.if-not-is_among.false) told (ap (λ (b : List ℕ). row_of d b) (sym c.as_slice-row.ensures.value) ∙ has.1) has.2
