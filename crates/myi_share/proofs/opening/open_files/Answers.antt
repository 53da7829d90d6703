use Rattle.std.proofs.Common.{ℕ, List, string_bytes, ap, subst, ◌∙◌}
use Rattle.myi_opening.specs.Names.{rows_file, index_file}
use Rattle.myi_share.specs.Opening.{IsOpenedAs}
use Rattle.myi_share.proofs.OpenLemmas.{are_opened}
use Rattle.myi_share.proofs.opening.open_files.Goals as goal

pub returns-clause-told : goal.returns-clause-told
returns-clause-told g c = λ m told.
    let one = c.in_ok-open.field-0 in
    let other = c.in_ok-open-2.field-0 in
    let rows = c.in_ok-rows.ensures ∙ ap rows_file c.name.ensures.name in
    let index = c.in_ok-index.ensures ∙ ap index_file c.name-2.ensures.name in
    are_opened c.args.table.now m (string_bytes one.name) (string_bytes other.name) one.length other.length (g.F.Reader.FileReader.holds one.reader) (g.F.Reader.FileReader.holds other.reader) c.name.ensures.apart c.name.ensures.rows c.name.ensures.index (c.in_ok-open.ensures.name ∙ rows) (c.in_ok-open-2.ensures.name ∙ index)
    (subst (λ (q : List ℕ). IsOpenedAs q one.length (g.F.Reader.FileReader.holds one.reader) m) rows (c.in_ok-open.ensures.told m told))
    (subst (λ (q : List ℕ). IsOpenedAs q other.length (g.F.Reader.FileReader.holds other.reader) m) index (c.in_ok-open-2.ensures.told m (c.in_ok-open.ensures.holds ∙ told)))
