use Rattle.std.proofs.Common.{◌≡◌, ◌∙◌, List, length, refl, sym, ap, arith}
use Rattle.std.proofs.lemmas.List.{length-map}
use Rattle.myi_base.specs.Holding.{Told, OthersStay}
use Rattle.myi_base.proofs.CallerLemmas.{told_more, told_then}
use Rattle.myi_btree.specs.declared.place.Place.{Place}
use Rattle.myi_chain.specs.ScanModel.{fresh_scan}
use Rattle.myi_data.specs.Scanning.{TableScan}
use Rattle.myi_defs.specs.declared.types.Defs.{Defs}
use Rattle.myi_defs.proofs.CallerLemmas.{sound}
use Rattle.myi_repair.specs.Names.{names_of}
use Rattle.myi_repair.proofs.CallerLemmas.{short_enough}
use Rattle.myi_saferepair.specs.declared.filling.Filled.{Filled}
use Rattle.myi_saferepair.specs.Filling.{WritesBoth}
use Rattle.myi_saferepair.proofs.TakeLaws.{fit_long}
use Rattle.myi_saferepair.proofs.FillLaws.{ahead_storable, begins_still, fills, filled_as, filled_of}
use Rattle.myi_saferepair.proofs.filling.fill.Goals as goal

pub of_file-requires : goal.of_file-requires
of_file-requires g c = sound c.args.opened.defs c.requires.defs

pub take_rows-requires-clause-current : goal.take_rows-requires-clause-current
take_rows-requires-clause-current g c κs within =
    let t = names_of c.args.table.now in
    let d = c.args.opened.defs in
    let index = c.as_str-index.result.now in
    let before = g.F.Files.holds c.args.files.now in
    let mid = g.F.Files.holds c.cut.new.self in
    let is = c.in_ok-scan.ensures ∙ ap (λ n. fresh_scan n d c.args.extend c.args.opened.length) c.as_str.ensures.value in
    let others : Told before mid (OthersStay index) = told_more _ _ _ _ c.in_ok-cut.ensures.ok (λ m n held cut. cut.others) in
    begins_still t d c.args.extend c.args.opened.length c.in_ok-scan.scan index before mid is (λ e. c.requires.apart.rows-new_index (e ∙ c.as_str-index.ensures.value)) c.requires.table others

pub take_rows-requires-clause-short : goal.take_rows-requires-clause-short
take_rows-requires-clause-short g c κs within =
    let end : c.in_ok-scan.scan.end ≡ c.args.opened.length = ap (λ (s : TableScan). s.end) c.in_ok-scan.ensures in
    omega (arith, end, short_enough c.args.opened.defs c.args.opened.length c.requires.reached)

pub take_rows-requires-clause-storable : goal.take_rows-requires-clause-storable
take_rows-requires-clause-storable g c κs within =
    let t = names_of c.args.table.now in
    let d = c.args.opened.defs in
    let index = c.as_str-index.result.now in
    let before = g.F.Files.holds c.args.files.now in
    let mid = g.F.Files.holds c.cut.new.self in
    let is = c.in_ok-scan.ensures ∙ ap (λ n. fresh_scan n d c.args.extend c.args.opened.length) c.as_str.ensures.value in
    let others : Told before mid (OthersStay index) = told_more _ _ _ _ c.in_ok-cut.ensures.ok (λ m n held cut. cut.others) in
    ahead_storable t d c.args.extend c.args.opened.length c.in_ok-scan.scan index before mid c.requires.defs is (λ e. c.requires.apart.rows-new_index (e ∙ c.as_str-index.ensures.value)) c.requires.table (λ m held. g.met.F.Files.told_bytes c.args.files.now m held) others

pub returns-in_err-repeats-clause-others : goal.returns-in_err-repeats-clause-others
returns-in_err-repeats-clause-others g c =
    let rows_named = c.as_str-file.ensures.value in
    let index_named = c.as_str-index.ensures.value in
    let fresh_named = c.in_ok-new.ensures.fresh.name in
    told_then _ _ _ _ _ _ c.in_ok-cut.ensures.ok c.take_rows.ensures.others
    (λ m k n cut took q a b. took q (λ e. a (e ∙ rows_named)) (λ e. b (e ∙ fresh_named ∙ index_named)) ∙ cut.others q (λ e. b (e ∙ index_named)))

pub returns-in_err-roots-clause-others : goal.returns-in_err-roots-clause-others
returns-in_err-roots-clause-others g c =
    let t = names_of c.args.table.now in
    let rows_named = c.as_str-file.ensures.value in
    let index_named = c.as_str-index.ensures.value in
    let fresh_named = c.in_ok-new.ensures.fresh.name in
    let took_named = c.in_ok-repeats.ensures.name in
    let first : Told (g.F.Files.holds c.args.files.now) (g.F.Files.holds c.take_rows.new.files) (WritesBoth t.new_rows t.new_index) = told_then _ _ _ _ _ _ c.in_ok-cut.ensures.ok c.take_rows.ensures.others
    (λ m k n cut took q a b. took q (λ e. a (e ∙ rows_named)) (λ e. b (e ∙ fresh_named ∙ index_named)) ∙ cut.others q (λ e. b (e ∙ index_named))) in
    told_then _ _ _ _ _ _ first c.write_trees.ensures.others (λ m k n one two q a b. two q (λ e. b (e ∙ took_named ∙ fresh_named ∙ index_named)) ∙ one q a b)

pub returns-clause-filled : goal.returns-clause-filled
returns-clause-filled g c =
    let t = names_of c.args.table.now in
    let d = c.args.opened.defs in
    let end = c.args.opened.length in
    let index = c.as_str-index.result.now in
    let before = g.F.Files.holds c.args.files.now in
    let mid = g.F.Files.holds c.cut.new.self in
    let then = g.F.Files.holds c.take_rows.new.files in
    let after = g.F.Files.holds c.write_trees.new.files in
    let last = c.write_trees.new.self in
    let repeats = c.in_ok-repeats.repeats in
    let roots = c.in_ok-roots.roots.items in
    let is = c.in_ok-scan.ensures ∙ ap (λ n. fresh_scan n d c.args.extend end) c.as_str.ensures.value in
    let others : Told before mid (OthersStay index) = told_more _ _ _ _ c.in_ok-cut.ensures.ok (λ m n held cut. cut.others) in
    let took = c.in_ok-repeats.ensures in
    let wrote = c.in_ok-roots.ensures in
    let gathered = c.gathered_of-gathered.ensures in
    let filled : Filled = record { gathered = c.gathered_of-gathered.result; roots = c.in_ok-roots.roots; end = c.end-end.result } in
    filled_as t c.args.extend d (filled_of last repeats end) last.rows.split roots last.trees.room.end filled before after gathered.defs gathered.report gathered.split refl c.end-end.ensures
    (fills t d c.args.extend end c.in_ok-scan.scan c.as_str-file.result.now index c.in_ok-new.new c.take_rows.new.new last repeats roots before mid then after c.requires.defs (sound d c.requires.defs) is c.as_str-file.ensures.value c.as_str-index.ensures.value
    c.requires.apart.rows-new_index c.requires.apart.new_rows-new_index c.requires.reached c.requires.table (λ m held. g.met.F.Files.told_bytes c.args.files.now m held) others c.in_ok-new.ensures.fresh took.took took.fit.kinds (took.name ∙ c.in_ok-new.ensures.fresh.name)
    wrote.stand wrote.others wrote.places wrote.name wrote.rows wrote.written wrote.full wrote.roots)

pub returns-clause-roots : goal.returns-clause-roots
returns-clause-roots g c =
    let d = c.args.opened.defs in
    let wrote = c.in_ok-roots.ensures in
    let each : length c.write_trees.new.self.trees.places ≡ length d.keys = ap (λ (ps : List Place). length ps) wrote.places ∙ fit_long d c.take_rows.new.new.trees.places c.in_ok-repeats.ensures.fit.kinds in
    ap (λ rs. length rs) wrote.roots ∙ length-map c.write_trees.new.self.trees.places (λ (p : Place). p.root) ∙ each ∙ ap (λ (x : Defs). length x.keys) (sym c.gathered_of-gathered.ensures.defs)

pub returns-clause-others : goal.returns-clause-others
returns-clause-others g c =
    let t = names_of c.args.table.now in
    let rows_named = c.as_str-file.ensures.value in
    let index_named = c.as_str-index.ensures.value in
    let fresh_named = c.in_ok-new.ensures.fresh.name in
    let took_named = c.in_ok-repeats.ensures.name in
    let first : Told (g.F.Files.holds c.args.files.now) (g.F.Files.holds c.take_rows.new.files) (WritesBoth t.new_rows t.new_index) = told_then _ _ _ _ _ _ c.in_ok-cut.ensures.ok c.take_rows.ensures.others
    (λ m k n cut took q a b. took q (λ e. a (e ∙ rows_named)) (λ e. b (e ∙ fresh_named ∙ index_named)) ∙ cut.others q (λ e. b (e ∙ index_named))) in
    told_then _ _ _ _ _ _ first c.write_trees.ensures.others (λ m k n one two q a b. two q (λ e. b (e ∙ took_named ∙ fresh_named ∙ index_named)) ∙ one q a b)
