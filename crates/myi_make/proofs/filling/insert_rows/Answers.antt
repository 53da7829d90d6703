use Rattle.std.proofs.Common.{◌≡◌, ◌⊎◌, ◌≤◌, ◌+◌, ◌%◌, ◌==◌, ◌++◌, ◌∙◌, ℕ, [], None, length, true, refl, sym, ap, subst, arith}
use Rattle.std.specs.Prelude.{IfErr}
use Rattle.std.proofs.lemmas.Result.{err_from_is_err_and}
use Rattle.myi_base.specs.Holding.{Told}
use Rattle.myi_defs.specs.declared.types.Defs.{Defs}
use Rattle.myi_pack.specs.Packed.{Values}
use Rattle.myi_pack.specs.Spelling.{fits, spelling}
use Rattle.myi_table.specs.Table.{defs_in}
use Rattle.myi_make.specs.Faults.{CutsOff}
use Rattle.myi_make.specs.MadeTable.{defs, next_number, row_of, row_block}
use Rattle.myi_make.specs.Filling.{if_tenth}
use Rattle.myi_make.proofs.SizeLaws.{row_fits, row_short}
use Rattle.myi_make.proofs.RowsLaws.{SoFar, none_yet, one_more, row_refused, all_put, kept_first, same_first, same_then, others_first, others_then}
use Rattle.myi_make.proofs.filling.insert_rows.Goals as goal

fits_made : (d : Defs) (row : Values) (i x : ℕ) → d ≡ defs → row ≡ row_of i x → fits d row ≡ true
fits_made d row i x is made = ap (λ (e : Defs). fits e row) is ∙ ap (fits defs) made ∙ row_fits i x

short_made : (row : Values) (i x : ℕ) → row ≡ row_of i x → length (spelling defs row) ≤ 248
short_made row i x made = subst (λ (r : Values). length (spelling defs r) ≤ 248) (sym made) (row_short i x)

pub loop-i-init : goal.loop-i-init
loop-i-init g c =
    let told = g.F.Files.holds c.args.files.now in
    record {
      later = omega arith;
      whole = c.requires.whole;
      kept = kept_first c.args.table.now told c.requires.empty;
      same = same_first c.args.table.now;
      others = others_first c.args.table.now told;
      so_far = none_yet c.args.table.now c.args.count c.args.seed c.in_ok-blocks.blocks.items told c.in_ok-blocks.ensures.items c.requires.empty;
    }

pub insert_row-requires-clause-fits : goal.insert_row-requires-clause-fits
insert_row-requires-clause-fits g c κs lives = fits_made (defs_in c.loop-i.table) c.in_ok-row.row _ _ (c.loop-i.invariant.same.defs ∙ c.requires.own) c.in_ok-row.ensures

pub note_tenth-requires-clause-fits : goal.note_tenth-requires-clause-fits
note_tenth-requires-clause-fits g c = fits_made defs c.in_ok-row.row _ _ refl c.in_ok-row.ensures

pub note_tenth-requires-clause-short : goal.note_tenth-requires-clause-short
note_tenth-requires-clause-short g c = short_made c.in_ok-row.row _ _ c.in_ok-row.ensures

pub loop-i-preserved : goal.loop-i-preserved
loop-i-preserved g c =
    let was = c.loop-i.invariant in
    let t = c.loop-i.table in
    let u = c.insert_row.new.table in
    let begin = g.F.Files.holds c.args.files.now in
    let mid = g.F.Files.holds c.loop-i.files in
    let end = g.F.Files.holds c.insert_row.new.files in
    let row : c.in_ok-row.row ≡ row_of (c.loop-i.i + 1) (next_number c.loop-i.x) = c.in_ok-row.ensures ∙ ap (row_of (c.loop-i.i + 1)) c.next_number-x.ensures in
    let noted = c.in_ok-note_tenth.ensures ∙ ap (λ (r : Values). c.loop-i.blocks.items ++ if_tenth ((c.loop-i.i + 1) % 10 == 0) (c.in_ok-at.at, length (row_block r)) []) row in
    record {
      later = omega (arith, was.later, c.insert_row.ensures.cause.later);
      whole = c.in_ok-at.ensures.whole;
      kept = c.insert_row.ensures.kept;
      same = same_then c.args.table.now t u was.same c.insert_row.ensures.same;
      others = others_then c.args.table.now t begin mid end was.same.name was.others c.insert_row.ensures.others;
      so_far =
          subst (λ (x : ℕ). Told begin end (λ m n. SoFar u c.args.count c.args.seed (c.loop-i.i + 1) x c.note_tenth.new.blocks.items n)) (sym c.next_number-x.ensures)
          (one_more t u c.args.count c.args.seed c.loop-i.i c.loop-i.x c.in_ok-at.at _ c.loop-i.blocks.items c.note_tenth.new.blocks.items c.in_ok-row.row begin mid end c.loop-i-test.true c.requires.few (was.same.defs ∙ c.requires.own) row c.insert_row.ensures.file c.insert_row.ensures.same.name c.in_ok-at.ensures.taken
          c.in_ok-at.ensures.added c.in_ok-at.ensures.end refl noted was.so_far);
    }

pub returns-in_err-at-clause-refused : goal.returns-in_err-at-clause-refused
returns-in_err-at-clause-refused g c =
    let was = c.loop-i.invariant in
    let begin = g.F.Files.holds c.args.files.now in
    let mid = g.F.Files.holds c.loop-i.files in
    let e = err_from_is_err_and c.from_residual-in_err-at.result c.from_residual-in_err-at.ensures.1 in
    let row : c.in_ok-row.row ≡ row_of (c.loop-i.i + 1) (next_number c.loop-i.x) = c.in_ok-row.ensures ∙ ap (row_of (c.loop-i.i + 1)) c.next_number-x.ensures in
    subst (λ r. IfErr r (λ f. CutsOff f ⊎ (begin ≡ None))) (sym e.1)
    (subst (λ f. CutsOff f ⊎ (begin ≡ None)) (sym e.2)
    (row_refused c.loop-i.table c.args.count c.args.seed c.loop-i.i c.loop-i.x c.loop-i.blocks.items c.in_ok-row.row _ begin mid c.loop-i-test.true c.requires.few (was.same.defs ∙ c.requires.own) row c.insert_row.ensures.file was.so_far c.in_err-at.ensures.refused))

pub returns-in_err-at-clause-others : goal.returns-in_err-at-clause-others
returns-in_err-at-clause-others g c = others_then c.args.table.now c.loop-i.table _ _ _ c.loop-i.invariant.same.name c.loop-i.invariant.others c.insert_row.ensures.others

pub returns-in_err-note_tenth-clause-others : goal.returns-in_err-note_tenth-clause-others
returns-in_err-note_tenth-clause-others g c = others_then c.args.table.now c.loop-i.table _ _ _ c.loop-i.invariant.same.name c.loop-i.invariant.others c.insert_row.ensures.others

pub returns-clause-put : goal.returns-clause-put
returns-clause-put g c = all_put c.loop-i.table c.args.count c.args.seed c.loop-i.i c.loop-i.x c.loop-i.blocks.items _ _ (omega (arith, c.loop-i-test.false)) c.loop-i.invariant.so_far
