use Rattle.std.proofs.Common.{◌≡◌, not, true, false, refl, sym, ap, ◌∙◌, length}
use Rattle.std.specs.List.{list_any}
use Rattle.myi_keylist.specs.Classes.{share_class}
use Rattle.myi_keylist.proofs.ClassLaws.{repeats_kept}
use Rattle.myi_keylist.proofs.class_numbers.keep_row.Goals as goal

pub returns-then-repeats_taken-clause-kept : goal.returns-then-repeats_taken-clause-kept
returns-then-repeats_taken-clause-kept c = λ kept are.
    let found = repeats_kept c.args.columns.now c.args.taken.now kept c.args.row (length c.args.taken.now) refl c.requires are in
    let e : list_any (share_class c.args.columns.now c.args.row) kept ≡ true = sym found ∙ sym c.repeats_taken.ensures ∙ c.if-repeats_taken.true in
    sym (ap not e)

pub returns-clause-kept : goal.returns-clause-kept
returns-clause-kept c = λ kept are.
    let found = repeats_kept c.args.columns.now c.args.taken.now kept c.args.row (length c.args.taken.now) refl c.requires are in
    let e : list_any (share_class c.args.columns.now c.args.row) kept ≡ false = sym found ∙ sym c.repeats_taken.ensures ∙ c.if-repeats_taken.false in
    sym (ap not e)
