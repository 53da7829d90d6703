use Rattle.std.proofs.Common.{◌+◌, ◌-◌, ◌*◌, ◌%◌, ℕ, [], length, get_or, drop, refl, arith}
use Rattle.std.proofs.lemmas.List.{length-take, length-drop}
use Rattle.myi_keypage.specs.Page.{page_with, entry_with}
use Rattle.myi_keypage.proofs.PageIs.{expected}
use Rattle.myi_keypage.proofs.PutInLaws.{leaf_entries, page_with_entry}
use Rattle.myi_keypage.proofs.put_in.write_with.Goals as goal

pub bounds-page-0 : goal.bounds-page-0
bounds-page-0 c = let r = c.requires.leaf in omega (arith, (expected c.args.rec_ref c.args.page.now (page_with r.0 []) r.1).two)

pub bounds-page-1 : goal.bounds-page-1
bounds-page-1 c = let r = c.requires.leaf in omega (arith, (expected c.args.rec_ref c.args.page.now (page_with r.0 []) r.1).two)

pub write_in-requires-clause-entries : goal.write_in-requires-clause-entries
write_in-requires-clause-entries c = let r = c.requires.leaf in (r.0, leaf_entries c.args.rec_ref c.args.page.now r.0 _ refl r.1, r.2)

pub write_in-requires-2-clause-entries : goal.write_in-requires-2-clause-entries
write_in-requires-2-clause-entries c = let r = c.requires.leaf in (r.0, leaf_entries c.args.rec_ref c.args.page.now r.0 _ refl r.1, r.2)

pub returns-then-used-le-FEW_WRITTEN-clause-fits : goal.returns-then-used-le-FEW_WRITTEN-clause-fits
returns-then-used-le-FEW_WRITTEN-clause-fits c = λ es page le. c.write_in.ensures.fits es (leaf_entries c.args.rec_ref c.args.page.now es _ refl page) le

pub returns-clause-fits : goal.returns-clause-fits
returns-clause-fits c = λ es page le. c.write_in-2.ensures.fits es (leaf_entries c.args.rec_ref c.args.page.now es _ refl page) le

pub returns-then-used-le-FEW_WRITTEN-clause-written : goal.returns-then-used-le-FEW_WRITTEN-clause-written
returns-then-used-le-FEW_WRITTEN-clause-written c = λ es page le yes. c.write_in.ensures.written es (leaf_entries c.args.rec_ref c.args.page.now es _ refl page) le yes

pub returns-clause-written : goal.returns-clause-written
returns-clause-written c = λ es page le yes. c.write_in-2.ensures.written es (leaf_entries c.args.rec_ref c.args.page.now es _ refl page) le yes

pub returns-then-used-le-FEW_WRITTEN-clause-page : goal.returns-then-used-le-FEW_WRITTEN-clause-page
returns-then-used-le-FEW_WRITTEN-clause-page c = λ es page le yes.
    let are = leaf_entries c.args.rec_ref c.args.page.now es _ refl page in
    page_with_entry c.args.rec_ref c.args.page.now c.write_in.new.into es c.args.index (entry_with c.args.entry.now.key.now c.args.entry.now.row) _ (length c.args.into.now) page c.requires.row ((c.write_in.ensures.fits es are le).0 yes) c.requires.limit (c.write_in.ensures.written es are le yes)

pub returns-clause-page : goal.returns-clause-page
returns-clause-page c = λ es page le yes.
    let are = leaf_entries c.args.rec_ref c.args.page.now es _ refl page in
    page_with_entry c.args.rec_ref c.args.page.now c.write_in-2.new.into es c.args.index (entry_with c.args.entry.now.key.now c.args.entry.now.row) _ (length c.args.into.now) page c.requires.row ((c.write_in-2.ensures.fits es are le).0 yes) c.requires.limit (c.write_in-2.ensures.written es are le yes)

pub slice_bounds-all-count : goal.slice_bounds-all-count
slice_bounds-all-count c =
    let r = c.requires.leaf in
    let x = expected c.args.rec_ref c.args.page.now (page_with r.0 []) r.1 in
    omega (arith, x.used, x.most, x.two)

pub slice_bounds-all-start : goal.slice_bounds-all-start
slice_bounds-all-start c =
    let r = c.requires.leaf in
    let x = expected c.args.rec_ref c.args.page.now (page_with r.0 []) r.1 in
    omega (arith, x.used, x.most, x.two)

pub slice_bounds-all-end : goal.slice_bounds-all-end
slice_bounds-all-end c =
    let r = c.requires.leaf in
    let x = expected c.args.rec_ref c.args.page.now (page_with r.0 []) r.1 in
    omega (arith, x.used, x.most, x.two)

pub write_in-requires-clause-room : goal.write_in-requires-clause-room
write_in-requires-clause-room c =
    let r = c.requires.leaf in
    let x = expected c.args.rec_ref c.args.page.now (page_with r.0 []) r.1 in
    let used : ℕ = get_or c.args.page.now 0 0 % 128 * 256 + get_or c.args.page.now 1 0 in
    omega (arith, x.used, x.most, x.two, c.requires.room, length-take (used - 2) (drop 2 c.args.page.now), length-drop 2 c.args.page.now)
