use Rattle.std.proofs.Common.{◌≡◌, ap, sym, not, arith}
use Rattle.myi_keypage.specs.Page.{page_with, is_node}
use Rattle.myi_keypage.proofs.ShownIn.{page_is}
use Rattle.myi_keypage.proofs.WriteLaws.{used_is, used_page, written}
use Rattle.myi_keypage.proofs.write.write_page_of.Goals as goal

pub put_body-used-requires-clause-room : goal.put_body-used-requires-clause-room
put_body-used-requires-clause-room g c = omega (arith, used_page c.args.rec_ref (g.L.EntryList.entries c.args.entries.now) c.args.children.now c.requires.branching)

pub returns-clause-written : goal.returns-clause-written
returns-clause-written g c =
    let u = used_page c.args.rec_ref (g.L.EntryList.entries c.args.entries.now) c.args.children.now c.requires.branching in
    let node : is_node (page_with (g.L.EntryList.entries c.args.entries.now) c.args.children.now) ≡ not c.is_empty.result =
    (used_is c.args.rec_ref (not c.is_empty.result) (g.L.EntryList.entries c.args.entries.now) c.args.children.now c.requires.branching (ap not (sym c.is_empty.ensures))).1 in
    written c.args.rec_ref (page_with (g.L.EntryList.entries c.args.entries.now) c.args.children.now) c.args.into.now c.put_body-used.new.into c.put_head.new.into c.put_zeros.new.into (not c.is_empty.result) c.put_body-used.result
    (omega (arith, u, c.requires.fits)) node c.put_body-used.ensures (omega arith) c.put_head.ensures (omega arith) c.put_zeros.ensures

pub returns-clause-page : goal.returns-clause-page
returns-clause-page g c =
    let u = used_page c.args.rec_ref (g.L.EntryList.entries c.args.entries.now) c.args.children.now c.requires.branching in
    record {
      has = record { some = c.requires.some; rows = c.requires.rows; places = c.requires.places; used = omega (arith, c.requires.fits, c.requires.limit) };
      branching = c.requires.branching;
      text = (_, returns-clause-written g c);
    }

pub returns-clause-read : goal.returns-clause-read
returns-clause-read g c = page_is _ _ _ (returns-clause-page g c)
