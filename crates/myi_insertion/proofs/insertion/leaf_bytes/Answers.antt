use Rattle.std.proofs.Common.{◌≡◌, ℕ, List, [], true, false, length, sym, ap, subst, ◌∙◌, arith}
use Rattle.std.specs.Prelude.{is_some}
use Rattle.myi_keys.specs.Codes.{key_code}
use Rattle.myi_keypage.specs.Page.{page_with, entry_with, IsPage}
use Rattle.myi_keylist.specs.declared.pair.Pair.{Pair}
use Rattle.myi_btree.specs.Nodes.{entry_of, entries_of, node_in}
use Rattle.myi_insertion.proofs.SplitLaws.{whole_buffer}
use Rattle.myi_insertion.proofs.LeafLaws.{whole_is, spot_page, spot_inside, leaf_read, leaf_full}
use Rattle.myi_insertion.proofs.SpotLaws.{page_leaf}
use Rattle.myi_insertion.proofs.insertion.leaf_bytes.Goals as goal

pub write_with-fits-requires-clause-leaf : goal.write_with-fits-requires-clause-leaf
write_with-fits-requires-clause-leaf c =
    let rec_ref : ℕ = c.args.task.now.setup.place.rec_ref in
    let o = c.requires.page in
    (o.entries, subst (λ (t : List ℕ). IsPage rec_ref t (page_with o.entries [])) (sym c.deref.ensures.value) (page_leaf rec_ref c.args.page.now.bytes.items c.args.page.now.spot o c.requires.leaf), o.inside)

pub returns-clause-bytes : goal.returns-clause-bytes
returns-clause-bytes c = λ pairs stands.
    let place = c.args.task.now.setup.place in
    let rec_ref : ℕ = place.rec_ref in
    let bytes : List ℕ = c.args.page.now.bytes.items in
    let p : Pair = c.args.task.now.pair.now in
    let r = c.requires.spot (ap is_some stands) in
    let page = subst (λ (t : List ℕ). IsPage rec_ref t (page_with (entries_of r.pairs) [])) (sym c.deref.ensures.value) (spot_page rec_ref bytes p c.args.page.now.spot r c.requires.leaf) in
    let le = spot_inside rec_ref bytes p c.args.page.now.spot r in
    let one : entry_with c.code.result.now p.row ≡ entry_of p = ap (λ (t : List ℕ). entry_with t p.row) c.code.ensures.value in
    let len : length c.in_ok-bytes.bytes.items ≡ place.block_length = sym c.in_ok-bytes.bytes.ok.0 ∙ c.in_ok-bytes.ensures.len in
    let whole = whole_is c.write_with-fits.new.into c.in_ok-bytes.bytes.items c.in_ok-bytes.bytes.len c.in_ok-bytes.bytes.ok.0 (c.write_with-fits.ensures.long ∙ ap length c.deref_mut.ensures.value) in
    ap (node_in rec_ref) whole
    ∙ leaf_read place bytes c.write_with-fits.new.into p c.args.page.now.spot c.code.result.now p.row (length c.deref_mut.result.now) pairs c.laid_pages_are_written.ensures.read c.requires.placed r c.requires.leaf c.requires.row c.code.ensures.key one (ap length c.deref_mut.ensures.value ∙ len)
    ((c.write_with-fits.ensures.fits (entries_of r.pairs) page le).0 c.if-not-fits.false) (c.write_with-fits.ensures.written (entries_of r.pairs) page le c.if-not-fits.false) stands

pub returns-clause-long : goal.returns-clause-long
returns-clause-long c =
    let len : length c.in_ok-bytes.bytes.items ≡ c.args.task.now.setup.place.block_length = sym c.in_ok-bytes.bytes.ok.0 ∙ c.in_ok-bytes.ensures.len in
    whole_buffer c.write_with-fits.new.into c.in_ok-bytes.bytes.items c.in_ok-bytes.bytes.len c.in_ok-bytes.bytes.ok.0 (c.write_with-fits.ensures.long ∙ ap length c.deref_mut.ensures.value) ∙ len

pub returns-then-not-fits-clause-full : goal.returns-then-not-fits-clause-full
returns-then-not-fits-clause-full c = λ pairs stands.
    let place = c.args.task.now.setup.place in
    let rec_ref : ℕ = place.rec_ref in
    let bytes : List ℕ = c.args.page.now.bytes.items in
    let p : Pair = c.args.task.now.pair.now in
    let r = c.requires.spot (ap is_some stands) in
    let page = subst (λ (t : List ℕ). IsPage rec_ref t (page_with (entries_of r.pairs) [])) (sym c.deref.ensures.value) (spot_page rec_ref bytes p c.args.page.now.spot r c.requires.leaf) in
    let le = spot_inside rec_ref bytes p c.args.page.now.spot r in
    let one : entry_with c.code.result.now p.row ≡ entry_of p = ap (λ (t : List ℕ). entry_with t p.row) c.code.ensures.value in
    let len : length c.in_ok-bytes.bytes.items ≡ place.block_length = sym c.in_ok-bytes.bytes.ok.0 ∙ c.in_ok-bytes.ensures.len in
    leaf_full rec_ref bytes p c.args.page.now.spot c.code.result.now p.row (length c.deref_mut.result.now) place.block_length pairs r one (ap length c.deref_mut.ensures.value ∙ len)
    (λ fits. absurd (let k : false ≡ true = sym c.if-not-fits.true ∙ (c.write_with-fits.ensures.fits (entries_of r.pairs) page le).1 fits in cc)) stands
