use Rattle.std.proofs.Common.{◌≡◌, ◌∙◌, ℕ, List, length, arith, refl}
use Rattle.myi_dellist.specs.Rows.{row_written}
use Rattle.myi_dellist.specs.Planning.{next_bytes, rest_bytes}
use Rattle.myi_dellist.proofs.BeyondLemmas.{IsInList, three-writes, ends-told}
use Rattle.myi_dellist.specs.declared.taking.ListEnds.{ListEnds}
use Rattle.myi_dellist.proofs.AtEndLemmas.{in_ready}
use Rattle.myi_dellist.proofs.TakeLemmas.{some_is}
use Rattle.myi_dellist.specs.Placing.{fits}
use Rattle.myi_frames.specs.declared.head.Head.{Head}
use Rattle.std.specs.Prelude.{true}
use Rattle.myi_dellist.proofs.rows.put_beyond.Goals as goal

pub write_pieces-requires-clause-blocks : goal.write_pieces-requires-clause-blocks
write_pieces-requires-clause-blocks g c κs within =
    let t = c.in_ok-taken.taken in
    let e = some_is (λ (h : Head). fits t.left h.size ≡ true) t.next c.in-Some.hole c.in-Some.is c.in_ok-taken.ensures.fits in
    (in_ready (length c.args.packed.now) c.args.room.list.end c.take_full.new.pieces.items c.deref.result.now t c.in-Some.hole (c.deref.ensures.value ∙ c.in_ok-plan.ensures.pieces) c.requires.few (omega arith) c.in_ok-taken.ensures.run c.in-Some.is e).writable

pub write_pieces-requires-clause-whole : goal.write_pieces-requires-clause-whole
write_pieces-requires-clause-whole g c κs within =
    let t = c.in_ok-taken.taken in
    let e = some_is (λ (h : Head). fits t.left h.size ≡ true) t.next c.in-Some.hole c.in-Some.is c.in_ok-taken.ensures.fits in
    (in_ready (length c.args.packed.now) c.args.room.list.end c.take_full.new.pieces.items c.deref.result.now t c.in-Some.hole (c.deref.ensures.value ∙ c.in_ok-plan.ensures.pieces) c.requires.few (omega arith) c.in_ok-taken.ensures.run c.in-Some.is e).counts

pub write_pieces-requires-clause-below : goal.write_pieces-requires-clause-below
write_pieces-requires-clause-below g c κs within =
    let t = c.in_ok-taken.taken in
    let e = some_is (λ (h : Head). fits t.left h.size ≡ true) t.next c.in-Some.hole c.in-Some.is c.in_ok-taken.ensures.fits in
    (in_ready (length c.args.packed.now) c.args.room.list.end c.take_full.new.pieces.items c.deref.result.now t c.in-Some.hole (c.deref.ensures.value ∙ c.in_ok-plan.ensures.pieces) c.requires.few (omega arith) c.in_ok-taken.ensures.run c.in-Some.is e).below

pub returns-clause-ok : goal.returns-clause-ok
returns-clause-ok g c =
    let name = c.args.name.now in
    let row = c.args.packed.now in
    let list = c.args.room.list in
    let t = c.in_ok-taken.taken in
    let h = c.in-Some.hole in
    let plan = c.in_ok-plan.plan in
    let ps = c.take_full.new.pieces.items in
    let qs = c.deref.result.now in
    let new : ListEnds = record { head = c.head_by.result; end = list.end } in
    let same = c.in_ok-plan.ensures.holds ∙ c.in_ok-taken.ensures.holds in
    let i : IsInList list.end list.head (length row) ps qs t h plan new = record {
      run = c.in_ok-taken.ensures.run;
      next_is = c.in-Some.is;
      fits_in = some_is (λ (h : Head). fits t.left h.size ≡ true) t.next h c.in-Some.is c.in_ok-taken.ensures.fits;
      pieces = c.deref.ensures.value ∙ c.in_ok-plan.ensures.pieces;
      head_is = c.head_by.ensures;
      end_is = refl;
    } in
    ends-told name row list new (g.F.Files.holds c.args.files.now) (g.F.Files.holds c.write_rest.new.files) c.args.pieces.now.items ps qs c.args.left t h plan i
    c.in_ok-taken.ensures.told (λ m held long. c.in_ok-plan.ensures.told m (c.in_ok-taken.ensures.holds ∙ held) long)
    (three-writes name (g.F.Files.holds c.args.files.now) (g.F.Files.holds c.plan_last.new.files) (g.F.Files.holds c.write_first.new.files) (g.F.Files.holds c.write_pieces.new.files) (g.F.Files.holds c.write_rest.new.files) (λ (d : List ℕ). next_bytes plan.next d) (λ (d : List ℕ). row_written qs row d) (λ (d : List ℕ). rest_bytes plan.rest d) same c.in_ok-write_first.ensures.ok c.in_ok-write_pieces.ensures.ok c.in_ok-write_rest.ensures.ok)
