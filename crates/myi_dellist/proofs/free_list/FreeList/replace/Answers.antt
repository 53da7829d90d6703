use Rattle.std.proofs.Common.{◌≡◌, ◌∙◌, ◌-◌, ◌^◌, List, length, true, Err, sym, ap, subst, rules, arith}
use Rattle.std.specs.List.{AllByRecursion}
use Rattle.std.proofs.lemmas.Result.{err_from_is_err_and}
use Rattle.myi_frames.specs.declared.head.Head.{Head}
use Rattle.myi_dellist.specs.declared.pieces.Piece.{Piece}
use Rattle.myi_dellist.specs.declared.rows.Replaced.{Replaced}
use Rattle.myi_dellist.specs.declared.taking.ListEnds.{ListEnds}
use Rattle.myi_dellist.specs.Areas.{Area}
use Rattle.myi_dellist.specs.Placing.{areas_of, own_areas, specs_of, taken_by, AreWritable}
use Rattle.myi_dellist.specs.Rows.{AreBelow}
use Rattle.myi_dellist.specs.Freeing.{IsLinkable}
use Rattle.myi_dellist.specs.FreeList.{ListState}
use Rattle.myi_dellist.specs.Freed.{parts_in, IsPart}
use Rattle.myi_dellist.proofs.FreeLemmas.{IsOf}
use Rattle.myi_base.specs.Holding.{IfTold}
use Rattle.myi_dellist.specs.Taking.{HasTaken}
use Rattle.myi_dellist.specs.Placing.{take_from}
use Rattle.myi_dellist.specs.Replacing.{own_taking, own_released, TalliesReplaced}
use Rattle.myi_dellist.proofs.FreedRowLemmas.{heads-ready, told-added}
use Rattle.myi_dellist.proofs.ReplacedLemmas.{replaced_of, tallies-fills, tallies-ends}
use Rattle.myi_dellist.proofs.RewriteLemmas.{own-ready, own-run, own-written, own-parts, told-again, told-fills, told-bad}
use Rattle.myi_dellist.proofs.free_list.FreeList.replace.Goals as goal

pub take_own-requires-clause-usable : goal.take_own-requires-clause-usable
take_own-requires-clause-usable g c =
    let len = length c.args.packed.now in
    let own = c.read_row.new.own.items in
    let areas = c.deref-3.result.now in
    let is : areas_of areas ≡ own_areas len (areas_of own) = ap areas_of c.deref-3.ensures.value ∙ c.in_ok-add_own.ensures.areas ∙ ap (λ (xs : List Piece). own_areas len (areas_of xs)) c.deref-2.ensures.value in
    (own-ready c.self.inside.end len own areas (search rules) c.in_ok-read_row.ensures.placed is).usable

pub take_own-requires-clause-below : goal.take_own-requires-clause-below
take_own-requires-clause-below g c =
    let len = length c.args.packed.now in
    let own = c.read_row.new.own.items in
    let areas = c.deref-3.result.now in
    let is : areas_of areas ≡ own_areas len (areas_of own) = ap areas_of c.deref-3.ensures.value ∙ c.in_ok-add_own.ensures.areas ∙ ap (λ (xs : List Piece). own_areas len (areas_of xs)) c.deref-2.ensures.value in
    (own-ready c.self.inside.end len own areas (search rules) c.in_ok-read_row.ensures.placed is).below

pub put_beyond-requires-clause-run : goal.put_beyond-requires-clause-run
put_beyond-requires-clause-run g c κs within =
    let len = length c.args.packed.now in
    let own = c.read_row.new.own.items in
    let areas = c.deref-3.result.now in
    let is : areas_of areas ≡ own_areas len (areas_of own) = ap areas_of c.deref-3.ensures.value ∙ c.in_ok-add_own.ensures.areas ∙ ap (λ (xs : List Piece). own_areas len (areas_of xs)) c.deref-2.ensures.value in
    own-run c.self.inside.end len c.in_ok-left.left areas c.take_own.new.pieces.items c.requires.some (omega (arith, c.if-left-gt0.true)) (own-ready c.self.inside.end len own areas (search rules) c.in_ok-read_row.ensures.placed is) c.in_ok-left.ensures.taken

pub returns-in_err-new-clause-damaged : goal.returns-in_err-new-clause-damaged
returns-in_err-new-clause-damaged g c =
    let len = length c.args.packed.now in
    let own = c.read_row.new.own.items in
    let areas = c.deref-3.result.now in
    let is : areas_of areas ≡ own_areas len (areas_of own) = ap areas_of c.deref-3.ensures.value ∙ c.in_ok-add_own.ensures.areas ∙ ap (λ (xs : List Piece). own_areas len (areas_of xs)) c.deref-2.ensures.value in
    let e = err_from_is_err_and c.from_residual-in_err-new.result c.from_residual-in_err-new.ensures.1 in
    let name : c.deref.result.now ≡ c.args.self.now.name = search rules in
    let o : IsOf c.args.self.now c.deref.result.now c.self.inside.end c.self.inside.head = record { name_is = name; end_is = ap (λ (l : ListState). l.end) c.self.view_is; head_is = ap (λ (l : ListState). l.head) c.self.view_is } in
    let list : ListEnds = record { head = c.self.inside.head; end = c.self.inside.end } in
    told-bad c.from_residual-in_err-new.result c.in_err-new.field-0.0 (g.F.Files.holds c.args.files.now) (g.F.Files.holds c.read_row.new.files) c.args.self.now c.deref.result.now c.deref-then-left-gt0.result.now list own areas c.take_own.new.pieces.items c.args.at len c.in_ok-left.left (e.1 ∙ ap Err e.2) o (search rules) c.in_ok-read_row.ensures.holds c.requires.long (omega (arith, c.if-left-gt0.true)) c.in_ok-left.ensures.taken is c.in_ok-read_row.ensures.told c.in_err-new.ensures.damaged

pub returns-then-left-gt0-clause-rewrites : goal.returns-then-left-gt0-clause-rewrites
returns-then-left-gt0-clause-rewrites g c =
    let len = length c.args.packed.now in
    let own = c.read_row.new.own.items in
    let areas = c.deref-3.result.now in
    let is : areas_of areas ≡ own_areas len (areas_of own) = ap areas_of c.deref-3.ensures.value ∙ c.in_ok-add_own.ensures.areas ∙ ap (λ (xs : List Piece). own_areas len (areas_of xs)) c.deref-2.ensures.value in
    let name : c.deref.result.now ≡ c.args.self.now.name = search rules in
    let o : IsOf c.args.self.now c.deref.result.now c.self.inside.end c.self.inside.head = record { name_is = name; end_is = ap (λ (l : ListState). l.end) c.self.view_is; head_is = ap (λ (l : ListState). l.head) c.self.view_is } in
    let list : ListEnds = record { head = c.self.inside.head; end = c.self.inside.end } in
    told-fills (g.F.Files.holds c.args.files.now) (g.F.Files.holds c.read_row.new.files) (g.F.Files.holds c.put_beyond.new.files) c.args.self.now _ c.deref.result.now c.deref-then-left-gt0.result.now list own areas c.take_own.new.pieces.items c.args.at c.in_ok-left.left c.args.packed.now o (search rules) c.in_ok-read_row.ensures.holds (omega (arith, c.if-left-gt0.true)) c.in_ok-left.ensures.taken is c.in_ok-read_row.ensures.told c.in_ok-new.ensures.ok

pub returns-then-left-gt0-clause-ok : goal.returns-then-left-gt0-clause-ok
returns-then-left-gt0-clause-ok g c =
    let len = length c.args.packed.now in
    let own = c.read_row.new.own.items in
    let areas = c.deref-3.result.now in
    let is : areas_of areas ≡ own_areas len (areas_of own) = ap areas_of c.deref-3.ensures.value ∙ c.in_ok-add_own.ensures.areas ∙ ap (λ (xs : List Piece). own_areas len (areas_of xs)) c.deref-2.ensures.value in
    let name : c.deref.result.now ≡ c.args.self.now.name = search rules in
    let o : IsOf c.args.self.now c.deref.result.now c.self.inside.end c.self.inside.head = record { name_is = name; end_is = ap (λ (l : ListState). l.end) c.self.view_is; head_is = ap (λ (l : ListState). l.head) c.self.view_is } in
    let list : ListEnds = record { head = c.self.inside.head; end = c.self.inside.end } in
    told-again _ _ c.args.self.now _ c.args.at c.args.packed.now (search rules) c.requires.some c.requires.few (omega (arith, c.in_ok-new.ensures.room)) c.requires.long
    (told-fills (g.F.Files.holds c.args.files.now) (g.F.Files.holds c.read_row.new.files) (g.F.Files.holds c.put_beyond.new.files) c.args.self.now _ c.deref.result.now c.deref-then-left-gt0.result.now list own areas c.take_own.new.pieces.items c.args.at c.in_ok-left.left c.args.packed.now o (search rules) c.in_ok-read_row.ensures.holds (omega (arith, c.if-left-gt0.true)) c.in_ok-left.ensures.taken is c.in_ok-read_row.ensures.told c.in_ok-new.ensures.ok)

pub plan_releases-requires-clause-parts : goal.plan_releases-requires-clause-parts
plan_releases-requires-clause-parts g c κs within =
    let len = length c.args.packed.now in
    let own = c.read_row.new.own.items in
    let areas = c.deref-3.result.now in
    let is : areas_of areas ≡ own_areas len (areas_of own) = ap areas_of c.deref-3.ensures.value ∙ c.in_ok-add_own.ensures.areas ∙ ap (λ (xs : List Piece). own_areas len (areas_of xs)) c.deref-2.ensures.value in
    let parts = ap parts_in c.deref-5.ensures.value ∙ c.in_ok-left.ensures.parts in
    subst (λ (xs : List Area). AllByRecursion (IsPart c.self.inside.end) xs) (sym parts) (own-parts c.self.inside.end len areas c.requires.some (own-ready c.self.inside.end len own areas (search rules) c.in_ok-read_row.ensures.placed is))

pub write_pieces-requires-clause-blocks : goal.write_pieces-requires-clause-blocks
write_pieces-requires-clause-blocks g c κs within =
    let len = length c.args.packed.now in
    let own = c.read_row.new.own.items in
    let areas = c.deref-3.result.now in
    let is : areas_of areas ≡ own_areas len (areas_of own) = ap areas_of c.deref-3.ensures.value ∙ c.in_ok-add_own.ensures.areas ∙ ap (λ (xs : List Piece). own_areas len (areas_of xs)) c.deref-2.ensures.value in
    let ready = own-written c.self.inside.end len areas c.take_own.new.pieces.items c.requires.some c.requires.few (search rules) (own-ready c.self.inside.end len own areas (search rules) c.in_ok-read_row.ensures.placed is) (c.in_ok-left.ensures.taken.0, omega (arith, c.in_ok-left.ensures.taken.1, c.if-left-gt0.false)) in
    subst (λ (xs : List Piece). AreWritable (specs_of len xs) xs) (sym c.deref-7.ensures.value) ready.writable

pub write_pieces-requires-clause-whole : goal.write_pieces-requires-clause-whole
write_pieces-requires-clause-whole g c κs within =
    let len = length c.args.packed.now in
    let own = c.read_row.new.own.items in
    let areas = c.deref-3.result.now in
    let is : areas_of areas ≡ own_areas len (areas_of own) = ap areas_of c.deref-3.ensures.value ∙ c.in_ok-add_own.ensures.areas ∙ ap (λ (xs : List Piece). own_areas len (areas_of xs)) c.deref-2.ensures.value in
    let ready = own-written c.self.inside.end len areas c.take_own.new.pieces.items c.requires.some c.requires.few (search rules) (own-ready c.self.inside.end len own areas (search rules) c.in_ok-read_row.ensures.placed is) (c.in_ok-left.ensures.taken.0, omega (arith, c.in_ok-left.ensures.taken.1, c.if-left-gt0.false)) in
    ap taken_by c.deref-7.ensures.value ∙ ready.counts

pub write_pieces-requires-clause-below : goal.write_pieces-requires-clause-below
write_pieces-requires-clause-below g c κs within =
    let len = length c.args.packed.now in
    let own = c.read_row.new.own.items in
    let areas = c.deref-3.result.now in
    let is : areas_of areas ≡ own_areas len (areas_of own) = ap areas_of c.deref-3.ensures.value ∙ c.in_ok-add_own.ensures.areas ∙ ap (λ (xs : List Piece). own_areas len (areas_of xs)) c.deref-2.ensures.value in
    let ready = own-written c.self.inside.end len areas c.take_own.new.pieces.items c.requires.some c.requires.few (search rules) (own-ready c.self.inside.end len own areas (search rules) c.in_ok-read_row.ensures.placed is) (c.in_ok-left.ensures.taken.0, omega (arith, c.in_ok-left.ensures.taken.1, c.if-left-gt0.false)) in
    subst (λ (xs : List Piece). AreBelow (2 ^ 64) xs) (sym c.deref-7.ensures.value) ready.below

pub write_heads-requires-clause-heads : goal.write_heads-requires-clause-heads
write_heads-requires-clause-heads g c κs within =
    subst (λ (hs : List Head). AllByRecursion IsLinkable hs) (sym c.as_slice.ensures) (heads-ready c.self.inside.end c.plan_releases.new.heads (search rules) c.in_ok-freed.ensures.heads)

pub returns-clause-ok : goal.returns-clause-ok
returns-clause-ok g c = told-again _ _ c.args.self.now _ c.args.at c.args.packed.now (search rules) c.requires.some c.requires.few (search rules) c.requires.long (search rules)

pub returns-then-left-gt0-clause-tallies : goal.returns-then-left-gt0-clause-tallies
returns-then-left-gt0-clause-tallies g c =
    let len = length c.args.packed.now in
    let own = c.read_row.new.own.items in
    let areas = c.deref-3.result.now in
    let is : areas_of areas ≡ own_areas len (areas_of own) = ap areas_of c.deref-3.ensures.value ∙ c.in_ok-add_own.ensures.areas ∙ ap (λ (xs : List Piece). own_areas len (areas_of xs)) c.deref-2.ensures.value in
    let ps = c.take_own.new.pieces.items in
    let name : c.deref.result.now ≡ c.args.self.now.name = search rules in
    let o : IsOf c.args.self.now c.deref.result.now c.self.inside.end c.self.inside.head = record { name_is = name; end_is = ap (λ (l : ListState). l.end) c.self.view_is; head_is = ap (λ (l : ListState). l.head) c.self.view_is } in
    let list : ListEnds = record { head = c.self.inside.head; end = c.self.inside.end } in
    let qs = c.put_beyond.new.pieces.items in
    let new = c.in_ok-new.new in
    let filled : c.len-filled.result ≡ length ps = search rules in
    let taken = new.taken - c.len-filled.result in
    let result = c.replaced.ensures ∙ ap (λ (xs : List Piece). replaced_of c.args.at xs c.deref-then-left-gt0-3.result.now taken new.more) c.deref-then-left-gt0-2.ensures.value ∙ ap (λ (xs : List Piece). replaced_of c.args.at own xs taken new.more) c.deref-then-left-gt0-3.ensures.value in
    subst (λ (r : Replaced). IfTold (g.F.Files.holds c.args.files.now) (TalliesReplaced c.args.self.now c.args.at len r)) (sym result)
    (tallies-fills (g.F.Files.holds c.args.files.now) (g.F.Files.holds c.read_row.new.files) c.args.self.now c.deref.result.now c.deref-then-left-gt0.result.now list own areas ps qs c.args.at c.in_ok-left.left taken new.taken new.more c.args.packed.now o (search rules) c.in_ok-read_row.ensures.holds c.requires.some c.requires.few c.requires.long (omega (arith, c.if-left-gt0.true)) c.in_ok-left.ensures.taken is c.in_ok-read_row.ensures.told c.in_ok-new.ensures.counts (omega (arith, filled, c.in_ok-new.ensures.before)))

pub returns-clause-tallies : goal.returns-clause-tallies
returns-clause-tallies g c =
    let len = length c.args.packed.now in
    let own = c.read_row.new.own.items in
    let areas = c.deref-3.result.now in
    let is : areas_of areas ≡ own_areas len (areas_of own) = ap areas_of c.deref-3.ensures.value ∙ c.in_ok-add_own.ensures.areas ∙ ap (λ (xs : List Piece). own_areas len (areas_of xs)) c.deref-2.ensures.value in
    let ps = c.take_own.new.pieces.items in
    let name : c.deref-4.result.now ≡ c.args.self.now.name = search rules in
    let o : IsOf c.args.self.now c.deref-4.result.now c.self.inside.end c.self.inside.head = record { name_is = name; end_is = ap (λ (l : ListState). l.end) c.self.view_is; head_is = ap (λ (l : ListState). l.head) c.self.view_is } in
    let parts = ap parts_in c.deref-5.ensures.value ∙ c.in_ok-left.ensures.parts ∙ ap (λ (xs : List Area). own_released (take_from len true len xs)) is in
    let more = c.in_ok-freed.freed.more in
    let added = told-added (g.F.Files.holds c.args.files.now) (g.F.Files.holds c.read_row.new.files) c.args.self.now c.deref-4.result.now c.self.inside.end c.self.inside.head (parts_in c.deref-5.result.now) (own_released (own_taking len (areas_of own))) more o c.in_ok-read_row.ensures.holds parts c.in_ok-freed.ensures.more in
    let all : HasTaken (areas_of areas) len ps 0 = (c.in_ok-left.ensures.taken.0, omega (arith, c.in_ok-left.ensures.taken.1, c.if-left-gt0.false)) in
    let mine = subst (λ (xs : List Area). HasTaken xs len ps 0) is all in
    let result = c.replaced-2.ensures ∙ ap (λ (xs : List Piece). replaced_of c.args.at xs c.deref-10.result.now 0 more) c.deref-9.ensures.value ∙ ap (λ (xs : List Piece). replaced_of c.args.at own xs 0 more) c.deref-10.ensures.value in
    subst (λ (r : Replaced). IfTold (g.F.Files.holds c.args.files.now) (TalliesReplaced c.args.self.now c.args.at len r)) (sym result)
    (tallies-ends (g.F.Files.holds c.args.files.now) c.args.self.now own ps c.args.at len more c.requires.some c.requires.long (search rules) mine added)
