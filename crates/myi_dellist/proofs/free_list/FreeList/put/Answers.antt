use Rattle.std.proofs.Common.{◌≡◌, ◌-◌, ◌^◌, ◌∙◌, List, length, ap, refl, rules, arith}
use Rattle.std.specs.Prelude.{min}
use Rattle.myi_dellist.specs.declared.pieces.Piece.{Piece}
use Rattle.myi_dellist.specs.declared.rows.Put.{Put}
use Rattle.myi_dellist.specs.Placing.{sizes_of}
use Rattle.myi_dellist.proofs.PutRowLemmas.{puts_new}
use Rattle.myi_dellist.proofs.AddedLemmas.{put_appends}
use Rattle.myi_dellist.proofs.TallyLemmas.{tallies-new}
use Rattle.myi_dellist.proofs.free_list.FreeList.put.Goals as goal

pub returns-clause-ok : goal.returns-clause-ok
returns-clause-ok g c = puts_new _ _ c.args.self.now _ c.args.packed.now _ (search rules) (search rules) c.requires.some c.requires.few (omega (arith, c.in_ok-new.ensures.room)) c.requires.long (search rules)

pub returns-clause-tallies : goal.returns-clause-tallies
returns-clause-tallies g c =
    let qs : List Piece = c.put_row.new.pieces.items in
    let put : Put = record { at = c.place-at.result.0; blocks = c.len.result; bytes = c.sizes_of.result; taken = c.in_ok-new.new.taken; more = c.in_ok-new.new.more } in
    let bytes = c.sizes_of.ensures ∙ ap (λ (xs : List Piece). min (sizes_of xs) (2 ^ 64 - 1)) c.deref-2.ensures.value in
    let blocks : c.len.result ≡ length qs = search rules in
    tallies-new (g.F.Files.holds c.args.files.now) c.args.self.now c.args.packed.now put qs c.requires.some c.requires.few blocks bytes c.requires.long (search rules)

pub returns-clause-appended : goal.returns-clause-appended
returns-clause-appended g c =
    let ends = c.in_ok-new.new.list in
    put_appends _ _ c.args.self.now (record c.args.self.now { head = ends.head; end = ends.end }) c.args.packed.now ends refl c.requires.some c.requires.few (omega (arith, c.in_ok-new.ensures.room)) c.requires.long (search rules)
