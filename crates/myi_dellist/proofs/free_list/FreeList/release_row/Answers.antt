use Rattle.std.proofs.Common.{◌≡◌, ◌-◌, ◌^◌, ◌∙◌, ◌++◌, List, sym, ap, subst, rules}
use Rattle.std.specs.Prelude.{min}
use Rattle.std.specs.List.{AllByRecursion}
use Rattle.myi_frames.specs.declared.head.Head.{Head}
use Rattle.myi_dellist.specs.declared.pieces.Piece.{Piece}
use Rattle.myi_dellist.specs.declared.rows.Freed.{Freed}
use Rattle.myi_dellist.specs.declared.several.Part.{Part}
use Rattle.myi_dellist.specs.Areas.{Area}
use Rattle.myi_dellist.specs.Placing.{sizes_of}
use Rattle.myi_dellist.specs.FreeList.{ListState}
use Rattle.myi_dellist.proofs.FreeLemmas.{IsOf}
use Rattle.myi_dellist.specs.Freeing.{IsLinkable}
use Rattle.myi_dellist.specs.Freed.{parts_in, freed_parts, IsPart}
use Rattle.myi_dellist.proofs.FreedRowLemmas.{parts-ready, heads-ready, told-freed, told-added, tallies-freed}
use Rattle.myi_dellist.proofs.free_list.FreeList.release_row.Goals as goal

pub plan_releases-requires-clause-parts : goal.plan_releases-requires-clause-parts
plan_releases-requires-clause-parts g c κs within =
    let end = c.self.inside.end in
    let parts = ap parts_in c.deref-4.ensures.value ∙ c.in_ok-split.ensures.parts ∙ ap (λ (xs : List Part). parts_in xs ++ freed_parts c.deref-2.result.now) c.clear-2.ensures.items ∙ ap freed_parts c.deref-2.ensures.value in
    subst (λ (xs : List Area). AllByRecursion (IsPart end) xs) (sym parts) (parts-ready end c.read_row.new.own.items c.in_ok-read_row.ensures.placed)

pub write_heads-requires-clause-heads : goal.write_heads-requires-clause-heads
write_heads-requires-clause-heads g c κs within =
    subst (λ (hs : List Head). AllByRecursion IsLinkable hs) (sym c.as_slice.ensures) (heads-ready c.self.inside.end c.plan_releases.new.heads (search rules) c.in_ok-released.ensures.heads)

pub returns-clause-ok : goal.returns-clause-ok
returns-clause-ok g c = told-freed _ _ c.args.self.now _ c.args.at c.requires.long (search rules)

pub returns-clause-tallies : goal.returns-clause-tallies
returns-clause-tallies g c =
    let own : List Piece = c.read_row.new.own.items in
    let freed : Freed = record { blocks = c.len.result; bytes = c.sizes_of.result; more = c.in_ok-released.released.more } in
    let bytes = c.sizes_of.ensures ∙ ap (λ (xs : List Piece). min (sizes_of xs) (2 ^ 64 - 1)) c.deref-6.ensures.value in
    let name : c.deref-3.result.now ≡ c.args.self.now.name = search rules in
    let o : IsOf c.args.self.now c.deref-3.result.now c.self.inside.end c.self.inside.head = record { name_is = name; end_is = ap (λ (l : ListState). l.end) c.self.view_is; head_is = ap (λ (l : ListState). l.head) c.self.view_is } in
    let parts = ap parts_in c.deref-4.ensures.value ∙ c.in_ok-split.ensures.parts ∙ ap (λ (xs : List Part). parts_in xs ++ freed_parts c.deref-2.result.now) c.clear-2.ensures.items ∙ ap freed_parts c.deref-2.ensures.value in
    let more = told-added (g.F.Files.holds c.args.files.now) (g.F.Files.holds c.read_row.new.files) c.args.self.now c.deref-3.result.now c.self.inside.end c.self.inside.head (parts_in c.deref-4.result.now) (freed_parts own) freed.more o c.in_ok-read_row.ensures.holds parts c.in_ok-released.ensures.more in
    tallies-freed (g.F.Files.holds c.args.files.now) c.args.self.now c.args.at own freed (search rules) bytes c.requires.long (search rules) more
