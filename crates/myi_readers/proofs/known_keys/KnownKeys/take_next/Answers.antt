use Rattle.std.proofs.Common.{◌≡◌, ℕ, suc, ◌+◌, List, [], ap, ◌∙◌, refl, arith}
use Rattle.myi_defs.specs.declared.types.Defs.{Defs}
use Rattle.myi_pack.proofs.CallerLemmas.{row-fits}
use Rattle.myi_data.specs.Keys.{key_of}
use Rattle.myi_snapshots.specs.Known.{size_of}
use Rattle.std.specs.Prelude.{slice_index_or}
use Rattle.myi_snapshots.specs.Knowing.{packed_of}
use Rattle.myi_readers.specs.declared.known_keys.KnownKeys.{KnownKeys}
use Rattle.myi_readers.proofs.SeenLemmas.{known_row, key_is}
use Rattle.myi_readers.proofs.IndexLemmas.{next_index, same_index}
use Rattle.myi_readers.proofs.known_keys.KnownKeys.take_next.Goals as goal

pub view_packed-view-requires-clause-packed : goal.view_packed-view-requires-clause-packed
view_packed-view-requires-clause-packed c = (known_row c.args.defs.now c.args.known.now c.args.self.now.count c.bytes.result.now c.requires.table c.requires.there c.bytes.ensures).packs

pub key_of-requires-clause-row : goal.key_of-requires-clause-row
key_of-requires-clause-row c =
    row-fits c.args.defs.now c.view_packed-view.result c.bytes.result.now c.requires.sound c.view_packed-view.ensures.packs (known_row c.args.defs.now c.args.known.now c.args.self.now.count c.bytes.result.now c.requires.table c.requires.there c.bytes.ensures).short

pub returns-in_err-insert-clause-index : goal.returns-in_err-insert-clause-index
returns-in_err-insert-clause-index c = same_index c.args.defs.now (suc c.args.key) c.args.known.now.begin (packed_of c.args.known.now) c.args.self.now (record c.args.self.now { places = c.insert.new.self }) c.requires.index refl refl c.in_err-insert.ensures.unchanged

pub returns-clause-index : goal.returns-clause-index
returns-clause-index c =
    let d : Defs = c.args.defs.now in
    let x : KnownKeys = c.args.self.now in
    let packed : List (List ℕ) = packed_of c.args.known.now in
    let number : c.args.key + 1 ≡ suc c.args.key = omega arith in
    let known = known_row d c.args.known.now x.count c.bytes.result.now c.requires.table c.requires.there c.bytes.ensures in
    next_index d (suc c.args.key) c.args.known.now.begin packed x (record { places = c.insert.new.self; count = x.count + 1; end = c.saturating_add-self.result }) c.in_ok-value.value c.size.result c.requires.index c.requires.there
    (key_is d packed x.count (suc c.args.key) c.bytes.result.now c.view_packed-view.result c.in_ok-value.value known c.view_packed-view.ensures.found (c.in_ok-value.ensures ∙ ap (λ (n : ℕ). key_of d n c.view_packed-view.result) number))
    (c.size.ensures ∙ ap (λ (e : Defs). size_of e (slice_index_or packed x.count [])) c.requires.table)
    c.in_ok-insert.ensures.put c.saturating_add-self.ensures refl
