use Rattle.std.proofs.Common.{◌+◌, ◌<◌, ◌^◌, ℕ, List, length, sym, ap, subst, ◌∙◌}
use Rattle.myi_defs.specs.declared.types.Defs.{Defs}
use Rattle.myi_defs.specs.Sound.{IsSound}
use Rattle.myi_btree.specs.declared.place.Place.{Place}
use Rattle.myi_blocks.specs.Places.{NotedFile}
use Rattle.myi_opening.specs.Names.{rows_file}
use Rattle.myi_tail.specs.Spelled.{spelled}
use Rattle.myi_snapshots.specs.Known.{known_rows}
use Rattle.myi_snapshots.specs.Knowing.{Knowing}
use Rattle.myi_table.specs.Table.{OpenTable, defs_in}
use Rattle.myi_readers.specs.Indexes.{AreIndexes}
use Rattle.myi_readers.proofs.BaseLemmas.{base_stands}
use Rattle.myi_readers.proofs.ReaderLemmas.{none_spelled, none_kept}
use Rattle.myi_readers.proofs.reader.TableReader.new.Goals as goal

pub returns-clause-ready : goal.returns-clause-ready
returns-clause-ready c =
    let rows = c.in_ok-rows.ensures.rows in
    let known = c.in_ok-known.ensures in
    let name = ap (λ (f : NotedFile). f.file.name) rows in
    record {
      sound = subst IsSound (sym c.in_ok-defs.ensures) c.defs.ensures.sound;
      defs = ap (λ (f : NotedFile). f.file.defs) rows ∙ sym (c.in_ok-defs.ensures ∙ c.defs.ensures.defs);
      named = c.in_ok-name.ensures ∙ ap rows_file c.name.ensures.name ∙ sym c.name.ensures.rows ∙ sym name;
      apart = λ same. c.name.ensures.apart (sym c.name.ensures.rows ∙ sym name ∙ same ∙ c.in_ok-rows.ensures.name ∙ c.name.ensures.index);
      keys = ap (λ (ps : List Place). length ps) c.in_ok-rows.ensures.places ∙ c.defs.ensures.keys ∙ ap (λ (d : Defs). length d.keys) (sym c.in_ok-defs.ensures);
      written = none_kept _ c.in_ok-rows.ensures.kept;
      of_table = ap (λ (k : Knowing). k.defs) known;
      behind = ap (λ (k : Knowing). k.begin) known ∙ c.length-end.ensures.length ∙ sym (ap (λ (f : NotedFile). f.file.counts.length) rows);
      room = ap (λ (k : Knowing). k.room) known ∙ c.requires.room;
      whole = ap (λ (k : Knowing). k.whole) known ∙ sym none_spelled ∙ ap spelled (sym c.requires.unknown);
      indexed = subst (λ (n : ℕ). AreIndexes c.in_ok-defs.defs n (known_rows c.in_ok-defs.defs c.args.seat.known) c.in_ok-index.index.items) (c.length-end.ensures.length ∙ sym (ap (λ (f : NotedFile). f.file.counts.length) rows)) (c.in_ok-index.ensures (known_rows c.in_ok-defs.defs c.args.seat.known));
      small = subst (λ (n : ℕ). c.args.number + n < 2 ^ 64) c.requires.room c.requires.small;
    }

pub returns-clause-base : goal.returns-clause-base
returns-clause-base c = λ s m n hold written rows index.
    let t : OpenTable = c.args.table.now in
    let sound : IsSound (defs_in t) = subst IsSound c.defs.ensures.defs c.defs.ensures.sound in
    let k = c.in_ok-rows.ensures in
    base_stands t c.in_ok-rows.rows s m n sound k.rows k.places k.placed k.room k.name k.kept (k.current n) hold written rows index
