use Rattle.std.proofs.Common.{ℕ, List, length, sym, ap, subst, ◌∙◌, arith}
use Rattle.myi_defs.specs.declared.types.Defs.{Defs}
use Rattle.myi_defs.specs.Sound.{IsSound}
use Rattle.myi_btree.specs.declared.place.Place.{Place}
use Rattle.myi_blocks.specs.Places.{NotedFile}
use Rattle.myi_table.specs.Table.{OpenTable, defs_in}
use Rattle.myi_inserter.proofs.InsertLemmas.{none_found}
use Rattle.myi_inserter.proofs.OpenLemmas.{base_stands, none_kept}
use Rattle.myi_inserter.proofs.inserter.TableInserter.new.Goals as goal

pub returns-clause-ready : goal.returns-clause-ready
returns-clause-ready c =
    let rows = c.in_ok-rows.ensures.rows in
    let long = ap (λ (f : NotedFile). f.file.counts.length) rows in
    record {
      sound = subst IsSound (sym c.in_ok-defs.ensures) c.defs.ensures.sound;
      defs = ap (λ (f : NotedFile). f.file.defs) rows ∙ sym (c.in_ok-defs.ensures ∙ c.defs.ensures.defs);
      keys = ap (λ (ps : List Place). length ps) c.in_ok-rows.ensures.places ∙ c.defs.ensures.keys ∙ ap (λ (d : Defs). length d.keys) (sym c.in_ok-defs.ensures);
      written = none_kept _ c.in_ok-rows.ensures.kept;
      fit = tt;
      bytes = tt;
      words = c.requires.empty;
      published = c.requires.unpublished ∙ ap (λ (w : List ℕ). length w) (sym c.requires.empty);
      end = omega (arith, c.length.ensures.length, long);
      found = none_found c.in_ok-defs.defs c.new.result c.new.ensures.empty;
    }

pub returns-clause-base : goal.returns-clause-base
returns-clause-base c = λ s m n hold written rows index.
    let t : OpenTable = c.args.table.now in
    let sound : IsSound (defs_in t) = subst IsSound c.defs.ensures.defs c.defs.ensures.sound in
    let k = c.in_ok-rows.ensures in
    base_stands t c.in_ok-rows.rows s m n sound k.rows k.places k.placed k.room k.name k.kept (k.current n) hold written rows index
