use Rattle.std.proofs.Common.{ℕ, false, List, [], length}
use Rattle.myi_defs.specs.declared.types.Defs.{Defs}
use Rattle.myi_defs.specs.Sound.{IsSound}
use Rattle.myi_frames.specs.Block.{block_of}
use Rattle.myi_data.specs.Readable.{packs}
use Rattle.myi_state.specs.State.{TableState}
use Rattle.myi_state.specs.Standing.{StandsFor}
use Rattle.myi_tablestate.proofs.CleanLemmas.{IsRead, is_clean}
use Rattle.myi_tablestate.proofs.StandLemmas.{table_of, listed_stands}
use Rattle.myi_tablestate.proofs.PairedLemmas.{is_clean_listed, stands, once}
use Rattle.myi_tablestate.proofs.laws.clean_pairs_stand_for_tables.Goals as goal

pub returns : goal.returns
returns c =
    let read : (d : Defs) (s : TableState) (b : List ℕ) → IsSound d → StandsFor d s b → IsRead d s b = λ d s b sound k. record {
      rows = c.standing_files_are_read.ensures.rows d s b sound k;
      ranges = c.standing_files_are_read.ensures.blocks d s b sound k;
      gone = c.standing_files_are_read.ensures.deleted d s b sound k;
      records = c.states_count_their_files.ensures.records d s b sound k;
      del = c.states_count_their_files.ensures.del d s b sound k;
      split = c.states_count_their_files.ensures.split d s b sound k;
      empty = c.states_count_their_files.ensures.empty d s b sound k;
      long = c.states_count_their_files.ensures.long d s b sound k;
    } in
    record {
      clean = λ d s b x sound t. is_clean d s b x t (read d s b sound t.rows);
      stands = λ b x bytes clean.
          let d = clean.defs in
          let l = is_clean_listed b x clean bytes (c.rows_are_met.ensures.in_order false (block_of b) (length b) (packs d) (c.chains_are_found.ensures.blocks b) 0 []) (c.rows_are_readable.ensures.rising d false b (Rattle.myi_defs.proofs.CallerLemmas.sound d (Rattle.myi_defs.proofs.CallerLemmas.are_defs x d clean.read))) in
          (table_of d b clean.list.0, stands b x bytes clean l (read d (table_of d b clean.list.0) b l.sound (listed_stands d b _ clean.list.0 l)));
      once = λ d s t b x sound one other. once d s t b x one other (read d s b sound one.rows) (read d t b sound other.rows);
    }
