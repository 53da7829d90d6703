use Rattle.myi_share.proofs.KeepLemmas.{inserted_on, refused_on, read_on, objects_kept, inserter_there, reader_there, kept_there}
use Rattle.myi_share.proofs.laws.calls_keep_parts.Goals as goal

pub returns : goal.returns
returns c =
    let rests = c.tables_rest_on_their_files.ensures in
    record {
      inserted = inserted_on c.put_rows_can_be_folded.ensures.more;
      refused = refused_on;
      read = read_on;
      kept = objects_kept;
      inserter = inserter_there rests;
      reader = reader_there rests;
      table = kept_there rests;
    }
