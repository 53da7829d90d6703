use Rattle.myi_opening.proofs.CallerLemmas.{table_index, table_rows, table_read, table_opened}
use Rattle.myi_opening.proofs.laws.opened_tables_have_files.Goals as goal

pub returns : goal.returns
returns c = record { index = table_index; rows = table_rows; read = table_read; opened = table_opened }
