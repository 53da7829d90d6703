use Rattle.myi_data.proofs.RowsLemmas.{rows_packed, rows_rising, rows_apart, deleted_apart}
use Rattle.myi_data.proofs.laws.rows_are_readable.Goals as goal

pub returns : goal.returns
returns c = record {
  packed = λ d extend x s are. rows_packed d extend x s are;
  rising = λ d extend x s. rows_rising d extend x s;
  apart = λ d extend x s. rows_apart d extend x s;
  deleted = deleted_apart;
}
