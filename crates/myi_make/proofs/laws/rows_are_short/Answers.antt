use Rattle.myi_make.proofs.SizeLaws.{row_fits, row_short}
use Rattle.myi_make.proofs.laws.rows_are_short.Goals as goal

pub returns-clause-fits : goal.returns-clause-fits
returns-clause-fits c = row_fits

pub returns-clause-short : goal.returns-clause-short
returns-clause-short c = row_short
