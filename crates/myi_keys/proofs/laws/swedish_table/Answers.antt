use Rattle.myi_keys.proofs.Tables.{small_letter, before_letters, after_letters}
use Rattle.myi_keys.proofs.laws.swedish_table.Goals as goal

pub returns-clause-small_letters : goal.returns-clause-small_letters
returns-clause-small_letters c = small_letter

pub returns-clause-before : goal.returns-clause-before
returns-clause-before c = before_letters

pub returns-clause-between : goal.returns-clause-between
returns-clause-between c = after_letters
