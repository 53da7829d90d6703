use Rattle.myi_make.proofs.TextLaws.{text_read, header_read, printed}
use Rattle.myi_make.proofs.laws.the_text_says_the_table.Goals as goal

pub returns-clause-text : goal.returns-clause-text
returns-clause-text c = text_read

pub returns-clause-header : goal.returns-clause-header
returns-clause-header c = header_read

pub returns-clause-printed : goal.returns-clause-printed
returns-clause-printed c = printed
