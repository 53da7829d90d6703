use Rattle.myi_textlaws.proofs.SaidLaws.{read_said, stands_said, parsed_said}
use Rattle.myi_textlaws.proofs.OnceLaws.{said_once}
use Rattle.myi_textlaws.proofs.laws.definitions_are_said.Goals as goal

pub returns : goal.returns
returns c = record { header = read_said; stands = stands_said; parsed = parsed_said; once = said_once }
