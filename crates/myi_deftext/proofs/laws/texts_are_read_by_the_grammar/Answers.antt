use Rattle.myi_deftext.proofs.CallerLemmas.{made, text_defs, text_bytes}
use Rattle.myi_deftext.proofs.ParseLaws.{refused, line_outside}
use Rattle.myi_deftext.proofs.laws.texts_are_read_by_the_grammar.Goals as goal

pub returns : goal.returns
returns c = record { made = made; itself = text_defs; bytes = text_bytes; refused = refused; line = line_outside }
