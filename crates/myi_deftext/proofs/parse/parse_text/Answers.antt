use Rattle.myi_deftext.specs.declared.parse.TextFault.TheVariants as fault
use Rattle.myi_deftext.proofs.ParseLaws.{made_if, told, refused, line_outside}
use Rattle.myi_deftext.proofs.parse.parse_text.Goals as goal

pub returns-clause-described : goal.returns-clause-described
returns-clause-described c = made_if c.args.text.now c.definitions_of.result c.definitions_of.ensures.found

pub returns-clause-outside : goal.returns-clause-outside
returns-clause-outside c = λ n is. line_outside c.args.text.now n (told c.args.text.now c.definitions_of.result (fault.Line n) c.definitions_of.ensures.refused is (λ memory. cc))

pub returns-clause-refused : goal.returns-clause-refused
returns-clause-refused c = λ f is. refused c.args.text.now f (told c.args.text.now c.definitions_of.result (fault.Def f) c.definitions_of.ensures.refused is (λ memory. cc))
