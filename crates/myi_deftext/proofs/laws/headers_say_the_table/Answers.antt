use Rattle.myi_deftext.proofs.TableHeaderLaws.{format_is, pointer_is, row_is, fields_are, keys_are}
use Rattle.myi_deftext.proofs.laws.headers_say_the_table.Goals as goal

pub returns : goal.returns
returns c = record { format = format_is; pointer = pointer_is; row = row_is; fields = fields_are; keys = keys_are }
