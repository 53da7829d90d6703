use Rattle.std.proofs.Common.{drop}
use Rattle.std.specs.List.{flat_map}
use Rattle.myi_rowtext.specs.RowText.{byte_text}
use Rattle.myi_rowtext.proofs.Parts.{Front}
use Rattle.myi_rowtext.proofs.row_texts.push_digits.Given as goal

abbrev pub invariant-loop-byte : goal.invariant-loop-byte
invariant-loop-byte l = Front l.fn.out.items l.out.items (flat_map byte_text l.fn.value) (flat_map byte_text (drop l.byte-index l.value))
