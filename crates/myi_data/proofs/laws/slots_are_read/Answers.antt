use Rattle.myi_data.specs.Readable.{packs}
use Rattle.myi_data.proofs.SlotCases.{slots_in_file, slot_deleted, slot_is_row, slot_neither}
use Rattle.myi_data.proofs.laws.slots_are_read.Goals as goal

pub returns : goal.returns
returns c = record {
  slots = slots_in_file;
  deleted = λ d. slot_deleted (packs d);
  row = λ d. slot_is_row (packs d);
  neither = λ d. slot_neither (packs d);
}
