use Rattle.myi_chain.proofs.LaidLemmas.{laid_rows}
use Rattle.myi_chain.proofs.GroupLemmas.{groups_read}
use Rattle.myi_chain.proofs.PartLemmas.{made_read}
use Rattle.myi_chain.proofs.CoverLemmas.{made_of}
use Rattle.myi_chain.proofs.laws.sound_files_are_read.Goals as goal

pub returns : goal.returns
returns c = record {
  laid = laid_rows;
  groups = groups_read;
  parts = made_read;
  covered = λ read len accepts stands rows frees each gone apart. made_of read len stands accepts rows frees each gone apart;
}
