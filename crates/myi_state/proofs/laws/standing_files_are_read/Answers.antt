use Rattle.myi_state.proofs.StandingLemmas.{stands-read}
use Rattle.myi_state.proofs.laws.standing_files_are_read.Goals as goal

pub returns : goal.returns
returns c = record {
  rows = λ d s x sound k. (stands-read d s x sound (record { reads = c.chains_are_found.ensures.blocks x; finds = c.chains_are_found.ensures.complete; parts = c.sound_files_are_read.ensures.parts; covered = c.sound_files_are_read.ensures.covered }) k).rows;
  blocks = λ d s x sound k. (stands-read d s x sound (record { reads = c.chains_are_found.ensures.blocks x; finds = c.chains_are_found.ensures.complete; parts = c.sound_files_are_read.ensures.parts; covered = c.sound_files_are_read.ensures.covered }) k).ranges_are;
  deleted = λ d s x sound k. (stands-read d s x sound (record { reads = c.chains_are_found.ensures.blocks x; finds = c.chains_are_found.ensures.complete; parts = c.sound_files_are_read.ensures.parts; covered = c.sound_files_are_read.ensures.covered }) k).holes;
}
