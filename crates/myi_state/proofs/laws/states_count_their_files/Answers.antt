use Rattle.std.proofs.Common.{ℕ, List}
use Rattle.myi_defs.specs.declared.types.Defs.{Defs}
use Rattle.myi_defs.specs.Sound.{IsSound}
use Rattle.myi_state.specs.State.{TableState}
use Rattle.myi_state.specs.Numbers.{counts_of}
use Rattle.myi_state.specs.Standing.{StandsFor}
use Rattle.myi_state.proofs.StandingLemmas.{IsCountedAs, stands-read, stands-counted}
use Rattle.myi_state.proofs.laws.states_count_their_files.Goals as goal

pub returns : goal.returns
returns c =
    let counted : (d : Defs) (s : TableState) (x : List ℕ) → IsSound d → StandsFor d s x → IsCountedAs d x (counts_of s) = λ d s x sound k.
    stands-counted d s x (stands-read d s x sound (record { reads = c.chains_are_found.ensures.blocks x; finds = c.chains_are_found.ensures.complete; parts = c.sound_files_are_read.ensures.parts; covered = c.sound_files_are_read.ensures.covered }) k) k.long in
    record {
      records = λ d s x sound k. (counted d s x sound k).records;
      del = λ d s x sound k. (counted d s x sound k).del;
      split = λ d s x sound k. (counted d s x sound k).split;
      empty = λ d s x sound k. (counted d s x sound k).empty;
      long = λ d s x sound k. (counted d s x sound k).length_is;
    }
