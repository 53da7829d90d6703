use Rattle.myi_pair.proofs.ShorterLaws as laws
use Rattle.myi_pair.proofs.laws.rebuilt_files_are_no_longer.Goals as goal

pub returns : goal.returns
returns c = record { row = laws.each_shorter; some = laws.some_shorter; kept = laws.shorter; less = laws.reach_less }
