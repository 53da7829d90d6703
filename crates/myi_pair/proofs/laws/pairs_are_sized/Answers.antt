use Rattle.myi_pair.proofs.SizedLaws as laws
use Rattle.myi_pair.proofs.laws.pairs_are_sized.Goals as goal

pub returns : goal.returns
returns c = record {
  placed = laws.placed;
  keys = laws.is_key;
  pointed = λ d s k inside row fit pointer near. laws.laid_short d s k inside pointer row fit near;
  pair = λ d k at len row s inside fit reached le. laws.sized d s k inside at row fit (laws.pointer_near d at len s reached le);
  pairs = laws.pairs_sized;
  list = laws.list_sized;
}
