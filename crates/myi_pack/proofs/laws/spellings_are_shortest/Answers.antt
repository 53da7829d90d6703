use Rattle.myi_pack.proofs.CallerLemmas.{row-fits, row-spelled, row-reads, row-least, row-told}
use Rattle.myi_pack.proofs.laws.spellings_are_shortest.Goals as goal

pub returns : goal.returns
returns c = record { fits = row-fits; packs = row-spelled; read = row-reads; shortest = row-least; counted = row-told }
