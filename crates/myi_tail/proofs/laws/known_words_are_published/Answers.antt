use Rattle.myi_tail.proofs.RuleLaws.{published_cells, seen_published, known_published, joined_published}
use Rattle.myi_tail.proofs.laws.known_words_are_published.Goals as goal

pub returns : goal.returns
returns c = record { published = published_cells; seen = seen_published; known = known_published; joined = joined_published }
