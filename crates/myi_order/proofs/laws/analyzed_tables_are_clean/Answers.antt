use Rattle.myi_order.proofs.CleanLaws.{stays_clean}
use Rattle.myi_order.proofs.laws.analyzed_tables_are_clean.Goals as goal

pub returns : goal.returns
returns c = λ file x d rows parts. stays_clean file x d rows parts (λ y e. c.definitions_are_sound.ensures.raw y e) c.walks_depend_on_their_pages.ensures
