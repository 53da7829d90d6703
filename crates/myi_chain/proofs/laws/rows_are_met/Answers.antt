use Rattle.myi_chain.proofs.ReadableLemmas.{places_below, items_rest, rest_fine}
use Rattle.myi_chain.proofs.OrderLemmas.{rest_rises}
use Rattle.myi_chain.proofs.laws.rows_are_met.Goals as goal

pub returns : goal.returns
returns c = record {
  few = λ extend read len accepts stands. places_below read len stands extend accepts;
  enough = λ extend read len accepts stands. items_rest read len stands extend accepts;
  met = λ extend read len accepts stands p used. (rest_fine read len stands extend accepts p used).0;
  apart = λ extend read len accepts stands p used. (rest_fine read len stands extend accepts p used).1;
  in_order = λ extend read len accepts stands. rest_rises read len stands extend accepts;
  rising = λ extend read len accepts stands p used. (rest_fine read len stands extend accepts p used).2;
}
