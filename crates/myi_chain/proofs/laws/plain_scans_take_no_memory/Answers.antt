use Rattle.std.proofs.Common.{refl}
use Rattle.myi_chain.proofs.ScanLemmas.{plain_meets, plain_after}
use Rattle.myi_chain.proofs.laws.plain_scans_take_no_memory.Goals as goal

pub returns : goal.returns
returns g c =
    let gives = g.A.Accepts.accepts_gives in
    record {
      begin = λ name test extend end m bs laid short. record { plain = refl; blocks = bs; laid = laid; short = short };
      meets = plain_meets gives;
      goes = plain_after gives;
    }
