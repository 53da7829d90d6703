use Rattle.std.proofs.Common.{arith, []}
use Rattle.std.proofs.lemmas.List.Elements.{All-nil}
use Rattle.myi_keys.specs.Limits.{IsSeg}
use Rattle.myi_keys.proofs.CallerLemmas.{code_is}
use Rattle.myi_saferepair.proofs.row_pairs.no_key.Goals as goal

pub of_code-requires : goal.of_code-requires
of_code-requires c = (code_is c.new.result.items [] (omega arith, All-nil IsSeg) c.new.ensures.items).0
