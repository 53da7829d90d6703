use Rattle.std.proofs.Common.{◌≡◌, ℕ, List, arith}
use Rattle.std.proofs.lemmas.Map.Text.{text_keys}
use Rattle.myi_memfiles.proofs.StoredLaws.{on_ok, on_err}
use Rattle.myi_memfiles.specs.Stored.{held}
use Rattle.myi_memfiles.proofs.memory.cut.Goals as goal

pub returns-in-Some-clause-ok : goal.returns-in-Some-clause-ok
returns-in-Some-clause-ok c =
    on_ok c.resize.result (λ is. record { here = grind (arith, text_keys, is); others = λ q differs. grind (arith, text_keys) }) c.resize.ensures.ok

pub returns-in-Some-clause-err : goal.returns-in-Some-clause-err
returns-in-Some-clause-err c =
    on_err c.resize.result (λ same.
    let each : (q : List ℕ) → held (c.get_mut.follows.lender c.resize.new.bytes) q ≡ held c.args.files.now q = λ q. grind (arith, text_keys, same) in
    λ i q. each q i) c.resize.ensures.err
