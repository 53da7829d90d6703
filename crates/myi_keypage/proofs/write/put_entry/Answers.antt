use Rattle.std.proofs.Common.{◌≡◌, ℕ, List, ap, ◌+◌, length, drop, arith}
use Rattle.std.proofs.lemmas.List.{take_rest}
use Rattle.myi_keypage.proofs.write.put_entry.Goals as goal
use Rattle.myi_keypage.specs.Page.{entry_with, entry_bytes, number_bytes}
use Rattle.myi_keypage.proofs.WriteLaws.{length-packed}

pub put_pointer-requires : goal.put_pointer-requires
put_pointer-requires c =
    let l : length (entry_bytes c.args.rec_ref c.args.before.now (entry_with c.args.key.now c.args.row)) ≡ length (number_bytes c.shared_length-prefix.result) + length (number_bytes (length (drop c.shared_length-prefix.result c.args.key.now))) + length (drop c.shared_length-prefix.result c.args.key.now) + c.args.rec_ref =
    rw c.shared_length-prefix.ensures.value (length-packed c.args.rec_ref _ _ c.args.row) in
    let r = take_rest c.args.key.now c.shared_length-prefix.result in
    omega (arith, ap (λ (t : List ℕ). length (number_bytes (length t))) r, ap length r)
