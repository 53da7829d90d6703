-- The kept bytes of the state.
use Rattle.std.proofs.Common.{◌≡◌, ℕ, ◌+◌, ◌≤◌, List, ◌++◌, length, take, drop, arith, length-append}
use Rattle.std.specs.Prelude.{replicate}
use Rattle.std.proofs.lemmas.List.{length-take-le, length-drop, length-replicate}

pub length-without_free_pages : (n : ℕ) (rest : List ℕ) → 24 + n ≤ length rest → length (take 24 rest ++ (replicate n 255 ++ drop (24 + n) rest)) ≡ length rest
length-without_free_pages n rest inside =
    let front = length-take-le 24 rest (omega arith) in
    let end = length-drop (24 + n) rest in
    let pages = length-replicate {A = ℕ} n 255 in
    omega (arith, front, end, pages, length-append (take 24 rest) (replicate n 255 ++ drop (24 + n) rest), length-append (replicate n 255) (drop (24 + n) rest))
