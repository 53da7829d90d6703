-- The number of some first bytes, out of that of eight.
use Rattle.std.proofs.Common.{◌≡◌, ℕ, zero, suc, ◌*◌, ◌/◌, ◌-◌, ◌^◌, ◌<◌, ◌≤◌, List, arith}
use Rattle.myi_base.specs.Numbers.{num, AreBytes}

pub first_bytes : (n : ℕ) (xs : List ℕ) (x : ℕ) → 0 < n → n ≤ 8 → AreBytes xs → x ≡ num 8 xs → x / 2 ^ (64 - 8 * n) ≡ num n xs
unfolding num
first_bytes zero xs x some few bytes is = absurd (omega arith)
first_bytes (suc zero) xs x some few bytes is = omega (arith, is, bytes 0, bytes 1, bytes 2, bytes 3, bytes 4, bytes 5, bytes 6, bytes 7)
first_bytes (suc (suc zero)) xs x some few bytes is = omega (arith, is, bytes 0, bytes 1, bytes 2, bytes 3, bytes 4, bytes 5, bytes 6, bytes 7)
first_bytes (suc (suc (suc zero))) xs x some few bytes is = omega (arith, is, bytes 0, bytes 1, bytes 2, bytes 3, bytes 4, bytes 5, bytes 6, bytes 7)
first_bytes (suc (suc (suc (suc zero)))) xs x some few bytes is = omega (arith, is, bytes 0, bytes 1, bytes 2, bytes 3, bytes 4, bytes 5, bytes 6, bytes 7)
first_bytes (suc (suc (suc (suc (suc zero))))) xs x some few bytes is = omega (arith, is, bytes 0, bytes 1, bytes 2, bytes 3, bytes 4, bytes 5, bytes 6, bytes 7)
first_bytes (suc (suc (suc (suc (suc (suc zero)))))) xs x some few bytes is = omega (arith, is, bytes 0, bytes 1, bytes 2, bytes 3, bytes 4, bytes 5, bytes 6, bytes 7)
first_bytes (suc (suc (suc (suc (suc (suc (suc zero))))))) xs x some few bytes is = omega (arith, is, bytes 0, bytes 1, bytes 2, bytes 3, bytes 4, bytes 5, bytes 6, bytes 7)
first_bytes (suc (suc (suc (suc (suc (suc (suc (suc zero)))))))) xs x some few bytes is = omega (arith, is)
first_bytes (suc (suc (suc (suc (suc (suc (suc (suc (suc n))))))))) xs x some few bytes is = absurd (omega arith)
