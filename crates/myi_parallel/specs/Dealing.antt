-- Dealing out a list: its items go to so many workers in turn.
use Rattle.std.specs.Prelude.{ℕ, zero, suc, ◌+◌, ◌-◌, ◌==◌, nat_le, if◌then◌else◌, List, [], ◌∷◌}

-- what a worker gets of these items, where so many go to others first
abbrev pub dealt : {X : Type 0} → ℕ → ℕ → List X → List X
dealt workers others [] = []
dealt workers zero (x ∷ xs) = x ∷ dealt workers (workers - 1) xs
dealt workers (suc others) (x ∷ xs) = dealt workers others xs

-- how many go to others before the next one goes to a worker, where it is the turn of another one
abbrev pub others_before : ℕ → ℕ → ℕ → ℕ
others_before workers turn worker = if nat_le turn worker then worker - turn else worker + workers - turn

-- whose turn is next
abbrev pub next_turn : ℕ → ℕ → ℕ
next_turn workers turn = if turn + 1 == workers then 0 else turn + 1

-- how many rounds are over, where it is the turn of this worker next
abbrev pub next_round : ℕ → ℕ → ℕ
next_round turn round = if turn == 0 then round + 1 else round
