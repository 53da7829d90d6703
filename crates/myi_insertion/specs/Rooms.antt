-- Taking pages out of a room, a free page of the length first, and the room's end where there is none; and giving pages to it.
use Rattle.std.specs.Prelude.{◌≡◌, ◌⊎◌, ◌+◌, ◌%◌, ℕ, List, [], ◌∷◌, ◌++◌}
use Rattle.std.specs.List.{AllByRecursion}
use Rattle.myi_btree.specs.declared.place.Room.{Room}

-- the end and the places of the free pages are multiples of 1024
pub record IsWhole (room : Room) : Type 0 where
  pub end : room.end % 1024 ≡ 0
  pub free : AllByRecursion (λ (r : ℕ × ℕ). r.0 % 1024 ≡ 0) room.free

-- a free page of the length is free no more
pub record TakesFree (len at : ℕ) (old new : Room) : Type 0 where
  pub front : List (ℕ × ℕ)
  pub back : List (ℕ × ℕ)
  pub was : old.free ≡ front ++ (at, len) ∷ back
  pub left : new.free ≡ front ++ back
  pub end : new.end ≡ old.end

-- no free page has the length, and the bytes at the end are free no more
pub record TakesEnd (len at : ℕ) (old new : Room) : Type 0 where
  pub none : AllByRecursion (λ (r : ℕ × ℕ). r.1 ≡ len → ⊥) old.free
  pub at_end : at ≡ old.end
  pub end : new.end ≡ old.end + len
  pub free : new.free ≡ old.free

-- a page of the length was taken
abbrev pub Takes : ℕ → ℕ → Room → Room → Type 0
Takes len at old new = TakesFree len at old new ⊎ TakesEnd len at old new

-- a page of the length became free
pub record Gives (len at : ℕ) (old new : Room) : Type 0 where
  pub free : new.free ≡ old.free ++ (at, len) ∷ []
  pub end : new.end ≡ old.end
