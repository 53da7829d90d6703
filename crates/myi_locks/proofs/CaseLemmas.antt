-- The cases of the rule, one after the other.
use Rattle.std.proofs.Common.{◌≡◌, ◌&&◌, not, Option, Some, None, Bool, true, false, cond, refl}
use Rattle.std.specs.List.{list_any}
use Rattle.myi_locks.specs.declared.steps.Step.{Step}
use Rattle.myi_locks.specs.declared.steps.Round.{Round}
use Rattle.myi_locks.specs.declared.steps.Round.TheVariants.{Finished, Alone}
use Rattle.myi_locks.specs.Steps.{takes_read}
use Rattle.myi_locks.specs.Sessions.{Session, first, is_next, holds_any, holds_write, others_hold}
use Rattle.myi_locks.specs.Rounds.{LockState, next_round, case_at_once, case_write_held, case_write, case_write_waits, case_takes_read, case_together, alone, or_else, has_step, at_once, is_write, reads, inserter, together}

abbrev pub may_write : LockState → Bool → Session → Bool
may_write r holes s = is_write r holes s && not (others_hold holds_any s.number r.sessions)

-- nothing went before case 3
pub record Past2 (r : LockState) : Type 0 where
  pub at_once : first at_once r.sessions ≡ None
  pub held : first (λ s. holds_write s.held) r.sessions ≡ None

pub record Past3 (r : LockState) (holes : Bool) : Type 0 where
  pub past : Past2 r
  pub write : first (may_write r holes) r.sessions ≡ None

pub record Past5 (r : LockState) (holes : Bool) : Type 0 where
  pub past : Past3 r holes
  pub none : list_any (is_write r holes) r.sessions ≡ false
  pub takes : first (is_next takes_read) r.sessions ≡ None
  pub some : list_any has_step r.sessions ≡ true

alone_cases : (P : Round → Type 0) (o : Option Step) (more : Round) → ((x : Step) → o ≡ Some x → P (Alone x)) → (o ≡ None → P more) → P (alone o more)
alone_cases P None more h k = k refl
alone_cases P (Some x) more h k = h x refl

waits_cases : (P : Round → Type 0) (b : Bool) (round more : Round) → (b ≡ true → P round) → (b ≡ false → P more) → P (or_else (cond b (Some round) None) more)
waits_cases P true round more h k = h refl
waits_cases P false round more h k = k refl

some_cases : (P : Round → Type 0) (b : Bool) (more : Round) → (b ≡ false → P Finished) → (b ≡ true → P more) → P (cond (not b) Finished more)
some_cases P true more h k = k refl
some_cases P false more h k = h refl

pub by_cases : (P : Round → Type 0) (r : LockState) (holes : Bool)
    → (list_any has_step r.sessions ≡ false → P Finished)
    → ((x : Step) → first at_once r.sessions ≡ Some x → P (Alone x))
    → ((x : Step) → first (λ s. holds_write s.held) r.sessions ≡ Some x → P (Alone x))
    → ((x : Step) → Past2 r → first (may_write r holes) r.sessions ≡ Some x → P (Alone x))
    → (Past3 r holes → list_any (is_write r holes) r.sessions ≡ true → P (together None (reads (λ s. holds_any s.held) r.sessions)))
    → ((x : Step) → Past3 r holes → first (is_next takes_read) r.sessions ≡ Some x → P (Alone x))
    → (Past5 r holes → P (together (inserter r.sessions) (reads (λ s. true) r.sessions)))
    → P (next_round r holes)
unfolding next_round case_at_once case_write_held case_write case_write_waits case_takes_read case_together
by_cases P r holes h0 h1 h2 h3 h4 h5 h6 =
    some_cases P _ _ h0 (λ some. alone_cases P _ _ h1 (λ n1. alone_cases P _ _ h2 (λ n2. let past : Past2 r = record { at_once = n1; held = n2 } in
    alone_cases P _ _ (λ x e. h3 x past e) (λ n3. let past3 : Past3 r holes = record { past = past; write = n3 } in
    waits_cases P _ _ _ (λ w. h4 past3 w) (λ n4. alone_cases P _ _ (λ x e. h5 x past3 e) (λ n5. h6 (record { past = past3; none = n4; takes = n5; some = some })))))))

-- the same, where case 5 needs nothing of the cases before it
pub by_case : (P : Round → Type 0) (r : LockState) (holes : Bool)
    → (list_any has_step r.sessions ≡ false → P Finished)
    → ((x : Step) → first at_once r.sessions ≡ Some x → P (Alone x))
    → ((x : Step) → first (λ s. holds_write s.held) r.sessions ≡ Some x → P (Alone x))
    → ((x : Step) → Past2 r → first (may_write r holes) r.sessions ≡ Some x → P (Alone x))
    → (Past3 r holes → list_any (is_write r holes) r.sessions ≡ true → P (together None (reads (λ s. holds_any s.held) r.sessions)))
    → ((x : Step) → first (is_next takes_read) r.sessions ≡ Some x → P (Alone x))
    → (Past5 r holes → P (together (inserter r.sessions) (reads (λ s. true) r.sessions)))
    → P (next_round r holes)
by_case P r holes h0 h1 h2 h3 h4 h5 h6 = by_cases P r holes h0 h1 h2 h3 h4 (λ x p e. h5 x e) h6
