-- Where there is one session at most, a round has reads alone, or none.
use Rattle.std.proofs.Common.{◌≡◌, ◌≤◌, List, [], ◌∷◌, Option, Some, None, Bool, true, false, refl, ap, ◌∙◌, arith, inl, inr, length}
use Rattle.std.specs.Prelude.{option_map}
use Rattle.std.specs.List.{AllByRecursion}
use Rattle.std.proofs.lemmas.List.{length-map}
use Rattle.myi_locks.specs.declared.steps.Step.{Step}
use Rattle.myi_locks.specs.declared.steps.Round.{Round}
use Rattle.myi_locks.specs.Steps.{is_insert, is_read}
use Rattle.myi_locks.specs.Sessions.{Session, head, first, is_next, holds_any}
use Rattle.myi_locks.specs.Rounds.{LockState, next_round, run_of, inserter, reads, session_at, together}
use Rattle.myi_locks.specs.Done.{advanced, run_steps, steps_of}
use Rattle.myi_locks.specs.Laws.{AreReadsOrNone}
use Rattle.myi_locks.proofs.CaseLemmas.{by_case}
use Rattle.myi_locks.proofs.EndLemmas.{each_own, after_all, all_weaken, all_join, not_both, no_read}
use Rattle.myi_locks.proofs.ExclusionLemmas.{all_passes}
use Rattle.myi_locks.proofs.TogetherLemmas.{reads_are}

abbrev pub AreNone : List Step → Type 0
AreNone xs = AllByRecursion (λ (x : Step). is_read x.kind ≡ false) xs

alone_is : (x : Step) → AreReadsOrNone (x ∷ [])
alone_is x = go (is_read x.kind) refl
  where
    go : (b : Bool) → is_read x.kind ≡ b → AreReadsOrNone (x ∷ [])
    go true is = inl (is, tt)
    go false is = inr (is, tt)

inserts_are : (o : Option Session) → AreNone (run_steps (option_map (run_of is_insert) o))
inserts_are None = tt
inserts_are (Some s) = all_weaken (λ (x : Step). is_insert x.kind ≡ true) (λ (x : Step). is_read x.kind ≡ false) (run_of is_insert s).steps (λ x e. not_both x.kind e) (all_passes is_insert s.left)

pub one_kind : (r : LockState) (holes : Bool) → length r.sessions ≤ 1 → AreReadsOrNone (steps_of (next_round r holes))
one_kind r holes few =
    by_case (λ round. AreReadsOrNone (steps_of round)) r holes (λ e. inl tt) (λ x e. alone_is x) (λ x e. alone_is x) (λ x p e. alone_is x)
    (λ p e. inl (reads_are (λ s. holds_any s.held) r.sessions)) (λ x e. alone_is x) (λ p. six r.sessions few)
  where
    six : (ss : List Session) → length ss ≤ 1 → AreReadsOrNone (steps_of (together (inserter ss) (reads (λ s. true) ss)))
    six [] l = inl tt
    six (s ∷ []) l = go (is_next is_read s) refl (is_next is_insert s) refl
      where
        go : (a : Bool) → is_next is_read s ≡ a → (b : Bool) → is_next is_insert s ≡ b → AreReadsOrNone (steps_of (together (inserter (s ∷ [])) (reads (λ t. true) (s ∷ []))))
        go true ea true eb = absurd (let no = no_read (head s.left) eb in cc)
        go true ea false eb = rw eb (inl (reads_are (λ t. true) (s ∷ [])))
        go false ea b eb = rw ea (inr (all_join _ (run_steps (inserter (s ∷ []))) [] (inserts_are (session_at (first (is_next is_insert) (s ∷ [])) (s ∷ []))) tt))
    six (s ∷ t ∷ ss) l = absurd (omega arith)

pub still_one : (r : LockState) (round : Round) → length (advanced r round).sessions ≡ length r.sessions
still_one r round = ap length (each_own r.sessions (steps_of round)) ∙ length-map r.sessions (λ s. after_all s (steps_of round))
