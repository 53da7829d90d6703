-- Changes of a row by what is noted: whether one stands at a position, and that the note is kept.
use Rattle.std.proofs.Common.{◌≡◌, ◌≢◌, ◌∙◌, ℕ, Bool, true, false, cond, nat_cmp, List, Option, Some, None, refl, sym, ap, subst}
use Rattle.std.specs.Prelude.{is_some}
use Rattle.std.specs.BTreeMap.{is_at}
use Rattle.myi_base.specs.Holding.{Holding, Told, IfTold}
use Rattle.myi_base.proofs.CallerLemmas.{told_more}
use Rattle.myi_pack.specs.Packed.{Values}
use Rattle.myi_state.specs.State.{StoredRow, TableState, row_at}
use Rattle.myi_state.specs.Changes.{Change, no_row, delete, accepted, if_absent, lacks_row, update}
use Rattle.myi_state.proofs.CallerLemmas.{others-stay, deleted-gone, updated-there, row-refused}
use Rattle.myi_slots.specs.declared.fault.DataFault.{DataFault}
use Rattle.myi_slots.specs.declared.fault.DataFault.TheVariants as fault
use Rattle.myi_slots.specs.SlotFile.{SlotFile, CutsOff, ByCause, Never}
use Rattle.myi_blocks.specs.Places.{NotedFile, is_among, AreNoted, IsNotedFileOf, HasNoted, MayForget, StepsNoted, RefusesNoted}
use Rattle.myi_blocks.specs.Standing.{StepsRow, RefusesRow}
use Rattle.myi_blocks.proofs.NoteLemmas.{step_taken, at_same, at_other, noted_is, has_some}

-- what is noted at some moment is of each state of which it was before
abbrev pub Stays : NotedFile → Option (List ℕ) → Holding → Type 0
Stays f places m = (s : TableState) → IsNotedFileOf f s m → AreNoted places s.rows

-- ---- no row stands at the position

none_there : (at : ℕ) (places : Option (List ℕ)) (rows : List StoredRow) → HasNoted at false places → AreNoted places rows → row_at at rows ≡ None
none_there at places rows has noted = by (row_at at rows) refl (noted_is at false places rows has noted)
  where
    by : (o : Option StoredRow) → row_at at rows ≡ o → is_some o ≡ false → row_at at rows ≡ None
    by None e none = e
    by (Some r) e none = absurd cc

pub none-refused : (c : Change) (f : NotedFile) (at : ℕ) (places : Option (List ℕ)) (m : Holding) → ((s : TableState) → lacks_row s c ≡ if_absent at (row_at at s.rows)) → HasNoted at false places → Stays f places m → RefusesNoted c f (fault.NoRow at) m
none-refused c f at places m lacks has stays s k =
    row-refused f.file.defs s c (no_row at) (lacks s ∙ ap (λ (o : Option StoredRow). if_absent at o) (none_there at places s.rows has (stays s k)))

-- ---- one does

some_there : (at : ℕ) (places : Option (List ℕ)) (rows : List StoredRow) → HasNoted at true places → AreNoted places rows → (r : StoredRow) × (row_at at rows ≡ Some r)
some_there at places rows has noted = by (row_at at rows) refl (noted_is at true places rows has noted)
  where
    by : (o : Option StoredRow) → row_at at rows ≡ o → is_some o ≡ true → (r : StoredRow) × (row_at at rows ≡ Some r)
    by None e some = absurd cc
    by (Some r) e some = (r, e)

pub there-refused : (c : Change) (f : NotedFile) (at : ℕ) (places : Option (List ℕ)) (m : Holding) (e : DataFault) → HasNoted at true places → Stays f places m → RefusesRow c at f.file e m → RefusesNoted c f e m
there-refused c f at places m e has stays refuses s k =
    let t = some_there at places s.rows has (stays s k) in
    refuses s t.0 k.0 t.1

pub cut-refused : (c : Change) (f : NotedFile) (m : Holding) (e : DataFault) → CutsOff e → RefusesNoted c f e m
cut-refused c f m (fault.NoRow p) cut = absurd cut
cut-refused c f m fault.Full cut = absurd cut
cut-refused c f m (fault.Damaged p) cut = absurd cut
cut-refused c f m fault.File cut = λ s k. tt
cut-refused c f m fault.Memory cut = λ s k. tt

-- what is noted stands beside the causes of a refusal
pub caused : (e : DataFault) (N Q : ℕ → Type 0) (H P : Type 0) → H → ByCause Never P Q e → ByCause N (H × P) (λ p. H × Q p) e
caused (fault.NoRow p) N Q H P h c = absurd c
caused fault.Full N Q H P h c = (h, c)
caused (fault.Damaged p) N Q H P h c = (h, c)
caused fault.File N Q H P h c = tt
caused fault.Memory N Q H P h c = tt

-- ---- a row that was deleted

forgot : (at : ℕ) (old new : Option (List ℕ)) (rows then : List StoredRow) → MayForget at old new → AreNoted old rows → ((p : ℕ) → p ≢ at → row_at p then ≡ row_at p rows) → row_at at then ≡ None → AreNoted new then
forgot at None None rows then may noted others gone = tt
forgot at None (Some qs) rows then may noted others gone = absurd may
forgot at (Some ps) None rows then may noted others gone = absurd may
forgot at (Some ps) (Some qs) rows then may noted others gone = λ p. by p (is_at (nat_cmp at) p) refl
  where
    by : (p : ℕ) (b : Bool) → is_at (nat_cmp at) p ≡ b → is_among p qs ≡ is_some (row_at p then)
    by p true e = may p ∙ ap (λ (t : Bool). cond t false (is_among p ps)) e ∙ sym (ap (λ (n : ℕ). is_some (row_at n then)) (sym (at_same at p e)) ∙ ap (λ (o : Option StoredRow). is_some o) gone)
    by p false e = may p ∙ ap (λ (t : Bool). cond t false (is_among p ps)) e ∙ noted p ∙ ap (λ (o : Option StoredRow). is_some o) (sym (others p (at_other at p e)))

delete_noted : (f g : NotedFile) (at : ℕ) (places : Option (List ℕ)) (m n : Holding) → HasNoted at true places → Stays f places m → MayForget at places g.places → StepsRow (delete at) at f.file g.file m n → StepsNoted (delete at) f g at m n
delete_noted f g at places m n has stays may steps s k =
    let noted = stays s k in
    let r = some_there at places s.rows has noted in
    let t = steps s r.0 k.0 r.1 in
    let d = f.file.defs in
    let done = accepted d s (delete at) in
    let was = step_taken d s (delete at) at t.0 in
    (t.0, (t.1, subst (λ (q : TableState). AreNoted g.places q.rows) (sym was.1) (forgot at places g.places s.rows done.state.rows may noted (λ p ne. others-stay d s (delete at) p (λ e. ne (e ∙ was.0))) (deleted-gone d s at k.0.stands.state))))

pub deleted-noted : (f g : NotedFile) (b : SlotFile) (at : ℕ) (places : Option (List ℕ)) (old new : Option Holding) → g.file ≡ b → HasNoted at true places → IfTold old (Stays f places) → MayForget at places g.places → Told old new (StepsRow (delete at) at f.file b) → Told old new (StepsNoted (delete at) f g at)
deleted-noted f g b at places old new is has stays may steps =
    told_more old new (StepsRow (delete at) at f.file b) (StepsNoted (delete at) f g at) steps
    (λ m n held t. delete_noted f g at places m n has (stays m held) may (subst (λ (x : SlotFile). StepsRow (delete at) at f.file x m n) (sym is) t))

-- ---- a row that was put in the place of another

stayed : (at : ℕ) (places : Option (List ℕ)) (rows then : List StoredRow) → AreNoted places rows → ((p : ℕ) → p ≢ at → row_at p then ≡ row_at p rows) → is_some (row_at at rows) ≡ true → is_some (row_at at then) ≡ true → AreNoted places then
stayed at None rows then noted others was now = tt
stayed at (Some ps) rows then noted others was now = λ p. by p (is_at (nat_cmp at) p) refl
  where
    by : (p : ℕ) (b : Bool) → is_at (nat_cmp at) p ≡ b → is_among p ps ≡ is_some (row_at p then)
    by p true e = noted p ∙ ap (λ (n : ℕ). is_some (row_at n rows)) (sym (at_same at p e)) ∙ was ∙ sym now ∙ ap (λ (n : ℕ). is_some (row_at n then)) (at_same at p e)
    by p false e = noted p ∙ ap (λ (o : Option StoredRow). is_some o) (sym (others p (at_other at p e)))

update_noted : (f g : NotedFile) (at : ℕ) (values : Values) (m n : Holding) → HasNoted at true g.places → Stays f g.places m → StepsRow (update at values) at f.file g.file m n → StepsNoted (update at values) f g at m n
update_noted f g at values m n has stays steps s k =
    let noted = stays s k in
    let r = some_there at g.places s.rows has noted in
    let t = steps s r.0 k.0 r.1 in
    let d = f.file.defs in
    let done = accepted d s (update at values) in
    let was = step_taken d s (update at values) at t.0 in
    (t.0, (t.1, subst (λ (q : TableState). AreNoted g.places q.rows) (sym was.1) (stayed at g.places s.rows done.state.rows noted (λ p ne. others-stay d s (update at values) p (λ e. ne (e ∙ was.0))) (ap (λ (o : Option StoredRow). is_some o) r.1) (has_some values (row_at at done.state.rows) (updated-there d s at values r.0 k.0.stands.state r.1)))))

pub updated-noted : (f g : NotedFile) (at : ℕ) (values : Values) (old new : Option Holding) → HasNoted at true g.places → IfTold old (Stays f g.places) → Told old new (StepsRow (update at values) at f.file g.file) → Told old new (StepsNoted (update at values) f g at)
updated-noted f g at values old new has stays steps =
    told_more old new (StepsRow (update at values) at f.file g.file) (StepsNoted (update at values) f g at) steps
    (λ m n held t. update_noted f g at values m n has (stays m held) t)
