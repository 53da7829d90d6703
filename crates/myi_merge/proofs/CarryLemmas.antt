-- A call on one of several tables: what the others stand for stays.
use Rattle.std.proofs.Common.{◌≡◌, ◌≢◌, ℕ, zero, suc, ◌<◌, List, [], ◌∷◌, length, map, get_or, set, Option, Some, None, refl, sym, ap, subst, ◌∙◌, arith, inl, inr}
use Rattle.std.specs.Prelude.{bytes_eq}
use Rattle.std.specs.List.{AllByRecursion, IsDistinct}
use Rattle.std.proofs.lemmas.Option.{same_Some}
use Rattle.myi_base.specs.Holding.{Holding, Told, OthersStay}
use Rattle.myi_base.proofs.CallerLemmas.{told_same, told_then}
use Rattle.myi_opening.specs.Names.{rows_file, index_file}
use Rattle.myi_state.specs.State.{TableState}
use Rattle.myi_search.proofs.CallerLemmas.{counts_none, counts_on}
use Rattle.myi_table.specs.Table.{OpenTable, defs_in, HoldState, IsKept, KeepsOthers}
use Rattle.myi_merge.specs.Merged.{IsSoundTable, HoldEach, AreKept, OfEach}
use Rattle.myi_merge.specs.Changing.{IsFileOfOne, KeepsOtherFiles, ChangesTheirOwn, IsIndexOfOne, KeepsAllButIndexes, ChangesIndexes, Keeps, KeepEach}
use Rattle.myi_merge.specs.Reading.{IsOnlyRead, AreCarried}
use Rattle.myi_merge.specs.Merging.{KeepBut}
use Rattle.myi_merge.proofs.FrameLemmas.{Rests, keep_but, still_one, still_but, state_at, set_itself, all_set}

-- ---- tables that are not broken

kept_one : Rests → (t : OpenTable) (mid next : Option Holding) (P : Holding → Holding → Type 0) → IsSoundTable t → Told mid next P → ((m n : Holding) → P m n → Keeps t m n) → IsKept mid t → IsKept next t
kept_one rests t None next P sound told keeps kept = λ whole n held. absurd (let e : ◌≡◌ {A = Option Holding} None (Some n) = sym (told.untold refl) ∙ held in cc)
kept_one rests t (Some m) next P sound told keeps kept = λ whole n held.
    let then = told.told m refl in
    let same : then.0 ≡ n = same_Some then.0 n (sym then.1 ∙ held) in
    let h = kept whole m refl in
    (h.0, subst (λ (k : Holding). HoldState t h.0 k) same (still_one rests t h.0 m then.0 sound (keeps m then.0 then.2) h.1))

pub kept_each : Rests → (ts : List OpenTable) (mid next : Option Holding) (P : Holding → Holding → Type 0) → AllByRecursion IsSoundTable ts → Told mid next P → ((m n : Holding) → P m n → KeepEach ts m n) → AreKept mid ts → AreKept next ts
kept_each rests [] mid next P sound told keeps kept = tt
kept_each rests (t ∷ ts) mid next P sound told keeps kept = (kept_one rests t mid next P sound.0 told (λ m n p. (keeps m n p).0) kept.0, kept_each rests ts mid next P sound.1 told (λ m n p. (keeps m n p).1) kept.1)

pub kept_but : Rests → (ts : List OpenTable) (i : ℕ) (new : OpenTable) (mid next : Option Holding) (P : Holding → Holding → Type 0) → AllByRecursion IsSoundTable ts → Told mid next P → ((m n : Holding) → P m n → KeepBut i ts m n) → AreKept mid ts → IsKept next new → AreKept next (set ts i new)
kept_but rests [] i new mid next P sound told keeps kept one = tt
kept_but rests (t ∷ ts) zero new mid next P sound told keeps kept one = (one, kept_each rests ts mid next P sound.1 told keeps kept.1)
kept_but rests (t ∷ ts) (suc i) new mid next P sound told keeps kept one = (kept_one rests t mid next P sound.0 told (λ m n p. (keeps m n p).0) kept.0, kept_but rests ts i new mid next P sound.1 told (λ m n p. (keeps m n p).1) kept.1 one)

-- ---- files

-- the two files of one of these tables are of theirs
own_files : (ts : List OpenTable) (i : ℕ) (d : OpenTable) (q : List ℕ) → i < length ts → (IsFileOfOne (map (λ (t : OpenTable). t.name) ts) q → ⊥) → (q ≢ rows_file (get_or ts i d).name) × (q ≢ index_file (get_or ts i d).name)
own_files [] i d q lt off = absurd (omega (arith, lt))
own_files (t ∷ ts) zero d q lt off = (λ same. off (inl (inl same)), λ same. off (inl (inr same)))
own_files (t ∷ ts) (suc i) d q lt off = own_files ts i d q (omega (arith, lt)) (λ one. off (inr one))

pub others_one : (ts : List OpenTable) (i : ℕ) (d : OpenTable) (told next : Option Holding) → i < length ts → Told told next (KeepsOthers (get_or ts i d).name) → ChangesTheirOwn told next ts
others_one ts i d told next lt others = record {
  told = λ m held. let then = others.told m held in (then.0, then.1, λ q off. let own = own_files ts i d q lt off in then.2 q own.0 own.1);
  untold = others.untold;
}

-- the names of tables are those of tables before
pub others_then : (told mid next : Option Holding) (old half : List OpenTable) → map (λ (t : OpenTable). t.name) half ≡ map (λ (t : OpenTable). t.name) old → ChangesTheirOwn told mid old → ChangesTheirOwn mid next half → ChangesTheirOwn told next old
others_then told mid next old half names one two =
    let keep = KeepsOtherFiles old in
    let again : Told mid next keep = subst (λ (ns : List (List ℕ)). Told mid next (λ m n. (q : List ℕ) → (IsFileOfOne ns q → ⊥) → n q ≡ m q)) names two in
    told_then told mid next keep keep keep one again (λ m n k first second q off. second q off ∙ first q off)

pub others_same : (told next : Option Holding) (ts : List OpenTable) → next ≡ told → ChangesTheirOwn told next ts
others_same told next ts is = told_same told next (KeepsOtherFiles ts) is (λ m held q off. refl)

pub index_alone : (name : List ℕ) (told next : Option Holding) → Told told next (OthersStay (index_file name)) → Told told next (KeepsOthers name)
index_alone name told next others = record { told = λ m held. let then = others.told m held in (then.0, then.1, λ q rows index. then.2 q index); untold = others.untold }

-- an index file is one of theirs
own_index : (ts : List OpenTable) (i : ℕ) (d : OpenTable) (q : List ℕ) → i < length ts → (IsIndexOfOne (map (λ (t : OpenTable). t.name) ts) q → ⊥) → q ≢ index_file (get_or ts i d).name
own_index [] i d q lt off = absurd (omega (arith, lt))
own_index (t ∷ ts) zero d q lt off = λ same. off (inl same)
own_index (t ∷ ts) (suc i) d q lt off = own_index ts i d q (omega (arith, lt)) (λ one. off (inr one))

pub index_one : (ts : List OpenTable) (i : ℕ) (d : OpenTable) (told next : Option Holding) → i < length ts → Told told next (OthersStay (index_file (get_or ts i d).name)) → ChangesIndexes told next ts
index_one ts i d told next lt others = record {
  told = λ m held. let then = others.told m held in (then.0, then.1, λ q off. then.2 q (own_index ts i d q lt off));
  untold = others.untold;
}

pub index_then : (told mid next : Option Holding) (old half : List OpenTable) → map (λ (t : OpenTable). t.name) half ≡ map (λ (t : OpenTable). t.name) old → ChangesIndexes told mid old → ChangesIndexes mid next half → ChangesIndexes told next old
index_then told mid next old half names one two =
    let keep = KeepsAllButIndexes old in
    let again : Told mid next keep = subst (λ (ns : List (List ℕ)). Told mid next (λ m n. (q : List ℕ) → (IsIndexOfOne ns q → ⊥) → n q ≡ m q)) names two in
    told_then told mid next keep keep keep one again (λ m n k first second q off. second q off ∙ first q off)

index_same : (told next : Option Holding) (ts : List OpenTable) → next ≡ told → ChangesIndexes told next ts
index_same told next ts is = told_same told next (KeepsAllButIndexes ts) is (λ m held q off. refl)

-- ---- tables that are only read

only_none : (told next : Option Holding) (t : OpenTable) → next ≡ told → IsOnlyRead told next t t
only_none told next t is = record {
  still = λ m held s h. (m, is ∙ held, h);
  same = record { name = refl; setup = refl; header = refl; lost = refl; defs = refl; added = refl };
  broken = refl;
  changed = refl;
  left = record { file = refl; places = refl; room = refl };
  counted = counts_none t.rows.trees.cache;
}

only_then : (told mid next : Option Holding) (t u v : OpenTable) → IsOnlyRead told mid t u → IsOnlyRead mid next u v → IsOnlyRead told next t v
only_then told mid next t u v one two = record {
  still = λ m held s h. let then = one.still m held s h in two.still then.0 then.1 s then.2;
  same = record {
    name = two.same.name ∙ one.same.name;
    setup = two.same.setup ∙ one.same.setup;
    header = two.same.header ∙ one.same.header;
    lost = two.same.lost ∙ one.same.lost;
    defs = two.same.defs ∙ one.same.defs;
    added = two.same.added ∙ one.same.added;
  };
  broken = two.broken ∙ one.broken;
  changed = two.changed ∙ one.changed;
  left = record { file = two.left.file ∙ one.left.file; places = two.left.places ∙ one.left.places; room = two.left.room ∙ one.left.room };
  counted = counts_on t.rows.trees.cache u.rows.trees.cache v.rows.trees.cache one.counted two.counted;
}

-- where the files of a table stay it is as it was
only_still : Rests → (told mid next : Option Holding) (P : Holding → Holding → Type 0) (t u : OpenTable) → IsSoundTable u → Told mid next P → ((m n : Holding) → P m n → Keeps u m n) → IsOnlyRead told mid t u → IsOnlyRead told next t u
only_still rests told mid next P t u sound stays keeps one = record {
  still = λ m held s h.
      let then = one.still m held s h in
      let now = stays.told then.0 then.1 in
      (now.0, now.1, still_one rests u s then.0 now.0 sound (keeps then.0 now.0 now.2) then.2);
  same = one.same;
  broken = one.broken;
  changed = one.changed;
  left = one.left;
  counted = one.counted;
}

each_none : (told next : Option Holding) (ts : List OpenTable) → next ≡ told → OfEach ts ts (IsOnlyRead told next)
each_none told next [] is = tt
each_none told next (t ∷ ts) is = (only_none told next t is, each_none told next ts is)

pub each_then : (told mid next : Option Holding) (old half new : List OpenTable) → OfEach old half (IsOnlyRead told mid) → OfEach half new (IsOnlyRead mid next) → OfEach old new (IsOnlyRead told next)
each_then told mid next [] [] [] one two = tt
each_then told mid next [] [] (v ∷ vs) one two = elim two [ ]
each_then told mid next [] (u ∷ us) vs one two = elim one [ ]
each_then told mid next (t ∷ ts) [] vs one two = elim one [ ]
each_then told mid next (t ∷ ts) (u ∷ us) [] one two = elim two [ ]
each_then told mid next (t ∷ ts) (u ∷ us) (v ∷ vs) one two = (only_then told mid next t u v one.0 two.0, each_then told mid next ts us vs one.1 two.1)

each_still : Rests → (told mid next : Option Holding) (P : Holding → Holding → Type 0) (old half : List OpenTable) → AllByRecursion IsSoundTable half → Told mid next P → ((m n : Holding) → P m n → KeepEach half m n) → OfEach old half (IsOnlyRead told mid) → OfEach old half (IsOnlyRead told next)
each_still rests told mid next P [] [] sound stays keeps each = tt
each_still rests told mid next P [] (u ∷ us) sound stays keeps each = elim each [ ]
each_still rests told mid next P (t ∷ ts) [] sound stays keeps each = elim each [ ]
each_still rests told mid next P (t ∷ ts) (u ∷ us) sound stays keeps each = (
  only_still rests told mid next P t u sound.0 stays (λ m n p. (keeps m n p).0) each.0,
  each_still rests told mid next P ts us sound.1 stays (λ m n p. (keeps m n p).1) each.1,
)

-- one of them is read
each_one : Rests → (told mid next : Option Holding) (P : Holding → Holding → Type 0) (old half : List OpenTable) (i : ℕ) (d new : OpenTable) → i < length half → AllByRecursion IsSoundTable half → Told mid next P → ((m n : Holding) → P m n → KeepBut i half m n)
    → IsOnlyRead mid next (get_or half i d) new → OfEach old half (IsOnlyRead told mid) → OfEach old (set half i new) (IsOnlyRead told next)
each_one rests told mid next P old [] i d new lt sound stays keeps only each = absurd (omega (arith, lt))
each_one rests told mid next P [] (u ∷ us) i d new lt sound stays keeps only each = elim each [ ]
each_one rests told mid next P (t ∷ ts) (u ∷ us) zero d new lt sound stays keeps only each = (only_then told mid next t u new each.0 only, each_still rests told mid next P ts us sound.1 stays keeps each.1)
each_one rests told mid next P (t ∷ ts) (u ∷ us) (suc i) d new lt sound stays keeps only each = (
  only_still rests told mid next P t u sound.0 stays (λ m n p. (keeps m n p).0) each.0,
  each_one rests told mid next P ts us i d new (omega (arith, lt)) sound.1 stays (λ m n p. (keeps m n p).1) only each.1,
)

-- ---- lists of parts

pub map_set : {A B : Type 0} (f : A → B) (xs : List A) (i : ℕ) (d y : A) → f y ≡ f (get_or xs i d) → map f (set xs i y) ≡ map f xs
map_set f [] i d y same = refl
map_set {A} {B} f (x ∷ xs) zero d y same = ap (λ (z : B). z ∷ map f xs) same
map_set {A} {B} f (x ∷ xs) (suc i) d y same = ap (λ (zs : List B). f x ∷ zs) (map_set f xs i d y same)

pub as_long : {A B : Type 0} (f : A → B) (xs : List A) → length (map f xs) ≡ length xs
as_long f [] = refl
as_long f (x ∷ xs) = let more = as_long f xs in omega (arith, more)

-- ---- readings

pub carried_none : (told next : Option Holding) (ts : List OpenTable) → next ≡ told → AreKept told ts → AllByRecursion IsSoundTable ts → AreCarried told next ts ts
carried_none told next ts is kept sound = record {
  kept = subst (λ (o : Option Holding). AreKept o ts) (sym is) kept;
  still = λ m held ss h. (m, is ∙ held, h);
  names = refl;
  defs = refl;
  broken = refl;
  sound = sound;
  each = each_none told next ts is;
  indexes = index_same told next ts is;
  others = others_same told next ts is;
}

-- one table was read
pub carried_one : Rests → (told mid next : Option Holding) (old half : List OpenTable) (i : ℕ) (t new : OpenTable) → IsDistinct bytes_eq (map (λ (u : OpenTable). u.name) old) → i < length half → get_or half i t ≡ t → AreCarried told mid old half
    → IsOnlyRead mid next t new → IsKept next new → IsSoundTable new → Told mid next (OthersStay (index_file t.name)) → AreCarried told next old (set half i new)
carried_one rests told mid next old half i t new once lt at c only kept sound others =
    let alone : Told mid next (OthersStay (index_file (get_or half i t).name)) = subst (λ (u : OpenTable). Told mid next (OthersStay (index_file u.name))) (sym at) others in
    let here : Told mid next (KeepsOthers (get_or half i t).name) = subst (λ (u : OpenTable). Told mid next (KeepsOthers u.name)) (sym at) (index_alone t.name mid next others) in
    let apart : IsDistinct bytes_eq (map (λ (u : OpenTable). u.name) half) = subst (IsDistinct bytes_eq) (sym c.names) once in
    let but : (m n : Holding) → KeepsOthers (get_or half i t).name m n → KeepBut i half m n = λ m n keeps. keep_but half i t m n apart lt keeps in
    record {
      kept = kept_but rests half i new mid next (KeepsOthers (get_or half i t).name) c.sound here but c.kept kept;
      still = λ m held ss h.
          let then = c.still m held ss h in
          let s : TableState = get_or ss i (record { rows = []; space = record { holes = []; end = 0 } }) in
          let one : HoldState t s then.0 = subst (λ (u : OpenTable). HoldState u s then.0) at (state_at half ss then.0 i t (record { rows = []; space = record { holes = []; end = 0 } }) then.2 lt) in
          let now = only.still then.0 then.1 s one in
          let stay = here.told then.0 then.1 in
          let is : stay.0 ≡ now.0 = same_Some stay.0 now.0 (sym stay.1 ∙ now.1) in
          let keep : KeepBut i half then.0 now.0 = subst (λ (n : Holding). KeepBut i half then.0 n) is (but then.0 stay.0 stay.2) in
          (now.0, now.1, subst (λ (us : List TableState). HoldEach (set half i new) us now.0) (set_itself ss i (record { rows = []; space = record { holes = []; end = 0 } })) (still_but rests half ss then.0 now.0 i new s c.sound lt keep then.2 now.2));
      names = map_set (λ (u : OpenTable). u.name) half i t new (only.same.name ∙ ap (λ (u : OpenTable). u.name) (sym at)) ∙ c.names;
      defs = map_set defs_in half i t new (only.same.defs ∙ ap defs_in (sym at)) ∙ c.defs;
      broken = map_set (λ (u : OpenTable). u.broken) half i t new (only.broken ∙ ap (λ (u : OpenTable). u.broken) (sym at)) ∙ c.broken;
      sound = all_set IsSoundTable half i new c.sound sound;
      each = each_one rests told mid next (KeepsOthers (get_or half i t).name) old half i t new lt c.sound here but (subst (λ (u : OpenTable). IsOnlyRead mid next u new) (sym at) only) c.each;
      indexes = index_then told mid next old half c.names c.indexes (index_one half i t mid next lt alone);
      others = others_then told mid next old half c.names c.others (others_one half i t mid next lt here);
    }
