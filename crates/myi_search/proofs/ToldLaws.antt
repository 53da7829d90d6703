-- What a search that a key cache served says of the cache and the tree, where the files tell what they hold.
use Rattle.std.proofs.Common.{◌≡◌, ℕ, ◌+◌, ◌≤◌, Bool, true, Option, Some, None, Result, Ok, Err, List, [], sym, ap, subst, ◌∙◌, arith, inl, inr}
use Rattle.std.specs.Prelude.{OnOk, IfErr}
use Rattle.std.specs.List.{list_all}
use Rattle.std.specs.Option.{option_to_list}
use Rattle.std.proofs.lemmas.Option.{same_Some}
use Rattle.std.proofs.lemmas.Bool.{and_parts}
use Rattle.myi_base.specs.Holding.{Holding, IfTold, Told}
use Rattle.myi_keycache.specs.Caching.{Caching, IsCurrent, Stays}
use Rattle.myi_keylist.specs.declared.pair.Pair.{Pair}
use Rattle.myi_btree.specs.declared.place.Place.{Place}
use Rattle.myi_btree.specs.declared.fault.TreeFault.{TreeFault}
use Rattle.myi_btree.specs.Faults.{DamagedAt}
use Rattle.myi_btree.specs.Walk.{Places, Walked, walk_of, content}
use Rattle.myi_btree.specs.CachedTrees.{node_lent, ReadsOnly, AddsNamed, IsRootNamed, IsClosed}
use Rattle.myi_btree.specs.Serving.{View, nodes_at, CanAsk}
use Rattle.myi_btree.specs.Walking.{walk_at, MayGo}
use Rattle.myi_search.specs.Path.{IsStopped, Arrives}
use Rattle.myi_search.specs.Trees.{HasTree}
use Rattle.myi_search.specs.Passing.{first_kept, IsParted}
use Rattle.myi_search.specs.Seeking.{AskedSome, Ends, Stops}
use Rattle.myi_search.specs.Runs.{IsRun}
use Rattle.myi_search.proofs.Lists.{all_is}
use Rattle.myi_search.proofs.TreeLaws.{Test}

-- what a walk that begins there says, as the law on it has it
abbrev pub Begun : Place → Option Holding → Caching → Holding → Type 0
Begun place told cache m = (v : View) × (v.first ≡ cache) × (v.start ≡ m) × MayGo place v told cache [] (walk_at place)

-- a search may begin wherever the files are as the cache left them
abbrev pub Begins : Place → Option Holding → Caching → Type 0
Begins place told cache = (m : Holding) → told ≡ Some m → IsCurrent cache m → Begun place told cache m

can : (place : Place) (v : View) (told : Option Holding) (cache : Caching) (root : ℕ) → place.root ≡ Some root → MayGo place v told cache [] (walk_at place) → CanAsk place v told cache root
can place v told cache root is k =
    let asked : list_all v.asked (option_to_list (Some root)) ≡ true = subst (λ (r : Option ℕ). list_all v.asked (option_to_list r) ≡ true) is k.asks.down in
    record { serves = k.goes.serves; asked = (and_parts (v.asked root) true asked).0 }

shown : (place : Place) (v : View) (cache : Caching) (m : Holding) → v.first ≡ cache → v.start ≡ m → nodes_at place v ≡ node_lent place cache m
shown place v cache m f s = ap (λ (c : Caching). node_lent place c v.start) f ∙ ap (node_lent place cache) s

-- the walk of the tree, as it was seen when the search began
record Seen (place : Place) (v : View) (root height : ℕ) (pairs : List Pair) : Type 0 where
  pub w : Walked
  pub walks : walk_of (nodes_at place v) height root ≡ Some w
  pub is : pairs ≡ content w

seen_tree : (place : Place) (v : View) (cache : Caching) (m : Holding) (r : Option ℕ) (root height : ℕ) (pairs : List Pair) → v.first ≡ cache → v.start ≡ m → r ≡ Some root → HasTree place cache m r height pairs → Seen place v root height pairs
seen_tree place v cache m r root height pairs f s is has =
    let t : HasTree place cache m (Some root) height pairs = subst (λ (x : Option ℕ). HasTree place cache m x height pairs) is has in
    record { w = t.0; walks = subst (λ (read : Places). walk_of read height root ≡ Some t.0) (sym (shown place v cache m f s)) t.1; is = t.2 }

on_ok : {T E A B : Type 0} (r : Result T E) → (A → B) → OnOk r A → OnOk r B
on_ok (Ok x) f h = f h
on_ok (Err e) f h = tt

at_damage : {T : Type 0} (r : Result T TreeFault) (P Q : ℕ → Type 0) → ((at : ℕ) → P at → Q at) → IfErr r (DamagedAt P) → IfErr r (DamagedAt Q)
at_damage (Ok x) P Q f h = tt
at_damage (Err e) P Q f h = λ at is. f at (h at is)

pub found_told : {T : Type 0} (r : Result T TreeFault) (place : Place) (test : Test) (told : Option Holding) (cache : Caching) (root : ℕ) (best : Option Pair) → place.root ≡ Some root → Begins place told cache
    → OnOk r ((v : View) → CanAsk place v told cache root → Ends place test v root best)
    → OnOk r (IfTold told (λ m. IsCurrent cache m → (height : ℕ) (pairs : List Pair) → HasTree place cache m place.root height pairs → IsParted test pairs → best ≡ first_kept test pairs))
found_told r place test told cache root best is begin ends = on_ok r (λ e m held current height pairs has parted.
    let (v, f, s, k) = begin m held current in
    let t = seen_tree place v cache m place.root root height pairs f s is has in
    (e v (can place v told cache root is k)).keeps height t.w t.walks (subst (IsParted test) t.is parted) ∙ ap (first_kept test) (sym t.is)) ends

-- a tree without a root has no pairs
pub no_pairs : (place : Place) (cache : Caching) (m : Holding) (root : Option ℕ) (height : ℕ) (pairs : List Pair) → root ≡ None → HasTree place cache m root height pairs → pairs ≡ []
no_pairs place cache m None height pairs e has = has
no_pairs place cache m (Some root) height pairs e has = absurd cc

-- what was gathered
pub run_told : {T : Type 0} (r : Result T TreeFault) (on : Bool) (place : Place) (test : Test) (told : Option Holding) (cache : Caching) (root : ℕ) (run : List Pair) → place.root ≡ Some root → Begins place told cache
    → OnOk r (on ≡ true → (v : View) → CanAsk place v told cache root → (height : ℕ) (w : Walked) → walk_of (nodes_at place v) height root ≡ Some w → IsParted test (content w) → IsRun test (content w) run)
    → OnOk r (on ≡ true → IfTold told (λ m. IsCurrent cache m → (height : ℕ) (pairs : List Pair) → HasTree place cache m place.root height pairs → IsParted test pairs → IsRun test pairs run))
run_told r on place test told cache root run is begin ends = on_ok r (λ e gathers m held current height pairs has parted.
    let (v, f, s, k) = begin m held current in
    let t = seen_tree place v cache m place.root root height pairs f s is has in
    subst (λ (ps : List Pair). IsRun test ps run) (sym t.is) (e gathers v (can place v told cache root is k) height t.w t.walks (subst (IsParted test) t.is parted))) ends

pub arrives_told : {T : Type 0} (r : Result T TreeFault) (place : Place) (test : Test) (told : Option Holding) (cache : Caching) (root : ℕ) (best : Option Pair) → place.root ≡ Some root → Begins place told cache
    → OnOk r ((v : View) → CanAsk place v told cache root → Ends place test v root best)
    → OnOk r (IfTold told (λ m. IsCurrent cache m → Arrives (node_lent place cache m) test place.root))
arrives_told r place test told cache root best is begin ends = on_ok r (λ e m held current.
    let (v, f, s, k) = begin m held current in
    subst (λ (x : Option ℕ). Arrives (node_lent place cache m) test x) (sym is)
    (subst (λ (read : Places). Arrives read test (Some root)) (shown place v cache m f s) (e v (can place v told cache root is k)).arrives)) ends

pub stopped_told : {T : Type 0} (r : Result T TreeFault) (place : Place) (test : Test) (told : Option Holding) (cache : Caching) (root : ℕ) → place.root ≡ Some root → Begins place told cache
    → IfErr r (DamagedAt (λ at. (v : View) → CanAsk place v told cache root → Stops place test v root at))
    → IfErr r (DamagedAt (λ at. IfTold told (λ m. IsCurrent cache m → IsStopped (node_lent place cache m) test place.root at)))
stopped_told r place test told cache root is begin stops = at_damage r _ _ (λ at e m held current.
    let (v, f, s, k) = begin m held current in
    subst (λ (x : Option ℕ). IsStopped (node_lent place cache m) test x at) (sym is)
    (subst (λ (read : Places). IsStopped read test (Some root) at) (shown place v cache m f s) (e v (can place v told cache root is k)).stopped)) stops

pub never_told : {T : Type 0} (r : Result T TreeFault) (place : Place) (test : Test) (told : Option Holding) (cache : Caching) (root : ℕ) → place.root ≡ Some root → Begins place told cache
    → IfErr r (DamagedAt (λ at. (v : View) → CanAsk place v told cache root → Stops place test v root at))
    → IfErr r (DamagedAt (λ at. IfTold told (λ m. IsCurrent cache m → (height : ℕ) (pairs : List Pair) → HasTree place cache m place.root height pairs → ⊥)))
never_told r place test told cache root is begin stops = at_damage r _ _ (λ at e m held current height pairs has.
    let (v, f, s, k) = begin m held current in
    let t = seen_tree place v cache m place.root root height pairs f s is has in
    (e v (can place v told cache root is k)).never height t.w t.walks) stops

pub asked_told : (place : Place) (told next : Option Holding) (old new : Caching) (before after root : ℕ) → place.root ≡ Some root → Begins place told old → AskedSome place told next old new before after root
    → IfTold told (λ m. IsCurrent old m → (height : ℕ) (pairs : List Pair) → HasTree place old m place.root height pairs → new.counters.read_requests ≤ old.counters.read_requests + (height + 1))
asked_told place told next old new before after root is begin (seen, asked, went) = λ m held current height pairs has.
    let (v, f, s, k) = begin m held current in
    let t = seen_tree place v old m place.root root height pairs f s is has in
    omega (arith, asked.requests, (went v (can place v told old root is k)).few height t.w t.walks)

pub few_told : (place : Place) (told next : Option Holding) (old new : Caching) (before after root : ℕ) → place.root ≡ Some root → Begins place told old → AskedSome place told next old new before after root
    → IfTold told (λ m. IsCurrent old m → (height : ℕ) (pairs : List Pair) → HasTree place old m place.root height pairs → after ≤ before + (height + 1))
few_told place told next old new before after root is begin (seen, asked, went) = λ m held current height pairs has.
    let (v, f, s, k) = begin m held current in
    let t = seen_tree place v old m place.root root height pairs f s is has in
    omega (arith, asked.reads, (went v (can place v told old root is k)).few height t.w t.walks)

pub added_told : (place : Place) (told next : Option Holding) (old new : Caching) (before after root : ℕ) → place.root ≡ Some root → Begins place told old → AskedSome place told next old new before after root
    → IfTold told (λ m. IsCurrent old m → AddsNamed place old m new)
added_told place told next old new before after root is begin (seen, asked, went) = λ m held current named at closed p n kept.
    let (v, f, s, k) = begin m held current in
    let here : IsRootNamed (Some root) named = subst (λ (r : Option ℕ). IsRootNamed r named) is at in
    let shut : IsClosed (nodes_at place v) named = subst (λ (read : Places). IsClosed read named) (sym (shown place v old m f s)) closed in
    let all : list_all named seen ≡ true = (went v (can place v told old root is k)).named named shut here in
    elim (asked.added p n kept) [
      | inl was ↦ inl was
      | inr now ↦ inr (now.0, all_is named seen p all now.1)
    ]

pub stays_told : (place : Place) (told next : Option Holding) (old new : Caching) (before after root : ℕ) → place.root ≡ Some root → Begins place told old → AskedSome place told next old new before after root → ReadsOnly told next old new
    → Told told next (λ m n. IsCurrent old m → Stays old new m n)
stays_told place told next old new before after root is begin (seen, asked, went) r = record {
  told = λ m held.
      let x = r.others.told m held in (
        x.0,
        x.1,
        λ current.
            let (v, f, s, k) = begin m held current in
            let t = (went v (can place v told old root is k)).serves in
            subst (λ (n : Holding). Stays old new m n) (same_Some t.now x.0 (sym t.held ∙ x.1))
            (subst (λ (m : Holding). Stays old new m t.now) s (subst (λ (c : Caching). Stays c new v.start t.now) f t.stays)),
      );
  untold = r.others.untold;
}
