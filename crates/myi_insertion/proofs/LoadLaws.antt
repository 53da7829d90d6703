-- A page that a key cache was asked for.
use Rattle.std.proofs.Common.{◌≡◌, ℕ, ◌%◌, ◌≤◌, Option, Some, None, Result, Ok, Err, List, refl, sym, ap, subst, ◌∙◌, arith, inl, inr}
use Rattle.std.specs.Prelude.{IfErr}
use Rattle.std.specs.List.{Contains}
use Rattle.std.proofs.lemmas.Bool.{eq-eqb, ne_eqb}
use Rattle.std.proofs.lemmas.Option.{same_Some}
use Rattle.myi_base.specs.Holding.{Holding, Told, OthersStay}
use Rattle.myi_base.specs.Causes.{HasCause}
use Rattle.myi_base.proofs.CallerLemmas.{told_then}
use Rattle.myi_keycache.specs.Kept.{AddsOnly}
use Rattle.myi_keycache.specs.Caching.{pages_of, Caching, lends, CanGet, Stays}
use Rattle.myi_keycache.specs.declared.setup.CacheFault.{CacheFault}
use Rattle.myi_keycache.specs.declared.setup.CacheFault.TheVariants as cache
use Rattle.myi_keycache.proofs.CallerLemmas.{unwritten_kept}
use Rattle.myi_btree.specs.declared.place.Place.{Place}
use Rattle.myi_btree.specs.declared.place.Room.{Room}
use Rattle.myi_btree.specs.declared.fault.TreeFault.{TreeFault}
use Rattle.myi_btree.specs.declared.fault.TreeFault.TheVariants.{Damaged}
use Rattle.myi_btree.specs.Faults.{IsToldAs, IsFileOrMemory}
use Rattle.myi_btree.specs.Walk.{Node}
use Rattle.myi_btree.specs.Nodes.{node_in}
use Rattle.myi_btree.specs.Sizes.{IsPlaced}
use Rattle.myi_btree.specs.CachedTrees.{node_lent}
use Rattle.myi_insertion.specs.CachedChanges.{CanChange}
use Rattle.myi_insertion.specs.Steps.{Got}
use Rattle.myi_insertion.proofs.CachedLaws.{change_get, can_put, lent_node}

pub same_place : (x y : ℕ) → Damaged x ≡ Damaged y → y ≡ x
same_place x y e = let k : x ≡ y = cc in sym k

pub lent_off : (place : Place) (cache : Caching) (m : Holding) (at : ℕ) → (at % 1024 ≡ 0 → ⊥) → node_lent place cache m at ≡ None
unfolding node_lent
lent_off place cache m at off = rw (ne_eqb (at % 1024) 0 off) refl

pub lent_none : (place : Place) (cache : Caching) (m : Holding) (at : ℕ) → at % 1024 ≡ 0 → lends cache m at place.block_length ≡ None → node_lent place cache m at ≡ None
unfolding node_lent
lent_none place cache m at whole e = rw (eq-eqb (at % 1024) 0 whole, e) refl

pub lent_is : (place : Place) (cache : Caching) (m : Holding) (at : ℕ) (bytes : List ℕ) (found : Option Node) → at % 1024 ≡ 0 → lends cache m at place.block_length ≡ Some bytes → found ≡ node_in place.rec_ref bytes → node_lent place cache m at ≡ found
unfolding node_lent
lent_is place cache m at bytes found whole e f = rw (eq-eqb (at % 1024) 0 whole, e) (sym f)

-- a fault of the cache that is a damage says that the file ends before
pub short_only : (f : CacheFault) (x : TreeFault) (p : ℕ) → IsToldAs f x → x ≡ Damaged p → f ≡ cache.Short p
short_only f x p (inl (inl file)) d = let k = sym d ∙ file.1 in absurd cc
short_only f x p (inl (inr memory)) d = let k = sym d ∙ memory.1 in absurd cc
short_only f x p (inr (at, e, t)) d = let k : Damaged at ≡ Damaged p = sym t ∙ d in let q : at ≡ p = cc in e ∙ ap cache.Short q

pub if_err : {T : Type 0} (r : Result T TreeFault) (x : TreeFault) (P : TreeFault → Type 0) → r ≡ Err x → P x → IfErr r P
if_err r x P e h = rw e h

-- a fault of files or want of memory is no damage
pub not_damaged : (x y : TreeFault) (p : ℕ) → IsFileOrMemory x → x ≡ y → y ≡ Damaged p → ⊥
not_damaged x y p (inl file) e d = let k = sym file ∙ e ∙ d in absurd cc
not_damaged x y p (inr memory) e d = let k = sym memory ∙ e ∙ d in absurd cc

pub can_get : (place : Place) (cache : Caching) (m : Holding) (pages : List ℕ) (room : Room) (at : ℕ) → CanChange place cache m pages room → Contains pages at → CanGet cache m at place.block_length
can_get place cache m pages room at can here =
    let put = can_put place cache m pages room at place.block_length refl can here in
    record { current = put.current; apart = λ p n u. put.apart p n (unwritten_kept (pages_of cache) p n u) }

-- a page of those that may be changed was asked for
pub got : (place : Place) (old : Caching) (m : Holding) (pages : List ℕ) (room : Room) (told next : Option Holding) (new : Caching) (at : ℕ) (node : Node) → IsPlaced place → told ≡ Some m
    → ((m : Holding) → told ≡ Some m → CanGet old m at place.block_length → node_lent place old m at ≡ Some node) → Told told next (λ m n. CanGet old m at place.block_length → Stays old new m n) → AddsOnly at place.block_length (pages_of old) (pages_of new)
    → Told told next (OthersStay old.name) → new.name ≡ old.name → CanChange place old m pages room → Contains pages at → Got place old m pages room next new at node
got place old m pages room told next new at node placed held read stays added others name can here =
    let get = can_get place old m pages room at can here in
    let t = stays.told m held in
    let o = others.told m held in
    let same : o.0 ≡ t.0 = same_Some o.0 t.0 (sym o.1 ∙ t.1) in
    let kept : Stays old new m t.0 = t.2 get in
    let was = read m held get in
    record {
      now = t.0;
      held = t.1;
      changes = change_get place old m pages room new t.0 at here kept added name (subst (λ (n : Holding). OthersStay old.name m n) same o.2);
      stays = kept;
      was = was;
      is = lent_node place old m new t.0 at node (λ x e. kept.lent at place.block_length x e) was;
    }

-- ---- calls that follow one another

pub others_on : (one two three : Option Holding) (old mid : List ℕ) → mid ≡ old → Told one two (OthersStay old) → Told two three (OthersStay mid) → Told one three (OthersStay old)
others_on one two three old mid same a b = told_then one two three (OthersStay old) (OthersStay mid) (OthersStay old) a b (λ m n k before then q other. then q (λ e. other (e ∙ same)) ∙ before q other)

-- an error of the last call, where the count had not fallen before it
pub cause_on : {T U : Type 0} (failed x y : TreeFault) (a b d : ℕ) (r : Result U TreeFault) → r ≡ Err y → y ≡ x → a ≤ b → HasCause {T = T} {E = TreeFault} failed b d (Err x) → HasCause {T = U} {E = TreeFault} failed a d r
cause_on failed x y a b d r is same le h = record {
  later = let l = h.later in omega (arith, l, le);
  cause = λ e.
      let k : Err y ≡ Err failed = sym is ∙ e in
      let f : y ≡ failed = cc in
      let up = h.cause (ap Err (sym same ∙ f)) in
      omega (arith, up, le);
}

pub cause_ok : {T : Type 0} (failed : TreeFault) (a d : ℕ) (x : T) → a ≤ d → HasCause {T = T} {E = TreeFault} failed a d (Ok x)
cause_ok failed a d x le = record { later = le; cause = λ e. absurd cc }
