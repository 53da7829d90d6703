-- The key cache serves a search: what it lends at the places that may be asked for stays as it was.
use Rattle.std.proofs.Common.{◌≡◌, ◌⊎◌, ℕ, ◌+◌, ◌%◌, arith, Bool, true, false, cond, eqb, Option, Some, None, Result, Err, List, refl, sym, ap, subst, ◌∙◌, inl, inr}
use Rattle.std.specs.Prelude.{IfErr}
use Rattle.std.proofs.lemmas.Bool.{eq-eqb, ne_eqb}
use Rattle.std.proofs.lemmas.Option.{same_Some}
use Rattle.myi_base.specs.Holding.{Holding, Told, bytes_of}
use Rattle.myi_base.proofs.CallerLemmas.{told_same, told_then}
use Rattle.myi_keycache.specs.Kept.{AddsOnly, ChangesNone, AllWritten}
use Rattle.myi_keycache.specs.Lent.{bytes_at}
use Rattle.myi_keycache.specs.Caching.{pages_of, Caching, lends, CanGet, Stays}
use Rattle.myi_keycache.specs.declared.setup.CacheFault.{CacheFault}
use Rattle.myi_keycache.specs.declared.setup.CacheFault.TheVariants as cache
use Rattle.myi_keycache.proofs.CallerLemmas.{lends_file, stays_on}
use Rattle.myi_btree.specs.declared.place.Place.{Place}
use Rattle.myi_btree.specs.declared.fault.TreeFault.{TreeFault}
use Rattle.myi_btree.specs.declared.fault.TreeFault.TheVariants.{Damaged}
use Rattle.myi_btree.specs.Faults.{IsToldAs}
use Rattle.myi_btree.specs.Walk.{◌>>=◌, Node, IsNode, AreNodes}
use Rattle.myi_btree.specs.Nodes.{node_in}
use Rattle.myi_btree.specs.CachedTrees.{node_lent, RoseBy, ReadsOnly}
use Rattle.myi_btree.specs.Serving.{View, nodes_at, Serves, CanAsk}
use Rattle.myi_btree.proofs.CallerLemmas.{bind_some, node_shape}

-- ---- calls that put nothing

pub keeps_written : (a b : Caching) → ChangesNone (pages_of a) (pages_of b) → AllWritten (pages_of a) → AllWritten (pages_of b)
keeps_written a b none written = λ p n u. written p n (none p n u)

pub kept_on : {A : Type 0} (a b : Caching) → ChangesNone (pages_of a) (pages_of b) → A ⊎ AllWritten (pages_of a) → A ⊎ AllWritten (pages_of b)
kept_on a b none (inl x) = inl x
kept_on a b none (inr written) = inr (keeps_written a b none written)

rose_on : (n k a b c : ℕ) → RoseBy n a b → RoseBy k b c → RoseBy (n + k) a c
rose_on n k a b c x y = omega (arith, x, y)

pub reads_none : (told : Option Holding) (cache : Caching) → ReadsOnly told told cache cache
reads_none told cache = record { name = refl; setup = refl; write_requests = refl; requests = (0, omega arith); unwritten = λ p n u. u; clean = λ written. refl; others = told_same told told _ refl (λ m held q other. refl) }

pub reads_on : (one two three : Option Holding) (a b c : Caching) → ReadsOnly one two a b → ReadsOnly two three b c → ReadsOnly one three a c
reads_on one two three a b c x y = record {
  name = y.name ∙ x.name;
  setup = y.setup ∙ x.setup;
  write_requests = y.write_requests ∙ x.write_requests;
  requests = (x.requests.0 + y.requests.0, rose_on x.requests.0 y.requests.0 a.counters.read_requests b.counters.read_requests c.counters.read_requests x.requests.1 y.requests.1);
  unwritten = λ p n u. x.unwritten p n (y.unwritten p n u);
  clean = λ written. y.clean (keeps_written a b x.unwritten written) ∙ x.clean written;
  others = told_then one two three _ _ _ x.others y.others (λ m n k before then q other. then q (λ e. other (e ∙ x.name)) ∙ before q other);
}

-- ---- what stood there

pub can_get : (place : Place) (v : View) (told : Option Holding) (cache : Caching) (at : ℕ) → (k : CanAsk place v told cache at) → CanGet cache k.serves.now at place.block_length
can_get place v told cache at k = let s = k.serves in record { current = s.stays.current; apart = λ p n u. s.apart at k.asked p n (s.unwritten p n u) }

lent_bytes : (place : Place) (cache : Caching) (m : Holding) (at : ℕ) (node : Node) → node_lent place cache m at ≡ Some node → (bytes : List ℕ) × (lends cache m at place.block_length ≡ Some bytes)
unfolding node_lent
lent_bytes place cache m at node e = by (eqb (at % 1024) 0) e
  where
    by : (b : Bool) → cond b (lends cache m at place.block_length >>= node_in place.rec_ref) None ≡ Some node → (bytes : List ℕ) × (lends cache m at place.block_length ≡ Some bytes)
    by true e = let a = bind_some (lends cache m at place.block_length) (node_in place.rec_ref) node e in (a.0, a.1)
    by false e = absurd cc

pub lent_shape : (place : Place) (cache : Caching) (m : Holding) → AreNodes (node_lent place cache m)
unfolding node_lent
lent_shape place cache m = λ at node e. by (eqb (at % 1024) 0) at node e
  where
    by : (b : Bool) (at : ℕ) (node : Node) → cond b (lends cache m at place.block_length >>= node_in place.rec_ref) None ≡ Some node → IsNode node
    by true at node e = let a = bind_some (lends cache m at place.block_length) (node_in place.rec_ref) node e in node_shape place.rec_ref a.0 node a.2
    by false at node e = absurd cc

same_bytes : (place : Place) (one two : Caching) (m n : Holding) (at : ℕ) → lends one m at place.block_length ≡ lends two n at place.block_length → node_lent place one m at ≡ node_lent place two n at
unfolding node_lent
same_bytes place one two m n at e = rw e refl

-- what the cache lends there now is what stood there
pub shown_now : (place : Place) (v : View) (told : Option Holding) (cache : Caching) (at : ℕ) → (k : CanAsk place v told cache at) → node_lent place cache k.serves.now at ≡ nodes_at place v at
shown_now place v told cache at k = by k.serves k.asked k.serves.there
  where
    by : (s : Serves place v told cache) → v.asked at ≡ true → AllWritten (pages_of v.first) ⊎ ((at : ℕ) → v.asked at ≡ true → (node : Node) × (nodes_at place v at ≡ Some node)) → node_lent place cache s.now at ≡ nodes_at place v at
    by s a (inl written) =
        let one : lends cache s.now at place.block_length ≡ bytes_at (bytes_of cache.name s.now) at place.block_length = lends_file cache s.now at place.block_length (keeps_written v.first cache s.unwritten written) s.stays.current in
        let two : lends v.first v.start at place.block_length ≡ bytes_at (bytes_of v.first.name v.start) at place.block_length = lends_file v.first v.start at place.block_length written s.current in
        same_bytes place cache v.first s.now v.start at
        (one ∙ ap (λ (n : List ℕ). bytes_at (bytes_of n s.now) at place.block_length) s.name ∙ ap (λ (m : Holding). bytes_at (bytes_of v.first.name m) at place.block_length) (s.same written) ∙ sym two)
    by s a (inr there) =
        let node = there at a in
        let bytes = lent_bytes place v.first v.start at node.0 node.1 in
        same_bytes place cache v.first s.now v.start at (s.stays.lent at place.block_length bytes.0 bytes.1 ∙ sym bytes.1)

-- ---- a page is asked for

pub serves_on : (place : Place) (v : View) (told next : Option Holding) (old new : Caching) (at : ℕ) → (k : CanAsk place v told old at) → ReadsOnly told next old new
    → Told told next (λ m n. CanGet old m at place.block_length → Stays old new m n) → AddsOnly at place.block_length (pages_of old) (pages_of new) → Serves place v next new
serves_on place v told next old new at k r t adds =
    let s = k.serves in
    let n = t.told s.now s.held in
    record {
      closed = s.closed;
      current = s.current;
      apart = s.apart;
      there = s.there;
      now = n.0;
      held = n.1;
      name = r.name ∙ s.name;
      unwritten = λ p len u. s.unwritten p len (r.unwritten p len u);
      stays = stays_on v.first old new v.start s.now n.0 s.stays (n.2 (can_get place v told old at k));
      added = λ p len kept. elim (adds p len kept) [
        | inl was ↦ s.added p len was
        | inr now ↦ inr (now.1, subst (λ (q : ℕ). v.asked q ≡ true) (sym now.0) k.asked)
      ];
      same = λ written. same_Some n.0 s.now (sym n.1 ∙ r.clean (keeps_written v.first old s.unwritten written) ∙ s.held) ∙ s.same written;
    }

-- ---- the page that was asked for

pub same_place : (x y : ℕ) → Damaged x ≡ Damaged y → y ≡ x
same_place x y e = let k : x ≡ y = cc in sym k

pub lent_off : (place : Place) (cache : Caching) (m : Holding) (at : ℕ) → (at % 1024 ≡ 0 → ⊥) → node_lent place cache m at ≡ None
unfolding node_lent
lent_off place cache m at off = rw (ne_eqb (at % 1024) 0 off) refl

pub lent_none : (place : Place) (cache : Caching) (m : Holding) (at : ℕ) → at % 1024 ≡ 0 → lends cache m at place.block_length ≡ None → node_lent place cache m at ≡ None
unfolding node_lent
lent_none place cache m at whole e = rw (eq-eqb (at % 1024) 0 whole, e) refl

pub lent_is : (place : Place) (cache : Caching) (m : Holding) (at : ℕ) (bytes : List ℕ) (found : Option Node) → at % 1024 ≡ 0 → lends cache m at place.block_length ≡ Some bytes → found ≡ node_in place.rec_ref bytes → node_lent place cache m at ≡ found
unfolding node_lent
lent_is place cache m at bytes found whole e f = rw (eq-eqb (at % 1024) 0 whole, e) (sym f)

-- a fault of the cache that is a damage says that the file ends before
pub short_only : (f : CacheFault) (x : TreeFault) (p : ℕ) → IsToldAs f x → x ≡ Damaged p → f ≡ cache.Short p
short_only f x p (inl (inl file)) d = let k = sym d ∙ file.1 in absurd cc
short_only f x p (inl (inr memory)) d = let k = sym d ∙ memory.1 in absurd cc
short_only f x p (inr (at, e, t)) d = let k : Damaged at ≡ Damaged p = sym t ∙ d in let q : at ≡ p = cc in e ∙ ap cache.Short q

pub if_err : {T : Type 0} (r : Result T TreeFault) (x : TreeFault) (P : TreeFault → Type 0) → r ≡ Err x → P x → IfErr r P
if_err r x P e h = rw e h
