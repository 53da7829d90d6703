-- What calls of a key cache do to its counters.
use Rattle.std.proofs.Common.{◌≡◌, ℕ, ◌+◌, ◌-◌, ◌^◌, ◌≤◌, Bool, true, false, cond, Result, Ok, Err, List, min, refl, sym, ap, ◌∙◌, arith}
use Rattle.myi_keycache.specs.declared.setup.Counters.{Counters}
use Rattle.myi_keycache.specs.Kept.{Page, is_kept}
use Rattle.myi_keycache.specs.Caching.{pages_of, Caching}
use Rattle.myi_keycache.specs.Counts.{raised, writes_after, gets_counted, puts_counted, flushes_counted}
use Rattle.myi_search.specs.Counting.{GoesOn, CountsOn}

same_on : (a b : ℕ) → b ≡ a → GoesOn a b
same_on a b e = omega (arith, e)

raised_on : (n a b : ℕ) → b ≡ raised n a → GoesOn a b
raised_on n a b e = omega (arith, e)

on_on : (a b c : ℕ) → GoesOn a b → GoesOn b c → GoesOn a c
on_on a b c x y = omega (arith, x, y)

writes_on : (more : ℕ) (old new : List Page) (a b : ℕ) → b ≡ writes_after more old new a → GoesOn a b
writes_on more old new a b e = raised_on _ a b e

pub counts_none : (cache : Caching) → CountsOn cache cache
counts_none cache = record {
  setup = refl;
  read_requests = same_on _ _ refl;
  reads = same_on _ _ refl;
  write_requests = same_on _ _ refl;
  writes = same_on _ _ refl;
  fewer = λ le. le;
}

pub counts_on : (a b c : Caching) → CountsOn a b → CountsOn b c → CountsOn a c
counts_on a b c x y = record {
  setup = y.setup ∙ x.setup;
  read_requests = on_on _ _ _ x.read_requests y.read_requests;
  reads = on_on _ _ _ x.reads y.reads;
  write_requests = on_on _ _ _ x.write_requests y.write_requests;
  writes = on_on _ _ _ x.writes y.writes;
  fewer = λ le. y.fewer (x.fewer le);
}

-- a page was asked for
pub counts_get : {T E : Type 0} (r : Result T E) (at len : ℕ) (old new : Caching) → new.setup ≡ old.setup → new.counters ≡ gets_counted r at len (pages_of old) (pages_of new) old.counters → CountsOn old new
counts_get (Ok x) at len old new setup is = record {
  setup = setup;
  read_requests = raised_on 1 _ _ (ap (λ (c : Counters). c.read_requests) is);
  reads = raised_on _ _ _ (ap (λ (c : Counters). c.reads) is);
  write_requests = same_on _ _ (ap (λ (c : Counters). c.write_requests) is);
  writes = writes_on 0 (pages_of old) (pages_of new) _ _ (ap (λ (c : Counters). c.writes) is);
  fewer = λ le. by (is_kept (pages_of old) at len) (ap (λ (c : Counters). c.read_requests) is) (ap (λ (c : Counters). c.reads) is) le;
}
  where
    by : (b : Bool) → new.counters.read_requests ≡ raised 1 old.counters.read_requests → new.counters.reads ≡ raised (cond b 0 1) old.counters.reads → old.counters.reads ≤ old.counters.read_requests → new.counters.reads ≤ new.counters.read_requests
    by true e f le = omega (arith, e, f, le)
    by false e f le = omega (arith, e, f, le)
counts_get (Err e) at len old new setup is = record {
  setup = setup;
  read_requests = same_on _ _ (ap (λ (c : Counters). c.read_requests) is);
  reads = same_on _ _ (ap (λ (c : Counters). c.reads) is);
  write_requests = same_on _ _ (ap (λ (c : Counters). c.write_requests) is);
  writes = writes_on 0 (pages_of old) (pages_of new) _ _ (ap (λ (c : Counters). c.writes) is);
  fewer = λ le. let q = ap (λ (c : Counters). c.read_requests) is in let r = ap (λ (c : Counters). c.reads) is in omega (arith, le, q, r);
}

-- a page was put
pub counts_put : {T E : Type 0} (r : Result T E) (at len : ℕ) (old new : Caching) → new.setup ≡ old.setup → new.counters ≡ puts_counted r at len (pages_of old) (pages_of new) old.counters → CountsOn old new
counts_put (Ok x) at len old new setup is = record {
  setup = setup;
  read_requests = same_on _ _ (ap (λ (c : Counters). c.read_requests) is);
  reads = same_on _ _ (ap (λ (c : Counters). c.reads) is);
  write_requests = raised_on 1 _ _ (ap (λ (c : Counters). c.write_requests) is);
  writes = writes_on _ (pages_of old) (pages_of new) _ _ (ap (λ (c : Counters). c.writes) is);
  fewer = λ le. let q = ap (λ (c : Counters). c.read_requests) is in let r = ap (λ (c : Counters). c.reads) is in omega (arith, le, q, r);
}
counts_put (Err e) at len old new setup is = record {
  setup = setup;
  read_requests = same_on _ _ (ap (λ (c : Counters). c.read_requests) is);
  reads = same_on _ _ (ap (λ (c : Counters). c.reads) is);
  write_requests = same_on _ _ (ap (λ (c : Counters). c.write_requests) is);
  writes = writes_on 0 (pages_of old) (pages_of new) _ _ (ap (λ (c : Counters). c.writes) is);
  fewer = λ le. let q = ap (λ (c : Counters). c.read_requests) is in let r = ap (λ (c : Counters). c.reads) is in omega (arith, le, q, r);
}

-- all pages were written
pub counts_flush : (old new : Caching) → new.setup ≡ old.setup → new.counters ≡ flushes_counted (pages_of old) (pages_of new) old.counters → CountsOn old new
counts_flush old new setup is = record {
  setup = setup;
  read_requests = same_on _ _ (ap (λ (c : Counters). c.read_requests) is);
  reads = same_on _ _ (ap (λ (c : Counters). c.reads) is);
  write_requests = same_on _ _ (ap (λ (c : Counters). c.write_requests) is);
  writes = writes_on 0 (pages_of old) (pages_of new) _ _ (ap (λ (c : Counters). c.writes) is);
  fewer = λ le. let q = ap (λ (c : Counters). c.read_requests) is in let r = ap (λ (c : Counters). c.reads) is in omega (arith, le, q, r);
}
