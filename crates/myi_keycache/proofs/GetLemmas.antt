-- The cache after a get.
use Rattle.std.proofs.Common.{◌≡◌, ℕ, zero, suc, ◌^◌, ◌<◌, true, false, List, [], ◌∷◌, ◌++◌, length, slice_get, position, Option, None, Some, Ok, Err, refl, sym, ap, subst, ◌∙◌, arith, inl, inr}
use Rattle.std.specs.Prelude.{◌⊎◌, is_some, MatchOption, if◌then◌else◌}
use Rattle.std.specs.List.{AllByRecursion}
use Rattle.std.specs.Option.{option_len}
use Rattle.std.proofs.lemmas.Bool.{and_parts, eqb-true}
use Rattle.std.proofs.lemmas.Option.{same_Some}
use Rattle.myi_base.specs.Holding.{Holding, bytes_of, IfTold, Told}
use Rattle.myi_base.proofs.CallerLemmas.{told_same, told_more}
use Rattle.myi_keycache.specs.declared.setup.Counters.{Counters}
use Rattle.myi_keycache.specs.declared.setup.CacheFault.{CacheFault}
use Rattle.myi_keycache.specs.declared.setup.CacheFault.TheVariants.{Short, File, Memory}
use Rattle.myi_keycache.specs.Kept.{Page, KeptPage, kept, is_kept, is_unwritten, unwritten_count, NoOtherMeets, AddsOnly, SameKept, KeepsBytes, KeepsFlags, ChangesNone}
use Rattle.myi_keycache.specs.Lent.{bytes_at, Has, lent}
use Rattle.myi_keycache.specs.Counts.{raised, writes_after, flushes_counted}
use Rattle.myi_keycache.specs.Midpoint.{midpoint}
use Rattle.myi_keycache.specs.Caching.{Caching, pages_of, CanGet, IsLent, Stays, Gets, IsRead, due, AllOrNone}
use Rattle.myi_keycache.specs.Order.{Order, contents_of, lists_in, has_name, page_of, room_in, due_in, counts_one, Pairs, Differ, Alike, PagesStay, WritesOnly, WroteOut, cache_of, Split}
use Rattle.myi_keycache.proofs.LentLemmas.{stays_on}
use Rattle.myi_keycache.proofs.StaysLemmas.{keeping_alike, lent_kept}
use Rattle.myi_keycache.proofs.KeptLemmas.{kept_first, kept_later}
use Rattle.myi_keycache.proofs.OrderLemmas.{split, get_middle}
use Rattle.myi_keycache.proofs.MidpointLemmas.{named}
use Rattle.myi_keycache.proofs.HitLemmas.{contents_at, index_within}
use Rattle.myi_keycache.proofs.CacheLemmas.{pages_eq, stays_of}
use Rattle.myi_keycache.proofs.LoadLemmas.{Room, loaded, read_lent, read_none, adds_only, changes_none, count_taken, not_kept}
use Rattle.myi_keycache.proofs.OthersLemmas.{same_bytes, taken_bytes, taken_there}
use Rattle.myi_keycache.proofs.OneLemmas.{due_is, due_hit}
use Rattle.myi_keycache.proofs.FlagLemmas.{flags_of, taken_flags}

-- what holds of the pages in one order holds of the pages of the cache
pub of_pages : (P : List Page → List Page → Type 0) (name : List ℕ) (a b : Order) (c d : Counters) → P (contents_of a.pages) (contents_of b.pages) → P (pages_of (cache_of name a c)) (pages_of (cache_of name b d))
of_pages P name a b c d h = subst (λ l. P l (pages_of (cache_of name b d))) (sym (pages_eq name a c)) (subst (λ l. P (contents_of a.pages) l) (sym (pages_eq name b d)) h)

-- ---- a get that was refused

pub refused_gets : {T E : Type 0} (before after : Option Holding) (name : List ℕ) (o mid : Order) (c k : Counters) (at len : ℕ) (e : E) → PagesStay o mid → WritesOnly before after (cache_of name o c) (cache_of name mid k)
    → KeepsFlags (due (cache_of name o c) at len) (pages_of (cache_of name o c)) (pages_of (cache_of name mid k)) → AllOrNone before after (due (cache_of name o c) at len) (cache_of name o c) (cache_of name mid k) → Gets {T = T} {E = E} before after at len (Err e) (cache_of name o c) (cache_of name mid k)
refused_gets before after name o mid c k at len e stay w flags refusal = record {
  name = refl;
  setup = stay.setup;
  access = stay.lists;
  added = of_pages (AddsOnly at len) name o mid c k (λ p n found. inl (ap is_some (sym (stay.kept p n)) ∙ found));
  there = tt;
  bytes = of_pages KeepsBytes name o mid c k (same_bytes (contents_of o.pages) (contents_of mid.pages) stay.kept);
  unwritten = of_pages ChangesNone name o mid c k stay.unwritten;
  refused = of_pages SameKept name o mid c k stay.kept;
  counters = w.counters;
  written = tt;
  flags = flags;
  refusal = refusal;
  others = w.others;
  told = told_more before after _ _ w.told (λ m n held s can. s can.current);
}

pub not_short : (fault : CacheFault) (p : ℕ) → (fault ≡ File) ⊎ (fault ≡ Memory) → fault ≡ Short p → ⊥
not_short fault p (inl is) short = let both : File ≡ Short p = sym is ∙ short in absurd cc
not_short fault p (inr is) short = let both : Memory ≡ Short p = sym is ∙ short in absurd cc

pub memory_not_short : (fault : CacheFault) (p : ℕ) → fault ≡ Memory → fault ≡ Short p → ⊥
memory_not_short fault p is short = not_short fault p (inr is) short

pub short_lent : (before : Option Holding) (name : List ℕ) (o : Order) (c : Counters) (at len : ℕ) → position (has_name at len) o.pages ≡ None → IfTold before (λ m. bytes_at (bytes_of name m) at len ≡ None) → IfTold before (IsLent (cache_of name o c) at len None)
short_lent before name o c at len none short m held can = ap (λ l. lent l (bytes_of name m) at len) (pages_eq name o c) ∙ read_none o.pages (bytes_of name m) at len none (short m held)

-- what is read of a page that is not kept, and of one that is
pub read_missing : (before : Option Holding) (name : List ℕ) (o : Order) (c : Counters) (at len : ℕ) (bytes : Option (List ℕ)) → position (has_name at len) o.pages ≡ None → IfTold before (λ m. bytes_at (bytes_of name m) at len ≡ bytes) → IsRead before (cache_of name o c) at len bytes
read_missing before name o c at len bytes none told =
    let k : kept (pages_of (cache_of name o c)) at len ≡ None = ap (λ l. kept l at len) (pages_eq name o c) ∙ not_kept at len o.pages none in
    subst (λ (q : Option (List ℕ)). MatchOption q (IfTold before (Has name at len bytes)) (λ x. bytes ≡ Some x)) (sym k) told

pub read_kept : (before : Option Holding) (name : List ℕ) (o : Order) (c : Counters) (at len : ℕ) (bytes : List ℕ) → kept (contents_of o.pages) at len ≡ Some bytes → IsRead before (cache_of name o c) at len (Some bytes)
read_kept before name o c at len bytes is =
    let k : kept (pages_of (cache_of name o c)) at len ≡ Some bytes = ap (λ l. kept l at len) (pages_eq name o c) ∙ is in
    subst (λ (q : Option (List ℕ)). MatchOption q (IfTold before (Has name at len (Some bytes))) (λ x. Some bytes ≡ Some x)) (sym k) refl

-- ---- a page that was read

pub read_answer : (before : Option Holding) (name : List ℕ) (o : Order) (c : Counters) (at len : ℕ) (bytes : List ℕ) → position (has_name at len) o.pages ≡ None → length bytes ≡ len → IfTold before (λ m. bytes_at (bytes_of name m) at len ≡ Some bytes) → IfTold before (IsLent (cache_of name o c) at len (Some bytes))
read_answer before name o c at len bytes none long read m held can =
    ap (λ l. lent l (bytes_of name m) at len) (pages_eq name o c) ∙ read_lent o.pages (bytes_of name m) at len bytes none (subst (λ l. NoOtherMeets (is_unwritten l) at len) (pages_eq name o c) can.apart) long (read m held)

load_told : (before after : Option Holding) (name : List ℕ) (o mid new : Order) (c k d : Counters) (at : ℕ) (bytes : List ℕ) → WritesOnly before after (cache_of name o c) (cache_of name mid k) → Room o mid at (length bytes) → Alike (page_of at bytes false ∷ room_in mid) (contents_of new.pages)
    → IfTold before (IsLent (cache_of name o c) at (length bytes) (Some bytes)) → Told before after (λ m n. CanGet (cache_of name o c) m at (length bytes) → Stays (cache_of name o c) (cache_of name new d) m n)
load_told before after name o mid new c k d at bytes w r alike answer = told_more before after _ _ w.told (λ m n held st can.
    let s = st can.current in
    let apart : NoOtherMeets (is_unwritten (contents_of o.pages)) at (length bytes) = subst (λ l. NoOtherMeets (is_unwritten l) at (length bytes)) (pages_eq name o c) can.apart in
    let shown : lent (contents_of mid.pages) (bytes_of name n) at (length bytes) ≡ Some bytes = ap (λ l. lent l (bytes_of name n) at (length bytes)) (sym (pages_eq name mid k)) ∙ s.lent at (length bytes) bytes (answer m held can) in
    stays_on _ _ _ m n n s (stays_of name mid new k d n n (λ good. loaded o mid new at bytes (bytes_of name n) r alike apart shown good) s.current))

load_counts : (name : List ℕ) (o mid new : Order) (c k d : Counters) (at : ℕ) (bytes : List ℕ) → k ≡ flushes_counted (pages_of (cache_of name o c)) (pages_of (cache_of name mid k)) c
    → d ≡ record k { read_requests = raised 1 k.read_requests; reads = raised 1 k.reads } → position (has_name at (length bytes)) o.pages ≡ None → Room o mid at (length bytes) → Alike (page_of at bytes false ∷ room_in mid) (contents_of new.pages)
    → d ≡ record {
      read_requests = raised 1 c.read_requests;
      reads = raised (if is_kept (pages_of (cache_of name o c)) at (length bytes) then 0 else 1) c.reads;
      write_requests = c.write_requests;
      writes = writes_after 0 (pages_of (cache_of name o c)) (pages_of (cache_of name new d)) c.writes;
    }
load_counts name o mid new c k d at bytes x y none r alike =
    let kept_not : is_kept (pages_of (cache_of name o c)) at (length bytes) ≡ false = ap (λ l. is_kept l at (length bytes)) (pages_eq name o c) ∙ ap is_some (not_kept at (length bytes) o.pages none) in
    let a = ap unwritten_count (pages_eq name mid k) in
    let b = ap unwritten_count (pages_eq name new d) in
    let n = count_taken o mid new at bytes false r alike in
    let w : writes_after 0 (pages_of (cache_of name o c)) (pages_of (cache_of name mid k)) c.writes ≡ writes_after 0 (pages_of (cache_of name o c)) (pages_of (cache_of name new d)) c.writes = omega (arith, a, b, n) in
    y
    ∙ (λ i. record { read_requests = raised 1 (x i).read_requests; reads = raised 1 (x i).reads; write_requests = (x i).write_requests; writes = (x i).writes })
    ∙ (λ i. record { read_requests = raised 1 c.read_requests; reads = raised (if sym kept_not i then 0 else 1) c.reads; write_requests = c.write_requests; writes = w i })

pub load_gets : {T E : Type 0} (before after : Option Holding) (name : List ℕ) (o mid new : Order) (c k d : Counters) (at len : ℕ) (bytes : List ℕ) (answer : T) → length bytes ≡ len → PagesStay o mid → WritesOnly before after (cache_of name o c) (cache_of name mid k)
    → position (has_name at len) o.pages ≡ None → Room o mid at len → new.setup ≡ mid.setup → lists_in new ≡ midpoint mid.setup (lists_in mid) at (length bytes) → Alike (page_of at bytes false ∷ room_in mid) (contents_of new.pages)
    → d ≡ record k { read_requests = raised 1 k.read_requests; reads = raised 1 k.reads } → k ≡ counts_one (due_in o) c → WroteOut (due_in o) (contents_of o.pages) (contents_of mid.pages) → IfTold before (IsLent (cache_of name o c) at len (Some bytes)) → IsRead before (cache_of name o c) at len (Some bytes) → Gets {T = T} {E = E} before after at len (Ok answer) (cache_of name o c) (cache_of name new d)
load_gets {T} {E} before after name o mid new c k d at len bytes answer long stay w none room setup lists alike counted one wrote shown read =
    subst (λ n. Gets {T = T} {E = E} before after at n (Ok answer) (cache_of name o c) (cache_of name new d)) long (
    let none1 = subst (λ n. position (has_name at n) o.pages ≡ None) (sym long) none in
    let r : Room o mid at (length bytes) = subst (Room o mid at) (sym long) room in
    record {
      name = refl;
      setup = setup ∙ stay.setup;
      access = lists ∙ (λ i. midpoint (stay.setup i) (stay.lists i) at (length bytes));
      added = of_pages (AddsOnly at (length bytes)) name o new c d (adds_only o mid new at bytes false r alike);
      there = subst (λ (q : Option (List ℕ)). IsRead before (cache_of name o c) at (length bytes) q) (sym (ap (λ l. kept l at (length bytes)) (pages_eq name new d) ∙ taken_there o mid new at bytes false r alike))
          (subst (λ n. IsRead before (cache_of name o c) at n (Some bytes)) (sym long) read);
      bytes = of_pages KeepsBytes name o new c d (taken_bytes o mid new at bytes false r alike);
      unwritten = of_pages ChangesNone name o new c d (changes_none o mid new at bytes r alike);
      refused = tt;
      counters = load_counts name o mid new c k d at bytes w.counters counted none1 r alike;
      written = ap (λ (t : Counters). t.writes) counted ∙ ap (λ (t : Counters). t.writes) one ∙ ap (λ (p : Option Page). raised (option_len p) c.writes) (sym (due_is name o c at (length bytes) none1));
      flags = flags_of name o new c d at (length bytes) none1 (taken_flags o mid new at bytes r alike wrote);
      refusal = tt;
      others = w.others;
      told = load_told before after name o mid new c k d at bytes w r alike (subst (λ n. IfTold before (IsLent (cache_of name o c) at n (Some bytes))) (sym long) shown);
    })

-- ---- a page that was there

pub kept_here : (front : List KeptPage) (p : KeptPage) (back : List KeptPage) (at len : ℕ) → AllByRecursion (λ q. has_name at len q ≡ false) front → has_name at len p ≡ true → kept (contents_of (front ++ p ∷ back)) at len ≡ Some p.page.bytes
kept_here [] p back at len before here = kept_first p.page (contents_of back) at len here
kept_here (f ∷ front) p back at len before here = kept_later f.page (contents_of (front ++ p ∷ back)) at len before.0 ∙ kept_here front p back at len before.1 here

pub hit_page : (o : Order) (index at len : ℕ) (lt : index < length o.pages) → position (has_name at len) o.pages ≡ Some index
    → (p : Page) × (slice_get (contents_of o.pages) index ≡ Some p) × (length p.bytes ≡ len) × (kept (contents_of o.pages) at len ≡ Some p.bytes)
hit_page o index at len lt e =
    let s = split o.pages index lt in
    let n = named at len o.pages index s e in
    let parts = and_parts _ _ n.here in (
      s.page.page,
      contents_at o.pages index s.page (subst (λ l. slice_get l index ≡ Some s.page) (sym s.is) (get_middle s.front s.page s.back index s.long)),
      eqb-true _ _ parts.1,
      ap (λ l. kept (contents_of l) at len) s.is ∙ kept_here s.front s.page s.back at len n.before n.here,
    )

pub hit_gets : {T E : Type 0} (before after : Option Holding) (name : List ℕ) (o new : Order) (c d : Counters) (index at len : ℕ) (answer : T) (lt : index < length o.pages) → position (has_name at len) o.pages ≡ Some index → after ≡ before → Pairs Differ (contents_of o.pages) → c.writes < 2 ^ 64
    → new.setup ≡ o.setup → lists_in new ≡ midpoint o.setup (lists_in o) at len → Alike (contents_of o.pages) (contents_of new.pages) → d ≡ record c { read_requests = raised 1 c.read_requests; reads = raised 0 c.reads }
    → Gets {T = T} {E = E} before after at len (Ok answer) (cache_of name o c) (cache_of name new d)
hit_gets before after name o new c d index at len answer lt e same differ small setup lists alike counted =
    let h = hit_page o index at len lt e in
    let kept_is : is_kept (pages_of (cache_of name o c)) at len ≡ true = ap (λ l. is_kept l at len) (pages_eq name o c) ∙ ap is_some h.3 in
    let a = ap unwritten_count (pages_eq name o c) in
    let b = ap unwritten_count (pages_eq name new d) in
    let n = alike.count in
    let w : c.writes ≡ writes_after 0 (pages_of (cache_of name o c)) (pages_of (cache_of name new d)) c.writes = omega (arith, a, b, n) in
    record {
      name = refl;
      setup = setup;
      access = lists;
      added = of_pages (AddsOnly at len) name o new c d (λ p n found. inl (ap is_some (sym (alike.kept differ p n)) ∙ found));
      there = subst (λ (q : Option (List ℕ)). IsRead before (cache_of name o c) at len q) (sym (ap (λ l. kept l at len) (pages_eq name new d) ∙ alike.kept differ at len ∙ h.3)) (read_kept before name o c at len h.0.bytes h.3);
      bytes = of_pages KeepsBytes name o new c d (same_bytes (contents_of o.pages) (contents_of new.pages) (alike.kept differ));
      unwritten = of_pages ChangesNone name o new c d (λ p n u. sym (alike.unwritten p n) ∙ u);
      refused = tt;
      counters = counted ∙ (λ i. record { read_requests = raised 1 c.read_requests; reads = raised (if sym kept_is i then 0 else 1) c.reads; write_requests = c.write_requests; writes = w i });
      written =
          let same_writes : c.writes ≡ raised 0 c.writes = omega (arith, small) in
          ap (λ (t : Counters). t.writes) counted ∙ same_writes ∙ ap (λ (p : Option Page). raised (option_len p) c.writes) (sym (due_hit name o c at len (ap is_some h.3)));
      flags = λ p n other. of_pages (λ l m. is_unwritten m p n ≡ is_unwritten l p n) name o new c d (alike.unwritten p n);
      refusal = tt;
      others = told_same before after _ same (λ m held q ne. refl);
      told = told_same before after _ same (λ m held can. stays_of name o new c d m m (λ good. keeping_alike (contents_of o.pages) (contents_of new.pages) (bytes_of name m) differ alike good) can.current);
    }

pub hit_answer : (before : Option Holding) (name : List ℕ) (o : Order) (c : Counters) (at len : ℕ) (bytes : List ℕ) → kept (contents_of o.pages) at len ≡ Some bytes → IfTold before (IsLent (cache_of name o c) at len (Some bytes))
hit_answer before name o c at len bytes k m held can = ap (λ l. lent l (bytes_of name m) at len) (pages_eq name o c) ∙ lent_kept (contents_of o.pages) (bytes_of name m) at len bytes k

-- ---- the answer that is lent

pub contents_back : (pages : List KeptPage) (i : ℕ) (p : Page) → slice_get (contents_of pages) i ≡ Some p → (q : KeptPage) × (slice_get pages i ≡ Some q) × (q.page ≡ p) × (i < length pages)
contents_back [] i p at = absurd cc
contents_back (x ∷ pages) zero p at = (x, refl, same_Some x.page p at, omega arith)
contents_back (x ∷ pages) (suc i) p at = let r = contents_back pages i p at in (r.0, r.1, r.2, let lt = r.3 in omega (arith, lt))

-- the page of bytes that are kept
pub kept_place : (pages : List KeptPage) (at len : ℕ) (bytes : List ℕ) → kept (contents_of pages) at len ≡ Some bytes → (i : ℕ) × (position (has_name at len) pages ≡ Some i) × ((s : Split pages i) × (s.page.page.bytes ≡ bytes))
kept_place pages at len bytes k = by (position (has_name at len) pages) refl
  where
    by : (o : Option ℕ) → position (has_name at len) pages ≡ o → (i : ℕ) × (position (has_name at len) pages ≡ Some i) × ((s : Split pages i) × (s.page.page.bytes ≡ bytes))
    by None e = let both : None ≡ Some bytes = sym (not_kept at len pages e) ∙ k in absurd cc
    by (Some i) e =
        let s = split pages i (index_within at len pages i e) in
        let n = named at len pages i s e in
        let here = ap (λ l. kept (contents_of l) at len) s.is ∙ kept_here s.front s.page s.back at len n.before n.here in
        (i, e, (s, same_Some _ _ (sym here ∙ k)))

pub gets_ok : {T U E F : Type 0} (before after : Option Holding) (at len : ℕ) (x : T) (y : U) (old new old1 new1 : Caching) → old ≡ old1 → new ≡ new1 → Gets {T = T} {E = E} before after at len (Ok x) old new → Gets {T = U} {E = F} before after at len (Ok y) old1 new1
gets_ok {T} {U} {E} {F} before after at len x y old new old1 new1 a b g =
    subst (λ k. Gets {T = U} {E = F} before after at len (Ok y) k new1) a (subst (λ k. Gets {T = U} {E = F} before after at len (Ok y) old k) b (record {
      name = g.name;
      setup = g.setup;
      access = g.access;
      added = g.added;
      there = g.there;
      bytes = g.bytes;
      unwritten = g.unwritten;
      refused = tt;
      counters = g.counters;
      written = g.written;
      flags = g.flags;
      refusal = tt;
      others = g.others;
      told = g.told;
    }))

pub gets_err : {T U E F : Type 0} (before after : Option Holding) (at len : ℕ) (e : E) (f : F) (old new old1 new1 : Caching) → old ≡ old1 → new ≡ new1 → Gets {T = T} {E = E} before after at len (Err e) old new → Gets {T = U} {E = F} before after at len (Err f) old1 new1
gets_err {T} {U} {E} {F} before after at len e f old new old1 new1 a b g =
    subst (λ k. Gets {T = U} {E = F} before after at len (Err f) k new1) a (subst (λ k. Gets {T = U} {E = F} before after at len (Err f) old k) b (record {
      name = g.name;
      setup = g.setup;
      access = g.access;
      added = g.added;
      there = tt;
      bytes = g.bytes;
      unwritten = g.unwritten;
      refused = g.refused;
      counters = g.counters;
      written = tt;
      flags = g.flags;
      refusal = g.refusal;
      others = g.others;
      told = g.told;
    }))

-- a cache by its name as text and its fields
pub cache_is : (name text : List ℕ) (o : Order) (c : Counters) (cache : Caching) → name ≡ text → cache_of text o c ≡ cache → cache_of name o c ≡ cache
cache_is name text o c cache is view = ap (λ (n : List ℕ). cache_of n o c) is ∙ view

pub pages_in : (name : List ℕ) (o : Order) (c : Counters) (cache : Caching) → cache_of name o c ≡ cache → pages_of cache ≡ contents_of o.pages
pages_in name o c cache is = ap pages_of (sym is) ∙ pages_eq name o c
