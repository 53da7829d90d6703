-- The cache after a put.
use Rattle.std.proofs.Common.{◌≡◌, ℕ, ◌+◌, ◌^◌, ◌<◌, Bool, true, false, ◌||◌, cond, List, [], ◌∷◌, ◌++◌, length, map, take, drop, position, Option, None, Some, Ok, Err, refl, sym, ap, subst, ◌∙◌, arith, inl, inr}
use Rattle.std.specs.Prelude.{◌⊎◌, ◌&&◌, ◌==◌, not, is_some, nat_lt, if◌then◌else◌}
use Rattle.std.specs.List.{AllByRecursion, position_or_len}
use Rattle.std.specs.Option.{option_len}
use Rattle.std.proofs.lemmas.Bool.{cases_Bool, and_parts, eqb-true}
use Rattle.std.proofs.lemmas.List.{map-append, take-map, drop-map}
use Rattle.std.proofs.lemmas.List.Sums.{sum_by-cons}
use Rattle.myi_base.specs.Ranges.{are_apart}
use Rattle.myi_base.specs.Holding.{Holding, bytes_of, overwritten}
use Rattle.myi_base.proofs.CallerLemmas.{told_same, told_more}
use Rattle.myi_keycache.specs.declared.setup.Counters.{Counters}
use Rattle.myi_keycache.specs.Kept.{Page, KeptPage, is_page, kept, is_kept, is_unwritten, unwritten_count, NoOtherMeets, AddsOnly, SameKept, AreOthers, KeepsOthers, KeepsFlags, ChangesNone}
use Rattle.myi_keycache.specs.Counts.{raised, writes_after}
use Rattle.myi_keycache.specs.Midpoint.{midpoint}
use Rattle.myi_keycache.specs.Caching.{Caching, pages_of, listed_as, IsCurrent, Stays, Puts, due, WritesOne, AllOrNone}
use Rattle.myi_keycache.specs.Order.{Order, Split, with_page, with_bytes, contents_of, lists_in, has_name, page_of, room_in, due_in, counts_one, Pairs, Differ, Alike, PagesStay, WritesOnly, WroteOut, Stores, cache_of}
use Rattle.myi_keycache.proofs.KeptLemmas.{unwritten_kept, kept_first, kept_later}
use Rattle.myi_keycache.proofs.FrontLemmas.{unwritten_count_out, unwritten_out}
use Rattle.myi_keycache.proofs.StaysLemmas.{Good, Putting, keeping_alike, putting_then, after_keeping, to_front, from_front, put_over}
use Rattle.myi_keycache.proofs.OrderLemmas.{same_length, differ_with}
use Rattle.myi_keycache.proofs.MidpointLemmas.{named}
use Rattle.myi_keycache.proofs.CacheLemmas.{pages_eq, good_in, current_of}
use Rattle.myi_keycache.proofs.LoadLemmas.{Room, put_in, adds_only, count_taken, not_kept}
use Rattle.myi_keycache.proofs.OthersLemmas.{taken_there, taken_to_write, taken_keeps, renewed_there, renewed_to_write, renewed_keeps, off_name}
use Rattle.myi_keycache.proofs.OneLemmas.{due_is, due_hit, one_none, one_ok, one_err}
use Rattle.myi_keycache.proofs.FlagLemmas.{none_other, stored_flags, stored_of, renewed_flags}
use Rattle.myi_keycache.proofs.GetLemmas.{of_pages}

-- ---- a put that was refused

pub refused_stores : {T E : Type 0} (before after : Option Holding) (name : List ℕ) (o mid : Order) (c k : Counters) (at : ℕ) (bytes : List ℕ) (e : E) → PagesStay o mid → WritesOnly before after (cache_of name o c) (cache_of name mid k)
    → WritesOne {T = T} {E = E} before after name (due (cache_of name o c) at (length bytes)) (Err e)
    → KeepsFlags (due (cache_of name o c) at (length bytes)) (pages_of (cache_of name o c)) (pages_of (cache_of name mid k)) → AllOrNone before after (due (cache_of name o c) at (length bytes)) (cache_of name o c) (cache_of name mid k) → Stores {T = T} {E = E} before after at bytes (Err e) (cache_of name o c) (cache_of name mid k)
refused_stores before after name o mid c k at bytes e stay w part flags refusal = record {
  ok = tt;
  err = w.told;
  others = w.others;
  kept = of_pages SameKept name o mid c k stay.kept;
  added = of_pages (AddsOnly at (length bytes)) name o mid c k (λ p n found. inl (ap is_some (sym (stay.kept p n)) ∙ found));
  there = tt;
  to_write = tt;
  keeps = of_pages (KeepsOthers at (length bytes)) name o mid c k (record { bytes = λ p n x other e. sym (stay.kept p n) ∙ e; unwritten = λ p n other u. stay.unwritten p n u });
  unwritten = of_pages ChangesNone name o mid c k stay.unwritten;
  name = refl;
  setup = stay.setup;
  access = stay.lists;
  counters = w.counters;
  written = tt;
  one = part;
  flags = λ p n off other. flags p n other;
  refusal = refusal;
}

-- ---- the file with a put

pub puts_of : (name : List ℕ) (a b : Order) (c d : Counters) (at : ℕ) (bytes : List ℕ) (n : Holding) → (Good (contents_of a.pages) (bytes_of name n) → Putting at bytes (contents_of a.pages) (contents_of b.pages) (bytes_of name n) (bytes_of name n))
    → IsCurrent (cache_of name a c) n → Puts at bytes (cache_of name a c) (cache_of name b d) n n
puts_of name a b c d at bytes n f current =
    let k = f (good_in name a c n current) in
    let k1 = subst (λ l. Putting at bytes l (contents_of b.pages) (bytes_of name n) (bytes_of name n)) (sym (pages_eq name a c)) k in
    let k2 = subst (λ l. Putting at bytes (pages_of (cache_of name a c)) l (bytes_of name n) (bytes_of name n)) (sym (pages_eq name b d)) k1 in
    record { current = current_of (cache_of name b d) n k2.good; there = k2.there; lent = k2.lent; contents = k2.contents }

stays_puts : (at : ℕ) (bytes : List ℕ) (a b c : Caching) (m n k : Holding) → Stays a b m n → Puts at bytes b c n k → Puts at bytes a c m k
stays_puts at bytes a b c m n k one two = record {
  current = two.current;
  there = two.there;
  lent = λ p len x apart e. two.lent p len x apart (one.lent p len x e);
  contents = two.contents ∙ ap (overwritten at bytes) one.contents;
}

-- ---- a page that was not there

pub store_stores : {T E : Type 0} (before after : Option Holding) (name : List ℕ) (o mid new : Order) (c k d : Counters) (at : ℕ) (bytes : List ℕ) (answer : T) → PagesStay o mid → WritesOnly before after (cache_of name o c) (cache_of name mid k)
    → position (has_name at (length bytes)) o.pages ≡ None → Room o mid at (length bytes) → new.setup ≡ mid.setup → lists_in new ≡ midpoint mid.setup (lists_in mid) at (length bytes) → Alike (page_of at bytes true ∷ room_in mid) (contents_of new.pages)
    → d ≡ record k { write_requests = raised 1 k.write_requests } → k ≡ counts_one (due_in o) c → WroteOut (due_in o) (contents_of o.pages) (contents_of mid.pages) → WritesOne {T = T} {E = E} before after name (due (cache_of name o c) at (length bytes)) (Ok answer) → Stores {T = T} {E = E} before after at bytes (Ok answer) (cache_of name o c) (cache_of name new d)
store_stores before after name o mid new c k d at bytes answer stay w none r setup lists alike counted one wrote whole =
    let x = w.counters in
    let never : is_unwritten (pages_of (cache_of name o c)) at (length bytes) ≡ false = ap (λ l. is_unwritten l at (length bytes)) (pages_eq name o c) ∙ not_unwritten (is_unwritten (contents_of o.pages) at (length bytes)) refl in
    let a = ap unwritten_count (pages_eq name mid k) in
    let b = ap unwritten_count (pages_eq name new d) in
    let n = count_taken o mid new at bytes true r alike in
    let v : writes_after 0 (pages_of (cache_of name o c)) (pages_of (cache_of name mid k)) c.writes ≡ writes_after 1 (pages_of (cache_of name o c)) (pages_of (cache_of name new d)) c.writes = omega (arith, a, b, n) in
    record {
      ok = told_more before after _ _ w.told (λ m n held st can.
          let s = st can.current in
          let apart : NoOtherMeets (is_kept (contents_of o.pages)) at (length bytes) = subst (λ l. NoOtherMeets (is_kept l) at (length bytes)) (pages_eq name o c) can.apart in
          stays_puts at bytes _ _ _ m n n s (puts_of name mid new k d at bytes n (λ good. put_in o mid new at bytes (bytes_of name n) r alike apart good) s.current));
      err = tt;
      others = w.others;
      kept = tt;
      added = of_pages (AddsOnly at (length bytes)) name o new c d (adds_only o mid new at bytes true r alike);
      there = ap (λ l. kept l at (length bytes)) (pages_eq name new d) ∙ taken_there o mid new at bytes true r alike;
      to_write = ap (λ l. is_unwritten l at (length bytes)) (pages_eq name new d) ∙ taken_to_write mid new at bytes alike;
      keeps = of_pages (KeepsOthers at (length bytes)) name o new c d (taken_keeps o mid new at bytes true r alike);
      unwritten = tt;
      name = refl;
      setup = setup ∙ stay.setup;
      access = lists ∙ (λ i. midpoint (stay.setup i) (stay.lists i) at (length bytes));
      counters =
          counted
          ∙ (λ i. record { read_requests = (x i).read_requests; reads = (x i).reads; write_requests = raised 1 (x i).write_requests; writes = (x i).writes })
          ∙ (λ i. record { read_requests = c.read_requests; reads = c.reads; write_requests = raised 1 c.write_requests; writes = v i })
          ∙ (λ i. record { read_requests = c.read_requests; reads = c.reads; write_requests = raised 1 c.write_requests; writes = writes_after (if sym never i then 0 else 1) (pages_of (cache_of name o c)) (pages_of (cache_of name new d)) c.writes });
      written = ap (λ (t : Counters). t.writes) counted ∙ ap (λ (t : Counters). t.writes) one ∙ ap (λ (p : Option Page). raised (option_len p) c.writes) (sym (due_is name o c at (length bytes) none));
      one = whole;
      flags = stored_of name o new c d at (length bytes) none (stored_flags o mid new at bytes r alike wrote);
      refusal = tt;
    }
  where
    not_unwritten : (b : Bool) → is_unwritten (contents_of o.pages) at (length bytes) ≡ b → b ≡ false
    not_unwritten false e = refl
    not_unwritten true e = let both : false ≡ true = ap is_some (sym (not_kept at (length bytes) o.pages none)) ∙ unwritten_kept (contents_of o.pages) at (length bytes) e in absurd cc

-- ---- a page that was there

tests_same : (test : KeptPage → Bool) (front : List KeptPage) (p q : KeptPage) (back : List KeptPage) → test q ≡ test p → position_or_len test (front ++ q ∷ back) ≡ position_or_len test (front ++ p ∷ back)
tests_same test [] p q back e = ap (λ (b : Bool). cond (not b) (1 + position_or_len test back) 0) e
tests_same test (f ∷ front) p q back e = ap (λ (n : ℕ). cond (not (test f)) (1 + n) 0) (tests_same test front p q back e)

parted : (o : Order) (i : ℕ) (s : Split o.pages i) → contents_of o.pages ≡ contents_of s.front ++ s.page.page ∷ contents_of s.back
parted o i s = ap contents_of s.is ∙ map-append _ s.front (s.page ∷ s.back)

-- the order with the bytes, before it is moved
pub record Renewed (o o1 : Order) (index at : ℕ) (bytes : List ℕ) : Type 0 where
  pub setup : o1.setup ≡ o.setup
  pub long : length o1.pages ≡ length o.pages
  pub lists : lists_in o1 ≡ lists_in o
  pub found : position (has_name at (length bytes)) o1.pages ≡ Some index
  pub differ : Pairs Differ (contents_of o1.pages)
  pub there : kept (contents_of o1.pages) at (length bytes) ≡ Some bytes
  pub to_write : is_unwritten (contents_of o1.pages) at (length bytes) ≡ true
  pub kept : (p n : ℕ) → is_kept (contents_of o1.pages) p n ≡ is_kept (contents_of o.pages) p n
  pub keeps : KeepsOthers at (length bytes) (contents_of o.pages) (contents_of o1.pages)
  pub flags : (p n : ℕ) → AreOthers p n at (length bytes) → is_unwritten (contents_of o1.pages) p n ≡ is_unwritten (contents_of o.pages) p n
  pub count : unwritten_count (contents_of o.pages) + (if is_unwritten (contents_of o.pages) at (length bytes) then 0 else 1) ≡ unwritten_count (contents_of o1.pages)
  pub puts : (file : List ℕ) → NoOtherMeets (is_kept (contents_of o.pages)) at (length bytes) → Good (contents_of o.pages) file → Putting at bytes (contents_of o.pages) (contents_of o1.pages) file file

kept_names : (front : List Page) (x y : Page) (back : List Page) (p n : ℕ) → y.at ≡ x.at → length y.bytes ≡ length x.bytes → is_kept (front ++ y ∷ back) p n ≡ is_kept (front ++ x ∷ back) p n
kept_names [] x y back p n at len = elim (cases_Bool (is_page p n x)) [
  | inl is ↦ ap is_some (kept_first y back p n (rw (at, len) is)) ∙ sym (ap is_some (kept_first x back p n is))
  | inr other ↦ ap is_some (kept_later y back p n (rw (at, len) other)) ∙ sym (ap is_some (kept_later x back p n other))
]
kept_names (f ∷ front) x y back p n at len = elim (cases_Bool (is_page p n f)) [
  | inl is ↦ ap is_some (kept_first f (front ++ y ∷ back) p n is) ∙ sym (ap is_some (kept_first f (front ++ x ∷ back) p n is))
  | inr other ↦ ap is_some (kept_later f (front ++ y ∷ back) p n other) ∙ kept_names front x y back p n at len ∙ sym (ap is_some (kept_later f (front ++ x ∷ back) p n other))
]

unwritten_here : (x : Page) (pages : List Page) (p n : ℕ) → AllByRecursion (Differ x) pages → is_page p n x ≡ true → is_unwritten (x ∷ pages) p n ≡ x.unwritten
unfolding is_unwritten
unwritten_here x pages p n all is = rw (is, none_other x pages p n all is) (last x.unwritten)
  where
    last : (b : Bool) → (b || false) ≡ b
    last true = refl
    last false = refl

count_renewed : (x y : Page) (pages : List Page) (b : Bool) → y.unwritten ≡ true → x.unwritten ≡ b → unwritten_count (x ∷ pages) + (if b then 0 else 1) ≡ unwritten_count (y ∷ pages)
unfolding unwritten_count
count_renewed x y pages true u v =
    let a : cond {A = ℕ} y.unwritten 1 0 ≡ cond {A = ℕ} true 1 0 = ap (λ (t : Bool). cond {A = ℕ} t 1 0) u in
    let c : cond {A = ℕ} x.unwritten 1 0 ≡ cond {A = ℕ} true 1 0 = ap (λ (t : Bool). cond {A = ℕ} t 1 0) v in
    omega (arith, a, c, sum_by-cons (λ (p : Page). cond {A = ℕ} p.unwritten 1 0) x pages, sum_by-cons (λ (p : Page). cond {A = ℕ} p.unwritten 1 0) y pages)
count_renewed x y pages false u v =
    let a : cond {A = ℕ} y.unwritten 1 0 ≡ cond {A = ℕ} true 1 0 = ap (λ (t : Bool). cond {A = ℕ} t 1 0) u in
    let c : cond {A = ℕ} x.unwritten 1 0 ≡ cond {A = ℕ} false 1 0 = ap (λ (t : Bool). cond {A = ℕ} t 1 0) v in
    omega (arith, a, c, sum_by-cons (λ (p : Page). cond {A = ℕ} p.unwritten 1 0) x pages, sum_by-cons (λ (p : Page). cond {A = ℕ} p.unwritten 1 0) y pages)

pub renewed : (o o1 : Order) (index at : ℕ) (bytes : List ℕ) (s : Split o.pages index) → Pairs Differ (contents_of o.pages) → position (has_name at (length bytes)) o.pages ≡ Some index → o1 ≡ record o { pages = with_page s (with_bytes s.page bytes) } → Renewed o o1 index at bytes
unfolding Pairs
renewed o o1 index at bytes s differ found is =
    let n = named at (length bytes) o.pages index s found in
    let parts = and_parts _ _ n.here in
    let at_is : s.page.page.at ≡ at = eqb-true _ _ parts.0 in
    let long : length s.page.page.bytes ≡ length bytes = eqb-true _ _ parts.1 in
    let x : Page = s.page.page in
    let q : KeptPage = with_bytes s.page bytes in
    let y : Page = q.page in
    let front : List Page = contents_of s.front in
    let back : List Page = contents_of s.back in
    let now : contents_of (with_page s q) ≡ front ++ y ∷ back = map-append _ s.front (q ∷ s.back) in
    let differ1 = subst (Pairs Differ) (parted o index s) differ in
    let out = (to_front front x back).differ differ1 in
    let differ_now : Pairs Differ (front ++ y ∷ back) = subst (Pairs Differ) now (differ_with o.pages index s q refl (sym long) differ) in
    let unwritten_is : is_unwritten (contents_of o.pages) at (length bytes) ≡ x.unwritten = ap (λ l. is_unwritten l at (length bytes)) (parted o index s) ∙ unwritten_out front x back at (length bytes) ∙ unwritten_here x (front ++ back) at (length bytes) out.0 n.here in
    subst (λ (t : Order). Renewed o t index at bytes) (sym is) (record {
      setup = refl;
      long = same_length o.pages index s q;
      lists =
          let listed_same : listed_as q ≡ listed_as s.page = (λ i. record { at = s.page.page.at; len = sym long i; hits = s.page.hits; last = s.page.last }) in
          let names : map listed_as (with_page s q) ≡ map listed_as o.pages = map-append _ s.front (q ∷ s.back) ∙ ap (λ e. map listed_as s.front ++ e ∷ map listed_as s.back) listed_same ∙ sym (map-append _ s.front (s.page ∷ s.back)) ∙ sym (ap (map listed_as) s.is) in
          (λ j. record {
            warm = (sym (take-map listed_as o.warm (with_page s q)) ∙ ap (take o.warm) names ∙ take-map listed_as o.warm o.pages) j;
            hot = (sym (drop-map listed_as o.warm (with_page s q)) ∙ ap (drop o.warm) names ∙ drop-map listed_as o.warm o.pages) j;
            accesses = o.accesses;
          });
      found =
          let same : has_name at (length bytes) q ≡ has_name at (length bytes) s.page = ap (λ (k : ℕ). (x.at == at) && (k == length bytes)) (sym long) in
          let before : position_or_len (has_name at (length bytes)) (with_page s q) ≡ position_or_len (has_name at (length bytes)) o.pages = tests_same (has_name at (length bytes)) s.front s.page q s.back same ∙ ap (position_or_len (has_name at (length bytes))) (sym s.is) in
          (λ j. cond (nat_lt (before j) (same_length o.pages index s q j)) (Some (before j)) None) ∙ found;
      differ = differ_with o.pages index s q refl (sym long) differ;
      kept = λ p k. ap (λ l. is_kept l p k) now ∙ kept_names front x y back p k refl (sym long) ∙ ap (λ l. is_kept l p k) (sym (parted o index s));
      there = subst (λ (t : ℕ). kept (contents_of (with_page s q)) t (length bytes) ≡ Some bytes) at_is (ap (λ l. kept l x.at (length bytes)) now ∙ renewed_there front y back differ_now);
      to_write = subst (λ (t : ℕ). is_unwritten (contents_of (with_page s q)) t (length bytes) ≡ true) at_is (ap (λ l. is_unwritten l x.at (length bytes)) now ∙ renewed_to_write front y back refl);
      keeps = subst (λ (t : ℕ). KeepsOthers t (length bytes) (contents_of o.pages) (contents_of (with_page s q))) at_is
          (subst (λ l. KeepsOthers x.at (length bytes) l (contents_of (with_page s q))) (sym (parted o index s)) (subst (λ l. KeepsOthers x.at (length bytes) (front ++ x ∷ back) l) (sym now) (renewed_keeps front x y back refl (sym long) differ1 differ_now)));
      flags = subst (λ (t : ℕ). (p n : ℕ) → AreOthers p n t (length bytes) → is_unwritten (contents_of (with_page s q)) p n ≡ is_unwritten (contents_of o.pages) p n) at_is
          (λ p k off. ap (λ l. is_unwritten l p k) now ∙ renewed_flags front x y back p k refl (sym long) (off_name y p k off) ∙ ap (λ l. is_unwritten l p k) (sym (parted o index s)));
      count =
          let a = ap unwritten_count (parted o index s) ∙ unwritten_count_out front x back in
          let b = ap unwritten_count now ∙ unwritten_count_out front y back in
          let c = count_renewed x y (front ++ back) (is_unwritten (contents_of o.pages) at (length bytes)) refl (sym unwritten_is) in
          ap (λ (k : ℕ). k + (if is_unwritten (contents_of o.pages) at (length bytes) then 0 else 1)) a ∙ c ∙ sym b;
      puts = λ file apart good.
          let good1 = subst (λ l. Good l file) (parted o index s) good in
          let a = keeping_alike _ (x ∷ (front ++ back)) file differ1 (to_front front x back) good1 in
          let apart1 : NoOtherMeets (is_kept (x ∷ (front ++ back))) x.at (length x.bytes) = λ p k kept_is. subst (λ t. ((p ≡ t) × (k ≡ length x.bytes)) ⊎ (are_apart (p, p + k) (t, t + length x.bytes) ≡ true)) (sym at_is)
          (subst (λ t. ((p ≡ at) × (k ≡ t)) ⊎ (are_apart (p, p + k) (at, at + t) ≡ true)) (sym long) (apart p k (subst (λ l. is_kept l p k ≡ true) (sym (parted o index s)) (ap is_some ((from_front front x back).kept out p k) ∙ kept_is)))) in
          let b = put_over x y (front ++ back) file refl (sym long) refl out.0 apart1 a.good in
          let differ2 : Pairs Differ (y ∷ (front ++ back)) = (to_front front y back).differ (subst (Pairs Differ) now (differ_with o.pages index s q refl (sym long) differ)) in
          let c = keeping_alike (y ∷ (front ++ back)) (front ++ y ∷ back) file differ2 (from_front front y back) b.good in
          let p = after_keeping y.at y.bytes _ _ _ file file a (putting_then y.at y.bytes _ _ _ file file file b c) in
          subst (λ t. Putting t bytes (contents_of o.pages) (contents_of (with_page s q)) file file) at_is
          (subst (λ l. Putting x.at bytes l (contents_of (with_page s q)) file file) (sym (parted o index s)) (subst (λ l. Putting x.at bytes (front ++ x ∷ back) l file file) (sym now) p));
    })

pub hit_stores : {T E : Type 0} (before after : Option Holding) (name : List ℕ) (o o1 new : Order) (c d : Counters) (index at : ℕ) (bytes : List ℕ) (answer : T) → after ≡ before → Renewed o o1 index at bytes → is_kept (contents_of o.pages) at (length bytes) ≡ true → c.writes < 2 ^ 64
    → new.setup ≡ o1.setup → lists_in new ≡ midpoint o1.setup (lists_in o1) at (length bytes) → Alike (contents_of o1.pages) (contents_of new.pages) → d ≡ record c { write_requests = raised 1 c.write_requests }
    → Stores {T = T} {E = E} before after at bytes (Ok answer) (cache_of name o c) (cache_of name new d)
hit_stores before after name o o1 new c d index at bytes answer same r there small setup lists alike counted =
    let a = ap unwritten_count (pages_eq name o c) in
    let b = ap unwritten_count (pages_eq name new d) in
    let k = alike.count in
    let n = r.count in
    let u : is_unwritten (pages_of (cache_of name o c)) at (length bytes) ≡ is_unwritten (contents_of o.pages) at (length bytes) = ap (λ l. is_unwritten l at (length bytes)) (pages_eq name o c) in
    let more : ◌≡◌ {A = ℕ} (if is_unwritten (pages_of (cache_of name o c)) at (length bytes) then 0 else 1) (if is_unwritten (contents_of o.pages) at (length bytes) then 0 else 1) = ap (λ (t : Bool). cond {A = ℕ} t 0 1) u in
    let w : c.writes ≡ writes_after (if is_unwritten (pages_of (cache_of name o c)) at (length bytes) then 0 else 1) (pages_of (cache_of name o c)) (pages_of (cache_of name new d)) c.writes = omega (arith, a, b, k, n, more) in
    record {
      ok = told_same before after _ same (λ m held can.
          let apart : NoOtherMeets (is_kept (contents_of o.pages)) at (length bytes) = subst (λ l. NoOtherMeets (is_kept l) at (length bytes)) (pages_eq name o c) can.apart in
          puts_of name o new c d at bytes m (λ good. let p = r.puts (bytes_of name m) apart good in putting_then at bytes _ _ _ (bytes_of name m) (bytes_of name m) (bytes_of name m) p (keeping_alike (contents_of o1.pages) (contents_of new.pages) (bytes_of name m) r.differ alike p.good)) can.current);
      err = tt;
      others = told_same before after _ same (λ m held q ne. refl);
      kept = tt;
      there = ap (λ l. kept l at (length bytes)) (pages_eq name new d) ∙ alike.kept r.differ at (length bytes) ∙ r.there;
      to_write = ap (λ l. is_unwritten l at (length bytes)) (pages_eq name new d) ∙ alike.unwritten at (length bytes) ∙ r.to_write;
      keeps = of_pages (KeepsOthers at (length bytes)) name o new c d (record { bytes = λ p n x other e. r.keeps.bytes p n x other (sym (alike.kept r.differ p n) ∙ e); unwritten = λ p n other u. r.keeps.unwritten p n other (sym (alike.unwritten p n) ∙ u) });
      unwritten = tt;
      added = of_pages (AddsOnly at (length bytes)) name o new c d (λ p n found. inl (sym (r.kept p n) ∙ ap is_some (sym (alike.kept r.differ p n)) ∙ found));
      name = refl;
      setup = setup ∙ r.setup;
      access = lists ∙ (λ i. midpoint (r.setup i) (r.lists i) at (length bytes));
      counters = counted ∙ (λ i. record { read_requests = c.read_requests; reads = c.reads; write_requests = raised 1 c.write_requests; writes = w i });
      written =
          let same_writes : c.writes ≡ raised 0 c.writes = omega (arith, small) in
          ap (λ (t : Counters). t.writes) counted ∙ same_writes ∙ ap (λ (p : Option Page). raised (option_len p) c.writes) (sym (due_hit name o c at (length bytes) there));
      one = one_none before after name (due (cache_of name o c) at (length bytes)) (Ok answer) (due_hit name o c at (length bytes) there) same;
      flags = λ p n off other. of_pages (λ l m. is_unwritten m p n ≡ is_unwritten l p n) name o new c d (alike.unwritten p n ∙ r.flags p n off);
      refusal = tt;
    }

pub stores_on : {T U E F : Type 0} (before after : Option Holding) (at : ℕ) (bytes : List ℕ) (x : T) (y : U) (old new old1 new1 : Caching) → old ≡ old1 → new ≡ new1 → Stores {T = T} {E = E} before after at bytes (Ok x) old new → Stores {T = U} {E = F} before after at bytes (Ok y) old1 new1
stores_on {T} {U} {E} {F} before after at bytes x y old new old1 new1 a b g =
    subst (λ k. Stores {T = U} {E = F} before after at bytes (Ok y) k new1) a (subst (λ k. Stores {T = U} {E = F} before after at bytes (Ok y) old k) b (record {
      ok = g.ok;
      err = tt;
      others = g.others;
      kept = tt;
      added = g.added;
      there = g.there;
      to_write = g.to_write;
      keeps = g.keeps;
      unwritten = tt;
      name = g.name;
      setup = g.setup;
      access = g.access;
      counters = g.counters;
      written = g.written;
      one = one_ok before after old.name (due old at (length bytes)) x y g.one;
      flags = g.flags;
      refusal = tt;
    }))

pub refused_on : {T U E F : Type 0} (before after : Option Holding) (at : ℕ) (bytes : List ℕ) (e : E) (f : F) (old new old1 new1 : Caching) → old ≡ old1 → new ≡ new1 → Stores {T = T} {E = E} before after at bytes (Err e) old new → Stores {T = U} {E = F} before after at bytes (Err f) old1 new1
refused_on {T} {U} {E} {F} before after at bytes e f old new old1 new1 a b g =
    subst (λ k. Stores {T = U} {E = F} before after at bytes (Err f) k new1) a (subst (λ k. Stores {T = U} {E = F} before after at bytes (Err f) old k) b (record {
      ok = tt;
      err = g.err;
      others = g.others;
      kept = g.kept;
      added = g.added;
      there = tt;
      to_write = tt;
      keeps = g.keeps;
      unwritten = g.unwritten;
      name = g.name;
      setup = g.setup;
      access = g.access;
      counters = g.counters;
      written = tt;
      one = one_err before after old.name (due old at (length bytes)) e f g.one;
      flags = g.flags;
      refusal = g.refusal;
    }))
