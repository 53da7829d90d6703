-- What a call writes of the page that leaves.
use Rattle.std.proofs.Common.{◌≡◌, ℕ, ◌^◌, ◌<◌, Bool, true, false, ◌||◌, List, length, slice_get, position, Option, None, Some, Ok, Err, refl, sym, ap, subst, ◌∙◌, arith, inl, inr}
use Rattle.std.specs.Prelude.{◌⊎◌, nat_le, nat_lt, is_some, Result, if◌then◌else◌}
use Rattle.std.proofs.Math.Seq.{take-length}
use Rattle.std.proofs.lemmas.Bool.{cases_Bool, leb-true, leb-false, lt-ltb, le-ltb}
use Rattle.std.proofs.lemmas.List.{length-map}
use Rattle.myi_base.specs.Holding.{Holding, Told, Writes, WritesPart}
use Rattle.myi_base.proofs.CallerLemmas.{told_same, told_more}
use Rattle.myi_keycache.specs.declared.setup.Counters.{Counters}
use Rattle.myi_keycache.specs.Kept.{Page, KeptPage, is_kept}
use Rattle.myi_keycache.specs.Counts.{raised}
use Rattle.myi_keycache.specs.Caching.{Caching, pages_of, if_unwritten, due, WritesOne}
use Rattle.myi_keycache.specs.Order.{Order, Split, contents_of, has_name, unwritten_at, due_in, counts_one, cache_of}
use Rattle.myi_keycache.proofs.OrderLemmas.{get_middle}
use Rattle.myi_keycache.proofs.HitLemmas.{contents_at}
use Rattle.myi_keycache.proofs.CacheLemmas.{pages_eq}
use Rattle.myi_keycache.proofs.LoadLemmas.{not_kept, kept_false}

-- ---- the page at an index

there : (o : Order) (i : ℕ) (s : Split o.pages i) → slice_get (contents_of o.pages) i ≡ Some s.page.page
there o i s = contents_at o.pages i s.page (subst (λ l. slice_get l i ≡ Some s.page) (sym s.is) (get_middle s.front s.page s.back i s.long))

pub none_at : (o : Order) (i : ℕ) (s : Split o.pages i) → s.page.page.unwritten ≡ false → unwritten_at o i ≡ None
unfolding unwritten_at
none_at o i s w = ap if_unwritten (there o i s) ∙ ap (λ (b : Bool). if b then Some s.page.page else None) w

pub some_at : (o : Order) (i : ℕ) (s : Split o.pages i) → s.page.page.unwritten ≡ true → unwritten_at o i ≡ Some s.page.page
unfolding unwritten_at
some_at o i s u = ap if_unwritten (there o i s) ∙ ap (λ (b : Bool). if b then Some s.page.page else None) u

-- ---- the page that is to be written

-- where the page is not kept, all blocks are used, or one is free
pub due_is : (name : List ℕ) (o : Order) (c : Counters) (at len : ℕ) → position (has_name at len) o.pages ≡ None → due (cache_of name o c) at len ≡ due_in o
unfolding due unwritten_at
due_is name o c at len none = ap chosen (pages_eq name o c) ∙ by (cases_Bool (nat_le o.setup.blocks (length o.pages)))
  where
    chosen : List Page → Option Page
    chosen l = if_unwritten (if is_kept l at len || nat_lt (length l) o.setup.blocks then None else slice_get l 0)

    absent : is_kept (contents_of o.pages) at len ≡ false
    absent = ap is_some (not_kept at len o.pages none)

    by : (nat_le o.setup.blocks (length o.pages) ≡ true) ⊎ (nat_le o.setup.blocks (length o.pages) ≡ false) → chosen (contents_of o.pages) ≡ due_in o
    by (inl full) =
        let le = leb-true _ _ full in
        let long = length-map o.pages (λ (p : KeptPage). p.page) in
        let not_free : nat_lt (length (contents_of o.pages)) o.setup.blocks ≡ false = le-ltb _ _ (omega (arith, le, long)) in
        rw (absent, not_free, full) refl
    by (inr free) =
        let lt = leb-false _ _ free in
        let long = length-map o.pages (λ (p : KeptPage). p.page) in
        let is_free : nat_lt (length (contents_of o.pages)) o.setup.blocks ≡ true = lt-ltb _ _ (omega (arith, lt, long)) in
        rw (absent, is_free, free) refl

pub due_hit : (name : List ℕ) (o : Order) (c : Counters) (at len : ℕ) → is_kept (contents_of o.pages) at len ≡ true → due (cache_of name o c) at len ≡ None
unfolding due
due_hit name o c at len there = ap chosen (pages_eq name o c) ∙ rw there refl
  where
    chosen : List Page → Option Page
    chosen l = if_unwritten (if is_kept l at len || nat_lt (length l) o.setup.blocks then None else slice_get l 0)

-- where a page is kept, nothing is to be written, and where none has the name it is not
pub due_kept : (name : List ℕ) (o : Order) (c : Counters) (cache : Caching) (at len : ℕ) → cache_of name o c ≡ cache → is_kept (contents_of o.pages) at len ≡ true → due cache at len ≡ None
due_kept name o c cache at len is there = ap (λ (k : Caching). due k at len) (sym is) ∙ due_hit name o c at len there

pub never_hit : (name : List ℕ) (o : Order) (c : Counters) (cache : Caching) (at len : ℕ) → cache_of name o c ≡ cache → position (has_name at len) o.pages ≡ None → is_kept (pages_of cache) at len ≡ true → ⊥
never_hit name o c cache at len is none found =
    kept_false (contents_of o.pages) at len (not_kept at len o.pages none) (ap (λ l. is_kept l at len) (sym (pages_eq name o c)) ∙ ap (λ (k : Caching). is_kept (pages_of k) at len) is ∙ found)

pub due_full : (o : Order) → nat_le o.setup.blocks (length o.pages) ≡ true → due_in o ≡ unwritten_at o 0
due_full o full = rw full refl

pub due_free : (o : Order) → nat_le o.setup.blocks (length o.pages) ≡ false → due_in o ≡ None
due_free o free = rw free refl

pub not_none : (page : Option Page) (p : Page) → page ≡ Some p → page ≡ None → ⊥
not_none page p is none = let both : Some p ≡ None = sym is ∙ none in absurd cc

-- ---- what was counted

pub count_none : (c : Counters) (page : Option Page) → c.writes < 2 ^ 64 → page ≡ None → c ≡ counts_one page c
count_none c page small is =
    let same_writes : c.writes ≡ raised 0 c.writes = omega (arith, small) in
    rw is (ap (λ (k : ℕ). record c { writes = k }) same_writes)

pub count_some : (c d : Counters) (page : Option Page) (p : Page) → page ≡ Some p → d ≡ record c { writes = raised 1 c.writes } → d ≡ counts_one page c
count_some c d page p is counted = rw is counted

-- ---- what was written

-- the page of the call is the one that is to be written, and the files stood still before it
pub one_due : {T E : Type 0} (before middle after : Option Holding) (name : List ℕ) (o : Order) (c : Counters) (at len : ℕ) (result : Result T E) → position (has_name at len) o.pages ≡ None → middle ≡ before → WritesOne middle after name (due_in o) result → WritesOne before after name (due (cache_of name o c) at len) result
one_due before middle after name o c at len result none same w =
    subst (λ (p : Option Page). WritesOne before after name p result) (sym (due_is name o c at len none)) (subst (λ h. WritesOne h after name (due_in o) result) same w)

pub one_of : {T E : Type 0} (before after : Option Holding) (old old1 : Caching) (at len : ℕ) (result : Result T E) → old ≡ old1 → WritesOne before after old.name (due old at len) result → WritesOne before after old1.name (due old1 at len) result
one_of before after old old1 at len result is w = subst (λ (k : Caching). WritesOne before after k.name (due k at len) result) is w

pub one_full : {T E : Type 0} (before after : Option Holding) (name : List ℕ) (o : Order) (result : Result T E) → nat_le o.setup.blocks (length o.pages) ≡ true → WritesOne before after name (unwritten_at o 0) result → WritesOne before after name (due_in o) result
one_full before after name o result full w = subst (λ (p : Option Page). WritesOne before after name p result) (sym (due_full o full)) w

pub one_none : {T E : Type 0} (before after : Option Holding) (name : List ℕ) (page : Option Page) (result : Result T E) → page ≡ None → after ≡ before → WritesOne before after name page result
one_none before after name page (Ok x) is same = rw is (record { none = λ n. same; ok = tt; err = tt })
one_none before after name page (Err e) is same = rw is (record { none = λ n. same; ok = tt; err = tt })

pub one_done : {T E : Type 0} (before after : Option Holding) (name : List ℕ) (page : Option Page) (x : T) (p : Page) (at : ℕ) (bytes : List ℕ) → page ≡ Some p → at ≡ p.at → bytes ≡ p.bytes → Told before after (Writes name at bytes) → WritesOne {T = T} {E = E} before after name page (Ok x)
one_done before after name page x p at bytes is at_is bytes_is told =
    rw is (record { none = λ n. absurd cc; ok = subst (λ (a : ℕ). Told before after (Writes name a p.bytes)) at_is (subst (λ (b : List ℕ). Told before after (Writes name at b)) bytes_is told); err = tt })

pub one_part : {T E : Type 0} (before after : Option Holding) (name : List ℕ) (page : Option Page) (e : E) (p : Page) (at : ℕ) (bytes : List ℕ) → page ≡ Some p → at ≡ p.at → bytes ≡ p.bytes → Told before after (WritesPart name at bytes) → WritesOne {T = T} {E = E} before after name page (Err e)
one_part before after name page e p at bytes is at_is bytes_is told =
    rw is (record { none = λ n. absurd cc; ok = tt; err = subst (λ (a : ℕ). Told before after (WritesPart name a p.bytes)) at_is (subst (λ (b : List ℕ). Told before after (WritesPart name at b)) bytes_is told) })

-- a call that was refused before it wrote
pub one_kept : {T E : Type 0} (before after : Option Holding) (name : List ℕ) (page : Option Page) (e : E) → after ≡ before → WritesOne {T = T} {E = E} before after name page (Err e)
one_kept before after name None e same = record { none = λ n. same; ok = tt; err = tt }
one_kept before after name (Some p) e same = record { none = λ n. absurd cc; ok = tt; err = told_same before after _ same (λ m held. inl refl) }

-- a call that was refused after it wrote
pub one_refused : {T U E F : Type 0} (before after : Option Holding) (name : List ℕ) (page : Option Page) (x : T) (e : F) → WritesOne {T = T} {E = E} before after name page (Ok x) → WritesOne {T = U} {E = F} before after name page (Err e)
one_refused before after name None x e w = record { none = w.none; ok = tt; err = tt }
one_refused before after name (Some p) x e w =
    record { none = w.none; ok = tt; err = told_more before after _ _ w.ok (λ m n held s. inr (length p.bytes, omega arith, subst (λ (b : List ℕ). Writes name p.at b m n) (sym (take-length p.bytes)) s)) }

pub one_ok : {T U E F : Type 0} (before after : Option Holding) (name : List ℕ) (page : Option Page) (x : T) (y : U) → WritesOne {T = T} {E = E} before after name page (Ok x) → WritesOne {T = U} {E = F} before after name page (Ok y)
one_ok before after name page x y w = record { none = w.none; ok = w.ok; err = tt }

pub one_err : {T U E F : Type 0} (before after : Option Holding) (name : List ℕ) (page : Option Page) (e : E) (f : F) → WritesOne {T = T} {E = E} before after name page (Err e) → WritesOne {T = U} {E = F} before after name page (Err f)
one_err before after name page e f w = record { none = w.none; ok = tt; err = w.err }
