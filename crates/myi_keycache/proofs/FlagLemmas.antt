-- Which pages are unwritten after a call.
use Rattle.std.proofs.Common.{◌≡◌, ℕ, ◌^◌, ◌<◌, Bool, true, false, ◌||◌, List, [], ◌∷◌, ◌++◌, length, position, Option, None, Some, Ok, refl, sym, ap, subst, ◌∙◌, arith, inl, inr}
use Rattle.std.specs.Prelude.{◌&&◌, nat_le, IfSome}
use Rattle.std.specs.List.{AllByRecursion}
use Rattle.std.specs.Option.{option_len}
use Rattle.std.proofs.lemmas.Bool.{cases_Bool, and_parts, eqb-true}
use Rattle.std.proofs.lemmas.List.{map-append}
use Rattle.myi_base.specs.Holding.{Holding}
use Rattle.myi_keycache.specs.declared.setup.Counters.{Counters}
use Rattle.myi_keycache.specs.Kept.{Page, is_page, is_unwritten, IsOther, KeepsFlags, KeepsOtherFlags}
use Rattle.myi_keycache.specs.Counts.{raised}
use Rattle.myi_keycache.specs.Caching.{Caching, pages_of, due, WritesOne, AllOrNone}
use Rattle.myi_keycache.specs.Order.{Order, Split, with_page, as_written, contents_of, has_name, page_of, room_in, due_in, counts_one, Pairs, Differ, Alike, IsFirstWritten, WroteOut, cache_of}
use Rattle.myi_keycache.proofs.FrontLemmas.{unwritten_out}
use Rattle.myi_keycache.proofs.StaysLemmas.{to_front}
use Rattle.myi_keycache.proofs.CacheLemmas.{pages_eq}
use Rattle.myi_keycache.proofs.LoadLemmas.{Room, rest}
use Rattle.myi_keycache.proofs.OthersLemmas.{off_name, own_name, unwritten_later}
use Rattle.myi_keycache.proofs.OneLemmas.{due_is, due_full, none_at, some_at}

off : (a b : Bool) → b ≡ false → (c : Bool) → ((a && b) || c) ≡ c
off true b e c = ap (λ (t : Bool). t || c) e
off false b e c = refl

written_first : (x : Page) (pages : List Page) (p n : ℕ) → x.unwritten ≡ false → is_unwritten (x ∷ pages) p n ≡ is_unwritten pages p n
unfolding is_unwritten
written_first x pages p n w = off (is_page p n x) x.unwritten w (is_unwritten pages p n)

pub none_other : (x : Page) (pages : List Page) (p n : ℕ) → AllByRecursion (Differ x) pages → is_page p n x ≡ true → is_unwritten pages p n ≡ false
unfolding is_unwritten
none_other x [] p n all is = refl
none_other x (q ∷ pages) p n all is =
    elim (cases_Bool (is_page p n q)) [
      | inl same ↦
          let a = and_parts _ _ is in
          let b = and_parts _ _ same in
          absurd (all.0 (eqb-true _ _ a.0 ∙ sym (eqb-true _ _ b.0)) (eqb-true _ _ a.1 ∙ sym (eqb-true _ _ b.1)))
      | inr other ↦ rw other (none_other x pages p n all.1 is)
    ]

-- ---- the page that leaves is written

pub wrote_none : (page : Option Page) (pages : List Page) → page ≡ None → WroteOut page pages pages
wrote_none page pages is = subst (λ (q : Option Page). WroteOut q pages pages) (sym is) (record { flags = λ p n other. refl; gone = tt })

pub wrote_first : (o new : Order) (s : Split o.pages 0) → nat_le o.setup.blocks (length o.pages) ≡ true → Pairs Differ (contents_of o.pages) → new ≡ record o { pages = with_page s (as_written s.page) } → WroteOut (due_in o) (contents_of o.pages) (contents_of new.pages)
unfolding Pairs
wrote_first o new s full differ is =
    let x : Page = s.page.page in
    let y : Page = (as_written s.page).page in
    let front : List Page = contents_of s.front in
    let back : List Page = contents_of s.back in
    let was : contents_of o.pages ≡ front ++ x ∷ back = ap contents_of s.is ∙ map-append _ s.front (s.page ∷ s.back) in
    let now : contents_of new.pages ≡ front ++ y ∷ back = ap (λ (t : Order). contents_of t.pages) is ∙ map-append _ s.front (as_written s.page ∷ s.back) in
    let after : (p n : ℕ) → is_unwritten (contents_of new.pages) p n ≡ is_unwritten (front ++ back) p n = λ p n. ap (λ l. is_unwritten l p n) now ∙ unwritten_out front y back p n ∙ written_first y (front ++ back) p n refl in
    let before : (p n : ℕ) → is_unwritten (contents_of o.pages) p n ≡ is_unwritten (x ∷ (front ++ back)) p n = λ p n. ap (λ l. is_unwritten l p n) was ∙ unwritten_out front x back p n in
    let apart = (to_front front x back).differ (subst (Pairs Differ) was differ) in
    elim (cases_Bool x.unwritten) [
      | inl u ↦ subst (λ (q : Option Page). WroteOut q (contents_of o.pages) (contents_of new.pages)) (sym (due_full o full ∙ some_at o 0 s u)) (record {
        flags = λ p n other. after p n ∙ sym (unwritten_later x (front ++ back) p n (off_name x p n other)) ∙ sym (before p n);
        gone = after x.at (length x.bytes) ∙ none_other x (front ++ back) x.at (length x.bytes) apart.0 (own_name x);
      })
      | inr w ↦ subst (λ (q : Option Page). WroteOut q (contents_of o.pages) (contents_of new.pages)) (sym (due_full o full ∙ none_at o 0 s w)) (record {
        flags = λ p n other. after p n ∙ sym (written_first x (front ++ back) p n w) ∙ sym (before p n);
        gone = tt;
      })
    ]

-- ---- a page is taken in

rest_flags : (b : Bool) (pages : List Page) (p n : ℕ) → (b ≡ true → IsFirstWritten pages) → is_unwritten (rest b pages) p n ≡ is_unwritten pages p n
rest_flags false pages p n first = refl
rest_flags true [] p n first = refl
rest_flags true (x ∷ pages) p n first = sym (written_first x pages p n (first refl))

-- the pages that stay are unwritten where they were
room_flags : (o mid : Order) (at len : ℕ) → Room o mid at len → WroteOut (due_in o) (contents_of o.pages) (contents_of mid.pages) → KeepsFlags (due_in o) (contents_of o.pages) (room_in mid)
room_flags o mid at len r wrote p n other = rest_flags (nat_le mid.setup.blocks (length mid.pages)) (contents_of mid.pages) p n r.first ∙ wrote.flags p n other

pub taken_flags : (o mid new : Order) (at : ℕ) (bytes : List ℕ) → Room o mid at (length bytes) → Alike (page_of at bytes false ∷ room_in mid) (contents_of new.pages) → WroteOut (due_in o) (contents_of o.pages) (contents_of mid.pages) → KeepsFlags (due_in o) (contents_of o.pages) (contents_of new.pages)
taken_flags o mid new at bytes r alike wrote p n other = alike.unwritten p n ∙ written_first (page_of at bytes false) (room_in mid) p n refl ∙ room_flags o mid at (length bytes) r wrote p n other

pub stored_flags : (o mid new : Order) (at : ℕ) (bytes : List ℕ) → Room o mid at (length bytes) → Alike (page_of at bytes true ∷ room_in mid) (contents_of new.pages) → WroteOut (due_in o) (contents_of o.pages) (contents_of mid.pages) → KeepsOtherFlags (due_in o) at (length bytes) (contents_of o.pages) (contents_of new.pages)
stored_flags o mid new at bytes r alike wrote p n off_it other = alike.unwritten p n ∙ unwritten_later (page_of at bytes true) (room_in mid) p n (off_name (page_of at bytes true) p n off_it) ∙ room_flags o mid at (length bytes) r wrote p n other

-- a page gets other bytes
pub renewed_flags : (front : List Page) (x y : Page) (back : List Page) (p n : ℕ) → y.at ≡ x.at → length y.bytes ≡ length x.bytes → is_page p n y ≡ false → is_unwritten (front ++ y ∷ back) p n ≡ is_unwritten (front ++ x ∷ back) p n
renewed_flags front x y back p n at len it = unwritten_out front y back p n ∙ unwritten_later y (front ++ back) p n it ∙ sym (unwritten_later x (front ++ back) p n (rw (at, len) at it)) ∙ sym (unwritten_out front x back p n)

-- ---- a refusal

pub none_or : (before after : Option Holding) (page : Option Page) (name : List ℕ) (o mid : Order) (c k : Counters) → mid ≡ o → k ≡ c → AllOrNone before after page (cache_of name o c) (cache_of name mid k)
none_or before after page name o mid c k same uncounted = inl (λ p n. ap (λ (t : Order). is_unwritten (pages_of (cache_of name t k)) p n) same, ap (λ (t : Counters). t.writes) uncounted)

pub all_or : {T E : Type 0} (before after : Option Holding) (page : Option Page) (x : T) (old new : Caching) → KeepsFlags page (pages_of old) (pages_of new) → IfSome page (λ y. is_unwritten (pages_of new) y.at (length y.bytes) ≡ false) → new.counters.writes ≡ raised (option_len page) old.counters.writes → old.counters.writes < 2 ^ 64
    → WritesOne {T = T} {E = E} before after old.name page (Ok x) → AllOrNone before after page old new
all_or before after None x old new flags gone counted small w = inl (λ p n. flags p n tt, omega (arith, counted, small))
all_or before after (Some y) x old new flags gone counted small w = inr (y, refl, record { file = w.ok; counted = counted; flag = gone })

-- where nothing was done
pub none_still : (before after : Option Holding) (page : Option Page) (a b : Caching) → a ≡ b → AllOrNone before after page b a
none_still before after page a b is = inl (λ p n. ap (λ (t : Caching). is_unwritten (pages_of t) p n) is, ap (λ (t : Caching). t.counters.writes) is)

pub flags_still : (page : Option Page) (a b : Caching) (at len : ℕ) → a ≡ b → KeepsOtherFlags page at len (pages_of b) (pages_of a)
flags_still page a b at len is p n off_it other = ap (λ (t : Caching). is_unwritten (pages_of t) p n) is

-- what is said of the pages in one order, of those of the cache
pub flags_of : (name : List ℕ) (o new : Order) (c d : Counters) (at len : ℕ) → position (has_name at len) o.pages ≡ None → KeepsFlags (due_in o) (contents_of o.pages) (contents_of new.pages) → KeepsFlags (due (cache_of name o c) at len) (pages_of (cache_of name o c)) (pages_of (cache_of name new d))
flags_of name o new c d at len none f p n other = ap (λ l. is_unwritten l p n) (pages_eq name new d) ∙ f p n (subst (λ (q : Option Page). IsOther q p n) (due_is name o c at len none) other) ∙ ap (λ l. is_unwritten l p n) (sym (pages_eq name o c))

pub stored_of : (name : List ℕ) (o new : Order) (c d : Counters) (at len : ℕ) → position (has_name at len) o.pages ≡ None → KeepsOtherFlags (due_in o) at len (contents_of o.pages) (contents_of new.pages) → KeepsOtherFlags (due (cache_of name o c) at len) at len (pages_of (cache_of name o c)) (pages_of (cache_of name new d))
stored_of name o new c d at len none f p n off_it other = ap (λ l. is_unwritten l p n) (pages_eq name new d) ∙ f p n off_it (subst (λ (q : Option Page). IsOther q p n) (due_is name o c at len none) other) ∙ ap (λ l. is_unwritten l p n) (sym (pages_eq name o c))

pub refused_flags : (name : List ℕ) (o mid : Order) (c k : Counters) (page : Option Page) → mid ≡ o → KeepsFlags page (pages_of (cache_of name o c)) (pages_of (cache_of name mid k))
refused_flags name o mid c k page same p n other = ap (λ (t : Order). is_unwritten (pages_of (cache_of name t k)) p n) same

pub wrote_or : {T E : Type 0} (before after : Option Holding) (name : List ℕ) (o mid : Order) (c k : Counters) (at len : ℕ) (x : T) → position (has_name at len) o.pages ≡ None → WroteOut (due_in o) (contents_of o.pages) (contents_of mid.pages) → k ≡ counts_one (due_in o) c → c.writes < 2 ^ 64
    → WritesOne {T = T} {E = E} before after name (due (cache_of name o c) at len) (Ok x) → AllOrNone before after (due (cache_of name o c) at len) (cache_of name o c) (cache_of name mid k)
wrote_or {T} {E} before after name o mid c k at len x none wrote counted small w =
    let is = due_is name o c at len none in
    all_or {T = T} {E = E} before after (due (cache_of name o c) at len) x (cache_of name o c) (cache_of name mid k) (flags_of name o mid c k at len none wrote.flags)
    (subst (λ (q : Option Page). IfSome q (λ y. is_unwritten (pages_of (cache_of name mid k)) y.at (length y.bytes) ≡ false)) (sym is) (subst (λ l. IfSome (due_in o) (λ y. is_unwritten l y.at (length y.bytes) ≡ false)) (sym (pages_eq name mid k)) wrote.gone))
    (ap (λ (t : Counters). t.writes) counted ∙ ap (λ (q : Option Page). raised (option_len q) c.writes) (sym is)) small w
