-- The pages that a call leaves alone.
use Rattle.std.proofs.Common.{◌≡◌, ℕ, Bool, true, false, List, [], ◌∷◌, ◌++◌, length, None, Some, refl, sym, ap, ◌∙◌, inl, inr}
use Rattle.std.specs.Prelude.{◌&&◌, ◌==◌, nat_le}
use Rattle.std.proofs.lemmas.Bool.{cases_Bool, and_parts, and_from, eqb-true, eq-eqb, or_left}
use Rattle.std.proofs.lemmas.Option.{same_Some}
use Rattle.myi_keycache.specs.Kept.{Page, is_page, kept, is_unwritten, AreOthers, SameKept, KeepsBytes, KeepsOthers, ChangesNone}
use Rattle.myi_keycache.specs.Caching.{Caching, pages_of}
use Rattle.myi_keycache.specs.Order.{Order, contents_of, page_of, room_in, Pairs, Differ, Alike}
use Rattle.myi_keycache.proofs.KeptLemmas.{kept_first, kept_later}
use Rattle.myi_keycache.proofs.StaysLemmas.{not_named, to_front}
use Rattle.myi_keycache.proofs.LoadLemmas.{Room, rest, rest_differ, rest_unwritten, rest_others, not_kept}

pub off_name : (x : Page) (p n : ℕ) → AreOthers p n x.at (length x.bytes) → is_page p n x ≡ false
off_name x p n other = elim (cases_Bool (is_page p n x)) [
  | inl is ↦ let parts = and_parts _ _ is in absurd (other (sym (eqb-true _ _ parts.0)) (sym (eqb-true _ _ parts.1)))
  | inr off ↦ off
]

pub own_name : (x : Page) → is_page x.at (length x.bytes) x ≡ true
own_name x = and_from _ _ (eq-eqb x.at x.at refl) (eq-eqb (length x.bytes) (length x.bytes) refl)

pub unwritten_later : (x : Page) (pages : List Page) (p n : ℕ) → is_page p n x ≡ false → is_unwritten (x ∷ pages) p n ≡ is_unwritten pages p n
unfolding is_unwritten
unwritten_later x pages p n off = rw off refl

rest_bytes : (b : Bool) (pages : List Page) (p n : ℕ) (x : List ℕ) → Pairs Differ pages → kept (rest b pages) p n ≡ Some x → kept pages p n ≡ Some x
unfolding Pairs
rest_bytes false pages p n x d e = e
rest_bytes true [] p n x d e = e
rest_bytes true (y ∷ pages) p n x d e = elim (cases_Bool (is_page p n y)) [
  | inl is ↦ let both : None ≡ Some x = sym (not_named y pages p n d.0 is) ∙ e in absurd cc
  | inr off ↦ kept_later y pages p n off ∙ e
]

first_to_write : (x : Page) (pages : List Page) → x.unwritten ≡ true → is_unwritten (x ∷ pages) x.at (length x.bytes) ≡ true
unfolding is_unwritten
first_to_write x pages u = or_left _ _ (and_from _ _ (own_name x) u)

-- ---- a page is taken in

taken_differ : (o mid : Order) (at : ℕ) (bytes : List ℕ) (unwritten : Bool) → Room o mid at (length bytes) → Pairs Differ (page_of at bytes unwritten ∷ room_in mid)
unfolding Pairs
taken_differ o mid at bytes unwritten r = (rest_others o mid at bytes unwritten r, rest_differ (nat_le mid.setup.blocks (length mid.pages)) (contents_of mid.pages) r.differ)

pub taken_keeps : (o mid new : Order) (at : ℕ) (bytes : List ℕ) (unwritten : Bool) → Room o mid at (length bytes) → Alike (page_of at bytes unwritten ∷ room_in mid) (contents_of new.pages) → KeepsOthers at (length bytes) (contents_of o.pages) (contents_of new.pages)
taken_keeps o mid new at bytes unwritten r alike =
    let x : Page = page_of at bytes unwritten in
    let b : Bool = nat_le mid.setup.blocks (length mid.pages) in
    record {
      bytes = λ p n y other e.
          let there : kept (room_in mid) p n ≡ Some y = sym (kept_later x (room_in mid) p n (off_name x p n other)) ∙ sym (alike.kept (taken_differ o mid at bytes unwritten r) p n) ∙ e in
          sym (r.stay.kept p n) ∙ rest_bytes b (contents_of mid.pages) p n y r.differ there;
      unwritten = λ p n other u.
          let there : is_unwritten (room_in mid) p n ≡ true = sym (unwritten_later x (room_in mid) p n (off_name x p n other)) ∙ sym (alike.unwritten p n) ∙ u in
          r.stay.unwritten p n (rest_unwritten b (contents_of mid.pages) p n there);
    }

pub taken_there : (o mid new : Order) (at : ℕ) (bytes : List ℕ) (unwritten : Bool) → Room o mid at (length bytes) → Alike (page_of at bytes unwritten ∷ room_in mid) (contents_of new.pages) → kept (contents_of new.pages) at (length bytes) ≡ Some bytes
taken_there o mid new at bytes unwritten r alike =
    let x : Page = page_of at bytes unwritten in
    alike.kept (taken_differ o mid at bytes unwritten r) at (length bytes) ∙ kept_first x (room_in mid) at (length bytes) (own_name x)

pub taken_to_write : (mid new : Order) (at : ℕ) (bytes : List ℕ) → Alike (page_of at bytes true ∷ room_in mid) (contents_of new.pages) → is_unwritten (contents_of new.pages) at (length bytes) ≡ true
taken_to_write mid new at bytes alike = alike.unwritten at (length bytes) ∙ first_to_write (page_of at bytes true) (room_in mid) refl

pub same_bytes : (old new : List Page) → SameKept old new → KeepsBytes old new
same_bytes old new same p n x y was is = same_Some y x (sym is ∙ same p n ∙ was)

pub taken_bytes : (o mid new : Order) (at : ℕ) (bytes : List ℕ) (unwritten : Bool) → Room o mid at (length bytes) → Alike (page_of at bytes unwritten ∷ room_in mid) (contents_of new.pages) → KeepsBytes (contents_of o.pages) (contents_of new.pages)
taken_bytes o mid new at bytes unwritten r alike p n x y was is = elim (cases_Bool ((p == at) && (n == length bytes))) [
  | inl here ↦
      let parts = and_parts (p == at) (n == length bytes) here in
      let place : p ≡ at = eqb-true p at parts.0 in
      let long : n ≡ length bytes = eqb-true n (length bytes) parts.1 in
      let none : kept (contents_of o.pages) at (length bytes) ≡ None = sym (r.stay.kept at (length bytes)) ∙ not_kept at (length bytes) mid.pages r.none in
      let both : None ≡ Some x = sym none ∙ (λ j. kept (contents_of o.pages) (sym place j) (sym long j)) ∙ was in
      absurd cc
  | inr off ↦
      let other : AreOthers p n at (length bytes) = λ a b. let never : true ≡ false = sym (and_from _ _ (eq-eqb p at a) (eq-eqb n (length bytes) b)) ∙ off in absurd cc in
      same_Some y x (sym ((taken_keeps o mid new at bytes unwritten r alike).bytes p n y other is) ∙ was)
]

-- ---- a page has other bytes of the same length

pub renewed_keeps : (front : List Page) (x y : Page) (back : List Page) → y.at ≡ x.at → length y.bytes ≡ length x.bytes → Pairs Differ (front ++ x ∷ back) → Pairs Differ (front ++ y ∷ back) → KeepsOthers y.at (length y.bytes) (front ++ x ∷ back) (front ++ y ∷ back)
renewed_keeps front x y back at len dx dy = record {
  bytes = λ p n z other e.
      let there : kept (front ++ back) p n ≡ Some z = sym (kept_later y (front ++ back) p n (off_name y p n other)) ∙ (to_front front y back).kept dy p n ∙ e in
      sym ((to_front front x back).kept dx p n) ∙ kept_later x (front ++ back) p n (off_name x p n (λ a b. other (a ∙ sym at) (b ∙ sym len))) ∙ there;
  unwritten = λ p n other u.
      let there : is_unwritten (front ++ back) p n ≡ true = sym (unwritten_later y (front ++ back) p n (off_name y p n other)) ∙ (to_front front y back).unwritten p n ∙ u in
      sym ((to_front front x back).unwritten p n) ∙ unwritten_later x (front ++ back) p n (off_name x p n (λ a b. other (a ∙ sym at) (b ∙ sym len))) ∙ there;
}

pub renewed_there : (front : List Page) (y : Page) (back : List Page) → Pairs Differ (front ++ y ∷ back) → kept (front ++ y ∷ back) y.at (length y.bytes) ≡ Some y.bytes
renewed_there front y back d = sym ((to_front front y back).kept d y.at (length y.bytes)) ∙ kept_first y (front ++ back) y.at (length y.bytes) (own_name y)

pub renewed_to_write : (front : List Page) (y : Page) (back : List Page) → y.unwritten ≡ true → is_unwritten (front ++ y ∷ back) y.at (length y.bytes) ≡ true
renewed_to_write front y back u = sym ((to_front front y back).unwritten y.at (length y.bytes)) ∙ first_to_write y (front ++ back) u

-- ---- nothing is changed

pub same_keeps : (a b : Caching) (at len : ℕ) → a ≡ b → KeepsOthers at len (pages_of b) (pages_of a)
same_keeps a b at len is = record {
  bytes = λ p n x other e. ap (λ (k : Caching). kept (pages_of k) p n) (sym is) ∙ e;
  unwritten = λ p n other u. ap (λ (k : Caching). is_unwritten (pages_of k) p n) (sym is) ∙ u;
}

pub same_changes : (a b : Caching) → a ≡ b → ChangesNone (pages_of b) (pages_of a)
same_changes a b is p n u = ap (λ (k : Caching). is_unwritten (pages_of k) p n) (sym is) ∙ u
