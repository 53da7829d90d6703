-- A leaf with an entry put in.
use Rattle.std.proofs.Common.{◌≡◌, ℕ, zero, suc, ◌+◌, ◌-◌, ◌*◌, ◌%◌, ◌^◌, ◌<◌, ◌≤◌, true, false, Option, Some, None, List, [], ◌∷◌, ◌++◌, length, get_or, take, drop, refl, sym, ap, subst, ◌∙◌, append_assoc, append-nil, arith}
use Rattle.std.specs.List.{AllByRecursion}
use Rattle.std.proofs.lemmas.List.{length-append, length-take, length-drop, drop_more, take_at}
use Rattle.std.proofs.lemmas.Option.{same_Some}
use Rattle.myi_keypage.specs.declared.entry.Entry.{Entry}
use Rattle.myi_keypage.specs.Page.{shared, entry_with, page_with, entry_bytes, entries_bytes, page_bytes, IsPage}
use Rattle.myi_keypage.specs.PageItems.{Item, item_at, key_after}
use Rattle.myi_keypage.specs.Fitting.{used_length}
use Rattle.myi_keypage.specs.Writing.{Puts}
use Rattle.myi_keypage.specs.PuttingIn.{with_entry, key_before, AreEntries}
use Rattle.myi_keypage.proofs.Shared.{rejoined, shared_le}
use Rattle.myi_keypage.proofs.WriteLaws.{length-packed, entry_len, Puts-then, used_page}
use Rattle.myi_keypage.proofs.FitLaws.{entry_least, page_writable}
use Rattle.myi_keypage.proofs.PageIs.{expected}
use Rattle.myi_keypage.proofs.ShiftLaws.{leaf_item}

-- the item that an entry stands as
abbrev pub item_for : List ℕ → Entry → Item
item_for before e = record { prefix = shared before e.key; rest = drop (shared before e.key) e.key; row = e.row; child = None }

-- no entry has no bytes
pub entries_none : (rec_ref : ℕ) (before : List ℕ) (es : List Entry) → length (entries_bytes rec_ref before es []) ≡ 0 → es ≡ []
entries_none rec_ref before [] e = refl
entries_none rec_ref before (x ∷ es) e = absurd (omega (arith, e, length-append (entry_bytes rec_ref before x) (entries_bytes rec_ref x.key es []), entry_least rec_ref before x))

-- the first entry of what is left
pub record First (rec_ref : ℕ) (before : List ℕ) (e : Entry) (es : List Entry) (text : List ℕ) (most : ℕ) : Type 0 where
  pub more : List ℕ
  pub read : item_at false rec_ref text ≡ Some (item_for before e, more)
  pub key : length e.key + length more ≤ most
  pub prefix : shared before e.key ≤ length before
  pub rest : shared before e.key + length (drop (shared before e.key) e.key) ≡ length e.key
  pub then : AreEntries rec_ref e.key es more
  pub row : e.row < 256 ^ rec_ref

pub first_entry : (rec_ref : ℕ) (before : List ℕ) (e : Entry) (es : List Entry) (text : List ℕ) (most : ℕ) → most ≤ 32768 → length before + length text ≤ most → AreEntries rec_ref before (e ∷ es) text → First rec_ref before e es text most
first_entry rec_ref before e es text most small short are =
    let more : List ℕ = entries_bytes rec_ref e.key es [] in
    let text_len : length text ≡ length (entry_bytes rec_ref before e) + length more = omega (arith, ap length are.text_is, length-append (entry_bytes rec_ref before e) more) in
    let k = entry_len rec_ref before e (length more) (omega (arith, short, text_len, small)) in
    let whole : length (take (shared before e.key) before) + length (drop (shared before e.key) e.key) ≡ length e.key = omega (arith, ap length (rejoined before e.key), length-append (take (shared before e.key) before) (drop (shared before e.key) e.key)) in
    let pre : length (take (shared before e.key) before) ≡ shared before e.key = omega (arith, length-take (shared before e.key) before, shared_le before e.key) in
    let packed = length-packed rec_ref (shared before e.key) (drop (shared before e.key) e.key) e.row in
    record {
      more = more;
      read = ap (item_at false rec_ref) are.text_is ∙ leaf_item rec_ref (shared before e.key) e.row (drop (shared before e.key) e.key) more k.0 k.1 are.rows.0;
      key = omega (arith, short, text_len, packed, whole, pre, shared_le before e.key);
      prefix = shared_le before e.key;
      rest = omega (arith, whole, pre);
      then = record { text_is = refl; rows = are.rows.1 };
      row = are.rows.0;
    }

-- what a reader of items gives of it
pub record Given (before : List ℕ) (e : Entry) (more : List ℕ) (item : Item) (after : List ℕ) : Type 0 where
  pub prefix : item.prefix ≡ shared before e.key
  pub rest : item.rest ≡ drop (shared before e.key) e.key
  pub row : item.row ≡ e.row
  pub after_is : after ≡ more

pub given : (before : List ℕ) (e : Entry) (more : List ℕ) (item : Item) (after : List ℕ) (o : Option (Item × List ℕ)) → Some (item, after) ≡ o → o ≡ Some (item_for before e, more) → Given before e more item after
given before e more item after o is read =
    let k : (item, after) ≡ (item_for before e, more) = same_Some (item, after) (item_for before e, more) (is ∙ read) in
    let i : item ≡ item_for before e = ap (λ (x : Item × List ℕ). x.0) k in
    record { prefix = ap (λ (x : Item). x.prefix) i; rest = ap (λ (x : Item). x.rest) i; row = ap (λ (x : Item). x.row) i; after_is = ap (λ (x : Item × List ℕ). x.1) k }

pub not_true : false ≡ true → ⊥
not_true e = cc

pub not_none : (before : List ℕ) (e : Entry) (more : List ℕ) (o : Option (Item × List ℕ)) → None ≡ o → o ≡ Some (item_for before e, more) → ⊥
not_none before e more o is read = let k : None ≡ Some (item_for before e, more) = is ∙ read in cc

pub key_made : (before : List ℕ) (e : Entry) (more : List ℕ) (item : Item) (after : List ℕ) → Given before e more item after → key_after before item ≡ e.key
key_made before e more item after g = ap (λ (n : ℕ). take n before ++ item.rest) g.prefix ∙ ap (λ (t : List ℕ). take (shared before e.key) before ++ t) g.rest ∙ rejoined before e.key

-- the key before the next entry
pub key_next : (before : List ℕ) (es : List Entry) (i : ℕ) (d : Entry) → i < length es → key_before before es (suc i) ≡ (get_or es i d).key
key_next before [] i d lt = absurd (omega (arith, lt))
key_next before (e ∷ es) zero d lt = refl
key_next before (e ∷ es) (suc i) d lt = key_next e.key es i d (omega (arith, lt))

-- entries up to one, and those from there on
pub split_at : (rec_ref : ℕ) (before : List ℕ) (es : List Entry) (i : ℕ) → i ≤ length es → entries_bytes rec_ref before es [] ≡ entries_bytes rec_ref before (take i es) [] ++ entries_bytes rec_ref (key_before before es i) (drop i es) []
split_at rec_ref before es zero le = refl
split_at rec_ref before [] (suc i) le = refl
split_at rec_ref before (e ∷ es) (suc i) le =
    ap (λ (t : List ℕ). entry_bytes rec_ref before e ++ t) (split_at rec_ref e.key es i (omega (arith, le)))
    ∙ sym (append_assoc (entry_bytes rec_ref before e) (entries_bytes rec_ref e.key (take i es) []) (entries_bytes rec_ref (key_before e.key es i) (drop i es) []))

-- the same with an entry put in there
pub with_at : (rec_ref : ℕ) (before : List ℕ) (es : List Entry) (i : ℕ) (x : Entry) → i ≤ length es
    → entries_bytes rec_ref before (with_entry i x es) [] ≡ (entries_bytes rec_ref before (take i es) [] ++ entry_bytes rec_ref (key_before before es i) x) ++ entries_bytes rec_ref x.key (drop i es) []
with_at rec_ref before es zero x le = refl
with_at rec_ref before [] (suc i) x le = absurd (omega (arith, le))
with_at rec_ref before (e ∷ es) (suc i) x le =
    let a : List ℕ = entry_bytes rec_ref before e in
    let b : List ℕ = entries_bytes rec_ref e.key (take i es) [] in
    let d : List ℕ = entry_bytes rec_ref (key_before e.key es i) x in
    let f : List ℕ = entries_bytes rec_ref x.key (drop i es) [] in
    ap (λ (t : List ℕ). a ++ t) (with_at rec_ref e.key es i x (omega (arith, le))) ∙ sym (append_assoc a (b ++ d) f) ∙ ap (λ (t : List ℕ). t ++ f) (sym (append_assoc a b d))

-- the entry at i is the first of what is left from there on
pub at_first : (rec_ref : ℕ) (before : List ℕ) (es : List Entry) (i : ℕ) (d : Entry) (text : List ℕ) (most : ℕ) → most ≤ 32768 → length before + length text ≤ most → i < length es → AreEntries rec_ref before (drop i es) text → First rec_ref before (get_or es i d) (drop (suc i) es) text most
at_first rec_ref before es i d text most small short lt are =
    let one : i + 1 ≡ suc i = omega arith in
    let is : drop i es ≡ get_or es i d ∷ drop (suc i) es = drop_more es i d lt ∙ ap (λ (k : ℕ). get_or es i d ∷ drop k es) one in
    first_entry rec_ref before (get_or es i d) (drop (suc i) es) text most small short (subst (λ (t : List Entry). AreEntries rec_ref before t text) is are)

pub no_entry : Entry
no_entry = record { key = []; row = 0 }

-- some of the entries were passed, and the key before what is left stands in a buffer
pub record HasPassed (rec_ref : ℕ) (es : List Entry) (i : ℕ) (text key : List ℕ) (len : ℕ) : Type 0 where
  pub left : AreEntries rec_ref (key_before [] es i) (drop i es) text
  pub key_is : take len key ≡ key_before [] es i
  pub len_is : len ≡ length (key_before [] es i)

pub pass_start : (rec_ref : ℕ) (es : List Entry) (text key : List ℕ) → AreEntries rec_ref [] es text → HasPassed rec_ref es 0 text key 0
pass_start rec_ref es text key are = record { left = are; key_is = refl; len_is = refl }

pub pass_one : (rec_ref : ℕ) (es : List Entry) (i : ℕ) (text key : List ℕ) (len most : ℕ) (item : Item) (after new : List ℕ) (end : ℕ) → most ≤ 32768 → len + length text ≤ most → i < length es → HasPassed rec_ref es i text key len → Some (item, after) ≡ item_at false rec_ref text
    → end ≡ item.prefix + length item.rest → take end new ≡ key_after (take len key) item → HasPassed rec_ref es (i + 1) after new end × (end + length after ≤ most)
pass_one rec_ref es i text key len most item after new end small short lt h is ends made =
    let before : List ℕ = key_before [] es i in
    let e : Entry = get_or es i no_entry in
    let f = at_first rec_ref before es i no_entry text most small (omega (arith, short, h.len_is)) lt h.left in
    let g = given before e f.more item after (item_at false rec_ref text) is f.read in
    let one : suc i ≡ i + 1 = omega arith in
    let next : key_before [] es (suc i) ≡ e.key = key_next [] es i no_entry lt in
    let key_is : take end new ≡ e.key = made ∙ ap (λ (t : List ℕ). key_after t item) h.key_is ∙ key_made before e f.more item after g in
    let end_is : end ≡ length e.key = omega (arith, ends, g.prefix, ap length g.rest, f.rest) in (
      subst (λ (n : ℕ). HasPassed rec_ref es n after new end) one (record {
        left = subst (λ (t : List ℕ). AreEntries rec_ref t (drop (suc i) es) after) (sym next) (subst (λ (t : List ℕ). AreEntries rec_ref e.key (drop (suc i) es) t) (sym g.after_is) f.then);
        key_is = key_is ∙ sym next;
        len_is = end_is ∙ ap length (sym next);
      }),
      omega (arith, end_is, f.key, ap length g.after_is),
    )

-- the next item is there, and its key has room
pub passed_none : (rec_ref : ℕ) (es : List Entry) (i : ℕ) (text key : List ℕ) (len most : ℕ) → most ≤ 32768 → len + length text ≤ most → i < length es → HasPassed rec_ref es i text key len → None ≡ item_at false rec_ref text → ⊥
passed_none rec_ref es i text key len most small short lt h is =
    let f = at_first rec_ref (key_before [] es i) es i no_entry text most small (omega (arith, short, h.len_is)) lt h.left in
    not_none (key_before [] es i) (get_or es i no_entry) f.more (item_at false rec_ref text) is f.read

pub passed_item : (rec_ref : ℕ) (es : List Entry) (i : ℕ) (text key : List ℕ) (len most : ℕ) (item : Item) (after : List ℕ) → most ≤ 32768 → len + length text ≤ most → i < length es → HasPassed rec_ref es i text key len → Some (item, after) ≡ item_at false rec_ref text
    → (item.prefix ≤ len) × (item.prefix + length item.rest + length after ≤ most)
passed_item rec_ref es i text key len most item after small short lt h is =
    let before : List ℕ = key_before [] es i in
    let f = at_first rec_ref before es i no_entry text most small (omega (arith, short, h.len_is)) lt h.left in
    let g = given before (get_or es i no_entry) f.more item after (item_at false rec_ref text) is f.read in
    (omega (arith, g.prefix, f.prefix, h.len_is), omega (arith, g.prefix, ap length g.rest, f.rest, f.key, ap length g.after_is))

pub passed_over : (rec_ref : ℕ) (es : List Entry) (i count : ℕ) (text key : List ℕ) (len : ℕ) → i ≡ count → HasPassed rec_ref es i text key len → HasPassed rec_ref es count text key len
passed_over rec_ref es i count text key len is h = subst (λ (n : ℕ). HasPassed rec_ref es n text key len) is h

-- ---- what is left behind the gap

pub none_left : (rec_ref : ℕ) (before key : List ℕ) (es : List Entry) (text : List ℕ) (into : List ℕ) (to : ℕ) → AreEntries rec_ref before es text → length text ≡ 0 → Puts into to into to (entries_bytes rec_ref key es [])
none_left rec_ref before key es text into to are none =
    let empty : es ≡ [] = entries_none rec_ref before es (omega (arith, ap length are.text_is, none)) in
    subst (λ (t : List Entry). Puts into to into to (entries_bytes rec_ref key t [])) (sym empty) (record { ends = omega arith; front = sym (append-nil (take to into)) })

-- the entry that an item is, and those behind it
pub record Next (rec_ref : ℕ) (before : List ℕ) (es : List Entry) (text : List ℕ) (most : ℕ) (item : Item) (after : List ℕ) : Type 0 where
  pub e : Entry
  pub others : List Entry
  pub es_are : es ≡ e ∷ others
  pub key : key_after before item ≡ e.key
  pub after_is : after ≡ entries_bytes rec_ref e.key others []
  pub prefix : item.prefix ≤ length before
  pub room : item.prefix + length item.rest ≤ most
  pub row_is : item.row ≡ e.row
  pub row : item.row < 256 ^ rec_ref
  pub long : length e.key ≡ item.prefix + length item.rest

pub next_of : (rec_ref : ℕ) (before : List ℕ) (es : List Entry) (text : List ℕ) (most : ℕ) (item : Item) (after : List ℕ) → most ≤ 32768 → length before + length text ≤ most → 0 < length text → AreEntries rec_ref before es text → Some (item, after) ≡ item_at false rec_ref text → Next rec_ref before es text most item after
next_of rec_ref before [] text most item after small short some are is = absurd (omega (arith, some, ap length are.text_is))
next_of rec_ref before (e ∷ es) text most item after small short some are is =
    let f = first_entry rec_ref before e es text most small short are in
    let g = given before e f.more item after (item_at false rec_ref text) is f.read in
    record {
      e = e;
      others = es;
      es_are = refl;
      key = key_made before e f.more item after g;
      after_is = g.after_is ∙ f.then.text_is;
      prefix = omega (arith, g.prefix, f.prefix);
      room = omega (arith, g.prefix, ap length g.rest, f.rest, f.key);
      row_is = g.row;
      row = subst (λ (n : ℕ). n < 256 ^ rec_ref) (sym g.row) f.row;
      long = omega (arith, g.prefix, ap length g.rest, f.rest);
    }

pub next_none : (rec_ref : ℕ) (before : List ℕ) (es : List Entry) (text : List ℕ) (most : ℕ) → most ≤ 32768 → length before + length text ≤ most → 0 < length text → AreEntries rec_ref before es text → None ≡ item_at false rec_ref text → ⊥
next_none rec_ref before [] text most small short some are is = absurd (omega (arith, some, ap length are.text_is))
next_none rec_ref before (e ∷ es) text most small short some are is =
    let f = first_entry rec_ref before e es text most small short are in
    not_none before e f.more (item_at false rec_ref text) is f.read

-- the entry as it was read, and what stands behind it, are what is left behind another key
pub next_text : (rec_ref : ℕ) (before key : List ℕ) (es : List Entry) (text : List ℕ) (most : ℕ) (item : Item) (after made : List ℕ) → (n : Next rec_ref before es text most item after) → made ≡ n.e.key
    → entry_bytes rec_ref key (entry_with made item.row) ++ after ≡ entries_bytes rec_ref key es []
next_text rec_ref before key es text most item after made n is =
    let e : entry_with made item.row ≡ n.e = ap (λ (t : List ℕ). entry_with t item.row) is ∙ ap (entry_with n.e.key) n.row_is in
    ap (λ (t : List ℕ). entry_bytes rec_ref key (entry_with made item.row) ++ t) n.after_is ∙ ap (λ (x : Entry). entry_bytes rec_ref key x ++ entries_bytes rec_ref n.e.key n.others []) e ∙ ap (λ (t : List Entry). entries_bytes rec_ref key t []) (sym n.es_are)

pub next_puts : (rec_ref : ℕ) (before key : List ℕ) (es : List Entry) (text : List ℕ) (most : ℕ) (item : Item) (after made : List ℕ) (old : List ℕ) (to : ℕ) (mid : List ℕ) (end : ℕ) (new : List ℕ) (last : ℕ) → (n : Next rec_ref before es text most item after) → made ≡ n.e.key
    → Puts old to mid end (entry_bytes rec_ref key (entry_with made item.row)) → Puts mid end new last after → Puts old to new last (entries_bytes rec_ref key es [])
next_puts rec_ref before key es text most item after made old to mid end new last n is p q =
    subst (λ (t : List ℕ). Puts old to new last t) (next_text rec_ref before key es text most item after made n is) (Puts-then old to mid end new last (entry_bytes rec_ref key (entry_with made item.row)) after p q)

-- ---- the whole leaf

pub front_is : (rec_ref : ℕ) (es : List Entry) (i : ℕ) (text left : List ℕ) → i ≤ length es → AreEntries rec_ref [] es text → AreEntries rec_ref (key_before [] es i) (drop i es) left → take (length text - length left) text ≡ entries_bytes rec_ref [] (take i es) []
front_is rec_ref es i text left le all rest =
    let front : List ℕ = entries_bytes rec_ref [] (take i es) [] in
    let whole : text ≡ front ++ left = all.text_is ∙ split_at rec_ref [] es i le ∙ ap (λ (t : List ℕ). front ++ t) (sym rest.text_is) in
    let len : length text - length left ≡ length front = omega (arith, ap length whole, length-append front left) in
    ap (λ (n : ℕ). take n text) len ∙ ap (take (length front)) whole ∙ take_at front left (length front) refl

-- how long it is
pub total : (rec_ref : ℕ) (es : List Entry) (i : ℕ) (x : Entry) → i ≤ length es
    → used_length rec_ref false (with_entry i x es) ≡ 2 + length (entries_bytes rec_ref [] (take i es) []) + length (entry_bytes rec_ref (key_before [] es i) x) + length (entries_bytes rec_ref x.key (drop i es) [])
total rec_ref es i x le =
    let front : List ℕ = entries_bytes rec_ref [] (take i es) [] in
    let one : List ℕ = entry_bytes rec_ref (key_before [] es i) x in
    let rest : List ℕ = entries_bytes rec_ref x.key (drop i es) [] in
    omega (arith, used_page rec_ref (with_entry i x es) [] tt, ap length (with_at rec_ref [] es i x le), length-append (front ++ one) rest, length-append front one)

pub front_length : (rec_ref : ℕ) (es : List Entry) (i : ℕ) (text left : List ℕ) → i ≤ length es → AreEntries rec_ref [] es text → AreEntries rec_ref (key_before [] es i) (drop i es) left → length (entries_bytes rec_ref [] (take i es) []) + length left ≡ length text
front_length rec_ref es i text left le all rest =
    omega (arith, ap length all.text_is, ap length (split_at rec_ref [] es i le), length-append (entries_bytes rec_ref [] (take i es) []) (entries_bytes rec_ref (key_before [] es i) (drop i es) []), ap length rest.text_is)

-- a key is short where its entry is
pub key_short : (rec_ref : ℕ) (before : List ℕ) (x : Entry) (most : ℕ) → length (entry_bytes rec_ref before x) ≤ most → length x.key ≤ length before + most
key_short rec_ref before x most le = omega (arith, le, length-packed rec_ref (shared before x.key) (drop (shared before x.key) x.key) x.row, length-drop (shared before x.key) x.key, shared_le before x.key)

-- the front, the entry and the rest were put one behind the other
pub all_put : (rec_ref : ℕ) (es : List Entry) (i : ℕ) (x : Entry) (front key : List ℕ) (old : List ℕ) (a : List ℕ) (at : ℕ) (b : List ℕ) (to : ℕ) (new : List ℕ) (end : ℕ) → i ≤ length es → front ≡ entries_bytes rec_ref [] (take i es) [] → key ≡ key_before [] es i
    → Puts old 2 a at front → Puts a at b to (entry_bytes rec_ref key x) → Puts b to new end (entries_bytes rec_ref x.key (drop i es) []) → Puts old 2 new end (entries_bytes rec_ref [] (with_entry i x es) [])
all_put rec_ref es i x front key old a at b to new end le is k p q r =
    let one : List ℕ = entry_bytes rec_ref key x in
    let rest : List ℕ = entries_bytes rec_ref x.key (drop i es) [] in
    let text : (front ++ one) ++ rest ≡ entries_bytes rec_ref [] (with_entry i x es) [] =
    ap (λ (t : List ℕ). (t ++ one) ++ rest) is ∙ ap (λ (t : List ℕ). (entries_bytes rec_ref [] (take i es) [] ++ entry_bytes rec_ref t x) ++ rest) k ∙ sym (with_at rec_ref [] es i x le) in
    subst (λ (t : List ℕ). Puts old 2 new end t) text (Puts-then old 2 b to new end (front ++ one) rest (Puts-then old 2 a at b to front one p q) r)

-- the entries of a leaf in its bytes
pub leaf_entries : (rec_ref : ℕ) (bytes : List ℕ) (es : List Entry) (used : ℕ) → used ≡ get_or bytes 0 0 % 128 * 256 + get_or bytes 1 0 → IsPage rec_ref bytes (page_with es []) → AreEntries rec_ref [] es (take (used - 2) (drop 2 bytes))
leaf_entries rec_ref bytes es used is page =
    let x = expected rec_ref bytes (page_with es []) page in
    let len : used - 2 ≡ length (entries_bytes rec_ref [] es []) = omega (arith, is, x.used) in
    record {
      text_is = ap (λ (n : ℕ). take n (drop 2 bytes)) len ∙ x.body;
      rows = page.has.rows;
    }

rows_with : (bound : ℕ) (i : ℕ) (x : Entry) (es : List Entry) → AllByRecursion (λ (e : Entry). e.row < bound) es → x.row < bound → AllByRecursion (λ (e : Entry). e.row < bound) (with_entry i x es)
rows_with bound zero x es all row = (row, all)
rows_with bound (suc i) x [] all row = (row, tt)
rows_with bound (suc i) x (e ∷ es) all row = (all.0, rows_with bound i x es all.1 row)

some_with : (i : ℕ) (x : Entry) (es : List Entry) → 0 < length (with_entry i x es)
some_with zero x es = omega arith
some_with (suc i) x [] = omega arith
some_with (suc i) x (e ∷ es) = omega arith

pub page_with_entry : (rec_ref : ℕ) (bytes new : List ℕ) (es : List Entry) (i : ℕ) (x : Entry) (rest : List ℕ) (long : ℕ) → IsPage rec_ref bytes (page_with es []) → x.row < 256 ^ rec_ref → used_length rec_ref false (with_entry i x es) ≤ long → long ≤ 16384
    → new ≡ page_bytes rec_ref (page_with (with_entry i x es) []) ++ rest → IsPage rec_ref new (page_with (with_entry i x es) [])
page_with_entry rec_ref bytes new es i x rest long page row fits limit is = record {
  has = page_writable rec_ref (page_with (with_entry i x es) []) tt (some_with i x es) (rows_with (256 ^ rec_ref) i x es page.has.rows row) tt (omega (arith, fits, limit));
  branching = tt;
  text = (rest, is);
}

pub left_in : (rec_ref other i : ℕ) (es : List Entry) (text key : List ℕ) (len : ℕ) → other ≡ rec_ref → AreEntries rec_ref (key_before [] es i) (drop i es) text → take len key ≡ key_before [] es i → AreEntries other (take len key) (drop i es) text
left_in rec_ref other i es text key len same are is = subst (λ (n : ℕ). AreEntries n (take len key) (drop i es) text) (sym same) (subst (λ (t : List ℕ). AreEntries rec_ref t (drop i es) text) (sym is) are)

pub rest_put : (rec_ref other : ℕ) (before : List ℕ) (es : List Entry) (old : List ℕ) (at : ℕ) (new : List ℕ) (end : ℕ) → other ≡ rec_ref → Puts old at new end (entries_bytes other before es []) → Puts old at new end (entries_bytes rec_ref before es [])
rest_put rec_ref other before es old at new end same p = subst (λ (n : ℕ). Puts old at new end (entries_bytes n before es [])) same p
