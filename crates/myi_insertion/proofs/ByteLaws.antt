-- The keys of a page whose bytes are bytes, and which of them are codes.
use Rattle.std.proofs.Common.{◌≡◌, ℕ, zero, suc, ◌+◌, lit<, true, eqb, Option, Some, None, Result, Ok, Err, List, [], ◌∷◌, ◌++◌, length, take, drop, refl, sym, ap, subst, ◌∙◌, inl, inr}
use Rattle.std.specs.List.{AllByRecursion}
use Rattle.std.proofs.lemmas.Bool.{eqb-true, cases_Bool}
use Rattle.myi_base.specs.Numbers.{AreBytes, num_bytes}
use Rattle.myi_base.proofs.CallerLemmas.{bytes-none, bytes-take, bytes-append}
use Rattle.myi_keys.specs.declared.values.KeySeg.{KeySeg}
use Rattle.myi_keys.specs.declared.codes.KeyFault.{KeyFault}
use Rattle.myi_keys.specs.Limits.{IsKey}
use Rattle.myi_keys.specs.Codes.{key_code}
use Rattle.myi_keys.specs.Comparing.{IsCode}
use Rattle.myi_keys.specs.Decoding.{key_at}
use Rattle.myi_keys.proofs.CallerLemmas.{code_is}
use Rattle.myi_keypage.specs.declared.entry.Entry.{Entry}
use Rattle.myi_keypage.specs.Page.{Page, page_with, number_bytes, shared, child_bytes, entry_bytes, entries_bytes, body_bytes, head_bytes, is_node, page_bytes, IsPage}
use Rattle.myi_keylist.specs.declared.pair.Pair.{Pair}
use Rattle.myi_keylist.specs.PairOrder.{pair_with}
use Rattle.myi_btree.specs.Walk.{◌>>=◌, each}
use Rattle.myi_btree.specs.Nodes.{ok_or_none, key_in, pair_in}
use Rattle.myi_btree.proofs.CallerLemmas.{bind_some}
use Rattle.myi_insertion.specs.Spots.{HaveCodes}

bytes_left : (x y : List ℕ) → AreBytes (x ++ y) → AreBytes x
bytes_left [] y h i = lit< tt
bytes_left (b ∷ x) y h zero = h zero
bytes_left (b ∷ x) y h (suc i) = bytes_left x y (λ j. h (suc j)) i

bytes_right : (x y : List ℕ) → AreBytes (x ++ y) → AreBytes y
bytes_right [] y h i = h i
bytes_right (b ∷ x) y h i = bytes_right x y (λ j. h (suc j)) i

-- a key begins with what it shares
rejoined : (before key : List ℕ) → take (shared before key) before ++ drop (shared before key) key ≡ key
rejoined [] key = refl
rejoined (x ∷ xs) [] = refl
rejoined (x ∷ xs) (y ∷ ys) =
    elim (cases_Bool (eqb x y)) [
      | inl same ↦ rw (same, eqb-true x y same) (ap (λ (t : List ℕ). y ∷ t) (rejoined xs ys))
      | inr other ↦ rw other refl
    ]

key_bytes : (rec_ref : ℕ) (before : List ℕ) (e : Entry) → AreBytes before → AreBytes (entry_bytes rec_ref before e) → AreBytes e.key
key_bytes rec_ref before e bytes text =
    let n : ℕ = shared before e.key in
    let rest : List ℕ = drop n e.key in
    let numbers : List ℕ = number_bytes n ++ number_bytes (length rest) in
    let left = bytes_right numbers rest (bytes_left (numbers ++ rest) (num_bytes rec_ref e.row) text) in
    subst AreBytes (rejoined before e.key) (bytes-append (take n before) rest (bytes-take n before bytes) left)

keys_bytes : (rec_ref : ℕ) (before : List ℕ) (es : List Entry) (cs : List ℕ) → AreBytes before → AreBytes (entries_bytes rec_ref before es cs) → AllByRecursion (λ (e : Entry). AreBytes e.key) es
keys_bytes rec_ref before [] cs bytes text = tt
keys_bytes rec_ref before (e ∷ es) [] bytes text =
    let key = key_bytes rec_ref before e bytes (bytes_left (entry_bytes rec_ref before e) (entries_bytes rec_ref e.key es []) text) in
    (key, keys_bytes rec_ref e.key es [] key (bytes_right (entry_bytes rec_ref before e) (entries_bytes rec_ref e.key es []) text))
keys_bytes rec_ref before (e ∷ es) (c ∷ cs) bytes text =
    let one : List ℕ = entry_bytes rec_ref before e in
    let more : List ℕ = entries_bytes rec_ref e.key es cs in
    let key = key_bytes rec_ref before e bytes (bytes_left one (child_bytes c) (bytes_left (one ++ child_bytes c) more text)) in
    (key, keys_bytes rec_ref e.key es cs key (bytes_right (one ++ child_bytes c) more text))

body_keys : (rec_ref : ℕ) (es : List Entry) (cs : List ℕ) → AreBytes (body_bytes rec_ref (page_with es cs)) → AllByRecursion (λ (e : Entry). AreBytes e.key) es
body_keys rec_ref es [] text = keys_bytes rec_ref [] es [] bytes-none text
body_keys rec_ref es (c ∷ cs) text = keys_bytes rec_ref [] es cs bytes-none (bytes_right (child_bytes c) (entries_bytes rec_ref [] es cs) text)

page_keys : (rec_ref : ℕ) (page : Page) → AreBytes (page_bytes rec_ref page) → AllByRecursion (λ (e : Entry). AreBytes e.key) page.entries
unfolding page_bytes
page_keys rec_ref page text =
    body_keys rec_ref page.entries page.children (bytes_right (head_bytes (is_node page) (length (body_bytes rec_ref page) + 2)) (body_bytes rec_ref page) text)

-- the keys of a page are bytes
pub keys_are_bytes : (rec_ref : ℕ) (bytes : List ℕ) (page : Page) → AreBytes bytes → IsPage rec_ref bytes page → AllByRecursion (λ (e : Entry). AreBytes e.key) page.entries
keys_are_bytes rec_ref bytes page fits is =
    let text = is.text in
    page_keys rec_ref page (bytes_left (page_bytes rec_ref page) text.0 (subst AreBytes text.1 fits))

code_of : (r : Result (List KeySeg) KeyFault) (key : List KeySeg) → ok_or_none r ≡ Some key → r ≡ Ok key
code_of (Ok x) key e = cc
code_of (Err f) key e = absurd cc

-- where each is the code of a key, they are those codes
pub codes_read : ((bytes : List ℕ) (key : List KeySeg) → AreBytes bytes → key_at bytes ≡ Ok key → bytes ≡ key_code key) → ((bytes : List ℕ) (key : List KeySeg) → AreBytes bytes → key_at bytes ≡ Ok key → IsKey key)
    → (es : List Entry) (ps : List Pair) → AllByRecursion (λ (e : Entry). AreBytes e.key) es → each pair_in es ≡ Some ps → HaveCodes es
unfolding key_in pair_in
codes_read written limits [] ps bytes all = tt
codes_read written limits (e ∷ es) ps bytes all =
    let a = bind_some (pair_in e) (λ y. each pair_in es >>= λ ys. Some (y ∷ ys)) ps all in
    let b = bind_some (each pair_in es) (λ ys. Some (a.0 ∷ ys)) ps a.2 in
    let k = bind_some (key_in e.key) (λ key. Some (pair_with key e.row)) a.0 a.1 in
    let ok = code_of (key_at e.key) k.0 k.1 in
    ((code_is e.key k.0 (limits e.key k.0 bytes.0 ok) (written e.key k.0 bytes.0 ok)).0, codes_read written limits es b.0 bytes.1 b.1)
