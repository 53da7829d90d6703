-- Writing over the children of a page, one after the other.
use Rattle.std.proofs.Common.{◌≡◌, ℕ, zero, suc, ◌+◌, ◌-◌, Bool, get_or, ◌/◌, ◌^◌, ◌<◌, ◌≤◌, List, [], ◌∷◌, ◌++◌, length, take, drop, refl, sym, ap, ◌∙◌, append_assoc, arith}
use Rattle.std.specs.List.{AllByRecursion}
use Rattle.std.proofs.lemmas.List.{length-append, take-append-drop, drop_at, drop_more, take-append-le, take_all}
use Rattle.std.proofs.lemmas.Bool.{lt-ltb}
use Rattle.myi_base.proofs.CallerLemmas.{length-num_bytes}
use Rattle.myi_keypage.specs.declared.entry.Entry.{Entry}
use Rattle.myi_keypage.specs.Page.{Page, page_with, page_bytes, head_bytes, is_node, IsPage, IsPlace, shared, entry_bytes, entries_bytes, child_bytes}
use Rattle.myi_keypage.specs.Children.{with_children, CanTake, HasChildren}
use Rattle.myi_keypage.proofs.PageIs.{expected}
use Rattle.myi_keypage.proofs.WriteLaws.{entry_len}

take_at : (p q : List ℕ) (n : ℕ) → length p ≡ n → take n (p ++ q) ≡ p
take_at p q n e = take-append-le n p q (omega (arith, e)) ∙ take_all n p (omega (arith, e))

-- a place is small enough for the bytes of a child
pub place_small : (cs : List ℕ) (i : ℕ) → AllByRecursion IsPlace cs → i < length cs → get_or cs i 0 / 1024 < 2 ^ 56
place_small [] i all lt = absurd (omega arith)
place_small (c ∷ cs) zero all lt = omega (arith, all.0.1)
place_small (c ∷ cs) (suc i) all lt = place_small cs i all.1 (omega arith)

-- the bytes with that child
pub child_set : (bytes new front back : List ℕ) (at former child : ℕ) → bytes ≡ front ++ (child_bytes former ++ back) → length front ≡ at
    → take (at + 7) new ≡ take at bytes ++ child_bytes child → drop (at + 7) new ≡ drop (at + 7) bytes
    → new ≡ (front ++ child_bytes child) ++ back
child_set bytes new front back at former child e len taken left =
    let before : take at bytes ≡ front = ap (take at) e ∙ take_at front (child_bytes former ++ back) at len in
    let total : length (front ++ child_bytes former) ≡ at + 7 = omega (arith, length-append front (child_bytes former), length-num_bytes 7 (former / 1024), len) in
    let behind : drop (at + 7) bytes ≡ back = ap (drop (at + 7)) (e ∙ sym (append_assoc front (child_bytes former) back)) ∙ drop_at (front ++ child_bytes former) back (at + 7) total in
    sym (take-append-drop (at + 7) new) ∙ ap (λ (t : List ℕ). t ++ drop (at + 7) new) (taken ∙ ap (λ (t : List ℕ). t ++ child_bytes child) before)
    ∙ ap (λ (t : List ℕ). (front ++ child_bytes child) ++ t) (left ∙ behind)

-- the entry that stands at a place, and the child after it
pub record Next (rec_ref : ℕ) (bytes : List ℕ) (at : ℕ) (done before : List ℕ) (entries : List Entry) (former rest : List ℕ) (child : ℕ) (news : List ℕ) : Type 0 where
  pub entry : Entry
  pub was : ℕ
  pub back : List ℕ
  pub others : List Entry
  pub left : List ℕ
  pub here : drop at bytes ≡ entry_bytes rec_ref before entry ++ (child_bytes was ++ back)
  pub prefix : shared before entry.key < 65536
  pub key : length (drop (shared before entry.key) entry.key) < 65536
  pub row : entry.row < 256 ^ rec_ref
  pub there : bytes ≡ (done ++ entry_bytes rec_ref before entry) ++ (child_bytes was ++ back)
  pub start : length (done ++ entry_bytes rec_ref before entry) ≡ at + length (entry_bytes rec_ref before entry)
  pub room : at + length (entry_bytes rec_ref before entry) + 7 ≤ length bytes
  pub then : (new : List ℕ) → new ≡ ((done ++ entry_bytes rec_ref before entry) ++ child_bytes child) ++ back
      → HasChildren rec_ref new (at + length (entry_bytes rec_ref before entry) + 7) ((done ++ entry_bytes rec_ref before entry) ++ child_bytes child) entry.key others left rest
  pub fewer : length news ≡ length left
  pub whole : ((done ++ entry_bytes rec_ref before entry) ++ child_bytes child) ++ (entries_bytes rec_ref entry.key others news ++ rest)
      ≡ done ++ (entries_bytes rec_ref before entries (child ∷ news) ++ rest)

pub going_on : (rec_ref : ℕ) (bytes : List ℕ) (at : ℕ) (done before : List ℕ) (entries : List Entry) (former rest : List ℕ) (child : ℕ) (news : List ℕ)
    → HasChildren rec_ref bytes at done before entries former rest → length (child ∷ news) ≡ length former
    → Next rec_ref bytes at done before entries former rest child news
going_on rec_ref bytes at done before [] [] rest child news h lt = absurd (omega (arith, lt))
going_on rec_ref bytes at done before [] (c ∷ cs) rest child news h lt = absurd (omega (arith, h.same))
going_on rec_ref bytes at done before (e ∷ es) [] rest child news h lt = absurd (omega (arith, lt))
going_on rec_ref bytes at done before (e ∷ es) (c ∷ cs) rest child news h lt =
    let first : List ℕ = entry_bytes rec_ref before e in
    let others : List ℕ = entries_bytes rec_ref e.key es cs in
    let regroup : (first ++ child_bytes c ++ others) ++ rest ≡ first ++ (child_bytes c ++ (others ++ rest)) = simp append_assoc refl in
    let text : bytes ≡ done ++ (first ++ (child_bytes c ++ (others ++ rest))) = h.text ∙ ap (λ (t : List ℕ). done ++ t) regroup in
    let long : length (first ++ child_bytes c ++ others) ≡ length first + 7 + length others = omega (arith, length-append (first ++ child_bytes c) others, length-append first (child_bytes c), length-num_bytes 7 (c / 1024)) in
    let parts = entry_len rec_ref before e (length others) (omega (arith, h.short, long)) in
    let total : length bytes ≡ length done + (length first + (7 + (length others + length rest))) =
    omega (arith, ap length text, length-append done (first ++ (child_bytes c ++ (others ++ rest))), length-append first (child_bytes c ++ (others ++ rest)), length-append (child_bytes c) (others ++ rest), length-append others rest, length-num_bytes 7 (c / 1024)) in
    record {
      entry = e;
      was = c;
      back = others ++ rest;
      others = es;
      left = cs;
      here = ap (drop at) text ∙ drop_at done (first ++ (child_bytes c ++ (others ++ rest))) at h.start;
      prefix = parts.0;
      key = parts.1;
      row = h.rows.0;
      there = text ∙ sym (append_assoc done first (child_bytes c ++ (others ++ rest)));
      start = omega (arith, length-append done first, h.start);
      room = omega (arith, total, h.start);
      then = λ new is. record {
        text = is;
        start = omega (arith, length-append (done ++ first) (child_bytes child), length-append done first, length-num_bytes 7 (child / 1024), h.start);
        same = omega (arith, h.same);
        rows = h.rows.1;
        short = parts.2;
      };
      fewer = omega (arith, lt);
      whole = simp append_assoc refl;
    }

-- nothing is left
pub none_left : (rec_ref : ℕ) (bytes : List ℕ) (at : ℕ) (done before : List ℕ) (entries : List Entry) (former rest news : List ℕ) → HasChildren rec_ref bytes at done before entries former rest → length news ≡ length former → length news ≡ 0
    → bytes ≡ done ++ (entries_bytes rec_ref before entries news ++ rest)
none_left rec_ref bytes at done before entries [] rest [] h same none = h.text
none_left rec_ref bytes at done before entries (c ∷ cs) rest [] h same none = absurd (omega (arith, same))
none_left rec_ref bytes at done before entries former rest (n ∷ ns) h same none = absurd (omega (arith, none))

-- some children are written, and what is left gives the whole
pub record Written (rec_ref : ℕ) (bytes : List ℕ) (at : ℕ) (news whole rest : List ℕ) : Type 0 where
  pub done : List ℕ
  pub before : List ℕ
  pub entries : List Entry
  pub former : List ℕ
  pub has : HasChildren rec_ref bytes at done before entries former rest
  pub fewer : length news ≡ length former
  pub same : done ++ (entries_bytes rec_ref before entries news ++ rest) ≡ whole

-- the children from an index on
pub children_from : (cs : List ℕ) (i : ℕ) → i < length cs → drop i cs ≡ get_or cs i 0 ∷ drop (i + 1) cs
children_from cs i lt = drop_more cs i 0 lt

-- children elsewhere take as many bytes
same_length : (rec_ref : ℕ) (before : List ℕ) (es : List Entry) (cs ns : List ℕ) → length ns ≡ length cs → length (entries_bytes rec_ref before es ns) ≡ length (entries_bytes rec_ref before es cs)
same_length rec_ref before [] cs ns same = refl
same_length rec_ref before (e ∷ es) [] [] same = refl
same_length rec_ref before (e ∷ es) [] (n ∷ ns) same = absurd (omega (arith, same))
same_length rec_ref before (e ∷ es) (c ∷ cs) [] same = absurd (omega (arith, same))
same_length rec_ref before (e ∷ es) (c ∷ cs) (n ∷ ns) same =
    omega (
      arith,
      length-append (entry_bytes rec_ref before e ++ child_bytes n) (entries_bytes rec_ref e.key es ns),
      length-append (entry_bytes rec_ref before e) (child_bytes n),
      length-num_bytes 7 (n / 1024),
      length-append (entry_bytes rec_ref before e ++ child_bytes c) (entries_bytes rec_ref e.key es cs),
      length-append (entry_bytes rec_ref before e) (child_bytes c),
      length-num_bytes 7 (c / 1024),
      same_length rec_ref e.key es cs ns (omega (arith, same)),
    )

-- ---- a whole page

is_page : (rec_ref : ℕ) (bytes rest children : List ℕ) (p : Page) → CanTake rec_ref children p → bytes ≡ page_bytes rec_ref p ++ rest → IsPage rec_ref bytes p
is_page rec_ref bytes rest children p can e = record { has = can.has; branching = can.branching; text = (rest, e) }

-- the first child of a node, and the entries behind it
pub record First (rec_ref : ℕ) (bytes rest : List ℕ) (p : Page) (child : ℕ) (news : List ℕ) : Type 0 where
  pub front : List ℕ
  pub was : ℕ
  pub left : List ℕ
  pub back : List ℕ
  pub there : bytes ≡ front ++ (child_bytes was ++ back)
  pub start : length front ≡ 2
  pub room : 9 ≤ length bytes
  pub then : (new : List ℕ) → new ≡ (front ++ child_bytes child) ++ back → HasChildren rec_ref new 9 (front ++ child_bytes child) [] p.entries left rest
  pub fewer : length news ≡ length left
  pub whole : (front ++ child_bytes child) ++ (entries_bytes rec_ref [] p.entries news ++ rest) ≡ page_bytes rec_ref (with_children (child ∷ news) p) ++ rest

pub first_child : (rec_ref : ℕ) (bytes rest : List ℕ) (es : List Entry) (cs : List ℕ) (child : ℕ) (news : List ℕ) → CanTake rec_ref (child ∷ news) (page_with es cs) → bytes ≡ page_bytes rec_ref (page_with es cs) ++ rest
    → First rec_ref bytes rest (page_with es cs) child news
unfolding page_bytes
first_child rec_ref bytes rest es [] child news can e = absurd (omega (arith, can.same))
first_child rec_ref bytes rest es (c ∷ cs) child news can e =
    let p : Page = page_with es (c ∷ cs) in
    let x = expected rec_ref bytes p (is_page rec_ref bytes rest (child ∷ news) p can e) in
    let others : List ℕ = entries_bytes rec_ref [] es cs in
    let changed : List ℕ = entries_bytes rec_ref [] es news in
    let len : ℕ = length (child_bytes c ++ others) in
    let front : List ℕ = head_bytes (is_node p) (len + 2) in
    let total : len ≡ 7 + length others = omega (arith, length-append (child_bytes c) others, length-num_bytes 7 (c / 1024)) in
    let text : bytes ≡ front ++ (child_bytes c ++ (others ++ rest)) = e ∙ simp append_assoc refl in
    let same_node : is_node p ≡ is_node (with_children (child ∷ news) p) = lt-ltb 0 (suc (length cs)) (omega arith) ∙ sym (lt-ltb 0 (suc (length news)) (omega arith)) in
    let same_len : len + 2 ≡ length (child_bytes child ++ changed) + 2 = omega (arith, total, length-append (child_bytes child) changed, length-num_bytes 7 (child / 1024), same_length rec_ref [] es cs news (omega (arith, can.same))) in
    let head : front ≡ head_bytes (is_node (with_children (child ∷ news) p)) (length (child_bytes child ++ changed) + 2) = ap (λ (b : Bool). head_bytes b (len + 2)) same_node ∙ ap (head_bytes (is_node (with_children (child ∷ news) p))) same_len in
    record {
      front = front;
      was = c;
      left = cs;
      back = others ++ rest;
      there = text;
      start = refl;
      room = omega (arith, x.most, total);
      then = λ new new_is. record {
        text = new_is;
        start = omega (arith, length-append front (child_bytes child), length-num_bytes 7 (child / 1024));
        same = can.branching;
        rows = can.has.rows;
        short = omega (arith, can.has.used, total);
      };
      fewer = omega (arith, can.same);
      whole = ap (λ (t : List ℕ). (t ++ child_bytes child) ++ (changed ++ rest)) head ∙ simp append_assoc refl;
    }

-- the first child, and the others
pub parted : (cs : List ℕ) → 1 ≤ length cs → cs ≡ get_or cs 0 0 ∷ take (length cs - 1) (drop 1 cs)
parted [] few = absurd (omega arith)
parted (c ∷ cs) few = ap (λ ns. c ∷ ns) (sym (take_all (suc (length cs) - 1) cs (omega arith)))
