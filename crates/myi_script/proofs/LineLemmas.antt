-- What is read as a line is one, and each line is read.
use Rattle.std.proofs.Common.{◌≡◌, ℕ, ◌+◌, ◌-◌, ◌<◌, ◌≤◌, ◌==◌, ◌&&◌, not, nat_le, List, [], ◌∷◌, ◌++◌, length, take, drop, Option, Some, None, Bool, true, false, cond, refl, ap, sym, ◌∙◌, arith, subst}
use Rattle.std.specs.Prelude.{option_map, option_and_then, codes, bytes_eq}
use Rattle.std.specs.List.{prefix_len}
use Rattle.std.proofs.lemmas.List.{take-append-drop, append-nil}
use Rattle.std.proofs.Math.Seq.{take-append_seam, drop-append_seam}
use Rattle.myi_defs.specs.declared.types.Defs.{Defs}
use Rattle.myi_deftext.specs.Text.{number}
use Rattle.myi_deftext.specs.Grammar.{IsNumber}
use Rattle.myi_keys.specs.declared.values.KeySeg.{KeySeg}
use Rattle.myi_locks.specs.declared.steps.LockKind.TheVariants.{Read, ReadLocal, Write}
use Rattle.myi_script.specs.declared.types.Act.{Act}
use Rattle.myi_script.specs.declared.types.Act.TheVariants as act
use Rattle.myi_script.specs.declared.types.Range.{Range}
use Rattle.myi_script.specs.Grammar.{highest, segments_of, IsBound, IsRow, Says, IsLine}
use Rattle.myi_script.specs.Reading.{goes_on, is_nil, after, row_of, bound_of, ranged, with_from, with_key, range_with, range_of, word_of, insert_of, updated, update_with, update_of, delete_of, or_else, place_of, statement_of, with_session, line_of}
use Rattle.myi_script.proofs.ValueLemmas.{and_true, eq_true, le_true, le_yes, nil_is, number_sound, number_back}
use Rattle.myi_script.proofs.WordLemmas.{MayFollow, not_space, decimal_len}
use Rattle.myi_script.proofs.RowLemmas.{follows, row_sound, row_back}
use Rattle.myi_script.proofs.BoundLemmas.{same_bytes, Bound, bound_sound, bound_back, bound_space}

-- each key has a segment
abbrev pub HaveSegments : Defs → Type 0
HaveSegments d = (k : ℕ) → 1 ≤ k → k ≤ length d.keys → 0 < length (segments_of d k)

after_sound : (ps t rest : List ℕ) → after ps t ≡ Some rest → t ≡ ps ++ rest
unfolding after
after_sound ps t rest e = go (bytes_eq (take (length ps) t) ps) refl e
  where
    go : (b : Bool) → bytes_eq (take (length ps) t) ps ≡ b → cond b (Some (drop (length ps) t)) None ≡ Some rest → t ≡ ps ++ rest
    go true is h = sym (take-append-drop (length ps) t) ∙ ap (λ q. q ++ drop (length ps) t) (same_bytes (take (length ps) t) ps is) ∙ ap (λ q. ps ++ q) (let k = h in let r : drop (length ps) t ≡ rest = cc in r)
    go false is h = cc

insert_sound : (m : Bool) (d : Defs) (t : List ℕ) (a : Act) → insert_of d t ≡ Some a → Says m d t a
unfolding insert_of
insert_sound m d t a e = go (after (codes "insert") t) refl e
  where
    vals : (vs : List ℕ) (o : Option (List (List ℕ))) → after (codes "insert") t ≡ Some vs → row_of d vs ≡ o → option_map (λ row. act.Insert row) o ≡ Some a → Says m d t a
    vals vs None ea eo h = cc
    vals vs (Some row) ea eo h = let same : act.Insert row ≡ a = let k = h in cc in let P : Act → Type 0 = λ q. Says m d t q in subst P same (vs, after_sound (codes "insert") t vs ea, row_sound d vs row eo)

    go : (o : Option (List ℕ)) → after (codes "insert") t ≡ o → option_map (λ row. act.Insert row) (option_and_then (row_of d) o) ≡ Some a → Says m d t a
    go None ea h = cc
    go (Some vs) ea h = vals vs (row_of d vs) ea refl h

delete_sound : (m : Bool) (d : Defs) (t : List ℕ) (a : Act) → m ≡ false → delete_of t ≡ Some a → Says m d t a
unfolding delete_of
delete_sound m d t a one e = go (after (codes "delete ") t) refl e
  where
    place : (p : List ℕ) (o : Option ℕ) → after (codes "delete ") t ≡ Some p → number 0 highest p ≡ o → option_map (λ at. act.Delete at) o ≡ Some a → Says m d t a
    place p None ea eo h = cc
    place p (Some n) ea eo h = let same : act.Delete n ≡ a = let k = h in cc in let P : Act → Type 0 = λ q. Says m d t q in subst P same (p, one, after_sound (codes "delete ") t p ea, number_sound 0 highest n p eo)

    go : (o : Option (List ℕ)) → after (codes "delete ") t ≡ o → option_map (λ at. act.Delete at) (option_and_then (number 0 highest) o) ≡ Some a → Says m d t a
    go None ea h = cc
    go (Some p) ea h = place p (number 0 highest p) ea refl h

update_sound : (m : Bool) (d : Defs) (t : List ℕ) (a : Act) → m ≡ false → update_of d t ≡ Some a → Says m d t a
unfolding update_of
update_sound m d t a one e = go (after (codes "update ") t) refl e
  where
    parts : (u : List ℕ) (n : ℕ) (x : Option ℕ) (y : Option (List (List ℕ))) → after (codes "update ") t ≡ Some u → number 0 highest (take n u) ≡ x → row_of d (drop n u) ≡ y → updated x y ≡ Some a → Says m d t a
    parts u n None y ea ex ey h = cc
    parts u n (Some at) None ea ex ey h = cc
    parts u n (Some at) (Some row) ea ex ey h =
        let same : act.Update at row ≡ a = let k = h in cc in let P : Act → Type 0 = λ q. Says m d t q in
        subst P same (take n u, drop n u, one, after_sound (codes "update ") t u ea ∙ ap (λ q. codes "update " ++ q) (sym (take-append-drop n u)), number_sound 0 highest at (take n u) ex, row_sound d (drop n u) row ey)

    go : (o : Option (List ℕ)) → after (codes "update ") t ≡ o → option_and_then (update_with d) o ≡ Some a → Says m d t a
    go None ea h = cc
    go (Some u) ea h = parts u (prefix_len (λ b. not (b == 32)) u) _ _ ea refl refl h

range_sound : (m : Bool) (d : Defs) (t : List ℕ) (a : Act) → range_of d t ≡ Some a → Says m d t a
unfolding range_of
range_sound m d t a e = go (after (codes "range ") t) refl e
  where
    end : (k : ℕ) (u w rest : List ℕ) (from to : Option (List KeySeg)) (more : List ℕ) (b : Bool) → t ≡ codes "range " ++ (w ++ u) → IsNumber 1 (length d.keys) w k → Bound (segments_of d k) u from rest
        → Bound (segments_of d k) rest to more → is_nil more ≡ b → cond b (Some (act.Over (record { key = k; from = from; to = to }))) None ≡ Some a → Says m d t a
    end k u w rest from to more true et en low high is h =
        let same : act.Over (record { key = k; from = from; to = to }) ≡ a = let q = h in cc in
        let P : Act → Type 0 = λ q. Says m d t q in
        let last : rest ≡ high.used = high.text_is ∙ ap (λ q. high.used ++ q) (nil_is more is) ∙ append-nil high.used in
        let text : t ≡ codes "range " ++ (w ++ (low.used ++ high.used)) = et ∙ ap (λ q. codes "range " ++ (w ++ q)) (low.text_is ∙ ap (λ q. low.used ++ q) last) in
        subst P same (w, low.used, high.used, text, en, low.is, high.is)
    end k u w rest from to more false et en low high is h = cc

    upper : (k : ℕ) (u w : List ℕ) (from : Option (List KeySeg)) (rest : List ℕ) (o : Option (Option (List KeySeg) × List ℕ)) → t ≡ codes "range " ++ (w ++ u) → IsNumber 1 (length d.keys) w k → Bound (segments_of d k) u from rest
        → bound_of (segments_of d k) rest ≡ o → ranged k from o ≡ Some a → Says m d t a
    upper k u w from rest None et en low eo h = cc
    upper k u w from rest (Some p) et en low eo h = end k u w rest from p.0 p.1 (is_nil p.1) et en low (bound_sound (segments_of d k) rest p.1 p.0 eo) refl h

    lower : (k : ℕ) (u w : List ℕ) (o : Option (Option (List KeySeg) × List ℕ)) → t ≡ codes "range " ++ (w ++ u) → IsNumber 1 (length d.keys) w k → bound_of (segments_of d k) u ≡ o → with_from (segments_of d k) k o ≡ Some a → Says m d t a
    lower k u w None et en eo h = cc
    lower k u w (Some p) et en eo h = upper k u w p.0 p.1 (bound_of (segments_of d k) p.1) et en (bound_sound (segments_of d k) u p.1 p.0 eo) refl h

    key : (u w : List ℕ) (o : Option ℕ) → t ≡ codes "range " ++ (w ++ u) → number 1 (length d.keys) w ≡ o → with_key d u o ≡ Some a → Says m d t a
    key u w None et eo h = cc
    key u w (Some k) et eo h = lower k u w (bound_of (segments_of d k) u) et (number_sound 1 (length d.keys) k w eo) refl h

    go : (o : Option (List ℕ)) → after (codes "range ") t ≡ o → option_and_then (range_with d) o ≡ Some a → Says m d t a
    go None ea h = cc
    go (Some u) ea h =
        let n = prefix_len (λ b. not (b == 32)) u in
        key (drop n u) (take n u) (number 1 (length d.keys) (take n u)) (after_sound (codes "range ") t u ea ∙ ap (λ q. codes "range " ++ q) (sym (take-append-drop n u))) refl h

word_step : (m : Bool) (d : Defs) (t w : List ℕ) (x a : Act) (more : Option Act) → (t ≡ w → Says m d t x) → (more ≡ Some a → Says m d t a) → cond (bytes_eq t w) (Some x) more ≡ Some a → Says m d t a
word_step m d t w x a more here later e = go (bytes_eq t w) refl e
  where
    go : (b : Bool) → bytes_eq t w ≡ b → cond b (Some x) more ≡ Some a → Says m d t a
    go true is h = let same : x ≡ a = let k = h in cc in let P : Act → Type 0 = λ q. Says m d t q in subst P same (here (same_bytes t w is))
    go false is h = later h

word_sound : (m : Bool) (d : Defs) (t : List ℕ) (a : Act) → word_of t ≡ Some a → Says m d t a
unfolding word_of
word_sound m d t a e =
    word_step m d t (codes "scan") act.Scan a _ (λ q. q)
    (word_step m d t (codes "lock read") (act.Lock Read) a _ (λ q. q)
    (word_step m d t (codes "lock read local") (act.Lock ReadLocal) a _ (λ q. q)
    (word_step m d t (codes "lock write") (act.Lock Write) a _ (λ q. q)
    (word_step m d t (codes "unlock") act.Unlock a _ (λ q. q)
    (word_step m d t (codes "stats") act.Stats a _ (λ q. q)
    (word_step m d t (codes "end") act.End a _ (λ q. q) (λ h. cc))))))) e

place_sound : (m : Bool) (d : Defs) (t : List ℕ) (a : Act) → place_of m d t ≡ Some a → Says m d t a
unfolding place_of
place_sound true d t a e = cc
place_sound false d t a e = go (update_of d t) refl e
  where
    go : (o : Option Act) → update_of d t ≡ o → or_else o (delete_of t) ≡ Some a → Says false d t a
    go None eo h = delete_sound false d t a refl h
    go (Some b) eo h = update_sound false d t a refl (eo ∙ h)

pub statement_sound : (m : Bool) (d : Defs) (t : List ℕ) (a : Act) → statement_of m d t ≡ Some a → Says m d t a
unfolding statement_of
statement_sound m d t a e = first (word_of t) (insert_of d t) (range_of d t) refl refl refl e
  where
    first : (x y z : Option Act) → word_of t ≡ x → insert_of d t ≡ y → range_of d t ≡ z → or_else x (or_else y (or_else z (place_of m d t))) ≡ Some a → Says m d t a
    first (Some x) y z ex ey ez h = word_sound m d t a (ex ∙ h)
    first None (Some y) z ex ey ez h = insert_sound m d t a (ey ∙ h)
    first None None (Some z) ex ey ez h = range_sound m d t a (ez ∙ h)
    first None None None ex ey ez h = place_sound m d t a h

-- ---- each statement is read

insert_back : (m : Bool) (d : Defs) (vs : List ℕ) (row : List (List ℕ)) → IsRow d vs row → statement_of m d (codes "insert" ++ vs) ≡ Some (act.Insert row)
unfolding statement_of word_of insert_of after
insert_back m d vs row h = rw (row_back d vs row h) refl

delete_back : (d : Defs) (p : List ℕ) (at : ℕ) → IsNumber 0 highest p at → statement_of false d (codes "delete " ++ p) ≡ Some (act.Delete at)
unfolding statement_of word_of insert_of range_of place_of update_of delete_of after
delete_back d p at h = rw (number_back 0 highest at p h) refl

update_back : (d : Defs) (p vs : List ℕ) (at : ℕ) (row : List (List ℕ)) → IsNumber 0 highest p at → IsRow d vs row → statement_of false d (codes "update " ++ (p ++ vs)) ≡ Some (act.Update at row)
unfolding statement_of word_of insert_of range_of place_of update_of after
update_back d p vs at row h k =
    let n = decimal_len p vs h.decimal (follows _ vs row not_space refl k.0) in
    rw (n, take-append_seam p vs, drop-append_seam p vs, number_back 0 highest at p h, row_back d vs row k) refl

range_back : (m : Bool) (d : Defs) (k from to : List ℕ) (r : Range) → HaveSegments d → IsNumber 1 (length d.keys) k r.key → IsBound (segments_of d r.key) from r.from → IsBound (segments_of d r.key) to r.to
    → statement_of m d (codes "range " ++ (k ++ (from ++ to))) ≡ Some (act.Over r)
unfolding statement_of word_of insert_of range_of after
range_back m d k from to r have h low high =
    let some = have r.key h.least_is h.most_is in
    let n = decimal_len k (from ++ to) h.decimal (bound_space (segments_of d r.key) from to r.from not_space refl some low) in
    let P : List ℕ → Type 0 = λ q. MayFollow goes_on q in
    let a = bound_back (segments_of d r.key) from to r.from some low (subst P (append-nil to) (bound_space (segments_of d r.key) to [] r.to goes_on refl some high)) in
    let b : bound_of (segments_of d r.key) to ≡ Some (r.to, []) = ap (bound_of (segments_of d r.key)) (sym (append-nil to)) ∙ bound_back (segments_of d r.key) to [] r.to some high tt in
    rw (n, take-append_seam k (from ++ to), drop-append_seam k (from ++ to), number_back 1 (length d.keys) r.key k h, a, b) refl

said_back : (m : Bool) (d : Defs) (t u : List ℕ) (a : Act) → t ≡ u → statement_of m d u ≡ Some a → statement_of m d t ≡ Some a
said_back m d t u a e h = ap (statement_of m d) e ∙ h

placed_back : (m : Bool) (d : Defs) (t u : List ℕ) (a : Act) → m ≡ false → t ≡ u → statement_of false d u ≡ Some a → statement_of m d t ≡ Some a
placed_back m d t u a one e h = ap (λ q. statement_of q d t) one ∙ ap (statement_of false d) e ∙ h

word_back : (m : Bool) (d : Defs) (u : List ℕ) (a : Act) → word_of u ≡ Some a → statement_of m d u ≡ Some a
unfolding statement_of
word_back m d u a e = rw e refl

pub statement_back : (m : Bool) (d : Defs) (t : List ℕ) (a : Act) → HaveSegments d → Says m d t a → statement_of m d t ≡ Some a
unfolding word_of
statement_back m d t (act.Insert row) have h = said_back m d t _ _ h.1 (insert_back m d h.0 row h.2)
statement_back m d t (act.Update at row) have h = placed_back m d t _ _ h.2 h.3 (update_back d h.0 h.1 at row h.4 h.5)
statement_back m d t (act.Delete at) have h = placed_back m d t _ _ h.1 h.2 (delete_back d h.0 at h.3)
statement_back m d t act.Scan have h = said_back m d t _ _ h (word_back m d (codes "scan") _ refl)
statement_back m d t (act.Over r) have h = said_back m d t _ _ h.3 (range_back m d h.0 h.1 h.2 r have h.4 h.5 h.6)
statement_back m d t (act.Lock Read) have h = said_back m d t _ _ h (word_back m d (codes "lock read") _ refl)
statement_back m d t (act.Lock ReadLocal) have h = said_back m d t _ _ h (word_back m d (codes "lock read local") _ refl)
statement_back m d t (act.Lock Write) have h = said_back m d t _ _ h (word_back m d (codes "lock write") _ refl)
statement_back m d t act.Unlock have h = said_back m d t _ _ h (word_back m d (codes "unlock") _ refl)
statement_back m d t act.Stats have h = said_back m d t _ _ h (word_back m d (codes "stats") _ refl)
statement_back m d t act.End have h = said_back m d t _ _ h (word_back m d (codes "end") _ refl)

pub line_back : (m : Bool) (d : Defs) (l : List ℕ) (s : ℕ) (a : Act) → HaveSegments d → IsLine m d l s a → line_of m d l ≡ Some (s, a)
unfolding line_of
line_back m d l s a have h =
    let low = h.1 in let high = h.2 in
    ap (line_of m d) h.3 ∙ rw (le_yes 49 (48 + s) (omega arith), le_yes (48 + s) 57 (omega arith), statement_back m d h.0 a have h.4) (ap (λ q. Some (q, a)) (omega arith))

pair_of : Option (ℕ × Act) → ℕ × Act → ℕ × Act
pair_of None d = d
pair_of (Some p) d = p

session_is : (m n : ℕ) (b a : Act) → with_session m (Some b) ≡ Some (n, a) → m ≡ n
unfolding pair_of
session_is m n b a h = ap (λ o. (pair_of o (m, b)).0) h

statement_is : (m n : ℕ) (b a : Act) → with_session m (Some b) ≡ Some (n, a) → b ≡ a
unfolding pair_of
statement_is m n b a h = ap (λ o. (pair_of o (m, b)).1) h

pub line_sound : (m : Bool) (d : Defs) (l : List ℕ) (s : ℕ) (a : Act) → line_of m d l ≡ Some (s, a) → IsLine m d l s a
unfolding line_of
line_sound m d [] s a e = cc
line_sound m d (x ∷ []) s a e = cc
line_sound m d (x ∷ y ∷ []) s a e = cc
line_sound m d (x ∷ y ∷ z ∷ text) s a e = go ((x == 83) && nat_le 49 y && nat_le y 57 && (z == 32)) refl e
  where
    said : (o : Option Act) → statement_of m d text ≡ o → (x ≡ 83) → (49 ≤ y) → (y ≤ 57) → (z ≡ 32) → with_session (y - 48) o ≡ Some (s, a) → IsLine m d (x ∷ y ∷ z ∷ text) s a
    said None eo ex ey ef ez h = cc
    said (Some b) eo ex ey ef ez h =
        let n : y - 48 ≡ s = session_is (y - 48) s b a h in
        let same : b ≡ a = statement_is (y - 48) s b a h in
        let P : Act → Type 0 = λ q. Says m d text q in
        let ny : y ≡ 48 + s = omega arith in
        (text, omega arith, omega arith, rw (ex, ez, ny) refl, subst P same (statement_sound m d text b eo))

    go : (b : Bool) → ((x == 83) && nat_le 49 y && nat_le y 57 && (z == 32)) ≡ b → cond b (with_session (y - 48) (statement_of m d text)) None ≡ Some (s, a) → IsLine m d (x ∷ y ∷ z ∷ text) s a
    go true is h = let w = and_true _ _ is in let v = and_true _ _ w.0 in let u = and_true _ _ v.0 in said (statement_of m d text) refl (eq_true x 83 u.0) (le_true 49 y u.1) (le_true y 57 v.1) (eq_true z 32 w.1) h
    go false is h = cc
