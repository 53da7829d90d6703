-- What is read as a bound is one, and each bound is read.
use Rattle.std.proofs.Common.{◌≡◌, ℕ, ◌<◌, List, [], ◌∷◌, ◌++◌, length, take, drop, Option, Some, None, Bool, true, false, cond, refl, ap, sym, ◌∙◌, arith, subst, append_assoc}
use Rattle.std.specs.Prelude.{codes, bytes_eq}
use Rattle.std.proofs.lemmas.Slice.Eq.{bytes_eq-Decides}
use Rattle.std.proofs.lemmas.List.{take-append-drop}
use Rattle.myi_defs.specs.declared.types.Segment.{Segment}
use Rattle.myi_keys.specs.declared.values.KeySeg.{KeySeg}
use Rattle.myi_keys.specs.declared.values.KeySeg.TheVariants.{Absent, Weights}
use Rattle.myi_keys.specs.Weights.{weights}
use Rattle.myi_script.specs.Values.{segment_form, IsValue}
use Rattle.myi_script.specs.Grammar.{IsPart, AreParts, IsBound}
use Rattle.myi_script.specs.Reading.{goes_on, value_of, value_len, next_value, weighed, part_of, before_parts, then_parts, parts_of, some_parts, bound_of}
use Rattle.myi_script.proofs.ValueLemmas.{eq_no, value_sound, value_back}
use Rattle.myi_script.proofs.WordLemmas.{MayFollow, word_len, value_ends, value_first, next_sound, next_back}

pub same_bytes : (t u : List ℕ) → bytes_eq t u ≡ true → t ≡ u
same_bytes t u e = (bytes_eq-Decides t u).0 e

-- ---- a part

-- the word of an absent value is no value
null_unread : (s : Segment) → value_of (segment_form s) (codes "null") ≡ None
unfolding value_of
null_unread s = refl

null_is_none : (s : Segment) (v : List ℕ) → IsValue (segment_form s) (codes "null") v → ⊥
null_is_none s v h = let w : None ≡ Some v = sym (null_unread s) ∙ value_back (segment_form s) (codes "null") v h in cc

pub part_sound : (s : Segment) (w : List ℕ) (k : KeySeg) → part_of s w ≡ Some k → IsPart s w k
unfolding part_of
part_sound s w k e = go (bytes_eq w (codes "null")) refl e
  where
    said : (o : Option (List ℕ)) → value_of (segment_form s) w ≡ o → weighed s o ≡ Some k → IsPart s w k
    said None eo h = cc
    said (Some v) eo h =
        let same : Weights (weights s v) ≡ k = let q = h in cc in
        let P : KeySeg → Type 0 = λ q. IsPart s w q in
        subst P same (v, value_sound (segment_form s) w v eo, refl)

    go : (b : Bool) → bytes_eq w (codes "null") ≡ b → cond b (Some Absent) (weighed s (value_of (segment_form s) w)) ≡ Some k → IsPart s w k
    go true is h =
        let same : Absent ≡ k = let q = h in cc in
        let P : KeySeg → Type 0 = λ q. IsPart s w q in
        subst P same (same_bytes w (codes "null") is)
    go false is h = said (value_of (segment_form s) w) refl h

pub part_back : (s : Segment) (w : List ℕ) (k : KeySeg) → IsPart s w k → part_of s w ≡ Some k
unfolding part_of
part_back s w Absent h = rw h refl
part_back s w (Weights x) h = go (bytes_eq w (codes "null")) refl
  where
    go : (b : Bool) → bytes_eq w (codes "null") ≡ b → cond b (Some Absent) (weighed s (value_of (segment_form s) w)) ≡ Some (Weights x)
    go true is = let P : List ℕ → Type 0 = λ q. IsValue (segment_form s) q h.0 in absurd (null_is_none s h.0 (subst P (same_bytes w (codes "null") is) h.1))
    go false is = rw (value_back (segment_form s) w h.0 h.1) (ap (λ q. Some (Weights q)) (sym h.2))

part_ends : (s : Segment) (w more : List ℕ) (k : KeySeg) → IsPart s w k → MayFollow goes_on more → value_len (w ++ more) ≡ length w
part_ends s w more Absent h m = ap (λ q. value_len (q ++ more)) h ∙ word_len 110 (117 ∷ 108 ∷ 108 ∷ []) more (λ q. absurd (omega arith)) (refl, (refl, (refl, (refl, tt)))) m ∙ sym (ap length h)
part_ends s w more (Weights x) h m = value_ends (segment_form s) w h.0 more h.1 m

part_first : (s : Segment) (w : List ℕ) (k : KeySeg) → IsPart s w k → (c : ℕ) × (cs : List ℕ) × (w ≡ c ∷ cs) × (c ≡ 42 → ⊥)
part_first s w Absent h = (110, 117 ∷ 108 ∷ 108 ∷ [], h, λ q. absurd (omega arith))
part_first s w (Weights x) h = value_first (segment_form s) w h.0 h.1

-- ---- parts

pair_of : {A B : Type 0} → Option (A × B) → A × B → A × B
pair_of None d = d
pair_of (Some p) d = p

-- what was read of a text, and what stands after it
pub record Parts (mark : ℕ) (ss : List Segment) (text : List ℕ) (key : List KeySeg) (more : List ℕ) : Type 0 where
  pub used : List ℕ
  pub text_is : text ≡ used ++ more
  pub are : AreParts mark ss used key

pub parts_sound : (mark : ℕ) (ss : List Segment) (text more : List ℕ) (key : List KeySeg) → parts_of mark ss text ≡ Some (key, more) → Parts mark ss text key more
unfolding parts_of pair_of
parts_sound mark [] text more key e =
    let none : [] ≡ key = ap (λ o. (pair_of o (key, more)).0) e in
    let rest : text ≡ more = ap (λ o. (pair_of o (key, more)).1) e in
    record { used = []; text_is = rest; are = (refl, sym none) }
parts_sound mark (s ∷ ss) text more key e = go (next_value mark text) refl e (λ t k q. parts_sound 44 ss t more k q)
  where
    all : (w rest : List ℕ) (x : Option KeySeg) (o : Option (List KeySeg × List ℕ)) → next_value mark text ≡ Some (w, rest) → part_of s w ≡ x → parts_of 44 ss rest ≡ o → before_parts x o ≡ Some (key, more)
        → ((t : List ℕ) (k : List KeySeg) → parts_of 44 ss t ≡ Some (k, more) → Parts 44 ss t k more) → Parts mark (s ∷ ss) text key more
    all w rest None o en ex eo h ih = cc
    all w rest (Some k) None en ex eo h ih = cc
    all w rest (Some k) (Some p) en ex eo h ih =
        let keys : k ∷ p.0 ≡ key = ap (λ q. (pair_of q (key, more)).0) h in
        let after : p.1 ≡ more = ap (λ q. (pair_of q (key, more)).1) h in
        let r = ih rest p.0 (eo ∙ ap (λ q. Some (p.0, q)) after) in
        record {
          used = mark ∷ (w ++ r.used);
          text_is = next_sound mark text w rest en ∙ ap (λ q. mark ∷ (w ++ q)) r.text_is ∙ ap (λ q. mark ∷ q) (sym (append_assoc w r.used more));
          are = (w, r.used, k, p.0, refl, sym keys, part_sound s w k ex, r.are);
        }

    go : (o : Option (List ℕ × List ℕ)) → next_value mark text ≡ o → then_parts s o (λ rest. parts_of 44 ss rest) ≡ Some (key, more)
        → ((t : List ℕ) (k : List KeySeg) → parts_of 44 ss t ≡ Some (k, more) → Parts 44 ss t k more) → Parts mark (s ∷ ss) text key more
    go None en h ih = cc
    go (Some p) en h ih = all p.0 p.1 (part_of s p.0) (parts_of 44 ss p.1) en refl refl h ih

-- a comma or nothing stands after a part
part_follows : (ss : List Segment) (used more : List ℕ) (key : List KeySeg) → AreParts 44 ss used key → MayFollow goes_on more → MayFollow goes_on (used ++ more)
part_follows [] used more key h m = let P : List ℕ → Type 0 = λ q. MayFollow goes_on (q ++ more) in subst P (sym h.0) m
part_follows (s ∷ ss) used more key h m = let P : List ℕ → Type 0 = λ q. MayFollow goes_on (q ++ more) in subst P (sym h.4) refl

pub parts_back : (mark : ℕ) (ss : List Segment) (used more : List ℕ) (key : List KeySeg) → AreParts mark ss used key → MayFollow goes_on more → parts_of mark ss (used ++ more) ≡ Some (key, more)
unfolding parts_of
parts_back mark [] used more key h m = rw (h.0, h.1) refl
parts_back mark (s ∷ ss) used more key h m =
    let text : used ++ more ≡ mark ∷ (h.0 ++ (h.1 ++ more)) = ap (λ q. q ++ more) h.4 ∙ ap (λ q. mark ∷ q) (append_assoc h.0 h.1 more) in
    let ends = part_ends s h.0 (h.1 ++ more) h.2 h.6 (part_follows ss h.1 more h.3 h.7 m) in
    ap (λ q. then_parts s (next_value mark q) (λ rest. parts_of 44 ss rest)) text
    ∙ ap (λ q. then_parts s q (λ rest. parts_of 44 ss rest)) (next_back mark h.0 (h.1 ++ more) ends)
    ∙ ap (λ q. before_parts q (parts_of 44 ss (h.1 ++ more))) (part_back s h.0 h.2 h.6)
    ∙ ap (λ q. before_parts (Some h.2) q) (parts_back 44 ss h.1 more h.3 h.7 m)
    ∙ ap (λ q. Some (q, more)) (sym h.5)

-- ---- a bound

pub record Bound (ss : List Segment) (text : List ℕ) (b : Option (List KeySeg)) (more : List ℕ) : Type 0 where
  pub used : List ℕ
  pub text_is : text ≡ used ++ more
  pub is : IsBound ss used b

pub bound_sound : (ss : List Segment) (text more : List ℕ) (b : Option (List KeySeg)) → bound_of ss text ≡ Some (b, more) → Bound ss text b more
unfolding bound_of pair_of
bound_sound ss text more b e = go (bytes_eq (take 2 text) (codes " *")) refl e
  where
    said : (o : Option (List KeySeg × List ℕ)) → parts_of 32 ss text ≡ o → some_parts o ≡ Some (b, more) → Bound ss text b more
    said None eo h = cc
    said (Some p) eo h =
        let key : Some p.0 ≡ b = ap (λ q. (pair_of q (b, more)).0) h in
        let after : p.1 ≡ more = ap (λ q. (pair_of q (b, more)).1) h in
        let r = parts_sound 32 ss text more p.0 (eo ∙ ap (λ q. Some (p.0, q)) after) in
        let P : Option (List KeySeg) → Type 0 = λ q. Bound ss text q more in
        subst P key (record { used = r.used; text_is = r.text_is; is = r.are })

    go : (t : Bool) → bytes_eq (take 2 text) (codes " *") ≡ t → cond t (Some (None, drop 2 text)) (some_parts (parts_of 32 ss text)) ≡ Some (b, more) → Bound ss text b more
    go true is h =
        let key : None ≡ b = ap (λ q. (pair_of q (b, more)).0) h in
        let after : drop 2 text ≡ more = ap (λ q. (pair_of q (b, more)).1) h in
        let P : Option (List KeySeg) → Type 0 = λ q. Bound ss text q more in
        subst P key (record {
          used = codes " *";
          text_is = sym (take-append-drop 2 text) ∙ ap (λ q. q ++ drop 2 text) (same_bytes (take 2 text) (codes " *") is) ∙ ap (λ q. codes " *" ++ q) after;
          is = refl;
        })
    go false is h = said (parts_of 32 ss text) refl h

no_star : (c : ℕ) (cs : List ℕ) → (c ≡ 42 → ⊥) → bytes_eq (take 2 (32 ∷ c ∷ cs)) (codes " *") ≡ false
no_star c cs ne = rw (eq_no c 42 ne) refl

pub bound_back : (ss : List Segment) (used more : List ℕ) (b : Option (List KeySeg)) → 0 < length ss → IsBound ss used b → MayFollow goes_on more → bound_of ss (used ++ more) ≡ Some (b, more)
unfolding bound_of
bound_back ss used more None some h m = ap (λ q. cond (bytes_eq (take 2 (q ++ more)) (codes " *")) (Some (None, drop 2 (q ++ more))) (some_parts (parts_of 32 ss (q ++ more)))) h ∙ refl
bound_back [] used more (Some key) some h m = absurd (omega arith)
bound_back (s ∷ ss) used more (Some key) some h m =
    let f = part_first s h.0 h.2 h.6 in
    let begins : used ++ more ≡ 32 ∷ f.0 ∷ (f.1 ++ (h.1 ++ more)) = ap (λ q. q ++ more) h.4 ∙ ap (λ q. 32 ∷ q) (append_assoc h.0 h.1 more ∙ ap (λ q. q ++ (h.1 ++ more)) f.2) in
    let none : bytes_eq (take 2 (used ++ more)) (codes " *") ≡ false = ap (λ q. bytes_eq (take 2 q) (codes " *")) begins ∙ no_star f.0 (f.1 ++ (h.1 ++ more)) f.3 in
    rw none (ap some_parts (parts_back 32 (s ∷ ss) used more key h m))

-- a bound begins with a space
pub bound_space : (ss : List Segment) (used more : List ℕ) (b : Option (List KeySeg)) (test : ℕ → Bool) → test 32 ≡ false → 0 < length ss → IsBound ss used b → MayFollow test (used ++ more)
bound_space ss used more None test e some h = let P : List ℕ → Type 0 = λ q. MayFollow test (q ++ more) in subst P (sym h) e
bound_space [] used more (Some key) test e some h = absurd (omega arith)
bound_space (s ∷ ss) used more (Some key) test e some h = let P : List ℕ → Type 0 = λ q. MayFollow test (q ++ more) in subst P (sym h.4) e
