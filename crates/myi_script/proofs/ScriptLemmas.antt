-- A script is read exactly where it is in the grammar, and else the first line outside is told.
use Rattle.std.proofs.Common.{◌≡◌, ℕ, suc, ◌+◌, ◌-◌, ◌<◌, ◌≤◌, nat_le, List, [], ◌∷◌, length, take, Option, Some, None, Result, Ok, Err, Bool, true, false, cond, refl, ap, sym, ◌∙◌, arith, subst}
use Rattle.std.specs.Prelude.{MatchBool}
use Rattle.std.specs.Result.{MatchResult, is_ok}
use Rattle.std.specs.Str.{IsUtf8, is_utf8}
use Rattle.std.proofs.lemmas.Str.{IsUtf8-from_is_utf8, is_utf8-from_IsUtf8}
use Rattle.myi_defs.specs.declared.types.Defs.{Defs}
use Rattle.myi_deftext.specs.Text.{lines}
use Rattle.myi_script.specs.declared.types.Act.{Act}
use Rattle.myi_script.specs.declared.types.Line.{Line}
use Rattle.myi_script.specs.Grammar.{IsLine}
use Rattle.myi_script.specs.Reading.{line_of}
use Rattle.myi_script.specs.Script.{most_lines, does_nothing, has_ended, ended_by, AreLines, IsFirstOutside, with_line, line_said, if_utf8, read_lines, IsScript}
use Rattle.myi_script.proofs.ValueLemmas.{le_true, le_yes}
use Rattle.myi_script.proofs.LineLemmas.{HaveSegments, line_sound, line_back}

pair_of : {A B : Type 0} → Option (A × B) → A × B → A × B
pair_of None d = d
pair_of (Some p) d = p

-- what a line that does something gives
abbrev pub LineSays : Bool → Defs → List ℕ → ℕ → List ℕ → List (List ℕ) → List Line → Type 0
LineSays m d ended n l ls said =
    (s : ℕ) × (a : Act) × (others : List Line) × IsLine m d l s a × (has_ended s ended ≡ false)
    × (said ≡ record { session = s; line = n; act = a } ∷ others) × AreLines m d (ended_by s a ended) (n + 1) ls others

abbrev pub LineIsText : Bool → Defs → List ℕ → ℕ → List ℕ → List (List ℕ) → List Line → Type 0
LineIsText m d ended n l ls said = IsUtf8 l × AreLines m d ended (n + 1) ls said

pub lines_sound : (m : Bool) (d : Defs) (ended : List ℕ) (n : ℕ) (ls : List (List ℕ)) (said : List Line) → read_lines m d ended n ls ≡ Ok said → AreLines m d ended n ls said
unfolding read_lines
lines_sound m d ended n [] said e = let k = e in let r : [] ≡ said = cc in sym r
lines_sound m d ended n (l ∷ ls) said e = few (nat_le n most_lines) refl e (λ u f. lines_sound m d ended (n + 1) ls u f) (λ g u f. lines_sound m d g (n + 1) ls u f)
  where
    last : (s : ℕ) (a : Act) (o : Result (List Line) ℕ) → read_lines m d (ended_by s a ended) (n + 1) ls ≡ o → line_of m d l ≡ Some (s, a) → has_ended s ended ≡ false
        → with_line (record { session = s; line = n; act = a }) o ≡ Ok said → ((g : List ℕ) (u : List Line) → read_lines m d g (n + 1) ls ≡ Ok u → AreLines m d g (n + 1) ls u) → LineSays m d ended n l ls said
    last s a (Ok others) eo el eh h ih = (s, a, others, line_sound m d l s a el, eh, (let k = h in let r : record { session = s; line = n; act = a } ∷ others ≡ said = cc in sym r), ih (ended_by s a ended) others eo)
    last s a (Err k) eo el eh h ih = cc

    test : (b : Bool) (s : ℕ) (a : Act) → has_ended s ended ≡ b → line_of m d l ≡ Some (s, a) → cond b (Err n) (with_line (record { session = s; line = n; act = a }) (read_lines m d (ended_by s a ended) (n + 1) ls)) ≡ Ok said
        → ((g : List ℕ) (u : List Line) → read_lines m d g (n + 1) ls ≡ Ok u → AreLines m d g (n + 1) ls u) → LineSays m d ended n l ls said
    test true s a eh el h ih = cc
    test false s a eh el h ih = last s a (read_lines m d (ended_by s a ended) (n + 1) ls) refl el eh h ih

    speak : (o : Option (ℕ × Act)) → line_of m d l ≡ o → line_said ended n o (λ g. read_lines m d g (n + 1) ls) ≡ Ok said → ((g : List ℕ) (u : List Line) → read_lines m d g (n + 1) ls ≡ Ok u → AreLines m d g (n + 1) ls u) → LineSays m d ended n l ls said
    speak None el h ih = cc
    speak (Some p) el h ih = test (has_ended p.0 ended) p.0 p.1 refl el h ih

    pass : (b : Bool) → is_utf8 l ≡ b → cond b (read_lines m d ended (n + 1) ls) (Err n) ≡ Ok said → ((u : List Line) → read_lines m d ended (n + 1) ls ≡ Ok u → AreLines m d ended (n + 1) ls u) → LineIsText m d ended n l ls said
    pass true is h ih = (IsUtf8-from_is_utf8 l is, ih said h)
    pass false is h ih = cc

    go : (b : Bool) → cond b (if_utf8 n (is_utf8 l) (read_lines m d ended (n + 1) ls)) (line_said ended n (line_of m d l) (λ g. read_lines m d g (n + 1) ls)) ≡ Ok said
        → ((u : List Line) → read_lines m d ended (n + 1) ls ≡ Ok u → AreLines m d ended (n + 1) ls u) → ((g : List ℕ) (u : List Line) → read_lines m d g (n + 1) ls ≡ Ok u → AreLines m d g (n + 1) ls u)
        → MatchBool b (LineIsText m d ended n l ls said) (LineSays m d ended n l ls said)
    go true h silent ih = pass (is_utf8 l) refl h silent
    go false h silent ih = speak (line_of m d l) refl h ih

    few : (b : Bool) → nat_le n most_lines ≡ b → cond b (cond (does_nothing l) (if_utf8 n (is_utf8 l) (read_lines m d ended (n + 1) ls)) (line_said ended n (line_of m d l) (λ g. read_lines m d g (n + 1) ls))) (Err n) ≡ Ok said
        → ((u : List Line) → read_lines m d ended (n + 1) ls ≡ Ok u → AreLines m d ended (n + 1) ls u) → ((g : List ℕ) (u : List Line) → read_lines m d g (n + 1) ls ≡ Ok u → AreLines m d g (n + 1) ls u)
        → (n ≤ most_lines) × MatchBool (does_nothing l) (LineIsText m d ended n l ls said) (LineSays m d ended n l ls said)
    few true is h silent ih = (le_true n most_lines is, go (does_nothing l) h silent ih)
    few false is h silent ih = cc

pub lines_back : (m : Bool) (d : Defs) (ended : List ℕ) (n : ℕ) (ls : List (List ℕ)) (said : List Line) → HaveSegments d → AreLines m d ended n ls said → read_lines m d ended n ls ≡ Ok said
unfolding read_lines
lines_back m d ended n [] said have h = ap (λ q. Ok q) (sym h)
lines_back m d ended n (l ∷ ls) said have h =
    rw (le_yes n most_lines h.0) (go (does_nothing l) h.1 (λ u f. lines_back m d ended (n + 1) ls u have f) (λ g u f. lines_back m d g (n + 1) ls u have f))
  where
    go : (b : Bool) → MatchBool b (LineIsText m d ended n l ls said) (LineSays m d ended n l ls said)
        → ((u : List Line) → AreLines m d ended (n + 1) ls u → read_lines m d ended (n + 1) ls ≡ Ok u) → ((g : List ℕ) (u : List Line) → AreLines m d g (n + 1) ls u → read_lines m d g (n + 1) ls ≡ Ok u)
        → cond b (if_utf8 n (is_utf8 l) (read_lines m d ended (n + 1) ls)) (line_said ended n (line_of m d l) (λ g. read_lines m d g (n + 1) ls)) ≡ Ok said
    go true k silent ih = rw (is_utf8-from_IsUtf8 l k.0) (silent said k.1)
    go false k silent ih =
        ap (λ o. line_said ended n o (λ g. read_lines m d g (n + 1) ls)) (line_back m d l k.0 k.1 have k.3)
        ∙ rw k.4 (ap (λ q. with_line (record { session = k.0; line = n; act = k.1 }) q) (ih (ended_by k.0 k.1 ended) k.2 k.6) ∙ ap (λ q. Ok q) (sym k.5))

-- these lines are not all in the grammar: the first of them that is not has number k
pub record Outside (m : Bool) (d : Defs) (ended : List ℕ) (n : ℕ) (ls : List (List ℕ)) (k : ℕ) : Type 0 where
  pub at : ℕ
  pub is : k ≡ n + at
  pub within : at < length ls
  pub said : List Line
  pub before : AreLines m d ended n (take at ls) said
  pub outside : (said : List Line) → AreLines m d ended n (take (suc at) ls) said → ⊥

-- the first line may not stand there
here : (m : Bool) (d : Defs) (ended : List ℕ) (n : ℕ) (l : List ℕ) (ls : List (List ℕ)) (k : ℕ) → n ≡ k → ((said : List Line) → AreLines m d ended n (l ∷ []) said → ⊥) → Outside m d ended n (l ∷ ls) k
here m d ended n l ls k e never = record { at = 0; is = sym e ∙ omega arith; within = omega arith; said = []; before = refl; outside = never }

-- a line that does something, and says nothing that may stand there
unsaid : (m : Bool) (d : Defs) (ended : List ℕ) (n : ℕ) (l : List ℕ) (said : List Line) → does_nothing l ≡ false → ((s : ℕ) (a : Act) → IsLine m d l s a → has_ended s ended ≡ false → ⊥) → AreLines m d ended n (l ∷ []) said → ⊥
unsaid m d ended n l said loud never h =
    let P : Bool → Type 0 = λ b. MatchBool b (LineIsText m d ended n l [] said) (LineSays m d ended n l [] said) in
    let w = subst P loud h.1 in never w.0 w.1 w.3 w.4

nothing_later : (m : Bool) (d : Defs) (ended : List ℕ) (n : ℕ) (l : List ℕ) (ls : List (List ℕ)) (k : ℕ) → n ≤ most_lines → does_nothing l ≡ true → IsUtf8 l → Outside m d ended (n + 1) ls k → Outside m d ended n (l ∷ ls) k
nothing_later m d ended n l ls k few quiet text o = record {
  at = suc o.at;
  is = o.is ∙ omega arith;
  within = (let w = o.within in omega arith);
  said = o.said;
  before = (few, rw quiet (text, o.before));
  outside = λ said h. o.outside said (let P : Bool → Type 0 = λ b. MatchBool b (LineIsText m d ended n l (take (suc o.at) ls) said) (LineSays m d ended n l (take (suc o.at) ls) said) in (subst P quiet h.1).1);
}

pub same_line : (m : Bool) (d : Defs) (l : List ℕ) (s t : ℕ) (a b : Act) → HaveSegments d → line_of m d l ≡ Some (s, a) → IsLine m d l t b → (s ≡ t) × (a ≡ b)
unfolding pair_of
same_line m d l s t a b have e h = let k : Some (s, a) ≡ Some (t, b) = sym e ∙ line_back m d l t b have h in (ap (λ o. (pair_of o (s, a)).0) k, ap (λ o. (pair_of o (s, a)).1) k)

said_later : (m : Bool) (d : Defs) (ended : List ℕ) (n : ℕ) (l : List ℕ) (ls : List (List ℕ)) (k s : ℕ) (a : Act) → HaveSegments d → n ≤ most_lines → does_nothing l ≡ false → line_of m d l ≡ Some (s, a) → has_ended s ended ≡ false
    → Outside m d (ended_by s a ended) (n + 1) ls k → Outside m d ended n (l ∷ ls) k
said_later m d ended n l ls k s a have few quiet el eh o = record {
  at = suc o.at;
  is = o.is ∙ omega arith;
  within = (let w = o.within in omega arith);
  said = record { session = s; line = n; act = a } ∷ o.said;
  before = (few, rw quiet (s, a, o.said, line_sound m d l s a el, eh, refl, o.before));
  outside = λ said h. (
      let P : Bool → Type 0 = λ b. MatchBool b (LineIsText m d ended n l (take (suc o.at) ls) said) (LineSays m d ended n l (take (suc o.at) ls) said) in
      let w = subst P quiet h.1 in
      let e = same_line m d l s w.0 a w.1 have el w.3 in
      let Q : List ℕ → Type 0 = λ g. AreLines m d g (n + 1) (take (suc o.at) ls) w.2 in
      o.outside w.2 (subst Q (sym (ap (λ q. ended_by q a ended) e.0 ∙ ap (λ q. ended_by w.0 q ended) e.1)) w.6));
}

pub lines_outside : (m : Bool) (d : Defs) (ended : List ℕ) (n : ℕ) (ls : List (List ℕ)) (k : ℕ) → HaveSegments d → read_lines m d ended n ls ≡ Err k → Outside m d ended n ls k
unfolding read_lines
lines_outside m d ended n [] k have e = cc
lines_outside m d ended n (l ∷ ls) k have e = few (nat_le n most_lines) refl e (λ g f. lines_outside m d g (n + 1) ls k have f)
  where
    last : (s : ℕ) (a : Act) (o : Result (List Line) ℕ) → read_lines m d (ended_by s a ended) (n + 1) ls ≡ o → n ≤ most_lines → does_nothing l ≡ false → line_of m d l ≡ Some (s, a) → has_ended s ended ≡ false
        → with_line (record { session = s; line = n; act = a }) o ≡ Err k → ((g : List ℕ) → read_lines m d g (n + 1) ls ≡ Err k → Outside m d g (n + 1) ls k) → Outside m d ended n (l ∷ ls) k
    last s a (Ok others) eo le quiet el eh h ih = cc
    last s a (Err j) eo le quiet el eh h ih = said_later m d ended n l ls k s a have le quiet el eh (ih (ended_by s a ended) (eo ∙ (let q = h in let r : j ≡ k = cc in ap (λ i. Err i) r)))

    test : (b : Bool) (s : ℕ) (a : Act) → has_ended s ended ≡ b → n ≤ most_lines → does_nothing l ≡ false → line_of m d l ≡ Some (s, a) → cond b (Err n) (with_line (record { session = s; line = n; act = a }) (read_lines m d (ended_by s a ended) (n + 1) ls)) ≡ Err k
        → ((g : List ℕ) → read_lines m d g (n + 1) ls ≡ Err k → Outside m d g (n + 1) ls k) → Outside m d ended n (l ∷ ls) k
    test true s a eh le quiet el h ih =
        here m d ended n l ls k (let q = h in cc) (λ said lines. unsaid m d ended n l said quiet (λ t b line open_yet. let e = same_line m d l s t a b have el line in let bad : true ≡ false = sym eh ∙ ap (λ q. has_ended q ended) e.0 ∙ open_yet in cc) lines)
    test false s a eh le quiet el h ih = last s a (read_lines m d (ended_by s a ended) (n + 1) ls) refl le quiet el eh h ih

    speak : (o : Option (ℕ × Act)) → line_of m d l ≡ o → n ≤ most_lines → does_nothing l ≡ false → line_said ended n o (λ g. read_lines m d g (n + 1) ls) ≡ Err k → ((g : List ℕ) → read_lines m d g (n + 1) ls ≡ Err k → Outside m d g (n + 1) ls k) → Outside m d ended n (l ∷ ls) k
    speak None el le quiet h ih = here m d ended n l ls k (let q = h in cc) (λ said lines. unsaid m d ended n l said quiet (λ t b line _. let bad : None ≡ Some (t, b) = sym el ∙ line_back m d l t b have line in cc) lines)
    speak (Some p) el le quiet h ih = test (has_ended p.0 ended) p.0 p.1 refl le quiet el h ih

    pass : (b : Bool) → is_utf8 l ≡ b → n ≤ most_lines → does_nothing l ≡ true → cond b (read_lines m d ended (n + 1) ls) (Err n) ≡ Err k → ((g : List ℕ) → read_lines m d g (n + 1) ls ≡ Err k → Outside m d g (n + 1) ls k) → Outside m d ended n (l ∷ ls) k
    pass true is le quiet h ih = nothing_later m d ended n l ls k le quiet (IsUtf8-from_is_utf8 l is) (ih ended h)
    pass false is le quiet h ih =
        here m d ended n l ls k (let q = h in cc) (λ said lines.
        let P : Bool → Type 0 = λ b. MatchBool b (LineIsText m d ended n l [] said) (LineSays m d ended n l [] said) in
        let bad : true ≡ false = sym (is_utf8-from_IsUtf8 l (subst P quiet lines.1).0) ∙ is in cc)

    go : (b : Bool) → does_nothing l ≡ b → n ≤ most_lines → cond b (if_utf8 n (is_utf8 l) (read_lines m d ended (n + 1) ls)) (line_said ended n (line_of m d l) (λ g. read_lines m d g (n + 1) ls)) ≡ Err k
        → ((g : List ℕ) → read_lines m d g (n + 1) ls ≡ Err k → Outside m d g (n + 1) ls k) → Outside m d ended n (l ∷ ls) k
    go true is le h ih = pass (is_utf8 l) refl le is h ih
    go false is le h ih = speak (line_of m d l) refl le is h ih

    few : (b : Bool) → nat_le n most_lines ≡ b → cond b (cond (does_nothing l) (if_utf8 n (is_utf8 l) (read_lines m d ended (n + 1) ls)) (line_said ended n (line_of m d l) (λ g. read_lines m d g (n + 1) ls))) (Err n) ≡ Err k
        → ((g : List ℕ) → read_lines m d g (n + 1) ls ≡ Err k → Outside m d g (n + 1) ls k) → Outside m d ended n (l ∷ ls) k
    few true is h ih = go (does_nothing l) refl (le_true n most_lines is) h ih
    few false is h ih = here m d ended n l ls k (let q = h in cc) (λ said lines. let bad : true ≡ false = sym (le_yes n most_lines lines.0) ∙ is in cc)

pub first_outside : (m : Bool) (d : Defs) (ls : List (List ℕ)) (k : ℕ) → HaveSegments d → read_lines m d [] 1 ls ≡ Err k → IsFirstOutside m d ls k
first_outside m d ls k have e =
    let o = lines_outside m d [] 1 ls k have e in
    let a : k - 1 ≡ o.at = let q = o.is in omega arith in
    let b : k ≡ suc o.at = let q = o.is in omega arith in
    let P : ℕ → Type 0 = λ j. (said : List Line) × AreLines m d [] 1 (take j ls) said in
    record {
      before = subst P (sym a) (o.said, o.before);
      outside = λ said h. o.outside said (let Q : ℕ → Type 0 = λ j. AreLines m d [] 1 (take j ls) said in subst Q b h);
      low = (let q = o.is in omega arith);
      high = (let q = o.is in let w = o.within in omega arith);
    }

pub found : (m : Bool) (d : Defs) (text : List ℕ) (ls : List (List ℕ)) (said : List Line) → ls ≡ lines text → read_lines m d [] 1 ls ≡ Ok said → IsScript m d text said
found m d text ls said e h = lines_sound m d [] 1 (lines text) said (ap (read_lines m d [] 1) (sym e) ∙ h)

pub refused : (m : Bool) (d : Defs) (text : List ℕ) (ls : List (List ℕ)) (k : ℕ) → HaveSegments d → ls ≡ lines text → read_lines m d [] 1 ls ≡ Err k → IsFirstOutside m d (lines text) k
refused m d text ls k have e h = first_outside m d (lines text) k have (ap (read_lines m d [] 1) (sym e) ∙ h)

-- ---- UTF-8

pub utf8_is : {T E : Type 0} (P : T → Type 0) (Q : E → Type 0) (bs : List ℕ) (r : Result T E) → ((s : T) → P s → IsUtf8 bs) → ((e : E) → Q e → IsUtf8 bs → ⊥) → MatchResult r P Q → is_ok r ≡ is_utf8 bs
utf8_is P Q bs (Ok s) told never h = sym (is_utf8-from_IsUtf8 bs (told s h))
utf8_is P Q bs (Err e) told never h = go (is_utf8 bs) refl
  where
    go : (b : Bool) → is_utf8 bs ≡ b → false ≡ is_utf8 bs
    go true is = absurd (never e h (IsUtf8-from_is_utf8 bs is))
    go false is = sym is
