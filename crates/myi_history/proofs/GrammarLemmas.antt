-- The lines that a text in the grammar says are those of a script that may run.
use Rattle.std.proofs.Common.{◌≡◌, ℕ, suc, ◌+◌, ◌≤◌, ◌==◌, ◌||◌, List, [], ◌∷◌, ◌++◌, length, Option, Some, None, Bool, true, false, cond, refl, ap, sym, ◌∙◌, arith, subst, inl, inr}
use Rattle.std.specs.Prelude.{MatchBool}
use Rattle.std.specs.List.{AllByRecursion}
use Rattle.std.proofs.lemmas.Bool.Decides.{eqb_tells}
use Rattle.std.proofs.lemmas.List.Folds.{list_any-append}
use Rattle.std.specs.Str.{IsUtf8}
use Rattle.myi_defs.specs.declared.types.Defs.{Defs}
use Rattle.myi_defs.specs.declared.types.Segment.{Segment}
use Rattle.myi_deftext.specs.Text.{lines}
use Rattle.myi_keys.specs.declared.values.KeySeg.{KeySeg}
use Rattle.myi_script.specs.declared.types.Act.{Act}
use Rattle.myi_script.specs.declared.types.Act.TheVariants as act
use Rattle.myi_script.specs.declared.types.Line.{Line}
use Rattle.myi_script.specs.Grammar.{IsLine, Says, AreParts, IsBound, segments_of}
use Rattle.myi_script.specs.Script.{does_nothing, has_ended, is_end, ended_by, AreLines, IsScript}
use Rattle.myi_history.specs.Lines.{LinesGrow, NothingFollows, BringsRow, HasAllSegments, ReadsRange, IsSession, MayRun}

-- the lines of sessions other than those that have ended
abbrev pub NoneHasEnded : List ℕ → List Line → Type 0
NoneHasEnded ended ls = AllByRecursion (λ (l : Line). has_ended l.session ended ≡ false) ls

abbrev pub Runs : Defs → List ℕ → ℕ → List Line → Type 0
Runs d ended n ls = LinesGrow n ls × NothingFollows ls × AllByRecursion (λ (l : Line). BringsRow d l.act) ls × NoneHasEnded ended ls × AllByRecursion (λ (l : Line). IsSession l.session) ls × AllByRecursion (λ (l : Line). ReadsRange d l.act) ls

abbrev pub Spoken : Bool → Defs → List ℕ → ℕ → List ℕ → List (List ℕ) → List Line → Type 0
Spoken merge d ended n l ls said =
    (s : ℕ) × (a : Act) × (others : List Line) × IsLine merge d l s a × (has_ended s ended ≡ false)
    × (said ≡ record { session = s; line = n; act = a } ∷ others) × AreLines merge d (ended_by s a ended) (n + 1) ls others

grow_low : (a b : ℕ) (ls : List Line) → a ≤ b → LinesGrow b ls → LinesGrow a ls
grow_low a b [] le h = tt
grow_low a b (l ∷ ls) le h = (let k : b ≤ l.line = h.0 in omega arith, h.1)

brings : (merge : Bool) (d : Defs) (text : List ℕ) (a : Act) → Says merge d text a → BringsRow d a
brings merge d text (act.Insert row) h = h.2.1
brings merge d text (act.Update at row) h = h.5.1
brings merge d text (act.Delete at) h = tt
brings merge d text act.Scan h = tt
brings merge d text (act.Over r) h = tt
brings merge d text (act.Lock k) h = tt
brings merge d text act.Unlock h = tt
brings merge d text act.Stats h = tt
brings merge d text act.End h = tt

-- a bound has a part for each segment
each_part : (mark : ℕ) (ss : List Segment) (text : List ℕ) (key : List KeySeg) → AreParts mark ss text key → length key ≡ length ss
each_part mark [] text key h = ap length h.1
each_part mark (s ∷ ss) text key h = ap length h.5 ∙ ap suc (each_part 44 ss h.1 h.3 h.7)

all_segments : (d : Defs) (k : ℕ) (text : List ℕ) (bound : Option (List KeySeg)) → IsBound (segments_of d k) text bound → HasAllSegments d k bound
all_segments d k text None h = tt
all_segments d k text (Some key) h = each_part 32 (segments_of d k) text key h

reads : (merge : Bool) (d : Defs) (text : List ℕ) (a : Act) → Says merge d text a → ReadsRange d a
reads merge d text (act.Insert row) h = tt
reads merge d text (act.Update at row) h = tt
reads merge d text (act.Delete at) h = tt
reads merge d text act.Scan h = tt
reads merge d text (act.Over r) h = record {
  key = (let k = h.4.least_is in omega arith, h.4.most_is);
  from = all_segments d r.key h.1 r.from h.5;
  to = all_segments d r.key h.2 r.to h.6;
}
reads merge d text (act.Lock k) h = tt
reads merge d text act.Unlock h = tt
reads merge d text act.Stats h = tt
reads merge d text act.End h = tt

-- one session more has ended
both : (a b : Bool) → (a || b) ≡ false → (a ≡ false) × (b ≡ false)
both false b e = (refl, e)
both true b e = cc

ended_more : (s m : ℕ) (ended : List ℕ) → has_ended m (ended ++ s ∷ []) ≡ false → (has_ended m ended ≡ false) × (m ≡ s → ⊥)
ended_more s m ended e =
    let parts = both (has_ended m ended) (has_ended m (s ∷ [])) (sym (list_any-append (λ k. k == m) ended (s ∷ [])) ∙ e) in
    (parts.0, λ same. not_same same (s == m) refl (both (s == m) false parts.1).0)
  where
    not_same : m ≡ s → (b : Bool) → (s == m) ≡ b → (s == m) ≡ false → ⊥
    not_same same b is f = elim (eqb_tells s m) [ inl p ↦ (let k = p.0 in cc) | inr p ↦ p.1 (sym same) ]

later_ended : (s : ℕ) (ended : List ℕ) (ls : List Line) → NoneHasEnded (ended ++ s ∷ []) ls → NoneHasEnded ended ls × AllByRecursion (λ (m : Line). m.session ≡ s → ⊥) ls
later_ended s ended [] h = (tt, tt)
later_ended s ended (l ∷ ls) h =
    let here = ended_more s l.session ended h.0 in
    let later = later_ended s ended ls h.1 in
    ((here.0, later.0), (here.1, later.1))

by_end : (s : ℕ) (a : Act) (ended : List ℕ) (ls : List Line) → NoneHasEnded (ended_by s a ended) ls → NoneHasEnded ended ls × (is_end a ≡ true → AllByRecursion (λ (m : Line). m.session ≡ s → ⊥) ls)
by_end s a ended ls h = go (is_end a) refl h
  where
    go : (b : Bool) → is_end a ≡ b → NoneHasEnded (cond b (ended ++ s ∷ []) ended) ls → NoneHasEnded ended ls × (is_end a ≡ true → AllByRecursion (λ (m : Line). m.session ≡ s → ⊥) ls)
    go true is k = ((later_ended s ended ls k).0, λ e. (later_ended s ended ls k).1)
    go false is k = (k, λ e. absurd (let g = is in let f = e in cc))

runs_with : (merge : Bool) (d : Defs) (ended : List ℕ) (n s : ℕ) (a : Act) (l : List ℕ) (others : List Line) → IsLine merge d l s a → has_ended s ended ≡ false
    → Runs d (ended_by s a ended) (n + 1) others → Runs d ended n (record { session = s; line = n; act = a } ∷ others)
runs_with merge d ended n s a l others line open_still h =
    let later = by_end s a ended others h.3 in
    ((omega arith, h.0), (later.1, h.1), (brings merge d line.0 a line.4, h.2), (open_still, later.0), ((line.1, line.2), h.4), (reads merge d line.0 a line.4, h.5))

runs_from : (merge : Bool) (d : Defs) (ended : List ℕ) (n : ℕ) (ls : List (List ℕ)) (said : List Line) → AreLines merge d ended n ls said → Runs d ended n said
runs_from merge d ended n [] said h = let P : List Line → Type 0 = λ q. Runs d ended n q in subst P (sym h) (tt, tt, tt, tt, tt, tt)
runs_from merge d ended n (l ∷ ls) said h = go (does_nothing l) h.1 (λ k. runs_from merge d ended (n + 1) ls said k) (λ e others k. runs_from merge d e (n + 1) ls others k)
  where
    go : (b : Bool) → MatchBool b (IsUtf8 l × AreLines merge d ended (n + 1) ls said) (Spoken merge d ended n l ls said)
        → (AreLines merge d ended (n + 1) ls said → Runs d ended (n + 1) said)
        → ((e : List ℕ) (others : List Line) → AreLines merge d e (n + 1) ls others → Runs d e (n + 1) others) → Runs d ended n said
    go true k silent ih = let r = silent k.1 in (grow_low n (n + 1) said (omega arith) r.0, r.1, r.2, r.3, r.4, r.5)
    go false k silent ih =
        let P : List Line → Type 0 = λ q. Runs d ended n q in
        subst P (sym k.5) (runs_with merge d ended n k.0 k.1 l k.2 k.3 k.4 (ih (ended_by k.0 k.1 ended) k.2 k.6))

pub lines_run : (merge : Bool) (d : Defs) (text : List ℕ) (ls : List Line) → IsScript merge d text ls → MayRun d ls
lines_run merge d text ls h = let r = runs_from merge d [] 1 (lines text) ls h in record { grow = r.0; ends = r.1; sessions = r.4; rows = r.2; ranges = r.5 }
