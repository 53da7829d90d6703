-- A row that goes on behind blocks of its own: what is written.
use Rattle.std.specs.Prelude.{Result, Err, IfOk}
use Rattle.myi_dellist.specs.declared.fault.FreeFault.{FreeFault}
use Rattle.myi_dellist.specs.declared.rows.Placed.{Placed}
use Rattle.std.proofs.Common.{◌≡◌, ℕ, true, List, [], ◌∷◌, ◌++◌, length, Option, Some, Ok, inr, refl, sym, ap, subst, ◌∙◌}
use Rattle.myi_base.specs.Holding.{Holding, bytes_of, Told, IfTold}
use Rattle.myi_base.proofs.CallerLemmas.{told_more, told_then}
use Rattle.myi_frames.specs.declared.head.Head.{Head}
use Rattle.myi_dellist.specs.declared.pieces.Piece.{Piece}
use Rattle.myi_dellist.specs.declared.planning.RowPlan.{RowPlan}
use Rattle.myi_dellist.specs.declared.taking.Taken.{Taken}
use Rattle.myi_dellist.specs.declared.taking.ListEnds.{ListEnds}
use Rattle.myi_dellist.specs.Areas.{Area}
use Rattle.myi_dellist.specs.Placing.{fits}
use Rattle.myi_dellist.specs.Freeing.{Becomes}
use Rattle.myi_dellist.specs.Taking.{IsRun, HasTaken, TakesFull}
use Rattle.myi_dellist.specs.Planning.{last_piece, row_plan_in, planned_bytes, head_by}
use Rattle.myi_dellist.specs.Putting.{Puts, PutsBy}

-- three writes into one file
then_becomes : (name : List ℕ) (f g : List ℕ → List ℕ) (m n k : Holding) → Becomes name (f (bytes_of name m)) m n → Becomes name (g (bytes_of name n)) n k → Becomes name (g (f (bytes_of name m))) m k
then_becomes name f g m n k a b = record { here = b.here ∙ ap g a.here; others = λ q other. b.others q other ∙ a.others q other }

pub three-writes : (name : List ℕ) (old mid one two three : Option Holding) (f g h : List ℕ → List ℕ) → mid ≡ old → Told mid one (λ m n. Becomes name (f (bytes_of name m)) m n) → Told one two (λ m n. Becomes name (g (bytes_of name m)) m n) → Told two three (λ m n. Becomes name (h (bytes_of name m)) m n) → Told old three (λ m n. Becomes name (h (g (f (bytes_of name m)))) m n)
three-writes name old mid one two three f g h e a b c =
    let B : (List ℕ → List ℕ) → Holding → Holding → Type 0 = λ k m n. Becomes name (k (bytes_of name m)) m n in
    let first : Told old one (B f) = subst (λ (o : Option Holding). Told o one (B f)) e a in
    told_then old two three (B (λ d. g (f d))) (B h) (B (λ d. h (g (f d)))) (told_then old one two (B f) (B g) (B (λ d. g (f d))) first b (λ m n k x y. then_becomes name f g m n k x y)) c (λ m n k x y. then_becomes name (λ d. g (f d)) h m n k x y)

-- what is known of a row that ends in a block of the list
pub record IsInList (end : ℕ) (head : Option ℕ) (len : ℕ) (ps qs : List Piece) (t : Taken) (hole : Head) (plan : RowPlan) (new : ListEnds) : Type 0 where
  pub run : IsRun end len ps t
  pub next_is : t.next ≡ Some hole
  pub fits_in : fits t.left hole.size ≡ true
  pub pieces : qs ≡ ps ++ last_piece t.left hole ∷ []
  pub head_is : new.head ≡ head_by plan.next plan.rest
  pub end_is : new.end ≡ end

pub ends-told : (name row : List ℕ) (list new : ListEnds) (old now : Option Holding) (had ps qs : List Piece) (more : ℕ) (t : Taken) (hole : Head) (plan : RowPlan) → IsInList list.end list.head (length row) ps qs t hole plan new
    → IfTold old (λ m. length (bytes_of name m) ≡ list.end → (own : List Area) → HasTaken own (length row) had more → TakesFull own (bytes_of name m) list.head (length row) ps t)
    → IfTold old (λ m. length (bytes_of name m) ≡ list.end → row_plan_in (bytes_of name m) list.head ps t.left hole ≡ Ok plan)
    → Told old now (λ m n. Becomes name (planned_bytes plan qs row (bytes_of name m)) m n)
    → Told old now (λ m n. (own : List Area) → HasTaken own (length row) had more → PutsBy own name list row new m n)
ends-told name row list new old now had ps qs more t hole plan i takes found w =
    told_more old now (λ m n. Becomes name (planned_bytes plan qs row (bytes_of name m)) m n) (λ m n. (own : List Area) → HasTaken own (length row) had more → PutsBy own name list row new m n) w
    (λ m n held b own h. (
      b.others,
      λ long. record {
        ps = ps;
        t = t;
        run = i.run;
        takes = takes m held long own h;
        ends = inr (record {
          hole = hole;
          next_is = i.next_is;
          fits_in = i.fits_in;
          plan = plan;
          found = found m held long;
          bytes = b.here ∙ ap (λ (xs : List Piece). planned_bytes plan xs row (bytes_of name m)) i.pieces;
          head_is = i.head_is;
          end_is = i.end_is;
        });
      },
    ))

-- a row that has no blocks yet
pub put-alone : (r : Result Placed FreeFault) (old now : Option Holding) (name row : List ℕ) (list : ListEnds) (ps : List Piece) → ps ≡ [] → IfOk r (λ new. Told old now (λ m n. (own : List Area) → HasTaken own (length row) ps (length row) → PutsBy own name list row new.list m n)) → IfOk r (λ new. Told old now (Puts name list row new.list))
put-alone (Ok new) old now name row list ps none t =
    told_more old now (λ m n. (own : List Area) → HasTaken own (length row) ps (length row) → PutsBy own name list row new.list m n) (Puts name list row new.list) t (λ m n held p. p [] (sym none, refl))
put-alone (Err f) old now name row list ps none t = tt
