use Rattle.std.proofs.Common.{◌≡◌, ◌∙◌, ◌+◌, ◌++◌, ◌∷◌, [], List, ℕ, Bor, Some, None, ap, sym, arith, append_assoc, map, drop, get_or}
use Rattle.myi_deftext.specs.Text.{outside, said, step, line_of, words}
use Rattle.myi_deftext.proofs.TextLemmas.{left, said-cons, stops, goes}
use Rattle.myi_deftext.proofs.text.followed.Goals as goal

pub loop-i-preserved : goal.loop-i-preserved
loop-i-preserved c =
    let all : List (List ℕ) = map (λ (l : Bor (List ℕ)). l.now) c.args.lines.now in
    let d : Bor (List ℕ) = record { ref_ptr = (0, 0); now = [] } in
    let l : List ℕ = (get_or c.args.lines.now c.loop-i.i d).now in
    let here = left (λ (l : Bor (List ℕ)). l.now) c.args.lines.now c.loop-i.i d (omega arith) in
    let given = c.in_ok-line.ensures.says in
    let given_next = c.in_ok-line.ensures.goes in
    let says : line_of (words l) ≡ Some c.in-Some.line = rw c.in-Some.is at given in
    let next : step c.loop-i.stage l ≡ Some c.in-Some.next = rw c.in-Some.is at given_next in
    let items : c.push.new.self.items ≡ c.loop-i.said.items ++ c.in-Some.line ∷ [] = c.in_ok-push-in-Some.ensures.items in
    record {
      follows = c.loop-i.invariant.follows ∙ ap (outside (Some c.loop-i.stage) c.loop-i.i) here ∙ goes c.loop-i.stage c.in-Some.next c.loop-i.i l (drop (c.loop-i.i + 1) all) next;
      says =
          rw items (append_assoc c.loop-i.said.items (c.in-Some.line ∷ []) (said (drop (c.loop-i.i + 1) all))
          ∙ (ap (λ xs. c.loop-i.said.items ++ xs) (sym (ap said here ∙ said-cons l (drop (c.loop-i.i + 1) all) c.in-Some.line says)) ∙ c.loop-i.invariant.says));
    }

pub returns-in-None-clause-outside : goal.returns-in-None-clause-outside
returns-in-None-clause-outside c = λ n same.
    let all : List (List ℕ) = map (λ (l : Bor (List ℕ)). l.now) c.args.lines.now in
    let d : Bor (List ℕ) = record { ref_ptr = (0, 0); now = [] } in
    let l : List ℕ = (get_or c.args.lines.now c.loop-i.i d).now in
    let here = left (λ (l : Bor (List ℕ)). l.now) c.args.lines.now c.loop-i.i d (omega arith) in
    let number : n ≡ c.loop-i.i + 1 = c.outside.ensures n (cc) in
    let given = c.in_ok-line.ensures.none in
    let none : step c.loop-i.stage l ≡ None = rw c.in-None.is at given in
    c.loop-i.invariant.follows ∙ ap (outside (Some c.loop-i.stage) c.loop-i.i) here ∙ stops c.loop-i.stage c.loop-i.i l (drop (c.loop-i.i + 1) all) none ∙ ap Some (sym number)
