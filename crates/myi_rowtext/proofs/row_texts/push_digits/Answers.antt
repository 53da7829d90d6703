use Rattle.std.proofs.Common.{◌≡◌, ◌∷◌, ◌++◌, ◌∙◌, ◌+◌, ◌/◌, ◌%◌, ℕ, List, [], drop, get_or, ap, subst, arith}
use Rattle.std.proofs.lemmas.List.{drop_more}
use Rattle.std.specs.List.{flat_map}
use Rattle.myi_rowtext.specs.RowText.{digit, byte_text}
use Rattle.myi_rowtext.proofs.Parts.{Front, on_err, part_same, front_more}
use Rattle.myi_rowtext.proofs.row_texts.push_digits.Goals as goal

pub returns-in_err-push-clause-part : goal.returns-in_err-push-clause-part
returns-in_err-push-clause-part c =
    on_err c.from_residual.result _ (part_same _ c.loop-byte.out.items c.push.new.self.items _ (flat_map byte_text (drop c.loop-byte.byte-index c.args.value.now)) c.loop-byte.invariant c.in_err-push.ensures.items)

pub returns-in_err-push-2-clause-part : goal.returns-in_err-push-2-clause-part
returns-in_err-push-2-clause-part c =
    let i = c.loop-byte.byte-index in
    let bytes = c.args.value.now in
    let b : ℕ = get_or bytes i 0 in
    let more : drop i bytes ≡ b ∷ drop (i + 1) bytes = drop_more bytes i 0 (omega (arith, c.loop-byte-test.true)) in
    let left : Front c.args.out.now.items c.loop-byte.out.items (flat_map byte_text bytes) ((digit (b / 16) ∷ []) ++ (digit (b % 16) ∷ flat_map byte_text (drop (i + 1) bytes))) = subst (λ (bs : List ℕ). Front c.args.out.now.items c.loop-byte.out.items (flat_map byte_text bytes) (flat_map byte_text bs)) more c.loop-byte.invariant in
    let high : Front c.args.out.now.items c.push.new.self.items (flat_map byte_text bytes) (digit (b % 16) ∷ flat_map byte_text (drop (i + 1) bytes)) = front_more _ c.loop-byte.out.items c.push.new.self.items _ (digit (b / 16) ∷ []) (digit (b % 16) ∷ flat_map byte_text (drop (i + 1) bytes)) left (c.in_ok-push.ensures.items ∙ ap (λ d. c.loop-byte.out.items ++ d ∷ []) c.digit.ensures) in
    on_err c.from_residual-in_err-push-2.result _ (part_same _ c.push.new.self.items c.push-in-loop-byte.new.self.items _ (digit (b % 16) ∷ flat_map byte_text (drop (i + 1) bytes)) high c.in_err-push-2.ensures.items)
