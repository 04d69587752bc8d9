use Rattle.std.proofs.Common.{◌≡◌, ◌+◌, ◌<◌, ◌∷◌, ◌++◌, ◌∙◌, List, ℕ, [], ap, arith, codes, sym}
use Rattle.std.specs.Fmt.{decimal}
use Rattle.std.proofs.lemmas.Fmt.{decimal_digit}
use Rattle.md_program.proofs.Texts.{on_ok-map}
use Rattle.md_program.proofs.print.push_heading.Goals as goal

-- the word of a level of one digit
word-is : (level digit : ℕ) → level ≡ digit → digit < 10 →
    codes "heading " ++ (48 + digit) ∷ [] ≡ codes "heading " ++ decimal level
word-is level digit is low =
    ap (λ (l : List ℕ). codes "heading " ++ l) (sym (ap decimal is ∙ decimal_digit digit low))

-- after what was there
word-put : (now old : List ℕ) (level digit : ℕ) → level ≡ digit → digit < 10 →
    now ≡ old ++ (codes "heading " ++ (48 + digit) ∷ []) → now ≡ old ++ (codes "heading " ++ decimal level)
word-put now old level digit is low put = put ∙ ap (λ (l : List ℕ). old ++ l) (word-is level digit is low)

pub returns-in-1 : goal.returns-in-1
returns-in-1 g c =
    on_ok-map c.put.result (word-put _ _ c.args.level 1 c.in-1.is (omega arith)) c.put.ensures

pub returns-in-2 : goal.returns-in-2
returns-in-2 g c =
    on_ok-map c.put-in-2.result (word-put _ _ c.args.level 2 c.in-2.is (omega arith)) c.put-in-2.ensures

pub returns-in-3 : goal.returns-in-3
returns-in-3 g c =
    on_ok-map c.put-in-3.result (word-put _ _ c.args.level 3 c.in-3.is (omega arith)) c.put-in-3.ensures
