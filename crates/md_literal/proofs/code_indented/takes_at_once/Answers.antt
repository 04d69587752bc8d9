use Rattle.std.proofs.Common.{◌≡◌, ℕ, Bool, nat_eq, ap, ap₂, ◌∙◌}
use Rattle.std.proofs.lemmas.Bool.{eqb-true, not-true}
use Rattle.md_engine.specs.declared.state.Name.TheVariants as n
use Rattle.md_engine.specs.declared.state.code_indented.State.TheVariants as its
use Rattle.md_engine.specs.declared.stay.Stay.TheVariants.{Byte, Line}
use Rattle.md_literal.specs.Code.{code_transition, further_inside_code, inside_blank_code, inside_code}
use Rattle.md_meaning.specs.Rest.{is_white}
use Rattle.md_events.specs.Spaces.{ends_line, sees_white}
use Rattle.md_events.specs.Stays.{TakesEach}
use Rattle.md_literal.proofs.code_indented.takes_at_once.Goals as goal

-- the spaces at the front of a chunk are taken,
blank-takes : TakesEach (Byte 32) (n.CodeIndented its.InsideBlank) (code_transition its.InsideBlank)
blank-takes w b e h =
    let space : b ≡ 32 = eqb-true b 32 h in
    ap₂ (λ (x y : Bool). inside_blank_code w x y)
    (ap ends_line e ∙ ap (λ (c : ℕ). nat_eq c 10) space)
    (ap sees_white e ∙ ap (λ (c : ℕ). is_white c) space)

-- those of a blank line,
further-takes : TakesEach (Byte 32) (n.CodeIndented its.FurtherInside) (code_transition its.FurtherInside)
further-takes w b e h =
    let space : b ≡ 32 = eqb-true b 32 h in
    ap₂ (λ (x y : Bool). further_inside_code w x y)
    (ap ends_line e ∙ ap (λ (c : ℕ). nat_eq c 10) space)
    (ap sees_white e ∙ ap (λ (c : ℕ). is_white c) space)

-- and all of it after its first text
text-takes : TakesEach Line (n.CodeIndented its.Inside) (code_transition its.Inside)
text-takes w b e h = ap (inside_code w) (ap ends_line e ∙ not-true (nat_eq b 10) h)

pub returns-in-InsideBlank : goal.returns-in-InsideBlank
returns-in-InsideBlank c = rw c.in-InsideBlank.is blank-takes

pub returns-in-Inside : goal.returns-in-Inside
returns-in-Inside c = rw c.in-Inside.is text-takes

pub returns-in-FurtherInside : goal.returns-in-FurtherInside
returns-in-FurtherInside c = rw c.in-FurtherInside.is further-takes
