use Rattle.std.proofs.Common.{◌≡◌, true, ap, ◌∙◌}
use Rattle.std.specs.Prelude.{chars, slice_get}
use Rattle.std.specs.Str.{is_utf8}
use Rattle.std.specs.Str.Iter.{chars_rest}
use Rattle.std.proofs.lemmas.Str.{is_utf8-from_IsUtf8}
use Rattle.md_inlines.proofs.CharacterLemmas.{character-none}
use Rattle.md_inlines.proofs.flanking.character.Goals as goal

pub returns-in-Ok : goal.returns-in-Ok
returns-in-Ok c =
    let utf8 : is_utf8 c.args.bytes.now ≡ true = is_utf8-from_IsUtf8 c.args.bytes.now c.in-Ok.ensures.cases.1 in
    let rest : chars_rest c.chars.result ≡ c.args.bytes.now = c.chars.ensures.rest ∙ c.in-Ok.ensures.cases.0 in
    rw utf8 (c.next.ensures.steps.2 ∙ ap (λ text. slice_get (chars text) 0) rest)

pub returns-in-Err : goal.returns-in-Err
returns-in-Err c = character-none c.args.bytes.now c.in-Err.ensures.cases.0
