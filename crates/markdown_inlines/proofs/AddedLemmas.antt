-- Tokens that are added one after the other: those of a text with the addresses in it, and those of a forest.
use Rattle.std.proofs.Common.{◌≡◌, ℕ, ◌+◌, ◌-◌, ◌<◌, true, List, [], ◌∷◌, ◌++◌, length, take, drop}
use Rattle.std.proofs.Common.{refl, ap, sym, ◌∙◌, subst, arith}
use Rattle.md_inline_events.specs.Forest.{Forest, has_names, size}
use Rattle.md_inline_events.specs.Tokens.{tokens}
use Rattle.md_inline_events.specs.declared.token.Token.{Token}
use Rattle.md_inlines.specs.Atoms.{merged}
use Rattle.md_inlines.specs.Emails.{with_emails}
use Rattle.markdown_inlines.specs.Added.{IsAdded, all_tokens}
use Rattle.markdown_inlines.specs.Addressed.{at_after, first_token, joined_after, searched, texts}
use Rattle.markdown_inlines.specs.Readable.{is_readable}
use Rattle.markdown_inlines.specs.declared.emails.Joined.{Joined}
use Rattle.markdown_inlines.proofs.AddressedLemmas.{addressed-tokens}
use Rattle.markdown_inlines.proofs.QuietLemmas.{emails-first, emails_from, first-further}

-- the first token of a text, as a program finds it
first-is : (text : List ℕ) (at : ℕ) (before after : List ℕ) (token : Token) → before ≡ take at text →
    after ≡ drop at text → token ≡ first_token before after → token ≡ first_token (take at text) (drop at text)
first-is text at before after token before_is after_is token_is =
    token_is ∙ ap (λ (l : List ℕ). first_token l after) before_is ∙ ap (first_token (take at text)) after_is

pub address-further : (text : List ℕ) (at b : ℕ) (following before after : List ℕ) (token : Token) (next : ℕ) →
    drop at text ≡ b ∷ following → before ≡ take at text → after ≡ drop at text → token ≡ first_token before after →
    next ≡ at_after at token → length text - next < length text - at
address-further text at b following before after token next is before_is after_is token_is next_is =
    let place : at_after at (first_token (take at text) (drop at text)) ≡ next =
    ap (at_after at) (sym (first-is text at before after token before_is after_is token_is)) ∙ sym next_is in
    let P : ℕ → Type 0 = λ (k : ℕ). length text - k < length text - at in
    subst P place (first-further text at b following is)

pub address-goes : (text : List ℕ) (at b : ℕ) (following before after : List ℕ) (token : Token) (next : ℕ)
    (first old new : Joined) (start : ℕ) → drop at text ≡ b ∷ following → before ≡ take at text →
    after ≡ drop at text → token ≡ first_token before after → next ≡ at_after at token →
    IsAdded (token ∷ []) old new →
    ((rest : List Token) → all_tokens old (emails_from text at ++ rest) ≡
    all_tokens first (emails_from text start ++ rest)) →
    (rest : List Token) → all_tokens new (emails_from text next ++ rest) ≡
    all_tokens first (emails_from text start ++ rest)
address-goes text at b following before after token next first old new start is before_is after_is token_is next_is
    added done rest =
    added.same (emails_from text next ++ rest)
    ∙ ap (λ (k : ℕ). all_tokens old (token ∷ (emails_from text k ++ rest))) next_is
    ∙ ap (λ (one : Token). all_tokens old (one ∷ (emails_from text (at_after at one) ++ rest)))
    (first-is text at before after token before_is after_is token_is)
    ∙ ap (λ (l : List Token). old.tokens.items ++ l) (sym (emails-first text at b following old.text rest is))
    ∙ done rest

no-items : (list : List Token) → length list ≡ 0 → list ≡ []
no-items [] h = refl
no-items (token ∷ list) h = absurd (omega (arith, h))

-- what is made of all tokens of a forest
pub addressed-end : (text : List ℕ) (start hidden at : ℕ) (given rest : List Token) (joined : Joined)
    (made : List Token) (forest : Forest) → length rest ≡ 0 → made ≡ joined.tokens.items ++ texts joined.text →
    all_tokens joined (searched text hidden at rest) ≡ joined_after 0 (searched text 0 start given) →
    has_names forest ≡ true → is_readable forest ≡ true → start + size forest ≡ length text →
    given ≡ tokens forest → made ≡ tokens (merged (with_emails (take start text) (drop start text) forest))
addressed-end text start hidden at given rest joined made forest ends made_is done names readable sized is =
    made_is
    ∙ ap (λ (l : List Token). all_tokens joined (searched text hidden at l)) (sym (no-items rest ends))
    ∙ done
    ∙ ap (λ (l : List Token). joined_after 0 (searched text 0 start l)) is
    ∙ addressed-tokens text start forest names readable sized
