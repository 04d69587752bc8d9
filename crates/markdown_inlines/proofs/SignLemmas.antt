-- Tokens of which none that is searched has an `@` stay as they are.
use Rattle.std.proofs.Common.{◌≡◌, ℕ, zero, suc, ◌+◌, Bool, true, false, cond, ◌&&◌, List, [], ◌∷◌, ◌++◌}
use Rattle.std.proofs.Common.{length, take, drop, Option, Some, None, refl, ap, sym, ◌∙◌, arith}
use Rattle.std.specs.Prelude.{◌==◌, ◌||◌, not, nat_eq}
use Rattle.std.proofs.lemmas.Bool.{or_parts}
use Rattle.std.proofs.lemmas.Bool.Decides.{nat_tests}
use Rattle.md_engine.specs.declared.event.Name.{Name}
use Rattle.md_engine.specs.declared.event.Name.TheVariants as n
use Rattle.md_inline_events.specs.Forest.{Forest, has_names, size}
use Rattle.md_inline_events.specs.Tokens.{tokens}
use Rattle.md_inline_events.specs.declared.token.Token.{Token}
use Rattle.md_inline_events.specs.declared.token.Token.TheVariants as t
use Rattle.md_inlines.specs.Atoms.{is_data, merged}
use Rattle.md_inlines.specs.Emails.{emails_in, with_emails}
use Rattle.markdown_inlines.specs.Addressed.{are_with_sign, at_after, data_len, has_at_sign, has_sign_at, hidden_after}
use Rattle.markdown_inlines.specs.Addressed.{is_with_sign, joined_after, searched, texts}
use Rattle.markdown_inlines.specs.Readable.{is_readable}
use Rattle.markdown_inlines.proofs.AddressedLemmas.{addressed-tokens}
use Rattle.markdown_inlines.proofs.AtSignLemmas.{plain-joined}
use Rattle.markdown_inlines.proofs.JoinedLemmas.{data-name, joined-tokens}

-- what is searched of a token without an `@` is added as one token
plain-piece : (text : List ℕ) (at more len : ℕ) (rest : List Token) → has_sign_at text at (Some more) ≡ false →
    joined_after len
    (tokens (emails_in (take at (take (at + more) text)) (drop at (take (at + more) text))) ++ rest) ≡
    joined_after (len + more) rest
plain-piece text at more len rest h =
    plain-joined (length piece) (take at (take (at + more) text)) piece len rest parts.1 (omega arith)
    ∙ ap (λ (k : ℕ). joined_after (len + k) rest) long
  where
    piece : List ℕ
    piece = drop at (take (at + more) text)

    parts : (not (length piece == more) ≡ false) × (has_at_sign piece ≡ false)
    parts = or_parts (not (length piece == more)) (has_at_sign piece) h

    long : length piece ≡ more
    long = go (length piece == more) refl parts.0
      where
        go : (b : Bool) → (length piece == more) ≡ b → not b ≡ false → length piece ≡ more
        go true e f = grind (arith, nat_tests)
        go false e f = cc

unsearched : (list : List Token) (text : List ℕ) (hidden at len : ℕ) → are_with_sign text hidden at list ≡ false →
    joined_after len (searched text hidden at list) ≡ joined_after len list
unsearched [] text hidden at len h = refl
unsearched (t.Enters name ∷ list) text hidden at len h =
    ap (λ (l : List Token). texts len ++ t.Enters name ∷ l)
    (unsearched list text (hidden_after hidden (t.Enters name)) at 0
    (or_parts (is_with_sign text hidden at (t.Enters name))
    (are_with_sign text (hidden_after hidden (t.Enters name)) at list) h).1)
unsearched (t.Leaves name ∷ list) text hidden at len h =
    ap (λ (l : List Token). texts len ++ t.Leaves name ∷ l)
    (unsearched list text (hidden_after hidden (t.Leaves name)) at 0
    (or_parts (is_with_sign text hidden at (t.Leaves name))
    (are_with_sign text (hidden_after hidden (t.Leaves name)) at list) h).1)
unsearched (t.Over name more ∷ list) text (suc hidden) at len h =
    go (is_data name)
    (λ count. unsearched list text (suc hidden) (at + more) count
    (or_parts (is_with_sign text (suc hidden) at (t.Over name more)) (are_with_sign text (suc hidden) (at + more) list)
    h).1)
  where
    go : (b : Bool) →
        ((count : ℕ) →
        joined_after count (searched text (suc hidden) (at + more) list) ≡ joined_after count list) →
        cond b (joined_after (len + more) (searched text (suc hidden) (at + more) list))
        (texts len ++ t.Over name more ∷ joined_after 0 (searched text (suc hidden) (at + more) list)) ≡
        cond b (joined_after (len + more) list) (texts len ++ t.Over name more ∷ joined_after 0 list)
    go true same = same (len + more)
    go false same = ap (λ (l : List Token). texts len ++ t.Over name more ∷ l) (same 0)
unsearched (t.Over name more ∷ list) text zero at len h =
    go (is_data name) refl
    (λ count. unsearched list text zero (at + more) count parts.1)
  where
    parts : (is_with_sign text zero at (t.Over name more) ≡ false) × (are_with_sign text zero (at + more) list ≡ false)
    parts = or_parts (is_with_sign text zero at (t.Over name more)) (are_with_sign text zero (at + more) list) h

    rest : List Token
    rest = searched text zero (at + more) list

    go : (b : Bool) → is_data name ≡ b →
        ((count : ℕ) → joined_after count rest ≡ joined_after count list) →
        joined_after len
        (cond b (tokens (emails_in (take at (take (at + more) text)) (drop at (take (at + more) text))))
        (t.Over name more ∷ [])
        ++ rest) ≡
        cond b (joined_after (len + more) list) (texts len ++ t.Over name more ∷ joined_after 0 list)
    go true e same =
        plain-piece text at more len rest
        (ap (λ (other : Name). has_sign_at text at (data_len (t.Over other more))) (sym (data-name name e)) ∙ parts.0)
        ∙ same (len + more)
    go false e same =
        ap (λ (b : Bool). cond b (joined_after (len + more) rest) (texts len ++ t.Over name more ∷ joined_after 0 rest))
        e
        ∙ ap (λ (l : List Token). texts len ++ t.Over name more ∷ l) (same 0)

-- what is made of them is what is made of the forest
pub unsearched-end : (text : List ℕ) (start : ℕ) (given : List Token) (forest : Forest) →
    are_with_sign text 0 start given ≡ false → has_names forest ≡ true → is_readable forest ≡ true →
    merged forest ≡ forest → start + size forest ≡ length text → given ≡ tokens forest →
    given ≡ tokens (merged (with_emails (take start text) (drop start text) forest))
unsearched-end text start given forest none names readable again sized is =
    is
    ∙ sym (joined-tokens forest 0 names readable ∙ ap tokens again)
    ∙ sym (unsearched (tokens forest) text 0 start 0 (ap (are_with_sign text 0 start) (sym is) ∙ none))
    ∙ addressed-tokens text start forest names readable sized
