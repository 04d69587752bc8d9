-- A text without an `@` has no e-mail address.
use Rattle.std.proofs.Common.{◌≡◌, ℕ, zero, suc, ◌+◌, ◌≤◌, Bool, true, false, cond, ◌&&◌, List, [], ◌∷◌, ◌++◌}
use Rattle.std.proofs.Common.{length, take, drop, Option, Some, None, refl, ap, sym, ◌∙◌, subst, arith}
use Rattle.std.specs.Prelude.{◌==◌, ◌||◌, nat_le, codes, not, option_map}
use Rattle.std.specs.List.{prefix_len, take_while}
use Rattle.std.proofs.lemmas.Bool.{or_parts}
use Rattle.std.proofs.lemmas.List.{length-drop, length-take}
use Rattle.md_engine.specs.declared.event.Name.{Name}
use Rattle.md_engine.specs.declared.event.Name.TheVariants as n
use Rattle.md_meaning.specs.Ascii.{dot}
use Rattle.md_meaning.specs.Html.{starts_in_any_case}
use Rattle.md_meaning.specs.Lines.{begins_with}
use Rattle.md_inline_events.specs.Forest.{Forest, nothing, over, part, piece, size}
use Rattle.md_inline_events.specs.Tokens.{tokens}
use Rattle.md_inline_events.specs.declared.token.Token.{Token}
use Rattle.md_inline_events.specs.declared.token.Token.TheVariants as t
use Rattle.md_inlines.specs.Atoms.{beside, byte, is_data, joined, literal_name, merged}
use Rattle.md_inlines.specs.Autolink.{at_sign}
use Rattle.md_inlines.specs.Emails.{emails_at_most, emails_in, holds_text, with_emails}
use Rattle.md_inlines.specs.Literal.{email_at, email_len, is_host, is_host_byte, is_local_byte, may_follow}
use Rattle.md_inlines.specs.Literal.{without_last, xmpp_len}
use Rattle.md_inlines.specs.declared.Literal.{Literal}
use Rattle.md_inlines.specs.declared.LiteralKind.TheVariants as literal
use Rattle.proof_inlines.proofs.ContentForests.{size-part, size-piece}
use Rattle.markdown_inlines.specs.Added.{IsAdded}
use Rattle.markdown_inlines.specs.Addressed.{has_at_sign, joined_after}
use Rattle.markdown_inlines.specs.declared.emails.Joined.{Joined}
use Rattle.markdown_inlines.proofs.JoinedLemmas.{data-name, joined-joined}

none-drop : (k : ℕ) (text : List ℕ) → has_at_sign text ≡ false → has_at_sign (drop k text) ≡ false
none-drop zero text h = h
none-drop (suc k) [] h = h
none-drop (suc k) (b ∷ text) h = none-drop k text (or_parts (b == at_sign) (has_at_sign text) h).1

none-take : (k : ℕ) (text : List ℕ) → has_at_sign text ≡ false → has_at_sign (take k text) ≡ false
none-take zero text h = refl
none-take (suc k) [] h = refl
none-take (suc k) (b ∷ text) h =
    let parts : ((b == at_sign) ≡ false) × (has_at_sign text ≡ false) =
    or_parts (b == at_sign) (has_at_sign text) h in
    ap (λ (t : Bool). t || has_at_sign (take k text)) parts.0 ∙ none-take k text parts.1

none-first : (text : List ℕ) → has_at_sign text ≡ false → begins_with at_sign text ≡ false
none-first [] h = refl
none-first (b ∷ text) h = (or_parts (b == at_sign) (has_at_sign text) h).0

no-length : (text : List ℕ) → has_at_sign text ≡ false → email_len text ≡ None
unfolding email_len
no-length text h =
    go (nat_le 1 local) (begins_with at_sign (drop local text)) (is_host host)
    (none-first (drop local text) (none-drop local text h))
  where
    local : ℕ
    local = prefix_len is_local_byte text

    host : List ℕ
    host = without_last dot (take_while (λ b. is_host_byte b || (b == dot)) (drop (local + 1) text))

    go : (a b c : Bool) → b ≡ false → cond (a && b && c) (Some (local + 1 + length host)) None ≡ None
    go true true c e = cc
    go true false c e = refl
    go false b c e = refl

-- the address that comes first, where these are found
abbrev address_by : Bool → Bool → Bool → List ℕ → Option ℕ → Option ℕ → Option ℕ → Option Literal
address_by may mailto xmpp text o p q =
    cond (not may) None
    (cond mailto (option_map (λ (len : ℕ). record { kind = literal.Mailto; len = len + 7 }) o)
    (cond xmpp (option_map (λ (len : ℕ). record { kind = literal.Xmpp; len = xmpp_len (drop 5 text) len + 5 }) p)
    (option_map (λ (len : ℕ). record { kind = literal.Email; len = len }) q)))

no-address : (before text : List ℕ) → has_at_sign text ≡ false → email_at before text ≡ None
unfolding email_at
no-address before text h =
    go (may_follow before) (starts_in_any_case text (codes "mailto:")) (starts_in_any_case text (codes "xmpp:"))
    (email_len (drop 7 text)) (email_len (drop 5 text)) (email_len text) (no-length (drop 7 text) (none-drop 7 text h))
    (no-length (drop 5 text) (none-drop 5 text h)) (no-length text h)
  where
    go : (may mailto xmpp : Bool) (o p q : Option ℕ) → o ≡ None → p ≡ None → q ≡ None →
        address_by may mailto xmpp text o p q ≡ None
    go false mailto xmpp o p q d e f = refl
    go true true xmpp None p q d e f = refl
    go true true xmpp (Some len) p q d e f = cc
    go true false true o None q d e f = refl
    go true false true o (Some len) q d e f = cc
    go true false false o p None d e f = refl
    go true false false o p (Some len) d e f = cc

-- so all of it is text
all-data : (more : ℕ) (before text : List ℕ) (rest : Forest) → has_at_sign text ≡ false → length text ≤ more →
    merged (beside (emails_at_most more before text) rest) ≡ merged (over n.Data (length text) rest)
all-data zero before [] rest h room = refl
all-data zero before (b ∷ text) rest h room = absurd (omega (arith, room))
all-data (suc more) before [] rest h room = refl
all-data (suc more) before (b ∷ text) rest h room =
    ap
    (λ (o : Option Literal).
    merged
    (beside
    (elim o as (λ (_ : Option Literal). Forest) [
      | Some found ↦ over (literal_name found.kind) found.len
          (emails_at_most more (before ++ take found.len (b ∷ text)) (drop found.len (b ∷ text)))
      | None ↦ byte n.Data (emails_at_most more (before ++ b ∷ []) text)
    ])
    rest)) (no-address before (b ∷ text) h)
    ∙ ap (joined n.Data 0)
    (all-data more (before ++ b ∷ []) text rest (or_parts (b == at_sign) (has_at_sign text) h).1 (omega (arith, room)))
    ∙ go (length text)
  where
    go : (len : ℕ) → joined n.Data 0 (merged (over n.Data len rest)) ≡ merged (over n.Data (suc len) rest)
    go zero = refl
    go (suc len) =
        let sum : 0 + suc len ≡ suc len = omega arith in
        joined-joined n.Data n.Data 0 len (merged rest) refl refl
        ∙ ap (λ (k : ℕ). joined n.Data k (merged rest)) sum

-- A forest over a text without an `@` stays.
pub no-addresses : (forest : Forest) (before text : List ℕ) → has_at_sign text ≡ false → size forest ≤ length text →
    merged (with_emails before text forest) ≡ merged forest
no-addresses nothing before text h room = refl
no-addresses (piece name more following) before text h room =
    go (is_data name) refl
    (no-addresses following (before ++ take (suc more) text) (drop (suc more) text) (none-drop (suc more) text h)
    (omega (arith, is, room, length-drop (suc more) text)))
  where
    is : size (piece name more following) ≡ suc more + size following
    is = size-piece name more following

    rest : Forest
    rest = with_emails (before ++ take (suc more) text) (drop (suc more) text) following

    long : length (take (suc more) text) ≡ suc more
    long = omega (arith, is, room, length-take (suc more) text)

    go : (d : Bool) → is_data name ≡ d → merged rest ≡ merged following →
        merged (beside (cond d (emails_in before (take (suc more) text)) (piece name more nothing)) rest) ≡
        joined name more (merged following)
    go true e same =
        all-data (length (take (suc more) text)) before (take (suc more) text) rest (none-take (suc more) text h)
        (omega arith)
        ∙ ap (λ (k : ℕ). merged (over n.Data k rest)) long
        ∙ ap (joined n.Data more) same
        ∙ ap (λ (other : Name). joined other more (merged following)) (sym (data-name name e))
    go false e same = ap (joined name more) same
no-addresses (part name inside following) before text h room =
    go (holds_text name) (no-addresses inside before text h (omega (arith, is, room)))
    (no-addresses following (before ++ take (size inside) text) (drop (size inside) text)
    (none-drop (size inside) text h) (omega (arith, is, room, length-drop (size inside) text)))
  where
    is : size (part name inside following) ≡ size inside + size following
    is = size-part name inside following

    rest : Forest
    rest = with_emails (before ++ take (size inside) text) (drop (size inside) text) following

    go : (holds : Bool) → merged (with_emails before text inside) ≡ merged inside → merged rest ≡ merged following →
        part name (merged (cond holds (with_emails before text inside) inside)) (merged rest) ≡
        part name (merged inside) (merged following)
    go true first second =
        ap (λ (f : Forest). part name f (merged rest)) first ∙ ap (part name (merged inside)) second
    go false first second = ap (part name (merged inside)) second

-- such a text is added as one token
pub plain-joined : (more : ℕ) (before text : List ℕ) (len : ℕ) (rest : List Token) → has_at_sign text ≡ false →
    length text ≤ more →
    joined_after len (tokens (emails_at_most more before text) ++ rest) ≡ joined_after (len + length text) rest
plain-joined zero before [] len rest h room =
    let same : len ≡ len + 0 = omega arith in ap (λ (k : ℕ). joined_after k rest) same
plain-joined zero before (b ∷ text) len rest h room = absurd (omega (arith, room))
plain-joined (suc more) before [] len rest h room =
    let same : len ≡ len + 0 = omega arith in ap (λ (k : ℕ). joined_after k rest) same
plain-joined (suc more) before (b ∷ text) len rest h room =
    let sum : len + 1 + length text ≡ len + suc (length text) = omega arith in
    ap
    (λ (o : Option Literal).
    joined_after len
    (tokens
    (elim o as (λ (_ : Option Literal). Forest) [
      | Some found ↦ over (literal_name found.kind) found.len
          (emails_at_most more (before ++ take found.len (b ∷ text)) (drop found.len (b ∷ text)))
      | None ↦ byte n.Data (emails_at_most more (before ++ b ∷ []) text)
    ])
    ++ rest)) (no-address before (b ∷ text) h)
    ∙ plain-joined more (before ++ b ∷ []) text (len + 1) rest
    (or_parts (b == at_sign) (has_at_sign text) h).1 (omega (arith, room))
    ∙ ap (λ (k : ℕ). joined_after k rest) sum

pub plain-added : (before text after : List ℕ) (old new : Joined) → after ≡ text → has_at_sign after ≡ false →
    IsAdded (t.Over n.Data (length after) ∷ []) old new → IsAdded (tokens (emails_in before text)) old new
plain-added before text after old new is h added =
    subst (λ (l : List ℕ). IsAdded (tokens (emails_in before l)) old new) is
    (record {
      same =
          λ rest. added.same rest
          ∙ ap (λ (l : List Token). old.tokens.items ++ l)
          (sym (plain-joined (length after) before after old.text rest h (omega arith)));
    })
