-- Addresses without angle brackets are at the front of their text, and not empty.
use Rattle.std.proofs.Common.{◌≡◌, ℕ, zero, suc, ◌+◌, ◌-◌, ◌<◌, ◌≤◌, Bool, true, false, cond, ◌&&◌, List, [], ◌∷◌}
use Rattle.std.proofs.Common.{◌++◌, length}
use Rattle.std.proofs.Common.{take, drop, refl, sym, subst, arith}
use Rattle.std.specs.Prelude.{◌==◌, ◌||◌, not, nat_le, codes, Option, Some, None, option_map}
use Rattle.std.specs.Char.{is_ascii_alphanumeric, is_ascii_whitespace}
use Rattle.std.specs.List.{prefix_len, slice_split, suffix_len, take_while}
use Rattle.std.proofs.lemmas.List.{length-drop, length-take, length-take-le}
use Rattle.std.proofs.lemmas.List.Sums.{prefix_len-le-length}
use Rattle.md_engine.specs.declared.event.Name.TheVariants as n
use Rattle.md_meaning.specs.Ascii.{dot, slash}
use Rattle.md_meaning.specs.Html.{starts_in_any_case}
use Rattle.md_meaning.specs.Lines.{begins_with}
use Rattle.md_inline_events.specs.Forest.{Forest, has_names, nothing, over, part, piece, size}
use Rattle.md_inline_events.specs.Marks.{is_part_name}
use Rattle.md_inlines.specs.Autolink.{at_sign}
use Rattle.md_inlines.specs.Literal as l
use Rattle.md_inlines.specs.Literal.{are_segments, domain_front, domain_len, is_host, path}
use Rattle.md_inlines.specs.Literal.{email_at, email_len, is_host_byte, is_local_byte, literal_at, may_follow}
use Rattle.md_inlines.specs.Literal.{resource_len, trimmed, without_extra, without_last, xmpp_len}
use Rattle.md_inlines.specs.RawHtml.{repeated}
use Rattle.md_inlines.specs.declared.Literal.{Literal}
use Rattle.md_inlines.specs.declared.LiteralKind.{LiteralKind}
use Rattle.md_inlines.specs.declared.LiteralKind.TheVariants as literal
use Rattle.md_inlines.proofs.LiteralLemmas.{length-without_extra}
use Rattle.md_inlines.specs.Atoms.{address, byte, is_data, literal_name}
use Rattle.md_inlines.specs.Emails.{emails_at_most, emails_in, holds_text, with_emails}
use Rattle.proof_inlines.specs.Sized.{IsFront, Over}
use Rattle.proof_inlines.proofs.AngleLemmas.{repeated-shorter}
use Rattle.proof_inlines.proofs.AtomLemmas.{Fronts, begins-after, begins-some, front, same-front}
use Rattle.proof_inlines.proofs.ContentForests.{beside-over, nothing-over, over-over, own, part-names, part-over}
use Rattle.proof_inlines.proofs.ContentForests.{piece-names, piece-over, same-over, size-part, size-piece}

abbrev path_byte : ℕ → Bool
path_byte b = not (is_ascii_whitespace b) && not (b == 60)

take-short : (k : ℕ) (xs : List ℕ) → length (take k xs) ≤ length xs
take-short k xs = omega (arith, length-take k xs)

-- A literal has some bytes, and no more than its text.
pub record InText (text : List ℕ) (found : Literal) : Type 0 where
  pub some : 0 < found.len
  pub within : found.len ≤ length text

same-in : (text : List ℕ) (f g : Literal) → Some f ≡ Some g → InText text f → InText text g
same-in text f g h is =
    let same : f ≡ g = cc in
    subst (InText text) same is

domain-is : (text : List ℕ) (len : ℕ) → domain_len text ≡ Some len → (0 < len) × (len ≤ length text)
unfolding domain_len
domain-is text len is = go (without_last dot (domain_front text)) short is
  where
    short : length (without_last dot (domain_front text)) ≤ length text
    short =
        omega (
          arith,
          take-short (length (domain_front text) - suffix_len (λ b. b == dot) (domain_front text)) (domain_front text),
          take-short (length text - length (repeated l.after_domain_character (length text) text)) text,
        )

    go : (domain : List ℕ) → length domain ≤ length text →
        cond (are_segments (slice_split (λ b. b == dot) domain)) (Some (length domain)) None ≡ Some len →
        (0 < len) × (len ≤ length text)
    go [] s is = cc
    go (b ∷ domain) s is = segments (are_segments (slice_split (λ c. c == dot) (b ∷ domain))) is
      where
        segments : (t : Bool) → cond t (Some (length (b ∷ domain))) None ≡ Some len → (0 < len) × (len ≤ length text)
        segments true is = let same : suc (length domain) ≡ len = cc in (omega (arith, same), omega (arith, same, s))
        segments false is = cc

trimmed-within : (text : List ℕ) → length (trimmed text) ≤ length text
unfolding trimmed
trimmed-within text = repeated-shorter without_extra length-without_extra (length text) text

address-is : (kind : LiteralKind) (front : ℕ) (text : List ℕ) (found : Literal) → l.address kind front text ≡
    Some found →
    InText text found
address-is kind front text found is = go (domain_len (drop front text)) (domain-is (drop front text)) is
  where
    go : (o : Option ℕ) → ((d : ℕ) → o ≡ Some d → (0 < d) × (d ≤ length (drop front text))) →
        option_map
        (λ (domain : ℕ).
        record { kind = kind; len = front + domain + length (trimmed (path (drop (front + domain) text))) }) o ≡
        Some found → InText text found
    go None h is = cc
    go (Some d) h is =
        let fact = h d refl in
        let rest : List ℕ = drop (front + d) text in
        same-in text (record { kind = kind; len = front + d + length (trimmed (path (drop (front + d) text))) })
        found is
        (record {
          some = omega (arith, fact.0);
          within =
              omega (
                arith,
                fact.0,
                fact.1,
                length-drop front text,
                length-drop (front + d) text,
                trimmed-within (path (drop (front + d) text)),
                take-short (prefix_len path_byte (drop (front + d) text)) (drop (front + d) text),
              );
        })

literal-is : (before text : List ℕ) (found : Literal) → literal_at before text ≡ Some found → InText text found
unfolding literal_at
literal-is before text found is =
    go (not (may_follow before)) (starts_in_any_case text (codes "www.")) (starts_in_any_case text (codes "http://"))
    (starts_in_any_case text (codes "https://")) is
  where
    go : (p q r s : Bool) →
        cond p None
        (cond q (l.address literal.Www 4 text)
        (cond r (l.address literal.Protocol 7 text) (cond s (l.address literal.Protocol 8 text) None))) ≡
        Some found → InText text found
    go true q r s is = cc
    go false true r s is = address-is literal.Www 4 text found is
    go false false true s is = address-is literal.Protocol 7 text found is
    go false false false true is = address-is literal.Protocol 8 text found is
    go false false false false is = cc

name-fits : (kind : LiteralKind) → is_part_name (literal_name kind) ≡ true
name-fits literal.Www = refl
name-fits literal.Protocol = refl
name-fits literal.Email = refl
name-fits literal.Mailto = refl
name-fits literal.Xmpp = refl

pub literal-front : (before text : List ℕ) → Fronts text (option_map address (literal_at before text))
literal-front before text found is = go (literal_at before text) (literal-is before text) is
  where
    go : (o : Option Literal) → ((f : Literal) → o ≡ Some f → InText text f) → option_map address o ≡ Some found →
        IsFront text found
    go None h is = cc
    go (Some f) h is =
        let fact : InText text f = h f refl in
        same-front text (address f) found is
        (front text (address f) (f.len + 0)
        (over-over (literal_name f.kind) f.len nothing 0 (name-fits f.kind) nothing-over) (omega (arith, fact.some))
        (omega (arith, fact.within)))

-- E-mail addresses.

abbrev is_host_or_dot : ℕ → Bool
is_host_or_dot b = is_host_byte b || (b == dot)

email-is : (text : List ℕ) (len : ℕ) → email_len text ≡ Some len → (0 < len) × (len ≤ length text)
unfolding email_len
email-is text len is =
    go (nat_le 1 (prefix_len is_local_byte text)) (begins_with at_sign (drop (prefix_len is_local_byte text) text)) refl
    (is_host (without_last dot (take_while is_host_or_dot (drop (prefix_len is_local_byte text + 1) text)))) is
  where
    host : List ℕ
    host = without_last dot (take_while is_host_or_dot (drop (prefix_len is_local_byte text + 1) text))

    short : length host ≤ length (drop (prefix_len is_local_byte text + 1) text)
    short =
        omega (
          arith,
          take-short
              (length (take_while is_host_or_dot (drop (prefix_len is_local_byte text + 1) text))
              - suffix_len (λ b. b == dot) (take_while is_host_or_dot (drop (prefix_len is_local_byte text + 1) text)))
              (take_while is_host_or_dot (drop (prefix_len is_local_byte text + 1) text)),
          take-short (prefix_len is_host_or_dot (drop (prefix_len is_local_byte text + 1) text))
              (drop (prefix_len is_local_byte text + 1) text),
        )

    go : (x y : Bool) → begins_with at_sign (drop (prefix_len is_local_byte text) text) ≡ y → (z : Bool) →
        cond ((x && y) && z) (Some (prefix_len is_local_byte text + 1 + length host)) None ≡ Some len →
        (0 < len) × (len ≤ length text)
    go true true e true is =
        let same : prefix_len is_local_byte text + 1 + length host ≡ len = cc in (
          omega (arith, same),
          omega (
            arith,
            same,
            short,
            length-drop (prefix_len is_local_byte text + 1) text,
            begins-after at_sign (prefix_len is_local_byte text) text e,
          ),
        )
    go true true e false is = cc
    go true false e z is = cc
    go false y e z is = cc

resource-within : (text : List ℕ) → resource_len text ≤ length text
resource-within text =
    go (begins_with slash text) refl (nat_le 1 (prefix_len (λ b. is_ascii_alphanumeric b || (b == at_sign) || (b ==
    dot)) (drop 1 text)))
  where
    go : (x : Bool) → begins_with slash text ≡ x → (y : Bool) →
        cond (x && y)
        (prefix_len (λ b. is_ascii_alphanumeric b || (b == at_sign) || (b == dot)) (drop 1 text) + 1) 0 ≤ length text
    go true e true =
        omega (
          arith,
          prefix_len-le-length (λ b. is_ascii_alphanumeric b || (b == at_sign) || (b == dot)) (drop 1 text),
          length-drop 1 text,
          begins-some slash text e,
        )
    go true e false = omega arith
    go false e y = omega arith

pub email-at-is : (before text : List ℕ) (found : Literal) → email_at before text ≡ Some found → InText text found
unfolding email_at
email-at-is before text found is =
    go (not (may_follow before)) (starts_in_any_case text (codes "mailto:"))
    (starts_in_any_case text (codes "xmpp:")) is
  where
    mailto : (o : Option ℕ) → ((k : ℕ) → o ≡ Some k → (0 < k) × (k ≤ length (drop 7 text))) →
        option_map (λ (len : ℕ). record { kind = literal.Mailto; len = len + 7 }) o ≡ Some found → InText text found
    mailto None h is = cc
    mailto (Some k) h is =
        same-in text (record { kind = literal.Mailto; len = k + 7 }) found is
        (record { some = omega arith; within = omega (arith, (h k refl).0, (h k refl).1, length-drop 7 text) })

    xmpp : (o : Option ℕ) → ((k : ℕ) → o ≡ Some k → (0 < k) × (k ≤ length (drop 5 text))) →
        option_map (λ (len : ℕ). record { kind = literal.Xmpp; len = xmpp_len (drop 5 text) len + 5 }) o ≡ Some found →
        InText text found
    xmpp None h is = cc
    xmpp (Some k) h is =
        same-in text (record { kind = literal.Xmpp; len = xmpp_len (drop 5 text) k + 5 }) found is
        (record {
          some = omega arith;
          within =
              omega (
                arith,
                (h k refl).0,
                (h k refl).1,
                length-drop 5 text,
                length-drop k (drop 5 text),
                resource-within (drop k (drop 5 text)),
              );
        })

    bare : (o : Option ℕ) → ((k : ℕ) → o ≡ Some k → (0 < k) × (k ≤ length text)) →
        option_map (λ (len : ℕ). record { kind = literal.Email; len = len }) o ≡ Some found → InText text found
    bare None h is = cc
    bare (Some k) h is =
        same-in text (record { kind = literal.Email; len = k }) found is
        (record { some = (h k refl).0; within = (h k refl).1 })

    go : (p q r : Bool) →
        cond p None
        (cond q (option_map (λ (len : ℕ). record { kind = literal.Mailto; len = len + 7 }) (email_len (drop 7 text)))
        (cond r
        (option_map (λ (len : ℕ). record { kind = literal.Xmpp; len = xmpp_len (drop 5 text) len + 5 })
        (email_len (drop 5 text)))
        (option_map (λ (len : ℕ). record { kind = literal.Email; len = len }) (email_len text)))) ≡
        Some found → InText text found
    go true q r is = cc
    go false true r is = mailto (email_len (drop 7 text)) (email-is (drop 7 text)) is
    go false false true is = xmpp (email_len (drop 5 text)) (email-is (drop 5 text)) is
    go false false false is = bare (email_len text) (email-is text) is

emails-at-most : (more : ℕ) (before text : List ℕ) → length text ≤ more →
    Over (emails_at_most more before text) (length text)
emails-at-most zero before [] h = nothing-over
emails-at-most zero before (b ∷ text) h = absurd (omega (arith, h))
emails-at-most (suc more) before [] h = nothing-over
emails-at-most (suc more) before (b ∷ text) h =
    go (email_at before (b ∷ text)) (email-at-is before (b ∷ text)) (emails-at-most more)
  where
    go : (o : Option Literal) → ((f : Literal) → o ≡ Some f → InText (b ∷ text) f) →
        ((front rest : List ℕ) → length rest ≤ more → Over (emails_at_most more front rest) (length rest)) →
        Over
        (elim o as (λ (_ : Option Literal). Forest) [
          | Some found ↦ over (literal_name found.kind) found.len
              (emails_at_most more (before ++ take found.len (b ∷ text)) (drop found.len (b ∷ text)))
          | None ↦ byte n.Data (emails_at_most more (before ++ b ∷ []) text)
        ])
        (suc (length text))
    go None facts rec =
        same-over (byte n.Data (emails_at_most more (before ++ b ∷ []) text)) (1 + length text) (suc (length text))
        (omega arith)
        (piece-over n.Data 0 (emails_at_most more (before ++ b ∷ []) text) (length text) refl
        (rec (before ++ b ∷ []) text (omega (arith, h))))
    go (Some found) facts rec =
        let fact : InText (b ∷ text) found = facts found refl in
        let left : length (drop found.len (b ∷ text)) ≡ suc (length text) - found.len =
        length-drop found.len (b ∷ text) in
        let next : Forest = emails_at_most more (before ++ take found.len (b ∷ text)) (drop found.len (b ∷ text)) in
        same-over (over (literal_name found.kind) found.len next) (found.len + length (drop found.len (b ∷ text)))
        (suc (length text)) (omega (arith, left, fact.within))
        (over-over (literal_name found.kind) found.len next (length (drop found.len (b ∷ text))) (name-fits found.kind)
        (rec (before ++ take found.len (b ∷ text)) (drop found.len (b ∷ text)) (omega (arith, left, fact.some, h))))

-- a forest over a text, with the addresses in it
pub emails-over : (forest : Forest) (before text : List ℕ) → has_names forest ≡ true → size forest ≤ length text →
    Over (with_emails before text forest) (size forest)
emails-over nothing before text names room = nothing-over
emails-over (piece name more following) before text names room =
    let parts = piece-names name following names in
    let is : size (piece name more following) ≡ suc more + size following = size-piece name more following in
    let left : length (drop (suc more) text) ≡ length text - suc more = length-drop (suc more) text in
    let rest : Over (with_emails (before ++ take (suc more) text) (drop (suc more) text) following) (size following) =
    emails-over following (before ++ take (suc more) text) (drop (suc more) text) parts.1
    (omega (arith, is, left, room)) in
    let cut : length (take (suc more) text) ≡ suc more = length-take-le (suc more) text (omega (arith, is, room)) in
    same-over (with_emails before text (piece name more following)) (suc more + size following)
    (size (piece name more following)) (sym is)
    (beside-over
    (cond (is_data name) (emails_in before (take (suc more) text)) (piece name more nothing))
    (with_emails (before ++ take (suc more) text) (drop (suc more) text) following) (suc more) (size following)
    (first (is_data name) parts.0 cut) rest)
  where
    first : (t : Bool) → is_part_name name ≡ true → length (take (suc more) text) ≡ suc more →
        Over (cond t (emails_in before (take (suc more) text)) (piece name more nothing)) (suc more)
    first true named cut =
        same-over (emails_in before (take (suc more) text)) (length (take (suc more) text)) (suc more) cut
        (emails-at-most (length (take (suc more) text)) before (take (suc more) text) (omega arith))
    first false named cut =
        same-over (piece name more nothing) (suc more + 0) (suc more) (omega arith)
        (piece-over name more nothing 0 named nothing-over)
emails-over (part name inside following) before text names room =
    let parts = part-names name inside following names in
    let is : size (part name inside following) ≡ size inside + size following = size-part name inside following in
    let left : length (drop (size inside) text) ≡ length text - size inside = length-drop (size inside) text in
    let rest : Over (with_emails (before ++ take (size inside) text) (drop (size inside) text) following)
    (size following) =
    emails-over following (before ++ take (size inside) text) (drop (size inside) text) parts.next
    (omega (arith, is, left, room)) in
    let inner : Over (with_emails before text inside) (size inside) =
    emails-over inside before text parts.inner (omega (arith, is, room)) in
    same-over (with_emails before text (part name inside following)) (size inside + size following)
    (size (part name inside following)) (sym is)
    (part-over name (cond (holds_text name) (with_emails before text inside) inside)
    (with_emails (before ++ take (size inside) text) (drop (size inside) text) following) (size inside) (size following)
    parts.own (first (holds_text name) parts.inner inner) rest)
  where
    first : (t : Bool) → has_names inside ≡ true → Over (with_emails before text inside) (size inside) →
        Over (cond t (with_emails before text inside) inside) (size inside)
    first true named f = f
    first false named f = own inside named
