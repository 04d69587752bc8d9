-- Where no address begins, and the addresses of a text from there on.
use Rattle.std.proofs.Common.{◌≡◌, ℕ, zero, suc, ◌+◌, ◌-◌, ◌<◌, ◌≤◌, Bool, true, false, cond, ◌&&◌, List, [], ◌∷◌, ◌++◌}
use Rattle.std.proofs.Common.{length, take, drop, get_or, refl, ap, sym, ◌∙◌, append-nil, append_assoc, arith, lit<}
use Rattle.std.specs.Prelude.{◌==◌, ◌||◌, nat_le, codes, map, not, Option, Some, None, option_map}
use Rattle.std.specs.Char.{to_ascii_lowercase}
use Rattle.std.specs.List.{prefix_len, take_while}
use Rattle.std.proofs.lemmas.Bool.Decides.{nat_tests}
use Rattle.std.proofs.lemmas.List.{drop-drop, get_or-take, length-drop, reverse-append}
use Rattle.std.proofs.lemmas.List.Sums.{prefix_len_passes}
use Rattle.std.proofs.lemmas.Slice.Eq.{bytes_eq-Decides}
use Rattle.std.proofs.Math.ListN.{get_or-map}
use Rattle.md_engine.specs.declared.event.Name.{Name}
use Rattle.md_engine.specs.declared.event.Name.TheVariants as n
use Rattle.md_meaning.specs.Ascii.{dot}
use Rattle.md_meaning.specs.Html.{starts_in_any_case}
use Rattle.md_meaning.specs.Lines.{begins_with}
use Rattle.md_inlines.specs.Addresses.{is_before}
use Rattle.md_inlines.specs.Autolink.{at_sign}
use Rattle.md_inlines.specs.Literal.{email_at, email_len, is_host, is_host_byte, is_local_byte, may_follow}
use Rattle.md_inlines.specs.Literal.{without_last, xmpp_len}
use Rattle.md_inlines.specs.declared.Literal.{Literal}
use Rattle.md_inlines.specs.declared.LiteralKind.TheVariants as literal
use Rattle.md_inlines.specs.Atoms.{byte, literal_name}
use Rattle.md_inlines.specs.Emails.{emails_at_most, emails_in}
use Rattle.md_inline_events.specs.Forest.{Forest, over}
use Rattle.md_inline_events.specs.Tokens.{tokens}
use Rattle.md_inline_events.specs.declared.token.Token.{Token}
use Rattle.md_inline_events.specs.declared.token.Token.TheVariants as t
use Rattle.proof_inlines.proofs.LiteralLemmas.{email-at-is}
use Rattle.markdown_inlines.specs.Addressed.{at_after, closed_len, first_token, joined_after, quiet_len, token_of}
use Rattle.markdown_inlines.proofs.AddressedLemmas.{take-further}

colon-is : (b : ℕ) → to_ascii_lowercase b ≡ 58 → b ≡ 58
colon-is b h = grind (arith, nat_tests)

-- a word with a `:` is in no run of such bytes
no-word : (word text : List ℕ) (i : ℕ) → i < length word → get_or (map to_ascii_lowercase word) i 0 ≡ 58 →
    i < prefix_len is_local_byte text → starts_in_any_case text word ≡ false
no-word word text i short is run = go (starts_in_any_case text word) refl
  where
    go : (b : Bool) → starts_in_any_case text word ≡ b → b ≡ false
    go true e =
        let same : map to_ascii_lowercase word ≡ map to_ascii_lowercase (take (length word) text) =
        (bytes_eq-Decides (map to_ascii_lowercase word) (map to_ascii_lowercase (take (length word) text))).0 e in
        let lower : to_ascii_lowercase (get_or text i 0) ≡ 58 =
        ap to_ascii_lowercase (sym (get_or-take (length word) text i 0 short))
        ∙ sym (get_or-map to_ascii_lowercase (take (length word) text) i 0)
        ∙ ap (λ (l : List ℕ). get_or l i 0) (sym same) ∙ is in
        let passes : is_local_byte (get_or text i 0) ≡ true = prefix_len_passes is_local_byte text i 0 run in
        let colon : is_local_byte 58 ≡ true =
        ap is_local_byte (sym (colon-is (get_or text i 0) lower)) ∙ passes in
        cc
    go false e = refl

-- an address of a run of so many bytes, where what is after its `@` begins at `next`
abbrev host_at : ℕ → List ℕ → List ℕ
host_at next text = without_last dot (take_while (λ b. is_host_byte b || (b == dot)) (drop next text))

abbrev len_with : ℕ → ℕ → List ℕ → Option ℕ
len_with local next text =
    cond (nat_le 1 local && begins_with at_sign (drop local text) && is_host (host_at next text))
    (Some (local + 1 + length (host_at next text))) None

-- an address begins nowhere in a run of which none begins at the front
one-less : (b : ℕ) (text : List ℕ) → is_local_byte b ≡ true → email_len (b ∷ text) ≡ None → email_len text ≡ None
unfolding email_len
one-less b text h none =
    go (nat_le 1 (suc len)) (nat_le 1 len) (begins_with at_sign (drop len text)) (is_host (host_at (len + 1) text)) some
    (sym at ∙ none)
  where
    len : ℕ
    len = prefix_len is_local_byte text

    at : len_with (prefix_len is_local_byte (b ∷ text)) (prefix_len is_local_byte (b ∷ text) + 1) (b ∷ text) ≡
        len_with (suc len) (suc (len + 1)) (b ∷ text)
    at =
        let more : 1 + len ≡ suc len = omega arith in
        let next : suc len + 1 ≡ suc (len + 1) = omega arith in
        ap (λ (t : Bool). len_with (cond t (1 + len) 0) (cond t (1 + len) 0 + 1) (b ∷ text)) h
        ∙ ap (λ (k : ℕ). len_with k (k + 1) (b ∷ text)) more
        ∙ ap (λ (k : ℕ). len_with (suc len) k (b ∷ text)) next

    some : nat_le 1 (suc len) ≡ true
    some = grind (arith, nat_tests)

    go : (p q begins host : Bool) → p ≡ true →
        cond (p && begins && host) (Some (suc len + 1 + length (host_at (len + 1) text))) None ≡ None →
        cond (q && begins && host) (Some (len + 1 + length (host_at (len + 1) text))) None ≡ None
    go true true true true e is = cc
    go true true true false e is = refl
    go true true false host e is = refl
    go true false begins host e is = refl
    go false q begins host e is = cc

-- Where none begins in a long run, it is for the run's sake: `mailto:` and `xmpp:` are in none.

no-mailto : (text : List ℕ) → 7 ≤ prefix_len is_local_byte text → starts_in_any_case text (codes "mailto:") ≡ false
no-mailto text run = no-word (codes "mailto:") text 6 (lit< tt) refl (omega (arith, run))

no-xmpp : (text : List ℕ) → 7 ≤ prefix_len is_local_byte text → starts_in_any_case text (codes "xmpp:") ≡ false
no-xmpp text run = no-word (codes "xmpp:") text 4 (lit< tt) refl (omega (arith, run))

-- the address that comes first, if one may
abbrev email_with : Bool → Bool → Bool → List ℕ → Option ℕ → Option Literal
email_with may mailto xmpp text found =
    cond (not may) None
    (cond mailto (option_map (λ (len : ℕ). record { kind = literal.Mailto; len = len + 7 }) (email_len (drop 7 text)))
    (cond xmpp
    (option_map (λ (len : ℕ). record { kind = literal.Xmpp; len = xmpp_len (drop 5 text) len + 5 })
    (email_len (drop 5 text)))
    (option_map (λ (len : ℕ). record { kind = literal.Email; len = len }) found)))

no-address : (front text : List ℕ) → 7 ≤ prefix_len is_local_byte text → email_len text ≡ None →
    email_at front text ≡ None
unfolding email_at
no-address front text run none =
    go (may_follow front) (starts_in_any_case text (codes "mailto:")) (starts_in_any_case text (codes "xmpp:"))
    (no-mailto text run) (no-xmpp text run) (email_len text) none
  where
    go : (may mailto xmpp : Bool) → mailto ≡ false → xmpp ≡ false → (o : Option ℕ) → o ≡ None →
        email_with may mailto xmpp text o ≡ None
    go false mailto xmpp m x o e = refl
    go true true xmpp m x o e = cc
    go true false true m x o e = cc
    go true false false m x None e = refl
    go true false false m x (Some len) e = cc

no-length : (before text : List ℕ) → 7 ≤ prefix_len is_local_byte text → may_follow before ≡ true →
    email_at before text ≡ None → email_len text ≡ None
unfolding email_at
no-length before text run may none =
    go (may_follow before) (starts_in_any_case text (codes "mailto:")) (starts_in_any_case text (codes "xmpp:")) may
    (no-mailto text run) (no-xmpp text run) (email_len text) none
  where
    go : (may mailto xmpp : Bool) → may ≡ true → mailto ≡ false → xmpp ≡ false → (o : Option ℕ) →
        email_with may mailto xmpp text o ≡ None → o ≡ None
    go false mailto xmpp f m x o e = cc
    go true true xmpp f m x o e = cc
    go true false true f m x o e = cc
    go true false false f m x None e = refl
    go true false false f m x (Some len) e = cc

-- The addresses of a text, of which the first is known.

emails-alike : (more least : ℕ) (before text : List ℕ) → length text ≤ more → length text ≤ least →
    emails_at_most more before text ≡ emails_at_most least before text
emails-alike zero zero before text h k = refl
emails-alike zero (suc least) before [] h k = refl
emails-alike (suc more) zero before [] h k = refl
emails-alike (suc more) (suc least) before [] h k = refl
emails-alike zero (suc least) before (b ∷ text) h k = absurd (omega (arith, h))
emails-alike (suc more) zero before (b ∷ text) h k = absurd (omega (arith, k))
emails-alike (suc more) (suc least) before (b ∷ text) h k =
    go (email_at before (b ∷ text)) (λ found is. (email-at-is before (b ∷ text) found is).some)
    (emails-alike more least)
  where
    go : (o : Option Literal) → ((found : Literal) → o ≡ Some found → 0 < found.len) →
        ((front rest : List ℕ) → length rest ≤ more → length rest ≤ least →
        emails_at_most more front rest ≡ emails_at_most least front rest) →
        elim o as (λ (_ : Option Literal). Forest) [
          | Some found ↦
              over (literal_name found.kind) found.len
              (emails_at_most more (before ++ take found.len (b ∷ text)) (drop found.len (b ∷ text)))
          | None ↦ byte n.Data (emails_at_most more (before ++ b ∷ []) text)
        ] ≡
        elim o as (λ (_ : Option Literal). Forest) [
          | Some found ↦
              over (literal_name found.kind) found.len
              (emails_at_most least (before ++ take found.len (b ∷ text)) (drop found.len (b ∷ text)))
          | None ↦ byte n.Data (emails_at_most least (before ++ b ∷ []) text)
        ]
    go (Some found) some rest =
        let positive : 0 < found.len = some found refl in
        ap (over (literal_name found.kind) found.len)
        (rest (before ++ take found.len (b ∷ text)) (drop found.len (b ∷ text))
        (omega (arith, positive, h, length-drop found.len (b ∷ text)))
        (omega (arith, positive, k, length-drop found.len (b ∷ text))))
    go None some rest = ap (byte n.Data) (rest (before ++ b ∷ []) text (omega (arith, h)) (omega (arith, k)))

tokens-over : (name : Name) (len : ℕ) (forest : Forest) → 0 < len →
    tokens (over name len forest) ≡ t.Over name len ∷ tokens forest
tokens-over name zero forest h = absurd (omega (arith, h))
tokens-over name (suc more) forest h = refl

email-found : (before : List ℕ) (b : ℕ) (text : List ℕ) (found : Literal) →
    email_at before (b ∷ text) ≡ Some found →
    tokens (emails_in before (b ∷ text)) ≡
    t.Over (literal_name found.kind) found.len
    ∷ tokens (emails_in (before ++ take found.len (b ∷ text)) (drop found.len (b ∷ text)))
email-found before b text found h =
    let positive : 0 < found.len = (email-at-is before (b ∷ text) found h).some in
    let made : emails_in before (b ∷ text) ≡
    over (literal_name found.kind) found.len
    (emails_at_most (length text) (before ++ take found.len (b ∷ text)) (drop found.len (b ∷ text))) =
    rw (h, emails_at_most) refl in
    ap tokens made
    ∙ tokens-over (literal_name found.kind) found.len
    (emails_at_most (length text) (before ++ take found.len (b ∷ text)) (drop found.len (b ∷ text))) positive
    ∙ ap (λ (f : Forest). t.Over (literal_name found.kind) found.len ∷ tokens f)
    (emails-alike (length text) (length (drop found.len (b ∷ text))) (before ++ take found.len (b ∷ text))
    (drop found.len (b ∷ text)) (omega (arith, positive, length-drop found.len (b ∷ text))) (omega arith))

email-none : (before : List ℕ) (b : ℕ) (text : List ℕ) → email_at before (b ∷ text) ≡ None →
    tokens (emails_in before (b ∷ text)) ≡ t.Over n.Data 1 ∷ tokens (emails_in (before ++ b ∷ []) text)
email-none before b text h =
    let made : emails_in before (b ∷ text) ≡ byte n.Data (emails_at_most (length text) (before ++ b ∷ []) text) =
    rw (h, emails_at_most) refl in
    ap tokens made

quiet-emails : (len : ℕ) (before text : List ℕ) (count : ℕ) (rest : List Token) → email_len text ≡ None →
    len + 6 ≤ prefix_len is_local_byte text →
    joined_after count (tokens (emails_in before text) ++ rest) ≡
    joined_after (count + len) (tokens (emails_in (before ++ take len text) (drop len text)) ++ rest)
quiet-emails zero before text count rest none run =
    let same : count ≡ count + 0 = omega arith in
    ap (λ (k : ℕ). joined_after k (tokens (emails_in before text) ++ rest)) same
    ∙ ap (λ (l : List ℕ). joined_after (count + 0) (tokens (emails_in l text) ++ rest)) (sym (append-nil before))
quiet-emails (suc len) before [] count rest none run = absurd (omega (arith, run))
quiet-emails (suc len) before (b ∷ text) count rest none run =
    ap (λ (l : List Token). joined_after count (l ++ rest))
    (email-none before b text (no-address before (b ∷ text) (omega (arith, run)) none))
    ∙ quiet-emails len (before ++ b ∷ []) text (count + 1) rest (one-less b text is_local none) shorter
    ∙ ap (λ (k : ℕ). joined_after k (tokens (emails_in ((before ++ b ∷ []) ++ take len text) (drop len text)) ++ rest))
    sum
    ∙ ap (λ (l : List ℕ). joined_after (count + suc len) (tokens (emails_in l (drop len text)) ++ rest))
    (append_assoc before (b ∷ []) (take len text))
  where
    sum : count + 1 + len ≡ count + suc len
    sum = omega arith

    is_local : is_local_byte b ≡ true
    is_local = go (is_local_byte b) run
      where
        go : (p : Bool) → suc len + 6 ≤ cond p (1 + prefix_len is_local_byte text) 0 → p ≡ true
        go true h = refl
        go false h = absurd (omega (arith, h))

    shorter : len + 6 ≤ prefix_len is_local_byte text
    shorter =
        let more : prefix_len is_local_byte (b ∷ text) ≡ 1 + prefix_len is_local_byte text =
        ap (λ (p : Bool). cond p (1 + prefix_len is_local_byte text) 0) is_local in
        omega (arith, more, run)

-- none begins after a byte after which none may

closed-none : (before text : List ℕ) → may_follow before ≡ false → email_at before text ≡ None
unfolding email_at
closed-none before text may = rw (may) refl

may-follow-last : (before : List ℕ) (b : ℕ) → may_follow (before ++ b ∷ []) ≡ is_before b
may-follow-last before b = rw (reverse-append before (b ∷ []), may_follow) refl

closed-emails : (len : ℕ) (before text : List ℕ) (count : ℕ) (rest : List Token) → may_follow before ≡ false →
    len ≤ closed_len text →
    joined_after count (tokens (emails_in before text) ++ rest) ≡
    joined_after (count + len) (tokens (emails_in (before ++ take len text) (drop len text)) ++ rest)
closed-emails zero before text count rest may run =
    let same : count ≡ count + 0 = omega arith in
    ap (λ (k : ℕ). joined_after k (tokens (emails_in before text) ++ rest)) same
    ∙ ap (λ (l : List ℕ). joined_after (count + 0) (tokens (emails_in l text) ++ rest)) (sym (append-nil before))
closed-emails (suc len) before [] count rest may run = absurd (omega (arith, run))
closed-emails (suc len) before (b ∷ text) count rest may run =
    ap (λ (l : List Token). joined_after count (l ++ rest))
    (email-none before b text (closed-none before (b ∷ text) may))
    ∙ closed-emails len (before ++ b ∷ []) text (count + 1) rest (may-follow-last before b ∙ is_closed) shorter
    ∙ ap (λ (k : ℕ). joined_after k (tokens (emails_in ((before ++ b ∷ []) ++ take len text) (drop len text)) ++ rest))
    sum
    ∙ ap (λ (l : List ℕ). joined_after (count + suc len) (tokens (emails_in l (drop len text)) ++ rest))
    (append_assoc before (b ∷ []) (take len text))
  where
    sum : count + 1 + len ≡ count + suc len
    sum = omega arith

    is_closed : is_before b ≡ false
    is_closed = go (is_before b) run
      where
        go : (p : Bool) → suc len ≤ cond (not p) (1 + closed_len text) 0 → p ≡ false
        go true h = absurd (omega (arith, h))
        go false h = refl

    shorter : len ≤ closed_len text
    shorter =
        let more : closed_len (b ∷ text) ≡ 1 + closed_len text =
        ap (λ (p : Bool). cond (not p) (1 + closed_len text) 0) is_closed in
        omega (arith, more, run)

-- the addresses of a text from a place on
abbrev pub emails_from : List ℕ → ℕ → List Token
emails_from text at = tokens (emails_in (take at text) (drop at text))

quiet-step : (before all : List ℕ) (b : ℕ) (text : List ℕ) (count : ℕ) (rest : List Token) → all ≡ b ∷ text →
    email_at before all ≡ None →
    joined_after count (tokens (emails_in before all) ++ rest) ≡
    joined_after (count + quiet_len before all)
    (tokens (emails_in (before ++ take (quiet_len before all) all) (drop (quiet_len before all) all)) ++ rest)
quiet-step before all b text count rest is none =
    go (may_follow before) (nat_le 7 (prefix_len is_local_byte all)) refl refl
  where
    from : ℕ → List Token
    from len =
        joined_after (count + len) (tokens (emails_in (before ++ take len all) (drop len all)) ++ rest)

    one : joined_after count (tokens (emails_in before all) ++ rest) ≡ from 1
    one =
        ap (λ (l : List ℕ). joined_after count (tokens (emails_in before l) ++ rest)) is
        ∙ ap (λ (l : List Token). joined_after count (l ++ rest))
        (email-none before b text (ap (email_at before) (sym is) ∙ none))
        ∙ ap (λ (l : List ℕ). joined_after (count + 1) (tokens (emails_in (before ++ take 1 l) (drop 1 l)) ++ rest))
        (sym is)

    closed : (r : Bool) → may_follow before ≡ false → nat_le 1 (closed_len all) ≡ r →
        joined_after count (tokens (emails_in before all) ++ rest) ≡ from (cond r (closed_len all) 1)
    closed true may some = closed-emails (closed_len all) before all count rest may (omega arith)
    closed false may some = one

    go : (p q : Bool) → may_follow before ≡ p → nat_le 7 (prefix_len is_local_byte all) ≡ q →
        joined_after count (tokens (emails_in before all) ++ rest) ≡
        from
        (cond (not p) (cond (nat_le 1 (closed_len all)) (closed_len all) 1) (cond q (prefix_len is_local_byte all - 6) 1))
    go true true may long =
        let run : 7 ≤ prefix_len is_local_byte all = grind (arith, nat_tests) in
        quiet-emails (prefix_len is_local_byte all - 6) before all count rest (no-length before all run may none)
        (omega (arith, run))
    go true false may long = one
    go false q may long = closed (nat_le 1 (closed_len all)) may refl

quiet-some : (before all : List ℕ) → 0 < quiet_len before all
quiet-some before all =
    go (may_follow before) (nat_le 7 (prefix_len is_local_byte all)) (nat_le 1 (closed_len all)) refl refl
  where
    go : (p q r : Bool) → nat_le 7 (prefix_len is_local_byte all) ≡ q → nat_le 1 (closed_len all) ≡ r →
        0 < cond (not p) (cond r (closed_len all) 1) (cond q (prefix_len is_local_byte all - 6) 1)
    go true true r long some =
        let run : 7 ≤ prefix_len is_local_byte all = grind (arith, nat_tests) in
        omega (arith, run)
    go true false r long some = omega arith
    go false q true long some =
        let run : 1 ≤ closed_len all = grind (arith, nat_tests) in
        omega (arith, run)
    go false q false long some = omega arith

-- What is first in a text: an address, or text in which none begins.

-- the addresses after so many more bytes
emails-after : (text : List ℕ) (at len : ℕ) →
    tokens (emails_in (take at text ++ take len (drop at text)) (drop len (drop at text))) ≡ emails_from text (at + len)
emails-after text at len =
    ap (λ (l : List ℕ). tokens (emails_in l (drop len (drop at text)))) (take-further at len text)
    ∙ ap (λ (l : List ℕ). tokens (emails_in (take (at + len) text) l)) (drop-drop len at text)

-- what `email_at` finds is some bytes of the text
first-found : (before all : List ℕ) (b : ℕ) (following : List ℕ) (found : Literal) (count : ℕ) (rest : List Token) →
    all ≡ b ∷ following → email_at before all ≡ Some found →
    joined_after count (tokens (emails_in before all) ++ rest) ≡
    joined_after count
    (t.Over (literal_name found.kind) found.len
    ∷ (tokens (emails_in (before ++ take found.len all) (drop found.len all)) ++ rest))
first-found before all b following found count rest is e =
    let tail : List ℕ → List Token =
    λ (l : List ℕ). tokens (emails_in (before ++ take found.len l) (drop found.len l)) in
    ap (λ (l : List ℕ). joined_after count (tokens (emails_in before l) ++ rest)) is
    ∙ ap (λ (l : List Token). joined_after count (l ++ rest))
    (email-found before b following found (ap (email_at before) (sym is) ∙ e))
    ∙ ap (λ (l : List ℕ). joined_after count (t.Over (literal_name found.kind) found.len ∷ (tail l ++ rest))) (sym is)

pub emails-first : (text : List ℕ) (at b : ℕ) (following : List ℕ) (count : ℕ) (rest : List Token) →
    drop at text ≡ b ∷ following →
    joined_after count (emails_from text at ++ rest) ≡
    joined_after count
    (first_token (take at text) (drop at text)
    ∷ (emails_from text (at_after at (first_token (take at text) (drop at text))) ++ rest))
emails-first text at b following count rest is = go (email_at (take at text) (drop at text)) refl
  where
    quiet : ℕ
    quiet = quiet_len (take at text) (drop at text)

    go : (o : Option Literal) → email_at (take at text) (drop at text) ≡ o →
        joined_after count (emails_from text at ++ rest) ≡
        joined_after count (token_of o quiet ∷ (emails_from text (at_after at (token_of o quiet)) ++ rest))
    go (Some found) e =
        first-found (take at text) (drop at text) b following found count rest is e
        ∙ ap (λ (l : List Token). joined_after count (t.Over (literal_name found.kind) found.len ∷ (l ++ rest)))
        (emails-after text at found.len)
    go None e =
        quiet-step (take at text) (drop at text) b following count rest is e
        ∙ ap (λ (l : List Token). joined_after (count + quiet) (l ++ rest)) (emails-after text at quiet)

pub first-further : (text : List ℕ) (at b : ℕ) (following : List ℕ) → drop at text ≡ b ∷ following →
    length text - at_after at (first_token (take at text) (drop at text)) < length text - at
first-further text at b following is = go (email_at (take at text) (drop at text)) refl
  where
    quiet : ℕ
    quiet = quiet_len (take at text) (drop at text)

    some : length text - at ≡ suc (length following)
    some = sym (length-drop at text) ∙ ap length is

    go : (o : Option Literal) → email_at (take at text) (drop at text) ≡ o →
        length text - at_after at (token_of o quiet) < length text - at
    go (Some found) e =
        omega (arith, some, (email-at-is (take at text) (drop at text) found e).some)
    go None e = omega (arith, some, quiet-some (take at text) (drop at text))
