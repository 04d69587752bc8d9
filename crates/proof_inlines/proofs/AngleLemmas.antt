-- Autolinks, raw HTML, line breaks and addresses are at the front of their text, and not empty.
use Rattle.std.proofs.Common.{◌≡◌, ℕ, zero, suc, ◌+◌, ◌-◌, ◌<◌, ◌≤◌, Bool, true, false, cond, ◌&&◌, List, [], ◌∷◌}
use Rattle.std.proofs.Common.{length}
use Rattle.std.proofs.Common.{take, drop, reverse, refl, ap, arith}
use Rattle.std.specs.Prelude.{◌==◌, ◌||◌, nat_le, codes, nat_eq, Option, Some, None, option_map}
use Rattle.std.specs.Char.{is_ascii_alphabetic}
use Rattle.std.specs.List.{prefix_len, starts_with, suffix_len}
use Rattle.std.proofs.lemmas.Bool.Decides.{nat_tests}
use Rattle.std.proofs.lemmas.List.{length-drop, length-reverse, length-take-le}
use Rattle.std.proofs.lemmas.List.Sums.{prefix_len-le-length}
use Rattle.md_engine.specs.declared.event.Name.{Name}
use Rattle.md_engine.specs.declared.event.Name.TheVariants as n
use Rattle.md_meaning.specs.Ascii.{colon, greater_than, less_than, line_feed, space}
use Rattle.md_meaning.specs.Bytes.{after, after_optional, begins}
use Rattle.md_meaning.specs.Html as h
use Rattle.md_meaning.specs.Lines.{begins_with}
use Rattle.md_meaning.specs.Rest.{is_white}
use Rattle.md_meaning.proofs.HtmlLemmas.{length-after, length-after_next, length-after_optional}
use Rattle.md_inline_events.specs.Forest.{Forest, nothing, over}
use Rattle.md_inline_events.specs.Marks.{is_part_name}
use Rattle.md_inlines.specs.Autolink.{at_sign, email_len, host_len, is_host, is_host_byte, is_local_byte}
use Rattle.md_inlines.specs.Autolink.{is_scheme_byte, is_uri_byte, uri_len}
use Rattle.md_inlines.specs.Breaks.{break_len, ends_here, is_break_escape, trailing_len}
use Rattle.md_inlines.specs.RawHtml.{after_attribute, after_attributes, after_byte, after_closing}
use Rattle.md_inlines.specs.RawHtml.{after_comment}
use Rattle.md_inlines.specs.RawHtml.{after_html, after_marked, after_opening, after_word, repeated}
use Rattle.md_inlines.specs.Target.{after_gap}
use Rattle.md_inlines.proofs.HtmlLemmas.{length-after_attribute, length-after_gap}
use Rattle.md_inlines.specs.Atoms.{angled, autolink_at, break_escape_at, byte, html, html_at, or_else, trailing_at}
use Rattle.proof_inlines.specs.Sized.{IsFront, Over}
use Rattle.proof_inlines.proofs.AtomLemmas.{Fronts, begins-after, begins-some, either-front, front, same-front}
use Rattle.proof_inlines.proofs.ContentForests.{nothing-over, over-over, part-over, piece-over, same-over}

-- Autolinks.

uri-is : (text : List ℕ) (len : ℕ) → uri_len text ≡ Some len → len < length text
unfolding uri_len
uri-is text len is =
    go
    (begins is_ascii_alphabetic text && nat_le 2 (prefix_len is_scheme_byte text)
    && nat_le (prefix_len is_scheme_byte text) 32 && begins_with colon (drop (prefix_len is_scheme_byte text) text))
    (begins_with greater_than (drop (prefix_len is_uri_byte text) text)) refl is
  where
    go : (x y : Bool) → begins_with greater_than (drop (prefix_len is_uri_byte text) text) ≡ y →
        cond (x && y) (Some (prefix_len is_uri_byte text)) None ≡ Some len → len < length text
    go true true e is =
        let same : prefix_len is_uri_byte text ≡ len = cc in
        omega (arith, same, begins-after greater_than (prefix_len is_uri_byte text) text e)
    go true false e is = cc
    go false y e is = cc

abbrev is_host_or_dot : ℕ → Bool
is_host_or_dot b = is_host_byte b || (b == 46)

host-is : (text : List ℕ) (len : ℕ) → host_len text ≡ Some len → len < length text
host-is text len is =
    go (is_host (take (prefix_len is_host_or_dot text) text))
    (begins_with greater_than (drop (prefix_len is_host_or_dot text) text)) refl is
  where
    go : (x y : Bool) → begins_with greater_than (drop (prefix_len is_host_or_dot text) text) ≡ y →
        cond (x && y) (Some (prefix_len is_host_or_dot text)) None ≡ Some len → len < length text
    go true true e is =
        let same : prefix_len is_host_or_dot text ≡ len = cc in
        omega (arith, same, begins-after greater_than (prefix_len is_host_or_dot text) text e)
    go true false e is = cc
    go false y e is = cc

email-is : (text : List ℕ) (len : ℕ) → email_len text ≡ Some len → len < length text
unfolding email_len
email-is text len is =
    go (nat_le 1 (prefix_len is_local_byte text)) (begins_with at_sign (drop (prefix_len is_local_byte text) text)) refl
    (host_len (drop 1 (drop (prefix_len is_local_byte text) text)))
    (host-is (drop 1 (drop (prefix_len is_local_byte text) text))) is
  where
    local : ℕ
    local = prefix_len is_local_byte text

    go : (x y : Bool) → begins_with at_sign (drop (prefix_len is_local_byte text) text) ≡ y → (o : Option ℕ) →
        ((k : ℕ) → o ≡ Some k → k < length (drop 1 (drop (prefix_len is_local_byte text) text))) →
        cond (x && y) (option_map (λ (host : ℕ). prefix_len is_local_byte text + 1 + host) o) None ≡ Some len →
        len < length text
    go true true e None h is = cc
    go true true e (Some k) h is =
        let same : prefix_len is_local_byte text + 1 + k ≡ len = cc in
        omega (
          arith,
          same,
          h k refl,
          length-drop 1 (drop (prefix_len is_local_byte text) text),
          length-drop (prefix_len is_local_byte text) text,
          begins-after at_sign (prefix_len is_local_byte text) text e,
        )
    go true false e o h is = cc
    go false y e o h is = cc

angled-over : (name : Name) (len : ℕ) → is_part_name name ≡ true → Over (angled name len) (len + 2)
angled-over name len named =
    let last : Forest = byte n.AutolinkMarker nothing in
    let mark : Over last 1 = record { sized = refl; names = refl } in
    let inner = over-over name len last 1 named mark in
    let all = piece-over n.AutolinkMarker 0 (over name len last) (len + 1) refl inner in
    same-over (angled name len) (1 + (len + 1) + 0) (len + 2) (omega arith)
    (part-over n.Autolink (byte n.AutolinkMarker (over name len last)) nothing (1 + (len + 1)) 0 refl all nothing-over)

angled-front : (name : Name) (text : List ℕ) (o : Option ℕ) → is_part_name name ≡ true →
    begins_with less_than text ≡ true → ((k : ℕ) → o ≡ Some k → k < length (drop 1 text)) →
    Fronts text (option_map (angled name) o)
angled-front name text None named b h found is = cc
angled-front name text (Some k) named b h found is =
    same-front text (angled name k) found is
    (front text (angled name k) (k + 2) (angled-over name k named) (omega arith)
    (omega (arith, h k refl, length-drop 1 text, begins-some less_than text b)))

pub autolink-front : (text : List ℕ) → Fronts text (autolink_at text)
autolink-front text found is = go (begins_with less_than text) refl is
  where
    both : Option Forest
    both = or_else (option_map (angled n.AutolinkProtocol) (uri_len (drop 1 text)))
        (option_map (angled n.AutolinkEmail) (email_len (drop 1 text)))

    go : (t : Bool) → begins_with less_than text ≡ t →
        cond t
        (or_else (option_map (angled n.AutolinkProtocol) (uri_len (drop 1 text)))
        (option_map (angled n.AutolinkEmail) (email_len (drop 1 text)))) None ≡
        Some found → IsFront text found
    go true b is =
        either-front text (option_map (angled n.AutolinkProtocol) (uri_len (drop 1 text)))
        (option_map (angled n.AutolinkEmail) (email_len (drop 1 text)))
        (angled-front n.AutolinkProtocol text (uri_len (drop 1 text)) refl b (uri-is (drop 1 text)))
        (angled-front n.AutolinkEmail text (email_len (drop 1 text)) refl b (email-is (drop 1 text))) found is
    go false b is = cc

-- Raw HTML: what follows is no longer than what it was in.

byte-shorter : (b : ℕ) (xs ys : List ℕ) → after_byte b xs ≡ Some ys → length ys ≤ length xs
byte-shorter b [] ys is = cc
byte-shorter b (c ∷ xs) ys is = go (c == b) is
  where
    go : (t : Bool) → cond t (Some xs) None ≡ Some ys → length ys ≤ suc (length xs)
    go true is = let same : xs ≡ ys = cc in omega (arith, ap length same)
    go false is = cc

word-shorter : (word xs ys : List ℕ) → after_word word xs ≡ Some ys → length ys ≤ length xs
word-shorter word [] ys is = cc
word-shorter word (b ∷ xs) ys is = go (starts_with nat_eq (b ∷ xs) word) (word-shorter word xs ys) is
  where
    go : (t : Bool) → (after_word word xs ≡ Some ys → length ys ≤ length xs) →
        cond t (Some (drop (length word) (b ∷ xs))) (after_word word xs) ≡ Some ys → length ys ≤ suc (length xs)
    go true rec is =
        let same : drop (length word) (b ∷ xs) ≡ ys = cc in
        omega (arith, ap length same, length-drop (length word) (b ∷ xs))
    go false rec is = omega (arith, rec is)

pub repeated-shorter : (step : List ℕ → Option (List ℕ)) → ((xs ys : List ℕ) → step xs ≡ Some ys →
    length ys < length xs) →
    (more : ℕ) (xs : List ℕ) → length (repeated step more xs) ≤ length xs
repeated-shorter step shorter zero xs = omega arith
repeated-shorter step shorter (suc more) xs = go (step xs) refl (repeated-shorter step shorter more)
  where
    go : (o : Option (List ℕ)) → step xs ≡ o → ((ys : List ℕ) → length (repeated step more ys) ≤ length ys) →
        length (elim o as (λ (_ : Option (List ℕ)). List ℕ) [ Some ys ↦ repeated step more ys | None ↦ xs ]) ≤ length xs
    go None e rec = omega arith
    go (Some ys) e rec = omega (arith, rec ys, shorter xs ys e)

opening-shorter : (xs ys : List ℕ) → after_opening xs ≡ Some ys → length ys ≤ length xs
unfolding after_opening
opening-shorter xs ys is =
    omega (
      arith,
      byte-shorter greater_than (after_optional 47 (after_gap (after_attributes xs))) ys is,
      length-after_optional 47 (after_gap (after_attributes xs)),
      length-after_gap (after_attributes xs),
      repeated-shorter after_attribute length-after_attribute (length xs) xs,
    )

closing-shorter : (xs ys : List ℕ) → after_closing xs ≡ Some ys → length ys ≤ length xs
unfolding after_closing
closing-shorter xs ys is = go (begins is_ascii_alphabetic xs) is
  where
    go : (t : Bool) → cond t (after_byte greater_than (after_gap (after h.is_tag_byte xs))) None ≡ Some ys →
        length ys ≤ length xs
    go true is =
        omega (
          arith,
          byte-shorter greater_than (after_gap (after h.is_tag_byte xs)) ys is,
          length-after_gap (after h.is_tag_byte xs),
          length-after h.is_tag_byte xs,
        )
    go false is = cc

comment-shorter : (xs ys : List ℕ) → after_comment xs ≡ Some ys → length ys ≤ length xs
unfolding after_comment
comment-shorter xs ys is = go (begins_with greater_than xs) (starts_with nat_eq xs (codes "->")) is
  where
    go : (s t : Bool) → cond s (Some (drop 1 xs)) (cond t (Some (drop 2 xs)) (after_word (codes "-->") xs)) ≡ Some ys →
        length ys ≤ length xs
    go true t is = let same : drop 1 xs ≡ ys = cc in omega (arith, ap length same, length-drop 1 xs)
    go false true is = let same : drop 2 xs ≡ ys = cc in omega (arith, ap length same, length-drop 2 xs)
    go false false is = word-shorter (codes "-->") xs ys is

marked-shorter : (xs ys : List ℕ) → after_marked xs ≡ Some ys → length ys ≤ length xs
unfolding after_marked
marked-shorter xs ys is =
    go (starts_with nat_eq xs (codes "--")) (starts_with nat_eq xs (codes "[CDATA[")) (begins is_ascii_alphabetic xs) is
  where
    go : (r s t : Bool) →
        cond r (after_comment (drop 2 xs))
        (cond s (after_word (codes "]]>") (drop 7 xs)) (cond t (h.after_next greater_than xs) None)) ≡
        Some ys → length ys ≤ length xs
    go true s t is = omega (arith, comment-shorter (drop 2 xs) ys is, length-drop 2 xs)
    go false true t is = omega (arith, word-shorter (codes "]]>") (drop 7 xs) ys is, length-drop 7 xs)
    go false false true is = omega (arith, length-after_next greater_than xs ys is)
    go false false false is = cc

html-shorter : (xs ys : List ℕ) → after_html xs ≡ Some ys → length ys ≤ length xs
unfolding after_html
html-shorter [] ys is = cc
html-shorter (b ∷ xs) ys is = go (b == 33) (b == 63) (b == 47) (is_ascii_alphabetic b) is
  where
    go : (p q r s : Bool) →
        cond p (after_marked xs)
        (cond q (after_word (codes "?>") xs)
        (cond r (after_closing xs) (cond s (after_opening (after h.is_tag_byte xs)) None))) ≡
        Some ys → length ys ≤ suc (length xs)
    go true q r s is = omega (arith, marked-shorter xs ys is)
    go false true r s is = omega (arith, word-shorter (codes "?>") xs ys is)
    go false false true s is = omega (arith, closing-shorter xs ys is)
    go false false false true is =
        omega (arith, opening-shorter (after h.is_tag_byte xs) ys is, length-after h.is_tag_byte xs)
    go false false false false is = cc

html-over : (text rest : List ℕ) → Over (html text rest) (length text - length rest)
html-over text rest =
    let inner = over-over n.HtmlTextData (length text - length rest) nothing 0 refl nothing-over in
    same-over (html text rest) (length text - length rest + 0 + 0) (length text - length rest) (omega arith)
    (part-over n.HtmlText (over n.HtmlTextData (length text - length rest) nothing) nothing
    (length text - length rest + 0) 0 refl inner nothing-over)

pub html-front : (text : List ℕ) → Fronts text (html_at text)
html-front text found is = go (begins_with less_than text) refl (after_html (drop 1 text)) refl is
  where
    go : (t : Bool) → begins_with less_than text ≡ t → (o : Option (List ℕ)) → after_html (drop 1 text) ≡ o →
        cond t (option_map (html text) o) None ≡ Some found → IsFront text found
    go true b None e is = cc
    go true b (Some rest) e is =
        same-front text (html text rest) found is
        (front text (html text rest) (length text - length rest) (html-over text rest)
        (omega (arith, html-shorter (drop 1 text) rest e, length-drop 1 text, begins-some less_than text b))
        (omega arith))
    go false b o e is = cc

-- Line breaks.

pub break-escape-front : (text : List ℕ) → Fronts text (break_escape_at text)
break-escape-front text found is = go text (is_break_escape text) refl is
  where
    go : (xs : List ℕ) (t : Bool) → is_break_escape xs ≡ t →
        cond t (Some (byte n.HardBreakEscape nothing)) None ≡ Some found → IsFront xs found
    go [] true e is = cc
    go (b ∷ xs) true e is =
        same-front (b ∷ xs) (byte n.HardBreakEscape nothing) found is
        (front (b ∷ xs) (byte n.HardBreakEscape nothing) 1 (record { sized = refl; names = refl }) (omega arith)
        (omega arith))
    go xs false e is = cc

trailing-within : (text : List ℕ) → trailing_len text ≤ length text
unfolding trailing_len
trailing-within text = go (ends_here (drop (prefix_len is_white text) text))
  where
    go : (t : Bool) → cond t (prefix_len is_white text) 0 ≤ length text
    go true = prefix_len-le-length is_white text
    go false = omega arith

break-within : (text : List ℕ) → break_len text ≤ trailing_len text
unfolding break_len
break-within text =
    go
    (nat_le 2 (suffix_len (λ b. b == space) (take (trailing_len text) text))
    && begins_with line_feed (drop (trailing_len text) text))
  where
    go : (t : Bool) → cond t (suffix_len (λ b. b == space) (take (trailing_len text) text)) 0 ≤ trailing_len text
    go true =
        omega (
          arith,
          prefix_len-le-length (λ b. b == space) (reverse (take (trailing_len text) text)),
          length-reverse (take (trailing_len text) text),
          length-take-le (trailing_len text) text (trailing-within text),
        )
    go false = omega arith

pub trailing-front : (hard : Bool) (text : List ℕ) → Fronts text (trailing_at hard text)
trailing-front hard text found is = go (trailing_len text == 0) refl is
  where
    spaces : (t : Bool) → cond t (break_len text) 0 ≤ trailing_len text
    spaces true = break-within text
    spaces false = omega arith

    go : (t : Bool) → (trailing_len text == 0) ≡ t →
        cond t None
        (Some
        (over n.SpaceOrTab (trailing_len text - cond hard (break_len text) 0)
        (over n.HardBreakTrailing (cond hard (break_len text) 0) nothing))) ≡
        Some found → IsFront text found
    go true e is = cc
    go false e is =
        let k : ℕ = cond hard (break_len text) 0 in
        let few : cond hard (break_len text) 0 ≤ trailing_len text = spaces hard in
        let some : 0 < trailing_len text = grind (arith, nat_tests) in
        let inner = over-over n.HardBreakTrailing k nothing 0 refl nothing-over in
        let all = over-over n.SpaceOrTab (trailing_len text - k) (over n.HardBreakTrailing k nothing) (k + 0) refl
        inner in
        same-front text (over n.SpaceOrTab (trailing_len text - k) (over n.HardBreakTrailing k nothing)) found is
        (front text (over n.SpaceOrTab (trailing_len text - k) (over n.HardBreakTrailing k nothing))
        (trailing_len text - k + (k + 0)) all (omega (arith, few, some)) (omega (arith, few, trailing-within text)))
