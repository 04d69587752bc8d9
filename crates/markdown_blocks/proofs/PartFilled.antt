-- The last of some lines is not blank, where the byte before its ending is no space and no tab. Where no container is
-- open after it, it is no blank line of the exact list, and where nothing is, a text may be cut after it.
use Rattle.std.proofs.Common.{◌≡◌, ◌+◌, ℕ, Bool, true, false, cond, not, ◌&&◌, ◌||◌, List, [], ◌∷◌, ◌++◌, length}
use Rattle.std.proofs.Common.{map, refl, ap, sym, ◌∙◌, subst, arith}
use Rattle.std.specs.Prelude.{◌==◌, Option, Some, None, nat_lt}
use Rattle.std.specs.Option.{is_some}
use Rattle.std.specs.List.{onto_first}
use Rattle.std.proofs.lemmas.List.{length-append, map-append}
use Rattle.std.proofs.lemmas.List.Sums.{take_while-cons}
use Rattle.md_engine.specs.declared.configuration.ParseOptions.{ParseOptions}
use Rattle.md_meaning.specs.Containers.{Taken}
use Rattle.md_meaning.specs.Leaves.{LeafResult, NoText, Text, is_continued, starts, table_at, underline_depth}
use Rattle.md_meaning.specs.Lines.{begins_with, ends_line, full_lines_of, is_ending, without_ending}
use Rattle.md_meaning.specs.Rest.{Rest, is_blank, is_white}
use Rattle.md_meaning.specs.State.{Container, Leaf, NoLeaf, OpenCode, OpenFence, OpenHtml, OpenParagraph, OpenTable}
use Rattle.md_meaning.specs.State.{Path, cut, spot, texts}
use Rattle.md_meaning.specs.Step.{steps, with_lazy}
use Rattle.md_meaning.specs.Tree.{End}
use Rattle.md_events.specs.Exact.Places.{TextLine, line_at, whole}
use Rattle.md_events.specs.Exact.Prefixes.{containers, following_all}
use Rattle.md_events.specs.Exact.Rows.{AfterCode, Blank, Delimiter, First, FirstText, Further, FurtherText, Head, Role}
use Rattle.md_events.specs.Exact.Rows.{Underline, first_or, fresh_role, is_blank_role, role_before, role_on, row_of}
use Rattle.proof_exact_lines.specs.Last.{HasLine}
use Rattle.proof_exact_lines.proofs.ExactListed.{by-new}
use Rattle.proof_exact_lines.proofs.LineWalk.{after}
use Rattle.proof_exact_lines.proofs.RowLast.{begins-facts, new_on, on_of, remains-facts}
use Rattle.proof_exact_lines.proofs.StepLast.{held_in}
use Rattle.proof_exact.specs.Parts.{IsCut, nothing_open, open_after, placed_lines}
use Rattle.proof_exact.proofs.CutAfter.{cut-filled, text-after}
use Rattle.proof_exact.proofs.LinesParts.{steps-append}

-- Bytes.

-- they end with a line ending of one byte, and the byte before that is no space, no tab and of no line ending
abbrev pub EndFilled : List ℕ → Type 0
EndFilled [] = ⊥
EndFilled (b ∷ []) = ⊥
EndFilled (b ∷ c ∷ []) = (is_ending b ≡ false) × (is_white b ≡ false) × (is_ending c ≡ true)
EndFilled (b ∷ c ∷ d ∷ bytes) = EndFilled (c ∷ d ∷ bytes)

-- the last of some lines, given with their endings, is not blank
record FullFilled (fulls : List (List ℕ)) : Type 0 where
  front : List (List ℕ)
  last : List ℕ
  are : fulls ≡ front ++ last ∷ []
  filled : is_blank (without_ending last) ≡ false

last-ends : (c : ℕ) → is_ending c ≡ true → ends_line c [] ≡ true
last-ends c h = go (c == 10) (c == 13) h
  where
    go : (x y : Bool) → (x || y) ≡ true → (x || (y && true)) ≡ true
    go true y h = refl
    go false y h = by y h
      where
        by : (y : Bool) → y ≡ true → (y && true) ≡ true
        by true h = refl
        by false h = cc

inside-line : (b : ℕ) (bytes : List ℕ) → is_ending b ≡ false → ends_line b bytes ≡ false
inside-line b bytes h = go (b == 10) (b == 13) h
  where
    go : (x y : Bool) → (x || y) ≡ false → (x || (y && not (begins_with 10 bytes))) ≡ false
    go true y h = cc
    go false true h = cc
    go false false h = refl

without-first : (b : ℕ) (line : List ℕ) (x : Bool) → is_ending b ≡ x →
    without_ending (b ∷ line) ≡ cond (not x) (b ∷ without_ending line) []
without-first b line x e =
    take_while-cons (λ (c : ℕ). not (is_ending c)) b line
    ∙ ap (λ (t : Bool). cond (not t) (b ∷ without_ending line) []) e

and-false : (x : Bool) → (x && false) ≡ false
and-false true = refl
and-false false = refl

-- a CR before these bytes, of which LF is first
before-feed : (b c : ℕ) (bytes : List ℕ) → is_ending b ≡ true → ends_line b (c ∷ bytes) ≡ false → (c == 10) ≡ true
before-feed b c bytes h e = go (b == 10) (b == 13) (c == 10) h e
  where
    go : (x y z : Bool) → (x || y) ≡ true → (x || (y && not z)) ≡ false → z ≡ true
    go true y z h e = cc
    go false y true h e = refl
    go false true false h e = cc
    go false false false h e = cc

-- where LF is first, its line has nothing else
feed-first : (c : ℕ) (bytes : List ℕ) → (c == 10) ≡ true → full_lines_of (c ∷ bytes) ≡ (c ∷ []) ∷ full_lines_of bytes
feed-first c bytes e =
    ap
    (λ (x : Bool).
    cond (x || ((c == 13) && not (begins_with 10 bytes))) ((c ∷ []) ∷ full_lines_of bytes)
    (onto_first c (full_lines_of bytes))) e

feed-blank : (c : ℕ) → (c == 10) ≡ true → is_blank (without_ending (c ∷ [])) ≡ true
feed-blank c e =
    ap is_blank (without-first c [] true (ap (λ (x : Bool). x || (c == 13)) e))

-- one byte more before a line
full-more : (b c d : ℕ) (bytes : List ℕ) → FullFilled (full_lines_of (c ∷ d ∷ bytes)) →
    FullFilled (full_lines_of (b ∷ c ∷ d ∷ bytes))
full-more b c d bytes below = go (ends_line b more) refl
  where
    more : List ℕ
    more = c ∷ d ∷ bytes

    is : (x : Bool) → ends_line b more ≡ x → full_lines_of (b ∷ more)
        ≡ cond x ((b ∷ []) ∷ full_lines_of more) (onto_first b (full_lines_of more))
    is x e = ap (λ (y : Bool). cond y ((b ∷ []) ∷ full_lines_of more) (onto_first b (full_lines_of more))) e

    joined : ends_line b more ≡ false → (front : List (List ℕ)) → below.front ≡ front →
        FullFilled (full_lines_of (b ∷ more))
    joined e (first ∷ front) f = record {
      front = (b ∷ first) ∷ front;
      last = below.last;
      are =
          is false e
          ∙ ap (onto_first b) (below.are ∙ ap (λ (l : List (List ℕ)). l ++ below.last ∷ []) f);
      filled = below.filled;
    }
    joined e [] f = record {
      front = [];
      last = b ∷ below.last;
      are = is false e ∙ ap (onto_first b) alone;
      filled = by (is_ending b) refl;
    }
      where
        alone : full_lines_of more ≡ below.last ∷ []
        alone = below.are ∙ ap (λ (l : List (List ℕ)). l ++ below.last ∷ []) f

        first-of : (x y : List ℕ) (xs ys : List (List ℕ)) → x ∷ xs ≡ y ∷ ys → x ≡ y
        first-of x y xs ys k = cc

        by : (x : Bool) → is_ending b ≡ x → is_blank (without_ending (b ∷ below.last)) ≡ false
        by false k =
            ap is_blank (without-first b below.last false k)
            ∙ ap (λ (y : Bool). is_white b && y) below.filled ∙ and-false (is_white b)
        by true k =
            let feed : (c == 10) ≡ true = before-feed b c (d ∷ bytes) k e in
            let same : c ∷ [] ≡ below.last =
            first-of (c ∷ []) below.last (full_lines_of (d ∷ bytes)) [] (sym (feed-first c (d ∷ bytes) feed) ∙ alone) in
            let bad : true ≡ false =
            sym (feed-blank c feed) ∙ ap (λ (l : List ℕ). is_blank (without_ending l)) same ∙ below.filled in
            absurd (cc)

    go : (x : Bool) → ends_line b more ≡ x → FullFilled (full_lines_of (b ∷ more))
    go true e = record {
      front = (b ∷ []) ∷ below.front;
      last = below.last;
      are = is true e ∙ ap (λ (l : List (List ℕ)). (b ∷ []) ∷ l) below.are;
      filled = below.filled;
    }
    go false e = joined e below.front refl

full-filled : (bytes : List ℕ) → EndFilled bytes → FullFilled (full_lines_of bytes)
full-filled [] h = absurd h
full-filled (b ∷ []) h = absurd h
full-filled (b ∷ c ∷ []) h = record {
  front = [];
  last = b ∷ c ∷ [];
  are =
      ap (λ (x : Bool). cond x ((b ∷ []) ∷ full_lines_of (c ∷ [])) (onto_first b (full_lines_of (c ∷ []))))
      (inside-line b (c ∷ []) h.0)
      ∙ ap (λ (x : Bool). onto_first b (cond x ((c ∷ []) ∷ []) (onto_first c []))) (last-ends c h.2);
  filled =
      ap is_blank
      (without-first b (c ∷ []) false h.0 ∙ ap (λ (l : List ℕ). b ∷ l) (without-first c [] true h.2))
      ∙ ap (λ (x : Bool). x && true) h.1;
}
full-filled (b ∷ c ∷ d ∷ bytes) h = full-more b c d bytes (full-filled (c ∷ d ∷ bytes) h)

-- Lines at their places.

-- the last of them is not blank
pub record LastFilled (lines : List TextLine) : Type 0 where
  pub front : List TextLine
  pub last : TextLine
  pub are : lines ≡ front ++ last ∷ []
  pub filled : is_blank last.bytes ≡ false

place-last : (number index column : ℕ) (front : List (List ℕ)) (last : List ℕ) →
    is_blank (without_ending last) ≡ false → LastFilled (placed_lines number index column (front ++ last ∷ []))
place-last number index column [] last h = record {
  front = [];
  last = line_at number index column last;
  are = refl;
  filled = h;
}
place-last number index column (full ∷ front) last h =
    let below = place-last (number + 1) (index + length full) 0 front last h in
    record {
      front = line_at number index column full ∷ below.front;
      last = below.last;
      are = ap (λ (l : List TextLine). line_at number index column full ∷ l) below.are;
      filled = below.filled;
    }

pub last-filled : (number index column : ℕ) (bytes : List ℕ) → EndFilled bytes →
    LastFilled (placed_lines number index column (full_lines_of bytes))
last-filled number index column bytes h =
    let is = full-filled bytes h in
    subst (λ (fulls : List (List ℕ)). LastFilled (placed_lines number index column fulls)) (sym is.are)
    (place-last number index column is.front is.last is.filled)

-- Its role.

first-role : (options : ParseOptions) (other : Role) (o : Option LeafResult) → is_blank_role other ≡ false →
    is_blank_role (first_or other o) ≡ false
first-role options other None h = h
first-role options other (Some c) h = refl

text-role : (x y z : Bool) (o : Option LeafResult) →
    is_blank_role (cond x (cond y Underline FurtherText) (first_or (cond z Delimiter FurtherText) o)) ≡ false
text-role true true z o = refl
text-role true false z o = refl
text-role false y z (Some c) = refl
text-role false y true None = refl
text-role false y false None = refl

-- one that is fresh stays what it is before the end of a text
fresh-filled : (options : ParseOptions) (leaf : Leaf) (r : Rest) → is_blank_role (fresh_role options leaf r) ≡ false
fresh-filled options (OpenParagraph lines) r =
    text-role (is_some (underline_depth options r)) (nat_lt 0 (length (cut options (texts lines)).1))
    (is_some (table_at options End lines r)) (starts options Text r)
fresh-filled options NoLeaf r = first-role options FirstText (starts options NoText r) refl
fresh-filled options (OpenCode lines) r = first-role options FirstText (starts options NoText r) refl
fresh-filled options (OpenFence o lines) r = first-role options FirstText (starts options NoText r) refl
fresh-filled options (OpenHtml kind lines) r = first-role options FirstText (starts options NoText r) refl
fresh-filled options (OpenTable d rows) r = first-role options FirstText (starts options NoText r) refl

before-filled : (r : Rest) (role : Role) → is_blank r.bytes ≡ false → is_blank_role role ≡ false →
    is_blank_role (role_before Blank r role) ≡ false
before-filled r (Further (OpenCode lines)) blank h =
    ap (λ (x : Bool). is_blank_role (cond x AfterCode (Further (OpenCode lines)))) blank
before-filled r (Further NoLeaf) blank h = refl
before-filled r (Further (OpenParagraph lines)) blank h = refl
before-filled r (Further (OpenFence o lines)) blank h = refl
before-filled r (Further (OpenHtml kind lines)) blank h = refl
before-filled r (Further (OpenTable d rows)) blank h = refl
before-filled r Blank blank h = h
before-filled r (First c) blank h = refl
before-filled r FirstText blank h = refl
before-filled r FurtherText blank h = refl
before-filled r Underline blank h = refl
before-filled r Head blank h = refl
before-filled r Delimiter blank h = refl
before-filled r AfterCode blank h = h

on-filled : (options : ParseOptions) (leaf : Leaf) (r : Rest) → is_blank r.bytes ≡ false →
    is_blank_role (role_on options leaf r) ≡ false
on-filled options leaf r h = go (is_some (is_continued options leaf r))
  where
    go : (x : Bool) →
        is_blank_role (cond x (Further leaf) (cond (is_blank r.bytes) Blank (fresh_role options leaf r))) ≡ false
    go true = refl
    go false =
        ap (λ (x : Bool). is_blank_role (cond x Blank (fresh_role options leaf r))) h ∙ fresh-filled options leaf r

role-filled : (options : ParseOptions) (lazy : Bool) (leaf : Leaf) (r : Rest) →
    (lazy ≡ false → is_blank r.bytes ≡ false) →
    is_blank_role (role_before Blank r (cond lazy FurtherText (role_on options leaf r))) ≡ false
role-filled options true leaf r h = refl
role-filled options false leaf r h =
    before-filled r (role_on options leaf r) (h refl) (on-filled options leaf r (h refl))

none-taken : (ts : List Taken) → length ts ≡ 0 → ts ≡ []
none-taken [] e = refl
none-taken (t ∷ ts) e = cc

-- A line that is not blank has no blank role, where no container is open after it.
pub line-filled : (options : ParseOptions) (p : Path) (line : TextLine) → HasLine (spot p).leaf →
    containers (after options p line) ≡ [] → is_blank line.bytes ≡ false →
    is_blank_role (row_of options p line []).role ≡ false
line-filled options p line h shut filled =
    by-new options p line
    (λ t ts e.
    let held = (begins-facts options p line [] h t ts e).opens.held in
    absurd
    (omega (
      arith,
      ap (λ (cs : List Container). length cs) (sym shut ∙ held),
      length-append (held_in (on_of options p line)) (held_in (t ∷ ts)),
    )))
    (λ e.
    role-filled options (lazy) (leaf) (rest)
    (λ still. ap (λ (r : Rest). is_blank r.bytes) (left e still) ∙ filled))
  where
    on : List Taken
    on = on_of options p line

    new : List Taken
    new = new_on options p line

    all : Bool
    all = length on == length (containers p)

    rest : Rest
    rest = following_all (following_all (whole line) on) new

    lazy : Bool
    lazy = not all && (length new == 0) && is_some (with_lazy options (spot p).leaf rest)

    leaf : Leaf
    leaf = cond (all && (length new == 0)) (spot p).leaf NoLeaf

    none : new ≡ [] → lazy ≡ false → on ≡ []
    none e still =
        none-taken on
        (sym (ap (λ (x : Bool). cond x (length (containers p)) (length on)) still)
        ∙ sym (remains-facts options p line [] h e).size
        ∙ ap (λ (cs : List Container). length cs) shut)

    left : new ≡ [] → lazy ≡ false → rest ≡ whole line
    left e still =
        ap (following_all (following_all (whole line) on)) e
        ∙ ap (following_all (whole line)) (none e still)

-- So a text may be cut after such a line, where nothing is open.
pub filled-cut : (options : ParseOptions) (lines : List TextLine) → LastFilled lines →
    containers (open_after options nothing_open lines) ≡ [] →
    (spot (open_after options nothing_open lines)).leaf ≡ NoLeaf → IsCut options lines
filled-cut options lines is none closed =
    subst (IsCut options) (sym is.are)
    (cut-filled options is.front is.last shut (sym (ap (λ (q : Path). (spot q).leaf) same) ∙ closed)
    (line-filled options p is.last (text-after options nothing_open is.front tt) shut is.filled))
  where
    p : Path
    p = open_after options nothing_open is.front

    same : open_after options nothing_open lines ≡ after options p is.last
    same =
        ap (open_after options nothing_open) is.are
        ∙ ap (steps options nothing_open) (map-append whole is.front (is.last ∷ []))
        ∙ steps-append options nothing_open (map whole is.front) (whole is.last ∷ [])

    shut : containers (after options p is.last) ≡ []
    shut = sym (ap containers same) ∙ none
