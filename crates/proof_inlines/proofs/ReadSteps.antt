-- What a text part has read so far, and what its next chunk adds to it.
use Rattle.std.proofs.Common.{◌≡◌, ℕ, Bool, true, false, cond, not, ◌&&◌, ◌⊎◌, inl, inr, List, [], ◌∷◌}
use Rattle.std.proofs.Common.{◌++◌, length, drop, refl, ap, sym, ◌∙◌, arith, append_assoc, append-nil}
use Rattle.std.specs.Prelude.{◌==◌}
use Rattle.std.proofs.lemmas.Bool.{and_from, and_parts, both_ways, not-true, or_parts}
use Rattle.std.proofs.lemmas.List.{take_all}
use Rattle.std.proofs.lemmas.List.Sums.{take_while-cons}
use Rattle.md_meaning.specs.Ascii.{line_feed}
use Rattle.md_meaning.specs.Lines.{begins_with, is_ending, without_ending}
use Rattle.md_meaning.specs.Rest.{is_blank, is_white, trim_end, trim_start}
use Rattle.md_meaning.specs.Texts.{split_lines}
use Rattle.md_meaning.proofs.LinesLemmas.{without_ending-cons}
use Rattle.md_meaning.proofs.TextsLemmas.{Both, Ending, EndsBefore, LineFeed, Return, ending_bytes}
use Rattle.md_events.specs.Events.Inline.{is_one_line}
use Rattle.md_events.specs.Events.PieceRules.{is_in_line}
use Rattle.md_events.proofs.InlineLemmas.{line-no_ending}
use Rattle.md_inline_events.specs.Woven.{as_feed, read_side, sides}
use Rattle.proof_inlines.proofs.LineTexts.{Ended, ended-of, last_read, line_read, read-byte, read-last, read-next}
use Rattle.proof_inlines.proofs.LineTexts.{read-white, text_read, white-plain}

-- a text that is not empty
abbrev pub IsSome : List ℕ → Type 0
IsSome [] = ⊥
IsSome (b ∷ text) = Unit {0}

-- So much is read of a text that goes on with a further line, or with whitespace before it.
abbrev pub Goes : List ℕ → List ℕ → Type 0
Goes text read =
    (more : List ℕ) → begins_with line_feed more ≡ false → text_read (text ++ more) ≡ read ++ text_read more

-- So much is read of a text after its last line.
abbrev pub Gone : List ℕ → List ℕ → Type 0
Gone text read =
    ((white : List ℕ) → is_blank white ≡ true → text_read (text ++ white) ≡ read) × IsSome text

-- A text takes a chunk whole, or without a space or tab at its front.
abbrev pub Takes : List ℕ → List ℕ → Type 0
Takes chunk taken = (taken ≡ chunk) ⊎ ((b : ℕ) × (is_white b ≡ true) × (chunk ≡ b ∷ taken))

takes-read : (chunk taken more : List ℕ) → Takes chunk taken → text_read (taken ++ more) ≡ text_read (chunk ++ more)
takes-read chunk taken more (inl same) = ap (λ (l : List ℕ). text_read (l ++ more)) same
takes-read chunk taken more (inr cut) =
    sym (read-byte cut.0 (taken ++ more) cut.1) ∙ sym (ap (λ (l : List ℕ). text_read (l ++ more)) cut.2)

line-none : (b : ℕ) (text : List ℕ) → is_ending b ≡ true → without_ending (b ∷ text) ≡ []
line-none b text e =
    take_while-cons (λ (c : ℕ). not (is_ending c)) b text
    ∙ ap (λ (t : Bool). cond (not t) (b ∷ without_ending text) []) e

-- a line that is not blank begins with no ending
pub filled-first : (text more : List ℕ) → is_blank (without_ending text) ≡ false →
    (begins_with line_feed (text ++ more) ≡ false) × IsSome text
filled-first [] more h = cc
filled-first (b ∷ text) more h = go (is_ending b) refl
  where
    go : (x : Bool) → is_ending b ≡ x → ((b == line_feed) ≡ false) × Unit {0}
    go true e = absurd (both_ways (is_blank (without_ending (b ∷ text))) h (ap is_blank (line-none b text e)))
    go false e = ((or_parts (b == 10) (b == 13) e).0, tt)

takes-first : (chunk taken more : List ℕ) → Takes chunk taken → is_blank (without_ending chunk) ≡ false →
    (begins_with line_feed (taken ++ more) ≡ false) × IsSome taken
takes-first chunk taken more (inl same) h =
    filled-first taken more (ap (λ (l : List ℕ). is_blank (without_ending l)) same ∙ h)
takes-first chunk taken more (inr cut) h =
    let line : is_blank (cut.0 ∷ without_ending taken) ≡ false =
    ap is_blank (sym (without_ending-cons cut.0 taken (white-plain cut.0 cut.1)))
    ∙ ap (λ (l : List ℕ). is_blank (without_ending l)) (sym cut.2) ∙ h in
    filled-first taken more (sym (ap (λ (t : Bool). t && is_blank (without_ending taken)) cut.1) ∙ line)

-- The steps.

pub goes-start : Goes [] []
goes-start more h = refl

blank-first : (white more : List ℕ) → is_blank white ≡ true → begins_with line_feed more ≡ false →
    begins_with line_feed (white ++ more) ≡ false
blank-first [] more h k = k
blank-first (b ∷ white) more h k =
    let two : (is_white b ≡ true) × (is_blank white ≡ true) = and_parts (is_white b) (is_blank white) h in
    (or_parts (b == 10) (b == 13) (white-plain b two.0)).0

pub goes-white : (text white read : List ℕ) → is_blank white ≡ true → Goes text read → Goes (text ++ white) read
goes-white text white read blank goes more h =
    ap text_read (append_assoc text white more)
    ∙ goes (white ++ more) (blank-first white more blank h)
    ∙ ap (λ (l : List ℕ). read ++ l) (read-white white more blank)

ends-before : (ending : Ending) (more : List ℕ) → begins_with line_feed more ≡ false → EndsBefore ending more
ends-before LineFeed more h = tt
ends-before Return more h = h
ends-before Both more h = tt

chunk-next : (chunk more : List ℕ) → Ended chunk → begins_with line_feed more ≡ false →
    text_read (chunk ++ more) ≡ line_read chunk ++ text_read more
chunk-next chunk more ended h =
    ap (λ (l : List ℕ). text_read (l ++ more)) ended.is
    ∙ read-next (without_ending chunk) ended.ending more (line-no_ending chunk) (ends-before ended.ending more h)
    ∙ sym (append_assoc (trim_start (without_ending chunk)) (line_feed ∷ []) (text_read more))

-- a chunk with its ending
pub goes-chunk : (text chunk taken read : List ℕ) → Takes chunk taken → is_blank (without_ending chunk) ≡ false →
    is_one_line (split_lines chunk) false ≡ true → Goes text read → Goes (text ++ taken) (read ++ line_read chunk)
goes-chunk text chunk taken read takes some one goes more h =
    ap text_read (append_assoc text taken more)
    ∙ goes (taken ++ more) (takes-first chunk taken more takes some).0
    ∙ ap (λ (l : List ℕ). read ++ l) (takes-read chunk taken more takes ∙ chunk-next chunk more (ended-of chunk one) h)
    ∙ sym (append_assoc read (line_read chunk) (text_read more))

in-line : (chunk : List ℕ) → is_in_line chunk ≡ true → without_ending chunk ≡ chunk
in-line [] h = refl
in-line (b ∷ chunk) h =
    let two : (not (is_ending b) ≡ true) × (is_in_line chunk ≡ true) = and_parts (not (is_ending b)) (is_in_line chunk)
    h in
    without_ending-cons b chunk (not-true (is_ending b) two.0) ∙ ap (λ (l : List ℕ). b ∷ l) (in-line chunk two.1)

some-append : (text more : List ℕ) → IsSome more → IsSome (text ++ more)
some-append [] more h = h
some-append (b ∷ text) more h = tt

-- the last chunk, without one
pub gone-chunk : (text chunk taken read : List ℕ) → Takes chunk taken → is_blank (without_ending chunk) ≡ false →
    is_in_line chunk ≡ true → Goes text read → Gone (text ++ taken) (read ++ last_read chunk)
gone-chunk text chunk taken read takes some plain goes = (
  λ white blank.
      ap text_read (append_assoc text taken white)
      ∙ goes (taken ++ white) (takes-first chunk taken white takes some).0
      ∙ ap (λ (l : List ℕ). read ++ l)
      (takes-read chunk taken white takes
      ∙ ap (λ (l : List ℕ). text_read (l ++ white)) (sym (in-line chunk plain))
      ∙ read-last (without_ending chunk) white (line-no_ending chunk) some blank),
  some-append text taken (takes-first chunk taken [] takes some).1,
)

blank-append : (a b : List ℕ) → is_blank a ≡ true → is_blank b ≡ true → is_blank (a ++ b) ≡ true
blank-append [] b h k = k
blank-append (x ∷ a) b h k =
    let two : (is_white x ≡ true) × (is_blank a ≡ true) = and_parts (is_white x) (is_blank a) h in
    and_from (is_white x) (is_blank (a ++ b)) two.0 (blank-append a b two.1 k)

some-front : (text more : List ℕ) → IsSome text → IsSome (text ++ more)
some-front [] more h = absurd h
some-front (b ∷ text) more h = tt

pub gone-white : (text white read : List ℕ) → is_blank white ≡ true → Gone text read → Gone (text ++ white) read
gone-white text white read blank gone = (
  λ more also.
      ap text_read (append_assoc text white more) ∙ gone.0 (white ++ more) (blank-append white more blank also),
  some-front text white gone.1,
)

-- It is what a layer reads of the chunk.

drop-front : (xs ys : List ℕ) → drop (length xs) (xs ++ ys) ≡ ys
drop-front [] ys = refl
drop-front (x ∷ xs) ys = drop-front xs ys

feed-of : (ending : Ending) → as_feed (ending_bytes ending) ≡ line_feed ∷ []
feed-of LineFeed = refl
feed-of Return = refl
feed-of Both = refl

pub side-line : (chunk : List ℕ) → is_one_line (split_lines chunk) false ≡ true →
    read_side (sides true false chunk) ≡ line_read chunk
side-line chunk one =
    let ended : Ended chunk = ended-of chunk one in
    let line : List ℕ = without_ending chunk in
    let rest : List ℕ = trim_start line in
    ap (λ (l : List ℕ). l ++ as_feed (drop (length line) chunk)) (take_all (length rest) rest (omega arith))
    ∙ ap (λ (l : List ℕ). rest ++ as_feed (drop (length line) l)) ended.is
    ∙ ap (λ (l : List ℕ). rest ++ as_feed l) (drop-front line (ending_bytes ended.ending))
    ∙ ap (λ (l : List ℕ). rest ++ l) (feed-of ended.ending)

pub side-last : (chunk : List ℕ) → is_in_line chunk ≡ true → read_side (sides true true chunk) ≡ last_read chunk
side-last chunk plain =
    let line : List ℕ = without_ending chunk in
    let none : drop (length line) chunk ≡ [] =
    ap (drop (length line)) (sym (append-nil chunk) ∙ ap (λ (l : List ℕ). l ++ []) (sym (in-line chunk plain)))
    ∙ drop-front line [] in
    ap (λ (l : List ℕ). trim_end (trim_start line) ++ as_feed l) none ∙ append-nil (trim_end (trim_start line))
