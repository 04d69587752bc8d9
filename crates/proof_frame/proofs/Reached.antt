-- A text that is read reaches to a point of a line: it began no further, whole lines of it are before this one, and of
-- this one whitespace alone. So prefixes of containers may be there, and the text continues after them.
use Rattle.std.proofs.Common.{◌≡◌, ℕ, zero, suc, ◌+◌, ◌-◌, ◌<◌, ◌≤◌, Bool, true, false, cond, ◌||◌, List, [], ◌∷◌, ◌++◌}
use Rattle.std.proofs.Common.{get_or, take, drop, slice_range, refl, ap, sym, ◌∙◌, subst, arith}
use Rattle.std.specs.Prelude.{◌==◌, nat_lt, not, slice_index, Some}
use Rattle.std.specs.List.{onto_first}
use Rattle.std.proofs.lemmas.Bool.{and_from, and_parts, true≢false}
use Rattle.std.proofs.lemmas.Bool.Decides.{nat_tests}
use Rattle.std.proofs.lemmas.List.{get_or-drop}
use Rattle.std.proofs.lemmas.List.Folds.{list_all-append}
use Rattle.md_engine.specs.declared.event.Event.{Event}
use Rattle.md_engine.specs.declared.event.Point.{Point}
use Rattle.md_meaning.specs.Lines.{begins_with, ends_line, is_ending}
use Rattle.md_meaning.specs.Rest.{is_blank, is_white}
use Rattle.md_meaning.specs.Texts.{split_lines}
use Rattle.md_meaning.proofs.TextsLemmas.{Both, Ending, EndsBefore, LineFeed, NoEnding, Return, ending_bytes}
use Rattle.md_meaning.proofs.TextsLemmas.{split-line, split-next}
use Rattle.md_events.specs.Events.Places.{last_line}
use Rattle.md_events.specs.Events.Spelled.{byte_at}
use Rattle.md_events.proofs.FeedLines.{IsEnding, slice-split}
use Rattle.md_outline.specs.Between.{is_between}
use Rattle.md_outline.specs.Outlined.{OpenTextSpan, are_parted, begins_line}
use Rattle.proof_frame.proofs.PartedFacts.{byte-from}

-- Whitespace, and texts that end with it.

pub begins-slice : (bytes : List ℕ) (i j : ℕ) → (slice_index bytes i == 10) ≡ false →
    begins_with 10 (slice_range bytes i j) ≡ false
begins-slice bytes i j h =
    let same : i + 0 ≡ i = omega arith in
    let first : get_or (drop i bytes) 0 0 ≡ slice_index bytes i = get_or-drop i bytes 0 0
    ∙ ap (λ (k : ℕ). get_or bytes k 0) same in
    go (j - i) (drop i bytes) (ap (λ (b : ℕ). b == 10) first ∙ h)
  where
    go : (size : ℕ) (l : List ℕ) → (get_or l 0 0 == 10) ≡ false → begins_with 10 (take size l) ≡ false
    go zero l h = refl
    go (suc size) [] h = refl
    go (suc size) (b ∷ l) h = h

pub blank-plain : (line : List ℕ) → is_blank line ≡ true → NoEnding line
blank-plain [] h = tt
blank-plain (b ∷ line) h =
    let parts = and_parts (is_white b) (is_blank line) h in
    (plain b parts.0, blank-plain line parts.1)
  where
    plain : (b : ℕ) → is_white b ≡ true → is_ending b ≡ false
    plain b h = grind (arith, nat_tests)

pub blank-begins : (line : List ℕ) → is_blank line ≡ true → begins_with 10 line ≡ false
blank-begins [] h = refl
blank-begins (b ∷ line) h = let parts = and_parts (is_white b) (is_blank line) h in white b parts.0
  where
    white : (b : ℕ) → is_white b ≡ true → (b == 10) ≡ false
    white b h = grind (arith, nat_tests)

pub blank-last : (line : List ℕ) → is_blank line ≡ true → is_blank (last_line (split_lines line)) ≡ true
blank-last line h = ap (λ (ls : List (List ℕ)). is_blank (last_line ls)) (split-line line (blank-plain line h)) ∙ h

-- lines of which the last is another than the first, and blank
abbrev pub EndBlank : List (List ℕ) → Type 0
EndBlank [] = ⊥
EndBlank (line ∷ []) = ⊥
EndBlank (line ∷ next ∷ lines) = is_blank (last_line (next ∷ lines)) ≡ true

pub end-blank : (lines : List (List ℕ)) → EndBlank lines → is_blank (last_line lines) ≡ true
end-blank [] h = absurd h
end-blank (line ∷ []) h = absurd h
end-blank (line ∷ next ∷ lines) h = h

-- a text that ends with an ending and whitespace
pub ended-blank : (text : List ℕ) (ending : Ending) (white : List ℕ) → is_blank white ≡ true →
    EndBlank (split_lines (text ++ (ending_bytes ending ++ white)))
ended-blank [] ending white h =
    let lines : split_lines (ending_bytes ending ++ white) ≡
    [] ∷ white ∷ [] = split-next [] ending white tt (before ending)
    ∙ ap (λ (ls : List (List ℕ)). [] ∷ ls) (split-line white (blank-plain white h)) in
    subst EndBlank (sym lines) h
  where
    before : (e : Ending) → EndsBefore e white
    before LineFeed = tt
    before Return = blank-begins white h
    before Both = tt
ended-blank (b ∷ text) ending white h =
    let rest : List ℕ = text ++ (ending_bytes ending ++ white) in
    go (split_lines rest) (ended-blank text ending white h) (ends_line b rest) (is_ending b)
  where
    go : (lines : List (List ℕ)) → EndBlank lines → (x y : Bool) →
        EndBlank (cond x ([] ∷ lines) (cond y lines (onto_first b lines)))
    go [] k x y = absurd k
    go (line ∷ []) k x y = absurd k
    go (line ∷ next ∷ lines) k true y = k
    go (line ∷ next ∷ lines) k false true = k
    go (line ∷ next ∷ lines) k false false = k

-- a text that is the first piece, or begins with no line feed
abbrev pub Fine : List ℕ → OpenTextSpan → Type 0
Fine bytes span = (not span.is_parted || not (slice_index bytes span.from == 10)) ≡ true

pub begins-fine : (bytes : List ℕ) (span : OpenTextSpan) (j : ℕ) → Fine bytes span →
    begins_line span (slice_range bytes span.from j) ≡ true
begins-fine bytes span j h = go span.is_parted h
  where
    other : (x : Bool) → not x ≡ true → x ≡ false
    other true h = absurd (true≢false (sym h))
    other false h = refl

    go : (x : Bool) → (not x || not (slice_index bytes span.from == 10)) ≡ true →
        (not x || not (begins_with 10 (slice_range bytes span.from j))) ≡ true
    go false h = refl
    go true h = ap not (begins-slice bytes span.from j (other (slice_index bytes span.from == 10) h))

-- Where a text reaches to.

-- a prefix may be after whitespace from a point on
abbrev pub Marks : List ℕ → Point → OpenTextSpan → Type 0
Marks bytes p span = (j : ℕ) → byte_at p ≤ j → is_blank (slice_range bytes p.index j) ≡ true →
    (begins_line span (slice_range bytes span.from j) ≡ true) ×
    (is_blank (last_line (split_lines (slice_range bytes span.from j))) ≡ true)

-- a text, or its last piece, reaches to a point
pub record Reaches (bytes : List ℕ) (p : Point) (span : OpenTextSpan) : Type 0 where
  pub marks : Marks bytes p span
  pub from : span.from ≤ byte_at p

-- the piece of a text after a prefix
abbrev pub following_prefix : Point → OpenTextSpan
following_prefix q = record { from = byte_at q; is_parted = true }

-- what may be in a text that reaches to it: the text, or its next piece, reaches to its end
abbrev pub PartsText : List ℕ → Point → Point → List Event → Type 0
PartsText bytes p q es =
    (span : OpenTextSpan) (rest : List Event) → Reaches bytes p span → is_between bytes (byte_at q) ≡ true →
    ((next : OpenTextSpan) → Reaches bytes q next → are_parted bytes (Some next) rest ≡ true) →
    are_parted bytes (Some span) (es ++ rest) ≡ true

-- after a prefix a further one may be
pub marks-following : (bytes : List ℕ) (q : Point) → Marks bytes q (following_prefix q)
marks-following bytes q j h blank =
    let white : is_blank (slice_range bytes (byte_at q) j) ≡ true = rest (q.vs == 0) h in
    (ap not (blank-begins (slice_range bytes (byte_at q) j) white), blank-last (slice_range bytes (byte_at q) j) white)
  where
    rest : (x : Bool) → cond x q.index (q.index + 1) ≤ j →
        is_blank (slice_range bytes (cond x q.index (q.index + 1)) j) ≡ true
    rest true h = blank
    rest false h =
        let one : List ℕ = slice_range bytes q.index (q.index + 1) in
        let more : List ℕ = slice_range bytes (q.index + 1) j in
        let both : is_blank (one ++ more) ≡
        true = ap is_blank (sym (slice-split bytes q.index (q.index + 1) j (omega arith) h))
        ∙ blank in
        (and_parts (is_blank one) (is_blank more) (sym (list_all-append is_white one more) ∙ both)).1

pub reaches-following : (bytes : List ℕ) (q : Point) → Reaches bytes q (following_prefix q)
reaches-following bytes q = record { marks = marks-following bytes q; from = omega arith }

-- a line of text ends before an ending, after which prefixes may be
marks-ended : (bytes : List ℕ) (p q : Point) (span : OpenTextSpan) → IsEnding bytes p q → Fine bytes span →
    span.from ≤ p.index → Marks bytes q span
marks-ended bytes p q span ending fine within j h blank =
    let size : p.index ≤ q.index = omega (arith, ending.size) in
    let further : q.index ≤ j = later (byte-from q) h in
    let front : List ℕ = slice_range bytes span.from p.index in
    let white : List ℕ = slice_range bytes q.index j in
    let piece : slice_range bytes span.from j ≡ front ++ (ending_bytes ending.ending ++ white) =
    slice-split bytes span.from p.index j within (later size further)
    ∙ ap (λ (l : List ℕ). front ++ l)
    (slice-split bytes p.index q.index j size further ∙ ap (λ (l : List ℕ). l ++ white) ending.text) in
    let last : EndBlank
    (split_lines (front ++ (ending_bytes ending.ending ++ white))) = ended-blank front ending.ending white blank in (
      begins-fine bytes span j fine,
      ap (λ (l : List ℕ). is_blank (last_line (split_lines l))) piece
          ∙ end-blank (split_lines (front ++ (ending_bytes ending.ending ++ white))) last,
    )
  where
    later : {a b c : ℕ} → a ≤ b → b ≤ c → a ≤ c
    later h k = omega (arith, h, k)

pub reaches-ended : (bytes : List ℕ) (p q : Point) (span : OpenTextSpan) → IsEnding bytes p q → Fine bytes span →
    span.from ≤ p.index → Reaches bytes q span
reaches-ended bytes p q span ending fine within = record {
  marks = marks-ended bytes p q span ending fine within;
  from = let following = byte-from q in omega (arith, within, following, ending.size);
}

-- Where the line continues with its text.

-- the first byte of a piece
begins-first : (bytes : List ℕ) (i j : ℕ) → i < j →
    begins_with 10 (slice_range bytes i j) ≡ (slice_index bytes i == 10)
begins-first bytes i j h =
    let same : i + 0 ≡ i = omega arith in
    let first : get_or (drop i bytes) 0 0 ≡ slice_index bytes i = get_or-drop i bytes 0 0
    ∙ ap (λ (k : ℕ). get_or bytes k 0) same in
    go (j - i) (drop i bytes) (omega (arith, h)) ∙ ap (λ (b : ℕ). b == 10) first
  where
    go : (size : ℕ) (l : List ℕ) → 0 < size → begins_with 10 (take size l) ≡ (get_or l 0 0 == 10)
    go zero l h = absurd (omega (arith, h))
    go (suc size) [] h = refl
    go (suc size) (b ∷ l) h = refl

-- what a point is within is whitespace, if its byte is
pub cut-white : (bytes : List ℕ) (p : Point) → ((p.vs == 0) ≡ false → is_white (slice_index bytes p.index) ≡ true) →
    is_blank (slice_range bytes p.index (byte_at p)) ≡ true
cut-white bytes p h = go (p.vs == 0) h
  where
    one : (size : ℕ) (l : List ℕ) → size ≤ 1 → is_white (get_or l 0 0) ≡ true → is_blank (take size l) ≡ true
    one zero l h k = refl
    one (suc size) [] h k = refl
    one (suc zero) (b ∷ l) h k = and_from (is_white b) true k refl
    one (suc (suc size)) (b ∷ l) h k = absurd (omega (arith, h))

    none : (size : ℕ) (l : List ℕ) → size ≡ 0 → is_blank (take size l) ≡ true
    none size l e = ap (λ (k : ℕ). is_blank (take k l)) e

    first : get_or (drop p.index bytes) 0 0 ≡ slice_index bytes p.index
    first =
        let same : p.index + 0 ≡ p.index = omega arith in
        get_or-drop p.index bytes 0 0 ∙ ap (λ (k : ℕ). get_or bytes k 0) same

    go : (x : Bool) → (x ≡ false → is_white (slice_index bytes p.index) ≡ true) →
        is_blank (slice_range bytes p.index (cond x p.index (p.index + 1))) ≡ true
    go true h = none (p.index - p.index) (drop p.index bytes) (omega arith)
    go false h =
        one (p.index + 1 - p.index) (drop p.index bytes) (omega arith) (ap is_white first ∙ h refl)

-- so a text that reaches to a line of text begins with no line feed after a prefix
pub reaches-fine : (bytes : List ℕ) (p : Point) (span : OpenTextSpan) → Reaches bytes p span →
    not (slice_index bytes (byte_at p) == 10) ≡ true → is_blank (slice_range bytes p.index (byte_at p)) ≡ true →
    Fine bytes span
reaches-fine bytes p span reaches fine white = go (nat_lt span.from (byte_at p)) refl
  where
    from : span.from ≤ byte_at p
    from = reaches.from

    either : (x y : Bool) → y ≡ true → (x || y) ≡ true
    either true y h = refl
    either false y h = h

    go : (x : Bool) → nat_lt span.from (byte_at p) ≡ x →
        (not span.is_parted || not (slice_index bytes span.from == 10)) ≡ true
    go true e =
        let less : span.from < byte_at p = grind (arith, nat_tests) in
        ap (λ (x : Bool). not span.is_parted || not x) (sym (begins-first bytes span.from (byte_at p) less))
        ∙ (reaches.marks (byte_at p) (omega arith) white).0
    go false e =
        let least : byte_at p ≤ span.from = grind (arith, nat_tests) in
        let same : byte_at p ≡ span.from = omega (arith, from, least) in
        either (not span.is_parted) (not (slice_index bytes span.from == 10))
        (subst (λ (i : ℕ). not (slice_index bytes i == 10) ≡ true) same fine)
