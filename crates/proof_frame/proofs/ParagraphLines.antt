-- The lines of a paragraph as they are collected.
use Rattle.std.proofs.Common.{◌≡◌, ℕ, ◌≤◌, true, false, List, [], ◌∷◌, ◌++◌, slice_range, refl, ap, sym, ◌∙◌}
use Rattle.std.proofs.Common.{subst, append_assoc, arith}
use Rattle.std.proofs.lemmas.Bool.{and_parts}
use Rattle.std.proofs.lemmas.Bool.Decides.{nat_tests}
use Rattle.md_engine.specs.declared.event.Event.{Event}
use Rattle.md_engine.specs.declared.event.Point.{Point}
use Rattle.md_meaning.specs.Lines.{begins_with}
use Rattle.md_meaning.specs.Rest.{is_blank, is_white}
use Rattle.md_events.specs.Events.Spelled.{Text, begun, byte_at, text_to}
use Rattle.md_meaning.specs.State.{Container, ParagraphLine, texts}
use Rattle.md_meaning.specs.Texts.{trim_each}
use Rattle.md_events.proofs.SpelledLemmas.{Between, Roles, roles-append, text_after}
use Rattle.md_meaning.proofs.TextsLemmas.{Both, Ending, EndsBefore, IsOfLines, LineFeed, NoEnding, Return, ending_bytes}
use Rattle.md_outline.proofs.TextCuts.{trim-blank}
use Rattle.proof_frame.specs.Row.{Row, last_row, read_lines}
use Rattle.proof_frame.proofs.FrontFacts.{Following, Begins, LinePrefix, Proceeds}
use Rattle.proof_frame.proofs.CollectFacts.{Collects, slice-none, blank-append}
use Rattle.proof_frame.proofs.PrefixNames.{prefixes-roles}

-- what is before a line that continues is quiet but for prefixes
pub fronts-between : (bytes : List ℕ) (opens : List Container) (p q : Point) (es : List Event) →
    LinePrefix bytes opens p q es → opens ≡ [] → Roles Between es
fronts-between bytes opens p q es (Following r) none = tt
fronts-between bytes opens p q es (Proceeds many a b d xs ys further more) none =
    roles-append Between xs ys (prefixes-roles Between xs tt tt tt further.names)
    (fronts-between bytes many b d ys more none)
fronts-between bytes opens p q es (Begins c many a b d xs ys opening more) none = cc

-- what is before a line that continues leaves whitespace alone
pub collects-fronts : (bytes : List ℕ) (opens : List Container) (p q : Point) (es ys : List Event) (end : ℕ)
    (all : List ℕ) →
    LinePrefix bytes opens p q es → opens ≡ [] → Collects bytes ys (byte_at q) end all →
    (white : List ℕ) × (is_blank white ≡ true) × Collects bytes (es ++ ys) (byte_at p) end (white ++ all)
collects-fronts bytes opens p q es ys end all (Following r) none c = ([], refl, c)
collects-fronts bytes opens p q es ys end all (Proceeds many a b d xs zs further more) none c =
    let next = collects-fronts bytes many b d zs ys end all more none c in
    let here = further.collects (zs ++ ys) end (next.0 ++ all) next.2 in (
      here.0 ++ next.0,
      blank-append here.0 next.0 here.1 next.1,
      subst (λ (l : List Event). Collects bytes l (byte_at a) end ((here.0 ++ next.0) ++ all))
          (sym (append_assoc xs zs ys))
          (subst (Collects bytes (xs ++ (zs ++ ys)) (byte_at a) end) (sym (append_assoc here.0 next.0 all)) here.2),
    )
collects-fronts bytes opens p q es ys end all (Begins container many a b d xs zs opening more) none c = absurd cc

-- bytes before the first line
abbrev pub onto_line : List ℕ → List (List ℕ) → List (List ℕ)
onto_line white [] = []
onto_line white (line ∷ lines) = (white ++ line) ∷ lines

white-no_ending : (white line : List ℕ) → is_blank white ≡ true → NoEnding line → NoEnding (white ++ line)
white-no_ending [] line h none = none
white-no_ending (b ∷ white) line h none =
    let parts = and_parts (is_white b) (is_blank white) h in
    let here = parts.0 in
    (grind (arith, nat_tests), white-no_ending white line parts.1 none)

pub of-white : (white : List ℕ) (own : List (List ℕ)) (all : List ℕ) → is_blank white ≡ true → IsOfLines own all →
    IsOfLines (onto_line white own) (white ++ all)
of-white white [] all blank is = is
of-white white (line ∷ []) all blank is = (white-no_ending white line blank is.0, ap (λ (l : List ℕ). white ++ l) is.1)
of-white white (line ∷ next ∷ lines) all blank is = (
  white-no_ending white line blank is.0,
  (
    is.1.0,
    is.1.1,
    is.1.2,
    ap (λ (l : List ℕ). white ++ l) is.1.3 ∙ sym (append_assoc white (line ++ ending_bytes is.1.0) is.1.1)
        ∙ ap (λ (l : List ℕ). l ++ is.1.1) (sym (append_assoc white line (ending_bytes is.1.0))),
    is.1.4,
  ),
)

pub trim-onto : (white : List ℕ) (own : List (List ℕ)) → is_blank white ≡ true →
    trim_each (onto_line white own) ≡ trim_each own
trim-onto white [] blank = refl
trim-onto white (line ∷ lines) blank = ap (λ (l : List ℕ). l ∷ trim_each lines) (trim-blank white line blank)

pub begins-white : (white all : List ℕ) → is_blank white ≡ true → begins_with 10 all ≡ false →
    begins_with 10 (white ++ all) ≡ false
begins-white [] all blank h = h
begins-white (b ∷ white) all blank h =
    let here = (and_parts (is_white b) (is_blank white) blank).0 in grind (arith, nat_tests)

pub ends-before : (ending : Ending) (rest : List ℕ) → begins_with 10 rest ≡ false → EndsBefore ending rest
ends-before LineFeed rest h = tt
ends-before Return rest h = h
ends-before Both rest h = tt

-- a line, its ending, and further lines
pub lines-more : (line : List ℕ) (own : List (List ℕ)) (text : List ℕ) (ending : Ending) (rest : List ℕ) →
    NoEnding line → EndsBefore ending rest → text ≡ line ++ ending_bytes ending ++ rest → IsOfLines own rest →
    IsOfLines (line ∷ own) text
lines-more line [] text ending rest none before is own = absurd own
lines-more line (next ∷ lines) text ending rest none before is own = (none, (ending, rest, before, is, own))

-- The lines of a paragraph, as they are read.
pub record IsRead (bytes : List ℕ) (row : Row) (rows : List Row) (lines : List ParagraphLine) : Type 0 where
  pub own : List (List ℕ)
  pub all : List ℕ
  pub collects : (t : Text) → t.from ≤ byte_at row.first →
      text_to bytes (last_row row rows).end.index (text_after bytes t (read_lines bytes row rows)) ≡
      t.front ++ (slice_range bytes t.from (byte_at row.first) ++ all)
  pub are : IsOfLines own all
  pub begins : begins_with 10 all ≡ false
  pub texts_are : texts lines ≡ trim_each own
  pub between : Roles Between (read_lines bytes row rows)

-- what is said of them is their lines
pub lines-recorded : (bytes : List ℕ) (row : Row) (rows : List Row) (lines : List ParagraphLine) →
    (is : IsRead bytes row rows lines) →
    IsOfLines is.own
    (text_to bytes (last_row row rows).end.index (text_after bytes (begun row.first) (read_lines bytes row rows)))
lines-recorded bytes row rows lines is =
    let text : text_to bytes (last_row row rows).end.index
    (text_after bytes (begun row.first) (read_lines bytes row rows)) ≡
    is.all =
    is.collects (begun row.first) (omega arith)
    ∙ ap (λ (l : List ℕ). l ++ is.all) (slice-none bytes (byte_at row.first)) in
    subst (IsOfLines is.own) (sym text) is.are
