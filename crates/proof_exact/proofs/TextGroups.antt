-- Groups of lines of text: a paragraph after its definitions, and what an underline makes of it.
use Rattle.std.proofs.Common.{◌≡◌, ℕ, ◌^◌, ◌<◌, suc, Bool, true, false, List, [], ◌∷◌, ◌++◌, length, refl, sym, ap}
use Rattle.std.proofs.Common.{◌∙◌, subst, arith}
use Rattle.std.proofs.lemmas.Bool.Decides.{nat_tests}
use Rattle.std.specs.Prelude.{◌==◌, ◌&&◌}
use Rattle.md_engine.specs.declared.configuration.ParseOptions.{ParseOptions}
use Rattle.md_engine.specs.declared.event.Name.TheVariants as n
use Rattle.md_engine.specs.declared.tokenizer.held_leaf.HeldLeaf.TheVariants as held_leaf
use Rattle.md_engine.specs.declared.tokenizer.held_leaf.OpenText.{OpenText}
use Rattle.proof_leaf_laws.proofs.HeadingSetext.Kinds.{setext-starts}
use Rattle.md_link_definitions.specs.OpenText.{open_text}
use Rattle.md_link_definitions.specs.Progress.{progress_of, step}
use Rattle.md_meaning.specs.Rest.{Rest, is_blank, trim_start}
use Rattle.md_meaning.specs.State.{kept}
use Rattle.md_events.specs.Exact.Blocks.{events_by, is_continued, tail}
use Rattle.md_events.specs.Exact.Leaves.{leaf as leaf_lines, runs_line}
use Rattle.md_events.specs.Exact.Places.{is_same, line_end}
use Rattle.md_events.specs.Exact.Rows.{Delimiter, FirstText, FurtherText, Head, Role, Row, Underline, next_role}
use Rattle.md_events.specs.Exact.Texts.{is_underline, text}
use Rattle.proof_frame.specs.LeafName.{CodeFurther, HeadingSetext, LeafName}
use Rattle.proof_frame.specs.Row.{LeafRow, Row as FrameRow, RowKind, TextRow, ending_of, last_row}
use Rattle.md_registry.specs.Registry.{leaf}
use Rattle.md_registry.proofs.UnderNames.{further-text}
use Rattle.proof_rows.specs.BlockList.{tabled_group}
use Rattle.proof_rows.specs.Rows.{Lines, Turned, is_further, line_following, tail_events, takes_head}
use Rattle.proof_rows.proofs.GroupLines.{AreLines, IsUnder}
use Rattle.proof_rows.proofs.SpelledParagraphs.{text-filled}
use Rattle.proof_exact.proofs.CutTexts.{AreAt, IsAt}
use Rattle.proof_exact.proofs.Remaining.{IsText}
use Rattle.proof_exact.proofs.WholeTexts.{NoUnderline, text-heading, text-paragraph}
use Rattle.proof_exact_lines.proofs.LeafLines.{underline-one}
use Rattle.proof_exact_lines.proofs.FlowLines.{ReadAs, same-line}
use Rattle.proof_exact_lines.proofs.Spans.{SameLine}
use Rattle.proof_exact_lines.proofs.TextLines.{AreTexts, last_of}
use Rattle.proof_exact_lines.specs.Unlisted.{unlisted_group, without_lists}
use Rattle.proof_exact.proofs.GroupsMatch.{Pairs}
use Rattle.proof_exact.proofs.Fit.{Fit}
use Rattle.proof_exact.proofs.FitLines.{IsTextRole, further-same, leaf-added, leaf-starts, read-as}
use Rattle.proof_exact.proofs.FitLines.{tail-same, text-further, text-role}
use Rattle.proof_exact.proofs.Fronts.{lines-front, row_with, text-with, turned-with}
use Rattle.proof_exact.proofs.Groups.{group-same}
use Rattle.proof_exact.proofs.Put.{AllGo, IsPut}
use Rattle.proof_exact.proofs.Several.{tails-same}

-- The lines of a text by what they are.

abbrev AllText : List Row → Type 0
AllText [] = Unit {0}
AllText (row ∷ rows) = IsTextRole row.role × AllText rows

lines-text : (options : ParseOptions) (bytes : List ℕ) (x : Row) (r : FrameRow) (xs : List Row) (rs : List FrameRow) →
    Fit options bytes x r → Pairs (Fit options bytes) xs rs → AreLines options bytes r rs → AllText (x ∷ xs)
lines-text options bytes x r [] [] fit pairs are = (text-role options bytes x r fit are.2, tt)
lines-text options bytes x r (y ∷ ys) (next ∷ rs) fit pairs are = (
  text-role options bytes x r fit are.2,
  lines-text options bytes y next ys rs pairs.0 pairs.1 are.7,
)
lines-text options bytes x r [] (next ∷ rs) fit pairs are = absurd pairs
lines-text options bytes x r (y ∷ ys) [] fit pairs are = absurd pairs

no-underline : (role : Role) → IsTextRole role → is_underline role ≡ false
no-underline Underline h = absurd h
no-underline _ h = refl

none-underline : (rows : List Row) → AllText rows → NoUnderline rows
none-underline [] h = tt
none-underline (row ∷ rows) h = (no-underline row.role h.0, none-underline rows h.1)

-- none of them is a head
events-text : (options : ParseOptions) (role : Role) (rows : List Row) → IsTextRole role → (role ≡ Head → ⊥) →
    events_by options role rows ≡ text options rows
events-text options Head rows h other = absurd (other refl)
events-text options FirstText rows h other = refl
events-text options FurtherText rows h other = refl
events-text options _ rows h other = absurd h

-- What is known of the lines of a text.

pub texts-at : (options : ParseOptions) (bytes : List ℕ) (x : Row) (r : FrameRow) (xs : List Row) (rs : List FrameRow) →
    Fit options bytes x r → Pairs (Fit options bytes) xs rs → AreAt bytes x xs (row_with x.front r) rs
texts-at options bytes x r xs rs fit pairs = first xs rs pairs
  where
    further : (x : Row) (r : FrameRow) (xs : List Row) (rs : List FrameRow) →
        Fit options bytes x r → Pairs (Fit options bytes) xs rs → AreAt bytes x xs r rs
    further x r [] [] fit pairs = record { following = fit.following; line_in = fit.within; on = fit.on }
    further x r (y ∷ ys) (next ∷ rs) fit pairs = (
      record { following = fit.following; line_in = fit.within; on = fit.on },
      further y next ys rs pairs.0 pairs.1,
    )
    further x r [] (next ∷ rs) fit pairs = absurd pairs
    further x r (y ∷ ys) [] fit pairs = absurd pairs

    at : IsAt bytes x (row_with x.front r)
    at = record { following = fit.following; line_in = fit.within; on = fit.on }

    first : (xs : List Row) (rs : List FrameRow) → Pairs (Fit options bytes) xs rs →
        AreAt bytes x xs (row_with x.front r) rs
    first [] [] pairs = at
    first (y ∷ ys) (next ∷ rs) pairs = (at, further y next ys rs pairs.0 pairs.1)
    first [] (next ∷ rs) pairs = absurd pairs
    first (y ∷ ys) [] pairs = absurd pairs

texts-same : (options : ParseOptions) (bytes : List ℕ) (x : Row) (r : FrameRow) (xs : List Row) (rs : List FrameRow) →
    Fit options bytes x r → Pairs (Fit options bytes) xs rs → AllGo xs → AreTexts x xs (row_with x.front r) rs
texts-same options bytes x r xs rs fit pairs proceeds = first xs rs pairs proceeds
  where
    further : (x : Row) (r : FrameRow) (xs : List Row) (rs : List FrameRow) →
        Fit options bytes x r → is_continued x.role ≡ true → Pairs (Fit options bytes) xs rs → AllGo xs →
        AreTexts x xs r rs
    further x r [] [] fit go pairs proceeds = further-same options bytes x r fit go
    further x r (y ∷ ys) (next ∷ rs) fit go pairs proceeds =
        (further-same options bytes x r fit go, fit.next, further y next ys rs pairs.0 proceeds.0 pairs.1 proceeds.1)
    further x r [] (next ∷ rs) fit go pairs proceeds = absurd pairs
    further x r (y ∷ ys) [] fit go pairs proceeds = absurd pairs

    same : SameLine x (row_with x.front r)
    same =
        let read : ReadAs x r = read-as options bytes x r fit in
        same-line x (row_with x.front r) (record { at = read.at; end = read.end }) fit.ending refl

    first : (xs : List Row) (rs : List FrameRow) → Pairs (Fit options bytes) xs rs → AllGo xs →
        AreTexts x xs (row_with x.front r) rs
    first [] [] pairs proceeds = same
    first (y ∷ ys) (next ∷ rs) pairs proceeds =
        (same, fit.next, further y next ys rs pairs.0 proceeds.0 pairs.1 proceeds.1)
    first [] (next ∷ rs) pairs proceeds = absurd pairs
    first (y ∷ ys) [] pairs proceeds = absurd pairs

some-same : (bytes : List ℕ) (y : Bool) → is_blank bytes ≡ false → ((length bytes == 0) && y) ≡ false
some-same [] y h = cc
some-same (b ∷ bytes) y h =
    let some : (suc (length bytes) == 0) ≡ false = grind (arith, nat_tests) in
    ap (λ (x : Bool). x && y) some

last-some : (options : ParseOptions) (bytes : List ℕ) (x : Row) (r : FrameRow) (xs : List Row) (rs : List FrameRow) →
    Fit options bytes x r → Pairs (Fit options bytes) xs rs → AreLines options bytes r rs →
    is_same (last_of x xs).rest (line_end (last_of x xs).line) ≡ false
last-some options bytes x r [] [] fit pairs are =
    some-same x.rest.bytes (x.rest.spaces == 0)
    (ap (λ (rest : Rest). is_blank rest.bytes) (sym fit.rest)
    ∙ (text-filled options bytes fit.own r fit.is are.2).filled)
last-some options bytes x r (y ∷ ys) (next ∷ rs) fit pairs are =
    last-some options bytes y next ys rs pairs.0 pairs.1 are.7
last-some options bytes x r [] (next ∷ rs) fit pairs are = absurd pairs
last-some options bytes x r (y ∷ ys) [] fit pairs are = absurd pairs

pub are-text : (options : ParseOptions) (bytes : List ℕ) (x : Row) (r : FrameRow) (xs : List Row) (rs : List FrameRow) →
    Fit options bytes x r → Pairs (Fit options bytes) xs rs → AllGo xs → AreLines options bytes r rs →
    IsText x xs (row_with x.front r) rs
are-text options bytes x r xs rs fit pairs proceeds are = record {
  are = texts-same options bytes x r xs rs fit pairs proceeds;
  some = last-some options bytes x r xs rs fit pairs are;
}

-- the last of them
last-kind : (options : ParseOptions) (bytes : List ℕ) (r : FrameRow) (rs : List FrameRow) →
    AreLines options bytes r rs → (last_row r rs).kind ≡ TextRow
last-kind options bytes r [] are = are.2
last-kind options bytes r (next ∷ rs) are = last-kind options bytes next rs are.7

pub record LeavesText (r : FrameRow) : Type 0 where
  pub at : OpenText
  pub is : r.following ≡ held_leaf.Text at

last-leaves : (options : ParseOptions) (bytes : List ℕ) (r : FrameRow) (rs : List FrameRow) →
    AreLines options bytes r rs → LeavesText (last_row r rs)
last-leaves options bytes r [] are = record {
  at = open_text (step (progress_of r.on) (trim_start are.1.rest.bytes)) (kept are.1.rest);
  is = are.1.following ∙ ap (line_following options r.on are.1.rest) are.2;
}
last-leaves options bytes r (next ∷ rs) are = last-leaves options bytes next rs are.7

-- A paragraph.

-- no line of text is a delimiter row
text-next : (xs : List Row) → AllText xs → next_role xs ≡ Delimiter → ⊥
text-next [] h e = cc
text-next (y ∷ ys) h e = subst IsTextRole e h.0

pub lines-same : (options : ParseOptions) (bytes : List ℕ) (x : Row) (r : FrameRow) (xs : List Row)
    (rs : List FrameRow) →
    length bytes < 2 ^ 61 → Fit options bytes x r → Pairs (Fit options bytes) xs rs → IsPut (x ∷ xs) →
    AreLines options bytes r rs → unlisted_group options (x ∷ xs) ≡ tabled_group options bytes (Lines r rs)
lines-same options bytes x r xs rs small fit pairs put are =
    group-same options bytes x xs (Lines r rs) fit
    (tails-same options bytes x r xs rs fit pairs
    (λ e. let bad : TextRow ≡ LeafRow CodeFurther = sym kind ∙ e in absurd (cc))
    ∙ ap (λ (k : RowKind). tail_events (ending_of k last) last) kind)
    (events-text options x.role (x ∷ xs) texts.0 (λ h. text-next xs texts.1 (put.0.head h))
    ∙ text-paragraph options bytes small x xs (row_with x.front r) rs (none-underline (x ∷ xs) texts)
    (lines-front options bytes x.front r rs are)
    (texts-at options bytes x r xs rs fit pairs) (are-text options bytes x r xs rs fit pairs put.1 are)
    ∙ text-with options bytes x.front r rs)
  where
    last : FrameRow
    last = last_row r rs

    kind : last.kind ≡ TextRow
    kind = last-kind options bytes r rs are

    texts : AllText (x ∷ xs)
    texts = lines-text options bytes x r xs rs fit pairs are

-- What an underline makes of it.

-- the lines of a text before the last one
pub record WithLast (Fit : Row → FrameRow → Type 0) (es : List Row) (rs : List FrameRow)
    (under : FrameRow) : Type 0 where
  pub xs : List Row
  pub u : Row
  pub same : es ≡ xs ++ u ∷ []
  pub pairs : Pairs Fit xs rs
  pub fit : Fit u under

pub with-last : (Fit : Row → FrameRow → Type 0) (es : List Row) (rs : List FrameRow) (under : FrameRow) →
    Pairs Fit es (rs ++ under ∷ []) → WithLast Fit es rs under
with-last Fit [] [] under pairs = absurd pairs
with-last Fit (u ∷ []) [] under pairs = record { xs = []; u = u; same = refl; pairs = tt; fit = pairs.0 }
with-last Fit (u ∷ v ∷ es) [] under pairs = absurd pairs.1
with-last Fit [] (next ∷ rs) under pairs = absurd pairs
with-last Fit (y ∷ es) (next ∷ rs) under pairs =
    let below : WithLast Fit es rs under = with-last Fit es rs under pairs.1 in
    record {
      xs = y ∷ below.xs;
      u = below.u;
      same = ap (λ (l : List Row). y ∷ l) below.same;
      pairs = (pairs.0, below.pairs);
      fit = below.fit;
    }

front-go : (xs more : List Row) → AllGo (xs ++ more) → AllGo xs
front-go [] more h = tt
front-go (y ∷ ys) more h = (h.0, front-go ys more h.1)

tail-under : (x : Row) (xs : List Row) (u : Row) → tail (x ∷ (xs ++ u ∷ [])) ≡ tail (u ∷ [])
tail-under x [] u = refl
tail-under x (y ∷ ys) u = tail-under y ys u

under-next : (xs : List Row) (u : Row) → AllText xs → u.role ≡ Underline →
    next_role (xs ++ u ∷ []) ≡ Delimiter → ⊥
under-next [] u h e k = let bad : Underline ≡ Delimiter = sym e ∙ k in cc
under-next (y ∷ ys) u h e k = subst IsTextRole k h.0

pub turned-same : (options : ParseOptions) (bytes : List ℕ) (x u : Row) (r under : FrameRow) (xs : List Row)
    (rs : List FrameRow) →
    length bytes < 2 ^ 61 → Fit options bytes x r → Pairs (Fit options bytes) xs rs → Fit options bytes u under →
    IsPut (x ∷ (xs ++ u ∷ [])) → AreLines options bytes r rs → IsUnder options bytes (last_row r rs) under →
    unlisted_group options (x ∷ (xs ++ u ∷ [])) ≡ tabled_group options bytes (Turned r rs under)
turned-same options bytes x u r under xs rs small fit pairs fits put are is =
    group-same options bytes x (xs ++ u ∷ []) (Turned r rs under) fit
    (ap without_lists (tail-under x xs u)
    ∙ tail-same options bytes u under fits
    (λ e. let bad : LeafRow HeadingSetext ≡ LeafRow CodeFurther = sym kind ∙ e in absurd (cc)))
    (events-text options x.role (x ∷ (xs ++ u ∷ [])) texts.0 (λ h. under-next xs u texts.1 role (put.0.head h))
    ∙ text-heading options bytes small x xs u (row_with x.front r) rs under (none-underline (x ∷ xs) texts)
    (ap is_underline role) (lines-front options bytes x.front r rs are)
    (texts-at options bytes x r xs rs fit pairs)
    (are-text options bytes x r xs rs fit pairs (front-go xs (u ∷ []) put.1) are)
    (further-same options bytes u under fits (ap is_continued role)) inside
    ∙ turned-with options bytes x.front r rs under)
  where
    left : LeavesText (last_row r rs)
    left = last-leaves options bytes r rs are

    on : under.on ≡ held_leaf.Text left.at
    on = is.on ∙ left.is

    proceeds : (leaf is.name).further under.on ≡ true
    proceeds = ap (λ (k : RowKind). is_further k under.on) (sym is.kind) ∙ is.further

    name : is.name ≡ HeadingSetext
    name =
        further-text left.at is.name (ap (leaf is.name).further (sym on) ∙ proceeds)
        (ap takes_head (sym is.kind) ∙ is.heads)

    kind : under.kind ≡ LeafRow HeadingSetext
    kind = is.kind ∙ ap LeafRow name

    texts : AllText (x ∷ xs)
    texts = lines-text options bytes x r xs rs fit pairs are

    role : u.role ≡ Underline
    role =
        text-further options bytes u under fits HeadingSetext kind
        (subst (λ (l : LeafName). (leaf l).further under.on ≡ true) name proceeds) left.at on

    inside : leaf_lines n.HeadingSetextUnderline (runs_line n.HeadingSetextUnderlineSequence) (u ∷ []) ≡ under.inside
    inside =
        underline-one u under.first (read-as options bytes u under fits).at
        (setext-starts options under.on u.rest (leaf-starts options bytes u under fits HeadingSetext kind)).underline
        ∙ sym (leaf-added options bytes u under fits HeadingSetext kind)
