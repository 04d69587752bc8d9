-- The rows of lines, as tables are made of them: parts side by side, none of which is a table or a row.
use Rattle.std.proofs.Common.{◌≡◌, ℕ, ◌==◌, Bool, true, false, cond, List, [], ◌∷◌, ◌++◌}
use Rattle.std.proofs.Common.{refl, sym, ◌∙◌, ap, append_assoc, subst}
use Rattle.md_engine.specs.declared.event.Event.{Event}
use Rattle.md_engine.specs.declared.event.Name.TheVariants as n
use Rattle.md_engine.specs.declared.event.Point.{Point}
use Rattle.md_engine.specs.declared.tokenizer.Scratch.{Scratch}
use Rattle.md_meaning.specs.Ascii.{backslash}
use Rattle.md_meaning.specs.Rest.{is_blank, trim_start}
use Rattle.md_events.specs.Events.Nested.{around, enter, exit}
use Rattle.md_events.specs.Events.Places.{past_byte, past_text}
use Rattle.md_tables.specs.Cells.{celled}
use Rattle.md_tables.specs.DelimiterCells.{delimiter_events, delimiter_runs}
use Rattle.md_tables.specs.DelimiterRule as delimiter
use Rattle.md_tables.specs.RowCells.{row_events, row_runs, unread_text}
use Rattle.md_tables.specs.RowRule as text
use Rattle.md_tables.specs.TableLines.{delimiter_row, row_celled, text_row}
use Rattle.md_tables.specs.declared.cells.RowKind.TheVariants.{Delimiter, Text}
use Rattle.md_tables.specs.declared.cells.Stage.TheVariants.{Front}
use Rattle.md_tables.proofs.DelimiterRuns.{front-runs}
use Rattle.md_tables.proofs.DelimiterWalk.{delimiter-celled}
use Rattle.md_tables.proofs.RowNests.{ArePairs, pairs-append}
use Rattle.md_tables.proofs.RowWalk.{row-celled}
use Rattle.md_tables.proofs.TabledLines.{AreFree, free-append}

abbrev pub AreParts : List Event → Type 0
AreParts es = ArePairs es × AreFree es

pub parts-append : (xs ys : List Event) → AreParts xs → AreParts ys → AreParts (xs ++ ys)
parts-append xs ys h k = (pairs-append xs ys h.0 k.0, free-append xs ys h.1 k.1)

-- a run ends, and the next begins
next-run : (begun ended next rest : List Event) → AreParts (begun ++ ended) → AreParts (next ++ rest) →
    AreParts (begun ++ (ended ++ next ++ rest))
next-run begun ended next rest h k =
    subst AreParts
    (append_assoc begun ended (next ++ rest)
    ∙ ap (λ (l : List Event). begun ++ l) (sym (append_assoc ended next rest)))
    (parts-append (begun ++ ended) (next ++ rest) h k)

-- Rows of text.

text-run : (run : text.Run) (p q : Point) → AreParts (text.opens run q ++ text.closes run p)
text-run text.Apart p q = (tt, tt)
text-run text.White p q = ((refl, refl, refl, tt), (refl, (refl, tt)))
text-run text.Pipe p q = ((refl, refl, refl, tt), (refl, (refl, tt)))
text-run text.Text p q = ((refl, refl, refl, tt), (refl, (refl, tt)))
text-run text.Escaped p q = ((refl, refl, refl, tt), (refl, (refl, tt)))

-- a run that continues began as it did
in-word : (b : ℕ) (q : Point) → text.opens (text.in_text b) q ≡ text.opens text.Text q
in-word b q = go (b == backslash)
  where
    go : (x : Bool) → text.opens (cond x text.Escaped text.Text) q ≡ text.opens text.Text q
    go true = refl
    go false = refl

same-begin : (run : text.Run) (b : ℕ) (q : Point) → text.opens (text.next run b) q ≡ text.opens run q
same-begin text.Apart b q = refl
same-begin text.White b q = refl
same-begin text.Pipe b q = refl
same-begin text.Text b q = in-word b q
same-begin text.Escaped b q = refl

text-begun : (run : text.Run) (line : List ℕ) (p q : Point) → AreParts (text.opens run q ++ row_runs run line p)
text-begun run [] p q = text-run run p q
text-begun run (b ∷ bs) p q =
    go (text.is_continued run b) (text-begun (text.next run b) bs (past_byte b p) q)
    (text-begun (text.begun b) bs (past_byte b p) p)
  where
    go : (x : Bool) → AreParts (text.opens (text.next run b) q ++ row_runs (text.next run b) bs (past_byte b p)) →
        AreParts (text.opens (text.begun b) p ++ row_runs (text.begun b) bs (past_byte b p)) →
        AreParts
        (text.opens run q
        ++ cond x (row_runs (text.next run b) bs (past_byte b p))
        (text.closes run p ++ text.opens (text.begun b) p ++ row_runs (text.begun b) bs (past_byte b p)))
    go true h k =
        subst (λ (l : List Event). AreParts (l ++ row_runs (text.next run b) bs (past_byte b p)))
        (same-begin run b q) h
    go false h k =
        next-run (text.opens run q) (text.closes run p) (text.opens (text.begun b) p)
        (row_runs (text.begun b) bs (past_byte b p)) (text-run run p q) k

pub text-parts : (line : List ℕ) (p : Point) → AreParts (text_row line p).inside
text-parts line p = text-begun text.Apart line p p

-- with its cells
pub text-celled : (line : List ℕ) (p : Point) → is_blank line ≡ false →
    row_celled Text (text_row line p) ≡ around n.GfmTableRow p (past_text line p) (row_events unread_text line p)
text-celled line p h = ap (λ (l : List Event). enter n.GfmTableRow p ∷ l) (row-celled line p h)

-- Delimiter rows.

delimiter-run : (run : delimiter.Run) (p q : Point) → AreParts (delimiter.opens run q ++ delimiter.closes run p)
delimiter-run delimiter.Apart p q = (tt, tt)
delimiter-run delimiter.Space p q = ((refl, refl, refl, tt), (refl, (refl, tt)))
delimiter-run delimiter.Pipe p q = ((refl, refl, refl, tt), (refl, (refl, tt)))
delimiter-run delimiter.Colon p q = ((refl, refl, refl, tt), (refl, (refl, tt)))
delimiter-run delimiter.Filler p q = ((refl, refl, refl, tt), (refl, (refl, tt)))

delimiter-begun : (run : delimiter.Run) (line : List ℕ) (p q : Point) →
    AreParts (delimiter.opens run q ++ delimiter_runs run line p)
delimiter-begun run [] p q = delimiter-run run p q
delimiter-begun run (b ∷ bs) p q =
    go (delimiter.is_continued run b) (delimiter-begun run bs (past_byte b p) q)
    (delimiter-begun (delimiter.begun b) bs (past_byte b p) p)
  where
    go : (x : Bool) → AreParts (delimiter.opens run q ++ delimiter_runs run bs (past_byte b p)) →
        AreParts (delimiter.opens (delimiter.begun b) p ++ delimiter_runs (delimiter.begun b) bs (past_byte b p)) →
        AreParts
        (delimiter.opens run q
        ++ cond x (delimiter_runs run bs (past_byte b p))
        (delimiter.closes run p ++ delimiter.opens (delimiter.begun b) p
        ++ delimiter_runs (delimiter.begun b) bs (past_byte b p)))
    go true h k = h
    go false h k =
        next-run (delimiter.opens run q) (delimiter.closes run p) (delimiter.opens (delimiter.begun b) p)
        (delimiter_runs (delimiter.begun b) bs (past_byte b p)) (delimiter-run run p q) k

pub delimiter-parts : (line : List ℕ) (p : Point) → AreParts (delimiter_row line p).inside
delimiter-parts line p = delimiter-begun delimiter.Apart line p p

-- with its cells
pub delimiter_row-celled : (line : List ℕ) (p : Point) (s : Scratch) →
    delimiter.fits delimiter.Front s (trim_start line) ≡ true →
    row_celled Delimiter (delimiter_row line p)
    ≡ around n.GfmTableDelimiterRow p (past_text line p) (delimiter_events line p)
delimiter_row-celled line p s h =
    let end : Event = exit n.GfmTableDelimiterRow (past_text line p) in
    ap (λ (l : List Event). enter n.GfmTableDelimiterRow p ∷ l)
    (ap (λ (l : List Event). celled (Front Delimiter) (l ++ end ∷ [])) (front-runs line p)
    ∙ delimiter-celled s line p h)
