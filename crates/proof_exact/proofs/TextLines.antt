-- The lines after the front of a text, by their bytes: they are those that rows are made of.
use Rattle.std.proofs.Common.{◌≡◌, ◌≤◌, ◌⊎◌, inl, inr, ℕ, zero, suc, ◌+◌, Bool, true, false, cond, List, [], ◌∷◌}
use Rattle.std.proofs.Common.{◌++◌, length, drop, refl, ap, ap₂, sym, ◌∙◌, subst, subst₂, append_assoc}
use Rattle.std.proofs.Common.{arith}
use Rattle.std.proofs.Math.Seq.{drop-append_seam, drop-nil}
use Rattle.std.proofs.lemmas.List.{drop-drop, length-append}
use Rattle.md_engine.specs.declared.configuration.ParseOptions.{ParseOptions}
use Rattle.md_engine.specs.declared.event.Point.{Point}
use Rattle.md_engine.specs.Place.{first_point}
use Rattle.md_meaning.specs.Bytes.{is_end}
use Rattle.md_meaning.specs.Lines.{full_lines_of}
use Rattle.md_meaning.specs.Preamble.{first_column, has_mark, without_mark}
use Rattle.md_meaning.specs.Texts.{split_lines}
use Rattle.md_meaning.proofs.PreambleLemmas.{mark-bytes}
use Rattle.md_meaning.proofs.TextsLemmas.{Both, Ending, EndsBefore, LineFeed, Return, ending_bytes, split-line}
use Rattle.md_meaning.proofs.TextsLemmas.{split-next}
use Rattle.md_events.specs.Events.Places.{past_text}
use Rattle.md_events.proofs.FeedLines.{drop-past, ending-step, front-within, past_ending}
use Rattle.md_events.proofs.InlineLemmas.{past-index}
use Rattle.md_events.proofs.PlacesLemmas.{Placed, placed-text}
use Rattle.md_events.proofs.ReachedLemmas.{placed-next}
use Rattle.proof_leaf_laws.specs.Front.{body_point, ending_of}
use Rattle.proof_leaf_laws.proofs.FullLines.{IsLines, LastLine, NextLine, NoLines, ending-is, full-lines, last-ending}
use Rattle.md_events.specs.Exact.Blocks.{front_size, text_lines}
use Rattle.md_events.specs.Exact.Places.{TextLine, line_at, lines_from}
use Rattle.proof_exact_pieces.proofs.OnLine.{past-line}
use Rattle.proof_exact_lines.proofs.Front.{begin}
use Rattle.proof_exact_lines.proofs.FrontBody.{Body, Ends, Proceeds, front-body}
use Rattle.proof_exact.proofs.RowsMet.{HaveBytes}
use Rattle.proof_frame.proofs.LineTexts.{without-one}
use Rattle.md_leaves.proofs.OneLine.{line-whole}

pub some-ending : (ending : Ending) → is_end (ending_bytes ending) ≡ false
some-ending LineFeed = refl
some-ending Return = refl
some-ending Both = refl

-- The lines of a text, from a point on, have the bytes of its lines.
pub have-bytes : (number index column : ℕ) (text : List ℕ) (fulls : List (List ℕ)) → IsLines text fulls →
    HaveBytes column (lines_from number index column fulls) (split_lines text)
have-bytes number index column text fulls NoLines = (refl, refl, tt)
have-bytes number index column text fulls (LastLine b line h) =
    subst (λ (owns : List (List ℕ)). HaveBytes column (lines (is_end (ending_of full))) owns)
    (sym (split-line full h))
    (subst (λ (x : Bool). HaveBytes column (lines x) (full ∷ [])) (sym (ap is_end (last-ending full h)))
    (line-whole full h, refl, tt))
  where
    full : List ℕ
    full = b ∷ line

    lines : Bool → List TextLine
    lines x =
        line_at number index column full ∷ cond x [] (lines_from (number + 1) (index + length full) 0 [])
have-bytes number index column text fulls (NextLine line ending rest more h before is same) =
    subst₂
    (λ (x : Bool) (owns : List (List ℕ)).
    HaveBytes column
    (line_at number index column full ∷ cond x [] (lines_from (number + 1) (index + length full) 0 more)) owns)
    (sym (ap is_end (ending-is line ending h) ∙ some-ending ending))
    (sym
    (ap split_lines (sym (append_assoc line (ending_bytes ending) rest)) ∙ split-next line ending rest h before))
    (without-one line ending h, refl, have-bytes (number + 1) (index + length full) 0 rest more is)
  where
    full : List ℕ
    full = line ++ ending_bytes ending

-- Where a line begins.

-- after an ending, which an LF after a CR belongs to
pub placed-following : (text : List ℕ) (ending : Ending) (rest : List ℕ) (p : Point) →
    drop p.index text ≡ ending_bytes ending ++ rest → EndsBefore ending rest → Placed text p →
    Placed text (past_ending ending p)
placed-following text ending rest p e before placed =
    let next = (ending-step text ending rest p e before).1 in
    let fits = front-within text p.index (ending_bytes ending) rest e placed.index in
    subst (Placed text) next
    (placed-next text p placed (subst (λ (q : Point). q.index ≤ length text) (sym next) (omega (arith, fits))))

-- and the first line of a text
first-placed : (text : List ℕ) → let size = first_column text in Placed text (begin 1 size size)
first-placed text = go (has_mark text) refl
  where
    none : Placed text first_point
    none = record { index = omega arith; within = refl; line = refl; column = refl; apart = refl }

    go : (t : Bool) → has_mark text ≡ t → Placed text (begin 1 (cond t 3 0) (cond t 3 0))
    go true e =
        placed-text text first_point (239 ∷ 187 ∷ 191 ∷ []) (drop 3 text) none (mark-bytes text e)
        (refl, (refl, (refl, tt)))
    go false e = none

-- After some of its lines.

pub record LinesLeft (text : List ℕ) (lines : List TextLine) : Type 0 where
  pub number : ℕ
  pub index : ℕ
  pub column : ℕ
  pub fulls : List (List ℕ)
  pub are : IsLines (drop index text) fulls
  pub placed : Placed text (begin number index column)
  pub is : lines ≡ lines_from number index column fulls

lines-following : (text full : List ℕ) (more : List (List ℕ)) (fulls : List (List ℕ)) → IsLines text fulls →
    fulls ≡ full ∷ more → is_end (ending_of full) ≡ false → IsLines (drop (length full) text) more
lines-following text full more fulls NoLines e some = absurd (cc)
lines-following text full more fulls (LastLine b line h) e some =
    let same : b ∷ line ≡ full = cc in
    let bad : true ≡ false = sym (ap is_end (last-ending (b ∷ line) h)) ∙ ap (λ (l : List ℕ). is_end (ending_of l)) same
    ∙ some in
    absurd (cc)
lines-following text full more fulls (NextLine line ending rest below h before is same) e some =
    let one : line ++ ending_bytes ending ≡ full = cc in
    let others : below ≡ more = cc in
    subst₂ (λ (l : List ℕ) (ls : List (List ℕ)). IsLines l ls)
    (sym
    (ap (λ (l : List ℕ). drop (length l) (line ++ (ending_bytes ending ++ rest))) (sym one)
    ∙ ap (drop (length (line ++ ending_bytes ending))) (sym (append_assoc line (ending_bytes ending) rest))
    ∙ drop-append_seam (line ++ ending_bytes ending) rest)) others is

-- the next one begins after the ending of one, at a point of the text if that does
pub begin-following : (number index column : ℕ) (line : List ℕ) (ending : Ending) →
    past_ending ending (past_text line (begin number index column)) ≡
    begin (number + 1) (index + length (line ++ ending_bytes ending)) 0
begin-following number index column line ending =
    let p : Point = begin number index column in
    let at = past-index line p in
    let size = length-append line (ending_bytes ending) in
    ap₂ (λ (l i : ℕ). begin l i 0) (ap (λ (l : ℕ). l + 1) (past-line line p)) (omega (arith, at, size))

next-begins : (text left : List ℕ) (number index column : ℕ) (full : List ℕ) (more fulls : List (List ℕ)) →
    drop index text ≡ left → IsLines left fulls → fulls ≡ full ∷ more → is_end (ending_of full) ≡ false →
    Placed text (begin number index column) → Placed text (begin (number + 1) (index + length full) 0)
next-begins text left number index column full more fulls is NoLines e some placed = absurd (cc)
next-begins text left number index column full more fulls is (LastLine b line h) e some placed =
    let same : b ∷ line ≡ full = cc in
    let bad : true ≡ false = sym (ap is_end (last-ending (b ∷ line) h)) ∙ ap (λ (l : List ℕ). is_end (ending_of l)) same
    ∙ some in
    absurd (cc)
next-begins text left number index column full more fulls is (NextLine line ending rest below h before lines
    so) e some placed =
    let one : line ++ ending_bytes ending ≡ full = cc in
    let p : Point = begin number index column in
    let q : Point = past_text line p in
    let following : drop q.index text ≡ ending_bytes ending ++ rest =
    ap (λ (i : ℕ). drop i text) (past-index line p) ∙ drop-past text index line (ending_bytes ending ++ rest) is in
    subst (Placed text)
    (begin-following number index column line ending
    ∙ ap (λ (l : List ℕ). begin (number + 1) (index + length l) 0) one)
    (placed-following text ending rest q following before
    (placed-text text p line (ending_bytes ending ++ rest) placed is h))

pub lines-left : (text : List ℕ) (number index column : ℕ) (fulls : List (List ℕ)) → IsLines (drop index text) fulls →
    Placed text (begin number index column) → (k : ℕ) →
    (drop k (lines_from number index column fulls) ≡ [])
    ⊎ LinesLeft text (drop k (lines_from number index column fulls))
lines-left text number index column fulls are placed zero =
    inr
    (record {
      number = number;
      index = index;
      column = column;
      fulls = fulls;
      are = are;
      placed = placed;
      is = refl;
    })
lines-left text number index column [] are placed (suc k) = inl (drop-nil k)
lines-left text number index column (full ∷ more) are placed (suc k) =
    go (is_end (ending_of full)) refl
    (λ next begins. lines-left text (number + 1) (index + length full) 0 more next begins k)
  where
    go : (x : Bool) → is_end (ending_of full) ≡ x →
        (IsLines (drop (index + length full) text) more → Placed text (begin (number + 1) (index + length full) 0) →
        (drop k (lines_from (number + 1) (index + length full) 0 more) ≡ [])
        ⊎ LinesLeft text (drop k (lines_from (number + 1) (index + length full) 0 more))) →
        (drop k (cond (is_end (ending_of full)) [] (lines_from (number + 1) (index + length full) 0 more)) ≡ [])
        ⊎ LinesLeft text
        (drop k (cond (is_end (ending_of full)) [] (lines_from (number + 1) (index + length full) 0 more)))
    go true e below =
        inl
        (ap
        (λ (x : Bool). drop k (cond x [] (lines_from (number + 1) (index + length full) 0 more))) e
        ∙ drop-nil k)
    go false e below =
        subst
        (λ (x : Bool).
        (drop k (cond x [] (lines_from (number + 1) (index + length full) 0 more)) ≡ [])
        ⊎ LinesLeft text (drop k (cond x [] (lines_from (number + 1) (index + length full) 0 more)))) (sym e)
        (below
        (subst (λ (l : List ℕ). IsLines l more) (drop-drop (length full) index text)
        (lines-following (drop index text) full more (full ∷ more) are refl e))
        (next-begins text (drop index text) number index column full more (full ∷ more) refl are refl e placed))

-- After its front.

mark-left : (text : List ℕ) → without_mark text ≡ drop (first_column text) text
mark-left text = go (has_mark text)
  where
    go : (x : Bool) → cond x (drop 3 text) text ≡ drop (cond x 3 0) text
    go true = refl
    go false = refl

record BeginsAt (p : Point) (lines : List TextLine) : Type 0 where
  number : ℕ
  index : ℕ
  column : ℕ
  fulls : List (List ℕ)
  point : p ≡ begin number index column
  is : lines ≡ lines_from number index column fulls

begins : (p : Point) (lines : List TextLine) → Body p lines → (lines ≡ []) ⊎ BeginsAt p lines
begins p lines (Proceeds number index column fulls) =
    inr
    (record { number = number; index = index; column = column; fulls = fulls; point = refl; is = refl })
begins p lines (Ends q) = inl refl

abbrev first_of : (TextLine → ℕ) → List TextLine → ℕ
first_of f [] = 0
first_of f (line ∷ lines) = f line

first-is : (f : TextLine → ℕ) (number index column : ℕ) (fulls : List (List ℕ)) (x : ℕ) →
    ((full : List ℕ) → f (line_at number index column full) ≡ x) →
    first_of f (lines_from number index column fulls) ≡ x
first-is f number index column [] x h = h []
first-is f number index column (full ∷ more) x h = h full

-- They are lines of the text from where its body begins; or there are none.
pub record BodyLines (options : ParseOptions) (text : List ℕ) : Type 0 where
  pub left : LinesLeft text (drop (front_size options text) (text_lines text))
  pub point : body_point options text ≡ begin left.number left.index left.column

pub body-lines : (options : ParseOptions) (text : List ℕ) →
    (drop (front_size options text) (text_lines text) ≡ []) ⊎ BodyLines options text
body-lines options text = by (begins q lines (front-body options text)) left
  where
    q : Point
    q = body_point options text

    size : ℕ
    size = first_column text

    lines : List TextLine
    lines = drop (front_size options text) (text_lines text)

    left : (lines ≡ []) ⊎ LinesLeft text lines
    left =
        lines-left text 1 size size (full_lines_of (without_mark text))
        (subst (λ (l : List ℕ). IsLines l (full_lines_of (without_mark text))) (mark-left text)
        (full-lines (without_mark text))) (first-placed text) (front_size options text)

    some : BeginsAt q lines → LinesLeft text lines → BodyLines options text
    some from is = record {
      left = is;
      point =
          from.point
          ∙ ap₂ (λ (n i : ℕ). begin n i from.column)
          (same (λ (line : TextLine). line.number) from.number is.number (λ full. refl) (λ full. refl))
          (same (λ (line : TextLine). line.index) from.index is.index (λ full. refl) (λ full. refl))
          ∙ ap (begin is.number is.index)
          (same (λ (line : TextLine). line.column) from.column is.column (λ full. refl) (λ full. refl));
    }
      where
        same : (f : TextLine → ℕ) (x y : ℕ) →
            ((full : List ℕ) → f (line_at from.number from.index from.column full) ≡ x) →
            ((full : List ℕ) → f (line_at is.number is.index is.column full) ≡ y) → x ≡ y
        same f x y h k =
            sym (first-is f from.number from.index from.column from.fulls x h)
            ∙ ap (first_of f) (sym from.is ∙ is.is) ∙ first-is f is.number is.index is.column is.fulls y k

    by : (lines ≡ []) ⊎ BeginsAt q lines → (lines ≡ []) ⊎ LinesLeft text lines →
        (lines ≡ []) ⊎ BodyLines options text
    by (inl none) is = inl none
    by (inr from) (inl none) = inl none
    by (inr from) (inr is) = inr (some from is)
