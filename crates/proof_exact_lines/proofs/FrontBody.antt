-- Where the body of a text begins: at its first line after the frontmatter, or where the text ends with that.
use Rattle.std.proofs.Common.{◌≡◌, ℕ, suc, ◌+◌, Bool, true, false, cond, List, [], ◌∷◌, ◌++◌, length, map, drop, refl}
use Rattle.std.proofs.Common.{sym, ap, ◌∙◌, subst}
use Rattle.std.specs.Prelude.{Option, Some, None}
use Rattle.std.specs.List.{after_first, before_first, list_any}
use Rattle.std.specs.Option.{is_some, option_map}
use Rattle.md_engine.specs.declared.configuration.ParseOptions.{ParseOptions}
use Rattle.md_engine.specs.declared.event.Event.{Event}
use Rattle.md_engine.specs.declared.event.Name.TheVariants as n
use Rattle.md_engine.specs.declared.event.Point.{Point}
use Rattle.md_engine.specs.Place.{first_point}
use Rattle.md_meaning.specs.Bytes.{is_end}
use Rattle.md_meaning.specs.Lines.{full_lines_of, without_ending}
use Rattle.md_meaning.specs.Preamble.{Front, first_column, front_by, front_marker, front_of, has_mark, is_front_fence}
use Rattle.md_meaning.specs.Preamble.{without_mark}
use Rattle.md_meaning.specs.Tree.{Frontmatter}
use Rattle.md_events.specs.Events.Nested.{enter, exit}
use Rattle.md_events.specs.Events.Places.{past_text}
use Rattle.proof_leaf_laws.specs.Front.{FrontRead, after_these, body_point, ending_of, ending_part, fence_part}
use Rattle.proof_leaf_laws.specs.Front.{front_from}
use Rattle.proof_leaf_laws.specs.Front.{front_read, line_part, lines_read, mark_end, past_ending, point_or, text_front}
use Rattle.proof_leaf_laws.proofs.FullLines.{IsLines, full-lines}
use Rattle.md_events.specs.Exact.Blocks.{front_size, text_lines}
use Rattle.md_events.specs.Exact.Places.{TextLine, line_at, lines_from}
use Rattle.proof_exact_lines.proofs.Front.{AllEnd, any-is, begin, begins-next, full-ends, size_by, upto, upto-is}

-- these lines begin at a point, or there are none
pub data Body : Point → List TextLine → Type 0 where
  Proceeds : (number index column : ℕ) (fulls : List (List ℕ)) →
      Body (begin number index column) (lines_from number index column fulls)
  Ends : (p : Point) → Body p []

abbrev point_of : Point → Option FrontRead → Point
point_of other None = other
point_of other (Some f) = f.point

-- after a line the next one begins, if it has an ending
following-line : (number index column : ℕ) (full : List ℕ) (more : List (List ℕ)) →
    Body (past_ending (ending_of full) (past_text (without_ending full) (begin number index column)))
    (cond (is_end (ending_of full)) [] (lines_from (number + 1) (index + length full) 0 more))
following-line number index column full more = go (is_end (ending_of full)) refl
  where
    go : (x : Bool) → is_end (ending_of full) ≡ x →
        Body (past_ending (ending_of full) (past_text (without_ending full) (begin number index column)))
        (cond x [] (lines_from (number + 1) (index + length full) 0 more))
    go true e = Ends (past_ending (ending_of full) (past_text (without_ending full) (begin number index column)))
    go false e =
        subst (λ (q : Point). Body q (lines_from (number + 1) (index + length full) 0 more))
        (sym (begins-next number index column full e)) (Proceeds (number + 1) (index + length full) 0 more)

-- after lines that are read the body begins
abbrev BodyAfter : ℕ → List (List ℕ) → List TextLine → FrontRead → Type 0
BodyAfter m fulls lines f = Body f.point (drop (upto (is_front_fence m) (map without_ending fulls)) lines)

further-body : (m number index column : ℕ) (full : List ℕ) (more : List (List ℕ)) (g : FrontRead) →
    AllEnd (full ∷ more) →
    lines_read m more (past_ending (ending_of full) (past_text (without_ending full) (begin number index column))) ≡
    Some g →
    ((h : FrontRead) → AllEnd more → lines_read m more (begin (number + 1) (index + length full) 0) ≡ Some h →
    BodyAfter m more (lines_from (number + 1) (index + length full) 0 more) h) →
    BodyAfter m more (cond (is_end (ending_of full)) [] (lines_from (number + 1) (index + length full) 0 more)) g
further-body m number index column full [] g all read below = absurd (cc)
further-body m number index column full (next ∷ more) g all read below =
    subst
    (λ (x : Bool).
    BodyAfter m (next ∷ more) (cond x [] (lines_from (number + 1) (index + length full) 0 (next ∷ more))) g)
    (sym all.0)
    (below g all.1
    (ap (λ (q : Point). lines_read m (next ∷ more) q) (sym (begins-next number index column full all.0)) ∙ read))

lines-body : (m : ℕ) (fulls : List (List ℕ)) (number index column : ℕ) (f : FrontRead) → AllEnd fulls →
    lines_read m fulls (begin number index column) ≡ Some f →
    BodyAfter m fulls (lines_from number index column fulls) f
lines-body m [] number index column f all read = absurd (cc)
lines-body m (full ∷ more) number index column f all read =
    go (λ h ends here. lines-body m more (number + 1) (index + length full) 0 h ends here)
    (is_front_fence m line.bytes) read
  where
    line : TextLine
    line = line_at number index column full

    p : Point
    p = begin number index column

    q : Point
    q = past_text line.bytes p

    size : ℕ
    size = upto (is_front_fence m) (map without_ending more)

    following : List TextLine
    following = cond (is_end line.ending) [] (lines_from (number + 1) (index + length full) 0 more)

    Below : Type 0
    Below =
        (h : FrontRead) → AllEnd more → lines_read m more (begin (number + 1) (index + length full) 0) ≡ Some h →
        BodyAfter m more (lines_from (number + 1) (index + length full) 0 more) h

    these : List Event
    these = line_part line.bytes p ++ ending_part line.ending q

    further : Below → (o : Option FrontRead) → lines_read m more (past_ending line.ending q) ≡ o →
        option_map (after_these these) o ≡ Some f → Body f.point (drop size following)
    further below None found none = absurd (cc)
    further below (Some g) found same =
        subst (λ (x : Point). Body x (drop size following)) (ap (point_of p) same)
        (further-body m number index column full more g all found below)

    go : Below → (t : Bool) →
        cond t
        (Some
        (record {
          events = fence_part line.bytes p ++ exit n.Frontmatter q ∷ ending_part line.ending q;
          point = past_ending line.ending q;
        }))
        (option_map (after_these these) (lines_read m more (past_ending line.ending q))) ≡
        Some f →
        Body f.point (drop (cond t 1 (suc size)) (line ∷ following))
    go below true is =
        subst (λ (x : Point). Body x following) (ap (point_of p) is) (following-line number index column full more)
    go below false is = further below (lines_read m more (past_ending line.ending q)) refl is

body-by : (options : ParseOptions) (text : List ℕ) (column : ℕ) (fulls : List (List ℕ)) → IsLines text fulls →
    Body (point_or (begin 1 column column) (front_read options fulls (begin 1 column column)))
    (drop (size_by (map without_ending fulls) (front_of options (map without_ending fulls)))
    (lines_from 1 column column fulls))
unfolding front_of
body-by options text column [] is = Proceeds 1 column column []
body-by options text column (full ∷ more) is = go options.constructs.frontmatter
  where
    line : TextLine
    line = line_at 1 column column full

    p : Point
    p = begin 1 column column

    q : Point
    q = past_text line.bytes p

    ls : List (List ℕ)
    ls = map without_ending more

    following : List TextLine
    following = cond (is_end line.ending) [] (lines_from (1 + 1) (column + length full) 0 more)

    left_by : Option Front → List TextLine
    left_by o = drop (size_by (line.bytes ∷ ls) o) (line ∷ following)

    closed : ℕ → Bool → Option Front
    closed m t =
        cond t
        (Some
        (record {
          block = Frontmatter m (before_first (is_front_fence m) ls);
          after = after_first (is_front_fence m) ls;
        }))
        None

    by : (o : Option ℕ) → Body (point_or p (front_from o full more p)) (left_by (front_by o ls))
    by None = Proceeds 1 column column (full ∷ more)
    by (Some m) = read (lines_read m more (past_ending line.ending q)) refl
      where
        these : List Event
        these = enter n.Frontmatter p ∷ fence_part line.bytes p ++ ending_part line.ending q

        read : (o : Option FrontRead) → lines_read m more (past_ending line.ending q) ≡ o →
            Body (point_or p (option_map (after_these these) o)) (left_by (closed m (list_any (is_front_fence m) ls)))
        read None found =
            subst (λ (t : Bool). Body p (left_by (closed m t)))
            (sym (any-is m more (past_ending line.ending q) ∙ ap is_some found))
            (Proceeds 1 column column (full ∷ more))
        read (Some f) found =
            let any : list_any (is_front_fence m) ls ≡ true = any-is m more (past_ending line.ending q)
            ∙ ap is_some found in
            subst (λ (t : Bool). Body f.point (left_by (closed m t))) (sym any)
            (subst (λ (k : ℕ). Body f.point (drop k (line ∷ following))) (sym (upto-is (is_front_fence m) ls any))
            (further-body m 1 column column full more f (full-ends text (full ∷ more) is) found
            (λ h ends here. lines-body m more (1 + 1) (column + length full) 0 h ends here)))

    go : (x : Bool) →
        Body (point_or p (cond x (front_from (front_marker line.bytes) full more p) None))
        (left_by (cond x (front_by (front_marker line.bytes) ls) None))
    go true = by (front_marker line.bytes)
    go false = Proceeds 1 column column (full ∷ more)

-- The lines after the front of a text begin where its body does.
pub front-body : (options : ParseOptions) (text : List ℕ) →
    Body (body_point options text) (drop (front_size options text) (text_lines text))
unfolding text_front
front-body options text =
    subst
    (λ (p : Point).
    Body (point_or p (front_read options fulls p)) (drop (front_size options text) (text_lines text)))
    (sym (mark (has_mark text)))
    (body-by options (without_mark text) (first_column text) fulls (full-lines (without_mark text)))
  where
    fulls : List (List ℕ)
    fulls = full_lines_of (without_mark text)

    mark : (t : Bool) → cond t mark_end first_point ≡ begin 1 (cond t 3 0) (cond t 3 0)
    mark true = refl
    mark false = refl
