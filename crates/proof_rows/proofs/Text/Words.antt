-- The lines of a text keep the grammar, before they are read and once they are.
use Rattle.std.proofs.Common.{◌≡◌, ◌<◌, ℕ, Bool, true, false, cond, List, [], ◌∷◌, ◌++◌, refl, ap, sym, subst, arith}
use Rattle.std.specs.Prelude.{Some}
use Rattle.std.proofs.lemmas.Bool.Decides.{nat_tests}
use Rattle.md_engine.specs.declared.configuration.ParseOptions.{ParseOptions}
use Rattle.md_engine.specs.declared.event.Event.{Event}
use Rattle.md_engine.specs.declared.event.Name.TheVariants as n
use Rattle.md_engine.specs.declared.event.Point.{Point}
use Rattle.md_events.specs.Events.Grammar.{Expression, following, plain_text, unread_text}
use Rattle.md_events.specs.Events.Inline.{pair_unless_empty, plain_chunk}
use Rattle.md_events.specs.Events.Nested.{enter_link, exit, pair}
use Rattle.md_events.specs.Events.Places.{same_place}
use Rattle.md_events.proofs.GrammarLemmas.{IsWord, Leads, leads-append, leads-pair, leads-unless, maybe, word-following}
use Rattle.proof_frame.specs.TextLines.{text_leaf}
use Rattle.proof_frame.specs.Row.{Row, after_row, read_lines}
use Rattle.proof_rows.specs.BlockList.{unread_lines}
use Rattle.proof_frame.proofs.GrammarFronts.{front-stays}
use Rattle.proof_rows.proofs.GroupLines.{AreLines}
use Rattle.proof_rows.proofs.GroupLemmas.{line_end-ended}
use Rattle.proof_rows.proofs.JoinedLemmas.{following-is}
use Rattle.md_events.proofs.FeedLines.{IsEnding}
use Rattle.proof_rows.proofs.RowFacts.{IsRow}
use Rattle.proof_frame.proofs.ChunkFacts.{chunk-word, text_left}
use Rattle.proof_content_laws.proofs.Text.Unread.{ending-grows, unread_rest}

-- and that of a text is one a line
pub linked-word : (options : ParseOptions) (bytes : List ℕ) (x : Expression) (row : Row) (rows : List Row) →
    following n.Data x ≡ unread_rest →
    AreLines options bytes row rows → IsWord unread_text (x ∷ []) (unread_lines row rows)
linked-word options bytes x row [] e is = record {
  left = unread_rest;
  leads = λ outer. ap (λ (y : Expression). y ∷ outer) e;
  ends = refl;
}
linked-word options bytes x row (next ∷ rows) e is =
    let chunk : List Event = enter_link n.Data row.first text_leaf.link ∷ exit n.Data (after_row row) ∷ [] in
    let front : Leads unread_text (unread_rest ∷ [])
    (unread_rest ∷ []) next.front = front-stays unread_text unread_rest bytes [] is.3 next.first next.front
    (refl, refl) is.6 refl in
    word-following unread_text (x ∷ []) (unread_rest ∷ []) (chunk ++ next.front) (unread_lines next rows)
    (leads-append unread_text (x ∷ []) (unread_rest ∷ []) (unread_rest ∷ []) chunk next.front
    (λ outer. ap (λ (y : Expression). y ∷ outer) e) front)
    (linked-word options bytes unread_rest next rows refl is.7)

-- a line before another one has an ending
pub ended-leads : (options : ParseOptions) (bytes line : List ℕ) (first : Bool) (row : Row) (q : Point) →
    IsRow options bytes line row →
    row.after ≡ Some q → IsEnding bytes row.end q →
    Leads plain_text (text_left first ∷ []) (text_left false ∷ [])
    (plain_chunk bytes (record { first = row.first; after = after_row row }))
ended-leads options bytes line first row q is after ending =
    subst
    (λ (r : Point).
    Leads plain_text (text_left first ∷ []) (text_left false ∷ [])
    (plain_chunk bytes (record { first = row.first; after = r })))
    (sym (following-is row q after))
    (subst (λ (e : Point). Leads plain_text (text_left first ∷ []) (text_left false ∷ [])
    (pair_unless_empty n.Data row.first e ++ pair_unless_empty n.LineEnding e q))
    (sym (line_end-ended options bytes line row q is ending))
    (subst
    (λ (es : List Event).
    Leads plain_text (text_left first ∷ []) (text_left false ∷ [])
    (pair_unless_empty n.Data row.first row.end ++ es))
    (sym apart) leads))
  where
    mid : Bool → Expression
    mid line = maybe line n.Data (text_left first)

    apart : pair_unless_empty n.LineEnding row.end q ≡ pair n.LineEnding row.end q
    apart =
        let grows : row.end.index < q.index = ending-grows bytes row.end q ending in
        let other : same_place row.end q ≡ false = grind (arith, nat_tests) in
        ap (λ (x : Bool). cond x [] (pair n.LineEnding row.end q)) other

    same : (first line : Bool) → following n.LineEnding (maybe line n.Data (text_left first)) ≡ text_left false
    same true true = refl
    same true false = refl
    same false true = refl
    same false false = refl

    leads : Leads plain_text (text_left first ∷ []) (text_left false ∷ [])
        (pair_unless_empty n.Data row.first row.end ++ pair n.LineEnding row.end q)
    leads =
        let text = leads-unless plain_text (text_left first) n.Data row.first row.end refl in
        subst
        (λ (x : Expression).
        Leads plain_text (text_left first ∷ []) (x ∷ [])
        (pair_unless_empty n.Data row.first row.end ++ pair n.LineEnding row.end q))
        (same first text.0)
        (leads-append plain_text (text_left first ∷ []) (mid text.0 ∷ []) (following n.LineEnding (mid text.0) ∷ [])
        (pair_unless_empty n.Data row.first row.end) (pair n.LineEnding row.end q) text.1
        (leads-pair plain_text (mid text.0) n.LineEnding row.end q refl))

-- the lines of a text
pub read-word : (options : ParseOptions) (bytes : List ℕ) (first : Bool) (row : Row) (rows : List Row) →
    AreLines options bytes row rows →
    IsWord plain_text (text_left first ∷ []) (read_lines bytes row rows)
read-word options bytes first row [] is = chunk-word bytes first (record { first = row.first; after = row.end })
read-word options bytes first row (next ∷ rows) is =
    let chunk : List Event = plain_chunk bytes (record { first = row.first; after = after_row row }) in
    let front : Leads plain_text (text_left false ∷ []) (text_left false ∷ []) next.front = front-stays plain_text
    (text_left false) bytes [] is.3 next.first next.front (refl, refl) is.6 refl in
    word-following plain_text (text_left first ∷ []) (text_left false ∷ []) (chunk ++ next.front)
    (read_lines bytes next rows)
    (leads-append plain_text (text_left first ∷ []) (text_left false ∷ []) (text_left false ∷ []) chunk next.front
    (ended-leads options bytes is.0 first row is.3 is.1 is.4 is.5) front)
    (read-word options bytes false next rows is.7)
