-- Where tables are off no line of text is the head of one.
use Rattle.std.proofs.Common.{◌≡◌, ℕ, Bool, true, false, ◌&&◌, List, [], ◌∷◌, refl, ap, sym, ◌∙◌}
use Rattle.md_engine.specs.declared.configuration.ParseOptions.{ParseOptions}
use Rattle.md_engine.specs.declared.event.Point.{Point}
use Rattle.md_engine.specs.declared.tokenizer.held_leaf.HeldLeaf.{HeldLeaf}
use Rattle.md_engine.specs.declared.tokenizer.held_leaf.HeldLeaf.TheVariants as held_leaf
use Rattle.md_engine.specs.declared.tokenizer.held_leaf.OpenText.{OpenText}
use Rattle.md_meaning.specs.Rest.{trim_start}
use Rattle.md_meaning.specs.State.{Container, kept}
use Rattle.md_link_definitions.specs.OpenText.{open_text}
use Rattle.md_link_definitions.specs.Progress.{progress_of, step}
use Rattle.proof_frame.specs.Row.{BlankRow, LeafRow, Row, RowKind, TextRow}
use Rattle.proof_rows.specs.Rows.{is_further, line_following, takes_head}
use Rattle.proof_rows.proofs.LineAfter.{FirstLine, first-line, line-met}
use Rattle.proof_rows.proofs.RowFacts.{AreRows, IsRow, following_line}
use Rattle.proof_rows.proofs.TableStarts.{row-no_head}
use Rattle.proof_rows.proofs.TextGroups.{NoHead, NoHeads}

-- a line that continues text does not take that as its head
none-headed : (options : ParseOptions) (bytes line below_line : List ℕ) (row below : Row) →
    options.constructs.gfm_table ≡ false → (is : IsRow options bytes line row) → row.kind ≡ TextRow →
    IsRow options bytes below_line below → below.on ≡ row.following → takes_head below.kind ≡ true → ⊥
none-headed options bytes line below_line row below off is e under on h = go below.kind refl h
  where
    at : OpenText
    at = open_text (step (progress_of row.on) (trim_start is.rest.bytes)) (kept is.rest)

    text : below.on ≡ held_leaf.Text at
    text = on ∙ is.following ∙ ap (line_following options row.on is.rest) e

    go : (kind : RowKind) → below.kind ≡ kind → takes_head kind ≡ true → ⊥
    go BlankRow k h = cc
    go TextRow k h = cc
    go (LeafRow l) k h =
        let bad : true ≡ false = sym h ∙ row-no_head options bytes below_line below l at off under k text in cc

-- so it is with the lines of a text
first-none : (options : ParseOptions) (bytes : List ℕ) (cs : List Container) (p : Point) (lines : List (List ℕ))
    (line : List ℕ) (row below : Row) →
    options.constructs.gfm_table ≡ false → IsRow options bytes line row →
    FirstLine options bytes cs row.following p lines below → NoHead row below
first-none options bytes cs p [] line row below off is first e = absurd first
first-none options bytes cs p (next ∷ lines) line row below off is first e =
    go (is_further below.kind below.on) refl (takes_head below.kind) refl
  where
    go : (x : Bool) → is_further below.kind below.on ≡ x → (y : Bool) → takes_head below.kind ≡ y → (x && y) ≡ false
    go true f true h =
        absurd
        (none-headed options bytes line _ row below off is e first.is
        (line-met options bytes cs row.following p next below first f).2 h)
    go true f false h = refl
    go false f y h = refl

pub rows-unheaded : (options : ParseOptions) (bytes : List ℕ) (open_before : List Container) (still : HeldLeaf)
    (p : Point) (lines : List (List ℕ)) (rows : List Row) →
    options.constructs.gfm_table ≡ false → AreRows options bytes open_before still p lines rows → NoHeads rows
rows-unheaded options bytes open_before still p (line ∷ []) (row ∷ []) off h = tt
rows-unheaded options bytes open_before still p (line ∷ next ∷ lines) (row ∷ below ∷ rows) off h =
    let open_next = following_line options open_before still p line in (
      first-none options bytes open_next h.2 (next ∷ lines) _ row below off h.0.is
          (first-line options bytes open_next row.following h.2 (next ∷ lines) below rows h.5),
      rows-unheaded options bytes open_next row.following h.2 (next ∷ lines) (below ∷ rows) off h.5,
    )
rows-unheaded options bytes open_before still p lines rows off h = absurd h
