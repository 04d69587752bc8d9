-- What holds of each event of a line of a table: no part of it is rewritten by a resolver of the registry, none is a
-- text or an underline, and no content is in it.
use Rattle.std.proofs.Common.{ℕ, Bool, cond, List, [], ◌∷◌, ◌++◌, refl, ap}
use Rattle.std.specs.Prelude.{Some, None}
use Rattle.md_engine.specs.declared.configuration.ParseOptions.{ParseOptions}
use Rattle.md_engine.specs.declared.event.Content.{Content}
use Rattle.md_engine.specs.declared.event.Content.TheVariants as content
use Rattle.md_engine.specs.declared.event.Event.{Event}
use Rattle.md_engine.specs.declared.event.Name.TheVariants as n
use Rattle.md_engine.specs.declared.event.Point.{Point}
use Rattle.md_engine.specs.declared.tokenizer.held_leaf.HeldLeaf.{HeldLeaf}
use Rattle.md_engine.specs.declared.tokenizer.held_leaf.HeldLeaf.TheVariants as held_leaf
use Rattle.md_engine.specs.Meaning.{Cell}
use Rattle.md_leaves.specs.Further.{further_link}
use Rattle.md_events.specs.Ahead.{begins_white, line_cells, line_end, white_end, white_rest}
use Rattle.md_events.specs.Events.Nested.{enter_link, exit, pair}
use Rattle.md_events.specs.Events.Places.{past_byte, past_text}
use Rattle.md_events.specs.Spaces.{small_indent}
use Rattle.md_tables.specs.DelimiterRule as delimiter
use Rattle.md_tables.specs.GfmTableLine.{delimiter_adds, delimiter_runs, row_adds, row_runs}
use Rattle.md_tables.specs.Row.{text_link}
use Rattle.md_tables.specs.RowRule as row
use Rattle.md_tables.specs.declared.row.Row.TheVariants.{Body}
use Rattle.proof_leaf_laws.specs.Leaf.GfmTable.{table_leaf}
use Rattle.proof_frame.proofs.ContentFacts.{NoContent, WantsContent}
use Rattle.proof_frame.proofs.EachEvent.{Each, each-append}
use Rattle.proof_frame.proofs.MarkRuns.Each.{Holds, IsNoContent, each-no_content}
use Rattle.proof_frame.proofs.OutsideFacts.{IsOutside}
use Rattle.proof_frame.proofs.SpanLemmas.{either}
use Rattle.proof_frame.proofs.UnturnedFacts.{IsUnturned}

-- A fact that holds of the begins and the ends of the parts of a row,
pub record OfRow (P : Event → Type 0) : Type 0 where
  pub word : (p : Point) → P (enter_link n.Data p text_link)
  pub word_ends : (p : Point) → P (exit n.Data p)
  pub row : Holds P n.GfmTableRow
  pub delimiter_row : Holds P n.GfmTableDelimiterRow
  pub divider : Holds P n.GfmTableCellDivider
  pub marker : Holds P n.GfmTableDelimiterMarker
  pub filler : Holds P n.GfmTableDelimiterFiller
  pub space : Holds P n.SpaceOrTab

-- and of those of a line.
pub record OfTable (P : Event → Type 0) : Type 0 where
  pub begins : (p : Point) → P (enter_link n.GfmTable p further_link)
  pub ends : (p : Point) → P (exit n.GfmTable p)
  pub of : OfRow P

-- Runs of a delimiter row,
delimiter-opens : (P : Event → Type 0) → OfRow P → (run : delimiter.Run) (p : Point) → Each P (delimiter.opens run p)
delimiter-opens P of delimiter.Apart p = tt
delimiter-opens P of delimiter.Space p = (of.space.0 p, tt)
delimiter-opens P of delimiter.Pipe p = (of.divider.0 p, tt)
delimiter-opens P of delimiter.Colon p = (of.marker.0 p, tt)
delimiter-opens P of delimiter.Filler p = (of.filler.0 p, tt)

delimiter-closes : (P : Event → Type 0) → OfRow P → (run : delimiter.Run) (p : Point) →
    Each P (delimiter.closes run p)
delimiter-closes P of delimiter.Apart p = tt
delimiter-closes P of delimiter.Space p = (of.space.1 p, tt)
delimiter-closes P of delimiter.Pipe p = (of.divider.1 p, tt)
delimiter-closes P of delimiter.Colon p = (of.marker.1 p, tt)
delimiter-closes P of delimiter.Filler p = (of.filler.1 p, tt)

delimiter-turns : (P : Event → Type 0) → OfRow P → (run next : delimiter.Run) (p : Point) (es : List Event) →
    Each P es → Each P (delimiter.closes run p ++ delimiter.opens next p ++ es)
delimiter-turns P of run next p es h =
    each-append P (delimiter.closes run p ++ delimiter.opens next p) es
    (each-append P (delimiter.closes run p) (delimiter.opens next p) (delimiter-closes P of run p)
    (delimiter-opens P of next p)) h

-- by cells and by bytes,
delimiter-cells : (P : Event → Type 0) → OfRow P → (run : delimiter.Run) (cells : List Cell) (p : Point) →
    Each P (delimiter.runs run cells p)
delimiter-cells P of run [] p = delimiter-closes P of run p
delimiter-cells P of run (c ∷ cs) p =
    either (Each P) (delimiter.is_continued run c.byte) _ _ (delimiter-cells P of run cs c.after)
    (delimiter-turns P of run (delimiter.begun c.byte) p _ (delimiter-cells P of (delimiter.begun c.byte) cs c.after))

pub delimiter-bytes : (P : Event → Type 0) → OfRow P → (run : delimiter.Run) (bs : List ℕ) (p : Point) →
    Each P (delimiter_runs run bs p)
delimiter-bytes P of run [] p = delimiter-closes P of run p
delimiter-bytes P of run (b ∷ bs) p =
    either (Each P) (delimiter.is_continued run b) _ _ (delimiter-bytes P of run bs (past_byte b p))
    (delimiter-turns P of run (delimiter.begun b) p _ (delimiter-bytes P of (delimiter.begun b) bs (past_byte b p)))

-- and of any other row.
row-opens : (P : Event → Type 0) → OfRow P → (run : row.Run) (p : Point) → Each P (row.opens run p)
row-opens P of row.Apart p = tt
row-opens P of row.White p = (of.space.0 p, tt)
row-opens P of row.Pipe p = (of.divider.0 p, tt)
row-opens P of row.Text p = (of.word p, tt)
row-opens P of row.Escaped p = (of.word p, tt)

row-closes : (P : Event → Type 0) → OfRow P → (run : row.Run) (p : Point) → Each P (row.closes run p)
row-closes P of row.Apart p = tt
row-closes P of row.White p = (of.space.1 p, tt)
row-closes P of row.Pipe p = (of.divider.1 p, tt)
row-closes P of row.Text p = (of.word_ends p, tt)
row-closes P of row.Escaped p = (of.word_ends p, tt)

row-turns : (P : Event → Type 0) → OfRow P → (run next : row.Run) (p : Point) (es : List Event) → Each P es →
    Each P (row.closes run p ++ row.opens next p ++ es)
row-turns P of run next p es h =
    each-append P (row.closes run p ++ row.opens next p) es
    (each-append P (row.closes run p) (row.opens next p) (row-closes P of run p) (row-opens P of next p)) h

pub row-cells : (P : Event → Type 0) → OfRow P → (run : row.Run) (cells : List Cell) (p : Point) →
    Each P (row.runs run cells p)
row-cells P of run [] p = row-closes P of run p
row-cells P of run (c ∷ cs) p =
    either (Each P) (row.is_continued run c.byte) _ _ (row-cells P of (row.next run c.byte) cs c.after)
    (row-turns P of run (row.begun c.byte) p _ (row-cells P of (row.begun c.byte) cs c.after))

pub row-bytes : (P : Event → Type 0) → OfRow P → (run : row.Run) (bs : List ℕ) (p : Point) → Each P (row_runs run bs p)
row-bytes P of run [] p = row-closes P of run p
row-bytes P of run (b ∷ bs) p =
    either (Each P) (row.is_continued run b) _ _ (row-bytes P of (row.next run b) bs (past_byte b p))
    (row-turns P of run (row.begun b) p _ (row-bytes P of (row.begun b) bs (past_byte b p)))

-- A line, with what is in it.

delimiter-line : (P : Event → Type 0) → OfTable P → (inside : List Event) (p q : Point) → Each P inside →
    Each P (delimiter.row_opens p ++ inside ++ delimiter.row_closes q)
delimiter-line P of inside p q h = (
  of.begins p,
  (
    of.of.delimiter_row.0 p,
    each-append P inside (delimiter.row_closes q) h (of.of.delimiter_row.1 q, (of.ends q, tt)),
  ),
)

row-line : (P : Event → Type 0) → OfTable P → (inside : List Event) (p q : Point) → Each P inside →
    Each P (row.row_opens Body p ++ inside ++ row.row_closes Body q)
row-line P of inside p q h =
    (of.begins p, (of.of.row.0 p, each-append P inside (row.row_closes Body q) h (of.of.row.1 q, (of.ends q, tt))))

-- by its cells
delimiter-each : (P : Event → Type 0) → OfTable P → (options : ParseOptions) (cells : List Cell) (p : Point) →
    Each P (delimiter_adds options cells p)
delimiter-each P of options cells p =
    let room : ℕ = small_indent options in
    let q : Point = white_end room cells p in
    delimiter-line P of _ p (line_end cells p)
    (each-append P (cond (begins_white cells) (pair n.SpaceOrTab p q) [])
    (delimiter.runs delimiter.Apart (line_cells (white_rest room cells)) q)
    (either (Each P) (begins_white cells) _ _ (of.of.space.0 p, (of.of.space.1 q, tt)) tt)
    (delimiter-cells P of.of delimiter.Apart (line_cells (white_rest room cells)) q))

row-each : (P : Event → Type 0) → OfTable P → (cells : List Cell) (p : Point) → Each P (row_adds cells p)
row-each P of cells p =
    row-line P of _ p (line_end cells p) (row-cells P of.of row.Apart (line_cells cells) p)

pub table-adds_each : (P : Event → Type 0) → OfTable P → (options : ParseOptions) (on : HeldLeaf) (cells : List Cell)
    (p : Point) → Each P (table_leaf.adds options on cells p)
table-adds_each P of options held_leaf.Table cells p = row-each P of cells p
table-adds_each P of options _ cells p = delimiter-each P of options cells p

-- and by its bytes
pub table-added_each : (P : Event → Type 0) → OfTable P → (options : ParseOptions) (on : HeldLeaf) (line : List ℕ)
    (p : Point) → Each P (table_leaf.added options on line p)
table-added_each P of options held_leaf.Table line p =
    row-line P of _ p (past_text line p) (row-bytes P of.of row.Apart line p)
table-added_each P of options _ line p =
    delimiter-line P of _ p (past_text line p) (delimiter-bytes P of.of delimiter.Apart line p)

-- No part of a line is rewritten,
pub of-outside : OfTable IsOutside
of-outside = record {
  begins = λ q. refl;
  ends = λ q. refl;
  of = record {
    word = λ q. refl;
    word_ends = λ q. refl;
    row = (λ q. refl, λ q. refl);
    delimiter_row = (λ q. refl, λ q. refl);
    divider = (λ q. refl, λ q. refl);
    marker = (λ q. refl, λ q. refl);
    filler = (λ q. refl, λ q. refl);
    space = (λ q. refl, λ q. refl);
  };
}

-- none is a text or an underline,
pub of-unturned : OfTable IsUnturned
of-unturned = record {
  begins = λ q. refl;
  ends = λ q. refl;
  of = record {
    word = λ q. refl;
    word_ends = λ q. refl;
    row = (λ q. refl, λ q. refl);
    delimiter_row = (λ q. refl, λ q. refl);
    divider = (λ q. refl, λ q. refl);
    marker = (λ q. refl, λ q. refl);
    filler = (λ q. refl, λ q. refl);
    space = (λ q. refl, λ q. refl);
  };
}

-- and no content is in it: its words are texts, and it is linked to the line in front.
pub of-no_content : (wants : Content → Bool) → WantsContent wants → OfTable (IsNoContent wants)
of-no_content wants only = record {
  begins = λ q. (ap (λ (x : Bool). cond x (Some content.Flow) None) only.flow, refl);
  ends = λ q. (refl, refl);
  of = record {
    word = λ q. (ap (λ (x : Bool). cond x (Some content.Text) None) only.text, refl);
    word_ends = λ q. (refl, refl);
    row = (λ q. (refl, refl), λ q. (refl, refl));
    delimiter_row = (λ q. (refl, refl), λ q. (refl, refl));
    divider = (λ q. (refl, refl), λ q. (refl, refl));
    marker = (λ q. (refl, refl), λ q. (refl, refl));
    filler = (λ q. (refl, refl), λ q. (refl, refl));
    space = (λ q. (refl, refl), λ q. (refl, refl));
  };
}

pub table-no_content : (wants : Content → Bool) → WantsContent wants → (options : ParseOptions) (on : HeldLeaf)
    (cells : List Cell) (p : Point) → NoContent wants (table_leaf.adds options on cells p)
table-no_content wants only options on cells p =
    each-no_content wants (table_leaf.adds options on cells p)
    (table-adds_each (IsNoContent wants) (of-no_content wants only) options on cells p)
