-- A container on a line: where it continues, and where it opens, it has the events of its cells.
use Rattle.std.proofs.Common.{◌≡◌, ℕ, zero, suc, ◌^◌, ◌<◌, Bool, true, false, cond, not, ◌&&◌, ◌||◌, List, ◌∷◌, ◌++◌}
use Rattle.std.proofs.Common.{length, refl, sym, ap, ap₂, ◌∙◌, subst, arith}
use Rattle.std.specs.Prelude.{Option, Some, None, nat_le}
use Rattle.std.specs.Option.{option_or}
use Rattle.md_engine.specs.declared.configuration.ParseOptions.{ParseOptions}
use Rattle.md_engine.specs.declared.event.Event.{Event}
use Rattle.md_engine.specs.declared.event.Name.TheVariants as n
use Rattle.md_engine.specs.declared.event.Point.{Point}
use Rattle.md_engine.specs.declared.tokenizer.container.name.ContainerKind.TheVariants as kind
use Rattle.md_engine.specs.declared.tokenizer.Line.{Line}
use Rattle.md_engine.specs.Meaning.{Cell}
use Rattle.md_containers.specs.FootnotePrefix.{footnote_further, footnote_new}
use Rattle.md_containers.specs.ItemPrefix.{ItemPassed, item_further, item_new}
use Rattle.md_containers.specs.QuoteRule.{takes_prefix}
use Rattle.md_containers.proofs.FootnoteOpens.{OpensFootnote, footnote-opens_agrees}
use Rattle.md_containers.proofs.ItemLines.{ItemAgrees}
use Rattle.md_containers.proofs.ItemOpens.{OpensItem, opens-agrees}
use Rattle.md_containers.proofs.QuoteLines.{quote-container}
use Rattle.proof_container_laws.specs.Containers.BlockQuote.{quote_new, quote_on}
use Rattle.proof_container_laws.specs.Containers.GfmFootnoteDefinition.{footnote_passed, footnote_passes}
use Rattle.proof_container_laws.specs.Containers.ListItem.{item_passed, item_passes}
use Rattle.md_meaning.specs.Containers.{Taken, continues, footnote_continues, item_continues, opens, opens_footnote}
use Rattle.md_meaning.specs.Containers.{opens_item, opens_quote}
use Rattle.md_meaning.specs.Rest.{Rest, indent, is_blank, lose}
use Rattle.md_meaning.specs.State.{Container, InFootnote, InItem, InQuote}
use Rattle.md_meaning.proofs.TextsLemmas.{NoEnding}
use Rattle.md_events.specs.Events.Nested.{enter}
use Rattle.md_events.proofs.FeedLines.{Stops}
use Rattle.md_events.proofs.RestCells.{past_rest, rest_cells}
use Rattle.proof_frame.specs.Passed.{Passed}
use Rattle.proof_frame.proofs.PassedFacts.{Agree, HasOpening}
use Rattle.proof_frame.proofs.RegistryRead.{IsRead}
use Rattle.md_registry.specs.Registry.{proceeds_at, opens_at}
use Rattle.md_registry.proofs.Registry.{container-laws}
use Rattle.md_events.specs.Exact.Places.{TextLine}
use Rattle.md_events.specs.Exact.Prefixes.{footnote_prefix, further_prefix, item_prefix}
use Rattle.proof_exact_pieces.proofs.OnLine.{LineIn, OnLine, place-on}
use Rattle.proof_exact_lines.proofs.Alerts.{opening-same}
use Rattle.proof_exact_lines.proofs.Footnotes.{footnote-opens}
use Rattle.proof_exact_lines.proofs.FurtherPrefixes.{footnote-same, item-same}
use Rattle.proof_exact_lines.proofs.Items.{item-opens}
use Rattle.proof_exact_lines.proofs.Quotes.{has-front, quote-same}
use Rattle.proof_exact_lines.specs.Unlisted.{plain_begin}

-- these events are those of a container on a line, and its rest is where they end
pub record HasEvents (text following : List ℕ) (line : TextLine) (es : List Event) (left : Rest)
    (passed : Passed) : Type 0
  where
    pub events : es ≡ passed.events
    pub on : OnLine text following line left passed.point

abbrev passed_of : Passed → Option Passed → Passed
passed_of other None = other
passed_of other (Some u) = u

-- as an item, and as a footnote definition, continues
item-is_continued : (digits : List ℕ) (marker width : ℕ) (blank : Bool) (r : Rest) (t : Taken) →
    item_continues digits marker width blank r ≡ Some t → t.container ≡ InItem digits marker width false
unfolding item_continues
item-is_continued digits marker width blank r t e =
    go (cond (is_blank r.bytes) (not blank) (nat_le width (indent r))) e
  where
    container_of : Option Taken → Container
    container_of None = t.container
    container_of (Some u) = u.container

    go : (x : Bool) →
        cond x (Some (record { container = InItem digits marker width false; rest = lose width r })) None ≡ Some t →
        t.container ≡ InItem digits marker width false
    go true f = sym (ap container_of f)
    go false f = absurd (cc)

footnote-is_continued : (label : List ℕ) (r : Rest) (t : Taken) → footnote_continues label r ≡ Some t →
    t.container ≡ InFootnote label
unfolding footnote_continues
footnote-is_continued label r t e = go (is_blank r.bytes || nat_le 4 (indent r)) e
  where
    container_of : Option Taken → Container
    container_of None = t.container
    container_of (Some u) = u.container

    go : (x : Bool) → cond x (Some (record { container = InFootnote label; rest = lose 4 r })) None ≡ Some t →
        t.container ≡ InFootnote label
    go true f = sym (ap container_of f)
    go false f = absurd (cc)

-- A container that continues has the events of its cells.
pub proceeds-same : (options : ParseOptions) (c : Container) (cell_line : Line) (text following : List ℕ)
    (line : TextLine)
    (r : Rest) (p : Point) (stop : List Cell) (passed : Passed) (t : Taken) →
    IsRead c → LineIn text following line → OnLine text following line r p → NoEnding r.bytes → Stops stop →
    length (rest_cells cell_line r p ++ stop) < 2 ^ 63 →
    proceeds_at options c (rest_cells cell_line r p ++ stop) p ≡ Some passed → continues options c r ≡ Some t →
    HasEvents text following line (further_prefix line t.container r t.rest) t.rest passed
proceeds-same options (InQuote alert) cell_line text following line r p stop passed t read is on plain k short e f =
    go (takes_prefix options cells) e
  where
    cells : List Cell
    cells = rest_cells cell_line r p ++ stop

    go : (x : Bool) → cond x (Some (quote_on options alert cells p)) None ≡ Some passed →
        HasEvents text following line (further_prefix line t.container r t.rest) t.rest passed
    go false g = absurd (cc)
    go true g =
        subst (HasEvents text following line (further_prefix line t.container r t.rest) t.rest)
        (ap (passed_of passed) g)
        (record {
          events =
              ap (λ (d : Container). further_prefix line d r t.rest) (quote-container options alert r t f)
              ∙ quote-same options alert cell_line text following line r p stop t is on plain k short f;
          on = (has-front options alert cell_line text following line r p stop t is on plain k short f).on_left;
        })
proceeds-same options (InItem digits marker zero blank) cell_line text following line r p stop passed t
    read is on plain k
    short e f =
    absurd read
proceeds-same options (InItem digits marker (suc w) blank) cell_line text following line r p stop passed t
    read is on plain k
    short e f =
    go (item_further digits marker (suc w) blank cells p) refl e
  where
    cells : List Cell
    cells = rest_cells cell_line r p ++ stop

    go : (o : Option ItemPassed) → item_further digits marker (suc w) blank cells p ≡ o → item_passes o ≡ Some passed →
        HasEvents text following line (further_prefix line t.container r t.rest) t.rest passed
    go None g h = absurd (cc)
    go (Some own) g h =
        let has = item-same digits marker (suc w) blank (omega arith) cell_line text following line r p stop own t is on
        plain k g f in
        subst (HasEvents text following line (further_prefix line t.container r t.rest) t.rest)
        (ap (passed_of passed) h)
        (record {
          events =
              ap (λ (d : Container). further_prefix line d r t.rest)
              (item-is_continued digits marker (suc w) blank r t f)
              ∙ has.events;
          on = has.on;
        })
proceeds-same options (InFootnote label) cell_line text following line r p stop passed t read is on plain k short e f =
    go (footnote_further label cells p) refl e
  where
    cells : List Cell
    cells = rest_cells cell_line r p ++ stop

    go : (o : Option ItemPassed) → footnote_further label cells p ≡ o → footnote_passes o ≡ Some passed →
        HasEvents text following line (further_prefix line t.container r t.rest) t.rest passed
    go None g h = absurd (cc)
    go (Some own) g h =
        let has = footnote-same label cell_line text following line r p stop own t is on plain k g f in
        subst (HasEvents text following line (further_prefix line t.container r t.rest) t.rest)
        (ap (passed_of passed) h)
        (record {
          events =
              ap (λ (d : Container). further_prefix line d r t.rest) (footnote-is_continued label r t f) ∙ has.events;
          on = has.on;
        })

-- Where one opens.

abbrev pub Opens : List ℕ → List ℕ → TextLine → Rest → Taken → Passed → Type 0
Opens text following line r t passed =
    HasEvents text following line (plain_begin line t.container r t.rest) t.rest passed

pub quote-opens : (options : ParseOptions) (cell_line : Line) (text following : List ℕ) (line : TextLine) (r : Rest)
    (p : Point) (stop : List Cell) (t : Taken) →
    LineIn text following line → OnLine text following line r p → NoEnding r.bytes → Stops stop →
    length (rest_cells cell_line r p ++ stop) < 2 ^ 63 → opens_quote options r ≡ Some t →
    Opens text following line r t (quote_new options (rest_cells cell_line r p ++ stop) p)
quote-opens options cell_line text following line r p stop t is on plain k short e =
    let has = opening-same options cell_line text following line r p stop t is on plain k short e in
    record {
      events =
          ap (λ (c : Container). plain_begin line c r t.rest) has.container
          ∙ ap₂ (λ (x : Point) (es : List Event). enter n.BlockQuote x ∷ es) (place-on text following line r p is on)
          has.events;
      on = has.on;
    }

pub item-begins : (cell_line : Line) (text following : List ℕ) (line : TextLine) (r : Rest) (p : Point) (stop : List Cell)
    (own : ItemPassed) (t : Taken) →
    LineIn text following line → OnLine text following line r p → NoEnding r.bytes → Stops stop →
    OpensItem cell_line text following p (past_rest r p) stop (rest_cells cell_line r p ++ stop) own t →
    Opens text following line r t (item_passed own)
item-begins cell_line text following line r p stop own t is on plain k opened =
    let has = item-opens cell_line text following line r p stop own t is on plain k opened in
    record {
      events =
          ap (λ (c : Container). plain_begin line c r t.rest) has.container
          ∙ ap (λ (x : Point). enter n.ListItem x ∷ item_prefix line has.digits r t.rest)
          (place-on text following line r p is on)
          ∙ has.events;
      on = has.on;
    }

pub footnote-begins : (cell_line : Line) (text following : List ℕ) (line : TextLine) (r : Rest) (p : Point)
    (stop : List Cell)
    (own : ItemPassed) (t : Taken) →
    LineIn text following line → OnLine text following line r p → NoEnding r.bytes → Stops stop →
    OpensFootnote cell_line text following p (past_rest r p) stop (rest_cells cell_line r p ++ stop) own t →
    Opens text following line r t (footnote_passed own)
footnote-begins cell_line text following line r p stop own t is on plain k opened =
    let has = footnote-opens cell_line text following line r p stop own t is on plain k opened in
    record {
      events =
          ap (λ (c : Container). plain_begin line c r t.rest) has.container
          ∙ ap (λ (x : Point). enter n.GfmFootnoteDefinition x ∷ footnote_prefix line has.label r t.rest)
          (place-on text following line r p is on)
          ∙ has.events;
      on = has.on;
    }

abbrev taken_of : Taken → Option Taken → Taken
taken_of other None = other
taken_of other (Some u) = u

-- A container that opens has the events of its cells.
pub opens-same : (options : ParseOptions) (interrupting : Bool) (cell_line : Line) (text following : List ℕ)
    (line : TextLine) (r : Rest) (p : Point) (stop : List Cell) (passed : Passed) (t : Taken) →
    LineIn text following line → OnLine text following line r p → NoEnding r.bytes → Stops stop →
    length (rest_cells cell_line r p ++ stop) < 2 ^ 63 →
    opens_at options interrupting (rest_cells cell_line r p ++ stop) p ≡ Some passed →
    opens options interrupting r ≡ Some t →
    HasEvents text following line (plain_begin line t.container r t.rest) t.rest passed
opens-same options interrupting cell_line text following line r p stop passed t is on plain k short e f =
    quotes (cond (options.constructs.block_quote && takes_prefix options cells) (Some new) None) (opens_quote options r)
    refl refl
    ((container-laws kind.BlockQuote).opens_agrees options interrupting cell_line text following r stop p
    on.valid plain k
    short) e f
  where
    cells : List Cell
    cells = rest_cells cell_line r p ++ stop

    new : Passed
    new = quote_new options cells p

    -- what is opened is what is said
    recorded : (u : Passed) (v : Taken) → u ≡ passed → v ≡ t → Opens text following line r v u →
        Opens text following line r t passed
    recorded u v g h has =
        subst (λ (x : Passed). Opens text following line r t x) g
        (subst (λ (x : Taken). Opens text following line r x u) h has)

    footnotes : (a : Option ItemPassed) (b : Option Taken) →
        ItemAgrees (OpensFootnote cell_line text following p (past_rest r p) stop cells) a b →
        option_or (footnote_passes a) None ≡ Some passed → b ≡ Some t → Opens text following line r t passed
    footnotes None b agree g h = absurd (cc)
    footnotes (Some own) None agree g h = absurd agree
    footnotes (Some own) (Some v) agree g h =
        recorded (footnote_passed own) v (ap (passed_of passed) g) (ap (taken_of t) h)
        (footnote-begins cell_line text following line r p stop own v is on plain k agree)

    items : (a : Option ItemPassed) (b : Option Taken) →
        ItemAgrees (OpensItem cell_line text following p (past_rest r p) stop cells) a b →
        option_or (item_passes a) (option_or (footnote_passes (footnote_new options cells p)) None) ≡ Some passed →
        option_or b (opens_footnote options r) ≡ Some t → Opens text following line r t passed
    items None None agree g h =
        footnotes (footnote_new options cells p) (opens_footnote options r)
        (footnote-opens_agrees options cell_line text following r stop p on.valid plain k short) g h
    items None (Some v) agree g h = absurd agree
    items (Some own) None agree g h = absurd agree
    items (Some own) (Some v) agree g h =
        recorded (item_passed own) v (ap (passed_of passed) g) (ap (taken_of t) h)
        (item-begins cell_line text following line r p stop own v is on plain k agree)

    quote_is : (x : Bool) (u : Passed) → cond x (Some new) None ≡ Some u → new ≡ u
    quote_is true u g = ap (passed_of u) g
    quote_is false u g = absurd (cc)

    quotes : (a : Option Passed) (b : Option Taken) →
        cond (options.constructs.block_quote && takes_prefix options cells) (Some new) None ≡ a →
        opens_quote options r ≡ b →
        Agree (HasOpening cell_line text following p (past_rest r p) stop cells) a b →
        option_or a
        (option_or (item_passes (item_new options interrupting cells p))
        (option_or (footnote_passes (footnote_new options cells p)) None)) ≡
        Some passed →
        option_or b (option_or (opens_item options interrupting r) (opens_footnote options r)) ≡ Some t →
        Opens text following line r t passed
    quotes None None g h agree i j =
        items (item_new options interrupting cells p) (opens_item options interrupting r)
        (opens-agrees options interrupting cell_line text following r stop p on.valid plain k short) i j
    quotes None (Some v) g h agree i j = absurd agree
    quotes (Some u) None g h agree i j = absurd agree
    quotes (Some u) (Some v) g h agree i j =
        recorded u v (ap (passed_of passed) i) (ap (taken_of t) j)
        (subst (λ (x : Passed). Opens text following line r v x)
        (quote_is (options.constructs.block_quote && takes_prefix options cells) u g)
        (quote-opens options cell_line text following line r p stop v is on plain k short h))
