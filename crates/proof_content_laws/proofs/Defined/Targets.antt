-- Single bytes of cells of lines, and destinations.
use Rattle.std.proofs.Common.{◌≡◌, ◌≢◌, ℕ, suc, ◌+◌, ◌≤◌, Bool, true, false, cond, nat_eq, List, []}
use Rattle.std.proofs.Common.{◌∷◌, ◌++◌, length, take, drop, refl, sym, ap, ◌∙◌, subst, arith, append_assoc}
use Rattle.std.proofs.Common.{Option, Some, None, append-nil}
use Rattle.std.specs.Prelude.{nat_lt}
use Rattle.std.specs.List.{take_while}
use Rattle.std.proofs.lemmas.Bool.{eqb-true}
use Rattle.std.proofs.lemmas.Bool.Decides.{nat_tests}
use Rattle.std.proofs.lemmas.List.{drop_at, length-append, take_at}
use Rattle.md_meaning.specs.Ascii.{greater_than, less_than}
use Rattle.md_meaning.specs.Bytes.{after}
use Rattle.md_meaning.specs.Definition as definition
use Rattle.md_meaning.specs.Definition.{Destination, balanced, is_raw_byte}
use Rattle.md_meaning.specs.Rest.{is_white}
use Rattle.md_engine.specs.declared.event.Event.{Event}
use Rattle.md_engine.specs.declared.event.Name.TheVariants as n
use Rattle.md_engine.specs.declared.event.Point.{Point}
use Rattle.md_engine.specs.Meaning.{Cell}
use Rattle.md_engine.specs.Place.{is_ending}
use Rattle.md_link_definitions.specs.Chunks.{before_mark, from_mark, string_link}
use Rattle.md_link_definitions.specs.DestinationRule.{begins_literal, destination_last, destination_left}
use Rattle.md_link_definitions.specs.DestinationRule.{destination_part, text_begin, text_part}
use Rattle.md_link_definitions.specs.Title.{is_mark}
use Rattle.md_link_definitions.specs.WholeCells.{AreWhole, whole_cells}
use Rattle.md_link_definitions.proofs.DefinitionLines.{text_bytes}
use Rattle.md_link_definitions.proofs.DestinationLemmas.{line-ends, line-more, raw-cons, raw-ends, raw-no_ending}
use Rattle.md_link_definitions.proofs.DestinationWhole.{found-literal, found-neither, found-none}
use Rattle.md_link_definitions.proofs.DestinationWhole.{found-raw, literal_found, raw_found}
use Rattle.md_link_definitions.proofs.LineCells.{bytes-length, enclosed-marks, enclosed_by, line-no_feed}
use Rattle.md_link_definitions.proofs.LineCells.{line-split, lines-first, mark-split, no_feed-split}
use Rattle.md_link_definitions.proofs.SpreadLines.{spread-whole}
use Rattle.md_events.specs.Ahead.{from_ending, line_bytes, line_cells, point_after}
use Rattle.md_events.specs.Events.Nested.{around, enter, enter_link, exit, pair}
use Rattle.md_events.proofs.FeedLines.{NoFeed, bytes_of, line_cells-append, point_after-append, slice-front}
use Rattle.proof_content_laws.proofs.Defined.Along.{IsPlain, IsStep, Kind, OfByte, OfColumn, OfLast, Valid, Steps, Turn}
use Rattle.proof_content_laws.proofs.Defined.Along.{kind, no_line}
use Rattle.proof_content_laws.proofs.Defined.Form.{IsByte, IsRun, IsTarget, Literal, Raw, Target, string_unread}
use Rattle.proof_content_laws.proofs.Defined.Form.{target_by, target_text, unless_empty}
use Rattle.proof_content_laws.proofs.Defined.Runs.{RunOf, drop-here, is-run, run-of, run_text, step-valid}
use Rattle.proof_content_laws.proofs.Defined.Strands.{last-lines, run-some, uncut}
use Rattle.proof_frame.proofs.PieceFacts.{whole-first}
use Rattle.proof_content_laws.proofs.Defined.Takes.{OnLine, Takes, Walk, on-line, step-whole, takes-around, takes-end}
use Rattle.proof_content_laws.proofs.Defined.Takes.{takes-quiet, column-is-white, takes-then}

-- One byte.

-- a cell that is no whitespace is a byte, and a byte begins after it
pub dark-plain : (bytes : List ℕ) (p : Point) (c : Cell) → Valid bytes p → IsStep bytes p c →
    is_white c.byte ≡ false → IsPlain bytes p c
dark-plain bytes p c valid is dark = go (kind bytes p c valid is)
  where
    go : Kind bytes p c → IsPlain bytes p c
    go (OfByte k) = k
    go (OfColumn k) =
        let yes : is_white c.byte ≡ true =
        ap (λ (d : Cell). is_white d.byte) k.cell_is ∙ (column-is-white (nat_lt 0 p.vs)).0 in
        cc
    go (OfLast k) =
        let yes : is_white c.byte ≡ true =
        ap (λ (d : Cell). is_white d.byte) k.cell_is ∙ (column-is-white (nat_lt 0 p.vs)).0 in
        cc

pub record ByteOf (bytes : List ℕ) (last p : Point) (c : Cell) (cs : List Cell) (turns : List Turn) : Type 0 where
  pub takes : Takes bytes last p turns c.after cs turns [] []
  pub is : IsByte bytes c.byte p c.after

pub byte-of : (bytes : List ℕ) (last p : Point) (c : Cell) (cs : List Cell) (turns : List Turn) →
    is_white c.byte ≡ false → nat_eq c.byte 10 ≡ false → Walk bytes last p (c ∷ cs) turns →
    ByteOf bytes last p c cs turns
byte-of bytes last p c cs turns dark plain walk =
    let line = on-line bytes last p (c ∷ []) cs turns (plain, tt) walk in
    let step = line.steps.0 in
    let k = dark-plain bytes p c walk.valid step dark in
    record {
      takes = line.takes;
      is = (
        k.whole,
        subst (λ (d : Cell). IsRun bytes (d.byte ∷ []) p d.after) (sym k.cell_is)
            (record {
              no_ending = (ap is_ending (sym k.at) ∙ step.plain, tt);
              slice =
                  slice-front bytes p.index (p.index + 1) (k.byte ∷ []) (drop (p.index + 1) bytes)
                  (drop-here p.index bytes step.within
                  ∙ ap (λ (x : ℕ). x ∷ drop (p.index + 1) bytes) k.at)
                  refl;
              size = refl;
              within = let lt = step.within in omega (arith, lt);
              end = refl;
              column = walk.valid.column;
              whole = refl;
              cut_first = whole-first p (k.byte ∷ []) k.whole;
            }),
      );
    }

-- The bytes of a run.

pub run-bytes : (bytes : List ℕ) (p q : Point) (cells : List Cell) (run : RunOf bytes p q cells) → 1 ≤ p.column →
    p.vs ≡ 0 → NoFeed cells → bytes_of (whole_cells p cells) ≡ run_text bytes p q cells run
run-bytes bytes p q cells run one whole none =
    let same = uncut bytes p q cells run whole in
    let line : line_cells cells ≡ cells =
    ap line_cells (sym (append-nil cells)) ∙ line_cells-append cells [] none ∙ append-nil cells in
    let first = lines-first p cells
    (subst (λ (l : List Cell). AreWhole p l) (sym same.0) (spread-whole no_line run.text p whole one)) in
    let both = sym first ∙ last-lines bytes p q cells run one whole in
    let head : bytes_of (whole_cells p (line_cells cells)) ≡ run_text bytes p q cells run = cc in
    ap (λ (l : List Cell). bytes_of (whole_cells p l)) (sym line) ∙ head

-- Destinations.

pub record TargetOf (bytes : List ℕ) (last p : Point) (cells : List Cell) (turns : List Turn) (d : Destination) :
    Type 0 where
  pub target : Target
  pub takes : Takes bytes last p turns (destination_last d cells p) (destination_left d cells) turns
      (destination_part (begins_literal cells) d.text cells p) (target_by string_unread target)
  pub is : IsTarget bytes p (destination_last d cells p) target
  pub text : target_text target ≡ text_bytes d cells p

-- Without angle brackets.

abbrev pub AllRaw : List Cell → Type 0
AllRaw [] = Unit {0}
AllRaw (c ∷ cs) = (is_raw_byte c.byte ≡ true) × AllRaw cs

pub record RawFront (cells : List Cell) : Type 0 where
  pub text : List Cell
  pub rest : List Cell
  pub split : text ++ rest ≡ cells
  pub found : take_while is_raw_byte (line_bytes cells) ≡ bytes_of text
  pub raw : AllRaw text

pub raw-front : (cells : List Cell) → RawFront cells
raw-front [] = record { text = []; rest = []; split = refl; found = refl; raw = tt }
raw-front (c ∷ cs) = go (is_raw_byte c.byte) refl (raw-front cs)
  where
    go : (x : Bool) → is_raw_byte c.byte ≡ x → RawFront cs → RawFront (c ∷ cs)
    go true e more = record {
      text = c ∷ more.text;
      rest = more.rest;
      split = ap (λ (l : List Cell). c ∷ l) more.split;
      found = raw-cons c cs e ∙ ap (λ (l : List ℕ). c.byte ∷ l) more.found;
      raw = (e, more.raw);
    }
    go false e more =
        record { text = []; rest = c ∷ cs; split = refl; found = raw-ends c cs e; raw = tt }

pub raw-no_white : (b : ℕ) → is_raw_byte b ≡ true → is_white b ≡ false
raw-no_white b e = grind (arith, nat_tests)

pub raw-no_feed : (cells : List Cell) → AllRaw cells → NoFeed cells
raw-no_feed [] raw = tt
raw-no_feed (c ∷ cs) raw = (raw-no_ending c.byte raw.0, raw-no_feed cs raw.1)

raw-whole : (bytes : List ℕ) (p : Point) (cells : List Cell) → Valid bytes p → Steps bytes p cells → AllRaw cells →
    p.vs ≡ 0 → (point_after cells p).vs ≡ 0
raw-whole bytes p [] valid steps raw whole = whole
raw-whole bytes p (c ∷ cs) valid steps raw whole =
    let k = dark-plain bytes p c valid steps.0 (raw-no_white c.byte raw.0) in
    raw-whole bytes c.after cs (step-valid bytes p c valid steps.0) steps.1 raw.1
    (ap (λ (d : Cell). d.after.vs) k.cell_is)

target-raw : (bytes : List ℕ) (last p : Point) (c : Cell) (text rest cells : List Cell) (turns : List Turn)
    (more : List ℕ) → begins_literal cells ≡ false → (c ∷ text) ++ rest ≡ cells → AllRaw (c ∷ text) →
    Walk bytes last p cells turns →
    TargetOf bytes last p cells turns (record { text = bytes_of (c ∷ text); rest = more })
target-raw bytes last p c text rest cells turns more none split raw walk =
    let all = c ∷ text in
    let here = subst (λ (l : List Cell). Walk bytes last p l turns) (sym split) walk in
    let line = on-line bytes last p all rest turns (raw-no_feed all raw) here in
    let first : p.vs ≡ 0 = step-whole bytes p c walk.valid line.steps.0 (raw-no_white c.byte raw.0) in
    let whole = raw-whole bytes p all walk.valid line.steps raw first in
    let q = point_after all p in
    let run = run-of bytes p all walk.valid line.steps whole in
    let text_is = run_text bytes p q all run in
    let front : take (length (bytes_of all)) cells ≡ all =
    ap (take (length (bytes_of all))) (sym split) ∙ take_at all rest (length (bytes_of all)) (sym (bytes-length all)) in
    let left : drop (length (bytes_of all)) cells ≡ rest =
    ap (drop (length (bytes_of all))) (sym split) ∙ drop_at all rest (length (bytes_of all)) (sym (bytes-length all)) in
    let d : Destination = record { text = bytes_of all; rest = more } in
    let taken = takes-around bytes last p turns q rest turns (exit n.Data q ∷ []) (exit n.Data q ∷ [])
    (enter n.DefinitionDestination p ∷ enter n.DefinitionDestinationRaw p ∷ enter n.DefinitionDestinationString p
    ∷ enter_link n.Data p string_link ∷ [])
    (exit n.DefinitionDestinationString q ∷ exit n.DefinitionDestinationRaw q ∷ exit n.DefinitionDestination q ∷ [])
    (refl, (refl, (refl, (refl, tt)))) (refl, (refl, (refl, tt)))
    (takes-end bytes last p turns q rest turns [] [] n.Data line.takes whole)
    (omega arith) (omega arith, (omega arith, (omega arith, (omega arith, tt))))
    (omega arith, λ same. whole) (omega arith, (omega arith, (omega arith, tt))) in
    record {
      target = Raw p q text_is;
      takes = rw (none, front, left) taken;
      is = rw (none, front) (
        refl,
        refl,
        first,
        run-some c text p run.spaces run.text run.cells_are,
        is-run bytes p q all walk.valid run,
      );
      text =
          rw (none, front)
          (sym (run-bytes bytes p q all run walk.valid.column first (raw-no_feed all raw)));
    }

-- Between angle brackets.

-- with the second bracket a text is one byte longer
closed-length : (text : List Cell) (d : Cell) → length (text ++ (d ∷ [])) ≡ suc (length (bytes_of text))
closed-length text d = let one = length-append text (d ∷ []) in let size = bytes-length text in omega (arith, size, one)

-- A text between brackets, before this rest of the cells.
module _ (bytes : List ℕ) (last p : Point) (c : Cell) (text : List Cell) (d : Cell) (rest : List Cell)
    (turns : List Turn) (opens : c.byte ≡ less_than) (closes : d.byte ≡ greater_than) (none : NoFeed text)
    (here : Walk bytes last p (c ∷ (text ++ (d ∷ rest))) turns) where
  -- where the text begins and ends, and where its brackets end
  abbrev text_from : Point
  text_from = c.after

  abbrev text_to : Point
  text_to = point_after text c.after

  abbrev literal_to : Point
  literal_to = d.after

  -- each bracket is a byte, and the text is on one line
  opener : ByteOf bytes last p c (text ++ (d ∷ rest)) turns
  opener = byte-of bytes last p c (text ++ (d ∷ rest)) turns (rw opens refl) (rw opens refl) here

  inside : OnLine bytes last text_from text turns (d ∷ rest)
  inside = on-line bytes last text_from text (d ∷ rest) turns none opener.takes.walk

  closer : ByteOf bytes last text_to d rest turns
  closer = byte-of bytes last text_to d rest turns (rw closes refl) (rw closes refl) inside.takes.walk

  text_run : RunOf bytes text_from text_to text
  text_run = run-of bytes text_from text opener.takes.walk.valid inside.steps closer.is.0

  abbrev literal_text : List ℕ
  literal_text = run_text bytes text_from text_to text text_run

  -- they are such a destination by the bytes,
  literal-is : IsTarget bytes p literal_to (Literal p text_from text_to literal_to literal_text)
  literal-is = (
    refl,
    refl,
    subst (λ (x : ℕ). IsByte bytes x p text_from) opens opener.is,
    is-run bytes text_from text_to text opener.takes.walk.valid text_run,
    subst (λ (x : ℕ). IsByte bytes x text_to literal_to) closes closer.is,
  )

  -- and its text is that of the cells
  literal-text : literal_text ≡ bytes_of (whole_cells text_from text)
  literal-text =
      sym (run-bytes bytes text_from text_to text text_run opener.takes.walk.valid.column
      (let first : OnLine bytes last p (c ∷ []) turns (text ++ (d ∷ rest)) =
      on-line bytes last p (c ∷ []) (text ++ (d ∷ rest)) turns (rw opens refl, tt) here in
      let whole = (dark-plain bytes p c here.valid first.steps.0 (rw opens refl)).cell_is in
      ap (λ (x : Cell). x.after.vs) whole) none)

  -- the cells after it begin where its second bracket ends
  literal-end : point_after (take (suc (length (bytes_of text))) (text ++ (d ∷ rest))) text_from ≡ literal_to
  literal-end =
      ap (λ (l : List Cell). point_after (take (suc (length (bytes_of text))) l) text_from)
      (sym (append_assoc text (d ∷ []) rest))
      ∙ ap (λ (l : List Cell). point_after l text_from)
      (take_at (text ++ (d ∷ [])) rest (suc (length (bytes_of text))) (closed-length text d))
      ∙ point_after-append text (d ∷ []) text_from

  literal-rest : drop (suc (length (bytes_of text))) (text ++ (d ∷ rest)) ≡ rest
  literal-rest =
      ap (drop (suc (length (bytes_of text)))) (sym (append_assoc text (d ∷ []) rest))
      ∙ drop_at (text ++ (d ∷ [])) rest (suc (length (bytes_of text))) (closed-length text d)

  -- the events of the brackets around those of the text
  abbrev front_events : List Event
  front_events =
      enter n.DefinitionDestination p ∷ enter n.DefinitionDestinationLiteral p
      ∷ pair n.DefinitionDestinationLiteralMarker p text_from

  abbrev back_events : List Event
  back_events =
      pair n.DefinitionDestinationLiteralMarker text_to literal_to
      ++ exit n.DefinitionDestinationLiteral literal_to ∷ exit n.DefinitionDestination literal_to ∷ []

  abbrev TakesAround : List Event → Type 0
  TakesAround events =
      Takes bytes last p turns literal_to rest turns ((front_events ++ events) ++ back_events)
      (around n.DefinitionDestination p literal_to
      (around n.DefinitionDestinationLiteral p literal_to
      (pair n.DefinitionDestinationLiteralMarker p text_from ++ events
      ++ pair n.DefinitionDestinationLiteralMarker text_to literal_to)))

  -- no text between the brackets adds nothing
  empty-taken : TakesAround []
  empty-taken =
      takes-quiet bytes last p turns literal_to rest turns (front_events ++ back_events)
      (refl, (refl, (refl, (refl, (refl, (refl, (refl, (refl, tt))))))))
      (takes-then bytes last p turns text_to (d ∷ rest) turns [] [] literal_to rest turns [] []
      (takes-then bytes last p turns text_from (text ++ (d ∷ rest)) turns [] [] text_to (d ∷ rest) turns [] []
      opener.takes inside.takes) closer.takes) refl
      (omega arith) (
        omega (arith, first, second, third),
        (
          omega (arith, first, second, third),
          (
            omega (arith, first, second, third),
            (omega (arith, second, third), (third, (omega arith, (omega arith, (omega arith, tt))))),
          ),
        ),
      )
    where
      first : p.index ≤ text_from.index
      first = opener.takes.index

      second : text_from.index ≤ text_to.index
      second = inside.takes.index

      third : text_to.index ≤ literal_to.index
      third = closer.takes.index

  -- a text between them is one chunk of a string
  string-taken : TakesAround (string_unread text_from text_to)
  string-taken =
      let shut : List Event = exit n.DefinitionDestinationString text_to ∷ back_events in
      let ended : List Event = exit n.Data text_to ∷ [] in
      let begun : List Event = front_events ++ text_begin text_from in
      let first = opener.takes.index in
      let third = closer.takes.index in
      let begin = takes-quiet bytes last p turns text_from (text ++ (d ∷ rest)) turns begun
      (refl, (refl, (refl, (refl, (refl, (refl, tt))))))
      opener.takes refl (omega arith)
      (first, (first, (first, (omega arith, (omega arith, (omega arith, tt)))))) in
      let end = takes-end bytes last text_from turns text_to (d ∷ rest) turns [] [] n.Data inside.takes closer.is.0 in
      let back = takes-quiet bytes last text_to turns literal_to rest turns shut
      (refl, (refl, (refl, (refl, (refl, tt)))))
      closer.takes refl (omega arith, λ same. closer.is.0)
      (third, (third, (omega arith, (omega arith, (omega arith, tt))))) in
      takes-then bytes last p turns text_from (text ++ (d ∷ rest)) turns begun begun literal_to rest turns
      (ended ++ shut) (ended ++ shut) begin
      (takes-then bytes last text_from turns text_to (d ∷ rest) turns ended ended literal_to rest turns shut shut end
      back)

  -- what the cells give is what the bytes say, if the text adds the same by both
  literal-done : (more : List ℕ) (events : List Event) → text_part (bytes_of text) text_from text_to ≡ events →
      unless_empty literal_text (string_unread text_from text_to) ≡ events → TakesAround events →
      TargetOf bytes last p (c ∷ (text ++ (d ∷ rest))) turns (record { text = bytes_of text; rest = more })
  literal-done more events k l taken = record {
    target = Literal p text_from text_to literal_to literal_text;
    takes =
        rw (lit, front, literal-end, literal-rest)
        (subst
        (λ (es : List Event).
        Takes bytes last p turns literal_to rest turns ((front_events ++ es) ++ back_events)
        (target_by string_unread (Literal p text_from text_to literal_to literal_text)))
        (sym k)
        (subst
        (λ (es : List Event).
        Takes bytes last p turns literal_to rest turns ((front_events ++ events) ++ back_events)
        (around n.DefinitionDestination p literal_to
        (around n.DefinitionDestinationLiteral p literal_to
        (pair n.DefinitionDestinationLiteralMarker p text_from ++ es
        ++ pair n.DefinitionDestinationLiteralMarker text_to literal_to))))
        (sym l) taken));
    is = rw (lit, literal-end) literal-is;
    text = rw (lit, front) literal-text;
  }
    where
      lit : begins_literal (c ∷ (text ++ (d ∷ rest))) ≡ true
      lit = ap (λ (x : ℕ). nat_eq x less_than) opens

      front : take (length (bytes_of text)) (text ++ (d ∷ rest)) ≡ text
      front = take_at text (d ∷ rest) (length (bytes_of text)) (sym (bytes-length text))

  -- so a text between brackets is the destination that the line definition finds
  literal-found : (more : List ℕ) (l : List Cell) → text ≡ l →
      TargetOf bytes last p (c ∷ (text ++ (d ∷ rest))) turns (record { text = bytes_of text; rest = more })
  literal-found more [] e =
      literal-done more [] (ap (λ (l : List Cell). text_part (bytes_of l) text_from text_to) e)
      (ap (λ (l : List ℕ). unless_empty l (string_unread text_from text_to))
      (literal-text ∙ ap (λ (l : List Cell). bytes_of (whole_cells text_from l)) e)) empty-taken
  literal-found more (x ∷ xs) e =
      literal-done more (string_unread text_from text_to)
      (ap (λ (l : List Cell). text_part (bytes_of l) text_from text_to) e)
      (unless-some literal_text (string_unread text_from text_to)
      (run-some x xs text_from text_run.spaces text_run.text (sym e ∙ text_run.cells_are))) string-taken
    where
      unless-some : (l : List ℕ) (es : List Event) → l ≢ [] → unless_empty l es ≡ es
      unless-some [] es some = absurd (some refl)
      unless-some (x ∷ xs) es some = refl

-- the same of cells that are split so
target-literal : (bytes : List ℕ) (last p : Point) (c : Cell) (text : List Cell) (d : Cell) (rest cells : List Cell)
    (turns : List Turn) (more : List ℕ) → c.byte ≡ less_than → d.byte ≡ greater_than → NoFeed text →
    c ∷ (text ++ (d ∷ rest)) ≡ cells → Walk bytes last p cells turns →
    TargetOf bytes last p cells turns (record { text = bytes_of text; rest = more })
target-literal bytes last p c text d rest cells turns more opens closes none split walk =
    subst (λ (l : List Cell). TargetOf bytes last p l turns (record { text = bytes_of text; rest = more })) split
    (literal-found bytes last p c text d rest turns opens closes none
    (subst (λ (l : List Cell). Walk bytes last p l turns) (sym split) walk) more text refl)

-- Any destination that is there.

-- what is found between angle brackets, by what follows the text
literal-of : (bytes : List ℕ) (last p : Point) (c : Cell) (cs text rest : List Cell) (turns : List Turn)
    (found : Destination) → c.byte ≡ less_than → NoFeed text → (text ++ rest) ++ from_ending cs ≡ cs →
    literal_found (enclosed_by greater_than text rest) ≡ Some found → Walk bytes last p (c ∷ cs) turns →
    TargetOf bytes last p (c ∷ cs) turns found
literal-of bytes last p c cs text [] turns found opens none split e walk = cc
literal-of bytes last p c cs text (d ∷ ds) turns found opens none split e walk = go (nat_eq d.byte greater_than) refl
  where
    go : (x : Bool) → nat_eq d.byte greater_than ≡ x → TargetOf bytes last p (c ∷ cs) turns found
    go true k =
        let u : Destination = record { text = bytes_of text; rest = bytes_of ds } in
        let some : Some u ≡ Some found = rw k at e in
        let same : u ≡ found = cc in
        subst (TargetOf bytes last p (c ∷ cs) turns) same
        (target-literal bytes last p c text d (ds ++ from_ending cs) (c ∷ cs) turns (bytes_of ds) opens
        (eqb-true d.byte greater_than k) none
        (ap (λ (l : List Cell). c ∷ l) (sym (append_assoc text (d ∷ ds) (from_ending cs)) ∙ split)) walk)
    go false k = let none : (let o : Option Destination = None in o) ≡ Some found = rw k at e in cc

raw-of : (bytes : List ℕ) (last p : Point) (cells : List Cell) (turns : List Turn) (found : Destination)
    (first : Cell) (following : List Cell) → cells ≡ first ∷ following → is_raw_byte first.byte ≡ true →
    begins_literal cells ≡ false → raw_found (line_bytes cells) ≡ Some found → Walk bytes last p cells turns →
    TargetOf bytes last p cells turns found
raw-of bytes last p cells turns found first following is raw none e walk =
    by known.text known.split known.found known.raw
  where
    known : RawFront cells
    known = raw-front cells

    text : List ℕ
    text = take_while is_raw_byte (line_bytes cells)

    more : List ℕ
    more = after is_raw_byte (line_bytes cells)

    some : take_while is_raw_byte (line_bytes cells) ≡ first.byte ∷ take_while is_raw_byte (line_bytes following)
    some = ap (λ (l : List Cell). take_while is_raw_byte (line_bytes l)) is ∙ raw-cons first following raw

    by : (front : List Cell) → front ++ known.rest ≡ cells → text ≡ bytes_of front → AllRaw front →
        TargetOf bytes last p cells turns found
    by [] split k all = let no : [] ≡ first.byte ∷ take_while is_raw_byte (line_bytes following) = sym k ∙ some in cc
    by (c ∷ cs) split k all = go (balanced 0 false text) e
      where
        go : (x : Bool) → cond x (Some (record { text = text; rest = more })) None ≡ Some found →
            TargetOf bytes last p cells turns found
        go true f =
            let u : Destination = record { text = bytes_of (c ∷ cs); rest = more } in
            let v : Destination = record { text = text; rest = more } in
            let here : v ≡ found = cc in
            let same : u ≡ found =
            ap (λ (t : List ℕ). let w : Destination = record { text = t; rest = more } in w) (sym k) ∙ here in
            subst (TargetOf bytes last p cells turns) same
            (target-raw bytes last p c cs known.rest cells turns more none split all walk)
        go false f = let no : (let o : Option Destination = None in o) ≡ Some found = f in cc

pub target-of : (bytes : List ℕ) (last p : Point) (cells : List Cell) (turns : List Turn) (found : Destination) →
    definition.destination_at (line_bytes cells) ≡ Some found → Walk bytes last p cells turns →
    TargetOf bytes last p cells turns found
target-of bytes last p [] turns found e walk =
    let none : (let o : Option Destination = None in o) ≡ Some found = sym found-none ∙ e in cc
target-of bytes last p (c ∷ cs) turns found e walk =
    go (nat_eq c.byte 10) (nat_eq c.byte less_than) (is_raw_byte c.byte) refl refl refl
  where
    nothing : (let o : Option Destination = None in o) ≡ Some found → TargetOf bytes last p (c ∷ cs) turns found
    nothing bad = cc

    go : (x y z : Bool) → nat_eq c.byte 10 ≡ x → nat_eq c.byte less_than ≡ y → is_raw_byte c.byte ≡ z →
        TargetOf bytes last p (c ∷ cs) turns found
    go true y z i j k =
        nothing (sym (ap definition.destination_at (line-ends c cs i) ∙ found-none) ∙ e)
    go false true z i j k =
        let is = is_mark less_than greater_than in
        let line = line_cells cs in
        let split : before_mark is false line ++ from_mark is false line ≡ line = mark-split is false line in
        literal-of bytes last p c cs (before_mark is false line) (from_mark is false line) turns found
        (eqb-true c.byte less_than j)
        (no_feed-split (before_mark is false line) (from_mark is false line)
        (subst NoFeed (sym split) (line-no_feed cs))).0
        (ap (λ (l : List Cell). l ++ from_ending cs) split ∙ line-split cs)
        (sym
        (ap definition.destination_at (line-more c cs i) ∙ found-literal c.byte (line_bytes cs) j
        ∙ ap literal_found (enclosed-marks less_than greater_than false line))
        ∙ e) walk
    go false false true i j k =
        raw-of bytes last p (c ∷ cs) turns found c cs refl k j
        (sym
        (ap definition.destination_at (line-more c cs i) ∙ found-raw c.byte (line_bytes cs) j k
        ∙ ap raw_found (sym (line-more c cs i)))
        ∙ e) walk
    go false false false i j k =
        nothing
        (sym (ap definition.destination_at (line-more c cs i) ∙ found-neither c.byte (line_bytes cs) j k) ∙ e)
