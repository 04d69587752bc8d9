-- Destinations, by the rows that they are in.
use Rattle.std.proofs.Common.{◌≡◌, ℕ, Bool, true, false, cond, List, [], ◌∷◌, ◌++◌, refl, sym, ap, ap₂, ◌∙◌}
use Rattle.std.proofs.Common.{subst, arith}
use Rattle.std.specs.Prelude.{◌==◌}
use Rattle.md_engine.specs.declared.event.Content.TheVariants.{String}
use Rattle.md_engine.specs.declared.event.Event.{Event}
use Rattle.md_engine.specs.declared.event.Name.TheVariants as n
use Rattle.md_engine.specs.declared.event.Point.{Point}
use Rattle.md_engine.specs.Meaning.{Cell}
use Rattle.md_meaning.specs.Ascii.{less_than}
use Rattle.md_events.specs.Ahead.{point_after}
use Rattle.md_events.specs.Events.Nested.{around, enter, exit}
use Rattle.md_events.specs.Exact.Leaves.{span}
use Rattle.md_events.specs.Exact.Rows.{Row}
use Rattle.md_events.specs.Exact.Texts.{destination_part, enclosed_part, next_byte, text_span}
use Rattle.proof_content_laws.proofs.Defined.Along.{Turn}
use Rattle.proof_content_laws.proofs.Defined.Takes.{Takes, Walk, takes-around}
use Rattle.proof_exact_lines.proofs.Ahead.{Ahead}
use Rattle.proof_exact_lines.proofs.Along.{Along, rows-start}
use Rattle.proof_exact_lines.proofs.Marks.{EnclosedOn, enclosed-on, marked_events, string-on, strung}
use Rattle.proof_exact_lines.proofs.Strands.{TextOn, text-of}

-- Without angle brackets.

abbrev pub raw_events : Point → List Cell → List Event
raw_events p cells =
    around n.DefinitionDestination p (point_after cells p)
    (around n.DefinitionDestinationRaw p (point_after cells p) (strung n.DefinitionDestinationString cells p))

pub record RawOn (text : List ℕ) (last p : Point) (cells rest : List Cell) (turns : List Turn) (rows : List Row) :
    Type 0 where
  pub ends : List Row
  pub left : List Turn
  pub takes : Takes text last p turns (point_after cells p) rest left (raw_events p cells) (destination_part rows ends)
  pub along : Along text ends (point_after cells p) rest left
  pub ahead : Ahead rows ends

pub raw-on : (text : List ℕ) (last p : Point) (cells rest : List Cell) (turns : List Turn) (rows : List Row) →
    (next_byte rows == less_than) ≡ false → Walk text last p (cells ++ rest) turns →
    Along text rows p (cells ++ rest) turns → (point_after cells p).vs ≡ 0 →
    RawOn text last p cells rest turns rows
raw-on text last p cells rest turns rows other walk along whole = record {
  ends = t.ends;
  left = t.left;
  takes = subst (Takes text last p turns q rest t.left (raw_events p cells)) (sym events) taken;
  along = t.along;
  ahead = t.ahead;
}
  where
    q : Point
    q = point_after cells p

    t : TextOn text last p cells turns rest rows
    t = text-of text last p cells rest turns rows walk along whole

    inner : List Event
    inner = text_span String n.DefinitionDestinationString rows t.ends

    string : Takes text last p turns q rest t.left (strung n.DefinitionDestinationString cells p) inner
    string = string-on text last p cells turns rest rows n.DefinitionDestinationString refl whole along t

    taken : Takes text last p turns q rest t.left (raw_events p cells)
        (around n.DefinitionDestination p q (around n.DefinitionDestinationRaw p q inner))
    taken =
        takes-around text last p turns q rest t.left
        (around n.DefinitionDestinationRaw p q (strung n.DefinitionDestinationString cells p))
        (around n.DefinitionDestinationRaw p q inner) (enter n.DefinitionDestination p ∷ [])
        (exit n.DefinitionDestination q ∷ []) (refl, tt) (refl, tt)
        (takes-around text last p turns q rest t.left (strung n.DefinitionDestinationString cells p) inner
        (enter n.DefinitionDestinationRaw p ∷ []) (exit n.DefinitionDestinationRaw q ∷ []) (refl, tt) (refl, tt) string
        (omega arith) (omega arith, tt) (omega arith, λ same. whole) (omega arith, tt)) (omega arith) (omega arith, tt)
        (omega arith, λ same. whole) (omega arith, tt)

    events : destination_part rows t.ends ≡
        around n.DefinitionDestination p q (around n.DefinitionDestinationRaw p q inner)
    events =
        ap
        (λ (x : Bool).
        span n.DefinitionDestination rows t.ends
        (cond x
        (enclosed_part n.DefinitionDestinationLiteral n.DefinitionDestinationLiteralMarker
        n.DefinitionDestinationString rows t.ends) (span n.DefinitionDestinationRaw rows t.ends inner))) other
        ∙ ap₂ (λ (a b : Point). around n.DefinitionDestination a b (around n.DefinitionDestinationRaw a b inner))
        (rows-start text rows p (cells ++ rest) turns along) (rows-start text t.ends q rest t.left t.along)

-- Between angle brackets.

abbrev pub literal_events : Point → Cell → List Cell → Cell → List Event
literal_events p o cells k =
    around n.DefinitionDestination p k.after
    (marked_events n.DefinitionDestinationLiteral n.DefinitionDestinationLiteralMarker n.DefinitionDestinationString p
    o.after cells k.after)

pub record LiteralOn (text : List ℕ) (last p : Point) (o : Cell) (cells : List Cell) (k : Cell) (rest : List Cell)
    (turns : List Turn) (rows : List Row) : Type 0 where
  pub ends : List Row
  pub left : List Turn
  pub takes : Takes text last p turns k.after rest left (literal_events p o cells k) (destination_part rows ends)
  pub along : Along text ends k.after rest left
  pub ahead : Ahead rows ends

pub literal-on : (text : List ℕ) (last p : Point) (o : Cell) (cells : List Cell) (k : Cell) (rest : List Cell)
    (turns : List Turn) (row : Row) (rows : List Row) →
    (next_byte (row ∷ rows) == less_than) ≡ true → o.byte ≡ 60 → k.byte ≡ 62 →
    Walk text last p (o ∷ (cells ++ (k ∷ rest))) turns → Along text (row ∷ rows) p (o ∷ (cells ++ (k ∷ rest))) turns →
    k.after.vs ≡ 0 → LiteralOn text last p o cells k rest turns (row ∷ rows)
literal-on text last p o cells k rest turns row rows less opens closes walk along whole = record {
  ends = on.ends;
  left = on.left;
  takes = subst (Takes text last p turns q rest on.left (literal_events p o cells k)) (sym events) taken;
  along = on.along;
  ahead = on.ahead;
}
  where
    q : Point
    q = k.after

    on : EnclosedOn text last p n.DefinitionDestinationLiteral n.DefinitionDestinationLiteralMarker
        n.DefinitionDestinationString o cells k rest turns (row ∷ rows)
    on =
        enclosed-on text last p n.DefinitionDestinationLiteral n.DefinitionDestinationLiteralMarker
        n.DefinitionDestinationString o cells k rest turns row rows refl refl refl (rw opens refl) (rw opens refl)
        (rw closes refl) (rw closes refl) walk along

    inner : List Event
    inner =
        enclosed_part n.DefinitionDestinationLiteral n.DefinitionDestinationLiteralMarker
        n.DefinitionDestinationString (row ∷ rows) on.ends

    taken : Takes text last p turns q rest on.left (literal_events p o cells k)
        (around n.DefinitionDestination p q inner)
    taken =
        takes-around text last p turns q rest on.left
        (marked_events n.DefinitionDestinationLiteral n.DefinitionDestinationLiteralMarker
        n.DefinitionDestinationString p o.after cells q) inner (enter n.DefinitionDestination p ∷ [])
        (exit n.DefinitionDestination q ∷ []) (refl, tt) (refl, tt) on.takes (omega arith) (omega arith, tt)
        (omega arith, λ same. whole) (omega arith, tt)

    raw : List Event
    raw =
        span n.DefinitionDestinationRaw (row ∷ rows) on.ends
        (text_span String n.DefinitionDestinationString (row ∷ rows) on.ends)

    events : destination_part (row ∷ rows) on.ends ≡ around n.DefinitionDestination p q inner
    events =
        ap (λ (x : Bool). span n.DefinitionDestination (row ∷ rows) on.ends (cond x inner raw)) less
        ∙ ap₂ (λ (a b : Point). around n.DefinitionDestination a b inner)
        (rows-start text (row ∷ rows) p (o ∷ (cells ++ (k ∷ rest))) turns along)
        (rows-start text on.ends q rest on.left on.along)
