-- A destination is before some cells where the definition of definitions finds one, and nowhere else.
use Rattle.std.proofs.Common.{◌≡◌, ℕ, Bool, true, false, cond, nat_eq, List, [], ◌∷◌, ◌++◌, Option, Some, None}
use Rattle.std.proofs.Common.{refl, sym, ◌∙◌, ap, ap₂, append_assoc, drop, length}
use Rattle.md_engine.specs.declared.event.Event.{Event}
use Rattle.std.specs.List.{take_while}
use Rattle.std.proofs.lemmas.Bool.{eqb-true}
use Rattle.std.proofs.lemmas.List.Sums.{take_while-cons}
use Rattle.md_meaning.specs.Ascii.{greater_than, less_than}
use Rattle.md_meaning.specs.Bytes.{after, is_end}
use Rattle.md_meaning.specs.Definition.{Destination, balanced, is_raw_byte}
use Rattle.md_meaning.specs.Definition as definition
use Rattle.md_meaning.specs.Enclosed.{Broken, Closed, Enclosed, Open, enclosed}
use Rattle.md_engine.specs.declared.tokenizer.Scratch.{Scratch}
use Rattle.md_engine.specs.Meaning.{Accepts, Cell, Here, Refuses}
use Rattle.md_link_definitions.specs.Destination.{without_size}
use Rattle.md_link_definitions.specs.DestinationRule.{before_literal, destination_at, destination_by, in_raw}
use Rattle.md_link_definitions.specs.DestinationRule.{literal_begin, after_cells, literal_by, raw_begin, raw_end}
use Rattle.md_link_definitions.specs.DestinationRule.{text_part}
use Rattle.md_link_definitions.proofs.DestinationLemmas.{begins-literal, begins-neither, begins-none, begins-raw}
use Rattle.md_link_definitions.proofs.DestinationLemmas.{line-ends, line-more}
use Rattle.md_events.specs.Ahead.{line_bytes}
use Rattle.md_events.specs.Spaces.{IsRest}
use Rattle.md_events.proofs.SpacesTermination.{rest-size}

-- what an enclosed text becomes as a destination
abbrev pub literal_found : Enclosed → Option Destination
literal_found x = elim x [
  | Closed text rest ↦ Some (record { text = text; rest = rest })
  | Open ↦ None
  | Broken ↦ None
]

-- between angle brackets
before-is : (cells : List Cell) (h : Here) →
    before_literal cells h ≡ literal_by text_part cells h (enclosed less_than greater_than false (line_bytes cells))
unfolding before_literal
before-is cells h = refl

-- by what is enclosed on the line
literal-whole : (c : Cell) (cs : List Cell) (h : Here) (x : Enclosed) → nat_eq c.byte less_than ≡ true →
    literal_by text_part cs (record h { events = h.events ++ literal_begin h.point c.after; point = c.after }) x ≡
    destination_by (c ∷ cs) h (literal_found x)
literal-whole c cs h (Closed text rest) e = rw e (simp append_assoc)
literal-whole c cs h Open e = refl
literal-whole c cs h Broken e = refl

-- What the definition finds before these bytes: there,
pub found-literal : (b : ℕ) (bytes : List ℕ) → nat_eq b less_than ≡ true →
    definition.destination_at (b ∷ bytes) ≡ literal_found (enclosed less_than greater_than false bytes)
unfolding definition.destination_at
found-literal b bytes e = rw e refl

-- without them, where its parentheses nest,
abbrev pub raw_found : List ℕ → Option Destination
raw_found bytes = cond (balanced 0 false (take_while is_raw_byte bytes))
    (Some (record { text = take_while is_raw_byte bytes; rest = after is_raw_byte bytes })) None

-- it finds such a text
pub found-raw : (b : ℕ) (bytes : List ℕ) → nat_eq b less_than ≡ false → is_raw_byte b ≡ true →
    definition.destination_at (b ∷ bytes) ≡ raw_found (b ∷ bytes)
unfolding definition.destination_at
found-raw b bytes e raw =
    let some : is_end (take_while is_raw_byte (b ∷ bytes)) ≡ false =
    ap is_end (take_while-cons is_raw_byte b bytes) ∙ rw raw refl in
    rw (e, some) refl

-- and nothing else.
pub found-neither : (b : ℕ) (bytes : List ℕ) → nat_eq b less_than ≡ false → is_raw_byte b ≡ false →
    definition.destination_at (b ∷ bytes) ≡ None
unfolding definition.destination_at
found-neither b bytes e raw =
    let none : is_end (take_while is_raw_byte (b ∷ bytes)) ≡ true =
    ap is_end (take_while-cons is_raw_byte b bytes) ∙ rw raw refl in
    rw (e, none) refl

-- where nothing is it finds nothing
pub found-none : definition.destination_at [] ≡ None
unfolding definition.destination_at
found-none = refl

-- without them
raw-whole : (c : Cell) (cs : List Cell) (h : Here) → nat_eq c.byte less_than ≡ false → IsRest h.scratch →
    in_raw false (c ∷ cs) (record h { events = h.events ++ raw_begin h.point }) ≡
    destination_by (c ∷ cs) h (raw_found (line_bytes (c ∷ cs)))
unfolding in_raw
raw-whole c cs h e is = go (balanced 0 false (take_while is_raw_byte (line_bytes (c ∷ cs)))) refl
  where
    nests : balanced h.scratch.size false (take_while is_raw_byte (line_bytes (c ∷ cs))) ≡
        balanced 0 false (take_while is_raw_byte (line_bytes (c ∷ cs)))
    nests =
        ap (λ (size : ℕ). balanced size false (take_while is_raw_byte (line_bytes (c ∷ cs)))) (rest-size h.scratch is)

    same : without_size h.scratch ≡ h.scratch
    same = ap without_size is ∙ sym is

    go : (x : Bool) → balanced 0 false (take_while is_raw_byte (line_bytes (c ∷ cs))) ≡ x →
        in_raw false (c ∷ cs) (record h { events = h.events ++ raw_begin h.point }) ≡
        destination_by (c ∷ cs) h (raw_found (line_bytes (c ∷ cs)))
    go true k =
        let text = take_while is_raw_byte (line_bytes (c ∷ cs)) in
        let p = after_cells (length text) (c ∷ cs) h.point in
        rw (nests ∙ k, k, e)
        (ap₂
        (λ (es : List Event) (t : Scratch).
        let r : Here = record h { events = es; point = p; scratch = t } in Accepts r (drop (length text) (c ∷ cs)))
        (append_assoc h.events (raw_begin h.point) (raw_end p)) same)
    go false k = rw (nests ∙ k, k) (ap (λ (t : Scratch). Refuses t h.flags) same)

-- The whole rule is what the definition finds before the bytes of the line.
pub destination-is : (cells : List Cell) (h : Here) → IsRest h.scratch →
    destination_at cells h ≡ destination_by cells h (definition.destination_at (line_bytes cells))
destination-is [] h is = begins-none h ∙ ap (destination_by [] h) (sym found-none)
destination-is (c ∷ cs) h is = go (nat_eq c.byte 10) (nat_eq c.byte less_than) (is_raw_byte c.byte) refl refl refl
  where
    go : (x y z : Bool) → nat_eq c.byte 10 ≡ x → nat_eq c.byte less_than ≡ y → is_raw_byte c.byte ≡ z →
        destination_at (c ∷ cs) h ≡ destination_by (c ∷ cs) h (definition.destination_at (line_bytes (c ∷ cs)))
    go true y z i j k =
        let ten : c.byte ≡ 10 = eqb-true c.byte 10 i in
        begins-neither c cs h (rw ten refl, rw ten refl)
        ∙ ap (destination_by (c ∷ cs) h) (sym (ap definition.destination_at (line-ends c cs i) ∙ found-none))
    go false true z i j k =
        begins-literal c cs h j
        ∙ before-is cs _
        ∙ literal-whole c cs h (enclosed less_than greater_than false (line_bytes cs)) j
        ∙ ap (destination_by (c ∷ cs) h)
        (sym (ap definition.destination_at (line-more c cs i) ∙ found-literal c.byte (line_bytes cs) j))
    go false false true i j k =
        begins-raw c cs h (j, k) ∙ raw-whole c cs h j is
        ∙ ap (destination_by (c ∷ cs) h)
        (sym (ap definition.destination_at (line-more c cs i) ∙ found-raw c.byte (line_bytes cs) j k
        ∙ ap raw_found (sym (line-more c cs i))))
    go false false false i j k =
        begins-neither c cs h (j, k)
        ∙ ap (destination_by (c ∷ cs) h)
        (sym (ap definition.destination_at (line-more c cs i) ∙ found-neither c.byte (line_bytes cs) j k))
