-- What flow adds for the rest of a line after its containers: the events of its leaf, by the kind of the line.
use Rattle.md_engine.specs.declared.tokenizer.held_leaf.HeldLeaf.{HeldLeaf}
use Rattle.std.proofs.Common.{◌≡◌, ◌≤◌, Bool, true, false, cond, ◌&&◌, ◌||◌, nat_eq, List, [], ◌∷◌, ◌++◌, length}
use Rattle.std.proofs.Common.{Option, Some, None, refl, sym, ◌∙◌, ap, ap₂}
use Rattle.proof_rows.specs.Rows.{inside_or, leaf_following, ends_blank, kind_of, inside_of, row_kind}
use Rattle.md_registry.specs.Registry.{asked_first, leaf, trials}
use Rattle.md_registry.specs.FlowRule.{blank_at_end, inside_by, inside_of as asked_inside, following_leaf, blank_ended}
use Rattle.md_registry.specs.FlowRule.{leaf_of, leaves_of, line_ended, nonblank_of}
use Rattle.proof_frame.proofs.LeafLaws.{left_open}
use Rattle.std.specs.Prelude.{◌==◌}
use Rattle.md_engine.specs.declared.configuration.ParseOptions.{ParseOptions}
use Rattle.md_engine.specs.declared.event.Event.{Event}
use Rattle.md_engine.specs.declared.event.Name.TheVariants as n
use Rattle.md_engine.specs.declared.event.Point.{Point}
use Rattle.md_engine.specs.Meaning.{Cell, Here, Outcome, Refuses}
use Rattle.md_content.specs.Chunks.{content_link}
use Rattle.md_link_definitions.specs.OpenText.{text_following}
use Rattle.md_link_definitions.specs.WholeCells.{whole_rest}
use Rattle.md_events.specs.Ahead.{from_ending, line_bytes, line_end}
use Rattle.md_events.specs.Events.Nested.{enter_link, exit}
use Rattle.md_meaning.specs.Rest.{is_blank}
use Rattle.md_events.specs.Look.{first_seen}
use Rattle.md_events.specs.Spaces.{IsRest, any_size, ends_line}
use Rattle.proof_frame.specs.Rule.{Rule, tried}
use Rattle.md_registry.specs.LineFlags.{nothing_is_here}
use Rattle.proof_frame.specs.LeafName.{first_of, LeafName}
use Rattle.proof_frame.specs.Row.{BlankRow, LeafRow, RowKind, TextRow}
use Rattle.proof_frame.proofs.LeafRows.{blank-refused, blank-took, chunk-took}
use Rattle.md_registry.proofs.Registry.{AreAsked, insider-asked, insider-open, laws, trials-asked}

-- what a line of this kind adds
abbrev pub added_by : ParseOptions → HeldLeaf → List Cell → Point → RowKind → List Event
added_by options on cells p TextRow = enter_link n.Content p content_link ∷ exit n.Content (line_end cells p) ∷ []
added_by options on cells p kind = inside_of options on cells p kind

-- whether a line of this kind is blank to its ending
abbrev pub blank_by : RowKind → List Cell → Point → Bool
blank_by BlankRow cells p = true
blank_by (LeafRow l) cells p = ends_blank (LeafRow l) cells p
blank_by TextRow cells p = false

-- what the tokenizer is after such a line
abbrev pub leaf_here : ParseOptions → List Cell → Here → RowKind → Here
leaf_here options cells h k = record h {
  events = h.events ++ added_by options h.flags.leaf cells h.point k;
  point = line_end cells h.point;
  flags =
      record h.flags {
        leaf = leaf_following options h.flags.leaf cells h.point k;
        blank = blank_by k cells h.point;
      };
}

-- the first of these leaves that takes these cells
abbrev taker : ParseOptions → HeldLeaf → List Cell → List LeafName → Option LeafName
taker options on cells ls = first_of (λ l. (leaf l).takes options on cells) ls

-- the kind of a line that continues no leaf which is asked first
abbrev outer_kind : ParseOptions → HeldLeaf → List Cell → RowKind
outer_kind options on cells = cond (is_blank (line_bytes cells)) BlankRow (kind_of (taker options on cells trials))

kind-by : (options : ParseOptions) (on : HeldLeaf) (cells : List Cell) (x : Bool) → is_blank (line_bytes cells) ≡ x →
    outer_kind options on cells ≡ cond x BlankRow (kind_of (taker options on cells trials))
kind-by options on cells x e = ap (λ (y : Bool). cond y BlankRow (kind_of (taker options on cells trials))) e

-- after a leaf has taken a line, what is held is what it keeps: flow closes one that always ends there
leaf-left : (options : ParseOptions) (next : Rule) (l : LeafName) (cells : List Cell) (h : Here) (ends : Bool) →
    h.flags.blank ≡ nothing_is_here (first_seen cells) h.point → (leaf l).ends ≡ ends →
    following_leaf ends next (from_ending cells)
    (record h {
      events = h.events ++ (leaf l).adds options h.flags.leaf cells h.point;
      point = line_end cells h.point;
      flags = record h.flags {
        leaf = left_open ends ((leaf l).keeps options h.flags.leaf cells h.point) h.flags.leaf;
        blank = ((leaf l).stays_blank && is_blank (line_bytes cells)) || h.flags.blank;
      };
    }) ≡
    line_ended next (from_ending cells) (leaf_here options cells h (LeafRow l))
leaf-left options next l cells h true flag e =
    ap₂
    (λ (kept : HeldLeaf) (nothing : Bool).
    line_ended next (from_ending cells)
    (record h {
      events = h.events ++ (leaf l).adds options h.flags.leaf cells h.point;
      point = line_end cells h.point;
      flags =
          record h.flags { leaf = kept; blank = ((leaf l).stays_blank && is_blank (line_bytes cells)) || nothing };
    })) (sym (((laws l).shut e options h.flags.leaf).0 cells h.point)) flag
leaf-left options next l cells h false flag e =
    ap
    (λ (nothing : Bool).
    line_ended next (from_ending cells)
    (record h {
      events = h.events ++ (leaf l).adds options h.flags.leaf cells h.point;
      point = line_end cells h.point;
      flags =
          record h.flags {
            leaf = (leaf l).keeps options h.flags.leaf cells h.point;
            blank = ((leaf l).stays_blank && is_blank (line_bytes cells)) || nothing;
          };
    })) flag

-- a line that has not ended here is not empty
filled-here : (cells : List Cell) (p : Point) → ends_line (first_seen cells) ≡ false →
    nothing_is_here (first_seen cells) p ≡ false
filled-here cells p going = ap (λ (x : Bool). x && (p.column == 1)) going

-- of leaves that are tried one after another, the first that takes the line has it; if none does, the line is text
leaves-are : (options : ParseOptions) (next : Rule) (ls : List LeafName) (cells : List Cell) (h : Here) →
    AreAsked ls → length cells ≤ any_size → IsRest h.scratch → h.flags.blank ≡ false →
    ends_line (first_seen cells) ≡ false →
    leaves_of options next ls cells h ≡
    line_ended next (from_ending cells) (leaf_here options cells h (kind_of (taker options h.flags.leaf cells ls)))
leaves-are options next [] cells h asked few is flag going =
    ap (λ (o : Outcome). tried o (line_ended next) Refuses) (chunk-took cells h)
    ∙ ap
    (λ (blank : Bool).
    line_ended next (from_ending cells)
    (record h {
      events = h.events ++ added_by options h.flags.leaf cells h.point TextRow;
      point = line_end cells h.point;
      flags = record h.flags { leaf = text_following h.flags.leaf (whole_rest h.point cells); blank = blank };
    })) flag
leaves-are options next (l ∷ ls) cells h asked few is flag going =
    go ((leaf l).takes options h.flags.leaf cells) refl
    (leaves-are options next ls cells h asked.1 few is flag going)
  where
    onward : Outcome → Outcome
    onward o =
        tried o (following_leaf (leaf l).ends next)
        (λ s g. leaves_of options next ls cells (record h { scratch = s; flags = g }))

    Done : Option LeafName → Type 0
    Done o =
        leaves_of options next (l ∷ ls) cells h ≡
        line_ended next (from_ending cells) (leaf_here options cells h (kind_of o))

    go : (x : Bool) → (leaf l).takes options h.flags.leaf cells ≡ x →
        leaves_of options next ls cells h ≡
        line_ended next (from_ending cells)
        (leaf_here options cells h (kind_of (taker options h.flags.leaf cells ls))) →
        Done (cond x (Some l) (taker options h.flags.leaf cells ls))
    go true takes more =
        ap onward ((laws l).took options cells h is few takes)
        ∙ leaf-left options next l cells h (leaf l).ends (flag ∙ sym (filled-here cells h.point going)) refl
    go false takes more =
        ap onward ((laws l).refused options cells h (asked.0 h.flags.leaf) is takes) ∙ more

-- a line that is not blank has not ended here
going-on : (cells : List Cell) → is_blank (line_bytes cells) ≡ false → ends_line (first_seen cells) ≡ false
going-on [] e = cc
going-on (c ∷ cs) e = go (nat_eq c.byte 10) refl e
  where
    go : (x : Bool) → nat_eq c.byte 10 ≡ x → is_blank (line_bytes (c ∷ cs)) ≡ false → x ≡ false
    go true at e = cc
    go false at e = refl

-- where no leaf is asked first, the rest of a line is what its kind says,
leaf-is : (options : ParseOptions) (next : Rule) (cells : List Cell) (h : Here) → length cells ≤ any_size →
    IsRest h.scratch →
    (is_blank (line_bytes cells) ≡ false → h.flags.blank ≡ false) →
    leaf_of options next cells h ≡
    line_ended next (from_ending cells) (leaf_here options cells h (outer_kind options h.flags.leaf cells))
leaf-is options next cells h few is flag = go (is_blank (line_bytes cells)) refl
  where
    onward : Outcome → Outcome
    onward o = tried o (blank_ended next) (λ s g. nonblank_of options next cells (record h { scratch = s; flags = g }))

    following : RowKind → Outcome
    following k = line_ended next (from_ending cells) (leaf_here options cells h k)

    go : (x : Bool) → is_blank (line_bytes cells) ≡ x →
        leaf_of options next cells h ≡ following (outer_kind options h.flags.leaf cells)
    go true e = ap onward (blank-took cells h e) ∙ ap following (sym (kind-by options h.flags.leaf cells true e))
    go false e =
        ap onward (blank-refused cells h e)
        ∙ leaves-are options next trials cells h trials-asked few is (flag e) (going-on cells e)
        ∙ ap following (sym (kind-by options h.flags.leaf cells false e))

-- and so it is where one is
pub inside-is : (options : ParseOptions) (next : Rule) (cells : List Cell) (h : Here) → length cells ≤ any_size →
    IsRest h.scratch → h.flags.blank ≡ false →
    asked_inside options next cells h ≡
    line_ended next (from_ending cells) (leaf_here options cells h (row_kind options h.flags.leaf cells))
inside-is options next cells h few is flag = by (asked_first h.flags.leaf) refl
  where
    other : RowKind
    other = outer_kind options h.flags.leaf cells

    to : RowKind → Outcome
    to k = line_ended next (from_ending cells) (leaf_here options cells h k)

    takes : LeafName → Bool
    takes l = (leaf l).takes options h.flags.leaf cells

    onward : Outcome → Outcome
    onward o = tried o (line_ended next) (λ s g. leaf_of options next cells (record h { scratch = s; flags = g }))

    by : (o : Option LeafName) → asked_first h.flags.leaf ≡ o →
        inside_by options next o cells h ≡ to (inside_or takes o other)
    by None e = leaf-is options next cells h few is (λ some. flag)
    by (Some l) e = go (takes l) refl
      where
        held : Bool → HeldLeaf
        held ends = left_open ends ((leaf l).keeps options h.flags.leaf cells h.point) h.flags.leaf

        here : Here
        here = blank_at_end cells h

        go : (t : Bool) → takes l ≡ t → onward ((leaf l).trial options cells here) ≡ to (cond t (LeafRow l) other)
        go true e' =
            ap onward ((laws l).took options cells here is few e')
            ∙ ap
            (λ (ends : Bool).
            line_ended next (from_ending cells)
            (record h {
              events = h.events ++ (leaf l).adds options h.flags.leaf cells h.point;
              point = line_end cells h.point;
              flags = record h.flags { leaf = held ends; blank = ends_blank (LeafRow l) cells h.point };
            })) (insider-open h.flags.leaf l e)
        go false e' =
            ap onward ((laws l).refused options cells here (insider-asked h.flags.leaf l e) is e')
            ∙ leaf-is options next cells here few is (λ some. filled-here cells h.point (going-on cells some))
