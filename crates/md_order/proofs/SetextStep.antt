-- An event of a paragraph or an underline, where one is outside of ATX headings.
use Rattle.std.proofs.Common.{◌≡◌, inl, inr, ℕ, Bool, true, false, cond, List, [], ◌∷◌, ◌++◌, refl, ap, sym, ◌∙◌, subst}
use Rattle.md_engine.specs.declared.event.Event.{Event}
use Rattle.md_engine.specs.declared.event.Kind.{Kind}
use Rattle.md_engine.specs.declared.event.Kind.TheVariants.{Enter, Exit}
use Rattle.md_engine.specs.declared.event.Name.{Name}
use Rattle.md_engine.specs.declared.event.Name.TheVariants as n
use Rattle.md_containers.specs.Listed.{is_item}
use Rattle.md_leaves.specs.HeadingText.{begins, is_heading}
use Rattle.md_leaves.specs.Turned.{BeginsText, EndsText, EndsUnderline, Stays, Turn, given_by, is_paragraph, is_turned}
use Rattle.md_leaves.specs.Turned.{is_underline, on_by, passes as is_unturned, turn, turn_by, turned_from}
use Rattle.md_events.specs.Events.Nested.{is_enter}
use Rattle.md_events.specs.Events.Spelled.{role}
use Rattle.md_tables.specs.Tabled.{begins_table, bound_by, bound_of, tabled}
use Rattle.md_order.specs.declared.wanted.Wanted.{Wanted}
use Rattle.md_order.specs.Alone.{InParagraph, Open, is_set, opened_by}
use Rattle.md_order.specs.InOrder.{set_if}
use Rattle.md_order.specs.Left.{MayBeLeft, MayStay, Situation, left_in}
use Rattle.md_order.proofs.Names.{tableless}
use Rattle.md_order.proofs.Passed.{after_heads, tables-pass}
use Rattle.md_order.proofs.SetextLook.{ahead, ahead-pass, turned-ahead}
use Rattle.md_order.proofs.Stay.{one-setext, stay-opens}

-- What such an event is not.
pub record IsText (name : Name) : Type 0 where
  pub item : is_item (role name) ≡ false
  pub heading : is_heading name ≡ false
  pub table : (kind : Kind) → begins_table (bound_by kind name) ≡ false

pub text-name : (name : Name) → cond (is_paragraph name) false (cond (is_underline name) false true) ≡ false →
    IsText name
text-name n.Paragraph h = record { item = refl; heading = refl; table = λ kind. tableless kind n.Paragraph refl }
text-name n.HeadingSetextUnderline h = record {
  item = refl;
  heading = refl;
  table = λ kind. tableless kind n.HeadingSetextUnderline refl;
}
text-name _ h = absurd (let no : true ≡ false = h in cc)

-- No table begins where a heading or its text does.

abbrev pub NoTables : List Event → Type 0
NoTables [] = Unit {0}
NoTables (e ∷ es) = (begins_table (bound_of e) ≡ false) × NoTables es

pub given-tableless : (t : Turn) (on begins : Bool) (e : Event) → begins_table (bound_of e) ≡ false →
    NoTables (given_by t on begins e)
given-tableless BeginsText on true e h = (refl, (refl, tt))
given-tableless BeginsText on false e h = (h, tt)
given-tableless EndsText true begins e h = (refl, tt)
given-tableless EndsText false begins e h = (h, tt)
given-tableless EndsUnderline true begins e h = (h, (refl, tt))
given-tableless EndsUnderline false begins e h = (h, tt)
given-tableless Stays on begins e h = (h, tt)

tables-past : (x : Bool) (xs ys : List Event) → NoTables xs → set_if x tabled (xs ++ ys) ≡ xs ++ set_if x tabled ys
tables-past x [] ys h = refl
tables-past x (e ∷ xs) ys h =
    tables-pass x e (xs ++ ys) (λ k. h.0) ∙ ap (λ (l : List Event). e ∷ l) (tables-past x xs ys h.1)

-- The look ahead.

-- at a paragraph
look-same : (w : Wanted) (bytes : List ℕ) (at : Situation) (es : List Event) → w.setext ≡ true →
    MayBeLeft w InParagraph es → is_turned (ahead w.atx w.items bytes at.items es) ≡ is_turned es
look-same w bytes at es on (inl one) =
    let others = one-setext w one on in
    ap (λ (x : Bool). is_turned (ahead x w.items bytes at.items es)) others.1
    ∙ ap (λ (x : Bool). is_turned (ahead false x bytes at.items es)) others.0
look-same w bytes at es on (inr hold) = turned-ahead w.atx w.items bytes at.items es hold

-- what is known from it
record SameBy (t : Turn) (now x y : Bool) (e : Event) : Type 0 where
  given : given_by t now x e ≡ given_by t now y e
  on : on_by t now x ≡ on_by t now y

same-by : (t : Turn) (on x y : Bool) (e : Event) → (t ≡ BeginsText → x ≡ y) → SameBy t on x y e
same-by BeginsText on x y e h = record {
  given = ap (λ (b : Bool). given_by BeginsText on b e) (h refl);
  on = h refl;
}
same-by EndsText on x y e h = record { given = refl; on = refl }
same-by EndsUnderline on x y e h = record { given = refl; on = refl }
same-by Stays on x y e h = record { given = refl; on = refl }

-- the begin of a paragraph is one of a block
pub paragraph-begun : (kind : Kind) (name : Name) → turn_by kind name ≡ BeginsText →
    (is_enter kind ≡ true) × (is_set name ≡ true) × (opened_by name ≡ InParagraph)
paragraph-begun Enter n.Paragraph h = (refl, refl, refl)
paragraph-begun Exit n.Paragraph h = absurd (let no : EndsText ≡ BeginsText = h in cc)
paragraph-begun Exit n.HeadingSetextUnderline h = absurd (let no : EndsUnderline ≡ BeginsText = h in cc)
paragraph-begun kind _ h = absurd (let no : Stays ≡ BeginsText = h in cc)

pub setext-step : (w : Wanted) (bytes : List ℕ) (at : Situation) (e : Event) (es : List Event) → w.setext ≡ true →
    is_unturned e ≡ false → MayStay w (e ∷ es) →
    left_in w bytes at (e ∷ es)
    ≡ given_by (turn e) at.on (is_turned es) e
    ++ left_in w bytes (record at { on = on_by (turn e) at.on (is_turned es) }) es
setext-step w bytes at e es on h stay =
    ap (after_heads w at.on) (ahead-pass w.atx w.items bytes at.items e es text.item text.heading)
    ∙ ap (λ (x : Bool). set_if w.tables tabled (set_if x (turned_from at.on) (e ∷ left))) on
    ∙ ap (λ (l : List Event). set_if w.tables tabled (l ++ turned_from (on_by (turn e) at.on (is_turned left)) left))
    same.given
    ∙ ap (λ (o : Bool). set_if w.tables tabled (own ++ turned_from o left)) same.on
    ∙ tables-past w.tables own (turned_from there left)
    (given-tableless (turn e) at.on (is_turned es) e (text.table e.kind))
    ∙ ap (λ (l : List Event). own ++ l)
    (ap (λ (x : Bool). set_if w.tables tabled (set_if x (turned_from there) left)) (sym on))
  where
    text : IsText e.name
    text = text-name e.name h

    left : List Event
    left = ahead w.atx w.items bytes at.items es

    own : List Event
    own = given_by (turn e) at.on (is_turned es) e

    there : Bool
    there = on_by (turn e) at.on (is_turned es)

    look : turn e ≡ BeginsText → is_turned left ≡ is_turned es
    look begins =
        let begun = paragraph-begun e.kind e.name begins in
        look-same w bytes at es on
        (subst (λ (o : Open). MayBeLeft w o es) begun.2 (stay-opens w e es stay begun.0 begun.1))

    same : SameBy (turn e) at.on (is_turned left) (is_turned es) e
    same = same-by (turn e) at.on (is_turned left) (is_turned es) e look
