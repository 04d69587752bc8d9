-- Each state of HTML in the rest of a complete tag takes one step of its rule (CommonMark 6.6).
use Rattle.std.proofs.Common.{◌≡◌, ℕ, Bool, true, false, cond, ◌&&◌, ◌||◌, nat_eq, List, [], ◌∷◌, Some, refl, sym, ◌∙◌}
use Rattle.std.proofs.Common.{ap, ap₂}
use Rattle.std.specs.Prelude.{◌==◌, not}
use Rattle.std.proofs.lemmas.Bool.{and_parts, eqb-true}
use Rattle.md_engine.specs.declared.configuration.ParseOptions.{ParseOptions}
use Rattle.md_engine.specs.declared.state.Name.TheVariants as n
use Rattle.md_engine.specs.declared.state.State.TheVariants.{Next}
use Rattle.md_engine.specs.declared.state.html_flow.State.TheVariants as its
use Rattle.md_engine.specs.declared.tokenizer.Scratch.{Scratch}
use Rattle.md_engine.specs.Meaning.{Behaviour, Cell, Feed, Here, Steps, here}
use Rattle.md_engine.specs.World.{World}
use Rattle.md_engine.specs.Sees.{Sees}
use Rattle.md_meaning.specs.Bytes.{after, begins}
use Rattle.md_meaning.specs.Html.{Complete, after_assignment, after_next, after_value, begins_attribute, closes_tag}
use Rattle.md_meaning.specs.Html.{ends_opening, is_attribute_byte, is_value_byte}
use Rattle.md_meaning.specs.Rest.{is_blank, is_white, trim_start}
use Rattle.md_literal.specs.Html.{Stops, Takes, Turns, by_byte, cleared, closing_move, complete_after_move, end_move}
use Rattle.md_literal.specs.Html.{html_transition, marked, name_after_byte, name_before_byte, name_byte, quoted_byte}
use Rattle.md_literal.specs.Html.{unquoted_byte, value_before_byte}
use Rattle.md_literal.specs.HtmlRule.{HasHtml, following_white, html_behaves, refuses, tag_by, then_opening}
use Rattle.md_literal.proofs.HtmlKinds.{after-more, after-same}
use Rattle.md_literal.proofs.HtmlMoves.{MovesBy, begins-line, becomes, by-moves, line-done, line-more, not-ending}
use Rattle.md_literal.proofs.HtmlMoves.{tag-same, tag-taken, with-line}
use Rattle.md_literal.proofs.HtmlTags.{assignment-more, assignment-none, assignment-sign, closes-none}
use Rattle.md_literal.proofs.HtmlTags.{opening-attribute}
use Rattle.md_literal.proofs.HtmlTags.{opening-last, opening-more, opening-slash, optional-none, trim-none}
use Rattle.md_literal.proofs.HtmlTags.{value-bare, value-empty, value-none, value-quoted}
use Rattle.md_events.specs.Ahead.{line_bytes}
use Rattle.md_events.specs.Spaces.{ends_line, is_current, sees_white}
use Rattle.md_events.proofs.RestLines.{trim-white}

-- What is left of a tag, by whether it is one.

tag-takes : (x y : Bool) (c : Cell) (cs : List Cell) (h : Here) (s : Scratch) → nat_eq c.byte 10 ≡ false →
    cleared s ≡ cleared h.scratch → x ≡ y →
    tag_by Complete x (c ∷ cs) h ≡ tag_by Complete y cs (record h { point = c.after; scratch = s })
tag-takes x y c cs h s ne same e =
    ap (λ (z : Bool). tag_by Complete z (c ∷ cs) h) e ∙ tag-taken Complete y c cs h s ne same

tag-turns : (x y : Bool) (cells : List Cell) (h : Here) (s : Scratch) → cleared s ≡ cleared h.scratch → x ≡ y →
    tag_by Complete x cells h ≡ tag_by Complete y cells (record h { scratch = s })
tag-turns x y cells h s same e =
    ap (λ (z : Bool). tag_by Complete z cells h) e ∙ tag-same Complete y cells h s same

tag-stops : (x : Bool) (cells : List Cell) (h : Here) → x ≡ false → tag_by Complete x cells h ≡ refuses h
tag-stops x cells h e = ap (λ (z : Bool). tag_by Complete z cells h) e

-- A closing tag.

closing-moves : (text : List ℕ) (options : ParseOptions) (h : Here) →
    MovesBy text options its.CompleteClosingTagAfter h (λ o. closing_move h.scratch (sees_white o))
closing-moves text options h = record {
  none = λ rest q. refl;
  some = λ c cs. go c cs (is_white c.byte) refl;
}
  where
    go : (c : Cell) (cs : List Cell) (x : Bool) → is_white c.byte ≡ x →
        html_behaves text options its.CompleteClosingTagAfter (c ∷ cs) h ≡
        becomes text options (c ∷ cs) cs c.after h (closing_move h.scratch x)
    go c cs true e =
        let ne = not-ending is_white c.byte refl e in
        tag-takes _ _ c cs h h.scratch ne refl
        (ap closes_tag (ap trim_start (line-more c cs ne) ∙ trim-white c.byte (line_bytes cs) e))
    go c cs false e =
        tag-turns _ _ (c ∷ cs) h h.scratch refl
        (ap closes_tag (trim-none (line_bytes (c ∷ cs)) (begins-line is_white c cs refl ∙ e)))

-- An attribute.

before-moves : (text : List ℕ) (options : ParseOptions) (h : Here) →
    MovesBy text options its.CompleteAttributeNameBefore h
    (λ o. by_byte (name_before_byte h.scratch) (Turns its.CompleteEnd (cleared h.scratch)) o)
before-moves text options h = record {
  none = λ rest q. tag-turns _ _ [] h (cleared h.scratch) refl (opening-last h.scratch.seen [] refl refl);
  some = λ c cs.
      go c cs (is_white c.byte) (nat_eq c.byte 47) (begins_attribute c.byte && h.scratch.seen) refl refl refl;
}
  where
    s : Scratch
    s = h.scratch

    go : (c : Cell) (cs : List Cell) (x y z : Bool) → is_white c.byte ≡ x → nat_eq c.byte 47 ≡ y →
        begins_attribute c.byte && h.scratch.seen ≡ z →
        html_behaves text options its.CompleteAttributeNameBefore (c ∷ cs) h ≡
        becomes text options (c ∷ cs) cs c.after h
        (cond x (Takes its.CompleteAttributeNameBefore (record s { seen = true }))
        (cond y (Takes its.CompleteEnd (cleared s))
        (cond z (Takes its.CompleteAttributeName (cleared s)) (Turns its.CompleteEnd (cleared s)))))
    go c cs true y z e f g =
        let ne = not-ending is_white c.byte refl e in
        tag-takes _ _ c cs h (record s { seen = true }) ne refl
        (ap (λ (l : List ℕ). ends_opening (following_white s.seen l)) (line-more c cs ne)
        ∙ opening-more s.seen c.byte (line_bytes cs) e)
    go c cs false true z e f g =
        let ne = not-ending (λ (b : ℕ). b == 47) c.byte refl f in
        tag-takes _ _ c cs h (cleared s) ne refl
        (ap (λ (l : List ℕ). ends_opening (following_white s.seen l))
        (line-more c cs ne ∙ ap (λ (b : ℕ). b ∷ line_bytes cs) (eqb-true c.byte 47 f))
        ∙ opening-slash s.seen (line_bytes cs))
    go c cs false false true e f g =
        let both = and_parts (begins_attribute c.byte) s.seen g in
        let ne = not-ending begins_attribute c.byte refl both.0 in
        tag-takes _ _ c cs h (cleared s) ne refl
        (ap₂ (λ (k : Bool) (l : List ℕ). ends_opening (following_white k l)) both.1 (line-more c cs ne)
        ∙ opening-attribute c.byte (line_bytes cs) both.0)
    go c cs false false false e f g =
        tag-turns _ _ (c ∷ cs) h (cleared s) refl
        (opening-last s.seen (line_bytes (c ∷ cs)) (begins-line is_white c cs refl ∙ e)
        (ap (λ (t : Bool). t && s.seen) (begins-line begins_attribute c cs refl) ∙ g)
        ∙ ap closes_tag (optional-none 47 (line_bytes (c ∷ cs)) (with-line 47 c cs refl ∙ f)))

name-moves : (text : List ℕ) (options : ParseOptions) (h : Here) →
    MovesBy text options its.CompleteAttributeName h
    (λ o. by_byte (name_byte h.scratch) (Turns its.CompleteAttributeNameAfter (cleared h.scratch)) o)
name-moves text options h = record {
  none = λ rest q. tag-turns _ _ [] h (cleared h.scratch) refl refl;
  some = λ c cs. go c cs (is_attribute_byte c.byte) refl;
}
  where
    go : (c : Cell) (cs : List Cell) (x : Bool) → is_attribute_byte c.byte ≡ x →
        html_behaves text options its.CompleteAttributeName (c ∷ cs) h ≡
        becomes text options (c ∷ cs) cs c.after h
        (cond x (Takes its.CompleteAttributeName h.scratch)
        (Turns its.CompleteAttributeNameAfter (cleared h.scratch)))
    go c cs true e =
        let ne = not-ending is_attribute_byte c.byte refl e in
        tag-takes _ _ c cs h h.scratch ne refl
        (ap (λ (l : List ℕ). then_opening (after_assignment l))
        (ap (after is_attribute_byte) (line-more c cs ne) ∙ after-more is_attribute_byte c.byte (line_bytes cs) e))
    go c cs false e =
        tag-turns _ _ (c ∷ cs) h (cleared h.scratch) refl
        (ap (λ (l : List ℕ). then_opening (after_assignment l))
        (after-same is_attribute_byte (line_bytes (c ∷ cs)) (begins-line is_attribute_byte c cs refl ∙ e)))

name_after-moves : (text : List ℕ) (options : ParseOptions) (h : Here) →
    MovesBy text options its.CompleteAttributeNameAfter h
    (λ o. by_byte (name_after_byte h.scratch) (Turns its.CompleteAttributeNameBefore h.scratch) o)
name_after-moves text options h = record {
  none = λ rest q. tag-turns _ _ [] h h.scratch refl (assignment-none h.scratch.seen [] refl refl);
  some = λ c cs. go c cs (is_white c.byte) (nat_eq c.byte 61) refl refl;
}
  where
    s : Scratch
    s = h.scratch

    go : (c : Cell) (cs : List Cell) (x y : Bool) → is_white c.byte ≡ x → nat_eq c.byte 61 ≡ y →
        html_behaves text options its.CompleteAttributeNameAfter (c ∷ cs) h ≡
        becomes text options (c ∷ cs) cs c.after h
        (cond x (Takes its.CompleteAttributeNameAfter (record s { seen = true }))
        (cond y (Takes its.CompleteAttributeValueBefore (cleared s)) (Turns its.CompleteAttributeNameBefore s)))
    go c cs true y e f =
        let ne = not-ending is_white c.byte refl e in
        tag-takes _ _ c cs h (record s { seen = true }) ne refl
        (ap (λ (l : List ℕ). then_opening (after_assignment (following_white s.seen l))) (line-more c cs ne)
        ∙ assignment-more s.seen c.byte (line_bytes cs) e)
    go c cs false true e f =
        let sign : c.byte ≡ 61 = eqb-true c.byte 61 f in
        let ne = not-ending (λ (b : ℕ). b == 61) c.byte refl f in
        tag-takes _ _ c cs h (cleared s) ne refl
        (ap (λ (l : List ℕ). then_opening (after_assignment (following_white s.seen l)))
        (line-more c cs ne ∙ ap (λ (b : ℕ). b ∷ line_bytes cs) sign)
        ∙ ap then_opening (assignment-sign s.seen (line_bytes cs)))
    go c cs false false e f =
        tag-turns _ _ (c ∷ cs) h s refl
        (assignment-none s.seen (line_bytes (c ∷ cs)) (begins-line is_white c cs refl ∙ e)
        (with-line 61 c cs refl ∙ f))

-- Its value.

-- where no whitespace is before it
dark : (c : Cell) (cs : List Cell) → nat_eq c.byte 10 ≡ false → is_white c.byte ≡ false →
    trim_start (line_bytes (c ∷ cs)) ≡ c.byte ∷ line_bytes cs
dark c cs ne e = ap trim_start (line-more c cs ne) ∙ trim-none (c.byte ∷ line_bytes cs) e

value-moves : (text : List ℕ) (options : ParseOptions) (h : Here) →
    MovesBy text options its.CompleteAttributeValueBefore h (λ o. by_byte (value_before_byte h.scratch) Stops o)
value-moves text options h = record {
  none = λ rest q. tag-stops _ [] h (ap then_opening value-empty);
  some = λ c cs.
      go c cs (nat_eq c.byte 10) (is_white c.byte) (nat_eq c.byte 34 || nat_eq c.byte 39) (is_value_byte c.byte) refl
      refl refl refl;
}
  where
    s : Scratch
    s = h.scratch

    go : (c : Cell) (cs : List Cell) (x y z v : Bool) → nat_eq c.byte 10 ≡ x → is_white c.byte ≡ y →
        nat_eq c.byte 34 || nat_eq c.byte 39 ≡ z → is_value_byte c.byte ≡ v →
        html_behaves text options its.CompleteAttributeValueBefore (c ∷ cs) h ≡
        becomes text options (c ∷ cs) cs c.after h
        (cond x Stops
        (cond y (Takes its.CompleteAttributeValueBefore s)
        (cond z (Takes its.CompleteAttributeValueQuoted (marked c.byte s))
        (cond v (Turns its.CompleteAttributeValueUnquoted s) Stops))))
    go c cs true y z v ne e f g =
        tag-stops _ (c ∷ cs) h
        (ap then_opening (ap (λ (l : List ℕ). after_value (trim_start l)) (line-done c cs ne) ∙ value-empty))
    go c cs false true z v ne e f g =
        tag-takes _ _ c cs h s ne refl
        (ap (λ (l : List ℕ). then_opening (after_value l))
        (ap trim_start (line-more c cs ne) ∙ trim-white c.byte (line_bytes cs) e))
    go c cs false false true v ne e f g =
        tag-takes _ _ c cs h (marked c.byte s) ne refl
        (ap then_opening (ap after_value (dark c cs ne e) ∙ value-quoted c.byte (line_bytes cs) f))
    go c cs false false false true ne e f g =
        tag-turns _ _ (c ∷ cs) h s refl
        (ap then_opening (ap after_value (dark c cs ne e) ∙ value-bare c.byte (line_bytes cs) f g)
        ∙ ap (λ (l : List ℕ). ends_opening (after is_value_byte l)) (sym (line-more c cs ne)))
    go c cs false false false false ne e f g =
        tag-stops _ (c ∷ cs) h
        (ap then_opening (ap after_value (dark c cs ne e) ∙ value-none c.byte (line_bytes cs) f g))

quoted-moves : (text : List ℕ) (options : ParseOptions) (h : Here) →
    MovesBy text options its.CompleteAttributeValueQuoted h (λ o. by_byte (quoted_byte h.scratch) Stops o)
quoted-moves text options h = record {
  none = λ rest q. refl;
  some = λ c cs. go c cs (nat_eq c.byte 10) (nat_eq c.byte h.scratch.marker) refl refl;
}
  where
    s : Scratch
    s = h.scratch

    go : (c : Cell) (cs : List Cell) (x y : Bool) → nat_eq c.byte 10 ≡ x → nat_eq c.byte h.scratch.marker ≡ y →
        html_behaves text options its.CompleteAttributeValueQuoted (c ∷ cs) h ≡
        becomes text options (c ∷ cs) cs c.after h
        (cond x Stops
        (cond y (Takes its.CompleteAttributeValueQuotedAfter (cleared s)) (Takes its.CompleteAttributeValueQuoted s)))
    go c cs true y ne e =
        tag-stops _ (c ∷ cs) h (ap (λ (l : List ℕ). then_opening (after_next s.marker l)) (line-done c cs ne))
    go c cs false true ne e =
        tag-takes _ _ c cs h (cleared s) ne refl
        (ap (λ (l : List ℕ). then_opening (after_next s.marker l)) (line-more c cs ne)
        ∙ ap (λ (t : Bool). then_opening (cond t (Some (line_bytes cs)) (after_next s.marker (line_bytes cs)))) e)
    go c cs false false ne e =
        tag-takes _ _ c cs h s ne refl
        (ap (λ (l : List ℕ). then_opening (after_next s.marker l)) (line-more c cs ne)
        ∙ ap (λ (t : Bool). then_opening (cond t (Some (line_bytes cs)) (after_next s.marker (line_bytes cs)))) e)

unquoted-moves : (text : List ℕ) (options : ParseOptions) (h : Here) →
    MovesBy text options its.CompleteAttributeValueUnquoted h
    (λ o. by_byte (unquoted_byte h.scratch) (Turns its.CompleteAttributeNameBefore (cleared h.scratch)) o)
unquoted-moves text options h = record {
  none = λ rest q. tag-turns _ _ [] h (cleared h.scratch) refl refl;
  some = λ c cs. go c cs (nat_eq c.byte 10) (is_value_byte c.byte) refl refl;
}
  where
    s : Scratch
    s = h.scratch

    go : (c : Cell) (cs : List Cell) (x y : Bool) → nat_eq c.byte 10 ≡ x → is_value_byte c.byte ≡ y →
        html_behaves text options its.CompleteAttributeValueUnquoted (c ∷ cs) h ≡
        becomes text options (c ∷ cs) cs c.after h
        (cond (not x && y) (Takes its.CompleteAttributeValueUnquoted s)
        (Turns its.CompleteAttributeNameBefore (cleared s)))
    go c cs true y ne e =
        tag-turns _ _ (c ∷ cs) h (cleared s) refl
        (ap (λ (l : List ℕ). ends_opening (after is_value_byte l)) (line-done c cs ne)
        ∙ ap ends_opening (sym (line-done c cs ne)))
    go c cs false true ne e =
        tag-takes _ _ c cs h s ne refl
        (ap ends_opening
        (ap (after is_value_byte) (line-more c cs ne) ∙ after-more is_value_byte c.byte (line_bytes cs) e))
    go c cs false false ne e =
        tag-turns _ _ (c ∷ cs) h (cleared s) refl
        (ap ends_opening
        (after-same is_value_byte (line_bytes (c ∷ cs)) (ap (begins is_value_byte) (line-more c cs ne) ∙ e)))

-- The end of the tag.

end-moves : (text : List ℕ) (options : ParseOptions) (h : Here) →
    MovesBy text options its.CompleteEnd h (λ o. end_move h.scratch (is_current 62 o))
end-moves text options h = record { none = λ rest q. refl; some = λ c cs. go c cs (nat_eq c.byte 62) refl }
  where
    go : (c : Cell) (cs : List Cell) (x : Bool) → nat_eq c.byte 62 ≡ x →
        html_behaves text options its.CompleteEnd (c ∷ cs) h ≡
        becomes text options (c ∷ cs) cs c.after h (end_move h.scratch x)
    go c cs true e =
        let ne = not-ending (λ (b : ℕ). b == 62) c.byte refl e in
        tag-takes _ _ c cs h h.scratch ne refl
        (ap closes_tag (line-more c cs ne)
        ∙ ap (λ (t : Bool). t && is_blank (cond t (line_bytes cs) (c.byte ∷ line_bytes cs))) e)
    go c cs false e = tag-stops _ (c ∷ cs) h (closes-none (line_bytes (c ∷ cs)) (with-line 62 c cs refl ∙ e))

following-moves : (text : List ℕ) (options : ParseOptions) (h : Here) →
    MovesBy text options its.CompleteAfter h (λ o. complete_after_move h.scratch (ends_line o) (sees_white o))
following-moves text options h = record {
  none = λ rest q. refl;
  some = λ c cs. go c cs (nat_eq c.byte 10) (is_white c.byte) refl refl;
}
  where
    go : (c : Cell) (cs : List Cell) (x y : Bool) → nat_eq c.byte 10 ≡ x → is_white c.byte ≡ y →
        html_behaves text options its.CompleteAfter (c ∷ cs) h ≡
        becomes text options (c ∷ cs) cs c.after h (complete_after_move h.scratch x y)
    go c cs true y ne e = ap (λ (l : List ℕ). tag_by Complete (is_blank l) (c ∷ cs) h) (line-done c cs ne)
    go c cs false true ne e =
        tag-takes _ _ c cs h h.scratch ne refl
        (ap is_blank (line-more c cs ne) ∙ ap (λ (t : Bool). t && is_blank (line_bytes cs)) e)
    go c cs false false ne e =
        tag-stops _ (c ∷ cs) h (ap is_blank (line-more c cs ne) ∙ ap (λ (t : Bool). t && is_blank (line_bytes cs)) e)

-- The states.

pub closing_means : (B : Behaviour) (feed : Feed) (w : World) → HasHtml B w.setting.bytes w.setting.options →
    Sees feed w →
    Steps B feed (Next (n.HtmlFlow its.CompleteClosingTagAfter)) w (html_transition its.CompleteClosingTagAfter w).to
    (html_transition its.CompleteClosingTagAfter w).world
closing_means B feed w has s =
    by-moves B feed _ w (λ o. closing_move w.scratch (sees_white o)) has s (closing-moves _ _ (here w))

pub name_before_means : (B : Behaviour) (feed : Feed) (w : World) → HasHtml B w.setting.bytes w.setting.options →
    Sees feed w →
    Steps B feed (Next (n.HtmlFlow its.CompleteAttributeNameBefore)) w
    (html_transition its.CompleteAttributeNameBefore w).to (html_transition its.CompleteAttributeNameBefore w).world
name_before_means B feed w has s =
    by-moves B feed _ w
    (λ o. by_byte (name_before_byte w.scratch) (Turns its.CompleteEnd (cleared w.scratch)) o) has s
    (before-moves _ _ (here w))

pub name_means : (B : Behaviour) (feed : Feed) (w : World) → HasHtml B w.setting.bytes w.setting.options →
    Sees feed w →
    Steps B feed (Next (n.HtmlFlow its.CompleteAttributeName)) w (html_transition its.CompleteAttributeName w).to
    (html_transition its.CompleteAttributeName w).world
name_means B feed w has s =
    by-moves B feed _ w
    (λ o. by_byte (name_byte w.scratch) (Turns its.CompleteAttributeNameAfter (cleared w.scratch)) o) has s
    (name-moves _ _ (here w))

pub name_after_means : (B : Behaviour) (feed : Feed) (w : World) → HasHtml B w.setting.bytes w.setting.options →
    Sees feed w →
    Steps B feed (Next (n.HtmlFlow its.CompleteAttributeNameAfter)) w
    (html_transition its.CompleteAttributeNameAfter w).to (html_transition its.CompleteAttributeNameAfter w).world
name_after_means B feed w has s =
    by-moves B feed _ w
    (λ o. by_byte (name_after_byte w.scratch) (Turns its.CompleteAttributeNameBefore w.scratch) o) has s
    (name_after-moves _ _ (here w))

pub value_before_means : (B : Behaviour) (feed : Feed) (w : World) → HasHtml B w.setting.bytes w.setting.options →
    Sees feed w →
    Steps B feed (Next (n.HtmlFlow its.CompleteAttributeValueBefore)) w
    (html_transition its.CompleteAttributeValueBefore w).to (html_transition its.CompleteAttributeValueBefore w).world
value_before_means B feed w has s =
    by-moves B feed _ w (λ o. by_byte (value_before_byte w.scratch) Stops o) has s (value-moves _ _ (here w))

pub quoted_means : (B : Behaviour) (feed : Feed) (w : World) → HasHtml B w.setting.bytes w.setting.options →
    Sees feed w →
    Steps B feed (Next (n.HtmlFlow its.CompleteAttributeValueQuoted)) w
    (html_transition its.CompleteAttributeValueQuoted w).to (html_transition its.CompleteAttributeValueQuoted w).world
quoted_means B feed w has s =
    by-moves B feed _ w (λ o. by_byte (quoted_byte w.scratch) Stops o) has s (quoted-moves _ _ (here w))

pub unquoted_means : (B : Behaviour) (feed : Feed) (w : World) → HasHtml B w.setting.bytes w.setting.options →
    Sees feed w →
    Steps B feed (Next (n.HtmlFlow its.CompleteAttributeValueUnquoted)) w
    (html_transition its.CompleteAttributeValueUnquoted w).to
    (html_transition its.CompleteAttributeValueUnquoted w).world
unquoted_means B feed w has s =
    by-moves B feed _ w
    (λ o. by_byte (unquoted_byte w.scratch) (Turns its.CompleteAttributeNameBefore (cleared w.scratch)) o) has s
    (unquoted-moves _ _ (here w))

-- after a value in quotes
pub quoted_after_means : (B : Behaviour) (feed : Feed) (w : World) → HasHtml B w.setting.bytes w.setting.options →
    Sees feed w →
    Steps B feed (Next (n.HtmlFlow its.CompleteAttributeValueQuotedAfter)) w
    (html_transition its.CompleteAttributeValueQuotedAfter w).to
    (html_transition its.CompleteAttributeValueQuotedAfter w).world
quoted_after_means B feed w has s =
    by-moves B feed _ w (λ o. Turns its.CompleteAttributeNameBefore (cleared w.scratch)) has s
    (record {
      none = λ rest q. tag-turns _ _ [] (here w) (cleared w.scratch) refl refl;
      some = λ c cs. tag-turns _ _ (c ∷ cs) (here w) (cleared w.scratch) refl refl;
    })

pub end_means : (B : Behaviour) (feed : Feed) (w : World) → HasHtml B w.setting.bytes w.setting.options →
    Sees feed w →
    Steps B feed (Next (n.HtmlFlow its.CompleteEnd)) w (html_transition its.CompleteEnd w).to
    (html_transition its.CompleteEnd w).world
end_means B feed w has s =
    by-moves B feed _ w (λ o. end_move w.scratch (is_current 62 o)) has s (end-moves _ _ (here w))

pub after_means : (B : Behaviour) (feed : Feed) (w : World) → HasHtml B w.setting.bytes w.setting.options →
    Sees feed w →
    Steps B feed (Next (n.HtmlFlow its.CompleteAfter)) w (html_transition its.CompleteAfter w).to
    (html_transition its.CompleteAfter w).world
after_means B feed w has s =
    by-moves B feed _ w (λ o. complete_after_move w.scratch (ends_line o) (sees_white o)) has s
    (following-moves _ _ (here w))
