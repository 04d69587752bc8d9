-- Each state of HTML before the name of a tag takes one step of its rule (CommonMark 4.6).
use Rattle.std.proofs.Common.{◌≡◌, ℕ, zero, suc, ◌+◌, ◌-◌, ◌≤◌, Bool, true, false, cond, ◌&&◌, ◌||◌, nat_eq, nat_lt}
use Rattle.std.proofs.Common.{List, [], ◌∷◌, ◌++◌, None, refl, sym, ◌∙◌, ap, ap₂, arith, append-nil, append_assoc}
use Rattle.std.specs.Prelude.{◌==◌, codes}
use Rattle.std.specs.Char.{is_ascii_alphabetic}
use Rattle.std.proofs.lemmas.Bool.{eqb-true}
use Rattle.std.proofs.lemmas.Bool.Decides.{nat_tests}
use Rattle.md_engine.specs.declared.configuration.ParseOptions.{ParseOptions}
use Rattle.md_engine.specs.declared.event.Event.{Event}
use Rattle.md_engine.specs.declared.event.Name.TheVariants.{HtmlFlow, HtmlFlowData}
use Rattle.md_engine.specs.declared.event.Point.{Point}
use Rattle.md_engine.specs.declared.state.Name.TheVariants as n
use Rattle.md_engine.specs.declared.state.State.TheVariants.{Next}
use Rattle.md_engine.specs.declared.state.html_flow.State.TheVariants as its
use Rattle.md_engine.specs.declared.tokenizer.Scratch.{Scratch}
use Rattle.md_engine.specs.declared.tokenizer.held_leaf.HeldLeaf.TheVariants as held_leaf
use Rattle.md_engine.specs.Meaning.{Behaviour, Cell, Feed, Here, Refuses, Steps, here}
use Rattle.md_engine.specs.World.{World}
use Rattle.md_engine.specs.Sees.{Sees}
use Rattle.md_engine.proofs.StepOf.{moves, passes}
use Rattle.md_meaning.specs.Bytes.{begins}
use Rattle.md_meaning.specs.Html.{Basic, Cdata, Comment, Declaration, HtmlKind, Instruction, Raw, html_ends, html_kind}
use Rattle.md_meaning.specs.Rest.{is_white}
use Rattle.md_literal.specs.Html.{Stops, Takes, Turns, before_move, by_byte, cdata_byte, cdata_move, cleared}
use Rattle.md_literal.specs.Html.{close_start_move, comment_move, declaration_byte, html_transition, indent_move}
use Rattle.md_literal.specs.Html.{marked}
use Rattle.md_literal.specs.Html.{open_byte, self_closing_move, sees_letter, start_code, takes_as}
use Rattle.md_literal.specs.HtmlRule.{HasHtml, closes, ends_by, html_at, html_behaves, in_indent, line_begun, opens}
use Rattle.md_literal.specs.HtmlRule.{opens_after, refuses, tag_begin, tag_by}
use Rattle.md_literal.proofs.HtmlKinds.{Decided, cdata-known, cdata-more, cdata-none, cdata_front, close-none}
use Rattle.md_literal.proofs.HtmlKinds.{comment-known, comment-none, declaration-known, declaration-none}
use Rattle.md_literal.proofs.HtmlKinds.{instruction-known, may_declare, may_open, open-none, start-none}
use Rattle.md_literal.proofs.HtmlMoves.{MovesBy, begins-line, following-taken, closes-taken, becomes, by-moves}
use Rattle.md_literal.proofs.HtmlMoves.{interrupts}
use Rattle.md_literal.proofs.HtmlMoves.{not-ending, opens-none, opens-same, opens-some, opens-taken, with-line}
use Rattle.md_literal.proofs.HtmlBytes.{name-none}
use Rattle.md_events.specs.Ahead.{line_bytes, white_rest}
use Rattle.md_events.specs.Events.Nested.{enter}
use Rattle.md_events.specs.Lent.{lent}
use Rattle.md_events.specs.Spaces.{is_current, sees_white, small_indent}
use Rattle.md_events.proofs.AheadLemmas.{none-rest, white-no_ending}

-- After some of the line.

-- what is here begins no kind
following-stops : (front : List ℕ) (t : ℕ → Bool) (cells : List Cell) (h : Here) →
    ((rest : List ℕ) → begins t rest ≡ false → html_kind (front ++ rest) ≡ None) →
    begins t (line_bytes cells) ≡ false → opens_after front cells h ≡ refuses h
following-stops front t cells h none e =
    opens-none (front ++ line_bytes cells) cells h (none (line_bytes cells) e)

-- it decides the kind, and this is left of the rule
following-decides : (kind : HtmlKind) (front known before : List ℕ) (c : Cell) (cs : List Cell) (h : Here)
    (s : Scratch) →
    nat_eq c.byte 10 ≡ false → cleared s ≡ cleared h.scratch → interrupts kind ≡ true → front ++ c.byte ∷ [] ≡ known →
    Decided kind known before (line_bytes cs) →
    opens_after front (c ∷ cs) h ≡
    closes (cond (html_ends kind (before ++ line_bytes cs)) held_leaf.None (held_leaf.Html kind)) cs
    (record h { point = c.after; scratch = s; flags = record h.flags { leaf = held_leaf.Html kind } })
following-decides kind front known before c cs h s ne same is last d =
    following-taken front c cs h s ne same
    ∙ ap (λ (l : List ℕ). opens_after l cs (record h { point = c.after; scratch = s })) last
    ∙ opens-some kind (known ++ line_bytes cs) cs (record h { point = c.after; scratch = s }) is d.kind
    ∙ ap
    (λ (x : Bool).
    closes (cond x held_leaf.None (held_leaf.Html kind)) cs (record h { point = c.after; scratch = s })) d.ends

-- the end of a kind by its first byte
ends-instruction : (line : List ℕ) → html_ends Instruction line ≡ ends_by 63 line
unfolding ends_by html_ends
ends-instruction line = refl

ends-comment : (line : List ℕ) → html_ends Comment line ≡ ends_by 45 line
unfolding ends_by html_ends
ends-comment line = refl

ends-declaration : (line : List ℕ) → html_ends Declaration line ≡ ends_by 62 line
unfolding ends_by html_ends
ends-declaration line = refl

ends-cdata : (line : List ℕ) → html_ends Cdata line ≡ ends_by 93 line
unfolding ends_by html_ends
ends-cdata line = refl

pub ends-raw : (line : List ℕ) → html_ends Raw line ≡ ends_by 60 line
unfolding ends_by html_ends
ends-raw line = refl

-- what is open after the line, where this says whether it holds the end
left-by : (kind : HtmlKind) (cs : List Cell) (h : Here) (q : Point) (s : Scratch) {x y : Bool} → x ≡ y →
    closes (cond x held_leaf.None (held_leaf.Html kind)) cs
    (record h { point = q; scratch = s; flags = record h.flags { leaf = held_leaf.Html kind } }) ≡
    closes (cond y held_leaf.None (held_leaf.Html kind)) cs
    (record h { point = q; scratch = s; flags = record h.flags { leaf = held_leaf.Html kind } })
left-by kind cs h q s e =
    ap
    (λ (z : Bool).
    closes (cond z held_leaf.None (held_leaf.Html kind)) cs
    (record h { point = q; scratch = s; flags = record h.flags { leaf = held_leaf.Html kind } }))
    e

-- The whole line.

start-off : (options : ParseOptions) (cells : List Cell) (h : Here) → options.constructs.html_flow ≡ false →
    html_at options cells h ≡ Refuses h.scratch h.flags
unfolding html_at
start-off options cells h e = rw e refl

start-on : (options : ParseOptions) (cells : List Cell) (h : Here) → options.constructs.html_flow ≡ true →
    html_at options cells h ≡ in_indent options cells (line_begun h)
unfolding html_at
start-on options cells h e = rw e refl

two-more : (es : List Event) (a b : Event) → (es ++ a ∷ []) ++ b ∷ [] ≡ es ++ a ∷ b ∷ []
two-more es a b = append_assoc es (a ∷ []) (b ∷ [])

start_by : (B : Behaviour) (feed : Feed) (w : World) (x : Bool) → HasHtml B w.setting.bytes w.setting.options →
    w.setting.options.constructs.html_flow ≡ x →
    Steps B feed (Next (n.HtmlFlow its.Start)) w (start_code w x).to (start_code w x).world
start_by B feed w true has e =
    moves B feed _ _ w (start_code w true).world (enter HtmlFlow w.point ∷ enter HtmlFlowData w.point ∷ []) refl
    (two-more w.events (enter HtmlFlow w.point) (enter HtmlFlowData w.point))
    (has.each its.Start _ _ ∙ start-on w.setting.options (feed w.point) (here w) e
    ∙ ap
    (λ (es : List Event). in_indent w.setting.options (feed w.point) (record (here w) { events = es }))
    (sym (two-more w.events (enter HtmlFlow w.point) (enter HtmlFlowData w.point)))
    ∙ sym (has.each its.Indent _ _))
start_by B feed w false has e =
    passes B feed _ _ w w refl refl (has.each its.Start _ _ ∙ start-off w.setting.options (feed w.point) (here w) e)

pub start_means : (B : Behaviour) (feed : Feed) (w : World) → HasHtml B w.setting.bytes w.setting.options →
    Steps B feed (Next (n.HtmlFlow its.Start)) w (html_transition its.Start w).to (html_transition its.Start w).world
start_means B feed w has = start_by B feed w _ has refl

-- Its indent.

-- one column more
rest-more : (c : Cell) (cs : List Cell) (size room : ℕ) → is_white c.byte ≡ true → nat_lt size room ≡ true →
    white_rest (room - size) (c ∷ cs) ≡ white_rest (room - (size + 1)) cs
rest-more c cs size room e lt =
    let some : room - size ≡ suc (room - (size + 1)) = grind (arith, nat_tests) in
    ap (λ (m : ℕ). white_rest m (c ∷ cs)) some
    ∙ ap (λ (x : Bool). cond x (white_rest (room - (size + 1)) cs) (c ∷ cs)) e

-- no more
rest-same : (c : Cell) (cs : List Cell) (size room : ℕ) (x y : Bool) → is_white c.byte ≡ x → nat_lt size room ≡ y →
    x && y ≡ false → white_rest (room - size) (c ∷ cs) ≡ c ∷ cs
rest-same c cs size room true true e f stop = cc
rest-same c cs size room true false e f stop =
    let none : room - size ≡ 0 = grind (arith, nat_tests) in ap (λ (m : ℕ). white_rest m (c ∷ cs)) none
rest-same c cs size room false y e f stop = none-rest (room - size) (c ∷ cs) e

indent-moves : (text : List ℕ) (options : ParseOptions) (h : Here) →
    MovesBy text options its.Indent h
    (λ o. indent_move h.scratch (sees_white o && nat_lt h.scratch.size (small_indent options)))
indent-moves text options h = record {
  none = λ rest q. none (small_indent options - s.size);
  some = λ c cs. go c cs (is_white c.byte) (nat_lt s.size (small_indent options)) refl refl;
}
  where
    s : Scratch
    s = h.scratch

    none : (m : ℕ) → opens (line_bytes (white_rest m [])) [] h ≡ opens [] [] (record h { scratch = cleared s })
    none m = opens-same [] [] h (cleared s) refl

    stays : (c : Cell) (cs : List Cell) (x y : Bool) → is_white c.byte ≡ x → nat_lt s.size (small_indent options) ≡ y →
        x && y ≡ false →
        html_behaves text options its.Indent (c ∷ cs) h ≡
        becomes text options (c ∷ cs) cs c.after h (Turns its.Before (cleared s))
    stays c cs x y e f stop =
        ap (λ (l : List Cell). opens (line_bytes l) (c ∷ cs) h)
        (rest-same c cs s.size (small_indent options) x y e f stop)
        ∙ opens-same (line_bytes (c ∷ cs)) (c ∷ cs) h (cleared s) refl

    go : (c : Cell) (cs : List Cell) (x y : Bool) → is_white c.byte ≡ x → nat_lt s.size (small_indent options) ≡ y →
        html_behaves text options its.Indent (c ∷ cs) h ≡
        becomes text options (c ∷ cs) cs c.after h (indent_move s (x && y))
    go c cs true true e f =
        ap (λ (l : List Cell). opens (line_bytes l) (c ∷ cs) h) (rest-more c cs s.size (small_indent options) e f)
        ∙ opens-taken (line_bytes (white_rest (small_indent options - (s.size + 1)) cs)) c cs h
        (record s { size = s.size + 1 }) (white-no_ending c.byte e) refl
    go c cs true false e f = stays c cs true false e f refl
    go c cs false y e f = stays c cs false y e f refl

before-moves : (text : List ℕ) (options : ParseOptions) (h : Here) →
    MovesBy text options its.Before h (λ o. before_move h.scratch (is_current 60 o))
before-moves text options h = record {
  none = λ rest q. opens-none [] [] h (start-none [] refl);
  some = λ c cs. go c cs (nat_eq c.byte 60) refl;
}
  where
    go : (c : Cell) (cs : List Cell) (x : Bool) → nat_eq c.byte 60 ≡ x →
        html_behaves text options its.Before (c ∷ cs) h ≡
        becomes text options (c ∷ cs) cs c.after h (before_move h.scratch x)
    go c cs true e =
        following-taken [] c cs h h.scratch (not-ending (λ (b : ℕ). b == 60) c.byte refl e) refl
        ∙ ap (λ (b : ℕ). opens_after (b ∷ []) cs (record h { point = c.after })) (eqb-true c.byte 60 e)
    go c cs false e =
        following-stops [] (λ (b : ℕ). b == 60) (c ∷ cs) h start-none (begins-line (λ (b : ℕ). b == 60) c cs refl ∙ e)

-- After `<`.

-- a name begins here
name-begins : (text : List ℕ) (closing : Bool) (cells : List Cell) (h : Here) (s : Scratch) →
    cleared s ≡ cleared h.scratch →
    opens_after (tag_begin closing) cells h ≡
    opens_after (tag_begin closing ++ lent text h.point.index h.point.index) cells (record h { scratch = s })
name-begins text closing cells h s same =
    opens-same (tag_begin closing ++ line_bytes cells) cells h s same
    ∙ ap (λ (l : List ℕ). opens_after l cells (record h { scratch = s }))
    (sym (append-nil (tag_begin closing))
    ∙ ap (λ (l : List ℕ). tag_begin closing ++ l) (sym (name-none text h.point.index)))

open-moves : (text : List ℕ) (options : ParseOptions) (h : Here) →
    MovesBy text options its.Open h (λ o. by_byte (open_byte h.scratch h.point.index) Stops o)
open-moves text options h = record {
  none = λ rest q. opens-none (60 ∷ []) [] h (open-none [] refl);
  some = λ c cs.
      go c cs (nat_eq c.byte 33) (nat_eq c.byte 47) (nat_eq c.byte 63) (is_ascii_alphabetic c.byte) refl refl refl refl;
}
  where
    s : Scratch
    s = h.scratch

    go : (c : Cell) (cs : List Cell) (x y z v : Bool) → nat_eq c.byte 33 ≡ x → nat_eq c.byte 47 ≡ y →
        nat_eq c.byte 63 ≡ z → is_ascii_alphabetic c.byte ≡ v →
        html_behaves text options its.Open (c ∷ cs) h ≡
        becomes text options (c ∷ cs) cs c.after h
        (cond x (Takes its.DeclarationOpen s)
        (cond y (Takes its.TagCloseStart s)
        (cond z (takes_as Instruction its.ContinuationDeclarationInside s)
        (cond v (Turns its.TagName (record (cleared s) { start = h.point.index })) Stops))))
    go c cs true y z v e f g l =
        following-taken (60 ∷ []) c cs h s (not-ending (λ (b : ℕ). b == 33) c.byte refl e) refl
        ∙ ap (λ (b : ℕ). opens_after (60 ∷ b ∷ []) cs (record h { point = c.after })) (eqb-true c.byte 33 e)
    go c cs false true z v e f g l =
        following-taken (60 ∷ []) c cs h s (not-ending (λ (b : ℕ). b == 47) c.byte refl f) refl
        ∙ ap (λ (b : ℕ). opens_after (60 ∷ b ∷ []) cs (record h { point = c.after })) (eqb-true c.byte 47 f)
    go c cs false false true v e f g l =
        following-decides Instruction (60 ∷ []) (codes "<?") (codes "?") c cs h (marked 63 s)
        (not-ending (λ (b : ℕ). b == 63) c.byte refl g) refl refl
        (ap (λ (b : ℕ). 60 ∷ b ∷ []) (eqb-true c.byte 63 g)) (instruction-known (line_bytes cs))
        ∙ left-by Instruction cs h c.after (marked 63 s) (ends-instruction (63 ∷ line_bytes cs))
    go c cs false false false true e f g l =
        name-begins text false (c ∷ cs) h (record (cleared s) { start = h.point.index }) refl
    go c cs false false false false e f g l =
        following-stops (60 ∷ []) may_open (c ∷ cs) h open-none
        (begins-line may_open c cs refl
        ∙ ap₂ (λ (x y : Bool). x || y) e (ap₂ (λ (x y : Bool). x || y) f (ap₂ (λ (x y : Bool). x || y) g l)))

-- After `<!`.

declaration-moves : (text : List ℕ) (options : ParseOptions) (h : Here) →
    MovesBy text options its.DeclarationOpen h (λ o. by_byte (declaration_byte h.scratch) Stops o)
declaration-moves text options h = record {
  none = λ rest q. opens-none (codes "<!") [] h (declaration-none [] refl);
  some = λ c cs. go c cs (nat_eq c.byte 45) (nat_eq c.byte 91) (is_ascii_alphabetic c.byte) refl refl refl;
}
  where
    s : Scratch
    s = h.scratch

    go : (c : Cell) (cs : List Cell) (x y z : Bool) → nat_eq c.byte 45 ≡ x → nat_eq c.byte 91 ≡ y →
        is_ascii_alphabetic c.byte ≡ z →
        html_behaves text options its.DeclarationOpen (c ∷ cs) h ≡
        becomes text options (c ∷ cs) cs c.after h
        (cond x (Takes its.CommentOpenInside s)
        (cond y (Takes its.CdataOpenInside (cleared s)) (cond z (takes_as Declaration its.Continuation s) Stops)))
    go c cs true y z e f l =
        following-taken (codes "<!") c cs h s (not-ending (λ (b : ℕ). b == 45) c.byte refl e) refl
        ∙ ap (λ (b : ℕ). opens_after (60 ∷ 33 ∷ b ∷ []) cs (record h { point = c.after })) (eqb-true c.byte 45 e)
    go c cs false true z e f l =
        following-taken (codes "<!") c cs h (cleared s) (not-ending (λ (b : ℕ). b == 91) c.byte refl f) refl
        ∙ ap (λ (b : ℕ). opens_after (60 ∷ 33 ∷ b ∷ []) cs (record h { point = c.after; scratch = cleared s }))
        (eqb-true c.byte 91 f)
    go c cs false false true e f l =
        following-decides Declaration (codes "<!") (60 ∷ 33 ∷ c.byte ∷ []) [] c cs h (marked 62 s)
        (not-ending is_ascii_alphabetic c.byte refl l) refl refl refl (declaration-known c.byte (line_bytes cs) l)
        ∙ left-by Declaration cs h c.after (marked 62 s) (ends-declaration (line_bytes cs))
    go c cs false false false e f l =
        following-stops (codes "<!") may_declare (c ∷ cs) h declaration-none
        (begins-line may_declare c cs refl ∙ ap₂ (λ (x y : Bool). x || y) e (ap₂ (λ (x y : Bool). x || y) f l))

comment-moves : (text : List ℕ) (options : ParseOptions) (h : Here) →
    MovesBy text options its.CommentOpenInside h (λ o. comment_move h.scratch (is_current 45 o))
comment-moves text options h = record {
  none = λ rest q. opens-none (codes "<!-") [] h (comment-none [] refl);
  some = λ c cs. go c cs (nat_eq c.byte 45) refl;
}
  where
    go : (c : Cell) (cs : List Cell) (x : Bool) → nat_eq c.byte 45 ≡ x →
        html_behaves text options its.CommentOpenInside (c ∷ cs) h ≡
        becomes text options (c ∷ cs) cs c.after h (comment_move h.scratch x)
    go c cs true e =
        following-decides Comment (codes "<!-") (codes "<!--") (codes "--") c cs h (marked 45 h.scratch)
        (not-ending (λ (b : ℕ). b == 45) c.byte refl e) refl refl
        (ap (λ (b : ℕ). 60 ∷ 33 ∷ 45 ∷ b ∷ []) (eqb-true c.byte 45 e)) (comment-known (line_bytes cs))
        ∙ left-by Comment cs h c.after (marked 45 h.scratch) (ends-comment (45 ∷ 45 ∷ line_bytes cs))
    go c cs false e =
        following-stops (codes "<!-") (λ (b : ℕ). b == 45) (c ∷ cs) h comment-none
        (begins-line (λ (b : ℕ). b == 45) c cs refl ∙ e)

-- After `<![`, and no more of `CDATA[` than all but its last byte.

cdata-apart : (size : ℕ) → size ≤ 5 → nat_eq 10 (cdata_byte size) ≡ false
cdata-apart zero le = refl
cdata-apart (suc zero) le = refl
cdata-apart (suc (suc zero)) le = refl
cdata-apart (suc (suc (suc zero))) le = refl
cdata-apart (suc (suc (suc (suc zero)))) le = refl
cdata-apart (suc (suc (suc (suc (suc size))))) le = refl

cdata-moves : (text : List ℕ) (options : ParseOptions) (h : Here) → h.scratch.size ≤ 5 →
    MovesBy text options its.CdataOpenInside h
    (λ o. cdata_move h.scratch (is_current (cdata_byte h.scratch.size) o) (nat_lt h.scratch.size 5))
cdata-moves text options h le = record {
  none = λ rest q. opens-none (cdata_front s.size ++ []) [] h (cdata-none s.size [] le refl);
  some = λ c cs. go c cs (nat_eq c.byte (cdata_byte s.size)) (nat_lt s.size 5) refl refl;
}
  where
    s : Scratch
    s = h.scratch

    go : (c : Cell) (cs : List Cell) (x y : Bool) → nat_eq c.byte (cdata_byte s.size) ≡ x → nat_lt s.size 5 ≡ y →
        html_behaves text options its.CdataOpenInside (c ∷ cs) h ≡
        becomes text options (c ∷ cs) cs c.after h (cdata_move s x y)
    go c cs true true e f =
        let few : s.size ≤ 4 = grind (arith, nat_tests) in
        following-taken (cdata_front s.size) c cs h (record s { size = s.size + 1 })
        (not-ending (λ (b : ℕ). b == cdata_byte s.size) c.byte (cdata-apart s.size le) e) refl
        ∙ ap
        (λ (l : List ℕ).
        opens_after l cs (record h { point = c.after; scratch = record s { size = s.size + 1 } }))
        (ap (λ (b : ℕ). cdata_front s.size ++ b ∷ []) (eqb-true c.byte (cdata_byte s.size) e)
        ∙ cdata-more s.size few)
    go c cs true false e f =
        let last : s.size ≡ 5 = grind (arith, nat_tests) in
        following-decides Cdata (cdata_front s.size) (codes "<![CDATA[") [] c cs h (marked 93 s)
        (not-ending (λ (b : ℕ). b == cdata_byte s.size) c.byte (cdata-apart s.size le) e) refl refl
        (ap (λ (b : ℕ). cdata_front s.size ++ b ∷ []) (eqb-true c.byte (cdata_byte s.size) e)
        ∙ ap (λ (size : ℕ). cdata_front size ++ cdata_byte size ∷ []) last)
        (cdata-known (line_bytes cs))
        ∙ left-by Cdata cs h c.after (marked 93 s) (ends-cdata (line_bytes cs))
    go c cs false y e f =
        following-stops (cdata_front s.size) (λ (b : ℕ). b == cdata_byte s.size) (c ∷ cs) h
        (λ (rest : List ℕ) k. cdata-none s.size rest le k)
        (begins-line (λ (b : ℕ). b == cdata_byte s.size) c cs (cdata-apart s.size le) ∙ e)

-- After `</`.

close-moves : (text : List ℕ) (options : ParseOptions) (h : Here) →
    MovesBy text options its.TagCloseStart h (λ o. close_start_move h.scratch h.point.index (sees_letter o))
close-moves text options h = record {
  none = λ rest q. opens-none (codes "</") [] h (close-none [] refl);
  some = λ c cs. go c cs (is_ascii_alphabetic c.byte) refl;
}
  where
    go : (c : Cell) (cs : List Cell) (x : Bool) → is_ascii_alphabetic c.byte ≡ x →
        html_behaves text options its.TagCloseStart (c ∷ cs) h ≡
        becomes text options (c ∷ cs) cs c.after h (close_start_move h.scratch h.point.index x)
    go c cs true e =
        name-begins text true (c ∷ cs) h (record (cleared h.scratch) { start = h.point.index; seen = true }) refl
    go c cs false e =
        following-stops (codes "</") is_ascii_alphabetic (c ∷ cs) h close-none
        (begins-line is_ascii_alphabetic c cs refl ∙ e)

-- After the slash of a tag of kind 6.

self-moves : (text : List ℕ) (options : ParseOptions) (h : Here) →
    MovesBy text options its.BasicSelfClosing h (λ o. self_closing_move h.scratch (is_current 62 o))
self-moves text options h = record { none = λ rest q. refl; some = λ c cs. go c cs (nat_eq c.byte 62) refl }
  where
    go : (c : Cell) (cs : List Cell) (x : Bool) → nat_eq c.byte 62 ≡ x →
        html_behaves text options its.BasicSelfClosing (c ∷ cs) h ≡
        becomes text options (c ∷ cs) cs c.after h (self_closing_move h.scratch x)
    go c cs true e =
        ap (λ (x : Bool). tag_by Basic x (c ∷ cs) h) (with-line 62 c cs refl ∙ e)
        ∙ closes-taken (held_leaf.Html Basic) c cs h (cleared h.scratch)
        (not-ending (λ (b : ℕ). b == 62) c.byte refl e) refl
    go c cs false e = ap (λ (x : Bool). tag_by Basic x (c ∷ cs) h) (with-line 62 c cs refl ∙ e)

-- The states.

pub indent_means : (B : Behaviour) (feed : Feed) (w : World) → HasHtml B w.setting.bytes w.setting.options →
    Sees feed w →
    Steps B feed (Next (n.HtmlFlow its.Indent)) w (html_transition its.Indent w).to (html_transition its.Indent w).world
indent_means B feed w has s =
    by-moves B feed _ w
    (λ o. indent_move w.scratch (sees_white o && nat_lt w.scratch.size (small_indent w.setting.options))) has s
    (indent-moves _ _ (here w))

pub before_means : (B : Behaviour) (feed : Feed) (w : World) → HasHtml B w.setting.bytes w.setting.options →
    Sees feed w →
    Steps B feed (Next (n.HtmlFlow its.Before)) w (html_transition its.Before w).to (html_transition its.Before w).world
before_means B feed w has s =
    by-moves B feed _ w (λ o. before_move w.scratch (is_current 60 o)) has s (before-moves _ _ (here w))

pub open_means : (B : Behaviour) (feed : Feed) (w : World) → HasHtml B w.setting.bytes w.setting.options →
    Sees feed w →
    Steps B feed (Next (n.HtmlFlow its.Open)) w (html_transition its.Open w).to (html_transition its.Open w).world
open_means B feed w has s =
    by-moves B feed _ w (λ o. by_byte (open_byte w.scratch w.point.index) Stops o) has s
    (open-moves _ _ (here w))

pub declaration_means : (B : Behaviour) (feed : Feed) (w : World) → HasHtml B w.setting.bytes w.setting.options →
    Sees feed w →
    Steps B feed (Next (n.HtmlFlow its.DeclarationOpen)) w (html_transition its.DeclarationOpen w).to
    (html_transition its.DeclarationOpen w).world
declaration_means B feed w has s =
    by-moves B feed _ w (λ o. by_byte (declaration_byte w.scratch) Stops o) has s
    (declaration-moves _ _ (here w))

pub comment_means : (B : Behaviour) (feed : Feed) (w : World) → HasHtml B w.setting.bytes w.setting.options →
    Sees feed w →
    Steps B feed (Next (n.HtmlFlow its.CommentOpenInside)) w (html_transition its.CommentOpenInside w).to
    (html_transition its.CommentOpenInside w).world
comment_means B feed w has s =
    by-moves B feed _ w (λ o. comment_move w.scratch (is_current 45 o)) has s (comment-moves _ _ (here w))

pub cdata_means : (B : Behaviour) (feed : Feed) (w : World) → HasHtml B w.setting.bytes w.setting.options →
    Sees feed w → w.scratch.size ≤ 5 →
    Steps B feed (Next (n.HtmlFlow its.CdataOpenInside)) w (html_transition its.CdataOpenInside w).to
    (html_transition its.CdataOpenInside w).world
cdata_means B feed w has s le =
    by-moves B feed _ w
    (λ o. cdata_move w.scratch (is_current (cdata_byte w.scratch.size) o) (nat_lt w.scratch.size 5)) has s
    (cdata-moves _ _ (here w) le)

pub close_start_means : (B : Behaviour) (feed : Feed) (w : World) → HasHtml B w.setting.bytes w.setting.options →
    Sees feed w →
    Steps B feed (Next (n.HtmlFlow its.TagCloseStart)) w (html_transition its.TagCloseStart w).to
    (html_transition its.TagCloseStart w).world
close_start_means B feed w has s =
    by-moves B feed _ w (λ o. close_start_move w.scratch w.point.index (sees_letter o)) has s
    (close-moves _ _ (here w))

pub self_closing_means : (B : Behaviour) (feed : Feed) (w : World) → HasHtml B w.setting.bytes w.setting.options →
    Sees feed w →
    Steps B feed (Next (n.HtmlFlow its.BasicSelfClosing)) w (html_transition its.BasicSelfClosing w).to
    (html_transition its.BasicSelfClosing w).world
self_closing_means B feed w has s =
    by-moves B feed _ w (λ o. self_closing_move w.scratch (is_current 62 o)) has s (self-moves _ _ (here w))
