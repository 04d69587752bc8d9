-- A move of HTML as a step of its rule, and what is left of the rule after a byte of the first line.
use Rattle.std.proofs.Common.{◌≡◌, ℕ, Bool, true, false, cond, nat_eq, List, [], ◌∷◌, ◌++◌, Option, Some, None, refl}
use Rattle.std.proofs.Common.{sym, ◌∙◌, ap, append_assoc}
use Rattle.std.specs.Prelude.{◌==◌}
use Rattle.std.proofs.lemmas.Bool.{eqb-true}
use Rattle.md_engine.specs.declared.configuration.ParseOptions.{ParseOptions}
use Rattle.md_engine.specs.declared.event.Point.{Point}
use Rattle.md_engine.specs.declared.state.Name.TheVariants as n
use Rattle.md_engine.specs.declared.state.State.TheVariants.{Next}
use Rattle.md_engine.specs.declared.state.html_flow.State.{State as HtmlState}
use Rattle.md_engine.specs.declared.tokenizer.Scratch.{Scratch}
use Rattle.md_engine.specs.declared.tokenizer.held_leaf.HeldLeaf.{HeldLeaf}
use Rattle.md_engine.specs.declared.tokenizer.held_leaf.HeldLeaf.TheVariants as held_leaf
use Rattle.md_engine.specs.Meaning.{Behaviour, Cell, Feed, Here, Outcome, Steps, here}
use Rattle.md_engine.specs.World.{World, after}
use Rattle.md_engine.specs.Sees.{Sees, ahead, cell_here}
use Rattle.md_engine.proofs.StepOf.{passes}
use Rattle.md_meaning.specs.Bytes.{begins}
use Rattle.md_meaning.specs.Html.{HtmlKind, Basic, Complete}
use Rattle.md_meaning.specs.Html.{html_ends, html_kind}
use Rattle.md_meaning.specs.Lines.{begins_with}
use Rattle.md_literal.specs.Html.{Move, Stops, Takes, TakesAs, Turns, TurnsAs, cleared, is_open_text, moved}
use Rattle.md_literal.specs.HtmlRule.{HasHtml, allowed, closes, html_behaves, left, opens, opens_after, opens_by}
use Rattle.md_literal.specs.HtmlRule.{refuses}
use Rattle.md_literal.specs.HtmlRule.{tag_by}
use Rattle.md_events.specs.Ahead.{line_bytes}

-- A move.

-- what it becomes, here and after what is here
abbrev pub becomes : List ℕ → ParseOptions → List Cell → List Cell → Point → Here → Move → Outcome
becomes text options cells rest q h (Takes state s) =
    html_behaves text options state rest (record h { point = q; scratch = s })
becomes text options cells rest q h (Turns state s) = html_behaves text options state cells (record h { scratch = s })
becomes text options cells rest q h (TakesAs leaf state s) =
    html_behaves text options state rest
    (record h { point = q; scratch = s; flags = record h.flags { leaf = leaf } })
becomes text options cells rest q h (TurnsAs leaf state s) =
    html_behaves text options state cells (record h { scratch = s; flags = record h.flags { leaf = leaf } })
becomes text options cells rest q h Stops = refuses h

-- the same in a world
abbrev pub becomes_in : Feed → World → Move → Outcome
becomes_in feed w m =
    becomes w.setting.bytes w.setting.options (feed w.point) (feed (after w.setting w.point)) (after w.setting w.point)
    (here w) m

-- a state that becomes what its move becomes takes one step
pub moved-steps : (B : Behaviour) (feed : Feed) (state : HtmlState) (w : World) (m : Move) →
    HasHtml B w.setting.bytes w.setting.options →
    html_behaves w.setting.bytes w.setting.options state (feed w.point) (here w) ≡ becomes_in feed w m →
    Steps B feed (Next (n.HtmlFlow state)) w (moved w m).to (moved w m).world
moved-steps B feed state w (Takes next s) has same =
    passes B feed _ _ w (moved w (Takes next s)).world refl refl
    (has.each state _ _ ∙ same ∙ sym (has.each next _ _))
moved-steps B feed state w (Turns next s) has same =
    passes B feed _ _ w (moved w (Turns next s)).world refl refl
    (has.each state _ _ ∙ same ∙ sym (has.each next _ _))
moved-steps B feed state w (TakesAs leaf next s) has same =
    passes B feed _ _ w (moved w (TakesAs leaf next s)).world refl refl
    (has.each state _ _ ∙ same ∙ sym (has.each next _ _))
moved-steps B feed state w (TurnsAs leaf next s) has same =
    passes B feed _ _ w (moved w (TurnsAs leaf next s)).world refl refl
    (has.each state _ _ ∙ same ∙ sym (has.each next _ _))
moved-steps B feed state w Stops has same =
    passes B feed _ _ w (moved w Stops).world refl refl (has.each state _ _ ∙ same)

-- what a state becomes at the end of what is fed, and at a byte, by what it does with what it sees
pub record MovesBy (text : List ℕ) (options : ParseOptions) (state : HtmlState) (h : Here) (move : Option ℕ → Move)
    : Type 0 where
  pub none : (rest : List Cell) (q : Point) →
      html_behaves text options state [] h ≡ becomes text options [] rest q h (move None)
  pub some : (c : Cell) (cs : List Cell) →
      html_behaves text options state (c ∷ cs) h ≡ becomes text options (c ∷ cs) cs c.after h (move (Some c.byte))

pub by-moves : (B : Behaviour) (feed : Feed) (state : HtmlState) (w : World) (move : Option ℕ → Move) →
    HasHtml B w.setting.bytes w.setting.options → Sees feed w →
    MovesBy w.setting.bytes w.setting.options state (here w) move →
    Steps B feed (Next (n.HtmlFlow state)) w (moved w (move w.current)).to (moved w (move w.current)).world
by-moves B feed state w move has s f = moved-steps B feed state w (move w.current) has (go w.current s.next)
  where
    go : (o : Option ℕ) → feed w.point ≡ ahead feed w o →
        html_behaves w.setting.bytes w.setting.options state (feed w.point) (here w) ≡ becomes_in feed w (move o)
    go None e = rw e (f.none (feed (after w.setting w.point)) (after w.setting w.point))
    go (Some b) e = rw e (f.some (cell_here feed w b) (feed (after w.setting w.point)))

-- The bytes of the line.

pub line-more : (c : Cell) (cs : List Cell) → nat_eq c.byte 10 ≡ false →
    line_bytes (c ∷ cs) ≡ c.byte ∷ line_bytes cs
line-more c cs e = rw e refl

pub line-done : (c : Cell) (cs : List Cell) → nat_eq c.byte 10 ≡ true → line_bytes (c ∷ cs) ≡ []
line-done c cs e = rw e refl

-- what comes first on it, by a test that an ending does not pass
pub begins-line : (t : ℕ → Bool) (c : Cell) (cs : List Cell) → t 10 ≡ false →
    begins t (line_bytes (c ∷ cs)) ≡ t c.byte
begins-line t c cs none = go (nat_eq c.byte 10) refl
  where
    go : (x : Bool) → nat_eq c.byte 10 ≡ x → begins t (line_bytes (c ∷ cs)) ≡ t c.byte
    go true e = let ten : c.byte ≡ 10 = eqb-true c.byte 10 e in ap (begins t) (line-done c cs e) ∙ sym (ap t ten ∙ none)
    go false e = ap (begins t) (line-more c cs e)

-- the same of one byte
pub with-line : (m : ℕ) (c : Cell) (cs : List Cell) → nat_eq 10 m ≡ false →
    begins_with m (line_bytes (c ∷ cs)) ≡ nat_eq c.byte m
with-line m c cs none = with-begins m (line_bytes (c ∷ cs)) ∙ begins-line (λ (b : ℕ). b == m) c cs none
  where
    with-begins : (m : ℕ) (l : List ℕ) → begins_with m l ≡ begins (λ (b : ℕ). b == m) l
    with-begins m [] = refl
    with-begins m (b ∷ bs) = refl

-- a byte that passes such a test is no ending
pub not-ending : (t : ℕ → Bool) (b : ℕ) → t 10 ≡ false → t b ≡ true → nat_eq b 10 ≡ false
not-ending t b none e = go (nat_eq b 10) refl
  where
    go : (x : Bool) → nat_eq b 10 ≡ x → x ≡ false
    go true k = let ten : b ≡ 10 = eqb-true b 10 k in let bad : true ≡ false = sym e ∙ ap t ten ∙ none in cc
    go false k = refl

-- After a byte.

-- what a part keeps is of no matter to the end of a line
pub closes-taken : (leaf : HeldLeaf) (c : Cell) (cs : List Cell) (h : Here) (s : Scratch) → nat_eq c.byte 10 ≡ false →
    cleared s ≡ cleared h.scratch → closes leaf (c ∷ cs) h ≡ closes leaf cs (record h { point = c.after; scratch = s })
closes-taken leaf c cs h s e same = rw (e, same) refl

pub tag-taken : (kind : HtmlKind) (x : Bool) (c : Cell) (cs : List Cell) (h : Here) (s : Scratch) →
    nat_eq c.byte 10 ≡ false → cleared s ≡ cleared h.scratch →
    tag_by kind x (c ∷ cs) h ≡ tag_by kind x cs (record h { point = c.after; scratch = s })
tag-taken kind true c cs h s e same = closes-taken (held_leaf.Html kind) c cs h s e same
tag-taken kind false c cs h s e same = rw same refl

pub tag-same : (kind : HtmlKind) (x : Bool) (cells : List Cell) (h : Here) (s : Scratch) →
    cleared s ≡ cleared h.scratch → tag_by kind x cells h ≡ tag_by kind x cells (record h { scratch = s })
tag-same kind true cells h s same = rw same refl
tag-same kind false cells h s same = rw same refl

by-taken : (o : Option HtmlKind) (line : List ℕ) (c : Cell) (cs : List Cell) (h : Here) (s : Scratch) →
    nat_eq c.byte 10 ≡ false → cleared s ≡ cleared h.scratch →
    opens_by o line (c ∷ cs) h ≡ opens_by o line cs (record h { point = c.after; scratch = s })
by-taken None line c cs h s e same = rw same refl
by-taken (Some kind) line c cs h s e same = closes-taken (left kind line) c cs h s e same

pub opens-taken : (line : List ℕ) (c : Cell) (cs : List Cell) (h : Here) (s : Scratch) →
    nat_eq c.byte 10 ≡ false → cleared s ≡ cleared h.scratch →
    opens line (c ∷ cs) h ≡ opens line cs (record h { point = c.after; scratch = s })
unfolding opens
opens-taken line c cs h s e same = by-taken (allowed h.flags.leaf (html_kind line)) line c cs h s e same

by-same : (o : Option HtmlKind) (line : List ℕ) (cells : List Cell) (h : Here) (s : Scratch) →
    cleared s ≡ cleared h.scratch → opens_by o line cells h ≡ opens_by o line cells (record h { scratch = s })
by-same None line cells h s same = rw same refl
by-same (Some kind) line cells h s same = rw same refl

pub opens-same : (line : List ℕ) (cells : List Cell) (h : Here) (s : Scratch) →
    cleared s ≡ cleared h.scratch → opens line cells h ≡ opens line cells (record h { scratch = s })
unfolding opens
opens-same line cells h s same = by-same (allowed h.flags.leaf (html_kind line)) line cells h s same

-- so much of the line is in front
pub following-taken : (front : List ℕ) (c : Cell) (cs : List Cell) (h : Here) (s : Scratch) →
    nat_eq c.byte 10 ≡ false → cleared s ≡ cleared h.scratch →
    opens_after front (c ∷ cs) h ≡
    opens_after (front ++ c.byte ∷ []) cs (record h { point = c.after; scratch = s })
following-taken front c cs h s e same =
    ap (λ (l : List ℕ). opens (front ++ l) (c ∷ cs) h) (line-more c cs e)
    ∙ opens-taken (front ++ c.byte ∷ line_bytes cs) c cs h s e same
    ∙ ap (λ (l : List ℕ). opens l cs (record h { point = c.after; scratch = s }))
    (sym (append_assoc front (c.byte ∷ []) (line_bytes cs)))

-- By the kind.

pub opens-none : (line : List ℕ) (cells : List Cell) (h : Here) → html_kind line ≡ None →
    opens line cells h ≡ refuses h
unfolding opens
opens-none line cells h e =
    ap (λ (o : Option HtmlKind). opens_by (allowed h.flags.leaf o) line cells h) e

-- kinds that interrupt text
abbrev pub interrupts : HtmlKind → Bool
interrupts Complete = false
interrupts _ = true

pub opens-some : (kind : HtmlKind) (line : List ℕ) (cells : List Cell) (h : Here) → interrupts kind ≡ true →
    html_kind line ≡ Some kind → opens line cells h ≡ closes (left kind line) cells h
unfolding opens
opens-some kind line cells h is e =
    ap (λ (o : Option HtmlKind). opens_by (allowed h.flags.leaf o) line cells h) e ∙ by kind is
  where
    by : (kind : HtmlKind) → interrupts kind ≡ true →
        opens_by (allowed h.flags.leaf (Some kind)) line cells h ≡ closes (left kind line) cells h
    by Complete is = cc
    by _ is = refl

-- a complete tag, or none
pub opens-complete : (x : Bool) (line : List ℕ) (cells : List Cell) (h : Here) →
    html_kind line ≡ cond x (Some Complete) None → is_open_text h.flags.leaf ≡ false →
    opens line cells h ≡ tag_by Complete x cells h
unfolding opens html_ends
opens-complete x line cells h e f =
    ap (λ (o : Option HtmlKind). opens_by (allowed h.flags.leaf o) line cells h) e ∙ by x
  where
    by : (x : Bool) →
        opens_by (allowed h.flags.leaf (cond x (Some Complete) None)) line cells h ≡ tag_by Complete x cells h
    by true = rw f refl
    by false = refl

-- which does not interrupt text
pub opens-text : (x : Bool) (line : List ℕ) (cells : List Cell) (h : Here) →
    html_kind line ≡ cond x (Some Complete) None → is_open_text h.flags.leaf ≡ true →
    opens line cells h ≡ refuses h
unfolding opens
opens-text x line cells h e f =
    ap (λ (o : Option HtmlKind). opens_by (allowed h.flags.leaf o) line cells h) e ∙ by x
  where
    by : (x : Bool) → opens_by (allowed h.flags.leaf (cond x (Some Complete) None)) line cells h ≡ refuses h
    by true = rw f refl
    by false = refl

-- a tag of kind 6, or none
pub opens-basic : (x : Bool) (line : List ℕ) (cells : List Cell) (h : Here) →
    html_kind line ≡ cond x (Some Basic) None → opens line cells h ≡ tag_by Basic x cells h
unfolding opens html_ends
opens-basic x line cells h e =
    ap (λ (o : Option HtmlKind). opens_by (allowed h.flags.leaf o) line cells h) e ∙ by x
  where
    by : (x : Bool) →
        opens_by (allowed h.flags.leaf (cond x (Some Basic) None)) line cells h ≡ tag_by Basic x cells h
    by true = refl
    by false = refl
