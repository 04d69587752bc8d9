-- HTML in the name of a tag takes one step of its rule: the name may decide the kind (CommonMark 4.6).
use Rattle.std.proofs.Common.{◌≡◌, ℕ, ◌≤◌, Bool, true, false, cond, ◌&&◌, ◌||◌, nat_eq, List, [], ◌∷◌, ◌++◌, Option}
use Rattle.std.proofs.Common.{Some, None, refl, sym, ◌∙◌, ap, ap₂, append_assoc, arith}
use Rattle.std.specs.Prelude.{◌==◌, codes, not}
use Rattle.std.specs.List.{list_all, starts_with}
use Rattle.std.proofs.lemmas.Bool.{eqb-true, or_parts}
use Rattle.std.proofs.lemmas.Bool.Decides.{nat_tests}
use Rattle.md_engine.specs.declared.state.Name.TheVariants as n
use Rattle.md_engine.specs.declared.state.State.TheVariants.{Next}
use Rattle.md_engine.specs.declared.state.html_flow.State.TheVariants as its
use Rattle.md_engine.specs.declared.tokenizer.held_leaf.HeldLeaf.TheVariants as held_leaf
use Rattle.md_engine.specs.Meaning.{Behaviour, Cell, Feed, Steps, here}
use Rattle.md_engine.specs.World.{World, after, looks}
use Rattle.md_engine.specs.Sees.{Sees, ahead, cell_here}
use Rattle.md_meaning.specs.Bytes.{begins}
use Rattle.md_meaning.specs.Html.{Basic, Complete, HtmlKind, Raw, begins_attribute, closes_tag, ends_name}
use Rattle.md_meaning.specs.Html.{ends_opening, html_ends, html_kind, is_basic_name, is_raw_name, is_tag_byte}
use Rattle.md_meaning.specs.Lines.{begins_with}
use Rattle.md_meaning.specs.Rest.{is_parted, is_white, trim_start}
use Rattle.md_leaves.proofs.LeafSteps.{sees-one}
use Rattle.md_literal.specs.Html.{Stops, Takes, cleared, complete_name_code, ends_tag_name, has_letter, html_transition}
use Rattle.md_literal.specs.Html.{is_open_text, moved, name_code, name_here, sees_tag_byte, tag_name_move, turns_as}
use Rattle.md_literal.specs.HtmlRule.{HasHtml, closes, opens_after, refuses, tag_begin, tag_by}
use Rattle.md_literal.proofs.HtmlKinds.{IsTagName, closing-kind, letter-tag, opening-kind, raw-ends}
use Rattle.md_literal.proofs.HtmlMoves.{begins-line, following-taken, becomes_in, line-done, line-more, moved-steps}
use Rattle.md_literal.proofs.HtmlMoves.{not-ending, opens-basic, opens-complete, opens-none, opens-some, opens-text}
use Rattle.md_literal.proofs.HtmlMoves.{tag-same, tag-taken, with-line}
use Rattle.md_literal.proofs.HtmlBytes.{name-more}
use Rattle.md_literal.proofs.HtmlNames.{tag-dark}
use Rattle.md_literal.proofs.HtmlOpening.{ends-raw}
use Rattle.md_literal.proofs.HtmlTags.{closes-none, opening-last, opening-slash, optional-none, trim-none}
use Rattle.md_events.specs.Ahead.{line_bytes}
use Rattle.md_events.specs.Spaces.{is_current}

-- What follows the name.

record Following (o : Option ℕ) (more : List ℕ) : Type 0 where
  pub tag : begins is_tag_byte more ≡ sees_tag_byte o
  pub ends : ends_name more ≡ ends_tag_name o
  pub slash : begins_with 47 more ≡ is_current 47 o

following-ahead : (feed : Feed) (w : World) (o : Option ℕ) → Following o (line_bytes (ahead feed w o))
following-ahead feed w None = record { tag = refl; ends = refl; slash = refl }
following-ahead feed w (Some b) = record {
  tag = begins-line is_tag_byte c cs refl;
  ends = go (nat_eq b 10) refl;
  slash = with-line 47 c cs refl;
}
  where
    c : Cell
    c = cell_here feed w b

    cs : List Cell
    cs = feed (after w.setting w.point)

    go : (x : Bool) → nat_eq b 10 ≡ x → ends_name (line_bytes (c ∷ cs)) ≡ ends_tag_name (Some b)
    go true e = ap ends_name (line-done c cs e) ∙ rw e refl
    go false e = ap ends_name (line-more c cs e) ∙ rw e refl

following-seen : (feed : Feed) (w : World) → Sees feed w → Following w.current (line_bytes (feed w.point))
following-seen feed w s = rw s.next (following-ahead feed w w.current)

-- whether `/>` does
abbrev self_ends : List ℕ → Bool
self_ends more = starts_with nat_eq more (codes "/>")

self-none : (more : List ℕ) → begins_with 47 more ≡ false → self_ends more ≡ false
self-none [] e = refl
self-none (b ∷ bs) e = let k : nat_eq 47 b ≡ false = grind (arith, nat_tests) in rw k refl

self-some : (bs : List ℕ) → self_ends (47 ∷ bs) ≡ begins_with 62 bs
self-some [] = refl
self-some (b ∷ bs) = go (nat_eq b 62) refl
  where
    go : (x : Bool) → nat_eq b 62 ≡ x → self_ends (47 ∷ b ∷ bs) ≡ nat_eq b 62
    go true e = let k : nat_eq 62 b ≡ true = grind (arith, nat_tests) in rw (k, e) refl
    go false e = let k : nat_eq 62 b ≡ false = grind (arith, nat_tests) in rw (k, e) refl

-- whether the rest of a tag does, by whether it is a closing one
abbrev completes : Bool → List ℕ → Bool
completes true more = closes_tag (trim_start more)
completes false more = ends_opening more

and-false : (x : Bool) → x && false ≡ false
and-false true = refl
and-false false = refl

-- no more of a tag is before what may not follow its name
completes-none : (closing : Bool) (more : List ℕ) → ends_name more ≡ false → begins_with 47 more ≡ false →
    completes closing more ≡ false
completes-none closing more e f = by closing
  where
    parts : (is_parted more ≡ false) × (begins_with 62 more ≡ false)
    parts = or_parts (is_parted more) (begins_with 62 more) e

    dark : (l : List ℕ) → is_parted l ≡ false → begins is_white l ≡ false
    dark [] k = refl
    dark (b ∷ bs) k = k

    by : (closing : Bool) → completes closing more ≡ false
    by true = ap closes_tag (trim-none more (dark more parts.0)) ∙ closes-none more parts.1
    by false =
        opening-last false more (dark more parts.0) (and-false (begins begins_attribute more))
        ∙ ap closes_tag (optional-none 47 more f) ∙ closes-none more parts.1

-- after a slash
completes-slash : (closing : Bool) (bs : List ℕ) → begins_with 62 bs ≡ false → completes closing (47 ∷ bs) ≡ false
completes-slash true bs e = ap closes_tag (trim-none (47 ∷ bs) refl)
completes-slash false bs e = opening-slash false bs ∙ closes-none bs e

-- The kind, by the name and what follows it.

abbrev tag_code : Bool → Bool → Bool → Bool → Bool → Bool → Option HtmlKind
tag_code true raw basic ends self complete =
    cond (basic && (ends || self)) (Some Basic) (cond complete (Some Complete) None)
tag_code false raw basic ends self complete =
    cond (raw && ends) (Some Raw) (cond (basic && (ends || self)) (Some Basic) (cond complete (Some Complete) None))

tag-kind : (closing : Bool) (name more : List ℕ) → IsTagName name → begins is_tag_byte more ≡ false →
    html_kind ((tag_begin closing ++ name) ++ more) ≡
    tag_code closing (is_raw_name name) (is_basic_name name) (ends_name more) (self_ends more) (completes closing more)
tag-kind true name more is e = closing-kind name more is e
tag-kind false name more is e = opening-kind name more is e

code-stops : (closing raw basic : Bool) → tag_code closing raw basic false false false ≡ None
code-stops true raw true = refl
code-stops true raw false = refl
code-stops false true true = refl
code-stops false true false = refl
code-stops false false true = refl
code-stops false false false = refl

code-slash : (closing raw self complete : Bool) → (self ≡ false → complete ≡ false) →
    tag_code closing raw true false self complete ≡ cond self (Some Basic) None
code-slash true raw true complete f = refl
code-slash true raw false complete f = rw (f refl) refl
code-slash false true true complete f = refl
code-slash false true false complete f = rw (f refl) refl
code-slash false false true complete f = refl
code-slash false false false complete f = rw (f refl) refl

code-basic : (closing raw self complete : Bool) → not closing && not false && raw ≡ false →
    tag_code closing raw true true self complete ≡ Some Basic
code-basic true raw self complete e = refl
code-basic false true self complete e = cc
code-basic false false self complete e = refl

code-complete : (closing slash raw ends self complete : Bool) → not closing && not slash && raw ≡ false →
    (slash ≡ true → ends ≡ false) →
    tag_code closing raw false ends self complete ≡ cond complete (Some Complete) None
code-complete true slash raw ends self complete e f = refl
code-complete false slash false ends self complete e f = refl
code-complete false true true ends self complete e f = rw (f refl) refl
code-complete false false true ends self complete e f = cc

-- after a slash no name ends
slash-ends : (more : List ℕ) → begins_with 47 more ≡ true → ends_name more ≡ false
slash-ends [] e = cc
slash-ends (b ∷ bs) e = let slash : b ≡ 47 = eqb-true b 47 e in rw slash refl

-- The step.

-- a name of a tag, with what follows it
record Named (feed : Feed) (w : World) : Type 0 where
  pub is : IsTagName (name_here w)
  pub following : Following w.current (line_bytes (feed w.point))
  pub apart : begins is_tag_byte (line_bytes (feed w.point)) ≡ false

abbrev more_here : Feed → World → List ℕ
more_here feed w = line_bytes (feed w.point)

abbrev line_here : Feed → World → List ℕ
line_here feed w = (tag_begin w.scratch.seen ++ name_here w) ++ more_here feed w

kind-here : (feed : Feed) (w : World) → Named feed w →
    html_kind (line_here feed w) ≡
    tag_code w.scratch.seen (is_raw_name (name_here w)) (is_basic_name (name_here w)) (ends_name (more_here feed w))
    (self_ends (more_here feed w)) (completes w.scratch.seen (more_here feed w))
kind-here feed w d = tag-kind w.scratch.seen (name_here w) (more_here feed w) d.is d.apart

-- what may not be after a name
stops-here : (feed : Feed) (w : World) → Named feed w → ends_tag_name w.current || is_current 47 w.current ≡ false →
    opens_after (tag_begin w.scratch.seen ++ name_here w) (feed w.point) (here w) ≡ refuses (here w)
stops-here feed w d e =
    let parts = or_parts (ends_tag_name w.current) (is_current 47 w.current) e in
    let ends : ends_name (more_here feed w) ≡ false = d.following.ends ∙ parts.0 in
    let slash : begins_with 47 (more_here feed w) ≡ false = d.following.slash ∙ parts.1 in
    opens-none (line_here feed w) (feed w.point) (here w)
    (kind-here feed w d
    ∙ ap (λ (x : Bool). tag_code w.scratch.seen (is_raw_name (name_here w)) (is_basic_name (name_here w)) x
    (self_ends (more_here feed w)) (completes w.scratch.seen (more_here feed w))) ends
    ∙ ap₂ (λ (x y : Bool). tag_code w.scratch.seen (is_raw_name (name_here w)) (is_basic_name (name_here w)) false x y)
    (self-none (more_here feed w) slash) (completes-none w.scratch.seen (more_here feed w) ends slash)
    ∙ code-stops w.scratch.seen (is_raw_name (name_here w)) (is_basic_name (name_here w)))

-- a name of kind 1, in an opening tag
raw-here : (feed : Feed) (w : World) → Named feed w → w.scratch.seen ≡ false → is_raw_name (name_here w) ≡ true →
    ends_name (more_here feed w) ≡ true →
    opens_after (tag_begin w.scratch.seen ++ name_here w) (feed w.point) (here w) ≡
    becomes_in feed w (turns_as Raw its.Continuation w.scratch)
raw-here feed w d opens raw ends =
    opens-some Raw (line_here feed w) (feed w.point) (here w) refl
    (kind-here feed w d
    ∙ ap₂ (λ (x y : Bool). tag_code x y (is_basic_name (name_here w)) (ends_name (more_here feed w))
    (self_ends (more_here feed w)) (completes w.scratch.seen (more_here feed w))) opens raw
    ∙ ap (λ (x : Bool). tag_code false true (is_basic_name (name_here w)) x
    (self_ends (more_here feed w)) (completes w.scratch.seen (more_here feed w))) ends)
    ∙ ap (λ (x : Bool). closes (cond x held_leaf.None (held_leaf.Html Raw)) (feed w.point) (here w))
    (ap (λ (x : Bool). html_ends Raw ((tag_begin x ++ name_here w) ++ more_here feed w)) opens
    ∙ raw-ends (name_here w) (more_here feed w) d.is ∙ ends-raw (more_here feed w))

-- a name of kind 6 before a slash
slash-here : (feed : Feed) (w : World) → Named feed w → Sees feed w → is_current 47 w.current ≡ true →
    is_basic_name (name_here w) ≡ true →
    opens_after (tag_begin w.scratch.seen ++ name_here w) (feed w.point) (here w) ≡
    becomes_in feed w (Takes its.BasicSelfClosing (cleared w.scratch))
slash-here feed w d s e basic =
    opens-basic (self_ends (more_here feed w)) (line_here feed w) (feed w.point) (here w)
    (kind-here feed w d
    ∙ ap₂
    (λ (x y : Bool).
    tag_code w.scratch.seen (is_raw_name (name_here w)) x y (self_ends (more_here feed w))
    (completes w.scratch.seen (more_here feed w)))
    basic (slash-ends (more_here feed w) (d.following.slash ∙ e))
    ∙ code-slash w.scratch.seen (is_raw_name (name_here w)) (self_ends (more_here feed w))
    (completes w.scratch.seen (more_here feed w))
    (λ k. ap (completes w.scratch.seen) line ∙ completes-slash w.scratch.seen (line_bytes cs) (sym self ∙ k)))
    ∙ ap (λ (x : Bool). tag_by Basic x (feed w.point) (here w)) self
    ∙ ap (λ (l : List Cell). tag_by Basic (begins_with 62 (line_bytes cs)) l (here w)) saw.1
    ∙ tag-taken Basic (begins_with 62 (line_bytes cs)) c cs (here w) (cleared w.scratch) ne refl
  where
    saw : (b : ℕ) × (feed w.point ≡ cell_here feed w b ∷ feed (after w.setting w.point)) × (nat_eq b 47 ≡ true)
    saw = sees-one feed w (is_current 47) refl s e

    c : Cell
    c = cell_here feed w saw.0

    cs : List Cell
    cs = feed (after w.setting w.point)

    ne : nat_eq c.byte 10 ≡ false
    ne = not-ending (λ (b : ℕ). b == 47) c.byte refl saw.2

    line : more_here feed w ≡ 47 ∷ line_bytes cs
    line =
        ap line_bytes saw.1 ∙ line-more c cs ne ∙ ap (λ (b : ℕ). b ∷ line_bytes cs) (eqb-true c.byte 47 saw.2)

    self : self_ends (more_here feed w) ≡ begins_with 62 (line_bytes cs)
    self = ap self_ends line ∙ self-some (line_bytes cs)

-- and before its end
basic-here : (feed : Feed) (w : World) → Named feed w →
    not w.scratch.seen && not false && is_raw_name (name_here w) ≡ false → ends_name (more_here feed w) ≡ true →
    is_basic_name (name_here w) ≡ true →
    opens_after (tag_begin w.scratch.seen ++ name_here w) (feed w.point) (here w) ≡
    becomes_in feed w (turns_as Basic its.ContinuationClose w.scratch)
basic-here feed w d raw ends basic =
    opens-basic true (line_here feed w) (feed w.point) (here w)
    (kind-here feed w d
    ∙ ap₂ (λ (x y : Bool). tag_code w.scratch.seen (is_raw_name (name_here w)) x y (self_ends (more_here feed w))
    (completes w.scratch.seen (more_here feed w))) basic ends
    ∙ code-basic w.scratch.seen (is_raw_name (name_here w)) (self_ends (more_here feed w))
    (completes w.scratch.seen (more_here feed w)) raw)

-- any other name
complete-here : (feed : Feed) (w : World) (closing text : Bool) → w.scratch.seen ≡ closing →
    is_open_text w.flags.leaf ≡ text →
    html_kind (line_here feed w) ≡ cond (completes w.scratch.seen (more_here feed w)) (Some Complete) None →
    opens_after (tag_begin w.scratch.seen ++ name_here w) (feed w.point) (here w) ≡
    becomes_in feed w (complete_name_code w.scratch closing text)
complete-here feed w closing true is on kind =
    opens-text (completes w.scratch.seen (more_here feed w)) (line_here feed w) (feed w.point) (here w) kind on
complete-here feed w true false is on kind =
    opens-complete (completes w.scratch.seen (more_here feed w)) (line_here feed w) (feed w.point) (here w) kind on
    ∙ ap (λ (x : Bool). tag_by Complete (completes x (more_here feed w)) (feed w.point) (here w)) is
    ∙ tag-same Complete (closes_tag (trim_start (more_here feed w))) (feed w.point) (here w) (cleared w.scratch) refl
complete-here feed w false false is on kind =
    opens-complete (completes w.scratch.seen (more_here feed w)) (line_here feed w) (feed w.point) (here w) kind on
    ∙ ap (λ (x : Bool). tag_by Complete (completes x (more_here feed w)) (feed w.point) (here w)) is
    ∙ tag-same Complete (ends_opening (more_here feed w)) (feed w.point) (here w) (cleared w.scratch) refl

raw-parts : (closing slash raw : Bool) → not closing && not slash && raw ≡ true →
    (closing ≡ false) × (slash ≡ false) × (raw ≡ true)
raw-parts true slash raw e = cc
raw-parts false true raw e = cc
raw-parts false false raw e = (refl, refl, e)

or-left : (x y : Bool) → x || y ≡ true → y ≡ false → x ≡ true
or-left true y e f = refl
or-left false y e f = let bad : true ≡ false = sym e ∙ f in cc

-- the whole name was read
name-here : (feed : Feed) (w : World) (slash raw basic : Bool) → Named feed w → Sees feed w →
    ends_tag_name w.current || is_current 47 w.current ≡ true → is_current 47 w.current ≡ slash →
    not w.scratch.seen && not slash && is_raw_name (name_here w) ≡ raw → is_basic_name (name_here w) ≡ basic →
    opens_after (tag_begin w.scratch.seen ++ name_here w) (feed w.point) (here w) ≡
    becomes_in feed w (name_code w.scratch w.flags.leaf slash raw basic)
name-here feed w slash true basic d s ends e f g =
    let parts = raw-parts w.scratch.seen slash (is_raw_name (name_here w)) f in
    raw-here feed w d parts.0 parts.2
    (d.following.ends ∙ or-left (ends_tag_name w.current) (is_current 47 w.current) ends (e ∙ parts.1))
name-here feed w true false true d s ends e f g = slash-here feed w d s e g
name-here feed w false false true d s ends e f g =
    basic-here feed w d f (d.following.ends ∙ or-left (ends_tag_name w.current) (is_current 47 w.current) ends e) g
name-here feed w slash false false d s ends e f g =
    complete-here feed w w.scratch.seen (is_open_text w.flags.leaf) refl refl
    (kind-here feed w d
    ∙ ap (λ (x : Bool). tag_code w.scratch.seen (is_raw_name (name_here w)) x (ends_name (more_here feed w))
    (self_ends (more_here feed w)) (completes w.scratch.seen (more_here feed w))) g
    ∙ code-complete w.scratch.seen slash (is_raw_name (name_here w)) (ends_name (more_here feed w))
    (self_ends (more_here feed w)) (completes w.scratch.seen (more_here feed w)) f
    (λ k. slash-ends (more_here feed w) (d.following.slash ∙ e ∙ k)))

-- one more byte of it
name-takes : (feed : Feed) (w : World) → Sees feed w → w.current ≡ looks w → w.scratch.start ≤ w.point.index →
    sees_tag_byte w.current ≡ true →
    opens_after (tag_begin w.scratch.seen ++ name_here w) (feed w.point) (here w) ≡
    becomes_in feed w (Takes its.TagName w.scratch)
name-takes feed w s sight le e = go w.current sight s.next e
  where
    go : (o : Option ℕ) → o ≡ looks w → feed w.point ≡ ahead feed w o → sees_tag_byte o ≡ true →
        opens_after (tag_begin w.scratch.seen ++ name_here w) (feed w.point) (here w) ≡
        becomes_in feed w (Takes its.TagName w.scratch)
    go None sight next e = cc
    go (Some b) sight next e =
        let front = tag_begin w.scratch.seen ++ name_here w in
        ap (λ (l : List Cell). opens_after front l (here w)) next
        ∙ following-taken front (cell_here feed w b) (feed (after w.setting w.point)) (here w) w.scratch
        (not-ending is_tag_byte b refl e) refl
        ∙ ap
        (λ (l : List ℕ).
        opens_after l (feed (after w.setting w.point)) (record (here w) { point = after w.setting w.point }))
        (append_assoc (tag_begin w.scratch.seen) (name_here w) (b ∷ [])
        ∙ ap (λ (l : List ℕ). tag_begin w.scratch.seen ++ l)
        (sym (name-more w.setting w.point b w.scratch.start (tag-dark b e) (sym sight) le)))

-- where no more of it is, a name was read
name-read : (o : Option ℕ) (name : List ℕ) → has_letter name o ≡ true → list_all is_tag_byte name ≡ true →
    sees_tag_byte o ≡ false → IsTagName name
name-read None [] e a none = cc
name-read (Some b) [] e a none = let bad : true ≡ false = sym (letter-tag b e) ∙ none in cc
name-read o (b ∷ bs) e a none = record { letter = e; bytes = a }

tag_name_by : (B : Behaviour) (feed : Feed) (w : World) (x y : Bool) →
    HasHtml B w.setting.bytes w.setting.options → Sees feed w → w.current ≡ looks w →
    w.scratch.start ≤ w.point.index → has_letter (name_here w) (looks w) ≡ true →
    list_all is_tag_byte (name_here w) ≡ true → sees_tag_byte w.current ≡ x →
    ends_tag_name w.current || is_current 47 w.current ≡ y →
    Steps B feed (Next (n.HtmlFlow its.TagName)) w (moved w (tag_name_move w x y)).to
    (moved w (tag_name_move w x y)).world
tag_name_by B feed w true y has s sight le letter bytes e f =
    moved-steps B feed its.TagName w (tag_name_move w true y) has (name-takes feed w s sight le e)
tag_name_by B feed w false y has s sight le letter bytes e f = go y f
  where
    d : Named feed w
    d = record {
      is = name-read w.current (name_here w) (ap (has_letter (name_here w)) sight ∙ letter) bytes e;
      following = following-seen feed w s;
      apart = (following-seen feed w s).tag ∙ e;
    }

    go : (y : Bool) → ends_tag_name w.current || is_current 47 w.current ≡ y →
        Steps B feed (Next (n.HtmlFlow its.TagName)) w (moved w (tag_name_move w false y)).to
        (moved w (tag_name_move w false y)).world
    go true f =
        moved-steps B feed its.TagName w (tag_name_move w false true) has
        (name-here feed w _ _ _ d s f refl refl refl)
    go false f = moved-steps B feed its.TagName w Stops has (stops-here feed w d f)

pub tag_name_means : (B : Behaviour) (feed : Feed) (w : World) → HasHtml B w.setting.bytes w.setting.options →
    Sees feed w → w.current ≡ looks w → w.scratch.start ≤ w.point.index →
    has_letter (name_here w) (looks w) ≡ true → list_all is_tag_byte (name_here w) ≡ true →
    Steps B feed (Next (n.HtmlFlow its.TagName)) w (html_transition its.TagName w).to
    (html_transition its.TagName w).world
tag_name_means B feed w has s sight le letter bytes =
    tag_name_by B feed w _ _ has s sight le letter bytes refl refl
