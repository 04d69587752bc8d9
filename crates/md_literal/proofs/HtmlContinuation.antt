-- The states of a line of HTML whose kind is known each take one step of its rule.
use Rattle.std.proofs.Common.{◌≡◌, ◌⊎◌, inl, inr, ℕ, ◌<◌, Bool, true, false, cond, ◌&&◌, nat_eq}
use Rattle.std.proofs.Common.{List, [], ◌∷◌, ◌++◌, refl, sym, ◌∙◌, ap, ap₂, arith, append_assoc, codes}
use Rattle.std.proofs.lemmas.Bool.{and_parts, eqb-true}
use Rattle.std.proofs.lemmas.Bool.Decides.{nat_tests}
use Rattle.md_engine.specs.declared.event.Name.TheVariants.{HtmlFlow, HtmlFlowData}
use Rattle.md_engine.specs.declared.state.Name.TheVariants as n
use Rattle.md_engine.specs.declared.state.State.TheVariants.{Next, Retry}
use Rattle.md_engine.specs.declared.state.html_flow.State.{State as HtmlState}
use Rattle.md_engine.specs.declared.state.html_flow.State.TheVariants as its
use Rattle.md_engine.specs.declared.tokenizer.Scratch.{Scratch}
use Rattle.md_engine.specs.declared.tokenizer.held_leaf.HeldLeaf.{HeldLeaf}
use Rattle.md_engine.specs.declared.tokenizer.held_leaf.HeldLeaf.TheVariants as held_leaf
use Rattle.md_engine.specs.Meaning.{Behaviour, Cell, Feed, Here, Steps, here}
use Rattle.md_engine.specs.Scheme.{position}
use Rattle.md_engine.specs.World.{World, after, looks}
use Rattle.md_engine.specs.Sees.{Sees, cell_here}
use Rattle.md_engine.proofs.StepOf.{moves, passes}
use Rattle.md_meaning.specs.Bytes.{is_end}
use Rattle.md_meaning.specs.Html.{is_raw_name}
use Rattle.md_meaning.specs.Rest.{is_white}
use Rattle.md_leaves.specs.Further.{further_link}
use Rattle.md_literal.specs.Html.{IsStop, blank_move, cleared, close_code, continuation_code, data_ended, ends_in_front}
use Rattle.md_literal.specs.Html.{in_letters, further_code, html_transition, inside_move, line_before_code, marked}
use Rattle.md_literal.specs.Html.{moved}
use Rattle.md_literal.specs.Html.{name_here, name_text, raw_end_move, raw_open_code, sees_letter, shut, stop_move}
use Rattle.md_literal.specs.Html.{stop_of}
use Rattle.md_literal.specs.Html.{text_move, twice_move}
use Rattle.md_literal.specs.HtmlRule.{HasHtml, closes, ends_by, entering, further_at, further_begun, is_continued}
use Rattle.md_literal.specs.HtmlRule.{line_at}
use Rattle.md_literal.specs.HtmlRule.{line_done, nonblank_at, refuses, stops}
use Rattle.md_literal.proofs.HtmlBytes.{begins-current, begins-letter, end-here, letter-dark, line-proceeds}
use Rattle.md_literal.proofs.HtmlBytes.{name-more, name-none, sees-here}
use Rattle.md_leaves.proofs.LeafSteps.{Ended, ends-seen}
use Rattle.md_literal.proofs.HtmlEnds.{ends-again, ends-none, ends-one, ends-open, ends-past, ends-skip}
use Rattle.md_literal.proofs.HtmlEnds.{ends-stop, ends-tag, ends-twice}
use Rattle.md_events.specs.Ahead.{line_bytes}
use Rattle.md_events.specs.Events.Nested.{enter, enter_link, exit}
use Rattle.md_events.specs.Lent.{lent}
use Rattle.md_events.specs.Spaces.{ends_line, is_current, sees_white}
use Rattle.md_events.specs.Transition.{taken}
use Rattle.md_events.proofs.AheadLemmas.{white-no_ending}

-- A line that is taken to its end.

-- what is open after a line, by whether it held its end
abbrev open_following : Bool → HeldLeaf → HeldLeaf
open_following ends leaf = cond ends held_leaf.None leaf

closes-more : (leaf : HeldLeaf) (c : Cell) (cs : List Cell) (h : Here) → nat_eq c.byte 10 ≡ false →
    closes leaf (c ∷ cs) h ≡ closes leaf cs (record h { point = c.after })
closes-more leaf c cs h e = rw e refl

closes-end : (leaf : HeldLeaf) (cells : List Cell) (h : Here) → Ended cells →
    closes leaf cells h ≡
    line_done cells
    (record h { events = h.events ++ exit HtmlFlowData h.point ∷ []; flags = record h.flags { leaf = leaf } })
closes-end leaf cells h e = rw (e.line, e.ending) (simp append_assoc)

-- one more byte of it, of which so much was read before
proceeds-on-more : (front : List ℕ) (x : Bool) (c : Cell) (cs : List Cell) (h : Here) → nat_eq c.byte 10 ≡ false →
    ends_by h.scratch.marker (front ++ c.byte ∷ line_bytes cs) ≡ x →
    is_continued front (c ∷ cs) h ≡ closes (open_following x h.flags.leaf) cs (record h { point = c.after })
proceeds-on-more front x c cs h e f = rw (e, f) refl

-- What a state of a line's text does.

-- it continues here
stays_on : (B : Behaviour) (feed : Feed) (from to : HtmlState) (w : World) (s : Scratch) (front more : List ℕ) →
    s.marker ≡ w.scratch.marker → cleared s ≡ cleared w.scratch →
    B (n.HtmlFlow from) (feed w.point) (here w) ≡ is_continued front (feed w.point) (here w) →
    B (n.HtmlFlow to) (feed w.point) (here (record w { scratch = s })) ≡
    is_continued more (feed w.point) (here (record w { scratch = s })) →
    ends_by w.scratch.marker (front ++ line_bytes (feed w.point)) ≡
    ends_by w.scratch.marker (more ++ line_bytes (feed w.point)) →
    Steps B feed (Next (n.HtmlFlow from)) w (Retry (n.HtmlFlow to)) (record w { scratch = s })
stays_on B feed from to w s front more m k old new e =
    passes B feed _ _ w (record w { scratch = s }) refl refl (old ∙ rw (m, k, e) refl ∙ sym new)

-- it takes what is here
takes_on : (B : Behaviour) (feed : Feed) (from to : HtmlState) (w : World) (s : Scratch) (front more : List ℕ) (b : ℕ) →
    s.marker ≡ w.scratch.marker → cleared s ≡ cleared w.scratch →
    B (n.HtmlFlow from) (feed w.point) (here w) ≡ is_continued front (feed w.point) (here w) →
    B (n.HtmlFlow to) (feed (after w.setting w.point)) (here (record (taken w) { scratch = s })) ≡
    is_continued more (feed (after w.setting w.point)) (here (record (taken w) { scratch = s })) →
    feed w.point ≡ cell_here feed w b ∷ feed (after w.setting w.point) → nat_eq b 10 ≡ false →
    ends_by w.scratch.marker (front ++ b ∷ line_bytes (feed (after w.setting w.point))) ≡
    ends_by w.scratch.marker (more ++ line_bytes (feed (after w.setting w.point))) →
    Steps B feed (Next (n.HtmlFlow from)) w (Next (n.HtmlFlow to)) (record (taken w) { scratch = s })
takes_on B feed from to w s front more b m k old new saw line e =
    passes B feed _ _ w (record (taken w) { scratch = s }) refl refl
    (old ∙ ap (λ (x : List Cell). is_continued front x (here w)) saw
    ∙ proceeds-on-more front _ (cell_here feed w b) (feed (after w.setting w.point)) (here w) line e
    ∙ rw (m, k) refl ∙ sym new)

-- it takes the end of the block
shut_means : (B : Behaviour) (feed : Feed) (from : HtmlState) (w : World) (front : List ℕ) (b : ℕ) →
    HasHtml B w.setting.bytes w.setting.options →
    B (n.HtmlFlow from) (feed w.point) (here w) ≡ is_continued front (feed w.point) (here w) →
    feed w.point ≡ cell_here feed w b ∷ feed (after w.setting w.point) → nat_eq b 10 ≡ false →
    ends_by w.scratch.marker (front ++ b ∷ line_bytes (feed (after w.setting w.point))) ≡ true →
    Steps B feed (Next (n.HtmlFlow from)) w (moved w (shut w.scratch)).to (moved w (shut w.scratch)).world
shut_means B feed from w front b has old saw line e =
    passes B feed _ _ w (moved w (shut w.scratch)).world refl refl
    (old ∙ ap (λ (x : List Cell). is_continued front x (here w)) saw
    ∙ proceeds-on-more front true (cell_here feed w b) (feed (after w.setting w.point)) (here w) line e
    ∙ sym (has.each its.ContinuationClose _ _))

-- the line ends here, and its text with it
ended_means : (B : Behaviour) (feed : Feed) (from : HtmlState) (w : World) →
    HasHtml B w.setting.bytes w.setting.options → Sees feed w → ends_line w.current ≡ true →
    B (n.HtmlFlow from) (feed w.point) (here w) ≡ closes w.flags.leaf (feed w.point) (here w) →
    Steps B feed (Next (n.HtmlFlow from)) w (data_ended w).to (data_ended w).world
ended_means B feed from w has s e old =
    moves B feed _ _ w (data_ended w).world (exit HtmlFlowData w.point ∷ []) refl refl
    (old ∙ closes-end w.flags.leaf (feed w.point) (here w) (ends-seen feed w s e)
    ∙ sym (has.each its.ContinuationAfter _ _))

-- The text of a line.

text_means : (B : Behaviour) (feed : Feed) (w : World) (b : ℕ) (x : Bool) →
    HasHtml B w.setting.bytes w.setting.options →
    feed w.point ≡ cell_here feed w b ∷ feed (after w.setting w.point) → nat_eq b 10 ≡ false →
    nat_eq b w.scratch.marker ≡ x →
    Steps B feed (Next (n.HtmlFlow its.Continuation)) w (moved w (text_move w.scratch x)).to
    (moved w (text_move w.scratch x)).world
text_means B feed w b false has saw line e =
    takes_on B feed its.Continuation its.Continuation w w.scratch [] [] b refl refl (has.each its.Continuation _ _)
    (has.each its.Continuation _ _) saw line
    (ends-skip w.scratch.marker b (line_bytes (feed (after w.setting w.point))) e)
text_means B feed w b true has saw line e =
    go (nat_eq w.scratch.marker 60) (nat_eq w.scratch.marker 45) (nat_eq w.scratch.marker 63)
    (nat_eq w.scratch.marker 93) refl refl refl refl
  where
    same : b ≡ w.scratch.marker
    same = eqb-true b w.scratch.marker e

    bytes : List ℕ
    bytes = line_bytes (feed (after w.setting w.point))

    begun : (m : ℕ) (front : List ℕ) → nat_eq w.scratch.marker m ≡ true → front ≡ m ∷ [] →
        ends_by w.scratch.marker (b ∷ bytes) ≡ ends_by w.scratch.marker (front ++ bytes)
    begun m front k f =
        let is : b ≡ m = same ∙ eqb-true w.scratch.marker m k in rw (f, is) refl

    go : (r c i d : Bool) → nat_eq w.scratch.marker 60 ≡ r → nat_eq w.scratch.marker 45 ≡ c →
        nat_eq w.scratch.marker 63 ≡ i → nat_eq w.scratch.marker 93 ≡ d →
        Steps B feed (Next (n.HtmlFlow its.Continuation)) w (moved w (stop_move w.scratch)).to
        (moved w (stop_move w.scratch)).world
    go true c i d f g h k =
        rw f
        (takes_on B feed its.Continuation its.ContinuationRawTagOpen w w.scratch [] (codes "<") b refl refl
        (has.each its.Continuation _ _) (has.each its.ContinuationRawTagOpen _ _) saw line
        (begun 60 (codes "<") f refl))
    go false true i d f g h k =
        rw (f, g)
        (takes_on B feed its.Continuation its.ContinuationCommentInside w w.scratch [] (codes "-") b refl refl
        (has.each its.Continuation _ _) (has.each its.ContinuationCommentInside _ _) saw line
        (begun 45 (codes "-") g refl))
    go false false true d f g h k =
        rw (f, g, h)
        (takes_on B feed its.Continuation its.ContinuationDeclarationInside w w.scratch [] (stops w.scratch.marker) b
        refl refl (has.each its.Continuation _ _) (has.each its.ContinuationDeclarationInside _ _) saw line
        (begun 63 (stops w.scratch.marker) h
        (rw h (ap (λ (m : ℕ). m ∷ []) (eqb-true w.scratch.marker 63 h)))))
    go false false false true f g h k =
        rw (f, g, h, k)
        (takes_on B feed its.Continuation its.ContinuationCdataInside w w.scratch [] (codes "]") b refl refl
        (has.each its.Continuation _ _) (has.each its.ContinuationCdataInside _ _) saw line
        (begun 93 (codes "]") k refl))
    go false false false false f g h k =
        rw (f, g, h, k)
        (shut_means B feed its.Continuation w [] b has (has.each its.Continuation _ _) saw line
        (ap (λ (c : ℕ). ends_by w.scratch.marker (c ∷ bytes)) same ∙ ends-one w.scratch.marker bytes f g h k))

in_text_means : (B : Behaviour) (feed : Feed) (w : World) (x : Bool) → HasHtml B w.setting.bytes w.setting.options →
    Sees feed w → ends_line w.current ≡ x →
    Steps B feed (Next (n.HtmlFlow its.Continuation)) w (continuation_code w x).to (continuation_code w x).world
in_text_means B feed w true has s e =
    ended_means B feed its.Continuation w has s e
    (has.each its.Continuation _ _ ∙ rw ((ends-seen feed w s e).line, ends-none w.scratch.marker) refl)
in_text_means B feed w false has s e =
    let saw = line-proceeds feed w s e in
    text_means B feed w saw.0 (is_current w.scratch.marker w.current) has saw.2 saw.3
    (sym (ap (is_current w.scratch.marker) saw.1))

pub continuation_means : (B : Behaviour) (feed : Feed) (w : World) → HasHtml B w.setting.bytes w.setting.options →
    Sees feed w →
    Steps B feed (Next (n.HtmlFlow its.Continuation)) w (html_transition its.Continuation w).to
    (html_transition its.Continuation w).world
continuation_means B feed w has s = in_text_means B feed w _ has s refl

-- after one of the two bytes with which an end of this marker begins
twice_means : (B : Behaviour) (feed : Feed) (from : HtmlState) (w : World) (m : ℕ) (x : Bool) →
    HasHtml B w.setting.bytes w.setting.options → Sees feed w → w.scratch.marker ≡ m → (m ≡ 45) ⊎ (m ≡ 93) →
    B (n.HtmlFlow from) (feed w.point) (here w) ≡ is_continued (m ∷ []) (feed w.point) (here w) →
    is_current m w.current ≡ x → Steps B feed (Next (n.HtmlFlow from)) w (moved w (twice_move w.scratch x)).to
    (moved w (twice_move w.scratch x)).world
twice_means B feed from w m true has s is two old e =
    let saw = sees-here feed w (is_current m) refl s e in
    takes_on B feed from its.ContinuationDeclarationInside w w.scratch (m ∷ []) (stops w.scratch.marker) saw.0 refl refl
    old (has.each its.ContinuationDeclarationInside _ _) saw.2 (by two saw.0 saw.3) (same two saw.0 saw.3)
  where
    bytes : List ℕ
    bytes = line_bytes (feed (after w.setting w.point))

    by : (m ≡ 45) ⊎ (m ≡ 93) → (b : ℕ) → nat_eq b m ≡ true → nat_eq b 10 ≡ false
    by (inl k) b f = let c : b ≡ 45 = eqb-true b m f ∙ k in rw c refl
    by (inr k) b f = let c : b ≡ 93 = eqb-true b m f ∙ k in rw c refl

    same : (m ≡ 45) ⊎ (m ≡ 93) → (b : ℕ) → nat_eq b m ≡ true →
        ends_by w.scratch.marker (m ∷ b ∷ bytes) ≡ ends_by w.scratch.marker (stops w.scratch.marker ++ bytes)
    same (inl k) b f = rw (eqb-true b m f, is, k) refl
    same (inr k) b f = rw (eqb-true b m f, is, k) refl
twice_means B feed from w m false has s is two old e =
    stays_on B feed from its.Continuation w w.scratch (m ∷ []) [] refl refl old (has.each its.Continuation _ _)
    (ap (λ (k : ℕ). ends_by k (m ∷ line_bytes (feed w.point))) is
    ∙ ends-twice m (line_bytes (feed w.point)) two (begins-current m feed w false (ten two) s e)
    ∙ ap (λ (k : ℕ). ends_by k (line_bytes (feed w.point))) (sym is))
  where
    ten : (m ≡ 45) ⊎ (m ≡ 93) → nat_eq 10 m ≡ false
    ten (inl k) = rw k refl
    ten (inr k) = rw k refl

pub continuation_comment_inside_means : (B : Behaviour) (feed : Feed) (w : World) →
    HasHtml B w.setting.bytes w.setting.options → Sees feed w → w.scratch.marker ≡ 45 →
    Steps B feed (Next (n.HtmlFlow its.ContinuationCommentInside)) w
    (html_transition its.ContinuationCommentInside w).to (html_transition its.ContinuationCommentInside w).world
continuation_comment_inside_means B feed w has s is =
    twice_means B feed its.ContinuationCommentInside w 45 _ has s is (inl refl)
    (has.each its.ContinuationCommentInside _ _) refl

pub continuation_cdata_inside_means : (B : Behaviour) (feed : Feed) (w : World) →
    HasHtml B w.setting.bytes w.setting.options → Sees feed w → w.scratch.marker ≡ 93 →
    Steps B feed (Next (n.HtmlFlow its.ContinuationCdataInside)) w (html_transition its.ContinuationCdataInside w).to
    (html_transition its.ContinuationCdataInside w).world
continuation_cdata_inside_means B feed w has s is =
    twice_means B feed its.ContinuationCdataInside w 93 _ has s is (inr refl)
    (has.each its.ContinuationCdataInside _ _) refl

-- after all of an end but its last byte
stop-line : (m : ℕ) → IsStop m → nat_eq 10 m ≡ false
stop-line m (inl e) = rw e refl
stop-line m (inr (inl e)) = rw e refl
stop-line m (inr (inr e)) = rw e refl

line-stop : (m b : ℕ) → IsStop m → nat_eq b m ≡ true → nat_eq b 10 ≡ false
line-stop m b (inl e) f = rw (eqb-true b m f, e) refl
line-stop m b (inr (inl e)) f = rw (eqb-true b m f, e) refl
line-stop m b (inr (inr e)) f = rw (eqb-true b m f, e) refl

inside_means : (B : Behaviour) (feed : Feed) (w : World) (x y : Bool) → HasHtml B w.setting.bytes w.setting.options →
    Sees feed w → IsStop w.scratch.marker → is_current 62 w.current ≡ x → is_current w.scratch.marker w.current ≡ y →
    Steps B feed (Next (n.HtmlFlow its.ContinuationDeclarationInside)) w (moved w (inside_move w.scratch x y)).to
    (moved w (inside_move w.scratch x y)).world
inside_means B feed w true y has s is e f =
    let saw = sees-here feed w (is_current 62) refl s e in
    let m = w.scratch.marker in
    let b : saw.0 ≡ 62 = eqb-true saw.0 62 saw.3 in
    shut_means B feed its.ContinuationDeclarationInside w (stops m) saw.0 has
    (has.each its.ContinuationDeclarationInside _ _) saw.2 (ap (λ (c : ℕ). nat_eq c 10) b)
    (ap (λ (c : ℕ). ends_by m (stops m ++ c ∷ line_bytes (feed (after w.setting w.point)))) b
    ∙ ends-stop m (line_bytes (feed (after w.setting w.point))) is)
inside_means B feed w false true has s is e f =
    let m = w.scratch.marker in
    let saw = sees-here feed w (is_current m) refl s f in
    takes_on B feed its.ContinuationDeclarationInside its.ContinuationDeclarationInside w w.scratch (stops m) (stops m)
    saw.0 refl refl (has.each its.ContinuationDeclarationInside _ _) (has.each its.ContinuationDeclarationInside _ _)
    saw.2 (line-stop m saw.0 is saw.3)
    (ap (λ (c : ℕ). ends_by m (stops m ++ c ∷ line_bytes (feed (after w.setting w.point)))) (eqb-true saw.0 m saw.3)
    ∙ ends-again m (line_bytes (feed (after w.setting w.point))) is)
inside_means B feed w false false has s is e f =
    let m = w.scratch.marker in
    stays_on B feed its.ContinuationDeclarationInside its.Continuation w w.scratch (stops m) [] refl refl
    (has.each its.ContinuationDeclarationInside _ _) (has.each its.Continuation _ _)
    (ends-past m (line_bytes (feed w.point)) is (begins-current 62 feed w false refl s e)
    (begins-current m feed w false (stop-line m is) s f))

pub continuation_declaration_inside_means : (B : Behaviour) (feed : Feed) (w : World) →
    HasHtml B w.setting.bytes w.setting.options → Sees feed w → IsStop w.scratch.marker →
    Steps B feed (Next (n.HtmlFlow its.ContinuationDeclarationInside)) w
    (html_transition its.ContinuationDeclarationInside w).to
    (html_transition its.ContinuationDeclarationInside w).world
continuation_declaration_inside_means B feed w has s is = inside_means B feed w _ _ has s is refl refl

-- A closing tag of kind 1.

raw_open_means : (B : Behaviour) (feed : Feed) (w : World) (x : Bool) → HasHtml B w.setting.bytes w.setting.options →
    Sees feed w → w.scratch.marker ≡ 60 → is_current 47 w.current ≡ x →
    Steps B feed (Next (n.HtmlFlow its.ContinuationRawTagOpen)) w (raw_open_code w x).to (raw_open_code w x).world
raw_open_means B feed w true has s is e =
    let saw = sees-here feed w (is_current 47) refl s e in
    let i = (after w.setting w.point).index in
    let b : saw.0 ≡ 47 = eqb-true saw.0 47 saw.3 in
    takes_on B feed its.ContinuationRawTagOpen its.ContinuationRawEndTag w (record w.scratch { start = i }) (codes "<")
    (codes "</" ++ lent w.setting.bytes i i) saw.0 refl refl (has.each its.ContinuationRawTagOpen _ _)
    (has.each its.ContinuationRawEndTag _ _) saw.2 (ap (λ (c : ℕ). nat_eq c 10) b)
    (ap₂
    (λ (c : ℕ) (name : List ℕ).
    ends_by w.scratch.marker (60 ∷ c ∷ name ++ line_bytes (feed (after w.setting w.point)))) b
    (sym (name-none w.setting.bytes i)))
raw_open_means B feed w false has s is e =
    stays_on B feed its.ContinuationRawTagOpen its.Continuation w w.scratch (codes "<") [] refl refl
    (has.each its.ContinuationRawTagOpen _ _) (has.each its.Continuation _ _)
    (ap (λ (k : ℕ). ends_by k (60 ∷ line_bytes (feed w.point))) is
    ∙ ends-open (line_bytes (feed w.point)) (begins-current 47 feed w false refl s e)
    ∙ ap (λ (k : ℕ). ends_by k (line_bytes (feed w.point))) (sym is))

pub continuation_raw_tag_open_means : (B : Behaviour) (feed : Feed) (w : World) →
    HasHtml B w.setting.bytes w.setting.options → Sees feed w → w.scratch.marker ≡ 60 →
    Steps B feed (Next (n.HtmlFlow its.ContinuationRawTagOpen)) w (html_transition its.ContinuationRawTagOpen w).to
    (html_transition its.ContinuationRawTagOpen w).world
continuation_raw_tag_open_means B feed w has s is = raw_open_means B feed w _ has s is refl

raw_end_means : (B : Behaviour) (feed : Feed) (w : World) (x y : Bool) → HasHtml B w.setting.bytes w.setting.options →
    Sees feed w → w.current ≡ looks w → in_letters (position w) → w.scratch.marker ≡ 60 → sees_letter w.current ≡ x →
    is_current 62 w.current && is_raw_name (name_here w) ≡ y →
    Steps B feed (Next (n.HtmlFlow its.ContinuationRawEndTag)) w (moved w (raw_end_move w.scratch x y)).to
    (moved w (raw_end_move w.scratch x y)).world
raw_end_means B feed w true y has s at name is e f =
    let saw = sees-here feed w sees_letter refl s e in
    let dark : 32 < saw.0 = letter-dark saw.0 saw.3 in
    let bytes = line_bytes (feed (after w.setting w.point)) in
    takes_on B feed its.ContinuationRawEndTag its.ContinuationRawEndTag w w.scratch (codes "</" ++ name_here w)
    (codes "</" ++ name_text w.setting.bytes w.scratch (after w.setting w.point).index) saw.0 refl refl
    (has.each its.ContinuationRawEndTag _ _) (has.each its.ContinuationRawEndTag _ _) saw.2 (grind (arith, nat_tests))
    (ap (λ (rest : List ℕ). ends_by w.scratch.marker (60 ∷ 47 ∷ rest))
    (sym (append_assoc (name_here w) (saw.0 ∷ []) bytes)
    ∙ ap (λ (read : List ℕ). read ++ bytes)
    (sym (name-more w.setting w.point saw.0 w.scratch.start dark (sym at ∙ saw.1) name.0))))
raw_end_means B feed w false true has s at name is e f =
    let parts = and_parts (is_current 62 w.current) (is_raw_name (name_here w)) f in
    let saw = sees-here feed w (is_current 62) refl s parts.0 in
    let b : saw.0 ≡ 62 = eqb-true saw.0 62 saw.3 in
    let bytes = line_bytes (feed (after w.setting w.point)) in
    shut_means B feed its.ContinuationRawEndTag w (codes "</" ++ name_here w) saw.0 has
    (has.each its.ContinuationRawEndTag _ _) saw.2 (ap (λ (c : ℕ). nat_eq c 10) b)
    (ap₂ (λ (k c : ℕ). ends_by k (60 ∷ 47 ∷ name_here w ++ c ∷ bytes)) is b
    ∙ ends-tag (name_here w) (62 ∷ bytes) true name.1 refl parts.1)
raw_end_means B feed w false false has s at name is e f =
    let bytes = line_bytes (feed w.point) in
    stays_on B feed its.ContinuationRawEndTag its.Continuation w (marked w.scratch.marker w.scratch)
    (codes "</" ++ name_here w) [] refl refl (has.each its.ContinuationRawEndTag _ _) (has.each its.Continuation _ _)
    (ap (λ (k : ℕ). ends_by k (60 ∷ 47 ∷ name_here w ++ bytes)) is
    ∙ ends-tag (name_here w) bytes false name.1 (begins-letter feed w false s e)
    (ap (λ (z : Bool). z && is_raw_name (name_here w)) (begins-current 62 feed w _ refl s refl) ∙ f)
    ∙ ap (λ (k : ℕ). ends_by k bytes) (sym is))

pub continuation_raw_end_tag_means : (B : Behaviour) (feed : Feed) (w : World) →
    HasHtml B w.setting.bytes w.setting.options → Sees feed w → w.current ≡ looks w → in_letters (position w) →
    w.scratch.marker ≡ 60 →
    Steps B feed (Next (n.HtmlFlow its.ContinuationRawEndTag)) w (html_transition its.ContinuationRawEndTag w).to
    (html_transition its.ContinuationRawEndTag w).world
continuation_raw_end_tag_means B feed w has s at name is = raw_end_means B feed w _ _ has s at name is refl refl

-- After an end, and after the line.

close_means : (B : Behaviour) (feed : Feed) (w : World) (x : Bool) → HasHtml B w.setting.bytes w.setting.options →
    Sees feed w → ends_line w.current ≡ x →
    Steps B feed (Next (n.HtmlFlow its.ContinuationClose)) w (close_code w x).to (close_code w x).world
close_means B feed w true has s e =
    ended_means B feed its.ContinuationClose w has s e (has.each its.ContinuationClose _ _)
close_means B feed w false has s e =
    let saw = line-proceeds feed w s e in
    passes B feed _ _ w (close_code w false).world refl refl
    (has.each its.ContinuationClose _ _ ∙ ap (λ (x : List Cell). closes w.flags.leaf x (here w)) saw.2
    ∙ closes-more w.flags.leaf (cell_here feed w saw.0) (feed (after w.setting w.point)) (here w) saw.3
    ∙ sym (has.each its.ContinuationClose _ _))

pub continuation_close_means : (B : Behaviour) (feed : Feed) (w : World) →
    HasHtml B w.setting.bytes w.setting.options → Sees feed w →
    Steps B feed (Next (n.HtmlFlow its.ContinuationClose)) w (html_transition its.ContinuationClose w).to
    (html_transition its.ContinuationClose w).world
continuation_close_means B feed w has s = close_means B feed w _ has s refl

pub continuation_after_means : (B : Behaviour) (feed : Feed) (w : World) →
    HasHtml B w.setting.bytes w.setting.options →
    Steps B feed (Next (n.HtmlFlow its.ContinuationAfter)) w (html_transition its.ContinuationAfter w).to
    (html_transition its.ContinuationAfter w).world
continuation_after_means B feed w has =
    moves B feed _ _ w (html_transition its.ContinuationAfter w).world (exit HtmlFlow w.point ∷ []) refl refl
    (has.each its.ContinuationAfter _ _)

-- A further line.

line-empty : (cells : List Cell) (h : Here) → is_end (line_bytes cells) ≡ true → line_at cells h ≡ line_done cells h
unfolding line_at
line-empty cells h e = rw e refl

line-text : (cells : List Cell) (h : Here) → is_end (line_bytes cells) ≡ false →
    line_at cells h ≡
    is_continued [] cells (record (entering h) { scratch = marked (stop_of h.flags.leaf) h.scratch })
unfolding line_at
line-text cells h e = rw e refl

line_before_means : (B : Behaviour) (feed : Feed) (w : World) (x : Bool) →
    HasHtml B w.setting.bytes w.setting.options → Sees feed w → ends_line w.current ≡ x →
    Steps B feed (Next (n.HtmlFlow its.ContinuationBefore)) w (line_before_code w x).to (line_before_code w x).world
line_before_means B feed w true has s e =
    passes B feed _ _ w w refl refl
    (has.each its.ContinuationBefore _ _ ∙ line-empty (feed w.point) (here w) (end-here feed w true s e)
    ∙ sym (has.each its.ContinuationAfter _ _))
line_before_means B feed w false has s e =
    moves B feed _ _ w (line_before_code w false).world (enter HtmlFlowData w.point ∷ []) refl refl
    (has.each its.ContinuationBefore _ _ ∙ line-text (feed w.point) (here w) (end-here feed w false s e)
    ∙ sym (has.each its.Continuation _ _))

pub continuation_before_means : (B : Behaviour) (feed : Feed) (w : World) →
    HasHtml B w.setting.bytes w.setting.options → Sees feed w →
    Steps B feed (Next (n.HtmlFlow its.ContinuationBefore)) w (html_transition its.ContinuationBefore w).to
    (html_transition its.ContinuationBefore w).world
continuation_before_means B feed w has s = line_before_means B feed w _ has s refl

further-front : (cells : List Cell) (h : Here) → ends_in_front h.flags.leaf ≡ true →
    further_at cells h ≡ nonblank_at cells (entering (further_begun h))
unfolding further_at
further-front cells h e = rw e refl

further-line : (cells : List Cell) (h : Here) → ends_in_front h.flags.leaf ≡ false →
    further_at cells h ≡ line_at cells (further_begun h)
unfolding further_at
further-line cells h e = rw e refl

further_means : (B : Behaviour) (feed : Feed) (w : World) (x : Bool) → HasHtml B w.setting.bytes w.setting.options →
    ends_in_front w.flags.leaf ≡ x →
    Steps B feed (Next (n.HtmlFlow its.ContinuationStart)) w (further_code w x).to (further_code w x).world
further_means B feed w true has e =
    moves B feed _ _ w (further_code w true).world
    (enter_link HtmlFlow w.point further_link ∷ enter HtmlFlowData w.point ∷ []) refl (simp append_assoc)
    (has.each its.ContinuationStart _ _ ∙ further-front (feed w.point) (here w) e
    ∙ sym (has.each its.BlankLineBefore _ _))
further_means B feed w false has e =
    moves B feed _ _ w (further_code w false).world (enter_link HtmlFlow w.point further_link ∷ []) refl refl
    (has.each its.ContinuationStart _ _ ∙ further-line (feed w.point) (here w) e
    ∙ sym (has.each its.ContinuationBefore _ _))

pub continuation_start_means : (B : Behaviour) (feed : Feed) (w : World) →
    HasHtml B w.setting.bytes w.setting.options →
    Steps B feed (Next (n.HtmlFlow its.ContinuationStart)) w (html_transition its.ContinuationStart w).to
    (html_transition its.ContinuationStart w).world
continuation_start_means B feed w has = further_means B feed w _ has refl

pub continuation_start_non_lazy_means : (B : Behaviour) (feed : Feed) (w : World) →
    HasHtml B w.setting.bytes w.setting.options →
    Steps B feed (Next (n.HtmlFlow its.ContinuationStartNonLazy)) w (html_transition its.ContinuationStartNonLazy w).to
    (html_transition its.ContinuationStartNonLazy w).world
continuation_start_non_lazy_means B feed w has =
    passes B feed _ _ w w refl refl
    (has.each its.ContinuationStartNonLazy _ _ ∙ sym (has.each its.ContinuationBefore _ _))

blank-end : (cells : List Cell) (h : Here) → Ended cells → nonblank_at cells h ≡ refuses h
unfolding nonblank_at
blank-end cells h e = rw e.line refl

blank-white : (c : Cell) (cs : List Cell) (h : Here) → is_white c.byte ≡ true →
    nonblank_at (c ∷ cs) h ≡ nonblank_at cs (record h { point = c.after })
unfolding nonblank_at
blank-white c cs h e = rw (white-no_ending c.byte e, e) refl

blank-dark : (c : Cell) (cs : List Cell) (h : Here) → nat_eq c.byte 10 ≡ false → is_white c.byte ≡ false →
    nonblank_at (c ∷ cs) h ≡ closes h.flags.leaf (c ∷ cs) h
unfolding nonblank_at
blank-dark c cs h e f = rw (e, f) refl

blank_means : (B : Behaviour) (feed : Feed) (w : World) (x y : Bool) → HasHtml B w.setting.bytes w.setting.options →
    Sees feed w → ends_line w.current ≡ x → sees_white w.current ≡ y →
    Steps B feed (Next (n.HtmlFlow its.BlankLineBefore)) w (moved w (blank_move w.scratch x y)).to
    (moved w (blank_move w.scratch x y)).world
blank_means B feed w true y has s e f =
    passes B feed _ _ w (moved w (blank_move w.scratch true y)).world refl refl
    (has.each its.BlankLineBefore _ _ ∙ blank-end (feed w.point) (here w) (ends-seen feed w s e))
blank_means B feed w false true has s e f =
    let saw = sees-here feed w sees_white refl s f in
    passes B feed _ _ w (moved w (blank_move w.scratch false true)).world refl refl
    (has.each its.BlankLineBefore _ _ ∙ ap (λ (x : List Cell). nonblank_at x (here w)) saw.2
    ∙ blank-white (cell_here feed w saw.0) (feed (after w.setting w.point)) (here w) saw.3
    ∙ sym (has.each its.BlankLineBefore _ _))
blank_means B feed w false false has s e f =
    let saw = line-proceeds feed w s e in
    passes B feed _ _ w (moved w (blank_move w.scratch false false)).world refl refl
    (has.each its.BlankLineBefore _ _ ∙ ap (λ (x : List Cell). nonblank_at x (here w)) saw.2
    ∙ blank-dark (cell_here feed w saw.0) (feed (after w.setting w.point)) (here w) saw.3
    (sym (ap sees_white saw.1) ∙ f)
    ∙ ap (λ (x : List Cell). closes w.flags.leaf x (here w)) (sym saw.2) ∙ sym (has.each its.ContinuationClose _ _))

pub blank_line_before_means : (B : Behaviour) (feed : Feed) (w : World) →
    HasHtml B w.setting.bytes w.setting.options → Sees feed w →
    Steps B feed (Next (n.HtmlFlow its.BlankLineBefore)) w (html_transition its.BlankLineBefore w).to
    (html_transition its.BlankLineBefore w).world
blank_line_before_means B feed w has s = blank_means B feed w _ _ has s refl refl
