-- No definition begins where a look at the bytes of a label refuses it.
use Rattle.std.proofs.Common.{◌≡◌, ℕ, zero, suc, ◌+◌, ◌%◌, ◌^◌, ◌<◌, ◌≤◌, ◌⊎◌, inl, inr, Bool, true, false, cond}
use Rattle.std.proofs.Common.{◌&&◌, ◌||◌, List, [], ◌∷◌, length, Some, None, refl, ap, sym, ◌∙◌, arith}
use Rattle.std.specs.Prelude.{◌==◌, not, nat_lt, slice_index, slice_range}
use Rattle.std.proofs.lemmas.Bool.{cases_lt, eqb-true, or_parts}
use Rattle.md_engine.specs.declared.configuration.ParseOptions.{ParseOptions}
use Rattle.md_engine.specs.declared.event.Point.{Point}
use Rattle.md_engine.specs.Meaning.{Cell}
use Rattle.md_engine.specs.Place.{is_ending, next_point, seen_at}
use Rattle.md_engine.specs.Scheme.{cells_left}
use Rattle.md_engine.specs.TextFeed.{text_feed}
use Rattle.md_engine.specs.World.{Setting, after}
use Rattle.md_content.specs.ContentRule.{definition_in}
use Rattle.md_content.specs.Definitions.{may_define}
use Rattle.md_content.specs.LabelLook.{may_close, may_define_in, may_mark}
use Rattle.md_content.proofs.ContentRuleLemmas.{in-none}
use Rattle.md_content.proofs.LineReads.{after-plain, plain-falls}
use Rattle.md_link_definitions.specs.Chunks.{before_mark, from_mark}
use Rattle.md_link_definitions.specs.DefinitionRule.{definition_parts, parts_labelled, parts_with}
use Rattle.md_link_definitions.specs.GapRule.{gap_rest}
use Rattle.md_link_definitions.specs.Label.{is_bracket}
use Rattle.md_link_definitions.specs.LabelRule.{LabelParts, is_label_text, label_from, label_parts}
use Rattle.md_meaning.specs.Ascii.{backslash, colon, left_bracket, right_bracket}
use Rattle.md_meaning.specs.Definition.{destination_at as found_destination}
use Rattle.md_meaning.specs.Rest.{is_white}
use Rattle.md_events.specs.Ahead.{line_bytes, white_rest}
use Rattle.md_events.specs.Spaces.{any_size}
use Rattle.md_events.proofs.AheadLemmas.{none-rest}
use Rattle.md_events.proofs.FeedLines.{cell, feed-next}
use Rattle.md_events.proofs.PlainSteps.{range-next, range-none}

-- By cells.

-- whether a label ends here before a colon
abbrev closes : List Cell → Bool
closes [] = false
closes (c ∷ []) = false
closes (c ∷ d ∷ cs) = (c.byte == right_bracket) && (d.byte == colon)

closes-not : (c : Cell) (cs : List Cell) → (c.byte == right_bracket) ≡ false → closes (c ∷ cs) ≡ false
closes-not c [] e = refl
closes-not c (d ∷ cs) e = rw e refl

marks-not : (c d : Cell) (cs : List Cell) → (d.byte == colon) ≡ false → closes (c ∷ d ∷ cs) ≡ false
marks-not c d cs e = rw e (go (c.byte == right_bracket))
  where
    go : (t : Bool) → (t && false) ≡ false
    go true = refl
    go false = refl

-- then no definition begins
closes-none : (c : Cell) (cs : List Cell) → c.byte ≡ left_bracket → closes (from_mark is_bracket false cs) ≡ false →
    definition_parts (c ∷ cs) ≡ None
unfolding definition_parts label_parts
closes-none c cs e k =
    let text = before_mark is_bracket false cs in
    let dark : white_rest any_size (c ∷ cs) ≡ c ∷ cs = none-rest any_size (c ∷ cs) (ap is_white e) in
    let opens : (c.byte == left_bracket) ≡ true = ap (λ (b : ℕ). b == left_bracket) e in
    ap (λ (l : List Cell). parts_labelled (c ∷ cs) (label_parts l)) dark
    ∙ ap
    (λ (t : Bool). parts_labelled (c ∷ cs) (cond t (label_from c text (from_mark is_bracket false cs)) None)) opens
    ∙ from text (from_mark is_bracket false cs) k
  where
    from : (text ds : List Cell) → closes ds ≡ false → parts_labelled (c ∷ cs) (label_from c text ds) ≡ None
    from text [] k = refl
    from text (d ∷ []) k = go (is_label_text text c.after && (d.byte == right_bracket))
      where
        go : (t : Bool) →
            parts_labelled (c ∷ cs)
            (cond t (Some (record { opener = c; text = text; closer = d; rest = [] })) None) ≡ None
        go true = refl
        go false = refl
    from text (d ∷ f ∷ fs) k = go (is_label_text text c.after) (d.byte == right_bracket) k
      where
        label : LabelParts
        label = record { opener = c; text = text; closer = d; rest = f ∷ fs }

        go : (s t : Bool) → (t && (f.byte == colon)) ≡ false →
            parts_labelled (c ∷ cs) (cond (s && t) (Some label) None) ≡ None
        go true true k =
            ap
            (λ (z : Bool).
            cond z (parts_with (c ∷ cs) label f fs (found_destination (line_bytes (gap_rest fs)))) None)
            k
        go true false k = refl
        go false t k = refl

-- By bytes.

seen-same : (bytes : List ℕ) (p : Point) → is_ending (slice_index bytes p.index) ≡ false →
    (slice_index bytes p.index == 9) ≡ false → seen_at bytes p ≡ slice_index bytes p.index
seen-same bytes p e t = rw (e, t) refl

-- after a byte, or within a tab
next-index : (bytes : List ℕ) (p : Point) → is_ending (slice_index bytes p.index) ≡ false →
    ((next_point bytes p).index ≡ p.index) ⊎ ((next_point bytes p).index ≡ p.index + 1)
next-index bytes p e = rw e (go ((slice_index bytes p.index == 9) && not (p.column % 4 == 0)))
  where
    go : (t : Bool) →
        let q = cond t (record p { column = p.column + 1; vs = p.vs + 1 })
        (record p { column = p.column + 1; index = p.index + 1; vs = 0 }) in
        (q.index ≡ p.index) ⊎ (q.index ≡ p.index + 1)
    go true = inl refl
    go false = inr refl

next-plain : (bytes : List ℕ) (p : Point) → is_ending (slice_index bytes p.index) ≡ false →
    (slice_index bytes p.index == 9) ≡ false → (next_point bytes p).index ≡ p.index + 1
next-plain bytes p e t = rw (e, t) refl

-- a byte that is seen as it is, and the next byte after it
record Plain (x : Setting) (p : Point) (b : ℕ) : Type 0 where
  next : Point
  here : Cell
  feed : text_feed x p ≡ here ∷ text_feed x next
  byte : here.byte ≡ b
  index : next.index ≡ p.index + 1

plain-seen : (x : Setting) (p : Point) (b : ℕ) → slice_index x.bytes p.index ≡ b → is_ending b ≡ false →
    (b == 9) ≡ false → x.limit < 2 ^ 61 → p.index < x.limit → Plain x p b
plain-seen x p b is no_ending no_tab small lt =
    let e : is_ending (slice_index x.bytes p.index) ≡ false = ap is_ending is ∙ no_ending in
    let t : (slice_index x.bytes p.index == 9) ≡ false = ap (λ (n : ℕ). n == 9) is ∙ no_tab in
    let c = cell (seen_at x.bytes p) (after x p) x.line in
    record {
      next = next_point x.bytes p;
      here = c;
      feed = feed-next x p small lt ∙ ap (λ (q : Point). c ∷ text_feed x q) (after-plain x p e);
      byte = seen-same x.bytes p e t ∙ is;
      index = next-plain x.bytes p e t;
    }

-- what is seen of a byte that is no mark is none
other-seen : (b : ℕ) (cut : Bool) → (b == backslash) ≡ false → is_bracket b ≡ false →
    (is_bracket (cond ((b == 9) && cut) 32 b) ≡ false) × ((cond ((b == 9) && cut) 32 b == backslash) ≡ false)
other-seen b cut slash bracket = go ((b == 9) && cut)
  where
    go : (t : Bool) → (is_bracket (cond t 32 b) ≡ false) × ((cond t 32 b == backslash) ≡ false)
    go true = (refl, refl)
    go false = (bracket, slash)

-- over such a byte
from-other : (x : Setting) (p : Point) → x.limit < 2 ^ 61 → p.index < x.limit →
    is_ending (slice_index x.bytes p.index) ≡ false → (slice_index x.bytes p.index == backslash) ≡ false →
    is_bracket (slice_index x.bytes p.index) ≡ false →
    from_mark is_bracket false (text_feed x p) ≡ from_mark is_bracket false (text_feed x (next_point x.bytes p))
from-other x p small lt e slash bracket =
    let b = slice_index x.bytes p.index in
    let cut = nat_lt 0 p.vs in
    let seen : seen_at x.bytes p ≡ cond ((b == 9) && cut) 32 b = rw e refl in
    let other = other-seen b cut slash bracket in
    let mark : is_bracket (seen_at x.bytes p) ≡ false = ap is_bracket seen ∙ other.0 in
    let back : (seen_at x.bytes p == backslash) ≡ false = ap (λ (n : ℕ). n == backslash) seen ∙ other.1 in
    let rest = text_feed x (after x p) in
    let c = cell (seen_at x.bytes p) (after x p) x.line in
    ap (from_mark is_bracket false) (feed-next x p small lt)
    ∙ ap (λ (t : Bool). cond t (c ∷ rest) (from_mark is_bracket (seen_at x.bytes p == backslash) rest)) mark
    ∙ ap (λ (t : Bool). from_mark is_bracket t rest) back
    ∙ ap (λ (q : Point). from_mark is_bracket false (text_feed x q)) (after-plain x p e)

-- no colon is seen where none is
seen-no_colon : (b : ℕ) (ends cut : Bool) → (b == colon) ≡ false →
    (cond ends 10 (cond ((b == 9) && cut) 32 b) == colon) ≡ false
seen-no_colon b true cut k = refl
seen-no_colon b false cut k = last ((b == 9) && cut)
  where
    last : (t : Bool) → (cond t 32 b == colon) ≡ false
    last true = refl
    last false = k

-- a label that ends here ends before another byte
ends-here : (x : Setting) (end : ℕ) (p : Point) → x.limit < 2 ^ 61 → end ≤ x.limit → end ≤ length x.bytes →
    p.index < end → slice_index x.bytes p.index ≡ right_bracket →
    may_mark (slice_range x.bytes (p.index + 1) end) ≡ false → closes (text_feed x p) ≡ false
ends-here x end p small limit within lt is h =
    let s = plain-seen x p right_bracket is refl refl small (omega (arith, lt, limit)) in
    rw s.feed (go s.here s.next s.index (cases_lt s.next.index end))
  where
    go : (c : Cell) (q : Point) → q.index ≡ p.index + 1 → (q.index < end) ⊎ (end ≤ q.index) →
        closes (c ∷ text_feed x q) ≡ false
    go c q at (inr le) =
        let none = range-none x.bytes (p.index + 1) end (omega (arith, at, le)) in
        let no : true ≡ false = sym (ap may_mark none) ∙ h in cc
    go c q at (inl less) =
        let b = slice_index x.bytes q.index in
        let same : slice_range x.bytes (p.index + 1) end ≡ b ∷ slice_range x.bytes (q.index + 1) end =
        ap (λ (i : ℕ). slice_range x.bytes i end) (sym at)
        ∙ range-next x.bytes q.index end less (omega (arith, less, within)) in
        let other : (b == colon) ≡ false = sym (ap may_mark same) ∙ h in
        rw (feed-next x q small (omega (arith, less, limit)))
        (marks-not c (cell (seen_at x.bytes q) (after x q) x.line) (text_feed x (after x q))
        (seen-no_colon b (is_ending b) (nat_lt 0 q.vs) other))

-- no definition begins with another byte as a state sees it
seen-none : (b : ℕ) (ends cut : Bool) → may_define (Some b) ≡ false →
    may_define (Some (cond ends 10 (cond ((b == 9) && cut) 32 b))) ≡ false
seen-none b true cut h = refl
seen-none b false cut h =
    let other : (b == 9) ≡ false = (or_parts _ _ (or_parts _ _ h).0).1 in rw other h

-- after `[`, no label ends before a colon
scan : (x : Setting) (end : ℕ) (fuel : ℕ) (p : Point) → x.limit < 2 ^ 61 → end ≤ x.limit → end ≤ length x.bytes →
    cells_left x.limit p ≤ fuel → may_close (slice_range x.bytes p.index end) ≡ false →
    closes (from_mark is_bracket false (text_feed x p)) ≡ false
scan x end zero p small limit within enough h =
    let none = range-none x.bytes p.index end (omega (arith, limit, enough)) in
    let no : true ≡ false = sym (ap may_close none) ∙ h in cc
scan x end (suc fuel) p small limit within enough h = elim (cases_lt p.index end) [
  | inl lt ↦
      let b = slice_index x.bytes p.index in
      let rest = slice_range x.bytes (p.index + 1) end in
      let all = range-next x.bytes p.index end lt (omega (arith, lt, within)) in
      go lt (is_ending b || (b == backslash)) refl (b == left_bracket) refl (b == right_bracket) refl
      (sym (ap may_close all) ∙ h)
      (λ e same. scan x end fuel (next_point x.bytes p) small limit within
      (omega (arith, enough, plain-falls x p (omega (arith, lt, limit)) e)) same)
  | inr le ↦
      let none = range-none x.bytes p.index end le in
      let no : true ≡ false = sym (ap may_close none) ∙ h in cc
]
  where
    go : p.index < end → (s : Bool) →
        (is_ending (slice_index x.bytes p.index) || (slice_index x.bytes p.index == backslash)) ≡ s →
        (l : Bool) → (slice_index x.bytes p.index == left_bracket) ≡ l →
        (r : Bool) → (slice_index x.bytes p.index == right_bracket) ≡ r →
        may_close (slice_index x.bytes p.index ∷ slice_range x.bytes (p.index + 1) end) ≡ false →
        (is_ending (slice_index x.bytes p.index) ≡ false →
        may_close (slice_range x.bytes (next_point x.bytes p).index end) ≡ false →
        closes (from_mark is_bracket false (text_feed x (next_point x.bytes p))) ≡ false) →
        closes (from_mark is_bracket false (text_feed x p)) ≡ false
    go lt true s l e r f k more = let no : true ≡ false = rw s at k in cc
    go lt false s true e r f k more =
        let v = plain-seen x p left_bracket (eqb-true _ _ e) refl refl small (omega (arith, lt, limit)) in
        ap (λ (cs : List Cell). closes (from_mark is_bracket false cs)) v.feed
        ∙ opened v.here (text_feed x v.next) v.byte
      where
        opened : (c : Cell) (cs : List Cell) → c.byte ≡ left_bracket →
            closes (from_mark is_bracket false (c ∷ cs)) ≡ false
        opened c cs is =
            ap (λ (t : Bool). closes (cond t (c ∷ cs) (from_mark is_bracket (c.byte == backslash) cs)))
            (ap is_bracket is)
            ∙ closes-not c cs (ap (λ (n : ℕ). n == right_bracket) is)
    go lt false s false e true f k more =
        let is = eqb-true _ _ f in
        let v = plain-seen x p right_bracket is refl refl small (omega (arith, lt, limit)) in
        ap (λ (cs : List Cell). closes (from_mark is_bracket false cs)) v.feed
        ∙ ap
        (λ (t : Bool).
        closes
        (cond t (v.here ∷ text_feed x v.next) (from_mark is_bracket (v.here.byte == backslash) (text_feed x v.next))))
        (ap is_bracket v.byte)
        ∙ sym (ap closes v.feed)
        ∙ ends-here x end p small limit within lt is (rw (s, e, f) at k)
    go lt false s false e false f k more =
        let no_stop = or_parts _ _ s in
        from-then no_stop.0
        (from-other x p small (omega (arith, lt, limit)) no_stop.0 no_stop.1 (rw (e, f) refl))
        (more no_stop.0 (left (next-index x.bytes p no_stop.0)))
      where
        from-then : is_ending (slice_index x.bytes p.index) ≡ false →
            from_mark is_bracket false (text_feed x p) ≡
            from_mark is_bracket false (text_feed x (next_point x.bytes p)) →
            closes (from_mark is_bracket false (text_feed x (next_point x.bytes p))) ≡ false →
            closes (from_mark is_bracket false (text_feed x p)) ≡ false
        from-then _ same rest = ap closes same ∙ rest

        following : may_close (slice_range x.bytes (p.index + 1) end) ≡ false
        following = rw (s, e, f) at k

        left : ((next_point x.bytes p).index ≡ p.index) ⊎ ((next_point x.bytes p).index ≡ p.index + 1) →
            may_close (slice_range x.bytes (next_point x.bytes p).index end) ≡ false
        left (inl same) = ap (λ (i : ℕ). may_close (slice_range x.bytes i end)) same ∙ h
        left (inr one) = ap (λ (i : ℕ). may_close (slice_range x.bytes i end)) one ∙ following

-- No definition begins where the look refuses it.
pub look-none : (x : Setting) (options : ParseOptions) (end : ℕ) (p : Point) → x.limit < 2 ^ 61 → end ≤ x.limit →
    end ≤ length x.bytes → may_define_in (slice_range x.bytes p.index end) ≡ false →
    definition_in options (text_feed x p) ≡ None
look-none x options end p small limit within h = elim (cases_lt p.index end) [
  | inl lt ↦
      let b = slice_index x.bytes p.index in
      let all = range-next x.bytes p.index end lt (omega (arith, lt, within)) in
      go lt (is_white b) refl (b == left_bracket) refl (sym (ap may_define_in all) ∙ h)
  | inr le ↦
      let none = range-none x.bytes p.index end le in
      let no : true ≡ false = sym (ap may_define_in none) ∙ h in cc
]
  where
    go : p.index < end → (w : Bool) → is_white (slice_index x.bytes p.index) ≡ w →
        (l : Bool) → (slice_index x.bytes p.index == left_bracket) ≡ l →
        may_define_in (slice_index x.bytes p.index ∷ slice_range x.bytes (p.index + 1) end) ≡ false →
        definition_in options (text_feed x p) ≡ None
    go lt true w l e k = let no : true ≡ false = rw w at k in cc
    go lt false w true e k =
        let v = plain-seen x p left_bracket (eqb-true _ _ e) refl refl small (omega (arith, lt, limit)) in
        let following : may_close (slice_range x.bytes (p.index + 1) end) ≡ false = rw (w, e) at k in
        let rest : may_close (slice_range x.bytes v.next.index end) ≡ false =
        ap (λ (i : ℕ). may_close (slice_range x.bytes i end)) v.index ∙ following in
        ap (definition_in options) v.feed
        ∙ on (v.here ∷ text_feed x v.next) options.constructs.definition
        (closes-none v.here (text_feed x v.next) v.byte
        (scan x end (cells_left x.limit v.next) v.next small limit within (omega arith) rest))
      where
        on : (cells : List Cell) (t : Bool) → definition_parts cells ≡ None →
            cond t (definition_parts cells) None ≡ None
        on cells true none = none
        on cells false none = refl
    go lt false w false e k =
        in-none options (text_feed x p)
        (rw (feed-next x p small (omega (arith, lt, limit)))
        (seen-none (slice_index x.bytes p.index) (is_ending (slice_index x.bytes p.index)) (nat_lt 0 p.vs)
        (rw (w, e) refl)))
